use Rattle.std.proofs.Common.{arith}
use Rattle.std.proofs.lemmas.Result.{err_from_is_err_and}
use Rattle.zb_keys.specs.Tables.{state_of}
use Rattle.zb_record.specs.Redoing.{changes_redone}
use Rattle.zb_record.proofs.Redone.{go_on, stop, all_made}
use Rattle.zb_keys.proofs.contents.Contents.redo_changes.Goals as goal

pub returns-in_err-redo_change-clause-redone : goal.returns-in_err-redo_change-clause-redone
returns-in_err-redo_change-clause-redone c =
    let p = err_from_is_err_and c.from_residual.result c.from_residual.ensures.1 in
    rw (p.1, p.2)
    (stop c.args.version c.args.count c.loop.counter c.loop.reader.rest.now c.loop.reader.rest.now
    (state_of c.loop.self) (state_of c.redo_change.new.self)
    (changes_redone c.args.version c.args.count c.args.reader.now.rest.now (state_of c.args.self.now))
    c.loop-test.true c.loop.invariant.0
    c.in_err-redo_change.field-0.0 c.in_err-redo_change.ensures.redone)

pub loop-preserved : goal.loop-preserved
loop-preserved c = (
  go_on c.args.version c.args.count c.loop.counter c.loop.reader.rest.now c.redo_change.new.reader.rest.now
      (state_of c.loop.self) (state_of c.redo_change.new.self)
      (changes_redone c.args.version c.args.count c.args.reader.now.rest.now (state_of c.args.self.now))
      c.loop-test.true c.loop.invariant.0
      c.in_ok-redo_change.ensures.redone,
  c.redo_change.ensures.sound,
  omega (arith, c.loop.invariant.2, c.in_ok-redo_change.ensures.shorter),
)

pub returns-clause-redone : goal.returns-clause-redone
returns-clause-redone c =
    all_made c.args.version c.args.count c.loop.counter c.loop.reader.rest.now (state_of c.loop.self)
    (changes_redone c.args.version c.args.count c.args.reader.now.rest.now (state_of c.args.self.now))
    c.loop-test.false c.loop.invariant.0
