use Rattle.std.proofs.lemmas.Result.{err_from_is_err_and}
use Rattle.zb_keys.specs.Tables.{state_of}
use Rattle.zb_record.specs.Redoing.{redone}
use Rattle.zb_record.proofs.Redone.{at_first, at_last, next_payload, bad_payload}
use Rattle.zb_keys.proofs.contents.Contents.redo.Goals as goal

pub loop-count-init : goal.loop-count-init
loop-count-init c = (at_first c.args.version c.args.reader.now.rest.now (state_of c.args.self.now), c.requires)

pub loop-count-preserved : goal.loop-count-preserved
loop-count-preserved c = (
  next_payload c.args.version c.loop-count.reader.rest.now c.next_count.new.reader.rest.now
      c.redo_changes.new.reader.rest.now c.in-Some.count (state_of c.loop-count.self)
      (state_of c.redo_changes.new.self) (redone c.args.version c.args.reader.now.rest.now (state_of c.args.self.now))
      c.in-Some.ensures.some c.loop-count.invariant.0 c.in_ok-redo_changes.ensures.redone
      c.in_ok-redo_changes.ensures.shorter,
  c.redo_changes.ensures.sound,
)

pub returns-in_err-redo_changes-clause-redone : goal.returns-in_err-redo_changes-clause-redone
returns-in_err-redo_changes-clause-redone c =
    let p = err_from_is_err_and c.from_residual.result c.from_residual.ensures.1 in
    rw (p.1, p.2)
    (bad_payload c.args.version c.loop-count.reader.rest.now c.next_count.new.reader.rest.now
    c.next_count.new.reader.rest.now c.in-Some.count (state_of c.loop-count.self)
    (state_of c.redo_changes.new.self)
    (redone c.args.version c.args.reader.now.rest.now (state_of c.args.self.now))
    c.in-Some.ensures.some c.loop-count.invariant.0 c.in_err-redo_changes.field-0.0
    c.in_err-redo_changes.ensures.redone)

pub returns-clause-redone : goal.returns-clause-redone
returns-clause-redone c = at_last c.args.version c.loop-count.reader.rest.now (state_of c.loop-count.self)
    (redone c.args.version c.args.reader.now.rest.now (state_of c.args.self.now)) c.in_default.ensures.none
    c.loop-count.invariant.0
