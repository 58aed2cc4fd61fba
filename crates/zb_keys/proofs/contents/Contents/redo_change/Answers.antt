use Rattle.std.proofs.Common.{◌∙◌, sym, ap, Ok}
use Rattle.std.proofs.lemmas.Result.{err_from_is_err_and}
use Rattle.zb_keys.specs.Tables.{state_of}
use Rattle.zb_record.proofs.Redone.{one_failed, one_unfit, one_made}
use Rattle.zb_keys.proofs.contents.Contents.redo_change.Goals as goal

pub returns-in_err-change-clause-redone : goal.returns-in_err-change-clause-redone
returns-in_err-change-clause-redone c =
    let p = err_from_is_err_and c.from_residual.result c.from_residual.ensures.1 in
    rw (p.1, p.2)
    (one_failed c.args.version c.args.reader.now.rest.now (state_of c.args.self.now) c.in_err-change.field-0.0
    c.in_err-change.ensures.exact)

pub returns-then-not-fits_behind-clause-redone : goal.returns-then-not-fits_behind-clause-redone
returns-then-not-fits_behind-clause-redone c =
    one_unfit c.args.version c.args.reader.now.rest.now c.read_change.new.reader.rest.now (state_of c.args.self.now)
    c.in_ok-change.change c.in_ok-change.ensures.exact (sym c.fits_behind.ensures ∙ c.if-not-fits_behind.true)

pub returns-clause-redone : goal.returns-clause-redone
returns-clause-redone c =
    one_made c.args.version c.args.reader.now.rest.now c.read_change.new.reader.rest.now (state_of c.args.self.now)
    c.in_ok-change.change c.in_ok-change.ensures.exact (sym c.fits_behind.ensures ∙ c.if-not-fits_behind.false)
    ∙ ap (λ t. (t, Ok c.read_change.new.reader.rest.now)) (sym c.change_behind.ensures.state)
