use Rattle.std.proofs.lemmas.Result.{err_from_is_err_and}
use Rattle.serde_json.specs.View.{view}
use Rattle.zb_backup.specs.Steps.{told_state}
use Rattle.zb_backup.proofs.Making.{others, the_tables, unmade, untold}
use Rattle.zb_backup.proofs.read.tables_in.Goals as goal

pub returns-in_err-parts : goal.returns-in_err-parts
returns-in_err-parts c =
    let p = err_from_is_err_and c.from_residual.result c.from_residual.ensures.1 in
    rw (p.1, p.2) (untold c.in_err-parts.field-0.0 (view c.args.value.now) c.in_err-parts.ensures)

pub returns-in_err-tables : goal.returns-in_err-tables
returns-in_err-tables c =
    let p = err_from_is_err_and c.from_residual-in_err-tables.result c.from_residual-in_err-tables.ensures.1 in
    rw (p.1, p.2)
    (unmade c.in_err-tables.field-0.0 (view c.args.value.now) (told_state c.in_ok-parts.parts)
    c.in_ok-parts.ensures c.in_err-tables.ensures)

pub returns-then-is : goal.returns-then-is
returns-then-is c =
    the_tables (view c.args.value.now) c.in_ok-tables.tables c.boot.new.self c.boot.ensures
    (c.in_ok-is.ensures.same c.if-is.true) (c.in_ok-is.ensures.centre c.if-is.true) c.keep_rules.ensures.rules
    c.keep_rules.ensures.forgets
    (c.in_ok-is.ensures.fits c.if-is.true)

pub returns : goal.returns
returns c =
    others (view c.args.value.now) (told_state c.in_ok-parts.parts) c.in_ok-tables.tables c.boot.new.self
    c.in_ok-parts.ensures c.in_ok-tables.ensures c.boot.ensures (c.in_ok-is.ensures.other c.if-is.false)
