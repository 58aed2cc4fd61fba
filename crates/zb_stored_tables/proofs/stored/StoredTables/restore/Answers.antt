use Rattle.std.proofs.Common.{sym, subst}
use Rattle.std.proofs.lemmas.Result.{err_from_is_err_and}
use Rattle.std.specs.Prelude.{IfErr}
use Rattle.zb_node_types.specs.Changes.{model_role}
use Rattle.zb_host.specs.Plans.{IsRestoreFault}
use Rattle.zb_stored_tables.specs.Stored.{restored}
use Rattle.zb_stored_tables.proofs.Restoring.{core_given, core_fault}
use Rattle.zb_stored_tables.proofs.stored.StoredTables.restore.Goals as goal

pub returns-in_err-tables-clause-no_core : goal.returns-in_err-tables-clause-no_core
returns-in_err-tables-clause-no_core c =
    let role = model_role c.args.role in
    let given = restored role c.args.content.now c.args.entries.now in
    let p = err_from_is_err_and c.from_residual.result c.from_residual.ensures.1 in
    let bad = core_fault role c.args.content.now c.args.entries.now c.in_err-tables.field-0.0
    c.in_err-tables.ensures.fault in
    subst (λ r. IfErr r (IsRestoreFault given)) (sym p.1) (subst (IsRestoreFault given) (sym p.2) bad)

pub returns-clause-core : goal.returns-clause-core
returns-clause-core c = core_given (model_role c.args.role) c.args.content.now c.args.entries.now
    c.in_ok-tables.tables c.in_ok-tables.ensures.given c.in_ok-tables.ensures.widths
