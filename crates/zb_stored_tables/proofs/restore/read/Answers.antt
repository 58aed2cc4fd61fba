use Rattle.std.proofs.Common.{sym, ◌∙◌, subst}
use Rattle.std.proofs.lemmas.Result.{err_from_is_err_and}
use Rattle.std.specs.Prelude.{IfErr}
use Rattle.zb_base.specs.declared.fault.OrMemory.TheVariants.{Fault}
use Rattle.zb_node_types.specs.Changes.{model_role}
use Rattle.zb_stored_tables.specs.Stored.{state_given, IsGivenFault}
use Rattle.zb_stored_tables.proofs.Restoring.{bad_record, other_role, by_entries, read_fits_widths, read_has_role}
use Rattle.zb_stored_tables.proofs.restore.read.Goals as goal

pub returns-in_err-tables-clause-fault : goal.returns-in_err-tables-clause-fault
returns-in_err-tables-clause-fault c =
    let role = model_role c.args.role in
    let given = state_given role c.args.content.now c.args.entries.now in
    let p = err_from_is_err_and c.from_residual.result c.from_residual.ensures.1 in
    let bad = bad_record role c.args.content.now c.args.entries.now c.in_err-tables.field-0.0
    (sym c.is_of_other.ensures ∙ c.if-is_of_other.false) c.in_err-tables.ensures.fault in
    subst (λ r. IfErr r (IsGivenFault given)) (sym p.1) (subst (IsGivenFault given) (sym p.2) bad)

pub returns-then-is_of_other-clause-fault : goal.returns-then-is_of_other-clause-fault
returns-then-is_of_other-clause-fault c = other_role (model_role c.args.role) c.args.content.now c.args.entries.now
    (sym c.is_of_other.ensures ∙ c.if-is_of_other.true)

pub returns-in-Ok-clause-given : goal.returns-in-Ok-clause-given
returns-in-Ok-clause-given c =
    by_entries (model_role c.args.role) c.args.content.now c.args.entries.now c.in_ok-tables.tables
    c.in_ok-tables.ensures.found c.version.result c.version.ensures
    (sym c.is_of_other.ensures ∙ c.if-is_of_other.false) ∙ c.in-Ok.ensures.made

pub returns-in-Ok-clause-widths : goal.returns-in-Ok-clause-widths
returns-in-Ok-clause-widths c =
    read_fits_widths (model_role c.args.role) c.args.content.now c.args.entries.now c.redo.new.tables
    (λ i. (c.type_inv.content i).fits) (λ i. (c.type_inv.entries i).fits)
    (by_entries (model_role c.args.role) c.args.content.now c.args.entries.now c.in_ok-tables.tables
    c.in_ok-tables.ensures.found c.version.result c.version.ensures
    (sym c.is_of_other.ensures ∙ c.if-is_of_other.false) ∙ c.in-Ok.ensures.made)

pub returns-in-Err-clause-fault : goal.returns-in-Err-clause-fault
returns-in-Err-clause-fault c =
    subst (λ g. IsGivenFault g (Fault c.in-Err.fault))
    (sym (by_entries (model_role c.args.role) c.args.content.now c.args.entries.now c.in_ok-tables.tables
    c.in_ok-tables.ensures.found c.version.result c.version.ensures
    (sym c.is_of_other.ensures ∙ c.if-is_of_other.false)))
    c.in-Err.ensures.fault

pub returns-in-Ok-clause-role : goal.returns-in-Ok-clause-role
returns-in-Ok-clause-role c =
    read_has_role (model_role c.args.role) c.args.content.now c.args.entries.now c.redo.new.tables
    (λ i. (c.type_inv.content i).fits) (λ i. (c.type_inv.entries i).fits)
    (by_entries (model_role c.args.role) c.args.content.now c.args.entries.now c.in_ok-tables.tables
    c.in_ok-tables.ensures.found c.version.result c.version.ensures
    (sym c.is_of_other.ensures ∙ c.if-is_of_other.false) ∙ c.in-Ok.ensures.made)
