use Rattle.std.proofs.Common.{◌∙◌, ap, sym, subst}
use Rattle.zb_node_types.specs.Changes.{edits}
use Rattle.zb_model.specs.State.{NodeState, applied_all}
use Rattle.zb_stored_tables.proofs.Entries.{shown_role, all_applied_role}
use Rattle.zb_record.specs.Ranges.{FitsBytes}
use Rattle.zb_stored_tables.proofs.Made.{all_made_fits, shown_fits}
use Rattle.zb_stored_tables.proofs.stored.StoredTables.apply.Goals as goal

pub invariant_of-self : goal.invariant_of-self
invariant_of-self c =
    let s = c.self.inside.tables in
    let changes = c.args.changes.now.items in
    subst FitsBytes (sym c.apply.ensures)
    (shown_fits (applied_all (edits changes) s) (all_made_fits changes s c.requires.range c.self.invariant))

pub returns-clause-role : goal.returns-clause-role
returns-clause-role c =
    let s = c.self.inside.tables in
    let changes = c.args.changes.now.items in
    ap (λ (u : NodeState). u.role) c.apply.ensures ∙ shown_role (applied_all (edits changes) s) ∙ all_applied_role
    (edits changes) s ∙ ap (λ (u : NodeState). u.role) c.self.view_is
