use Rattle.std.proofs.Common.{◌∙◌, ap, sym, subst}
use Rattle.zb_keys.specs.Reading.{IsNext}
use Rattle.zb_model.specs.State.{NodeState, after_boot, after_sealing}
use Rattle.zb_node_types.specs.Changes.{model_layer}
use Rattle.zb_stored_tables.proofs.InMemory.{boot_of_sealed, role_of_sealed}
use Rattle.zb_stored_tables.proofs.Made.{fits_as_stored}
use Rattle.zb_stored_tables.proofs.stored.StoredTables.sealed_under.Goals as goal

pub invariant_of-self : goal.invariant_of-self
invariant_of-self c =
    let t = c.requires.0 in
    let next = subst (λ (s : NodeState). IsNext (model_layer c.args.layer) c.args.key.now.0 s t) (sym c.self.view_is)
    c.requires.1 in
    fits_as_stored c.self.inside.tables c.sealed_under.new.self
    (ap after_boot (c.sealed_under.ensures t next) ∙ boot_of_sealed t c.self.inside.tables) c.self.invariant

pub returns-clause-role : goal.returns-clause-role
returns-clause-role c =
    let t = c.requires.0 in
    let next = subst (λ (s : NodeState). IsNext (model_layer c.args.layer) c.args.key.now.0 s t) (sym c.self.view_is)
    c.requires.1 in
    ap (λ (u : NodeState). u.role) (c.sealed_under.ensures t next) ∙ role_of_sealed t c.self.inside.tables ∙ ap
    (λ (u : NodeState). u.role) c.self.view_is

pub returns-clause-counted : goal.returns-clause-counted
returns-clause-counted c t next =
    c.sealed_under.ensures t
    (subst (λ (s : NodeState). IsNext (model_layer c.args.layer) c.args.key.now.0 s t) (sym c.self.view_is) next)
    ∙ ap (after_sealing t) c.self.view_is
