use Rattle.std.proofs.Common.{◌∙◌, ap}
use Rattle.zb_model.specs.State.{NodeState, after_boot}
use Rattle.zb_node_types.specs.Changes.{model_layer}
use Rattle.zb_stored_tables.proofs.InMemory.{boot_of_heard, role_of_heard}
use Rattle.zb_stored_tables.proofs.Made.{fits_as_stored}
use Rattle.zb_stored_tables.proofs.stored.StoredTables.heard.Goals as goal

pub invariant_of-self : goal.invariant_of-self
invariant_of-self c =
    fits_as_stored c.self.inside.tables c.heard.new.self
    (ap after_boot c.heard.ensures ∙ boot_of_heard (model_layer c.args.layer) c.args.key.now.0 c.args.sender.0
    c.args.counter c.self.inside.tables) c.self.invariant

pub returns-clause-role : goal.returns-clause-role
returns-clause-role c =
    ap (λ (u : NodeState). u.role) c.heard.ensures ∙ role_of_heard (model_layer c.args.layer) c.args.key.now.0
    c.args.sender.0 c.args.counter c.self.inside.tables
    ∙ ap (λ (u : NodeState). u.role) c.self.view_is
