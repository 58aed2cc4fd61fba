use Rattle.std.proofs.Common.{◌≡◌, ◌+◌, ◌∙◌, ap, subst, true}
use Rattle.zb_counter.specs.declared.sending.Outgoing.{Outgoing}
use Rattle.zb_node_types.specs.Changes.{model_layer}
use Rattle.zb_model.specs.State.{next_counter}
use Rattle.zb_model.specs.Fits.{keeps_rules}
use Rattle.zb_keys.specs.Places.{gone_on}
use Rattle.zb_keys.specs.Tables.{state_of}
use Rattle.zb_keys.proofs.PlaceLemmas.{counted}
use Rattle.zb_keys.proofs.tables.Tables.sealed.Goals as goal

pub returns : goal.returns
returns c =
    let layer = model_layer c.args.layer in
    c.go_on.ensures.state
    ∙ ap (λ (o : Outgoing). gone_on layer (o.next + 1) (state_of c.self.inside.contents)) c.outgoing-counter.ensures
    ∙ ap (gone_on layer (next_counter layer c.args.self.now + 1)) c.self.view_is
    ∙ counted layer c.args.self.now (subst (λ s. keeps_rules s ≡ true) c.self.view_is c.self.invariant.rules)
