-- What was decided of an event: the terms that were accepted, and a refusal or an effect.
use Rattle.std.specs.Prelude.{◌≡◌, ◌≤◌, [], length, Option, Some, None, Result, Ok, Err, ⊤}
use Rattle.zb_base.specs.declared.label.Layer.TheVariants.{Aps, Nwk}
use Rattle.zb_host.specs.declared.outcome.Outcome.{Outcome}
use Rattle.zb_host.specs.declared.plan.Plan.{Plan as Program}
use Rattle.zb_model.specs.Data as model
use Rattle.zb_model.specs.Rules.{Plan}
use Rattle.zb_node_types.specs.Changes.{model_place, place_of}
use Rattle.zb_node_types.specs.declared.refusal.Refusal.{Refusal}
use Rattle.zb_plan.specs.Answers.{terms}
use Rattle.zb_rules.specs.Outcomes.{decided, most_changes, told}
use Rattle.zb_rules.specs.declared.effect.Effect.{Effect}
use Rattle.zb_seal.specs.declared.term.Term.{Term}
use Rattle.zb_rules.specs.Sendings.{CanBeSent}
use Rattle.zb_send.specs.declared.sending.Sending.{Sending}

-- what was decided of an event: what was accepted of a frame at each layer, and what a rule then decided
pub record Decision : Type 0 where
  pub nwk : Option Term
  pub aps : Option Term
  pub effect : Result Effect Refusal

-- where the accepted terms stand in a plan
abbrev pub decision_in : Program (Outcome Term Refusal) → Result Effect Refusal → Decision
decision_in p effect = record { nwk = p.out.accepted_nwk; aps = p.out.accepted_aps; effect = effect }

-- an effect that changes nothing
abbrev pub only_sends : Option Sending → Effect
only_sends sending = record { changes = record { items = [] }; sending = sending }

-- an effect has few changes, and what it sends fits a frame
abbrev pub IsSmall : Result Effect Refusal → Type 0
IsSmall (Ok effect) = (length effect.changes.items ≤ most_changes) × CanBeSent effect.sending
IsSmall (Err refusal) = ⊤

-- a refusal stands at this place
abbrev pub StandsAt : model.Place → Result Effect Refusal → Type 0
StandsAt place (Ok effect) = ⊤
StandsAt place (Err refusal) = model_place (place_of refusal) ≡ place

-- the accepted terms are of the layers that they represent
abbrev pub IsNwk : Option Term → Type 0
IsNwk None = ⊤
IsNwk (Some t) = t.layer ≡ Nwk

abbrev pub IsAps : Option Term → Type 0
IsAps None = ⊤
IsAps (Some t) = t.layer ≡ Aps

-- a plan can be made of it
pub record CanBePlanned (d : Decision) : Type 0 where
  pub small : IsSmall d.effect
  pub nwk : IsNwk d.nwk
  pub aps : IsAps d.aps

-- it is what the policy's plan says
pub record IsDecision (d : Decision) (p : Plan) : Type 0 where
  pub accepts : terms d.nwk d.aps ≡ p.accepts
  pub outcome : decided d.effect ≡ told p.outcome
  pub place : StandsAt p.place d.effect
