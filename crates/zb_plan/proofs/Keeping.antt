-- What a rule keeps is what a plan asks of its effect.
use Rattle.std.proofs.Common.{ap, Result, Ok, Err}
use Rattle.zb_base.specs.declared.place.Place.{Place}
use Rattle.zb_node_types.specs.Changes.{model_place}
use Rattle.zb_node_types.specs.declared.refusal.Refusal.{Refusal}
use Rattle.zb_plan.specs.Deciding.{IsSmall, StandsAt}
use Rattle.zb_rules.specs.Outcomes.{Keeps}
use Rattle.zb_rules.specs.declared.effect.Effect.{Effect}

pub keeps_small : (at : Place) (effect : Result Effect Refusal) → Keeps at effect → IsSmall effect
keeps_small at (Ok effect) k = k
keeps_small at (Err refusal) k = tt

pub keeps_place : (at : Place) (effect : Result Effect Refusal) → Keeps at effect → StandsAt (model_place at) effect
keeps_place at (Ok effect) k = tt
keeps_place at (Err refusal) k = ap model_place k
