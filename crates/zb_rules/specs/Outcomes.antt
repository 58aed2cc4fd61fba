-- What a rule of the program returns, as the model's outcome: a refusal, or an effect, which is the changes and what
-- is sent.
use Rattle.std.specs.Prelude.{◌≡◌, ◌≤◌, ℕ, List, length, Option, option_map, Result, Ok, Err}
use Rattle.zb_base.specs.declared.place.Place.{Place}
use Rattle.zb_node_types.specs.declared.refusal.Refusal.{Refusal}
use Rattle.zb_node_types.specs.Changes.{edits, reason, place_of}
use Rattle.zb_model.specs.Data.{Edit, Reason}
use Rattle.zb_model.specs.Rules.{Sending}
use Rattle.zb_rules.specs.declared.effect.Effect.{Effect}
use Rattle.zb_send.specs.Sendings.{sending_of, CanBeSent}
-- an outcome of the model: its reason, or its moves as changes and what it sends
pub use Rattle.zb_row_changes.specs.Planned.{told}

-- a result of the program in the same form
abbrev pub decided : Result Effect Refusal → Result (List Edit × Option Sending) Reason
decided (Err refusal) = Err (reason refusal)
decided (Ok effect) = Ok (edits effect.changes.items, option_map sending_of effect.sending)

-- No rule makes more than five changes.
abbrev pub most_changes : ℕ
most_changes = 5

-- what else each rule guarantees: a refusal has its place; the changes are few, and what is sent fits a frame
abbrev pub Keeps : Place → Result Effect Refusal → Type 0
Keeps at (Err refusal) = place_of refusal ≡ at
Keeps at (Ok effect) = (length effect.changes.items ≤ most_changes) × CanBeSent effect.sending
