-- How a device is admitted again: the centre removes it, its code is entered, and it knocks. For each event: the
-- obstacles with the refusals that they give, in the order in which they are checked; and the state that the event
-- leaves.
use Rattle.std.specs.Prelude.{ℕ, ◌≡◌, false, not, ◌&&◌, Option, Some, None, is_none}
use Rattle.zb_model.specs.Data.{Bytes, Aps, Knocked, Reason, NoKey, NotMember, WrongState, RowsFull}
use Rattle.zb_model.specs.Rules.{links_full}
use Rattle.zb_model.specs.State.{LinkKey, NodeState, code_row, current, has_link, is_live, is_verified, next_counter, offered, other_user}
use Rattle.law_recovery.specs.Meeting.{HasBoth, HasLink, HasNetwork, HasOffer, HasProved, IsConfirmed, IsJoined, IsOffered}
use Rattle.law_recovery.specs.Obstacles.{or_else, obstacle_if, why_key_in_use}

-- ---- the obstacles

-- why a device isn't removed: it isn't live
unfoldable pub why_not_removed : NodeState → ℕ → Option Reason
why_not_removed s device = obstacle_if (not (is_live s device)) NotMember

-- Why a code has no row: no row has its key, and the rows are full; or another device has that key.
unfoldable pub why_no_row : NodeState → ℕ → Bytes → Option Reason
why_no_row s device key =
    or_else (obstacle_if (not (has_link device key s.links) && links_full s) RowsFull)
    (why_key_in_use (other_user s device key))

-- why a code isn't entered: its device is live, or it has no row
unfoldable pub why_not_entered : NodeState → ℕ → Bytes → Option Reason
why_not_entered s device key = or_else (obstacle_if (is_live s device) WrongState) (why_no_row s device key)

-- why a device doesn't knock: it has no install code's key
unfoldable pub why_no_knock : NodeState → ℕ → Option Reason
why_no_knock t centre = obstacle_if (is_none (code_row t centre)) NoKey

-- ---- what the events leave

-- an active network key stays active
abbrev pub KeepsNetwork : NodeState → NodeState → Type 0
KeepsNetwork s u = (key : Bytes) (sequence : ℕ) → HasNetwork s key sequence → HasNetwork u key sequence

-- The centre was in state s and removed a device: the device isn't live, and the rule for a code finds the same rows.
pub record IsRemoved (s u : NodeState) (device : ℕ) : Type 0 where
  pub gone : is_live u device ≡ false
  pub network : KeepsNetwork s u
  pub room : (key : Bytes) → why_no_row u device key ≡ why_no_row s device key

-- A code was entered: its key is the device's current one, and no other is offered.
pub record IsEntered (s u : NodeState) (device : ℕ) (key : Bytes) : Type 0 where
  pub keys : HasLink u device key
  pub network : KeepsNetwork s u
  pub counter : next_counter Aps u ≡ next_counter Aps s

-- A device knocked: the row of its code is its current row of the centre, provisional, with the floor that it had. No
-- other key is offered. Its network keys are as they were.
pub record HasKnocked (t u : NodeState) (centre : ℕ) (code : LinkKey) : Type 0 where
  pub knocked : u.state ≡ Knocked
  pub row : LinkKey
  pub is_current : current u centre ≡ Some row
  pub row_key : row.key ≡ code.key
  pub row_floor : row.kept ≡ code.kept
  pub provisional : is_verified row.attribute ≡ false
  pub none_offered : offered u centre ≡ None
  pub nets : u.nets ≡ t.nets

-- ---- after a refusal

-- A node is as far as before: it has the network key, the link keys and the offers that it had.
pub record IsSpared (s u : NodeState) : Type 0 where
  pub network : KeepsNetwork s u
  pub keys : (partner : ℕ) (link : Bytes) → HasLink s partner link → HasLink u partner link
  pub offer : (partner : ℕ) (key : Bytes) → HasOffer s partner key → HasOffer u partner key
  pub joined : (centre : ℕ) (key : Bytes) (sequence : ℕ) (link : Bytes) → IsJoined s centre key sequence link
      → IsJoined u centre key sequence link
  pub both : (partner : ℕ) (link key : Bytes) → HasBoth s partner link key → HasBoth u partner link key
  pub proved : (partner : ℕ) (key : Bytes) → HasProved s partner key → HasProved u partner key
  pub offered : (centre : ℕ) (key : Bytes) (sequence : ℕ) (link : Bytes) → IsOffered s centre key sequence link
      → IsOffered u centre key sequence link
  pub confirmed : (centre : ℕ) (key : Bytes) (sequence : ℕ) (link : Bytes) → IsConfirmed s centre key sequence link
      → IsConfirmed u centre key sequence link
