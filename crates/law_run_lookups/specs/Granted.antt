-- What the rules take for granted of a node. One of them looks up each of these things; no run has the refusal for a
-- missing one.
use Rattle.std.specs.Prelude.{ℕ, ◌≡◌, true, false, List, Some, None, is_some, ⊤}
use Rattle.zb_model.specs.Data.{Bytes, Offered, NoDraw, Policy, Task, DoRoll, Received}
use Rattle.zb_model.specs.Lines.{Line}
use Rattle.zb_model.specs.State.{NetKey, NodeState, is_centre, active_row, usable_of, newest, current, offered, is_live}
use Rattle.zb_model.specs.Tools.{Tools}
use Rattle.zb_model.specs.Rules.{Setting, Stop, centre_of, is_declared, unless_held}
use Rattle.zb_model.specs.OwnEvents.{own}
use Rattle.zb_model.specs.Judging.{senders_full}
use Rattle.zb_model.specs.Answer.{row_is_started, plan_of, refusal_of}
use Rattle.zb_model.specs.Readings.{state_of}
use Rattle.zb_model.specs.Play.{Schedule, Event, Own, RollOver, setting_of, supply}

-- of a node, after the lines
pub record Granted (w : Schedule) (h : List Line) (n : ℕ) : Type 0 where
  -- a router or device in Offered has an offered row of the centre: its timer finds the key that it is to prove
  pub offered_row : is_centre (setting_of w n).me.role ≡ false → (state_of h n).state ≡ Offered
      → is_some (offered (state_of h n) (centre_of (setting_of w n).stations)) ≡ true
  -- each live device of the centre has a current row: a rollover and a shared key find the key under which they are
  -- sent
  pub current_row : is_centre (setting_of w n).me.role ≡ true → (device : ℕ) → is_live (state_of h n) device ≡ true
      → is_some (current (state_of h n) device) ≡ true
  -- no row of the centre has a key that is still to be drawn: the next key of the supply is used as it is
  pub next_key : is_centre (setting_of w n).me.role ≡ true → unless_held (state_of h n) (supply w h) ≡ supply w h
  -- the active key has a row, and that row has started
  pub active_row_started : (key : Bytes) → (state_of h n).active ≡ Some key
      → row_is_started (active_row (state_of h n)) ≡ true

-- Under each network key that a node may use, there is room for a floor of a declared node in addition to those of
-- others: rows-full never occurs at NWK.
abbrev pub HasRoom : Schedule → List Line → ℕ → Type 0
HasRoom w h n =
    (sequence : ℕ) (row : NetKey) → usable_of (state_of h n) sequence ≡ Some row → (source counter : ℕ)
    → is_declared (setting_of w n) source ≡ true
    → senders_full source counter row ≡ false

-- The centre answers no-draw only if the supply is empty: to a rollover, and to a frame.
pub record DrawsAreThere (tools : Tools) (w : Schedule) (h : List Line) (n : ℕ) : Type 0 where
  pub rollovers : is_centre (setting_of w n).me.role ≡ true
      → refusal_of (plan_of tools (setting_of w n) (state_of h n) (DoRoll (supply w h))) ≡ Some NoDraw → supply w h
      ≡ None
  pub frames : is_centre (setting_of w n).me.role ≡ true → (bytes : Bytes)
      → refusal_of (plan_of tools (setting_of w n) (state_of h n) (Received bytes (supply w h))) ≡ Some NoDraw
      → supply w h ≡ None

-- An event of a node's own isn't refused as policy: that is the answer to an event that isn't for a node of its role.
abbrev pub NotPolicy : Tools → Schedule → List Line → ℕ → Task → Type 0
NotPolicy tools w h n task = own tools (setting_of w n) (state_of h n) task ≡ Stop Policy → ⊥

abbrev pub IsSuited : Tools → Schedule → List Line → Event → Type 0
IsSuited tools w h (Own n task) = NotPolicy tools w h n task
IsSuited tools w h (RollOver n) = NotPolicy tools w h n (DoRoll (supply w h))
IsSuited tools w h _ = ⊤

-- if the active key has a row, there is a newest live one
abbrev pub HasNewest : NodeState → Setting → ℕ → Type 0
HasNewest s c n = is_some (active_row s) ≡ true → is_some (newest s) ≡ true
