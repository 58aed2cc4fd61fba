-- A device is admitted again, as events that follow the front of a run.
use Rattle.std.specs.Prelude.{ℕ, ◌≡◌, Bool, false, if◌then◌else◌, List, [], ◌∷◌, ◌++◌, Some, None}
use Rattle.zb_model.specs.Data.{Bytes, Aps, DoKnock, DoProvision, DoRemove}
use Rattle.zb_model.specs.Play.{Schedule, Event, Own}
use Rattle.zb_model.specs.Readings.{state_of}
use Rattle.zb_model.specs.Rules.{spent}
use Rattle.zb_model.specs.State.{LinkKey, code_row, is_live, next_counter}
use Rattle.zb_model.specs.Tools.{Tools}
use Rattle.law_recovery.specs.Meeting.{HasNetwork}
use Rattle.law_recovery.specs.Rejoining.{why_not_taken}
use Rattle.law_recovery.specs.Fronts.{Front, after_events}
use Rattle.law_recovery.specs.KeyExchange.{AreMet, KeysInRange, eui_of, joining_events}
use Rattle.law_recovery.specs.Entering.{why_no_row}
use Rattle.law_recovery.specs.Knowing.{MeetsKey}

-- The centre removes the device if it is live; its code is entered; it knocks.
abbrev pub entry_events : Bool → ℕ → ℕ → Bytes → List Event
entry_events live c d key =
    (if live then Own c (DoRemove d c) ∷ [] else []) ++ (Own c (DoProvision d key) ∷ Own d DoKnock ∷ [])

abbrev pub entry_events_at : Front → ℕ → ℕ → Bytes → List Event
entry_events_at x c d key = entry_events (is_live (state_of x.lines c) d) c d key

-- the front at which this device has knocked
abbrev pub knocked_front : Tools → Schedule → Front → ℕ → ℕ → Bytes → Front
knocked_front tools w x c d key = after_events tools w x (entry_events_at x c d key)

-- all events, up to the confirmation of a link key of its own
abbrev pub readmission_events : Tools → Schedule → Front → ℕ → ℕ → Bytes → List Event
readmission_events tools w x c d key =
    entry_events_at x c d key ++ joining_events tools w (knocked_front tools w x c d key) c d

-- A centre c and a device d, both ready. The device has the key of its code, which is entered. The centre has a
-- network key that is new to the device, or that the device knows. None of the obstacles holds; all are stated for
-- this first front.
pub record CanReadmit (w : Schedule) (x : Front) (c d : ℕ) (network : Bytes) (sequence : ℕ) (key : Bytes) : Type 0
  where
    pub met : AreMet w x c d
    pub centre_named : eui_of w c ≡ c
    pub device_named : eui_of w d ≡ d
    pub in_range : KeysInRange network sequence key
    pub active : HasNetwork (state_of x.lines c) network sequence
    pub row_free : why_no_row (state_of x.lines c) d key ≡ None
    pub unspent : spent Aps (state_of x.lines c) ≡ false
    pub code : LinkKey
    pub has_code : code_row (state_of x.lines d) c ≡ Some code
    pub same_key : code.key ≡ key
    pub meets : MeetsKey (state_of x.lines d) network sequence
    pub not_refused : why_not_taken (state_of x.lines d) code (next_counter Aps (state_of x.lines c)) network ≡ None
