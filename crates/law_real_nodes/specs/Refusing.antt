-- The reasons for which a rule refuses. If a rule looks for what is there in every run, it also names a refusal for
-- its absence. That refusal decides nothing: each reason is given only for what it is named for elsewhere in the
-- rule.
use Rattle.std.specs.Prelude.{ℕ, ◌≡◌, ◌⊎◌, true, false, not, ◌&&◌, ◌||◌, List, Option, Some, None, nat_eq, ⊤}
use Rattle.zb_model.specs.Data.{Bytes, Offered, NoKey, NotMember, WrongState, RowsFull, WrongHash, Policy, Place, AtNwk, Reason, Received}
use Rattle.zb_model.specs.Lines.{Line}
use Rattle.zb_model.specs.State.{NodeState, is_centre, active_row, usable_active, offered, is_live}
use Rattle.zb_model.specs.Tools.{Tools}
use Rattle.zb_model.specs.Rules.{Outcome, Stop, Does, Setting, centre_of, in_rejoining}
use Rattle.zb_model.specs.OwnEvents.{member_timer, next_member, centre_timer, switch_over, share}
use Rattle.zb_model.specs.Commands.{Heard, row_is, under_current, proves, verified_current}
use Rattle.zb_model.specs.Answer.{plan_of, refusal_of}
use Rattle.zb_model.specs.Readings.{state_of}
use Rattle.zb_model.specs.Play.{Schedule, setting_of}

abbrev pub RefusedFor : (Reason → Type 0) → Outcome → Type 0
RefusedFor why (Stop reason) = why reason
RefusedFor why (Does moves sending) = ⊤

-- the timer of a router or device in Offered: refuses as no-key only if it may use no active row
abbrev pub why_timer : NodeState → Reason → Type 0
why_timer s NoKey = s.state ≡ Offered → usable_active s ≡ None
why_timer s _ = ⊤

-- the timer of the centre: refuses as no-key only if there is no active row; as wrong-state only if no key is being
-- sent, or each member was sent it
abbrev pub why_rollover : NodeState → Reason → Type 0
why_rollover s NoKey = active_row s ≡ None
why_rollover s WrongState = (s.sending ≡ false) ⊎ (next_member s ≡ None)
why_rollover s _ = ⊤

abbrev pub why_switch : NodeState → Reason → Type 0
why_switch s NoKey = active_row s ≡ None
why_switch s _ = ⊤

-- only if one of the two isn't live
abbrev pub why_share : NodeState → ℕ → ℕ → Reason → Type 0
why_share s device partner NotMember = (is_live s device && is_live s partner) ≡ false
why_share s device partner _ = ⊤

-- only while it rejoins, or if another row than the offered one opened the command
abbrev pub why_confirm : Setting → NodeState → Heard → Reason → Type 0
why_confirm c s m WrongState = (in_rejoining s.state ≡ true)
    ⊎ (row_is m.row (offered s (centre_of c.stations)) ≡ false)
why_confirm c s m _ = ⊤

-- only if the request isn't one that the centre accepts
abbrev pub why_request : Setting → NodeState → Heard → Reason → Type 0
why_request c s m Policy = (is_centre c.me.role && under_current s m) ≡ false
why_request c s m _ = ⊤

abbrev pub why_app_request : Setting → NodeState → Heard → ℕ → Reason → Type 0
why_app_request c s m partner Policy =
    (is_centre c.me.role && (under_current s m && not (nat_eq partner m.sender || nat_eq partner c.me.eui))) ≡ false
why_app_request c s m partner _ = ⊤

-- only if the hash proves neither key
abbrev pub why_verify : Tools → NodeState → ℕ → Bytes → Reason → Type 0
why_verify tools s device hash WrongHash = (proves tools hash (offered s device) ≡ false)
    × (proves tools hash (verified_current s device) ≡ false)
why_verify tools s device hash _ = ⊤

-- rows-full isn't the answer to a frame at its NWK layer
abbrev pub IsNotFull : Place → Option Reason → Type 0
IsNotFull AtNwk (Some RowsFull) = ⊥
IsNotFull _ _ = ⊤

-- of a node, after the lines
pub record NoFillerDecides (tools : Tools) (w : Schedule) (h : List Line) (n : ℕ) : Type 0 where
  pub timer : is_centre (setting_of w n).me.role ≡ false
      → RefusedFor (why_timer (state_of h n)) (member_timer tools (setting_of w n) (state_of h n))
  pub rollover : is_centre (setting_of w n).me.role ≡ true
      → RefusedFor (why_rollover (state_of h n)) (centre_timer (setting_of w n) (state_of h n))
  pub switch : RefusedFor (why_switch (state_of h n)) (switch_over (state_of h n))
  pub shared : is_centre (setting_of w n).me.role ≡ true → (device partner : ℕ)
      → RefusedFor (why_share (state_of h n) device partner) (share (setting_of w n) (state_of h n) device partner)
  pub room : (bytes : Bytes) (draw : Option Bytes) → let p = plan_of tools (setting_of w n) (state_of h n)
      (Received bytes draw) in IsNotFull p.place (refusal_of p)
