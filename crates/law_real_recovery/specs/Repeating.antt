-- An exchange continues at the end of a schedule's run, although frames are lost, nodes are stopped, or answers are
-- stale: the events, and what the laws ask of the two nodes before them.
use Rattle.std.specs.Prelude.{ℕ, zero, suc, ◌≡◌, ◌<◌, ◌+◌, ◌-◌, true, false, List, [], ◌∷◌, ◌++◌, map, length, None}
use Rattle.zb_model.specs.Commands.{dropped_at}
use Rattle.zb_model.specs.Data.{Aps}
use Rattle.zb_model.specs.Play.{Schedule, Event, setting_of}
use Rattle.zb_model.specs.Readings.{state_of}
use Rattle.zb_model.specs.Schedules.{Names}
use Rattle.zb_model.specs.State.{greatest_counter, is_centre, next_counter}
use Rattle.zb_model.specs.Tools.{Tools}
use Rattle.law_recovery.specs.Meeting.{HasNetwork}
use Rattle.law_recovery.specs.Stages.{Keys, DeviceIs, CentreHas}
use Rattle.law_recovery.specs.Stops.{Happening, happening_event}
use Rattle.law_recovery.specs.Turns.{Far, Turn, after_turn, turn_events}
use Rattle.law_recovery.specs.Rejoining.{AreLinked, may_rejoin, why_no_room, why_not_sent, why_old}
use Rattle.law_recovery.specs.Fronts.{Front, IsReady, after_events, rejoin_events}
use Rattle.law_recovery.specs.KeyExchange.{KeysInRange, eui_of}

-- the events of turns of the exchange of link keys, each from the front that is reached then
abbrev pub turns_events : Tools → Schedule → ℕ → ℕ → Front → List Turn → List Event
turns_events tools w c d x [] = []
turns_events tools w c d x (turn ∷ turns) = turn_events x c d turn
    ++ turns_events tools w c d (after_turn tools w c d x turn) turns

-- the events of an exchange in which nodes are stopped
abbrev pub happening_events : ℕ → ℕ → List Happening → List Event
happening_events c d happenings = map (happening_event c d) happenings

-- the events of that many rounds of rejoining
abbrev pub round_events : Tools → Schedule → ℕ → ℕ → ℕ → Front → List Event
round_events tools w c d zero x = []
round_events tools w c d (suc n) x = rejoin_events x c d
    ++ round_events tools w c d n (after_events tools w x (rejoin_events x c d))

-- The centre c of a schedule and a member d of it have power, and nothing is armed on their disks. The member may
-- rejoin, and both have the same verified link key. None of the obstacles holds but the member's floor, which is `n`
-- counters above the centre's next one. That counter doesn't reach its end on the way.
pub record MayRejoinLater (w : Schedule) (x : Front) (c d n : ℕ) : Type 0 where
  pub centre_named : Names w c
  pub member_named : Names w d
  pub centre_role : is_centre (setting_of w c).me.role ≡ true
  pub member_role : is_centre (setting_of w d).me.role ≡ false
  pub centre_ready : IsReady x c
  pub member_ready : IsReady x d
  pub may : may_rejoin (state_of x.lines d) ≡ true
  pub linked : AreLinked (setting_of w c) (setting_of w d) (state_of x.lines c) (state_of x.lines d)
  pub not_stopped : why_not_sent (state_of x.lines c) d ≡ None
  pub not_refused : why_old (dropped_at 0 linked.net.key (state_of x.lines d).nets)
      (why_no_room (state_of x.lines d) linked.net.key) ≡ None
  pub stale : linked.own.kept - next_counter Aps (state_of x.lines c) ≡ n
  pub counters : next_counter Aps (state_of x.lines c) + n < greatest_counter

-- The centre c of a schedule and a device d of it have power, and nothing is armed on their disks. They are at this
-- stage of an exchange with these keys, which have 16 bytes.
pub record MayGoOn (w : Schedule) (x : Front) (c d : ℕ) (k : Keys) (far : Far) : Type 0 where
  pub centre_named : Names w c
  pub device_named : Names w d
  pub centre_role : is_centre (setting_of w c).me.role ≡ true
  pub device_role : is_centre (setting_of w d).me.role ≡ false
  pub centre_ready : IsReady x c
  pub device_ready : IsReady x d
  pub network : HasNetwork (state_of x.lines c) k.network k.sequence
  pub device : DeviceIs far (state_of x.lines d) (eui_of w c) k
  pub centre : CentreHas far (state_of x.lines c) (eui_of w d) k
  pub in_range : KeysInRange k.network k.sequence k.link
  pub drawn : length k.drawn ≡ 16
