-- How a rollover ends: the centre's timer runs once for each live device that wasn't sent the new network key, and
-- then its switch.
use Rattle.std.specs.Prelude.{ℕ, zero, suc, ◌≡◌, ◌<◌, ◌≤◌, ◌+◌, ◌⊎◌, true, false, not, if◌then◌else◌, List, [], ◌∷◌, map, filter, Some, None, option_map, nat_eq, is_some}
use Rattle.std.specs.List.{list_any}
use Rattle.zb_model.specs.Data.{Nwk, Aps, CounterSpent, DoTimer, DoSwitch}
use Rattle.zb_model.specs.OwnEvents.{is_waiting, next_member}
use Rattle.zb_model.specs.Rules.{Setting}
use Rattle.zb_model.specs.State.{greatest_counter, NetKey, LinkKey, NodeState, active_row, newest, current, is_live, next_counter}
use Rattle.zb_model.specs.Tools.{Tools}
use Rattle.law_recovery.specs.Answering.{after_task, IsTaken, IsRefused, frame_of}

-- the numbers of a list, each once
unfoldable pub each_once : List ℕ → List ℕ
each_once [] = []
each_once (n ∷ ns) = if list_any (nat_eq n) ns then each_once ns else n ∷ each_once ns

-- the live devices that weren't sent the new network key, each once
unfoldable pub untold : NodeState → List ℕ
untold s = each_once (map (λ (r : LinkKey). r.partner) (filter is_waiting s.links))

-- A rollover is under way, and the centre has what its rules look up: an active network key, a newest one, and for
-- each live device a current link key. Before each event of a run a centre that has an active key has the other two.
pub record IsRolling (s : NodeState) : Type 0 where
  pub sending : s.sending ≡ true
  pub active_key : is_some (active_row s) ≡ true
  pub newest_key : is_some (newest s) ≡ true
  pub link_keys : (device : ℕ) → is_live s device ≡ true → is_some (current s device) ≡ true

-- Counters are left for that many frames that are sealed at both layers, and then for one at NWK.
pub record HasCounters (s : NodeState) (frames : ℕ) : Type 0 where
  pub nwk : next_counter Nwk s + frames < greatest_counter
  pub aps : next_counter Aps s + frames ≤ greatest_counter

-- The timer tells the next device: a frame is sent, and all other untold devices still are to be told.
pub record TellsNext (tools : Tools) (c : Setting) (s : NodeState) : Type 0 where
  pub device : ℕ
  pub is_next : next_member s ≡ Some device
  pub taken : IsTaken tools c s DoTimer
  pub sent : is_some (frame_of tools c s DoTimer) ≡ true
  pub others : untold (after_task tools c s DoTimer) ≡ filter (λ n. not (nat_eq n device)) (untold s)

-- No device is left to be told, and the switch ends the rollover: a frame is sent, and the newest key is active.
pub record Switches (tools : Tools) (c : Setting) (s : NodeState) : Type 0 where
  pub all_told : next_member s ≡ None
  pub taken : IsTaken tools c s DoSwitch
  pub sent : is_some (frame_of tools c s DoSwitch) ≡ true
  pub over : (after_task tools c s DoSwitch).sending ≡ false
  pub switched : (after_task tools c s DoSwitch).active ≡ option_map (λ (r : NetKey). r.key) (newest s)

-- after that many timers, each of which tells a device, the switch ends the rollover
abbrev pub EndsAfter : Tools → Setting → ℕ → NodeState → Type 0
EndsAfter tools c zero s = Switches tools c s
EndsAfter tools c (suc timers) s = TellsNext tools c s × EndsAfter tools c timers (after_task tools c s DoTimer)

-- Too few counters are left for `frames` frames at both layers and one at NWK. No counter passes its end.
abbrev pub LacksCounters : NodeState → ℕ → Type 0
LacksCounters s frames = (greatest_counter ≤ next_counter Nwk s + frames)
    ⊎ ((next_counter Aps s ≤ greatest_counter) × (greatest_counter < next_counter Aps s + frames))

-- one of that many timers, or the switch after them, is refused as counter-spent, and the timers before it tell
-- devices
abbrev pub SpentWithin : Tools → Setting → ℕ → NodeState → Type 0
SpentWithin tools c zero s = IsRefused tools c s DoSwitch CounterSpent
SpentWithin tools c (suc timers) s =
    IsRefused tools c s DoTimer CounterSpent
    ⊎ (TellsNext tools c s × SpentWithin tools c timers (after_task tools c s DoTimer))
