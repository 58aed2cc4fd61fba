-- The front of a run: the lines and disks so far, and the number of the next event. More events can follow it.
use Rattle.std.specs.Prelude.{ℕ, ◌≡◌, ◌+◌, true, false, List, [], ◌∷◌, ◌++◌, length, fold, Some, None, nat_eq}
use Rattle.zb_model.specs.Data.{Aps, Bytes, DoRejoin, HasChild}
use Rattle.zb_model.specs.Fits.{keeps_rules}
use Rattle.zb_model.specs.Lines.{Line}
use Rattle.zb_model.specs.Play.{Schedule, Disk, Event, Own, Deliver, NotArmed, disk_of, setting_of, step}
use Rattle.zb_model.specs.Readings.{air, is_up, state_of}
use Rattle.zb_model.specs.State.{next_counter}
use Rattle.zb_model.specs.Tools.{Tools}
use Rattle.law_recovery.specs.KeyFrames.{KeyFrameInRange}
use Rattle.law_recovery.specs.Rejoining.{AreLinked, AreOfOneNetwork, HasRejoined, answer_frame, may_rejoin, why_not_sent, why_not_taken}

pub record Front : Type 0 where
  pub lines : List Line
  pub disks : List Disk
  pub number : ℕ

-- the front after one event, and after several
unfoldable pub after_event : Tools → Schedule → Front → Event → Front
after_event tools w x event = let g = step tools w x.lines x.disks x.number event in
    record { lines = x.lines ++ g.lines; disks = g.disks; number = x.number + 1 }

abbrev pub after_events : Tools → Schedule → Front → List Event → Front
after_events tools w x events = fold (after_event tools w) x events

-- a node has power, and nothing is armed on its disk
pub record IsReady (x : Front) (n : ℕ) : Type 0 where
  pub up : is_up x.lines n ≡ true
  pub unarmed : (disk_of x.disks n).armed ≡ NotArmed

-- The three events: the member asks, the centre answers its child, and the next frame on the air, which is the
-- centre's answer, is delivered to the member.
abbrev pub rejoin_events : Front → ℕ → ℕ → List Event
rejoin_events x c d = Own d DoRejoin ∷ Own c (HasChild d true) ∷ Deliver (length (air x.lines) + 1) d ∷ []

-- A centre c and a member d that may rejoin, at a front at which none of the obstacles holds.
pub record CanRejoin (w : Schedule) (x : Front) (c d : ℕ) : Type 0 where
  pub apart : nat_eq d c ≡ false
  pub mine : (setting_of w d).me.eui ≡ d
  pub network : AreOfOneNetwork (setting_of w c) (setting_of w d)
  pub centre_ready : IsReady x c
  pub member_ready : IsReady x d
  pub rules : keeps_rules (state_of x.lines d) ≡ true
  pub role : (state_of x.lines d).role ≡ (setting_of w d).me.role
  pub may : may_rejoin (state_of x.lines d) ≡ true
  pub linked : AreLinked (setting_of w c) (setting_of w d) (state_of x.lines c) (state_of x.lines d)
  pub in_range : KeyFrameInRange
      (answer_frame (setting_of w c) (setting_of w d) (state_of x.lines c) linked.net linked.row)
  pub not_stopped : why_not_sent (state_of x.lines c) d ≡ None
  pub not_refused : why_not_taken (state_of x.lines d) linked.own (next_counter Aps (state_of x.lines c))
      linked.net.key ≡ None

-- The member is confirmed with the centre's active network key, and both nodes are ready.
pub record EndsRejoined (x : Front) (c d : ℕ) : Type 0 where
  pub key : Bytes
  pub active_key : (state_of x.lines c).active ≡ Some key
  pub member : HasRejoined (state_of x.lines d) key
  pub centre_ready : IsReady x c
  pub member_ready : IsReady x d
