-- A member rejoins at the end of a schedule's run: what the law asks of the two nodes before the last three events.
use Rattle.std.specs.Prelude.{ℕ, ◌≡◌, true, false, [], None}
use Rattle.zb_model.specs.Data.{Aps}
use Rattle.zb_model.specs.Play.{Schedule, setting_of, start}
use Rattle.zb_model.specs.Readings.{state_of}
use Rattle.zb_model.specs.Schedules.{Names}
use Rattle.zb_model.specs.State.{is_centre, next_counter}
use Rattle.law_recovery.specs.Rejoining.{AreLinked, may_rejoin, why_not_sent, why_not_taken}
use Rattle.law_recovery.specs.Fronts.{Front, IsReady}

-- the front of a run after its start lines
abbrev pub first_front : Schedule → Front
first_front w = record { lines = start w; disks = []; number = 1 }

-- The centre c of a schedule and a member d of it have power, and nothing is armed on their disks. The member may
-- rejoin, both have the same verified link key, and none of the obstacles holds.
pub record MayRejoin (w : Schedule) (x : Front) (c d : ℕ) : Type 0 where
  pub centre_named : Names w c
  pub member_named : Names w d
  pub centre_role : is_centre (setting_of w c).me.role ≡ true
  pub member_role : is_centre (setting_of w d).me.role ≡ false
  pub centre_ready : IsReady x c
  pub member_ready : IsReady x d
  pub may : may_rejoin (state_of x.lines d) ≡ true
  pub linked : AreLinked (setting_of w c) (setting_of w d) (state_of x.lines c) (state_of x.lines d)
  pub not_stopped : why_not_sent (state_of x.lines c) d ≡ None
  pub not_refused : why_not_taken (state_of x.lines d) linked.own (next_counter Aps (state_of x.lines c))
      linked.net.key ≡ None
