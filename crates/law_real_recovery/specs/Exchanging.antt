-- A device gets a link key of its own at the end of a schedule's run. This is what the law asks of the two nodes
-- before the last events: six if the device has joined, and eight if it knocked.
use Rattle.std.specs.Prelude.{ℕ, ◌≡◌, true, false, None}
use Rattle.zb_model.specs.Data.{Aps, Bytes}
use Rattle.zb_model.specs.Play.{Schedule, setting_of}
use Rattle.zb_model.specs.Readings.{state_of}
use Rattle.zb_model.specs.Schedules.{Names}
use Rattle.zb_model.specs.State.{has_net, is_centre, next_counter, offered}
use Rattle.law_recovery.specs.Meeting.{HasNetwork}
use Rattle.law_recovery.specs.Joining.{AreIntroduced}
use Rattle.law_recovery.specs.Rejoining.{why_not_sent, why_not_taken}
use Rattle.law_recovery.specs.Fronts.{Front, IsReady}
use Rattle.law_recovery.specs.KeyExchange.{HaveJoined}

-- The centre c of a schedule and a device d of it have power, and nothing is armed on their disks. The device has
-- joined with the centre's network key and a link key that both have.
pub record MayExchange (w : Schedule) (x : Front) (c d : ℕ) (key : Bytes) (sequence : ℕ) (link : Bytes) : Type 0 where
  pub centre_named : Names w c
  pub device_named : Names w d
  pub centre_role : is_centre (setting_of w c).me.role ≡ true
  pub device_role : is_centre (setting_of w d).me.role ≡ false
  pub centre_ready : IsReady x c
  pub device_ready : IsReady x d
  pub joined : HaveJoined w x c d key sequence link

-- The centre c of a schedule and a device d of it, which knocked, have power, and nothing is armed on their disks.
-- Both have the link key of the device's code, and no key is offered. The centre's network key is new to the device,
-- and nothing prevents the device from joining.
pub record MayJoin (w : Schedule) (x : Front) (c d : ℕ) : Type 0 where
  pub centre_named : Names w c
  pub device_named : Names w d
  pub centre_role : is_centre (setting_of w c).me.role ≡ true
  pub device_role : is_centre (setting_of w d).me.role ≡ false
  pub centre_ready : IsReady x c
  pub device_ready : IsReady x d
  pub introduced : AreIntroduced (setting_of w c) (setting_of w d) (state_of x.lines c) (state_of x.lines d)
  pub network : HasNetwork (state_of x.lines c) introduced.net.key introduced.net.sequence
  pub none_offered : offered (state_of x.lines c) (setting_of w d).me.eui ≡ None
  pub key_is_new : has_net introduced.net.key (state_of x.lines d).nets ≡ false
  pub not_stopped : why_not_sent (state_of x.lines c) d ≡ None
  pub not_refused : why_not_taken (state_of x.lines d) introduced.own (next_counter Aps (state_of x.lines c))
      introduced.net.key ≡ None
