-- A device joins through a router at the end of a schedule's run: what the law asks of the three nodes before the
-- last ten events.
use Rattle.std.specs.Prelude.{ℕ, ◌≡◌, true, false, nat_eq}
use Rattle.zb_model.specs.Data.{Bytes}
use Rattle.zb_model.specs.Play.{Schedule, setting_of}
use Rattle.zb_model.specs.Readings.{state_of}
use Rattle.zb_model.specs.Rules.{is_router}
use Rattle.zb_model.specs.Schedules.{Names}
use Rattle.zb_model.specs.State.{is_centre}
use Rattle.law_recovery.specs.Meeting.{HasLink, HasNetwork}
use Rattle.law_recovery.specs.Knowing.{MeetsKey}
use Rattle.law_recovery.specs.Joining.{AreIntroduced}
use Rattle.law_recovery.specs.Fronts.{Front, IsReady}
use Rattle.law_recovery.specs.KeyExchange.{eui_of}
use Rattle.law_recovery.specs.Relaying.{IsRouting}

-- The centre c of a schedule, a router r of it that is a member, and a device d of it that knocked have power, and
-- nothing is armed on their disks. The centre and the device have the link key of the device's code, and no key is
-- offered. The centre's network key is new to the device, or the device knows the key.
pub record MayRoute (w : Schedule) (x : Front) (c r d : ℕ) (router_link : Bytes) : Type 0 where
  pub centre_named : Names w c
  pub router_named : Names w r
  pub device_named : Names w d
  pub centre_role : is_centre (setting_of w c).me.role ≡ true
  pub router_role : is_router (setting_of w r).me.role ≡ true
  pub device_role : is_centre (setting_of w d).me.role ≡ false
  pub apart : nat_eq r d ≡ false
  pub centre_ready : IsReady x c
  pub router_ready : IsReady x r
  pub device_ready : IsReady x d
  pub introduced : AreIntroduced (setting_of w c) (setting_of w d) (state_of x.lines c) (state_of x.lines d)
  pub keys : HasLink (state_of x.lines c) (eui_of w d) introduced.row.key
  pub network : HasNetwork (state_of x.lines c) introduced.net.key introduced.net.sequence
  pub router : IsRouting (state_of x.lines r) (eui_of w c) introduced.net.key introduced.net.sequence router_link
  pub router_keys : HasLink (state_of x.lines c) (eui_of w r) router_link
  pub meets : MeetsKey (state_of x.lines d) introduced.net.key introduced.net.sequence
