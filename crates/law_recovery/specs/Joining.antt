-- How a device joins: it knocks, the centre answers its child, and the frame that the centre sends is delivered. Then
-- it has the network key, under the link key of its install code; the exchange of link keys comes later.
use Rattle.std.specs.Prelude.{◌≡◌, true, false, Option, Some, None}
use Rattle.zb_model.specs.Data.{Bytes, Knocked, Joined, HasChild, Received}
use Rattle.zb_model.specs.Fits.{live_net}
use Rattle.zb_model.specs.Rules.{Setting}
use Rattle.zb_model.specs.State.{NetKey, LinkKey, NodeState, is_verified, active_row, current, offered}
use Rattle.zb_model.specs.Tools.{Tools}
use Rattle.law_recovery.specs.Answering.{after_task, IsTaken, frame_of}

-- The centre has an active network key and a current link key of the device. The device has knocked: it has the same
-- link key of the centre, which isn't verified, and no other key is offered to it.
pub record AreIntroduced (c m : Setting) (s t : NodeState) : Type 0 where
  pub net : NetKey
  pub active_key : active_row s ≡ Some net
  pub row : LinkKey
  pub at_centre : current s m.me.eui ≡ Some row
  pub own : LinkKey
  pub at_device : current t c.me.eui ≡ Some own
  pub same_key : own.key ≡ row.key
  pub provisional : is_verified own.attribute ≡ false
  pub no_offer : offered t c.me.eui ≡ None
  pub knocked : t.state ≡ Knocked

-- The device is joined, and this network key is active, in a live row.
pub record HasJoined (t : NodeState) (key : Bytes) : Type 0 where
  pub joined : t.state ≡ Joined
  pub active_key : t.active ≡ Some key
  pub live_key : live_net key t ≡ true

-- The centre sends its active network key to a device that knocked, and the device installs it.
pub record Joins (tools : Tools) (c m : Setting) (s t : NodeState) (draw : Option Bytes) : Type 0 where
  pub frame : Bytes
  pub sent : frame_of tools c s (HasChild m.me.eui false) ≡ Some frame
  pub taken : IsTaken tools m t (Received frame draw)
  pub key : Bytes
  pub active_key : s.active ≡ Some key
  pub ends : HasJoined (after_task tools m t (Received frame draw)) key
