-- The frames by which a network key reaches a device through a router (05-3474-21, 4.4.3, 4.4.11 and 4.6.3). They are
-- the router's report of its child (Update-Device), the centre's answer in a Tunnel, and the frame that the router
-- takes out of it. The last one is that of the centre, except for the short address of its sender.
use Rattle.std.specs.Prelude.{ℕ, ◌≡◌, ◌<◌, ◌^◌, length}
use Rattle.zb_model.specs.Data.{ForData, Command, Tunnel, UpdateDevice}
use Rattle.zb_model.specs.Rules.{Setting}
use Rattle.zb_model.specs.State.{greatest_counter, NetKey, LinkKey, NodeState}
use Rattle.zb_model.specs.Tools.{Tools}
use Rattle.zb_model.specs.Data.{Bytes}
use Rattle.law_recovery.specs.CommandFrames.{IsCarried, IsRead, IsUnsealed, LinkFrame, NetFrame, NetFrameInRange, clear_bytes, clear_content, sealed_bytes, sealed_content}
use Rattle.law_recovery.specs.Exchanging.{Seals, net_frame}
use Rattle.law_recovery.specs.KeyFrames.{KeyFrame, KeyFrameInRange, key_term}
use Rattle.law_recovery.specs.Rejoining.{answer_frame}

-- the report of a child that joins, sealed under the router's link key
abbrev pub joins_now : ℕ
joins_now = 1

abbrev pub report : Setting → Setting → Seals → LinkFrame
report r m k =
    record {
      label = ForData;
      link = k.link;
      source = r.me.eui;
      counter = k.aps;
      command = UpdateDevice m.me.eui m.me.short joins_now;
    }

abbrev pub report_bytes : Tools → Setting → Setting → Setting → Seals → Bytes
report_bytes tools c r m k = sealed_bytes tools (net_frame r c k) (report r m k)

-- a Tunnel with the network key for a device
abbrev pub tunnel : Tools → KeyFrame → Command
tunnel tools f = Tunnel f.device (tools.wire (key_term tools f))

abbrev pub tunnel_bytes : Tools → Setting → Setting → Seals → KeyFrame → Bytes
tunnel_bytes tools c r k f = clear_bytes tools (net_frame c r k) (tunnel tools f)

-- the centre as a relayed frame shows it: with the short address of the router
abbrev pub seen_through : Setting → Setting → Setting
seen_through c r = record c { me = record c.me { short = r.me.short } }

-- the frame that the router sends to the device
abbrev pub relayed_frame : Setting → Setting → Setting → NodeState → NetKey → LinkKey → KeyFrame
relayed_frame c r m s net row = answer_frame (seen_through c r) m s net row

-- ---- what the laws ask of the tools

pub record ReportInRange (l : LinkFrame) (device short : ℕ) : Type 0 where
  pub link : length l.link ≡ 16
  pub source : l.source < 2 ^ 64
  pub counter : l.counter < greatest_counter
  pub device_fits : device < 2 ^ 64
  pub short_fits : short < 2 ^ 16

abbrev pub reporting : LinkFrame → ℕ → ℕ → LinkFrame
reporting l device short = record l { label = ForData; command = UpdateDevice device short joins_now }

-- Reports and Tunnels arrive as they were sent.
pub record DeliversRelays (tools : Tools) : Type 0 where
  pub carried : (f : NetFrame) (l : LinkFrame) (device short : ℕ) → NetFrameInRange f → ReportInRange l device short
      → IsCarried tools f (sealed_content tools (reporting l device short))
  pub unsealed : (l : LinkFrame) (device short : ℕ) → ReportInRange l device short
      → IsUnsealed tools (reporting l device short)
  pub carried_tunnel : (f : NetFrame) (g : KeyFrame) → NetFrameInRange f → KeyFrameInRange g
      → IsCarried tools f (clear_content tools f.counter (tunnel tools g))
  pub read : (counter : ℕ) (g : KeyFrame) → KeyFrameInRange g → IsRead tools counter (tunnel tools g)
