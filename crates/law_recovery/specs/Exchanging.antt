-- The four frames of the exchange: a request, the key that answers it, the proof of that key, and the confirmation.
use Rattle.std.specs.Prelude.{ℕ, ◌≡◌, ◌<◌, ◌^◌, length, Option, None, Some}
use Rattle.zb_model.specs.Data.{Bytes, Nwk, Aps, ForData, ForLoad, RequestLink, TransportLink, VerifyKey, ConfirmKey}
use Rattle.zb_model.specs.Rules.{Setting}
use Rattle.zb_model.specs.State.{greatest_counter, NodeState, next_counter}
use Rattle.zb_model.specs.Tools.{Tools, verify_hash}
use Rattle.law_recovery.specs.CommandFrames.{NetFrame, LinkFrame, sealed_content, sealed_bytes, clear_bytes}
use Rattle.law_recovery.specs.Meeting.{HasNetwork, HasBoth, HasProved}

-- How a frame is sealed: the network key with its sequence, the link key, and the counters at NWK and at APS.
pub record Seals : Type 0 where
  pub key : Bytes
  pub sequence : ℕ
  pub link : Bytes
  pub nwk : ℕ
  pub aps : ℕ

-- a NWK frame of a node to another
abbrev pub net_frame : Setting → Setting → Seals → NetFrame
net_frame a b k =
    record {
      to = b.me.short;
      from = a.me.short;
      source = a.me.eui;
      key = k.key;
      sequence = k.sequence;
      counter = k.nwk;
    }

-- the request of a device, and the key that the centre offers
abbrev pub request : Setting → Seals → LinkFrame
request m k = record { label = ForData; link = k.link; source = m.me.eui; counter = k.aps; command = RequestLink }

abbrev pub offer : Setting → Setting → Seals → Bytes → LinkFrame
offer c m k key =
    record {
      label = ForLoad;
      link = k.link;
      source = c.me.eui;
      counter = k.aps;
      command = TransportLink key m.me.eui
          c.me.eui;
    }

-- the confirmation of the key under which it is sealed
abbrev pub confirmation : Setting → Setting → Seals → LinkFrame
confirmation c m k =
    record { label = ForData; link = k.link; source = c.me.eui; counter = k.aps; command = ConfirmKey 0 4 m.me.eui }

-- A request doesn't open under another key. It could open there only by chance: if its MIC fits.
abbrev pub StaysClosed : Tools → Setting → Seals → Bytes → Type 0
StaysClosed tools m k other = tools.open_aps (sealed_content tools (request m k)) other m.me.eui ≡ None

abbrev pub request_bytes : Tools → Setting → Setting → Seals → Bytes
request_bytes tools c m k = sealed_bytes tools (net_frame m c k) (request m k)

abbrev pub offer_bytes : Tools → Setting → Setting → Seals → Bytes → Bytes
offer_bytes tools c m k key = sealed_bytes tools (net_frame c m k) (offer c m k key)

-- the proof is of the key `k.link`
abbrev pub proof_bytes : Tools → Setting → Setting → Seals → Bytes
proof_bytes tools c m k = clear_bytes tools (net_frame m c k) (VerifyKey 4 m.me.eui (verify_hash tools k.link))

abbrev pub confirmation_bytes : Tools → Setting → Setting → Seals → Bytes
confirmation_bytes tools c m k = sealed_bytes tools (net_frame c m k) (confirmation c m k)

-- the seals of a frame that a node sends now
abbrev pub seals_now : NodeState → Bytes → ℕ → Bytes → Seals
seals_now s key sequence link =
    record { key = key; sequence = sequence; link = link; nwk = next_counter Nwk s; aps = next_counter Aps s }

-- ---- what the centre does

-- The centre goes from state s to state u. It offers the key that it drew, and its frame is for the device.
pub record Offers (tools : Tools) (c m : Setting) (s u : NodeState) (k : Seals) (draw frame : Option Bytes) : Type 0
  where
    pub key : Bytes
    pub drawn : draw ≡ Some key
    pub sent : frame ≡ Some (offer_bytes tools c m (seals_now s k.key k.sequence k.link) key)
    pub network : HasNetwork u k.key k.sequence
    pub keys : HasBoth u m.me.eui k.link key

-- The centre goes from state s to state u. It repeats the offer of its key, and its frame is for the device.
pub record OffersAgain (tools : Tools) (c m : Setting) (s u : NodeState) (k : Seals) (key : Bytes)
    (frame : Option Bytes) : Type 0 where
  pub sent : frame ≡ Some (offer_bytes tools c m (seals_now s k.key k.sequence k.link) key)
  pub network : HasNetwork u k.key k.sequence
  pub keys : HasBoth u m.me.eui k.link key

-- The centre keeps the proved key, and its frame, which confirms that key, is for the device.
pub record Confirms (tools : Tools) (c m : Setting) (s u : NodeState) (k : Seals) (frame : Option Bytes) : Type 0 where
  pub sent : frame ≡ Some (confirmation_bytes tools c m (seals_now s k.key k.sequence k.link))
  pub network : HasNetwork u k.key k.sequence
  pub keys : HasProved u m.me.eui k.link

-- ---- ranges

pub record StationsInRange (c m : Setting) : Type 0 where
  pub centre : c.me.eui < 2 ^ 64
  pub device : m.me.eui < 2 ^ 64
  pub centre_short : c.me.short < 2 ^ 16
  pub device_short : m.me.short < 2 ^ 16

-- what is sealed at NWK, and at APS
pub record NwkInRange (k : Seals) : Type 0 where
  pub key : length k.key ≡ 16
  pub sequence : k.sequence < 2 ^ 8
  pub counter : k.nwk < greatest_counter

pub record ApsInRange (k : Seals) : Type 0 where
  pub link : length k.link ≡ 16
  pub counter : k.aps < greatest_counter
