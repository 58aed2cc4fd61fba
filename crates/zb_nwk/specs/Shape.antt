-- Which values are NWK frames: the optional parts are exactly those that the control bits name.
use Rattle.std.specs.Prelude.{◌≡◌, ℕ, ◌/◌, ◌%◌, ◌^◌, ◌<◌, ◌≤◌, true, List, [], ◌∷◌, length, is_some, IfSome, IfNone}
use Rattle.std.specs.List.{AllByRecursion}
use Rattle.zb_cursor.specs.Spelling.{bit}
use Rattle.zb_nwk.specs.declared.header.Route.{Route}
use Rattle.zb_nwk.specs.declared.header.NwkHeader.{NwkHeader}
use Rattle.zb_nwk.specs.declared.auxiliary.NwkAux.{NwkAux}
use Rattle.zb_nwk.specs.declared.frame.NwkFrame.{NwkFrame}
use Rattle.zb_nwk.specs.Spelling.{frame}
use Rattle.zb_base.specs.Limits.{longest_frame}

-- bits 0 and 1 of the control word are the frame type, 2 to 5 the version of the protocol
abbrev pub kind : ℕ → ℕ
kind control = control % 4

abbrev pub version : ℕ → ℕ
version control = control / 4 % 16

-- data (0) or command (1), of version 2
pub record IsControl (control : ℕ) : Type 0 where
  pub known_kind : kind control < 2
  pub version_two : version control ≡ 2

-- bits 8, 10, 11 and 12: multicast control, source route, EUI of the destination and of the source
pub record IsHeader (h : NwkHeader) : Type 0 where
  pub control : IsControl h.control
  pub destination_eui : is_some h.destination_eui ≡ bit h.control 11
  pub source_eui : is_some h.source_eui ≡ bit h.control 12
  pub multicast : is_some h.multicast ≡ bit h.control 8
  pub route : is_some h.route ≡ bit h.control 10

-- bits 3 and 4 of an auxiliary control byte are the key identifier
abbrev pub key_id : ℕ → ℕ
key_id control = control / 8 % 4

-- the network key (1), with the extended nonce (bit 5); the other bits are free
pub record IsAuxControl (control : ℕ) : Type 0 where
  pub network_key : key_id control ≡ 1
  pub extended : bit control 5 ≡ true

-- bit 9 of the control word: security
pub record IsShaped (f : NwkFrame) : Type 0 where
  pub header : IsHeader f.header
  pub secured : is_some f.aux ≡ bit f.header.control 9
  pub aux : IfSome f.aux (λ a. IsAuxControl a.control)
  pub mic : IfNone f.aux (f.mic ≡ 0 ∷ 0 ∷ 0 ∷ 0 ∷ [])

-- the ranges of the fields
pub record RouteInRange (r : Route) : Type 0 where
  pub number : length r.relays.items < 2 ^ 8
  pub index : r.index < 2 ^ 8
  pub relays : AllByRecursion (λ s. s.0 < 2 ^ 16) r.relays.items

pub record HeaderInRange (h : NwkHeader) : Type 0 where
  pub control : h.control < 2 ^ 16
  pub destination : h.destination.0 < 2 ^ 16
  pub source : h.source.0 < 2 ^ 16
  pub radius : h.radius < 2 ^ 8
  pub sequence : h.sequence < 2 ^ 8
  pub destination_eui : IfSome h.destination_eui (λ e. e.0 < 2 ^ 64)
  pub source_eui : IfSome h.source_eui (λ e. e.0 < 2 ^ 64)
  pub multicast : IfSome h.multicast (λ b. b < 2 ^ 8)
  pub route : IfSome h.route RouteInRange

pub record AuxInRange (a : NwkAux) : Type 0 where
  pub control : a.control < 2 ^ 8
  pub counter : a.counter < 2 ^ 32
  pub source : a.source.0 < 2 ^ 64
  pub key_sequence : a.key_sequence < 2 ^ 8

pub record InRange (f : NwkFrame) : Type 0 where
  pub header : HeaderInRange f.header
  pub aux : IfSome f.aux AuxInRange
  pub mic : length f.mic ≡ 4

-- The bytes are the frame, of whatever length.
pub record IsFrame (bytes : List ℕ) (f : NwkFrame) : Type 0 where
  pub in_range : InRange f
  pub shaped : IsShaped f
  pub text : bytes ≡ frame f

-- The bytes spell the frame: they are the frame, and they are at most 127.
pub record Spells (bytes : List ℕ) (f : NwkFrame) : Type 0 where
  pub is_frame : IsFrame bytes f
  pub fits : length bytes ≤ longest_frame
