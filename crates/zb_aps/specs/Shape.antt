-- Which values are APS frames: the optional parts are exactly those that the control byte names.
use Rattle.std.specs.Prelude.{◌≡◌, ◌≢◌, ℕ, ◌/◌, ◌%◌, ◌^◌, ◌<◌, ◌≤◌, ◌==◌, ◌&&◌, ◌||◌, not, Bool, List, [], ◌∷◌, length, is_some, IfSome, IfNone}
use Rattle.zb_cursor.specs.Spelling.{bit}
use Rattle.zb_aps.specs.declared.header.Extended.{Extended}
use Rattle.zb_aps.specs.declared.header.ApsHeader.{ApsHeader}
use Rattle.zb_aps.specs.declared.auxiliary.ApsAux.{ApsAux}
use Rattle.zb_aps.specs.declared.frame.ApsFrame.{ApsFrame}
use Rattle.zb_aps.specs.Spelling.{frame}
use Rattle.zb_base.specs.Limits.{longest_frame}

-- bits 0 and 1 of the control byte are the frame type, 2 and 3 the delivery mode
abbrev pub kind : ℕ → ℕ
kind control = control % 4

abbrev pub delivery : ℕ → ℕ
delivery control = control / 4 % 4

-- an ack (2)
abbrev pub is_ack : ℕ → Bool
is_ack control = kind control == 2

-- to a group (3)
abbrev pub to_group : ℕ → Bool
to_group control = delivery control == 3

-- a data frame (0), and an ack whose ack format (bit 4) is 0, have endpoints, cluster and profile
abbrev pub is_addressed : ℕ → Bool
is_addressed control = (kind control == 0) || (is_ack control && not (bit control 4))

-- data (0), command (1) or ack (2); unicast (0), broadcast (2) or group (3)
pub record IsControl (control : ℕ) : Type 0 where
  pub known_kind : kind control < 3
  pub known_delivery : delivery control ≢ 1

-- an extended header whose fragmentation (bits 0 and 1) is not 0 has a block number, and in an ack a byte of bits
abbrev pub is_block : ℕ → Bool
is_block control = not (control % 4 == 0)

pub record IsExtended (ack : Bool) (e : Extended) : Type 0 where
  pub block : is_some e.block ≡ is_block e.control
  pub bits : is_some e.bits ≡ (is_block e.control && ack)

-- the addressing fields are those that the control byte names
pub record AddressesAgree (h : ApsHeader) : Type 0 where
  pub endpoint : is_some h.endpoint ≡ (is_addressed h.control && not (to_group h.control))
  pub group : is_some h.group ≡ (is_addressed h.control && to_group h.control)
  pub cluster : is_some h.cluster ≡ is_addressed h.control
  pub profile : is_some h.profile ≡ is_addressed h.control
  pub source_endpoint : is_some h.source_endpoint ≡ is_addressed h.control

-- bit 7: extended header
pub record IsHeader (h : ApsHeader) : Type 0 where
  pub control : IsControl h.control
  pub addresses : AddressesAgree h
  pub extended : is_some h.extended ≡ bit h.control 7
  pub extended_shaped : IfSome h.extended (IsExtended (is_ack h.control))

-- bits 3 and 4 of an auxiliary control byte are the key identifier
abbrev pub key_id : ℕ → ℕ
key_id control = control / 8 % 4

-- not the network key (1); the source is present if bit 5 is 1
pub record IsAux (a : ApsAux) : Type 0 where
  pub link_key : key_id a.control ≢ 1
  pub source : is_some a.source ≡ bit a.control 5

-- bit 5 of the control byte: security
pub record IsShaped (f : ApsFrame) : Type 0 where
  pub header : IsHeader f.header
  pub secured : is_some f.aux ≡ bit f.header.control 5
  pub aux : IfSome f.aux IsAux
  pub mic : IfNone f.aux (f.mic ≡ 0 ∷ 0 ∷ 0 ∷ 0 ∷ [])

-- the ranges of the fields
pub record ExtendedInRange (e : Extended) : Type 0 where
  pub control : e.control < 2 ^ 8
  pub block : IfSome e.block (λ b. b < 2 ^ 8)
  pub bits : IfSome e.bits (λ b. b < 2 ^ 8)

pub record HeaderInRange (h : ApsHeader) : Type 0 where
  pub control : h.control < 2 ^ 8
  pub endpoint : IfSome h.endpoint (λ n. n < 2 ^ 8)
  pub group : IfSome h.group (λ n. n < 2 ^ 16)
  pub cluster : IfSome h.cluster (λ n. n < 2 ^ 16)
  pub profile : IfSome h.profile (λ n. n < 2 ^ 16)
  pub source_endpoint : IfSome h.source_endpoint (λ n. n < 2 ^ 8)
  pub counter : h.counter < 2 ^ 8
  pub extended : IfSome h.extended ExtendedInRange

pub record AuxInRange (a : ApsAux) : Type 0 where
  pub control : a.control < 2 ^ 8
  pub counter : a.counter < 2 ^ 32
  pub source : IfSome a.source (λ e. e.0 < 2 ^ 64)

pub record InRange (f : ApsFrame) : Type 0 where
  pub header : HeaderInRange f.header
  pub aux : IfSome f.aux AuxInRange
  pub mic : length f.mic ≡ 4

-- The bytes are the frame, of whatever length.
pub record IsFrame (bytes : List ℕ) (f : ApsFrame) : Type 0 where
  pub in_range : InRange f
  pub shaped : IsShaped f
  pub text : bytes ≡ frame f

-- The bytes spell the frame: they are the frame, and they are at most 127.
pub record Spells (bytes : List ℕ) (f : ApsFrame) : Type 0 where
  pub is_frame : IsFrame bytes f
  pub fits : length bytes ≤ longest_frame
