-- When bytes have each fault, in terms of the bytes and all possible commands, without any order of reading.
use Rattle.std.specs.Prelude.{◌≡◌, ◌≢◌, ℕ, ◌^◌, ◌<◌, ◌≤◌, ◌⊎◌, false, List, [], ◌∷◌, ◌++◌, length, slice_index}
use Rattle.zb_cursor.specs.Spelling.{bit, eui}
use Rattle.zb_base.specs.declared.address.Eui.{Eui}
use Rattle.zb_cmd.specs.declared.fault.CmdError.{CmdError}
use Rattle.zb_cmd.specs.declared.fault.CmdError.TheVariants.{Unknown, KeyType, Short, Trailing}
use Rattle.zb_cmd.specs.declared.command.Command.{Command}
use Rattle.zb_cmd.specs.declared.command.Command.TheVariants.{Tunnel}
use Rattle.zb_cmd.specs.declared.leave.Leave.{Leave}
use Rattle.zb_cmd.specs.Spelling.{command, leave}
use Rattle.zb_cmd.specs.Shape.{IsCommand, InRange}
use Rattle.zb_base.specs.Limits.{longest_tunnelled}

-- The bytes are a command followed by the rest.
pub record BeginsWith (bytes : List ℕ) (c : Command) (rest : List ℕ) : Type 0 where
  pub in_range : InRange c
  pub shaped : IsCommand c
  pub parts : bytes ≡ command c ++ rest

-- Some longer bytes with this prefix are a command, possibly longer than 127.
abbrev pub CanGoOn : List ℕ → Type 0
CanGoOn bytes = (more : List ℕ) × (c : Command) × BeginsWith (bytes ++ more) c []

-- A Tunnel whose frame has an auxiliary control byte without the extended nonce.
pub record LacksNonce (bytes : List ℕ) (destination : Eui) (inner : List ℕ) : Type 0 where
  pub parts : bytes ≡ 14 ∷ (eui destination ++ inner)
  pub in_range : destination.0 < 2 ^ 64
  pub judged : 3 ≤ length inner
  pub plain : bit (slice_index inner 2) 5 ≡ false

-- The bytes ran out: no prefix of them is a command; and longer bytes that begin with them can be one, or they are a
-- Tunnel without the extended nonce.
pub record IsCut (bytes : List ℕ) : Type 0 where
  pub no_command : (c : Command) (rest : List ℕ) → ¬ BeginsWith bytes c rest
  pub goes_on : CanGoOn bytes ⊎ ((destination : Eui) × (inner : List ℕ) × LacksNonce bytes destination inner)

-- a Tunnel takes all bytes up to the 127th of the command
abbrev pub TakesAll : Command → Type 0
TakesAll (Tunnel destination inner) = length inner.items ≡ longest_tunnelled
TakesAll _ = Unit {0}

-- The bytes have the fault.
abbrev pub HasFault : List ℕ → CmdError → Type 0
HasFault bytes (Unknown id) = (rest : List ℕ) × (bytes ≡ id ∷ rest)
    × ((c : Command) (tail : List ℕ) → command c ≢ id ∷ tail)
HasFault bytes (KeyType found) = (id : ℕ) × (rest : List ℕ) × (bytes ≡ id ∷ found ∷ rest) × ((id ≡ 5) ⊎ (id ≡ 8))
    × ((c : Command) (tail : List ℕ) → command c ≢ id ∷ found ∷ tail)
HasFault bytes (Short place) = (place ≡ length bytes) × IsCut bytes
HasFault bytes (Trailing count) = (c : Command) × (rest : List ℕ) × BeginsWith bytes c rest × TakesAll c
    × (length rest ≡ count) × (0 < count)

-- The same for bytes that should be a Leave.
abbrev pub HasLeaveFault : List ℕ → CmdError → Type 0
HasLeaveFault bytes (Unknown id) = (rest : List ℕ) × (bytes ≡ id ∷ rest) × (id ≢ 4)
HasLeaveFault bytes (KeyType found) = ⊥
HasLeaveFault bytes (Short place) = (place ≡ length bytes) × ((bytes ≡ []) ⊎ (bytes ≡ 4 ∷ []))
HasLeaveFault bytes (Trailing count) = (l : Leave) × (rest : List ℕ) × (bytes ≡ leave l ++ rest)
    × (length rest ≡ count) × (0 < count)
