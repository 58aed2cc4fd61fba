-- Which values are commands, and the ranges of their fields.
use Rattle.std.specs.Prelude.{◌≡◌, ℕ, ◌^◌, ◌<◌, ◌≤◌, Bool, true, false, ◌&&◌, nat_le, List, length, slice_index}
use Rattle.zb_cursor.specs.Spelling.{bit}
use Rattle.zb_cmd.specs.declared.command.Command.{Command}
use Rattle.zb_cmd.specs.declared.command.Command.TheVariants.{TransportNetwork, TransportApplication, TransportLink, Update, Remove, RequestApplication, RequestLink, Switch, Tunnel, Verify, Confirm}
use Rattle.zb_cmd.specs.declared.leave.Leave.{Leave}
use Rattle.zb_cmd.specs.Spelling.{command, leave}
use Rattle.zb_base.specs.Limits.{longest_frame, longest_tunnelled}

-- The frame in a Tunnel has an APS header of 2 bytes, an auxiliary header of 13 with the extended nonce (bit 5 of its
-- control byte) and a MIC of 4. Nothing else in it is checked.
abbrev pub shortest_tunnelled : ℕ
shortest_tunnelled = 19

abbrev pub is_inner : List ℕ → Bool
is_inner xs = nat_le shortest_tunnelled (length xs) && bit (slice_index xs 2) 5

abbrev pub IsCommand : Command → Type 0
IsCommand (Tunnel destination inner) = is_inner inner.items ≡ true
IsCommand _ = Unit {0}

-- a command of at most 127 bytes
abbrev pub IsSmall : Command → Type 0
IsSmall (Tunnel destination inner) = length inner.items ≤ longest_tunnelled
IsSmall _ = Unit {0}

abbrev pub is_tunnel : Command → Bool
is_tunnel (Tunnel destination inner) = true
is_tunnel _ = false

-- The length of the longest command other than a Tunnel: a Transport-Key of a network key.
abbrev pub most_bytes : ℕ
most_bytes = 35

abbrev pub InRange : Command → Type 0
InRange (TransportNetwork k sequence destination source) = (length k.0 ≡ 16) × (sequence < 2 ^ 8)
    × (destination.0 < 2 ^ 64) × (source.0 < 2 ^ 64)
InRange (TransportApplication k partner initiator) = (length k.0 ≡ 16) × (partner.0 < 2 ^ 64) × (initiator < 2 ^ 8)
InRange (TransportLink k destination source) = (length k.0 ≡ 16) × (destination.0 < 2 ^ 64) × (source.0 < 2 ^ 64)
InRange (Update device address status) = (device.0 < 2 ^ 64) × (address.0 < 2 ^ 16) × (status < 2 ^ 8)
InRange (Remove target) = target.0 < 2 ^ 64
InRange (RequestApplication partner) = partner.0 < 2 ^ 64
InRange RequestLink = Unit {0}
InRange (Switch sequence) = sequence < 2 ^ 8
InRange (Tunnel destination inner) = destination.0 < 2 ^ 64
InRange (Verify kind source hash) = (kind < 2 ^ 8) × (source.0 < 2 ^ 64) × (length hash ≡ 16)
InRange (Confirm status kind destination) = (status < 2 ^ 8) × (kind < 2 ^ 8) × (destination.0 < 2 ^ 64)

-- The bytes spell the command; they are at most 127, a limit that only a Tunnel could exceed.
pub record Spells (bytes : List ℕ) (c : Command) : Type 0 where
  pub in_range : InRange c
  pub shaped : IsCommand c
  pub text : bytes ≡ command c
  pub fits : length bytes ≤ longest_frame

pub record SpellsLeave (bytes : List ℕ) (l : Leave) : Type 0 where
  pub in_range : l.options < 2 ^ 8
  pub text : bytes ≡ leave l
