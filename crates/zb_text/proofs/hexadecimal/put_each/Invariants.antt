use Rattle.std.proofs.Common.{◌≡◌, ◌++◌, ◌+◌, ◌-◌, ◌*◌, ◌≤◌, length, take, vec_len, vec_capacity}
use Rattle.hex.specs.Hex.{encode_upper}
use Rattle.zb_text.proofs.hexadecimal.put_each.Given as goal

abbrev pub invariant-loop-byte : goal.invariant-loop-byte
invariant-loop-byte l = (l.out.items ≡ l.initial.out.items ++ encode_upper (take l.byte-index l.bytes))
    × (vec_len l.out + 2 * (length l.bytes - l.byte-index) ≤ vec_capacity l.out)
