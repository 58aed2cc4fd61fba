use Rattle.std.proofs.Common.{◌≡◌, ℕ, ◌<◌, get_or, length, bit_xor}
use Rattle.zb_mmo.proofs.pads.padded_with.Given as goal

abbrev pub invariant-loop-i : goal.invariant-loop-i
invariant-loop-i l = record {
  size : length l.pad ≡ 16;
  done : (k : ℕ) → k < l.i → get_or l.pad k 0 ≡ bit_xor (get_or l.key k 0) l.other;
}
