use Rattle.std.proofs.Common.{◌≡◌, ℕ, ◌<◌, get_or, length, bit_xor}
use Rattle.zb_aes.proofs.sum.Given as goal

abbrev pub invariant-loop-i : goal.invariant-loop-i
invariant-loop-i l = record {
  size : length l.sum ≡ 16;
  done : (k : ℕ) → k < l.i → get_or l.sum k 0 ≡ bit_xor (get_or l.a k 0) (get_or l.b k 0);
}
