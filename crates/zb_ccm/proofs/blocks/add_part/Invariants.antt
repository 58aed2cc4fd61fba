use Rattle.std.proofs.Common.{◌≡◌, ℕ, ◌<◌, ◌≤◌, get_or, bit_xor}
use Rattle.zb_ccm.proofs.blocks.add_part.Given as goal

-- below `i` the sums, and from there on the piece as it was
abbrev pub invariant-loop-i : goal.invariant-loop-i
invariant-loop-i l = record {
  done : (k : ℕ) → k < l.i → get_or l.piece k 0 ≡ bit_xor (get_or l.fn.piece k 0) (get_or l.block k 0);
  rest : (k : ℕ) → l.i ≤ k → get_or l.piece k 0 ≡ get_or l.fn.piece k 0;
}
