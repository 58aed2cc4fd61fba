use Rattle.std.proofs.Common.{◌≡◌, ℕ, ◌<◌, ◌∷◌, [], length, get_or}
use Rattle.hex.specs.Hex.{encode_upper}
use Rattle.zb_text.proofs.hexadecimal.pairs_of_block.Given as goal

abbrev pub invariant-loop-i : goal.invariant-loop-i
invariant-loop-i g l = (length l.pairs ≡ g.row.N)
    × ((k : ℕ) → k < l.i → get_or l.pairs k [] ≡ encode_upper (get_or l.block k 0 ∷ []))
