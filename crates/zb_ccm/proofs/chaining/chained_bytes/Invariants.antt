use Rattle.std.proofs.Common.{◌≡◌, map}
use Rattle.std.specs.List.{range_with_len}
use Rattle.zb_aes.specs.Columns.{state_bytes}
use Rattle.zb_ccm.specs.Blocks.{block_at, chain}
use Rattle.zb_ccm.proofs.chaining.chained_bytes.Given as goal

abbrev pub invariant-loop-i : goal.invariant-loop-i
invariant-loop-i l = state_bytes l.value
    ≡ chain l.cipher (state_bytes l.fn.start) (map (block_at l.bytes) (range_with_len 0 l.i))
