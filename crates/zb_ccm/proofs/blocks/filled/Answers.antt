use Rattle.zb_ccm.proofs.blocks.filled.Goals as goal
use Rattle.std.proofs.Common.{◌∙◌, ap, ◌++◌, drop, replicate}
use Rattle.zb_ccm.proofs.Arrays.{filled}

pub returns : goal.returns
returns c =
    ap (λ l. l ++ drop c.min-count.result (replicate 16 0)) c.copy_from_slice.ensures.after
    ∙ filled c.args.bytes.now c.min-count.result c.min-count.ensures
