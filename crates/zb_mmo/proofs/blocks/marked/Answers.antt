use Rattle.std.proofs.Common.{◌∙◌, ◌++◌, ap, length, drop, replicate}
use Rattle.std.proofs.Math.ListN.{set}
use Rattle.zb_mmo.proofs.Ends.{marked}
use Rattle.zb_mmo.proofs.blocks.marked.Goals as goal

pub returns : goal.returns
returns c =
    ap (λ l. set (l ++ drop (length c.args.bytes.now) (replicate 16 0)) (length c.args.bytes.now) 0x80)
    c.copy_from_slice.ensures.after
    ∙ marked c.args.bytes.now c.requires
