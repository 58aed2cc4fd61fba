use Rattle.std.proofs.Common.{refl}
use Rattle.zb_mmo.proofs.Ends.{one_block, two_blocks}
use Rattle.std.specs.Int.{w16, to_be_bytes}
use Rattle.zb_mmo.proofs.blocks.padded_end.Goals as goal

pub returns-then-bytes-lt14 : goal.returns-then-bytes-lt14
returns-then-bytes-lt14 c =
    one_block c.args.value.now c.args.bytes.now _ _ _ (to_be_bytes w16 c.args.bits) refl c.if-bytes-lt14.true
    c.marked-block.ensures c.ended.ensures c.mix.ensures

pub returns-else-bytes-lt14 : goal.returns-else-bytes-lt14
returns-else-bytes-lt14 c =
    two_blocks c.args.value.now c.args.bytes.now _ _ _ _ (to_be_bytes w16 c.args.bits) refl c.if-bytes-lt14.false
    c.requires c.marked-block.ensures c.mix-else-bytes-lt14.ensures c.ended-else-bytes-lt14.ensures
    c.mix-else-bytes-lt14-2.ensures
