use Rattle.std.proofs.Common.{◌++◌}
use Rattle.hex.specs.Hex.{encode_upper}
use Rattle.zb_text.proofs.Digits.{one_more_block}
use Rattle.zb_text.proofs.hexadecimal.put_blocks.Goals as goal

pub loop-block-preserved : goal.loop-block-preserved
loop-block-preserved g c =
    one_more_block (c.args.out.now.items ++ encode_upper c.args.bytes.now) c.loop-block.out.items
    c.put_block.new.out.items c.loop-block.rest.now c.in-Some.more.now c.in-Some.block.now g.row.N
    c.in-Some.ensures.cases.0 c.in-Some.ensures.cases.1 c.in_ok-put_block.ensures c.loop-block.invariant
