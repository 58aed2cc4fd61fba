use Rattle.zb_ccm.proofs.chaining.chained_bytes.Goals as goal
use Rattle.std.proofs.Common.{arith}
use Rattle.zb_aes.specs.Columns.{state_bytes}
use Rattle.zb_ccm.proofs.Chains.{chain_more, chain_end}

pub loop-i-preserved : goal.loop-i-preserved
loop-i-preserved c =
    chain_more c.args.cipher.now (state_bytes c.args.start) c.args.bytes.now _ _ _ _ c.loop-i.i c.loop-i.invariant
    c.block_of.ensures
    c.plus.ensures c.encrypt_state-next.ensures

pub returns : goal.returns
returns c =
    chain_end c.args.cipher.now (state_bytes c.args.start) c.args.bytes.now _ c.loop-i.i c.div_ceil-i-end.result
    c.div_ceil-i-end.ensures (omega arith) c.loop-i-test.false c.loop-i.invariant
