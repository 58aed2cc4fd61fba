use Rattle.zb_ccm.proofs.chaining.chained_associated.Goals as goal
use Rattle.std.proofs.Common.{rules}
use Rattle.zb_aes.specs.Columns.{state_bytes}
use Rattle.zb_ccm.proofs.Chains.{chain-with_length_none, chain-with_length_some}

pub returns-then-is_empty : goal.returns-then-is_empty
returns-then-is_empty c = chain-with_length_none c.args.cipher.now (state_bytes c.args.value) c.args.associated.now
    (search rules)

pub returns : goal.returns
returns c =
    chain-with_length_some c.args.cipher.now (state_bytes c.args.value) c.args.associated.now _ _ _ _ c.min.result
    (search rules)
    c.first_associated.ensures c.plus.ensures c.encrypt_state-first.ensures c.min.ensures c.chained_bytes.ensures
