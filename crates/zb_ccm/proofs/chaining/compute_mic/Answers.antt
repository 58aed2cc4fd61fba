use Rattle.zb_ccm.proofs.chaining.compute_mic.Goals as goal
use Rattle.std.proofs.Common.{◌∙◌, ap, take, ◌∷◌, ◌++◌, length}
use Rattle.std.specs.Int.{w16, to_be_bytes}
use Rattle.zb_ccm.proofs.Chains.{mic_built}

pub returns : goal.returns
returns c =
    ap (take c.args.size) c.bytes.ensures
    ∙ mic_built c.args.cipher.now c.args.nonce.now c.args.associated.now c.args.message.now _ _ _ _ _ _ c.args.size
    c.told-nonce
    (c.numbered-first.ensures
    ∙ ap (λ f. f ∷ c.args.nonce.now ++ to_be_bytes w16 (length c.args.message.now)) c.flags_of.ensures)
    c.encrypt_state-start.ensures c.chained_associated.ensures c.chained_bytes-value.ensures c.stream_block_of.ensures
    c.plus.ensures
