use Rattle.std.proofs.Common.{◌∙◌, rules}
use Rattle.zb_ccm.proofs.Arrays.{front_8}
use Rattle.zb_ccm.proofs.Openings.{sealed_built}
use Rattle.zb_ccm.proofs.seal8_with.Goals as goal

pub returns : goal.returns
returns c =
    sealed_built c.args.cipher.now c.args.nonce.now c.args.associated.now c.args.message.now _ _ 8
    c.crypt.ensures.crypts
    (front_8 c.compute_mic-mic.result (search rules) ∙ c.compute_mic-mic.ensures)
