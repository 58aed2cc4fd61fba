use Rattle.std.proofs.Common.{◌∙◌, rules}
use Rattle.zb_ccm.proofs.Arrays.{front_4}
use Rattle.zb_ccm.proofs.Openings.{sealed_built}
use Rattle.zb_ccm.proofs.seal_with.Goals as goal

pub returns : goal.returns
returns c =
    sealed_built c.args.cipher.now c.args.nonce.now c.args.associated.now c.args.message.now _ _ 4
    c.crypt.ensures.crypts
    (front_4 c.compute_mic-mic.result (search rules) ∙ c.compute_mic-mic.ensures)
