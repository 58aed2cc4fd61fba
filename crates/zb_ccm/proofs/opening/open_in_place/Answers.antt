use Rattle.std.proofs.Common.{◌∙◌, ap}
use Rattle.zb_ccm.proofs.Openings.{crypted_twice, opens_none, opens_some}
use Rattle.zb_ccm.specs.Ccm.{crypted}
use Rattle.zb_ccm.proofs.opening.open_in_place.Goals as goal

pub returns-then-not-is_mic : goal.returns-then-not-is_mic
returns-then-not-is_mic c = record {
  opened = tt;
  refused = opens_none c.args.cipher.now c.args.nonce.now c.args.associated.now c.args.text.now c.args.mic.now _ _
      c.crypt.ensures.crypts c.told-mic c.is_mic.ensures c.if-not-is_mic.true;
  kept = c.crypt-then-not-is_mic.ensures.crypts
      ∙ ap (crypted c.args.cipher.now c.args.nonce.now) c.crypt.ensures.crypts
      ∙ crypted_twice c.args.cipher.now c.args.nonce.now c.args.text.now c.crypt.ensures.covers;
}

pub returns : goal.returns
returns c = record {
  opened = opens_some c.args.cipher.now c.args.nonce.now c.args.associated.now c.args.text.now c.args.mic.now _ _
      c.crypt.ensures.crypts c.told-mic c.is_mic.ensures c.if-not-is_mic.false;
  refused = tt;
  kept = tt;
}
