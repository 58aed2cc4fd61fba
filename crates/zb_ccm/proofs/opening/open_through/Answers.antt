use Rattle.std.proofs.Common.{◌∙◌, sym, ap, refl, Some}
use Rattle.zb_ccm.proofs.Openings.{opens_none, opens_some}
use Rattle.zb_ccm.specs.Ccm.{crypted}
use Rattle.zb_ccm.proofs.opening.open_through.Goals as goal

pub returns-then-not-is_mic : goal.returns-then-not-is_mic
returns-then-not-is_mic c = record {
  opened = tt;
  refused = opens_none c.args.cipher.now c.args.nonce.now c.args.associated.now c.args.text.now c.args.mic.now _ _
      (c.crypt.ensures.crypts ∙ ap (crypted c.args.cipher.now c.args.nonce.now) c.copy_from_slice.ensures.after)
      c.told-mic c.is_mic.ensures c.if-not-is_mic.true;
  kept = refl;
}

pub returns : goal.returns
returns c = record {
  opened = opens_some c.args.cipher.now c.args.nonce.now c.args.associated.now c.args.text.now c.args.mic.now _ _
      (c.crypt.ensures.crypts ∙ ap (crypted c.args.cipher.now c.args.nonce.now) c.copy_from_slice.ensures.after)
      c.told-mic c.is_mic.ensures c.if-not-is_mic.false
      ∙ ap Some (sym c.copy_from_slice-2.ensures.after);
  refused = tt;
  kept = tt;
}
