use Rattle.std.proofs.Common.{◌∙◌}
use Rattle.zb_seal.proofs.Fronts.{aps_front}
use Rattle.zb_seal.proofs.opening.aps_header.Goals as goal

pub returns : goal.returns
returns c = c.authenticated.ensures ∙ rw (c.len.ensures.value, c.aps_size.ensures.size)
    (aps_front c.args.bytes.now c.args.frame.now c.args.aux.now c.requires.spells c.requires.secured)
