use Rattle.std.proofs.Common.{◌∙◌, ap, map}
use Rattle.zb_aes.proofs.Linear.{round-of-pairs}
use Rattle.zb_aes.specs.Pairs.{byte_of}
use Rattle.zb_aes.proofs.rounds.round.Goals as goal

pub returns : goal.returns
returns c =
    ap (map byte_of) c.plus.ensures
    ∙ round-of-pairs c.args.key.now c.args.state _ _ _ c.fits-state c.shifted.ensures
    c.substituted_and_doubled.ensures.substituted c.substituted_and_doubled.ensures.doubled
