use Rattle.std.proofs.Common.{◌∙◌, ap, map}
use Rattle.zb_aes.proofs.Linear.{last_round-of-pairs}
use Rattle.zb_aes.specs.Pairs.{byte_of}
use Rattle.zb_aes.proofs.rounds.last_round.Goals as goal

pub returns : goal.returns
returns c =
    c.bytes_of.ensures ∙ ap (map byte_of) c.plus.ensures
    ∙ last_round-of-pairs c.args.key.now c.args.state _ _ c.fits-state c.shifted.ensures c.substituted.ensures
