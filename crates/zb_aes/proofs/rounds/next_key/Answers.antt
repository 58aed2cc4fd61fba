use Rattle.zb_aes.proofs.Linear.{next_key-of-pairs}
use Rattle.zb_aes.proofs.rounds.next_key.Goals as goal

pub returns : goal.returns
returns c = next_key-of-pairs c.args.constant c.args.key _ c.fits-key.0 c.substituted.ensures
