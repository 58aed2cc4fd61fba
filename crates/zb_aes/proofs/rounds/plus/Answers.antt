use Rattle.zb_aes.proofs.Blocks.{zip2-xored}
use Rattle.zb_aes.proofs.rounds.plus.Goals as goal

pub returns : goal.returns
returns c = zip2-xored c.args.state c.args.key.now
