use Rattle.zb_script.proofs.ReadLemmas.{rest_seen}
use Rattle.zb_script.proofs.line.rest.Goals as goal

pub returns : goal.returns
returns c = rest_seen c.args.words.rest
