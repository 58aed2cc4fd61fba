use Rattle.zb_roll.proofs.LeastLemmas.{next_is}
use Rattle.zb_roll.proofs.members.next_member.Goals as goal

pub returns : goal.returns
returns c = next_is c.args.tables.now c.links.result.now _ c.links.ensures c.least_waiting.ensures
