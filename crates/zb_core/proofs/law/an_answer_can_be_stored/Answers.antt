use Rattle.zb_core.proofs.Storing.{answer_storable}
use Rattle.zb_core.proofs.law.an_answer_can_be_stored.Goals as goal

pub returns : goal.returns
returns c = answer_storable
