-- Changes, accepted terms and seals, in this order; the other lines leave the state.
use Rattle.law_run.proofs.GroupStates.{group-state}
use Rattle.law_run.proofs.a_group_is_read_back.Goals as goal

pub returns : goal.returns
returns c = λ h number n a. group-state h h number n a
