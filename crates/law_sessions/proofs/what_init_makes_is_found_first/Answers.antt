use Rattle.law_sessions.proofs.FirstFound.{first_found}
use Rattle.law_sessions.proofs.what_init_makes_is_found_first.Goals as goal

pub returns : goal.returns
returns c = λ key image is stands. first_found key image is stands
