-- A node without an install code has no such line.
use Rattle.zb_player_scribe.specs.Turns.{none_told}
use Rattle.zb_player_start.proofs.line.tell_code.Goals as goal

pub returns-in-None-clause-tells : goal.returns-in-None-clause-tells
returns-in-None-clause-tells c = λ known called. rw c.in-None.is (none_told known _ _)
