-- A limit of 0 has no line.
use Rattle.zb_player_scribe.specs.Turns.{none_told}
use Rattle.zb_player_start.proofs.line.tell_limit.Goals as goal

pub returns-then-limit-eq0-clause-tells : goal.returns-then-limit-eq0-clause-tells
returns-then-limit-eq0-clause-tells c = λ known n called. rw c.if-limit-eq0.true (none_told known _ _)
