use Rattle.zb_player_scribe.specs.Turns.{told_in_turn}
use Rattle.zb_player_scribe.proofs.laws.lines_are_told_in_turn.Goals as goal

pub returns : goal.returns
returns c = told_in_turn
