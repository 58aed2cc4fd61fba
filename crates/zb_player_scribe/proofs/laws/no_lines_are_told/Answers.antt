use Rattle.zb_player_scribe.specs.Turns.{none_told}
use Rattle.zb_player_scribe.proofs.laws.no_lines_are_told.Goals as goal

pub returns : goal.returns
returns c = none_told
