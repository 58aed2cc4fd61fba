-- One lemma per rule.
use Rattle.law_run_lookups.proofs.NoDraws.{roll-no-draw, frame-no-draw}
use Rattle.law_run_lookups.proofs.no_draw_comes_where_the_supply_is_empty.Goals as goal

pub returns : goal.returns
returns c = record { rollovers = roll-no-draw; frames = frame-no-draw }
