-- The floors of a group are those that its accepted terms call for, each its own.
use Rattle.law_run_counters.proofs.Floors.{floors-are-for}
use Rattle.law_run_counters.proofs.a_floor_is_at_most_one_block_above_its_counter.Goals as goal

pub returns : goal.returns
returns c = floors-are-for
