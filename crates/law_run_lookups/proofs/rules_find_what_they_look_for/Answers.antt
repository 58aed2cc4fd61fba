-- Answers keep it, event by event.
use Rattle.law_run_lookups.proofs.Standing.{granted}
use Rattle.law_run_lookups.proofs.rules_find_what_they_look_for.Goals as goal

pub returns : goal.returns
returns c = granted
