-- Rule by rule.
use Rattle.law_tables_suffice.proofs.Plans.{plan_same}
use Rattle.law_tables_suffice.proofs.what_is_shown_gives_the_plan.Goals as goal

pub returns : goal.returns
returns c = plan_same
