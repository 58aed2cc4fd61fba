use Rattle.zb_core.proofs.PlanLaws.{answer_leads}
use Rattle.zb_core.proofs.law.an_answer_leads_to_the_state_that_the_policy_says.Goals as goal

pub returns : goal.returns
returns c = answer_leads
