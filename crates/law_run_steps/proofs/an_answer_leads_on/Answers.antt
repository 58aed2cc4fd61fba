-- The lines of the group in order, and the cut by whether the commit is stored.
use Rattle.law_run_steps.proofs.Answered.{calls-are, is-answered, whole-disks}
use Rattle.law_run_steps.proofs.an_answer_leads_on.Goals as goal

pub returns : goal.returns
returns c = record { calls = calls-are; answer = is-answered; disks = whole-disks }
