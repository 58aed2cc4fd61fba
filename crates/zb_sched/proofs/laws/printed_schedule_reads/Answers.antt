use Rattle.zb_sched.proofs.PrintedReads.{printed_again}
use Rattle.zb_sched.proofs.laws.printed_schedule_reads.Goals as goal

pub returns : goal.returns
returns c = printed_again
