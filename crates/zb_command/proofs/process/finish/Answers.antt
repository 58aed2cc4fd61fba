use Rattle.zb_command.proofs.Fronts.{flush_failed, flush_unrisen}
use Rattle.zb_command.proofs.process.finish.Goals as goal

pub returns-in-Ok-clause-unrisen : goal.returns-in-Ok-clause-unrisen
returns-in-Ok-clause-unrisen g c = flush_unrisen c.flush.result c.args.output.now c.tell.new.output c.flush.new.self
    c.in-Ok.ensures.cause.unrisen c.flush.ensures

pub returns-in-Ok-clause-failed : goal.returns-in-Ok-clause-failed
returns-in-Ok-clause-failed g c = flush_failed c.flush.result c.args.output.now c.tell.new.output c.flush.new.self
    c.in-Ok.ensures.cause.unrisen c.flush.ensures

pub returns-in-Err-clause-failed : goal.returns-in-Err-clause-failed
returns-in-Err-clause-failed g c = c.in-Err.ensures.cause.failed
