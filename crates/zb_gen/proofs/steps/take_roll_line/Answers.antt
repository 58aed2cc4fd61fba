use Rattle.std.proofs.Common.{codes}
use Rattle.zb_sched_line.specs.Said.{Happens, Rolls}
use Rattle.zb_gen.proofs.Folds.{takes}
use Rattle.zb_gen.proofs.Said.{roll_says}
use Rattle.zb_gen.proofs.steps.take_roll_line.Goals as goal

pub returns-clause-lines : goal.returns-clause-lines
returns-clause-lines c =
    takes c.take_event.result c.args.maker.now c.take_event.new.maker (codes "roll")
    (Happens Rolls)
    (roll_says).means
    (c.take_event.ensures.line)
