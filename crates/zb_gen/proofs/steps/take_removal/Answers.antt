use Rattle.std.proofs.Common.{codes}
use Rattle.zb_gen.specs.Made.{node_name}
use Rattle.zb_sched_line.specs.Said.{Happens, Removes}
use Rattle.zb_gen.proofs.Folds.{takes}
use Rattle.zb_gen.proofs.Said.{remove_says}
use Rattle.zb_gen.proofs.steps.take_removal.Goals as goal

pub returns-clause-lines : goal.returns-clause-lines
returns-clause-lines c =
    takes c.take_event.result c.args.maker.now c.take_event.new.maker (codes "remove d1 via c")
    (Happens (Removes (node_name 1) (node_name 0)))
    (remove_says).means
    (rw (c.name_of.ensures, c.name_of-2.ensures) at c.take_event.ensures.line)
