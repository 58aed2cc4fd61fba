use Rattle.std.proofs.Common.{arith, codes}
use Rattle.zb_gen.specs.Made.{node_name, own_line}
use Rattle.zb_sched_line.specs.Said.{Happens, Boots}
use Rattle.zb_gen.proofs.Folds.{takes}
use Rattle.zb_gen.proofs.Said.{boot_says}
use Rattle.zb_gen.proofs.steps.take_boot_line.Goals as goal

pub returns-clause-lines : goal.returns-clause-lines
returns-clause-lines c =
    takes c.take_event.result c.args.maker.now c.take_event.new.maker (own_line (codes "boot") c.args.i)
    (Happens (Boots (node_name c.args.i)))
    (boot_says c.args.i (omega arith)).means
    (rw (c.name_of.ensures) at c.take_event.ensures.line)
