use Rattle.std.proofs.Common.{arith}
use Rattle.zb_gen.specs.Made.{node_name, deliver_line}
use Rattle.zb_sched_line.specs.Said.{Happens, Delivers}
use Rattle.zb_gen.proofs.Folds.{takes}
use Rattle.zb_gen.proofs.Said.{deliver_says}
use Rattle.zb_gen.proofs.lines.take_deliver_line.Goals as goal

pub returns-clause-lines : goal.returns-clause-lines
returns-clause-lines c =
    takes c.take_event.result c.args.maker.now c.take_event.new.maker (deliver_line c.args.frame c.args.i)
    (Happens (Delivers c.args.frame (node_name c.args.i)))
    (deliver_says c.args.frame c.args.i (omega arith) (omega arith) (omega arith)).means
    (rw (c.name_of.ensures) at c.take_event.ensures.line)
