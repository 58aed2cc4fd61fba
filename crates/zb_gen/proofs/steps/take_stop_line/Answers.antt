use Rattle.std.proofs.Common.{arith, [], ◌∷◌}
use Rattle.zb_gen.specs.Made.{node_name, stop_line}
use Rattle.zb_sched_line.specs.Said.{Happens, Stops}
use Rattle.zb_gen.proofs.Folds.{takes}
use Rattle.zb_gen.proofs.Said.{stop_says}
use Rattle.zb_gen.proofs.steps.take_stop_line.Goals as goal

pub returns-clause-lines : goal.returns-clause-lines
returns-clause-lines c =
    takes c.take_event.result c.args.maker.now c.take_event.new.maker (stop_line c.args.i c.args.calls c.args.byte)
    (Happens (Stops (node_name c.args.i) c.args.calls (c.args.byte ∷ [])))
    (stop_says c.args.i c.args.calls c.args.byte (omega arith) (omega arith) (omega arith)).means
    (rw (c.name_of.ensures, c.push.ensures.items, c.new-torn.ensures) at c.take_event.ensures.line)
