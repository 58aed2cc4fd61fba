use Rattle.std.proofs.Common.{arith, [], ◌∷◌}
use Rattle.zb_gen.specs.Made.{node_name, say_line}
use Rattle.zb_sched_line.specs.Said.{Happens, Says as Speaks}
use Rattle.zb_gen.proofs.Folds.{takes}
use Rattle.zb_gen.proofs.Said.{say_says}
use Rattle.zb_gen.proofs.steps.take_say_line.Goals as goal

pub returns-clause-lines : goal.returns-clause-lines
returns-clause-lines c =
    takes c.take_event.result c.args.maker.now c.take_event.new.maker (say_line c.args.i c.args.byte)
    (Happens (Speaks (node_name c.args.i) 0xFFFF (c.args.byte ∷ [])))
    (say_says c.args.i c.args.byte (omega arith) (omega arith)).means
    (rw (c.name_of.ensures, c.push.ensures.items, c.new-bytes.ensures) at c.take_event.ensures.line)
