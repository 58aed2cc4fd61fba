use Rattle.std.proofs.Common.{arith, codes, [], ◌∷◌, false}
use Rattle.zb_text.specs.Pages.{line_of_words}
use Rattle.zb_gen.specs.Made.{node_name}
use Rattle.zb_sched_line.specs.Said.{Happens, Adopts}
use Rattle.zb_gen.proofs.Folds.{takes}
use Rattle.zb_gen.proofs.Said.{child_says}
use Rattle.zb_gen.proofs.lines.take_child_line.Goals as goal

pub returns-clause-lines : goal.returns-clause-lines
returns-clause-lines c =
    takes c.take_event.result c.args.maker.now c.take_event.new.maker
    (line_of_words (codes "child" ∷ codes "c" ∷ node_name c.args.i ∷ codes "join" ∷ []))
    (Happens (Adopts (node_name 0) (node_name c.args.i) false))
    (child_says c.args.i (omega arith)).means
    (rw (c.name_of.ensures, c.name_of-2.ensures) at c.take_event.ensures.line)
