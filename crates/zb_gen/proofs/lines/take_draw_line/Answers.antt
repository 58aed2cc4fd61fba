use Rattle.std.proofs.Common.{◌+◌, ◌*◌}
use Rattle.zb_gen.specs.Made.{draw_line}
use Rattle.zb_sched_line.specs.Said.{Draws}
use Rattle.zb_gen.specs.Words.{key_at}
use Rattle.zb_gen.proofs.Folds.{takes}
use Rattle.zb_gen.proofs.Said.{draw_says}
use Rattle.zb_gen.proofs.lines.take_draw_line.Goals as goal

pub returns-clause-lines : goal.returns-clause-lines
returns-clause-lines c =
    takes c.take.result c.args.maker.now c.take.new.self (draw_line c.args.words.now.start c.args.n c.args.j)
    (Draws (key_at c.args.words.now.start (4 * c.args.n + 4 + 4 * c.args.j)))
    (draw_says c.args.words.now.start c.args.n c.args.j).means
    (rw (c.key.ensures.value, c.requires.2) at c.take.ensures.line)
