use Rattle.std.proofs.Common.{◌*◌}
use Rattle.zb_gen.specs.Made.{node_name, netkey_line}
use Rattle.zb_sched_line.specs.Said.{Holds}
use Rattle.zb_gen.specs.Words.{key_at}
use Rattle.zb_gen.proofs.Folds.{takes}
use Rattle.zb_gen.proofs.Said.{netkey_says}
use Rattle.zb_gen.proofs.lines.take_netkey_line.Goals as goal

pub returns-clause-lines : goal.returns-clause-lines
returns-clause-lines c =
    takes c.take.result c.args.maker.now c.take.new.self (netkey_line c.args.words.now.start c.args.n)
    (Holds (node_name 0) (key_at c.args.words.now.start (4 * c.args.n)) 0)
    (netkey_says c.args.words.now.start c.args.n).means
    (rw (c.name_of.ensures, c.key.ensures.value, c.requires.1) at c.take.ensures.line)
