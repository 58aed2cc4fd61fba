use Rattle.std.proofs.Common.{arith, ◌+◌}
use Rattle.zb_gen.specs.Made.{node_name, node_line}
use Rattle.zb_sched_line.specs.Said.{Introduces}
use Rattle.zb_gen.proofs.Folds.{takes}
use Rattle.zb_gen.proofs.Said.{node_says}
use Rattle.zb_gen.proofs.lines.take_node_line.Goals as goal

pub returns-clause-lines : goal.returns-clause-lines
returns-clause-lines c =
    takes c.take_node.result c.args.maker.now c.take_node.new.maker (node_line c.args.i)
    (Introduces (node_name c.args.i) c.role_of.result (0x00124B0000000100 + c.args.i) (0x1000 + c.args.i) 8 4)
    (node_says c.args.i c.role_of.result (omega arith) c.role_of.ensures).means
    (rw c.name_of.ensures at c.take_node.ensures.line)
