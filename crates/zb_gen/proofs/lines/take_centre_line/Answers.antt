use Rattle.zb_gen.specs.Made.{node_name, centre_line}
use Rattle.zb_sched_line.specs.Said.{Introduces}
use Rattle.zb_base.specs.declared.node.Role.TheVariants.{Centre}
use Rattle.zb_gen.proofs.Folds.{takes}
use Rattle.zb_gen.proofs.Said.{centre_says}
use Rattle.zb_gen.proofs.lines.take_centre_line.Goals as goal

pub returns-clause-lines : goal.returns-clause-lines
returns-clause-lines c =
    takes c.take_node.result c.args.maker.now c.take_node.new.maker (centre_line)
    (Introduces (node_name 0) Centre 0x00124B0000000001 0 8 4)
    (centre_says).means
    (rw c.name_of.ensures at c.take_node.ensures.line)
