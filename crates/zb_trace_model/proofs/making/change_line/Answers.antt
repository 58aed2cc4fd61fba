use Rattle.zb_node_types.specs.Changes.{edit}
use Rattle.zb_trace_model.proofs.Says.{change_says}
use Rattle.zb_trace_model.proofs.making.change_line.Goals as goal

-- src/making.rt:67:1
pub returns-clause-says : goal.returns-clause-says
returns-clause-says c = change_says c.args.event c.args.node (edit c.args.change) c.line_of_change.result
    c.line_of_change.ensures
