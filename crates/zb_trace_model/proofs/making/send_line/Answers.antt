use Rattle.zb_trace_model.proofs.Says.{send_says, outsider_says}
use Rattle.zb_trace_model.proofs.making.send_line.Goals as goal

-- src/making.rt:207:1
pub returns-clause-node : goal.returns-clause-node
returns-clause-node c = send_says c.args.event c.args.node c.args.frame c.args.bytes

-- src/making.rt:207:1
pub returns-clause-outsider : goal.returns-clause-outsider
returns-clause-outsider c = outsider_says c.args.event c.args.node c.args.frame c.args.bytes
