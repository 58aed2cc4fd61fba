use Rattle.zb_sched_line.proofs.LineAgain.{event_again, code_again, counter_again, draw_again, netkey_again, node_again}
use Rattle.zb_sched_line.proofs.laws.printed_line_reads.Goals as goal

pub returns-clause-node : goal.returns-clause-node
returns-clause-node c = node_again

pub returns-clause-code : goal.returns-clause-code
returns-clause-code c = λ name code fits. code_again name code fits.0 fits.1

pub returns-clause-netkey : goal.returns-clause-netkey
returns-clause-netkey c = netkey_again

pub returns-clause-counter : goal.returns-clause-counter
returns-clause-counter c = counter_again

pub returns-clause-draw : goal.returns-clause-draw
returns-clause-draw c = draw_again

pub returns-clause-event : goal.returns-clause-event
returns-clause-event c = event_again
