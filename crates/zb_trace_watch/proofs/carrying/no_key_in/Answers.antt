use Rattle.std.proofs.Common.{arith}
use Rattle.zb_trace_watch.proofs.Commands.{no_command}
use Rattle.zb_trace_watch.proofs.carrying.no_key_in.Goals as goal

pub returns : goal.returns
returns c = no_command c.args.bytes.now (λ i. omega (arith, c.type_inv.bytes i))
