use Rattle.std.proofs.Common.{sym, subst}
use Rattle.zb_command.specs.Finishing.{Finishes}
use Rattle.zb_command.specs.Words.{invocation}
use Rattle.zb_command.specs.declared.command.Command.{Command}
use Rattle.zb_command.proofs.program.carry_out.Goals as goal

pub returns-in-Sniff-clause-ends : goal.returns-in-Sniff-clause-ends
returns-in-Sniff-clause-ends g c =
    let E : Command → Type 0 = λ k. Finishes (invocation k) c.sniff_input.result (g.R.Source.rest c.args.input.now)
    (g.W.Sink.taken c.args.output.now)
    (g.W.Sink.taken c.sniff_input.new.output) (g.W.Sink.faults c.args.output.now)
    (g.W.Sink.faults c.sniff_input.new.output) in
    subst E (sym c.in-Sniff.is) c.sniff_input.ensures.ends
