use Rattle.std.proofs.Common.{◌≡◌, ◌∙◌, subst, IfSome}
use Rattle.zb_command.specs.Answers.{wanted}
use Rattle.zb_admin.specs.Serving.{outside}
use Rattle.zb_command.specs.Commands.{Auditing, Invocation, Serving}
use Rattle.zb_command.specs.Finishing.{Finishes}
use Rattle.zb_command.specs.Outcomes.{WritesFront}
use Rattle.zb_command.specs.Words.{invocation}
use Rattle.zb_command.proofs.Finishing.{front}
use Rattle.zb_command.proofs.Settling.{admin_gives, audit_gives}
use Rattle.zb_command.proofs.program.run.Goals as goal

pub returns-in-Some-clause-front : goal.returns-in-Some-clause-front
returns-in-Some-clause-front g c =
    λ job is.
    let rest = g.R.Source.rest c.args.input.now in
    let before = g.W.Sink.taken c.args.output.now in
    let after = g.W.Sink.taken c.carry_out.new.output in
    let told = c.in-Some.ensures.value ∙ is in
    let same : invocation c.in-Some.command ≡ job = cc told in
    let F : Invocation → Type 0 =
    λ j. IfSome (wanted j rest) (λ answer. WritesFront c.carry_out.result answer before after) in
    subst F same
    (front (invocation c.in-Some.command) c.carry_out.result rest before after (g.W.Sink.faults c.args.output.now)
    (g.W.Sink.faults c.carry_out.new.output) c.carry_out.ensures.ends)

pub returns-in-Some-clause-audit_complete : goal.returns-in-Some-clause-audit_complete
returns-in-Some-clause-audit_complete g c =
    λ is none write.
    let rest = g.R.Source.rest c.args.input.now in
    let before = g.W.Sink.taken c.args.output.now in
    let after = g.W.Sink.taken c.carry_out.new.output in
    let told = c.in-Some.ensures.value ∙ is in
    let same : invocation c.in-Some.command ≡ Auditing = cc told in
    audit_gives c.carry_out.result rest before after (g.W.Sink.faults c.args.output.now)
    (g.W.Sink.faults c.carry_out.new.output) (g.R.Source.faults c.args.input.now)
    (g.R.Source.faults c.carry_out.new.input)
    (subst (λ (j : Invocation). Finishes j c.carry_out.result rest before after (g.W.Sink.faults c.args.output.now)
    (g.W.Sink.faults c.carry_out.new.output)) same c.carry_out.ensures.ends)
    c.carry_out.ensures.read_fault none write

pub returns-in-Some-clause-admin_complete : goal.returns-in-Some-clause-admin_complete
returns-in-Some-clause-admin_complete g c =
    λ is content none write disk.
    let told = c.in-Some.ensures.value ∙ is in
    let same : invocation c.in-Some.command ≡ Serving = cc told in
    admin_gives (outside g.D.Disk.tells g.D.Disk.state g.W.Sink.taken g.W.Sink.faults) c.carry_out.result
    (g.R.Source.rest c.args.input.now) c.args.store.now c.args.output.now c.carry_out.new.store
    c.carry_out.new.output (g.R.Source.faults c.args.input.now) (g.R.Source.faults c.carry_out.new.input)
    (c.carry_out.ensures.served same) content c.carry_out.ensures.read_fault none write disk
