use Rattle.std.proofs.Common.{sym, ◌∙◌, ap, subst}
use Rattle.zb_disk.specs.View.{Only}
use Rattle.zb_disk.specs.Memory.{Medium, memory_view}
use Rattle.zb_armed_host.specs.Driven.{IsAtRest}
use Rattle.zb_armed_host.proofs.Armings.{powered_calls}
use Rattle.zb_armed_host.proofs.Resets.{bytes_stay, at_rest}
use Rattle.zb_armed_host.proofs.power.reset.Goals as goal

pub returns-clause-rest : goal.returns-clause-rest
returns-clause-rest c = λ s held quiet.
    let is = c.power_on.ensures.after in
    subst (IsAtRest s) (sym is)
    (at_rest s c.args.disk.now held quiet
    (subst (λ (x : Medium). Only x.bytes (memory_view x).images) is c.power_on.ensures.only))

pub returns-clause-bytes : goal.returns-clause-bytes
returns-clause-bytes c = λ quiet. ap (λ (x : Medium). x.bytes) c.power_on.ensures.after ∙ bytes_stay c.args.disk.now
    quiet

pub returns-clause-calls : goal.returns-clause-calls
returns-clause-calls c = ap (λ (x : Medium). x.calls) c.power_on.ensures.after ∙ powered_calls c.args.disk.now
