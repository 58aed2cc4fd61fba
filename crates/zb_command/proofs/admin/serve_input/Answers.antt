use Rattle.std.proofs.Common.{◌≤◌, ◌∙◌, ℕ, ap, sym, subst}
use Rattle.zb_admin.specs.Serving.{outside}
use Rattle.zb_command.specs.Serving.{Serviced}
use Rattle.zb_command.specs.Statuses.{served_status}
use Rattle.zb_command.specs.declared.status.Status.{Status}
use Rattle.zb_command.proofs.ServedScripts.{served_of, status_says}
use Rattle.zb_command.proofs.admin.serve_input.Goals as goal
use Rattle.zb_base.specs.Limits.{longest_input}

pub returns-in-Ok-read-clause-served : goal.returns-in-Ok-read-clause-served
returns-in-Ok-read-clause-served g c =
    let x = outside g.D.Disk.tells g.D.Disk.state g.W.Sink.taken g.W.Sink.faults in
    let rest = g.R.Source.rest c.args.input.now in
    subst (λ (s : Status). Serviced x s rest c.args.store.now c.args.output.now c.serve.new.disk c.serve.new.out)
    (sym c.ended.ensures)
    (status_says x rest c.args.store.now c.args.output.now c.serve.result c.serve.new.disk c.serve.new.out
    (served_of x rest c.in-Ok.bytes.items c.as_slice.result.now c.in-Ok-read.script c.args.store.now c.args.output.now
    c.serve.result c.serve.new.disk c.serve.new.out c.in-Ok.ensures.whole
    (subst (λ (n : ℕ). n ≤ longest_input) c.in-Ok.bytes.ok.0 c.in-Ok.ensures.short) c.as_slice.ensures.value
    c.in-Ok-read.ensures.exact c.serve.ensures.served))

pub returns-in-Ok-read-clause-no_store_fault : goal.returns-in-Ok-read-clause-no_store_fault
returns-in-Ok-read-clause-no_store_fault g c =
    λ not. c.serve.ensures.served.unrisen (λ is. not (c.ended.ensures ∙ ap served_status is))
