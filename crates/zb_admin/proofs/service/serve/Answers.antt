use Rattle.zb_admin.specs.Serving.{outside}
use Rattle.zb_admin.proofs.ServeLemmas.{not_opened, opened_over}
use Rattle.zb_admin.proofs.service.serve.Goals as goal

pub returns-in-Ok-clause-served : goal.returns-in-Ok-clause-served
returns-in-Ok-clause-served g c =
    opened_over (outside g.D.Disk.tells g.D.Disk.state g.W.Sink.taken g.W.Sink.faults) c.args.script.now
    c.args.disk.now c.args.out.now c.in-Ok.made c.judge.new.disk c.serve_steps.new.disk c.serve_steps.new.out
    c.serve_steps.result c.as_slice.result.now c.as_slice.ensures
    c.in-Ok.ensures.judged c.judge.ensures.count c.serve_steps.ensures.run c.serve_steps.ensures.faults
    c.serve_steps.ensures.told c.serve_steps.ensures.told_front c.serve_steps.ensures.told_worn
    c.serve_steps.ensures.unrisen

pub returns-in-Err-clause-served : goal.returns-in-Err-clause-served
returns-in-Err-clause-served g c = not_opened (outside g.D.Disk.tells g.D.Disk.state g.W.Sink.taken g.W.Sink.faults)
    c.args.script.now c.args.disk.now c.args.out.now c.judge.new.disk c.in-Err.fault c.in-Err.ensures.judged
