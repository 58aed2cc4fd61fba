use Rattle.zb_centre_store.proofs.StoreLemmas.{booted_failed, has_booted}
use Rattle.zb_centre_store.proofs.store.boot.Goals as goal

pub returns-in-Ok-clause-booted : goal.returns-in-Ok-clause-booted
returns-in-Ok-clause-booted g c =
    let step = c.in-Ok.ensures.step in
    has_booted g.D.Disk.tells c.args.config.now (g.D.Disk.state c.args.disk.now) (g.D.Disk.state c.boot.new.disk)
    c.in-Ok.host
    step.answer step.ready c.in-Ok.ensures.core step.moments c.in-Ok.ensures.up c.in-Ok.ensures.unrisen

pub returns-in-Err-clause-booted : goal.returns-in-Err-clause-booted
returns-in-Err-clause-booted g c =
    let step = c.in-Err.ensures.step in
    booted_failed g.D.Disk.tells _ (g.D.Disk.state c.args.disk.now) (g.D.Disk.state c.boot.new.disk) c.in-Err.fault
    c.from.result c.from.ensures step.moments step.faults

pub returns-in-Ok-clause-configured : goal.returns-in-Ok-clause-configured
returns-in-Ok-clause-configured g c = c.in-Ok.ensures.configured.2.setting
