use Rattle.std.proofs.Common.{ap, refl}
use Rattle.zb_centre_store.specs.Events.{task_of}
use Rattle.zb_centre_store.specs.declared.fault.AdminFault.TheVariants.{Disk}
use Rattle.zb_centre_store.proofs.StoreLemmas.{same_fault}
use Rattle.zb_stored_tables.specs.Cores.{CoreValue}
use Rattle.zb_live.proofs.SessionLemmas.{always, event_lines_lack, event_lines_stand, handled_fault, lines_answered, no_setting, short_unworn, told_short}
use Rattle.zb_live.proofs.session.happen.Goals as goal

pub returns-in-Ok-clause-happened : goal.returns-in-Ok-clause-happened
returns-in-Ok-clause-happened g c = λ told setting s up called centre.
    let entry = c.args.entry.now in
    event_lines_stand g.D.Disk.tells told setting s (task_of c.args.event.now) entry.log entry.group.event
    entry.group.frame
    entry.group.node.bytes c.args.host.now c.handle.new.host (g.D.Disk.state c.args.disk.now)
    (g.D.Disk.state c.handle.new.disk) up
    c.in-Ok.plan c.put_answer.result c.args.page.now.items c.put_answer.new.page.items (c.in-Ok.ensures.handled
    setting)
    c.put_answer.ensures.prints c.put_answer.ensures.sends called centre

pub returns-in-Ok-clause-store : goal.returns-in-Ok-clause-store
returns-in-Ok-clause-store g c = always c.put_answer.result (c.in-Ok.ensures.handled no_setting).store

pub returns-in-Ok-clause-unrisen : goal.returns-in-Ok-clause-unrisen
returns-in-Ok-clause-unrisen g c = λ not. c.in-Ok.ensures.unrisen (λ is. cc is)

pub returns-in-Ok-clause-faults : goal.returns-in-Ok-clause-faults
returns-in-Ok-clause-faults g c = told_short g.D.Disk.tells (g.D.Disk.state c.args.disk.now)
    (g.D.Disk.state c.handle.new.disk) c.args.host.now c.put_answer.result c.put_answer.ensures.short
    (c.in-Ok.ensures.unrisen (λ is. cc is))

pub returns-in-Err-clause-happened : goal.returns-in-Err-clause-happened
returns-in-Err-clause-happened g c = λ told setting s up called centre.
    let entry = c.args.entry.now in
    event_lines_lack g.D.Disk.tells told setting s (task_of c.args.event.now) entry.log entry.group.event
    entry.group.frame
    entry.group.node.bytes c.args.host.now c.handle.new.host (g.D.Disk.state c.args.disk.now)
    (g.D.Disk.state c.handle.new.disk) up
    _ c.args.page.now.items _ c.in-Err.fault (c.in-Err.ensures.handled setting)

pub returns-in-Err-clause-faults : goal.returns-in-Err-clause-faults
returns-in-Err-clause-faults g c = handled_fault g.D.Disk.tells (g.D.Disk.state c.args.disk.now)
    (g.D.Disk.state c.handle.new.disk) c.args.host.now c.in-Err.fault
    (λ setting. (c.in-Err.ensures.handled setting).faults)

pub returns-in-Err-clause-unrisen : goal.returns-in-Err-clause-unrisen
returns-in-Err-clause-unrisen g c = λ not. c.in-Err.ensures.unrisen (same_fault c.in-Err.fault Disk not)

pub returns-in-Ok-clause-configured : goal.returns-in-Ok-clause-configured
returns-in-Ok-clause-configured g c =
    let core = c.args.host.now.core in
    always c.put_answer.result
    (ap (λ (x : CoreValue). x.setting) ((c.in-Ok.ensures.handled core.setting).follows core.tables refl).1)

pub returns-in-Ok-clause-answered : goal.returns-in-Ok-clause-answered
returns-in-Ok-clause-answered g c = λ setting s core called centre.
    let entry = c.args.entry.now in
    lines_answered g.D.Disk.tells setting s (task_of c.args.event.now) entry.log entry.group.event entry.group.frame
    entry.group.node.bytes c.args.host.now c.handle.new.host (g.D.Disk.state c.args.disk.now)
    (g.D.Disk.state c.handle.new.disk) c.in-Ok.plan c.put_answer.result c.args.page.now.items
    c.put_answer.new.page.items core
    (c.in-Ok.ensures.handled setting) c.put_answer.ensures.prints c.put_answer.ensures.sends called centre

pub returns-in-Ok-clause-worn : goal.returns-in-Ok-clause-worn
returns-in-Ok-clause-worn g c = short_unworn _ c.put_answer.result c.put_answer.ensures.short

pub returns-in-Err-clause-worn : goal.returns-in-Err-clause-worn
returns-in-Err-clause-worn g c = λ is setting s core. ((c.in-Err.ensures.handled setting).worn is).1 s core

pub returns-in-Err-clause-answered : goal.returns-in-Err-clause-answered
returns-in-Err-clause-answered g c =
    λ setting s core called centre. record { core = tt; prints = tt; sends = tt }
