use Rattle.zb_admin.specs.Serving.{outside}
use Rattle.zb_setting.specs.Settings.{setting_for}
use Rattle.zb_admin.proofs.CommandLemmas.{always, changes_at}
use Rattle.std.proofs.Common.{refl}
use Rattle.std.proofs.KnownBytes.{Appends-nil}
use Rattle.zb_admin.proofs.FollowLemmas.{page_front, page_written}
use Rattle.zb_admin.proofs.ServeLemmas.{command_fault, step_cut, step_written, write_fault, written_worn}
use Rattle.zb_admin.proofs.service.serve_step.Goals as goal

pub returns-in-Ok-clause-served : goal.returns-in-Ok-clause-served
returns-in-Ok-clause-served g c = λ told b stood.
    step_written (outside g.D.Disk.tells g.D.Disk.state g.W.Sink.taken g.W.Sink.faults)
    (setting_for c.args.config.now) c.args.step.now b c.args.disk.now c.carry_out.new.disk c.args.out.now
    c.write_page.new.out c.carry_out.new.centre c.args.page.now.items c.carry_out.new.page.items
    c.write_page.result c.requires.empty (c.in-Ok.ensures.carried told b stood) c.write_page.ensures.whole
    c.write_page.ensures.front c.write_page.ensures.fault

pub returns-in-Err-clause-served : goal.returns-in-Err-clause-served
returns-in-Err-clause-served g c = λ told b stood.
    step_cut (outside g.D.Disk.tells g.D.Disk.state g.W.Sink.taken g.W.Sink.faults) (setting_for c.args.config.now)
    c.args.step.now b c.args.disk.now c.carry_out.new.disk c.args.out.now c.args.out.now c.carry_out.new.centre
    c.args.page.now.items c.carry_out.new.page.items
    c.in-Err.fault (c.in-Err.ensures.carried told b stood)
    (λ is. changes_at (setting_for c.args.config.now) c.args.step.now b c.args.centre.now
    (g.D.Disk.state c.args.disk.now) stood (c.in-Err.ensures.worn is))

pub returns-in-Err-clause-faults : goal.returns-in-Err-clause-faults
returns-in-Err-clause-faults g c =
    command_fault (outside g.D.Disk.tells g.D.Disk.state g.W.Sink.taken g.W.Sink.faults)
    (setting_for c.args.config.now) c.args.centre.now c.args.disk.now c.carry_out.new.disk c.args.out.now
    c.args.out.now c.in-Err.fault c.in-Err.ensures.faults

pub returns-in-Ok-clause-unrisen : goal.returns-in-Ok-clause-unrisen
returns-in-Ok-clause-unrisen g c = λ not. c.in-Ok.ensures.unrisen (λ is. cc is)

pub returns-in-Ok-clause-faults : goal.returns-in-Ok-clause-faults
returns-in-Ok-clause-faults g c =
    write_fault (outside g.D.Disk.tells g.D.Disk.state g.W.Sink.taken g.W.Sink.faults) (setting_for c.args.config.now)
    c.args.centre.now c.args.disk.now c.carry_out.new.disk c.args.out.now c.write_page.new.out c.write_page.result
    c.write_page.ensures.fault (c.in-Ok.ensures.unrisen (λ is. cc is))

pub returns-in-Ok-clause-configured : goal.returns-in-Ok-clause-configured
returns-in-Ok-clause-configured g c = always c.write_page.result c.in-Ok.ensures.configured

pub returns-in-Ok-clause-follows : goal.returns-in-Ok-clause-follows
returns-in-Ok-clause-follows g c = always c.write_page.result c.in-Ok.ensures.follows

pub returns-in-Ok-clause-writes : goal.returns-in-Ok-clause-writes
returns-in-Ok-clause-writes g c =
    page_written c.write_page.result (g.W.Sink.taken c.args.out.now) (g.W.Sink.taken c.write_page.new.out)
    c.args.page.now.items c.carry_out.new.page.items _ c.requires.empty c.in-Ok.ensures.writes
    c.write_page.ensures.whole

pub returns-in-Ok-clause-front : goal.returns-in-Ok-clause-front
returns-in-Ok-clause-front g c =
    page_front c.write_page.result (g.W.Sink.taken c.args.out.now) (g.W.Sink.taken c.write_page.new.out)
    c.args.page.now.items c.carry_out.new.page.items _ c.requires.empty c.in-Ok.ensures.writes
    c.write_page.ensures.front

pub returns-in-Err-clause-front : goal.returns-in-Err-clause-front
returns-in-Err-clause-front g c = (0, Appends-nil (g.W.Sink.taken c.args.out.now))

pub returns-in-Err-clause-worn : goal.returns-in-Err-clause-worn
returns-in-Err-clause-worn g c = λ is. (c.in-Err.ensures.worn is, refl)

pub returns-in-Ok-clause-worn : goal.returns-in-Ok-clause-worn
returns-in-Ok-clause-worn g c = written_worn _ c.write_page.result _ _ c.write_page.ensures.fault
