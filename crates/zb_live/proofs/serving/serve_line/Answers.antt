use Rattle.zb_centre_store.specs.Outside.{outside}
use Rattle.zb_live.specs.Alive.{living_of}
use Rattle.zb_live.specs.Living.{done}
use Rattle.zb_live.proofs.FollowLemmas.{line_told, line_told_front, line_untold}
use Rattle.zb_live.proofs.ServingLemmas.{always, line_cut, line_fault, line_stands, line_written, write_fault, written_but}
use Rattle.zb_live.proofs.serving.serve_line.Goals as goal

pub returns-in-Ok-clause-served : goal.returns-in-Ok-clause-served
returns-in-Ok-clause-served g c = λ told found alive.
    line_written (outside g.D.Disk.tells g.D.Disk.state g.W.Sink.taken g.W.Sink.faults) found c.args.session.now
    c.take.new.self (done found c.args.line.now (living_of c.args.session.now))
    c.args.disk.now c.take.new.disk c.args.output.now c.write_page.new.output c.args.page.now.items
    c.take.new.page.items c.write_page.result
    (c.in-Ok.ensures.taken told found alive) c.in-Ok.ensures.waits c.requires.empty c.write_page.ensures.whole
    c.write_page.ensures.front

pub returns-in-Ok-clause-store : goal.returns-in-Ok-clause-store
returns-in-Ok-clause-store g c = always c.write_page.result c.in-Ok.ensures.store

pub returns-in-Ok-clause-waits : goal.returns-in-Ok-clause-waits
returns-in-Ok-clause-waits g c = always c.write_page.result c.in-Ok.ensures.waits

pub returns-in-Ok-clause-unrisen : goal.returns-in-Ok-clause-unrisen
returns-in-Ok-clause-unrisen g c = λ not. c.in-Ok.ensures.unrisen (λ is. cc is)

pub returns-in-Ok-clause-faults : goal.returns-in-Ok-clause-faults
returns-in-Ok-clause-faults g c =
    write_fault (outside g.D.Disk.tells g.D.Disk.state g.W.Sink.taken g.W.Sink.faults) c.args.line.now
    c.args.session.now c.args.disk.now c.take.new.disk c.args.output.now c.write_page.new.output c.write_page.result
    c.write_page.ensures.fault

pub returns-in-Err-clause-served : goal.returns-in-Err-clause-served
returns-in-Err-clause-served g c = λ told found alive.
    line_cut (outside g.D.Disk.tells g.D.Disk.state g.W.Sink.taken g.W.Sink.faults) found c.args.session.now
    c.take.new.self (done found c.args.line.now (living_of c.args.session.now))
    c.args.disk.now c.take.new.disk c.args.output.now c.args.output.now c.args.page.now.items c.take.new.page.items
    c.in-Err.fault _
    (c.in-Err.ensures.taken told found alive)

pub returns-in-Err-clause-faults : goal.returns-in-Err-clause-faults
returns-in-Err-clause-faults g c =
    line_fault (outside g.D.Disk.tells g.D.Disk.state g.W.Sink.taken g.W.Sink.faults) c.args.line.now
    c.args.session.now c.args.disk.now c.take.new.disk c.args.output.now c.in-Err.fault _ c.from.ensures
    c.in-Err.ensures.faults

pub returns-in-Ok-clause-unwritten : goal.returns-in-Ok-clause-unwritten
returns-in-Ok-clause-unwritten g c =
    written_but c.write_page.result (g.W.Sink.faults c.args.output.now) (g.W.Sink.faults c.write_page.new.output)
    c.write_page.ensures.unwritten c.write_page.ensures.fault

pub returns-in-Err-clause-unrisen : goal.returns-in-Err-clause-unrisen
returns-in-Err-clause-unrisen g c = line_stands c.in-Err.fault _ _ _ c.from.ensures c.in-Err.ensures.unrisen

pub returns-in-Ok-clause-told : goal.returns-in-Ok-clause-told
returns-in-Ok-clause-told g c =
    line_told c.args.line.now c.args.session.now c.take.new.self c.args.page.now.items c.take.new.page.items
    c.requires.empty c.in-Ok.ensures.follows c.write_page.result (g.W.Sink.taken c.args.output.now)
    (g.W.Sink.taken c.write_page.new.output) c.write_page.ensures.whole

pub returns-in-Ok-clause-told_front : goal.returns-in-Ok-clause-told_front
returns-in-Ok-clause-told_front g c =
    line_told_front c.args.line.now c.args.session.now c.take.new.self c.args.page.now.items c.take.new.page.items
    c.requires.empty c.in-Ok.ensures.follows c.write_page.result (g.W.Sink.taken c.args.output.now)
    (g.W.Sink.taken c.write_page.new.output) c.write_page.ensures.front

pub returns-in-Err-clause-told_front : goal.returns-in-Err-clause-told_front
returns-in-Err-clause-told_front g c =
    line_untold c.args.line.now c.args.session.now (g.W.Sink.taken c.args.output.now)
