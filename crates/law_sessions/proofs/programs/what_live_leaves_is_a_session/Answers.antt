use Rattle.law_sessions.proofs.Lefts.{leaves_sessions, with_all_lines}
use Rattle.law_sessions.proofs.programs.what_live_leaves_is_a_session.Goals as goal
use Rattle.zb_centre_store.specs.Outside.{outside}
use Rattle.zb_live.specs.Moments.{input_of}

pub returns-clause-moments : goal.returns-clause-moments
returns-clause-moments g c = λ told image only can.
    leaves_sessions (outside g.D.Disk.tells g.D.Disk.state g.W.Sink.taken g.W.Sink.faults)
    (input_of (g.R.Source.rest c.args.input.now) (g.R.Source.calls c.args.input.now)
    (g.R.Source.faults c.args.input.now)) c.args.disk.now
    c.args.output.now image only c.live.result _ c.live.new.disk c.live.new.output c.live.ensures
    (g.met.D.Disk.only_now c.args.disk.now) told can

pub returns-clause-ended : goal.returns-clause-ended
returns-clause-ended g c =
    with_all_lines (outside g.D.Disk.tells g.D.Disk.state g.W.Sink.taken g.W.Sink.faults)
    (input_of (g.R.Source.rest c.args.input.now) (g.R.Source.calls c.args.input.now)
    (g.R.Source.faults c.args.input.now)) c.args.disk.now
    c.args.output.now c.live.result _ c.live.new.disk c.live.new.output c.live.ensures
