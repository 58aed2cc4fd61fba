use Rattle.zb_model.specs.Readings.{stations_of}
use Rattle.zb_model_real.specs.Real.{real}
use Rattle.zb_player_scribe.proofs.Telling.{kept_more, one_told}
use Rattle.zb_player_scribe.proofs.scribe.Scribe.tell.Goals as goal
use Rattle.zb_trace.specs.Views.{logged}
use Rattle.zb_trace_watch.proofs.Starting.{readers_find}

pub returns-clause-kept : goal.returns-clause-kept
returns-clause-kept c = λ h kept.
    kept_more h (logged (stations_of h) c.args.line.now) c.args.self.now c.count.new.self c.line.new.self
    (c.in_ok-line.ensures real h readers_find kept.watch)
    (c.in_ok-count.ensures.counts (stations_of h)) kept

pub returns-clause-tells : goal.returns-clause-tells
returns-clause-tells c = λ known m says none.
    one_told known c.args.line.now m c.args.self.now c.count.new.self c.args.page.now c.print.new.self
    c.in_ok-print.ensures (returns-clause-kept c) says none
