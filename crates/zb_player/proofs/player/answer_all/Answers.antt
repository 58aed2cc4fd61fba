use Rattle.std.proofs.Common.{◌≡◌, ◌∙◌, map, refl, true, arith}
use Rattle.zb_player.specs.Runs.{PrintsAll}
use Rattle.zb_player.specs.Swapping.{PrintsGiven}
use Rattle.zb_sched_line.specs.Views.{event_of}
use Rattle.zb_player.proofs.Asking.{asks_all, asks_at_first, asks_so_far}
use Rattle.zb_player.proofs.CallsMade.{more_made, none_made}
use Rattle.zb_player.proofs.GivenSteps.{cut_given, more_given, no_given, stopped_given}
use Rattle.zb_player.proofs.Looping.{cut_answers, more_answers, no_answers, stopped_answers}
use Rattle.zb_player.proofs.Paging.{clear_of}
use Rattle.zb_player.proofs.RunSteps.{on_err}
use Rattle.zb_player.proofs.player.answer_all.Goals as goal

pub loop-index-init : goal.loop-index-init
loop-index-init g c = record {
  clear = c.requires.clear;
  room = c.requires.room;
  still = λ s. s;
  seats = refl;
  asked = asks_at_first c.args.run.now.seats (g.B.Bench.asked c.args.bench.now);
  answers = λ s. no_answers c.args.events.now c.args.run.now c.args.disks.now (g.W.Sink.taken c.args.out.now)
      c.requires.fit;
  calls = λ s. none_made c.args.events.now c.args.run.now c.args.disks.now;
  given = no_given c.args.events.now c.args.run.now c.args.disks.now (g.B.Bench.gave c.args.bench.now)
      (g.W.Sink.taken c.args.out.now) c.requires.fit;
  later = omega arith;
  unrisen = refl;
}

pub returns-in_err-answer-clause-front : goal.returns-in_err-answer-clause-front
returns-in_err-answer-clause-front g c =
    let front : g.B.Bench.still c.args.bench.now ≡ true
    → PrintsAll c.args.run.now c.args.disks.now (map event_of c.args.events.now) (g.W.Sink.taken c.args.out.now)
    (g.W.Sink.taken c.loop-index.out) = λ s.
    stopped_answers c.args.events.now c.loop-index.index c.args.run.now c.loop-index.run c.args.disks.now
    c.loop-index.disks
    (g.W.Sink.taken c.args.out.now) (g.W.Sink.taken c.loop-index.out) (c.loop-index.invariant.answers s) in
    on_err _ _ front

pub returns-in_err-hand_out-clause-front : goal.returns-in_err-hand_out-clause-front
returns-in_err-hand_out-clause-front g c =
    let front : g.B.Bench.still c.args.bench.now ≡ true
    → PrintsAll c.args.run.now c.args.disks.now (map event_of c.args.events.now) (g.W.Sink.taken c.args.out.now)
    (g.W.Sink.taken c.hand_out.new.out) = λ s.
    cut_answers c.args.events.now c.loop-index.index c.index-events-index.result c.args.run.now c.loop-index.run
    c.answer.new.self c.args.disks.now c.loop-index.disks c.answer.new.disks
    (g.W.Sink.taken c.args.out.now) (g.W.Sink.taken c.loop-index.out) (g.W.Sink.taken c.hand_out.new.out)
    (omega arith) c.index-events-index.is c.loop-index.invariant.clear (c.loop-index.invariant.answers s)
    (c.in_ok-answer.ensures.goes (c.loop-index.invariant.still s)) c.in_err-hand_out.ensures.front.0 in
    on_err _ _ front

pub returns-in_err-answer-clause-swapped_front : goal.returns-in_err-answer-clause-swapped_front
returns-in_err-answer-clause-swapped_front g c =
    let front : PrintsGiven c.args.run.now c.args.disks.now (map event_of c.args.events.now)
    (g.B.Bench.gave c.answer.new.bench) (g.W.Sink.taken c.args.out.now) (g.W.Sink.taken c.loop-index.out) =
    stopped_given c.args.events.now c.loop-index.index c.index-events-index.result
    (g.B.Bench.gives c.loop-index.bench) (g.B.Bench.gave c.loop-index.bench) (g.B.Bench.gave c.answer.new.bench)
    c.args.run.now c.loop-index.run c.args.disks.now c.loop-index.disks
    (g.W.Sink.taken c.args.out.now) (g.W.Sink.taken c.loop-index.out)
    (omega arith) c.loop-index.invariant.seats c.loop-index.invariant.given c.answer.ensures.gave in
    on_err _ _ front

pub returns-in_err-hand_out-clause-swapped_front : goal.returns-in_err-hand_out-clause-swapped_front
returns-in_err-hand_out-clause-swapped_front g c =
    let front : PrintsGiven c.args.run.now c.args.disks.now (map event_of c.args.events.now)
    (g.B.Bench.gave c.answer.new.bench) (g.W.Sink.taken c.args.out.now) (g.W.Sink.taken c.hand_out.new.out) =
    cut_given c.args.events.now c.loop-index.index c.index-events-index.result
    (g.B.Bench.gives c.loop-index.bench) (g.B.Bench.gave c.loop-index.bench) (g.B.Bench.gave c.answer.new.bench)
    c.args.run.now c.loop-index.run c.answer.new.self c.args.disks.now c.loop-index.disks c.answer.new.disks
    (g.W.Sink.taken c.args.out.now) (g.W.Sink.taken c.loop-index.out) (g.W.Sink.taken c.hand_out.new.out)
    (omega arith) c.index-events-index.is c.loop-index.invariant.seats c.loop-index.invariant.clear
    c.loop-index.invariant.given c.in_ok-answer.ensures.gave c.in_ok-answer.ensures.passes
    c.in_err-hand_out.ensures.front.0 in
    on_err _ _ front

pub loop-index-preserved : goal.loop-index-preserved
loop-index-preserved g c = record {
  clear = clear_of c.answer.new.self.ledger.transcript.page _ c.in_ok-hand_out.ensures.whole.1;
  room = omega (arith, c.loop-index.invariant.room, c.in_ok-answer.ensures.few);
  still = λ s. c.in_ok-answer.ensures.still (c.loop-index.invariant.still s);
  seats = c.in_ok-answer.ensures.seats ∙ c.loop-index.invariant.seats;
  asked = asks_so_far c.args.run.now.seats c.loop-index.run.seats c.args.events.now c.loop-index.index
      c.index-events-index.result (g.B.Bench.asked c.args.bench.now) (g.B.Bench.asked c.loop-index.bench)
      (g.B.Bench.asked c.answer.new.bench) (omega arith) c.index-events-index.is c.loop-index.invariant.seats
      c.loop-index.invariant.asked c.in_ok-answer.ensures.asked;
  answers = λ s. more_answers c.args.events.now c.loop-index.index c.index-events-index.result c.args.run.now
      c.loop-index.run c.answer.new.self _
      c.args.disks.now c.loop-index.disks c.answer.new.disks
      (g.W.Sink.taken c.args.out.now) (g.W.Sink.taken c.loop-index.out) (g.W.Sink.taken c.hand_out.new.out)
      (omega arith) c.index-events-index.is c.loop-index.invariant.clear (c.loop-index.invariant.answers s)
      (c.in_ok-answer.ensures.goes (c.loop-index.invariant.still s)) c.in_ok-hand_out.ensures.whole.0
      (record { nodes = refl; seats = refl; draws = refl; scribe = refl }) c.in_ok-hand_out.ensures.whole.1;
  calls = λ s. more_made c.args.events.now c.loop-index.index c.index-events-index.result c.args.run.now
      c.loop-index.run
      c.args.disks.now c.loop-index.disks c.answer.new.disks (g.W.Sink.taken c.args.out.now)
      (g.W.Sink.taken c.loop-index.out)
      (omega arith) c.index-events-index.is (c.loop-index.invariant.answers s) (c.loop-index.invariant.calls s)
      (c.in_ok-answer.ensures.calls (c.loop-index.invariant.still s));
  given = more_given c.args.events.now c.loop-index.index c.index-events-index.result
      (g.B.Bench.gives c.loop-index.bench) (g.B.Bench.gave c.loop-index.bench) (g.B.Bench.gave c.answer.new.bench)
      c.args.run.now c.loop-index.run c.answer.new.self _ c.args.disks.now c.loop-index.disks c.answer.new.disks
      (g.W.Sink.taken c.args.out.now) (g.W.Sink.taken c.loop-index.out) (g.W.Sink.taken c.hand_out.new.out)
      (omega arith) c.index-events-index.is c.loop-index.invariant.seats c.loop-index.invariant.clear
      c.loop-index.invariant.given c.in_ok-answer.ensures.gave c.in_ok-answer.ensures.passes
      c.in_ok-hand_out.ensures.whole.0
      (record { nodes = refl; seats = refl; draws = refl; scribe = refl }) c.in_ok-hand_out.ensures.whole.1;
  later = omega (arith, c.loop-index.invariant.later, c.in_ok-hand_out.ensures.cause.later);
  unrisen = c.in_ok-hand_out.ensures.cause.unrisen ∙ c.loop-index.invariant.unrisen;
}

pub returns-clause-asked : goal.returns-clause-asked
returns-clause-asked g c =
    asks_all c.args.run.now.seats c.args.events.now c.loop-index.index (g.B.Bench.asked c.args.bench.now)
    (g.B.Bench.asked c.loop-index.bench) (omega (arith, c.loop-index-test.false, c.loop-index.auto.index-end))
    c.loop-index.invariant.asked
