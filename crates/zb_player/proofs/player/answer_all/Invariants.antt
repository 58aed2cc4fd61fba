use Rattle.std.proofs.Common.{◌≡◌, ◌+◌, ◌*◌, ◌≤◌, map, take, true}
use Rattle.zb_base.specs.Outside.{Unrisen}
use Rattle.zb_player_events.specs.Told.{lines_told}
use Rattle.zb_player.specs.Benches.{AsksFor}
use Rattle.zb_player.specs.Runs.{Answers, AreMade}
use Rattle.zb_player.specs.Swapping.{AnswersGiven}
use Rattle.zb_sched_line.specs.Views.{event_of}
use Rattle.zb_player_scribe.specs.Pages.{IsClear}
use Rattle.zb_player.proofs.player.answer_all.Given as goal

abbrev pub invariant-loop-index : goal.invariant-loop-index
invariant-loop-index g l = record {
  clear : IsClear l.run.ledger.transcript.page;
  room : lines_told l.run.ledger ≤ 400 + 24 * l.index;
  still : g.B.Bench.still l.initial.bench ≡ true → g.B.Bench.still l.bench ≡ true;
  seats : l.run.seats ≡ l.initial.run.seats;
  asked : AsksFor l.initial.run.seats 1 (take l.index (map event_of l.events)) (g.B.Bench.asked l.initial.bench)
      (g.B.Bench.asked l.bench);
  answers : g.B.Bench.still l.initial.bench ≡ true → Answers l.initial.run l.initial.disks (map event_of l.events)
      l.index l.run l.disks (g.W.Sink.taken l.initial.out) (g.W.Sink.taken l.out);
  calls : g.B.Bench.still l.initial.bench ≡ true → AreMade l.initial.disks l.initial.run (map event_of l.events)
      l.index l.disks;
  given : AnswersGiven l.initial.run l.initial.disks (map event_of l.events) (g.B.Bench.gave l.bench) l.index l.run
      l.disks (g.W.Sink.taken l.initial.out) (g.W.Sink.taken l.out);
  later : g.W.Sink.faults l.initial.out ≤ g.W.Sink.faults l.out;
  unrisen : Unrisen (g.W.Sink.faults l.initial.out) (g.W.Sink.faults l.out);
}
