use Rattle.std.proofs.Common.{◌≤◌, take}
use Rattle.std.specs.Io.KnownBytes.{Appends}
use Rattle.zb_base.specs.Outside.{Unrisen}
use Rattle.zb_inspect.specs.Texts.{pages_text}
use Rattle.zb_inspect.proofs.reporting.write_pages.Given as goal

abbrev pub invariant-loop-page : goal.invariant-loop-page
invariant-loop-page g l = record {
  so_far : Appends (g.W.Sink.taken l.initial.out) (g.W.Sink.taken l.out) (pages_text (take l.page-index l.pages));
  later : g.W.Sink.faults l.initial.out ≤ g.W.Sink.faults l.out;
  unrisen : Unrisen (g.W.Sink.faults l.initial.out) (g.W.Sink.faults l.out);
}
