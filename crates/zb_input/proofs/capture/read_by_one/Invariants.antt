use Rattle.std.proofs.Common.{◌-◌, ◌≤◌}
use Rattle.zb_base.specs.Outside.{Unrisen}
use Rattle.zb_input.proofs.PartLaws.{IsComing}
use Rattle.zb_input.proofs.capture.read_by_one.Given as goal

abbrev pub invariant-parts : goal.invariant-parts
invariant-parts g l = record {
  coming : IsComing (g.R.Source.rest l.fn.input) (g.R.Source.rest l.input) l.reader l.incoming.part.items
      l.incoming.count;
  within : l.incoming.count ≤ 16777216;
  later : g.R.Source.faults l.fn.input ≤ g.R.Source.faults l.input;
  unrisen : Unrisen (g.R.Source.faults l.fn.input) (g.R.Source.faults l.input);
}

abbrev pub decreases-parts : goal.decreases-parts
decreases-parts g l = 16777217 - l.incoming.count
