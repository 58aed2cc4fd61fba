use Rattle.std.proofs.Common.{◌-◌, ◌≤◌}
use Rattle.zb_base.specs.Outside.{Unrisen}
use Rattle.zb_input.proofs.PartLaws.{IsComing}
use Rattle.zb_input.proofs.capture.read_by_several.Given as goal

abbrev pub invariant-rounds : goal.invariant-rounds
invariant-rounds g l = record {
  coming : IsComing (g.R.Source.rest l.fn.input) (g.R.Source.rest l.input) l.reader l.front.part.items l.front.count;
  within : l.front.count ≤ 16777216;
  later : g.R.Source.faults l.fn.input ≤ g.R.Source.faults l.input;
  unrisen : Unrisen (g.R.Source.faults l.fn.input) (g.R.Source.faults l.input);
}

abbrev pub decreases-rounds : goal.decreases-rounds
decreases-rounds g l = 16777217 - l.front.count
