use Rattle.std.proofs.Common.{◌-◌, ◌≤◌, vec_len}
use Rattle.zb_base.specs.Outside.{Unrisen}
use Rattle.zb_input.specs.Inputs.{Grows}
use Rattle.zb_input.proofs.input.read_on.Given as goal

abbrev pub decreases-loop-buffer : goal.decreases-loop-buffer
decreases-loop-buffer g l = l.limit - vec_len l.bytes

abbrev pub invariant-loop-buffer : goal.invariant-loop-buffer
invariant-loop-buffer g l = record {
  grown : Grows (g.R.Source.rest l.fn.input) (g.R.Source.rest l.input) l.fn.bytes.items l.bytes.items;
  room : vec_len l.bytes ≤ l.limit;
  later : g.R.Source.faults l.fn.input ≤ g.R.Source.faults l.input;
  unrisen : Unrisen (g.R.Source.faults l.fn.input) (g.R.Source.faults l.input);
}
