-- The lines of the nodes so far are told.
use Rattle.std.proofs.Common.{◌+◌, ◌≤◌, List, take}
use Rattle.std.specs.Prelude.{flat_map}
use Rattle.zb_model.specs.Data.{Station}
use Rattle.zb_player_scribe.specs.Kept.{Tells, told}
use Rattle.zb_player_start.specs.Starts.{AreKnown, code_lines}
use Rattle.zb_player_start.proofs.lines.tell_codes.Given as goal

abbrev pub invariant-loop-node : goal.invariant-loop-node
invariant-loop-node l = record {
  tells : (known : List Station) → AreKnown known l.declared
      → Tells known (flat_map (code_lines l.centre.0) (take l.node-index l.declared)) l.initial.scribe l.initial.page
      l.scribe l.page;
  few : told l.scribe ≤ told l.initial.scribe + l.node-index;
}
