-- The lines of the nodes so far are told.
use Rattle.std.proofs.Common.{◌≡◌, ◌+◌, ◌≤◌, List, [], take}
use Rattle.std.specs.Io.KnownBytes.{append_known}
use Rattle.zb_model.specs.Data.{Station}
use Rattle.zb_trace_model.specs.Said.{text_of}
use Rattle.zb_player_scribe.specs.Kept.{Kept, told}
use Rattle.zb_player_start.specs.Starts.{declared_lines}
use Rattle.zb_player_start.proofs.lines.tell_nodes.Given as goal

abbrev pub invariant-loop-node : goal.invariant-loop-node
invariant-loop-node l = record {
  page : (known : List Station) → l.page
      ≡ append_known l.initial.page (text_of known (declared_lines (take l.node-index l.declared)));
  kept : Kept [] l.initial.scribe → Kept (declared_lines (take l.node-index l.declared)) l.scribe;
  few : told l.scribe ≤ told l.initial.scribe + l.node-index;
}
