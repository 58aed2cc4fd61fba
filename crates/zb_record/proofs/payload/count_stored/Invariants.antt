use Rattle.std.proofs.Common.{◌≡◌, ◌≤◌, length, take}
use Rattle.std.specs.Prelude.{filter}
use Rattle.zb_node_types.specs.Changes.{edits}
use Rattle.zb_model.specs.Record.{is_stored}
use Rattle.zb_record.proofs.payload.count_stored.Given as goal

abbrev pub invariant-loop-change : goal.invariant-loop-change
invariant-loop-change l = (l.count ≡ length (filter is_stored (edits (take l.change-index l.changes))))
    × (l.count ≤ l.change-index)
