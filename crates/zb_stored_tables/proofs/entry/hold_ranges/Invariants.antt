use Rattle.std.proofs.Common.{take}
use Rattle.std.specs.List.{AllByRecursion}
use Rattle.zb_record.specs.Ranges.{InRange}
use Rattle.zb_stored_tables.proofs.entry.hold_ranges.Given as goal

abbrev pub invariant-loop-change : goal.invariant-loop-change
invariant-loop-change l = AllByRecursion InRange (take l.change-index l.fn.changes.items)
