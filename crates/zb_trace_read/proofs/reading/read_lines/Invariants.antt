-- The lines so far and the rest make the text.
use Rattle.std.proofs.Common.{◌≡◌, ◌+◌, ◌≤◌, ◌++◌, ◌^◌, ◌<◌, length}
use Rattle.zb_trace.specs.Text.{texts, AllProper}
use Rattle.zb_trace_read.proofs.reading.read_lines.Given as goal

abbrev pub invariant-loop-rest : goal.invariant-loop-rest
invariant-loop-rest l =
    AllProper l.lines.items × (l.bytes ≡ texts l.lines.items ++ l.rest)
    × (length l.lines.items + length l.rest ≤ length l.bytes) × (length l.bytes < 2 ^ 32)

abbrev pub decreases-loop-rest : goal.decreases-loop-rest
decreases-loop-rest l = length l.rest
