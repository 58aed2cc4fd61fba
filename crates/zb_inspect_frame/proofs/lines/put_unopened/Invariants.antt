use Rattle.std.proofs.Common.{◌≡◌, ◌+◌, ◌-◌, ◌≤◌, ◌++◌}
use Rattle.zb_inspect_frame.specs.Lines.{unopened_text}
use Rattle.zb_inspect_frame.proofs.lines.put_unopened.Given as goal

abbrev pub invariant-loop-frame : goal.invariant-loop-frame
invariant-loop-frame l =
    (l.out.items ++ unopened_text l.frame (l.first + l.count - l.frame) ≡ l.initial.out.items
    ++ unopened_text l.first l.count) × (l.frame ≤ l.first + l.count)
