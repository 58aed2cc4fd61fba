use Rattle.std.proofs.Common.{◌≡◌, ◌+◌, ◌++◌, drop}
use Rattle.zb_inspect_frame.specs.Lines.{frames_text}
use Rattle.zb_inspect_frame.proofs.lines.put_frames.Given as goal

abbrev pub invariant-loop-shown : goal.invariant-loop-shown
invariant-loop-shown l =
    (l.out.items ++ frames_text l.frame (drop l.shown-index l.all_shown) ≡ l.initial.out.items
    ++ frames_text l.first l.all_shown)
    × (l.frame ≡ l.first + l.shown-index)
