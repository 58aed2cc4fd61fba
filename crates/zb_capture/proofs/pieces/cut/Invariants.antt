use Rattle.std.proofs.Common.{◌≡◌, ◌≤◌, ◌++◌, length}
use Rattle.std.specs.List.{flat_map}
use Rattle.std.specs.Str.Lines.{lines}
use Rattle.zb_capture.specs.Pieces.{all_texts}
use Rattle.zb_capture.proofs.pieces.cut.Given as goal

abbrev pub invariant-loop-rest : goal.invariant-loop-rest
invariant-loop-rest l = record {
  whole : flat_map (λ part. part) (all_texts l.pieces.items) ++ l.rest ≡ l.fn.text;
  lines : flat_map lines (all_texts l.pieces.items) ++ lines l.rest ≡ lines l.fn.text;
  rest : length l.rest ≤ length l.fn.text;
  size : 1 ≤ l.size;
}

abbrev pub decreases-loop-rest : goal.decreases-loop-rest
decreases-loop-rest l = length l.rest
