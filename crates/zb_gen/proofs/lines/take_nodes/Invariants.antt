use Rattle.std.proofs.Common.{◌≡◌, ◌+◌, ◌≤◌, map, Ok}
use Rattle.std.specs.List.{range_with_len}
use Rattle.zb_gen.specs.Made.{node_line}
use Rattle.zb_gen.specs.Progress.{after_texts}
use Rattle.zb_gen.proofs.lines.take_nodes.Given as goal

abbrev pub invariant-loop-i : goal.invariant-loop-i
invariant-loop-i l = record {
  lines : after_texts l.initial.maker (map node_line (range_with_len 1 l.i)) ≡ Ok l.maker;
  count : l.maker.line ≤ l.initial.maker.line + l.i;
}
