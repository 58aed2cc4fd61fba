use Rattle.std.proofs.Common.{◌≡◌, ◌+◌, ◌*◌, ◌≤◌, ℕ, Ok}
use Rattle.std.specs.List.{flat_map, range_with_len}
use Rattle.zb_gen.specs.Made.{join_lines}
use Rattle.zb_gen.specs.Progress.{after_texts}
use Rattle.zb_gen.proofs.lines.take_joins.Given as goal

abbrev pub invariant-loop-i : goal.invariant-loop-i
invariant-loop-i l = record {
  lines : after_texts l.initial.maker
      (flat_map (λ (x : ℕ). join_lines l.install_codes.start x) (range_with_len 1 l.i)) ≡ Ok l.maker;
  count : l.maker.line ≤ l.initial.maker.line + 10 * l.i;
}
