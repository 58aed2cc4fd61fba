use Rattle.std.proofs.Common.{◌≡◌, ◌+◌, ◌≤◌, ℕ, map, Ok}
use Rattle.std.specs.List.{range_with_len}
use Rattle.zb_gen.specs.Made.{code_line}
use Rattle.zb_gen.specs.Progress.{after_texts}
use Rattle.zb_gen.proofs.lines.take_codes.Given as goal

abbrev pub invariant-loop-i : goal.invariant-loop-i
invariant-loop-i l = record {
  lines : after_texts l.initial.maker (map (λ (x : ℕ). code_line l.install_codes.start x) (range_with_len 1 l.i))
      ≡ Ok l.maker;
  count : l.maker.line ≤ l.initial.maker.line + l.i;
}
