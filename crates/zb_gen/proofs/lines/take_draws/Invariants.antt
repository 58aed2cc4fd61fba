use Rattle.std.proofs.Common.{◌≡◌, ◌+◌, ◌*◌, ◌≤◌, ℕ, map, Ok}
use Rattle.std.specs.List.{range_with_len}
use Rattle.zb_gen.specs.Made.{draw_line}
use Rattle.zb_gen.specs.Progress.{after_texts}
use Rattle.zb_gen.proofs.lines.take_draws.Given as goal

abbrev pub invariant-loop-j : goal.invariant-loop-j
invariant-loop-j l = record {
  lines : after_texts l.initial.maker (map (λ (x : ℕ). draw_line l.initial.words.start l.n x) (range_with_len 0 l.j))
      ≡ Ok l.maker;
  count : l.maker.line ≤ l.initial.maker.line + l.j;
  start : l.words.start ≡ l.initial.words.start;
  place : l.words.place ≡ 4 * l.n + 4 + 4 * l.j;
}
