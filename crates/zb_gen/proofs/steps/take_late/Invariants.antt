use Rattle.std.proofs.Common.{◌≡◌, ◌+◌, ◌*◌, ◌≤◌, ℕ, map, Ok}
use Rattle.std.specs.List.{range_with_len}
use Rattle.zb_gen.specs.Made.{late_line}
use Rattle.zb_gen.specs.Progress.{after_texts}
use Rattle.zb_gen.proofs.steps.take_late.Given as goal

abbrev pub invariant-loop-k : goal.invariant-loop-k
invariant-loop-k l = record {
  lines : after_texts l.initial.maker
      (map (λ (x : ℕ). late_line l.initial.words.start l.n (88 * l.n + 8 + 2 * x)) (range_with_len 0 l.k))
      ≡ Ok l.maker;
  count : l.maker.line ≤ l.initial.maker.line + l.k;
  start : l.words.start ≡ l.initial.words.start;
  place : l.words.place ≡ 88 * l.n + 8 + 2 * l.k;
}
