use Rattle.std.proofs.Common.{◌≡◌, ◌+◌, ◌*◌, ◌≤◌, ℕ, Ok}
use Rattle.std.specs.List.{flat_map, range_with_len}
use Rattle.zb_gen.specs.Made.{step_lines}
use Rattle.zb_gen.specs.Progress.{after_texts}
use Rattle.zb_gen.proofs.steps.take_steps.Given as goal

abbrev pub invariant-loop-k : goal.invariant-loop-k
invariant-loop-k l = record {
  lines : after_texts l.initial.maker
      (flat_map (λ (x : ℕ). step_lines l.initial.words.start l.n (8 * l.n + 8 + 4 * x)) (range_with_len 0 l.k))
      ≡ Ok l.maker;
  count : l.maker.line ≤ l.initial.maker.line + 3 * l.k;
  start : l.words.start ≡ l.initial.words.start;
  place : l.words.place ≡ 8 * l.n + 8 + 4 * l.k;
}
