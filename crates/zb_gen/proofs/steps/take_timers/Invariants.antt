use Rattle.std.proofs.Common.{◌≡◌, ◌+◌, ◌≤◌, ℕ, map, codes, Ok}
use Rattle.std.specs.List.{range_with_len}
use Rattle.zb_gen.specs.Progress.{after_texts}
use Rattle.zb_gen.proofs.steps.take_timers.Given as goal

abbrev pub invariant-loop-k : goal.invariant-loop-k
invariant-loop-k l = record {
  lines : after_texts l.initial.maker (map (λ (x : ℕ). codes "timer c") (range_with_len 0 l.k)) ≡ Ok l.maker;
  count : l.maker.line ≤ l.initial.maker.line + l.k;
}
