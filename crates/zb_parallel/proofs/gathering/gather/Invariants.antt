use Rattle.std.proofs.Common.{◌≡◌, map, Ok}
use Rattle.zb_parallel.proofs.gathering.gather.Given as goal

abbrev pub invariant-loop-value : goal.invariant-loop-value
invariant-loop-value g l = l.yielded ≡ map (λ value. Ok value) l.values.items
