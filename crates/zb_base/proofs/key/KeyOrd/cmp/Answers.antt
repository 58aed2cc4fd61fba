use Rattle.std.proofs.Common.{ℕ, ◌∙◌, rules}
use Rattle.std.specs.Ordering.{nat_cmp, ordering_then}
use Rattle.std.specs.declared.cmp.Ordering.{Ordering}
use Rattle.zb_base.proofs.KeyHalves.{order_by_halves}
use Rattle.zb_base.proofs.key.KeyOrd.cmp.Goals as goal

pub returns : goal.returns
returns c =
    let order : (ℕ × ℕ) → (ℕ × ℕ) → Ordering = λ p q. ordering_then (nat_cmp p.0 q.0) (nat_cmp p.1 q.1) in
    c.cmp.ensures ∙ (λ i. order (c.halves.ensures.numbers i) (c.halves-2.ensures.numbers i))
    ∙ order_by_halves c.args.self.now.0 c.args.other.now.0 (search rules) (search rules) c.halves.ensures.high
    c.halves.ensures.low c.halves-2.ensures.high c.halves-2.ensures.low
