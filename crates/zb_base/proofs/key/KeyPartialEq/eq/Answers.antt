use Rattle.std.proofs.Common.{ℕ, Bool, ◌&&◌, ◌∙◌, nat_eq, rules}
use Rattle.zb_base.proofs.KeyHalves.{same_by_halves}
use Rattle.zb_base.proofs.key.KeyPartialEq.eq.Goals as goal

pub returns : goal.returns
returns c =
    let same : (ℕ × ℕ) → (ℕ × ℕ) → Bool = λ p q. nat_eq p.0 q.0 && nat_eq p.1 q.1 in
    c.eq.ensures ∙ (λ i. same (c.halves.ensures.numbers i) (c.halves-2.ensures.numbers i))
    ∙ same_by_halves c.args.self.now.0 c.args.other.now.0 (search rules) (search rules) c.halves.ensures.high
    c.halves.ensures.low c.halves-2.ensures.high c.halves-2.ensures.low
