use Rattle.std.proofs.Common.{◌∷◌, [], ◌++◌, ◌∙◌, ◌+◌, ◌/◌, List, ℕ, ap, arith, append_assoc}
use Rattle.zb_gen.proofs.Said.{large_number, small_number}
use Rattle.zb_gen.proofs.lines.push_number.Goals as goal

pub returns-then-i-lt10 : goal.returns-then-i-lt10
returns-then-i-lt10 c =
    c.push.ensures.ascii (omega (arith, c.digit.ensures, c.if-i-lt10.true))
    ∙ ap (λ (ds : List ℕ). c.args.name.now.bytes ++ ds)
    (ap (λ (x : ℕ). x ∷ []) c.digit.ensures ∙ small_number c.args.i c.if-i-lt10.true)

pub returns-else-i-lt10 : goal.returns-else-i-lt10
returns-else-i-lt10 c =
    c.push-else-i-lt10-2.ensures.ascii (omega (arith, c.digit-else-i-lt10-2.ensures))
    ∙ ap (λ (ds : List ℕ). ds ++ c.digit-else-i-lt10-2.result ∷ [])
    (c.push-else-i-lt10.ensures.ascii (omega (arith, c.digit-else-i-lt10.ensures, c.requires.0)))
    ∙ append_assoc c.args.name.now.bytes (c.digit-else-i-lt10.result ∷ []) (c.digit-else-i-lt10-2.result ∷ [])
    ∙ ap (λ (ds : List ℕ). c.args.name.now.bytes ++ ds)
    (ap (λ (x : ℕ). x ∷ c.digit-else-i-lt10-2.result ∷ []) c.digit-else-i-lt10.ensures ∙ ap
    (λ (x : ℕ). (48 + c.args.i / 10) ∷ x ∷ []) c.digit-else-i-lt10-2.ensures
    ∙ large_number c.args.i (omega (arith, c.if-i-lt10.false)) c.requires.0)
