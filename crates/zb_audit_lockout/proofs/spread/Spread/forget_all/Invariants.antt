-- The holders of the keys up to the loop's place are forgotten.
use Rattle.std.proofs.Common.{ℕ}
use Rattle.zb_base.specs.declared.key.Key.{Key}
use Rattle.zb_audit_lockout.specs.Backing.{is_holder}
use Rattle.zb_audit_lockout.proofs.Unmarking.{Unmarking}
use Rattle.zb_audit_lockout.proofs.spread.Spread.forget_all.Given as goal

abbrev pub invariant-loop-key : goal.invariant-loop-key
invariant-loop-key l =
    Unmarking l.windows l.fn.self l.self l.fn.opened l.opened (λ (d : ℕ) (key : Key). is_holder l.back key.0 d) l.keys
    l.key-index
