-- The devices up to the loop's place are forgotten.
use Rattle.std.proofs.Common.{ℕ, nat_eq}
use Rattle.zb_base.specs.declared.address.Eui.{Eui}
use Rattle.zb_audit_lockout.proofs.Unmarking.{Unmarking}
use Rattle.zb_audit_lockout.proofs.spread.Spread.forget_each.Given as goal

abbrev pub invariant-loop-device : goal.invariant-loop-device
invariant-loop-device l =
    Unmarking l.windows l.fn.self l.self l.fn.opened l.opened (λ (d : ℕ) (device : Eui). nat_eq d device.0) l.devices
    l.device-index
