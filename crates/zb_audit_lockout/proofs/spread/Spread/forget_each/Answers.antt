use Rattle.std.proofs.Common.{ℕ, nat_eq}
use Rattle.std.proofs.lemmas.List.{drop_all}
use Rattle.zb_base.specs.declared.address.Eui.{Eui}
use Rattle.zb_audit_lockout.proofs.Unmarking.{all_unmarked, nothing_unmarked, one_unmarked}
use Rattle.zb_audit_lockout.proofs.spread.Spread.forget_each.Goals as goal

pub loop-device-init : goal.loop-device-init
loop-device-init c =
    nothing_unmarked c.args.windows.now c.args.self.now c.args.opened.now (λ (d : ℕ) (device : Eui). nat_eq d device.0)
    c.args.devices.now

pub loop-device-preserved : goal.loop-device-preserved
loop-device-preserved c =
    one_unmarked c.args.windows.now c.args.self.now c.loop-device.self c.forget_one.new.self c.args.opened.now
    c.loop-device.opened c.forget_one.new.opened (λ (d : ℕ) (device : Eui). nat_eq d device.0) c.args.devices.now
    c.loop-device.device-index _ c.loop-device-test.true c.loop-device.invariant c.in_ok-forget_one.ensures

pub returns : goal.returns
returns c =
    all_unmarked c.args.windows.now c.args.self.now c.loop-device.self c.args.opened.now c.loop-device.opened
    (λ (d : ℕ) (device : Eui). nat_eq d device.0) c.args.devices.now c.loop-device.device-index
    (drop_all c.loop-device.device-index c.args.devices.now c.loop-device-test.false) c.loop-device.invariant
