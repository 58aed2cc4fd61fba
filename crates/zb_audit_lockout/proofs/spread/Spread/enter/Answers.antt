use Rattle.std.proofs.Common.{◌≡◌, ◌<◌, ◌≤◌, List, arith, sym, subst}
use Rattle.zb_base.specs.declared.key.Key.{Key}
use Rattle.zb_audit_lockout.specs.Reading.{early_of}
use Rattle.zb_audit_lockout.specs.Spreading.{Enters}
use Rattle.zb_audit_lockout.proofs.Entering.{entered_before}
use Rattle.zb_audit_lockout.proofs.spread.Spread.enter.Goals as goal

pub returns-in_ok-raised : goal.returns-in_ok-raised
returns-in_ok-raised c =
    c.in_ok-raised.ensures
    (let is : c.of-before.result ≡ early_of c.args.self.now c.args.device.0 = c.of-before.ensures in
    let less : c.of-before.result < c.args.early = c.if-before-early.true in
    omega arith)

pub returns-else-before-early : goal.returns-else-before-early
returns-else-before-early c =
    subst (λ (raised : List Key). Enters c.args.leads.now c.args.held.now c.args.self.now c.args.self.now
    c.args.device.0 c.args.early raised) (sym c.new.ensures.items)
    (entered_before c.args.leads.now c.args.held.now c.args.self.now c.args.device.0 c.args.early
    (let is : c.of-before.result ≡ early_of c.args.self.now c.args.device.0 = c.of-before.ensures in
    let more : c.args.early ≤ c.of-before.result = c.if-before-early.false in
    omega arith))
