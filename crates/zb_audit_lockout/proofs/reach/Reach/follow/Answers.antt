use Rattle.std.proofs.Common.{List, subst}
use Rattle.zb_base.specs.declared.key.Key.{Key}
use Rattle.zb_audit_lockout.specs.Standing.{Checked}
use Rattle.zb_audit_lockout.specs.declared.reach.Reach.{Reach}
use Rattle.zb_audit_lockout.proofs.Telling.{followed}
use Rattle.zb_audit_lockout.proofs.reach.Reach.follow.Goals as goal

pub returns-clause-settles : goal.returns-clause-settles
returns-clause-settles c =
    let s = c.in_ok-stays.ensures.settles in
    record { windows = s.windows; leads = s.leads; held = s.held; back = s.back; drawn = s.drawn }

pub returns-clause-judged : goal.returns-clause-judged
returns-clause-judged c =
    let mid : Reach =
    record {
      windows = c.args.self.now.windows;
      leads = c.args.self.now.leads;
      held = c.args.self.now.held;
      back = c.args.self.now.back;
      drawn = c.args.self.now.drawn;
      spread = c.follow.new.self;
    } in
    followed c.args.self.now c.check.new.self c.follow.new.self c.args.key c.args.early c.in_ok-level.level
    c.in_ok-raised.raised.items c.in_ok-stays.stays c.in_ok-level.ensures c.in_ok-raised.ensures.keys
    c.in_ok-raised.ensures.devices
    (subst (λ (keys : List Key). Checked mid c.check.new.self keys c.in_ok-stays.stays) c.deref.ensures.value
    c.in_ok-stays.ensures.checked)
