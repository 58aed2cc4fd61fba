use Rattle.std.proofs.Common.{List, refl, subst}
use Rattle.zb_base.specs.declared.key.Key.{Key}
use Rattle.zb_audit_lockout.specs.Withdrawing.{Withdraws}
use Rattle.zb_audit_lockout.specs.declared.spread.Spread.{Spread}
use Rattle.zb_audit_lockout.proofs.Checking.{taken_back}
use Rattle.zb_audit_lockout.proofs.reach.Reach.take_back.Goals as goal

pub returns-clause-taken : goal.returns-clause-taken
returns-clause-taken c =
    let mid : Spread = record { devices = c.args.self.now.spread.devices; keys = c.clear.new.self } in
    taken_back c.args.self.now mid c.forget.new.self c.args.keys.items c.in_ok-cleared.cleared.items
    c.in_ok-openings.openings.items c.in_ok-cleared.ensures (λ d. refl)
    (subst (λ (keys : List Key). Withdraws c.args.self.now.windows c.args.self.now.back mid
    c.forget.new.self keys c.in_ok-openings.openings.items) c.deref.ensures.value c.in_ok-openings.ensures)
