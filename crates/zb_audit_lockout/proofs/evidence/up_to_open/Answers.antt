use Rattle.std.proofs.Common.{◌≡◌, ◌+◌, ◌-◌, ◌<◌, ◌≤◌, ℕ, length, drop, arith, ap, sym, ◌∙◌}
use Rattle.zb_audit_lockout.specs.Reading.{open_at, opened_by, some_late}
use Rattle.zb_audit_lockout.specs.declared.evidence.LateSeal.{LateSeal}
use Rattle.zb_audit_lockout.proofs.Forgetting.{above_none, any_behind}
use Rattle.zb_audit_lockout.proofs.Loops.{any_here, any_next}
use Rattle.zb_audit_lockout.proofs.evidence.up_to_open.Goals as goal

pub returns-then-is_open-clause-any : goal.returns-then-is_open-clause-any
returns-then-is_open-clause-any c =
    let low : 0 < c.loop-count.count = c.loop-count-test.true in
    let within : c.loop-count.count ≤ length c.args.seals.now = c.loop-count.invariant.0 in
    let lt : c.loop-count.count - 1 < length c.args.seals.now = omega arith in
    above_none c.loop-count.count low
    ∙ sym (any_behind (λ (s : LateSeal). opened_by (open_at c.args.windows.now s.device.0) s.number) c.args.seals.now
    (c.loop-count.count - 1)
    (any_here (λ (s : LateSeal). opened_by (open_at c.args.windows.now s.device.0) s.number) c.args.seals.now
    (c.loop-count.count - 1) _ lt (sym c.is_open.ensures ∙ c.if-is_open.true)))

pub loop-count-preserved : goal.loop-count-preserved
loop-count-preserved c =
    let low : 0 < c.loop-count.count = c.loop-count-test.true in
    let within : c.loop-count.count ≤ length c.args.seals.now = c.loop-count.invariant.0 in
    let lt : c.loop-count.count - 1 < length c.args.seals.now = omega arith in
    let step : c.loop-count.count - 1 + 1 ≡ c.loop-count.count = omega arith in (
      omega arith,
      sym (any_next (λ (s : LateSeal). opened_by (open_at c.args.windows.now s.device.0) s.number) c.args.seals.now
          (c.loop-count.count - 1) _ lt (sym c.is_open.ensures ∙ c.if-is_open.false))
          ∙ (ap (λ (n : ℕ). some_late c.args.windows.now (drop n c.args.seals.now)) step ∙ c.loop-count.invariant.1),
    )
