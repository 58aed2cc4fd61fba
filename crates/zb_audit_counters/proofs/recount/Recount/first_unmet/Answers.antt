use Rattle.std.proofs.Common.{◌∙◌, ap, sym}
use Rattle.zb_audit_counters.proofs.Running.{wait_end, wait_met, wait_unmet}
use Rattle.zb_audit_counters.proofs.recount.Recount.first_unmet.Goals as goal
use Rattle.zb_audit_counters.specs.Recounting.{first_unmet_by}

pub loop-wait-init : goal.loop-wait-init
loop-wait-init c = ap (first_unmet_by c.args.self.now) c.as_slice-waits.ensures.value

pub loop-wait-preserved : goal.loop-wait-preserved
loop-wait-preserved c =
    wait_met c.args.self.now c.as_slice-waits.result.now c.loop-wait.wait-index _ _ c.loop-wait-test.true
    (sym c.is_met.ensures ∙ c.if-not-is_met.false) c.loop-wait.invariant

pub returns-then-not-is_met : goal.returns-then-not-is_met
returns-then-not-is_met c =
    wait_unmet c.args.self.now c.as_slice-waits.result.now c.loop-wait.wait-index _ _ c.loop-wait-test.true
    (sym c.is_met.ensures ∙ c.if-not-is_met.true) c.loop-wait.invariant

pub returns : goal.returns
returns c = wait_end c.args.self.now c.as_slice-waits.result.now c.loop-wait.wait-index _ c.loop-wait-test.false
    c.loop-wait.invariant
