use Rattle.std.proofs.Common.{subst}
use Rattle.zb_core.proofs.PlanLaws.{core_plan}
use Rattle.zb_core.specs.CorePlans.{IsCorePlan}
use Rattle.zb_stored_tables.specs.Cores.{CoreValue}
use Rattle.zb_core.proofs.policy.PolicyCoreCore.plan.Goals as goal

pub returns : goal.returns
returns g c =
    subst (λ (v : CoreValue). IsCorePlan g.P.Policy.of v c.args.event.now c.plan.new.plan) c.self.view_is
    (core_plan g.P.Policy.of c.self.inside.node c.args.event.now c.plan.new.plan c.self.invariant c.plan.ensures
    c.keep.ensures)
