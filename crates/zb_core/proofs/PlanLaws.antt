-- A core whose plans are the policy's answers keeps the law of cores.
use Rattle.std.proofs.Common.{◌≡◌, subst}
use Rattle.zb_core.specs.CorePlans.{CorePlan, IsCoreAfter, IsCorePlan, accepts, seals}
use Rattle.zb_event.specs.Events.{NodeEvent, task_of}
use Rattle.zb_model.specs.Answer.{answer, answered}
use Rattle.zb_model.specs.Data.{Role, Task}
use Rattle.zb_model.specs.State.{shown}
use Rattle.zb_model_real.specs.Real.{real}
use Rattle.zb_plan.specs.Answers.{IsAnswer}
use Rattle.zb_stored_tables.specs.Cores.{CoreValue}
use Rattle.zb_stored_tables.specs.Stored.{IsStorable}
use Rattle.zb_stored_tables.proofs.CoreValues.{value_leads}

-- what a core's `plan` shows, with what `NodeCore::keep` says
pub core_plan : (role : Role) (c : CoreValue) (e : NodeEvent) (p : CorePlan) → c.setting.me.role ≡ role
    → IsAnswer p (answer real c.setting c.tables (task_of e))
    → ((task : Task) → IsAnswer p (answer real c.setting c.tables task)
    → IsStorable c.setting.me.role c.tables p.changes.items) → IsCorePlan role c e p
core_plan role c e p own is storable = record {
  answer_is = is;
  role_is = own;
  storable = subst (λ (r : Role). IsStorable r c.tables p.changes.items) own (storable (task_of e) is);
}

-- ---- where a plan leads

pub answer_leads : (c d : CoreValue) (p : CorePlan) (task : Task) → IsAnswer p (answer real c.setting c.tables task)
    → IsCoreAfter c p d
    → d ≡ record { setting = c.setting; tables = shown (answered (answer real c.setting c.tables task) c.tables) }
answer_leads c d p task is = value_leads p.changes.items (accepts p) (seals p) (answer real c.setting c.tables task) c
    d is.changes is.accepts is.seals

pub core_plan_leads : (role : Role) (c d : CoreValue) (e : NodeEvent) (p : CorePlan) → IsCorePlan role c e p
    → IsCoreAfter c p d
    → d ≡ record {
      setting = c.setting;
      tables = shown (answered (answer real c.setting c.tables (task_of e)) c.tables);
    }
core_plan_leads role c d e p plan after = answer_leads c d p (task_of e) plan.answer_is after
