-- The plans of a core: each is the policy's answer to its event, and can be stored.
use Rattle.std.specs.Prelude.{◌≡◌, List}
use Rattle.zb_event.specs.Events.{NodeEvent, task_of}
use Rattle.zb_host.specs.declared.outcome.Outcome.{Outcome}
use Rattle.zb_host.specs.declared.plan.Plan.{Plan}
use Rattle.zb_model.specs.Answer.{answer}
use Rattle.zb_model.specs.Data as model
use Rattle.zb_model.specs.Data.{Role, Task}
use Rattle.zb_model_real.specs.Real.{real}
use Rattle.zb_node_types.specs.declared.refusal.Refusal.{Refusal}
use Rattle.zb_plan.specs.Answers.{IsAnswer, terms}
use Rattle.zb_seal.specs.declared.term.Term.{Term}
use Rattle.zb_stored_tables.specs.Cores.{CoreValue, IsValueAfter}
use Rattle.zb_stored_tables.specs.Stored.{IsStorable}

-- a core's plan: the changes, and what goes out beside them
abbrev pub CorePlan : Type 0
CorePlan = Plan (Outcome Term Refusal)

-- the terms that a plan accepts: that of NWK, then that of APS
abbrev pub accepts : CorePlan → List model.Term
accepts p = terms p.out.accepted_nwk p.out.accepted_aps

-- the terms that a plan seals: that of APS, then that of NWK
abbrev pub seals : CorePlan → List model.Term
seals p = terms p.out.sealed_aps p.out.sealed_nwk

-- A plan of a core of this role for an event: it is the policy's answer to the event's task, and its changes can be
-- stored.
pub record IsCorePlan (role : Role) (c : CoreValue) (e : NodeEvent) (p : CorePlan) : Type 0 where
  pub answer_is : IsAnswer p (answer real c.setting c.tables (task_of e))
  pub role_is : c.setting.me.role ≡ role
  pub storable : IsStorable role c.tables p.changes.items

-- The core after a plan: its setting stays, and its tables are those after the changes, the accepted terms and the
-- seals.
abbrev pub IsCoreAfter : CoreValue → CorePlan → CoreValue → Type 0
IsCoreAfter c p d = IsValueAfter p.changes.items (accepts p) (seals p) c d

-- A plan that can be carried out: it is the policy's answer to a task, and its changes can be stored.
pub record CanBeCarriedOut (c : CoreValue) (p : CorePlan) : Type 0 where
  pub task : Task
  pub answer_is : IsAnswer p (answer real c.setting c.tables task)
  pub storable : IsStorable c.setting.me.role c.tables p.changes.items
