-- The law of cores for a core with a policy, as a host needs it: see `Core` of zb_host.
use Rattle.std.specs.Prelude.{◌≡◌, ◌≢◌, ◌≤◌, ◌++◌, ℕ, List, [], get_or, length}
use Rattle.zb_core.specs.CorePlans.{CorePlan, IsCoreAfter, IsCorePlan, accepts, seals}
use Rattle.zb_event.specs.Events.{NodeEvent}
use Rattle.zb_host.specs.Plans.{gives}
use Rattle.zb_model.specs.Data.{Role}
use Rattle.zb_model.specs.Record.{payload, record_of}
use Rattle.zb_node_types.specs.Changes.{edits}
use Rattle.zb_base.specs.Sizes.{payload_room}
use Rattle.zb_stored_tables.specs.Cores.{CoreValue}
use Rattle.zb_stored_tables.specs.Stored.{restored}
use Rattle.zb_stored_tables.proofs.CoreValues.{value_adds, value_idle, value_keeps}

pub core_plan_adds : (role : Role) (c d : CoreValue) (e : NodeEvent)
    (p : CorePlan) (r q : List ℕ) → IsCorePlan role c e p → IsCoreAfter c p d → get_or r 0 0 ≢ 1
    → restored role r q ≡ gives (record_of c.tables) → restored role r (q ++ payload (edits p.changes.items))
    ≡ gives (record_of d.tables)
core_plan_adds role c d e p r q plan = value_adds role p.changes.items (accepts p) (seals p) c d r q
    plan.storable

pub core_plan_keeps : (role : Role) (c d : CoreValue) (e : NodeEvent)
    (p : CorePlan) → IsCorePlan role c e p → IsCoreAfter c p d
    → restored role (record_of d.tables) [] ≡ gives (record_of d.tables)
core_plan_keeps role c d e p plan = value_keeps role p.changes.items (accepts p) (seals p) c d plan.storable

pub core_plan_idle : (role : Role) (c d : CoreValue) (e : NodeEvent)
    (p : CorePlan) → IsCorePlan role c e p → IsCoreAfter c p d → p.changes.items ≡ []
    → record_of d.tables ≡ record_of c.tables
core_plan_idle role c d e p plan = value_idle role p.changes.items (accepts p) (seals p) c d plan.storable

pub core_plan_short : (role : Role) (c : CoreValue) (e : NodeEvent)
    (p : CorePlan) → IsCorePlan role c e p → length (payload (edits p.changes.items)) ≤ payload_room
core_plan_short role c e p plan = plan.storable.short
