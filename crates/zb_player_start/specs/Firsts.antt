-- What the nodes of a schedule begin with.
use Rattle.std.specs.Prelude.{◌≡◌, ◌≢◌, ℕ, List, [], get_or, map, Ok}
use Rattle.zb_disk.specs.Memory.{Medium, memory_view}
use Rattle.zb_armed_host.specs.Arms.{IsUnarmed}
use Rattle.zb_host.specs.Hosts.{Gives}
use Rattle.zb_keys.specs.Declarations.{code_with, first_state}
use Rattle.zb_model.specs.Data.{Role}
use Rattle.zb_model.specs.Play as model
use Rattle.zb_model.specs.Record.{record_of}
use Rattle.zb_model.specs.State.{NodeState, after_boot, shown}
use Rattle.law_schedules.specs.Schedules.{node_for}
use Rattle.zb_sched.specs.Schedules.{Schedule, node_of}
use Rattle.zb_sched.specs.Valid.{IsSchedule}
use Rattle.zb_sched.specs.declared.schedule.Node.{Node as CodeNode}
use Rattle.zb_store.specs.Store.{IsHeld, formatted}
use Rattle.zb_stored_tables.specs.Stored.{restored, state_given}

-- These are the nodes of that schedule.
pub record AreNodesOf (p : Schedule) (declared : List CodeNode) : Type 0 where
  pub valid : IsSchedule p
  pub nodes : p.nodes ≡ map node_of declared

-- These are the nodes of a schedule.
abbrev pub AreOfSchedule : List CodeNode → Type 0
AreOfSchedule declared = (p : Schedule) × AreNodesOf p declared

-- a declared node, as the model has it
abbrev pub model_node : CodeNode → model.Node
model_node node = node_for (node_of node)

-- The state in which a node begins. It shares the link key of its install code with the centre.
abbrev pub begins_with : ℕ → model.Node → NodeState
begins_with centre m = first_state m.station.role m.network (code_with centre m.code) m.start_nwk m.start_aps

-- A disk after the five device calls that write the record of these tables. In its every image that record stands, and
-- nothing after it. Nothing is armed on it. A node of this role boots from it with these tables.
pub record IsFirstDisk (role : Role) (t : NodeState) (m : Medium) : Type 0 where
  pub held : IsHeld (formatted (record_of t)) (memory_view m)
  pub unarmed : IsUnarmed m
  pub calls : m.calls ≡ 5
  pub given : state_given role (record_of t) [] ≡ Ok (after_boot (shown t))
  pub gives_it : Gives (restored role) (formatted (record_of t)) (record_of t)
  pub newest : get_or (record_of t) 0 0 ≢ 1
  pub booted : after_boot (shown t) ≡ shown t
