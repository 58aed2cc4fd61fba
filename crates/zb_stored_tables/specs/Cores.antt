-- Any core over tables: its value, the core with which a node boots, and what an event makes of it. What its events
-- and plans are is left open.
use Rattle.std.specs.Prelude.{◌≡◌, ℕ, List, Ok}
use Rattle.zb_base.specs.declared.node.Config.{Config}
use Rattle.zb_node_types.specs.declared.change.Change.{Change}
use Rattle.zb_node_types.specs.Changes.{edits}
use Rattle.zb_setting.specs.Settings.{setting_for}
use Rattle.zb_model.specs.Answer.{accepted_all, sealed_all}
use Rattle.zb_model.specs.Data.{Role, Term}
use Rattle.zb_model.specs.Rules.{Setting}
use Rattle.zb_model.specs.State.{NodeState, applied_all, shown}
use Rattle.zb_stored_tables.specs.Stored.{state_given}

-- The value of a core of any role: what it knows of the network, and its tables.
pub record CoreValue : Type 0 where
  pub setting : Setting
  pub tables : NodeState

-- the configurations in which a node is of this role
abbrev pub IsOfRole : Role → Config → Type 0
IsOfRole role config = (setting_for config).me.role ≡ role

-- The core with which a node of this role boots on a record and the entries after it, in a configuration. In its
-- tables the counters go on from the limits that were stored, and the floors are those that were stored.
pub record IsBooted (role : Role) (config : Config) (content entries : List ℕ) (c : CoreValue) : Type 0 where
  pub tables : state_given role content entries ≡ Ok c.tables
  pub setting : c.setting ≡ setting_for config

-- The tables after an event: its changes are made, its accepted terms are heard, and its seals have used their
-- counters.
abbrev pub tables_after : List Change → List Term → List Term → NodeState → NodeState
tables_after changes accepts seals s = sealed_all seals (accepted_all accepts (shown (applied_all (edits changes) s)))

-- The core after an event: its setting stays.
abbrev pub IsValueAfter : List Change → List Term → List Term → CoreValue → CoreValue → Type 0
IsValueAfter changes accepts seals c d = d
    ≡ record { setting = c.setting; tables = tables_after changes accepts seals c.tables }
