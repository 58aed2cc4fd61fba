-- A script: the network, and what is to be done, each order with the number of its line.
use Rattle.std.specs.Prelude.{◌≡◌, ℕ, ◌^◌, ◌<◌, ◌≤◌, List, length, ⊤}
use Rattle.std.specs.List.{AllByRecursion}
use Rattle.zb_base.specs.Config.{IsConfig}
use Rattle.zb_base.specs.declared.node.Role.{Role}
use Rattle.zb_model.specs.Data as model
use Rattle.zb_model.specs.Record.{record_of}
use Rattle.zb_model.specs.State.{NodeState}
use Rattle.zb_stored_tables.specs.Cores.{IsOfRole}
use Rattle.zb_backup.specs.Reading.{IsOfCentre}
use Rattle.zb_script.specs.Said.{Bytes}
use Rattle.zb_script.specs.declared.script.Order.{Order}
use Rattle.zb_script.specs.declared.script.Order.TheVariants.{Init, Provision, Remove, List as ListAll, Backup, Restore}
use Rattle.zb_script.specs.declared.script.Step.{Step}
use Rattle.zb_script.specs.declared.script.Script.{Script as Read}
use Rattle.zb_base.specs.Limits.{most_steps}

-- a node of the network
pub record Station : Type 0 where
  pub name : Bytes
  pub role : Role
  pub eui : ℕ
  pub short : ℕ

-- The nodes, the centre first, the centre's blocks of outgoing and of incoming counters, and the steps.
pub record Script : Type 0 where
  pub stations : List Station
  pub out_block : ℕ
  pub in_block : ℕ
  pub steps : List Step

-- ---- what a script that was read keeps

-- a network key has 16 bytes, and a store is restored from the record of a centre's tables
abbrev pub IsOrder : Order → Type 0
IsOrder (Init key) = length key.0 ≡ 16
IsOrder (Provision device code) = ⊤
IsOrder (Remove device via) = ⊤
IsOrder ListAll = ⊤
IsOrder Backup = ⊤
IsOrder (Restore skip bytes) = (skip < 2 ^ 32) × ((t : NodeState) × IsOfCentre t × (bytes ≡ record_of t))

abbrev pub IsStep : Step → Type 0
IsStep step = IsOrder step.order

-- the configuration is that of the centre, which is its first node
pub record IsScript (script : Read) : Type 0 where
  pub config : IsConfig script.config
  pub me : script.config.me ≡ 0
  pub centre : IsOfRole model.Centre script.config
  pub few : length script.steps ≤ most_steps
  pub steps : AllByRecursion IsStep script.steps
