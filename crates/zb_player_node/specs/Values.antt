-- How contracts see a node: who it is, its configuration, its host while it has power, and what is armed on its disk.
use Rattle.std.specs.Prelude.{◌≡◌, Option, Some, None, is_some, true, ⊤}
use Rattle.zb_base.specs.declared.node.Config.{Config}
use Rattle.zb_base.specs.declared.node.Peer.{Peer}
use Rattle.zb_base.specs.Config.{IsConfig}
use Rattle.zb_armed_host.specs.declared.arms.Arms.{Arms}
use Rattle.zb_host.specs.Hosts.{Hosted}
use Rattle.zb_model.specs.Data.{Role}
use Rattle.zb_model.specs.Data as model
use Rattle.zb_player_node.specs.declared.machine.Machine.{Machine}
use Rattle.zb_player_node.specs.declared.machine.Machine.TheVariants.{Centre, Router, Device}
use Rattle.zb_node_types.specs.Changes.{model_role}
use Rattle.zb_stored_tables.specs.Cores.{CoreValue, IsOfRole}

-- the host of a node that is up, and the node's role
pub record Running : Type 0 where
  pub role : Role
  pub host : Hosted CoreValue

abbrev pub running : Machine → Running
running (Centre host) = record { role = model.Centre; host = host }
running (Router host) = record { role = model.Router; host = host }
running (Device host) = record { role = model.Device; host = host }

pub record NodeValue : Type 0 where
  pub peer : Peer
  pub config : Config
  pub machine : Option Running
  pub arms : Arms

-- The host of a node that is up is of this role, and has its store.
abbrev pub IsHostOf : Role → Option Running → Type 0
IsHostOf role None = ⊤
IsHostOf role (Some r) = (r.role ≡ role) × (is_some r.host.store ≡ true)

-- what every node keeps: its configuration is of its role, and so is its host
pub record IsNode (node : NodeValue) : Type 0 where
  pub config : IsConfig node.config
  pub role : IsOfRole (model_role node.peer.role) node.config
  pub host : IsHostOf (model_role node.peer.role) node.machine
