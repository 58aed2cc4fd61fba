-- A schedule: its nodes, its supply of keys, and its events.
use Rattle.std.specs.Prelude.{ℕ, List, map, Option}
use Rattle.std.specs.Option.{option_map}
use Rattle.zb_base.specs.declared.node.Role.{Role}
use Rattle.zb_sched_line.specs.Said.{Bytes, Event}
use Rattle.zb_sched_line.specs.Views.{event_of}
use Rattle.zb_sched.specs.declared.schedule.Node.{Node as CodeNode}
use Rattle.zb_sched.specs.declared.schedule.Schedule.{Schedule as CodeSchedule}

-- A node, as it is declared. `network` is the network key that it holds from the start, with its sequence number.
-- `code` is the install code that is printed on it. The last two are its stored outgoing limits at the start.
pub record Node : Type 0 where
  pub name : Bytes
  pub role : Role
  pub eui : ℕ
  pub short : ℕ
  pub out_block : ℕ
  pub in_block : ℕ
  pub code : Option Bytes
  pub network : Option (Bytes × ℕ)
  pub start_nwk : ℕ
  pub start_aps : ℕ

-- The nodes in the order of their lines, the keys of the supply, and the events.
pub record Schedule : Type 0 where
  pub nodes : List Node
  pub draws : List Bytes
  pub events : List Event

-- The node and the schedule that the program's values represent.
abbrev pub node_of : CodeNode → Node
node_of node = record {
  name = node.peer.name.bytes;
  role = node.peer.role;
  eui = node.peer.eui.0;
  short = node.peer.short.0;
  out_block = node.out_block;
  in_block = node.in_block;
  code = node.code;
  network = option_map (λ held. (held.0.0, held.1)) node.network;
  start_nwk = node.start_nwk;
  start_aps = node.start_aps;
}

abbrev pub schedule_of : CodeSchedule → Schedule
schedule_of schedule = record {
  nodes = map node_of schedule.nodes;
  draws = map (λ key. key.0) schedule.draws;
  events = map event_of schedule.events;
}
