-- The model of a schedule: its nodes, its supply of keys and its events, as the model of whole runs has them. A
-- schedule names nodes; the model identifies a node by its EUI. A schedule has install codes; the model has the link
-- keys that they give. Some events of a schedule name no node that they are of: these are the centre's.
use Rattle.std.specs.Prelude.{ℕ, List, map, find, bytes_eq}
use Rattle.std.specs.Option.{option_map}
use Rattle.zb_node_types.specs.Changes.{model_role}
use Rattle.zb_install.specs.Code.{code_key}
use Rattle.zb_model.specs.Data.{Station, nobody, SayTo, TellTo, DoKnock, DoRejoin, DoTimer, AskFor, HasChild, DoProvision, DoRemove, DoSwitch, DoAgain, DoShare}
use Rattle.zb_model.specs.Play as model
use Rattle.zb_model.specs.Rules.{centre_of, eui_or}
use Rattle.zb_sched.specs.Schedules.{Node, Schedule}
use Rattle.zb_sched_line.specs.Said.{Bytes, Event, Says, Delivers, Ticks, Knocks, Rejoins, Adopts, Provisions, Repeats, Rolls, Switches, Removes, Resets, Boots, Dumps, Stops, Fails, Injects, ForgesNet, ForgesBoth, ForgesOpen, Asks, Shares, Tells}
use Rattle.zb_model_real.specs.Terms.{model_label}

-- Nodes

-- a node as it is declared
abbrev pub station_for : Node → Station
station_for m =
    record {
      name = m.name;
      eui = m.eui;
      short = m.short;
      role = model_role m.role;
      out_block = m.out_block;
      in_block = m.in_block;
    }

abbrev pub stations_for : Schedule → List Station
stations_for p = map station_for p.nodes

-- A node with what it holds at the start: the link key of its install code, its network key with the sequence, and its
-- stored outgoing limits.
abbrev pub node_for : Node → model.Node
node_for m =
    record {
      station = station_for m;
      code = option_map code_key m.code;
      network = m.network;
      start_nwk = m.start_nwk;
      start_aps = m.start_aps;
    }

-- the EUI of the node with a name
abbrev pub named : List Station → Bytes → ℕ
named nodes name = eui_or nobody (find (λ (s : Station). bytes_eq s.name name) nodes)

-- Events, one clause for each form of line

unfoldable pub event_for : List Station → Event → model.Event
-- of each node
event_for nodes (Says name to bytes) = model.Own (named nodes name) (SayTo to bytes)
event_for nodes (Delivers frame name) = model.Deliver frame (named nodes name)
event_for nodes (Ticks name) = model.Own (named nodes name) DoTimer
-- of routers and devices
event_for nodes (Knocks name) = model.Own (named nodes name) DoKnock
event_for nodes (Rejoins name) = model.Own (named nodes name) DoRejoin
event_for nodes (Asks name partner) = model.Own (named nodes name) (AskFor (named nodes partner))
event_for nodes (Tells name partner bytes) = model.Own (named nodes name) (TellTo (named nodes partner) bytes)
-- of the parent, which hears the node
event_for nodes (Adopts parent name rejoin) = model.Own (named nodes parent) (HasChild (named nodes name) rejoin)
-- of the centre, about the node
event_for nodes (Provisions name code) = model.Own (centre_of nodes) (DoProvision (named nodes name) (code_key code))
event_for nodes (Removes name parent) = model.Own (centre_of nodes) (DoRemove (named nodes name) (named nodes parent))
event_for nodes Rolls = model.RollOver (centre_of nodes)
event_for nodes Switches = model.Own (centre_of nodes) DoSwitch
event_for nodes (Repeats name) = model.Own (centre_of nodes) (DoAgain (named nodes name))
event_for nodes (Shares name partner) = model.Own (centre_of nodes) (DoShare (named nodes name) (named nodes partner))
-- of a node's power and disk
event_for nodes (Resets name) = model.Reset (named nodes name)
event_for nodes (Boots name) = model.PowerOn (named nodes name)
event_for nodes (Dumps name) = model.ShowRecord (named nodes name)
event_for nodes (Stops name calls torn) = model.ArmStop (named nodes name) calls torn
event_for nodes (Fails name call) = model.ArmFail (named nodes name) call
-- of no node: bytes on the air, and forged frames
event_for nodes (Injects bytes) = model.InjectBytes bytes
event_for nodes (ForgesNet to from source key sequence counter content) = model.ForgeNet to from source key sequence
    counter content
event_for nodes (ForgesBoth to from source key sequence counter label base aps_counter command) =
    model.ForgeNetAps to from source key sequence counter (model_label label) base aps_counter command
event_for nodes (ForgesOpen to from source label base aps_counter command) =
    model.ForgeOpen to from source (model_label label) base aps_counter command

unfoldable pub schedule_of : Schedule → model.Schedule
schedule_of p =
    record { nodes = map node_for p.nodes; draws = p.draws; events = map (event_for (stations_for p)) p.events }
