-- The start lines of declared nodes, kind by kind.
use Rattle.std.specs.Prelude.{ℕ, List, ◌++◌, map}
use Rattle.std.specs.List.{AllByRecursion}
use Rattle.zb_player_start.specs.Firsts.{model_node}
use Rattle.zb_model.specs.Data.{Nwk, Aps, Station}
use Rattle.zb_model.specs.Lines.{Line, Declared}
use Rattle.zb_model.specs.Play.{limit_line, link_line, net_line}
use Rattle.zb_trace_model.specs.Naming.{IsCalled}
use Rattle.zb_sched.specs.declared.schedule.Node.{Node as CodeNode}

-- How many lines there are at most before the first event: five and some for each of 64 nodes.
abbrev pub most_start_lines : ℕ
most_start_lines = 400

-- a declared node as a station of the model
abbrev pub station_of : CodeNode → Station
station_of node = (model_node node).station

abbrev pub declared_lines : List CodeNode → List Line
declared_lines declared = map (λ node. Declared (station_of node)) declared

abbrev pub network_lines : CodeNode → List Line
network_lines node = net_line node.peer.eui.0 (model_node node).network

abbrev pub code_lines : ℕ → CodeNode → List Line
code_lines centre node = link_line centre node.peer.eui.0 (model_node node).code

abbrev pub counter_lines : CodeNode → List Line
counter_lines node = limit_line node.peer.eui.0 Nwk node.start_nwk ++ limit_line node.peer.eui.0 Aps node.start_aps

-- the name of each of these nodes leads to it
abbrev pub IsKnown : List Station → CodeNode → Type 0
IsKnown known node = IsCalled known node.peer.eui.0 node.peer.name.bytes

abbrev pub AreKnown : List Station → List CodeNode → Type 0
AreKnown known declared = AllByRecursion (IsKnown known) declared
