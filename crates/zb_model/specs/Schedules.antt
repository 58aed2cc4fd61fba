-- What holds for every schedule that is read from a text: the premises of the laws about runs.
use Rattle.std.specs.Prelude.{ℕ, ◌≡◌, ◌<◌, ◌≤◌, ◌^◌, Bool, true, false, not, length, is_some, ⊤}
use Rattle.std.specs.List.{AllByRecursion}
use Rattle.zb_model.specs.Data.{Task, SayTo, TellTo, DoKnock, DoRejoin, DoTimer, AskFor, HasChild, Received}
use Rattle.zb_model.specs.State.{greatest_counter, is_centre}
use Rattle.zb_model.specs.Rules.{station_of}
use Rattle.zb_model.specs.Play.{Schedule, Node, Event, Own, RollOver, Deliver, Reset, PowerOn, ShowRecord, ArmStop, ArmFail, setting_of, stations}

-- a declared node: its EUI has 64 bits, its blocks aren't empty, and its stored limits at the start are counters
pub record IsMember (m : Node) : Type 0 where
  pub eui : m.station.eui < 2 ^ 64
  pub out_block : 0 < m.station.out_block
  pub in_block : 0 < m.station.in_block
  pub start_nwk : m.start_nwk ≤ greatest_counter
  pub start_aps : m.start_aps ≤ greatest_counter

abbrev pub Names : Schedule → ℕ → Type 0
Names w n = is_some (station_of (stations w) n) ≡ true

-- an event's node is declared
abbrev pub NamesNode : Schedule → Event → Type 0
NamesNode w (Own n task) = Names w n
NamesNode w (RollOver n) = Names w n
NamesNode w (Deliver frame n) = Names w n
NamesNode w (Reset n) = Names w n
NamesNode w (PowerOn n) = Names w n
NamesNode w (ShowRecord n) = Names w n
NamesNode w (ArmStop n calls torn) = Names w n
NamesNode w (ArmFail n call) = Names w n
NamesNode w _ = ⊤

-- calls of a disk are counted from 1, so the one that fails is at least the first
abbrev pub CountsCalls : Event → Type 0
CountsCalls (ArmFail n call) = 1 ≤ call
CountsCalls _ = ⊤

-- Whether an event of a node's own is for its role.
abbrev pub is_for_role : Bool → Task → Bool
-- `say`, `timer` and `child` are for all roles
is_for_role centre (SayTo to bytes) = true
is_for_role centre DoTimer = true
is_for_role centre (HasChild child rejoin) = true
-- `knock`, `rejoin`, `ask` and `tell` are for routers and devices
is_for_role centre DoKnock = not centre
is_for_role centre DoRejoin = not centre
is_for_role centre (AskFor partner) = not centre
is_for_role centre (TellTo partner bytes) = not centre
-- a delivered frame isn't an event of a node's own
is_for_role centre (Received bytes draw) = false
-- `provision`, `remove`, `roll`, `switch`, `again` and `share` are for the centre
is_for_role centre _ = centre

abbrev pub SuitsRole : Schedule → Event → Type 0
SuitsRole w (Own n task) = is_for_role (is_centre (setting_of w n).me.role) task ≡ true
SuitsRole w (RollOver n) = is_centre (setting_of w n).me.role ≡ true
SuitsRole w _ = ⊤

-- The most nodes of a schedule.
abbrev pub most_nodes : ℕ
most_nodes = 64

pub record IsSchedule (w : Schedule) : Type 0 where
  pub few_nodes : length w.nodes ≤ most_nodes
  pub nodes : AllByRecursion IsMember w.nodes
  pub events : AllByRecursion (NamesNode w) w.events
  pub roles : AllByRecursion (SuitsRole w) w.events
  pub calls : AllByRecursion CountsCalls w.events
