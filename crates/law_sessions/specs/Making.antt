-- The schedule of which a hub is a node, where `init` made its store.
use Rattle.std.specs.Prelude.{ℕ, ◌≡◌, ◌≤◌, ◌<◌, ◌^◌, Bool, true, length, map, nat_eq, List, [], ◌∷◌, Option, Some, None, Ok}
use Rattle.std.specs.List.{AllByRecursion}
use Rattle.law_sessions.specs.Hubs.{hub_events}
use Rattle.law_sessions.specs.Logs.{hub_tasks}
use Rattle.zb_centre_store.specs.Makings.{first_tables}
use Rattle.zb_live.specs.Living.{Found, setting_of, station}
use Rattle.zb_model.specs.Data.{Bytes, Centre}
use Rattle.zb_model.specs.Fits.{all_apart}
use Rattle.zb_model.specs.Play.{Node, Schedule}
use Rattle.zb_node_types.specs.Changes.{model_role}
use Rattle.zb_script.specs.Grammar.{is_joiner}
use Rattle.zb_script.specs.Scripts as script
use Rattle.zb_script.specs.Scripts.{Script}
use Rattle.zb_base.specs.Limits.{most_nodes}

-- ---- the header

-- the first node is the centre, and the others are routers or devices
abbrev pub BeginsWithCentre : List script.Station → Type 0
BeginsWithCentre [] = ⊥
BeginsWithCentre (centre ∷ peers) = (model_role centre.role ≡ Centre)
    × AllByRecursion (λ (p : script.Station). is_joiner p.role ≡ true) peers

abbrev pub same_eui : script.Station → script.Station → Bool
same_eui a b = nat_eq a.eui b.eui

-- A header that may be opened: the centre with at most 63 peers. Their EUIs have 64 bits and differ, and the blocks of
-- counters aren't empty.
pub record IsHeader (network : Script) : Type 0 where
  pub centre : BeginsWithCentre network.stations
  pub differ : all_apart same_eui network.stations ≡ true
  pub euis : AllByRecursion (λ (p : script.Station). p.eui < 2 ^ 64) network.stations
  pub few : length network.stations ≤ most_nodes
  pub out_block : 1 ≤ network.out_block
  pub in_block : 1 ≤ network.in_block

-- the EUI of its centre
abbrev pub hub_of : Script → ℕ
hub_of network = (setting_of network).me.eui

-- ---- the schedule

-- a node of the header, which holds this network key at the start
abbrev pub node_of : ℕ → ℕ → Option (Bytes × ℕ) → script.Station → Node
node_of out_block in_block given p =
    record {
      station = station out_block in_block p;
      code = None;
      network = given;
      start_nwk = 0;
      start_aps = 0;
    }

-- the centre holds the network key, of sequence 0, and the others hold nothing
abbrev pub nodes_of : ℕ → ℕ → Bytes → List script.Station → List Node
nodes_of out_block in_block key [] = []
nodes_of out_block in_block key (centre ∷ peers) =
    node_of out_block in_block (Some (key, 0)) centre ∷ map (node_of out_block in_block None) peers

-- what the first session finds in a store that `init` made with this network key
abbrev pub found_first : Bytes → Found
found_first key = Ok (Some (first_tables key))

abbrev pub hub_schedule : Script → Bytes → List (List Bytes) → Schedule
hub_schedule network key sessions =
    record {
      nodes = nodes_of network.out_block network.in_block key network.stations;
      draws = [];
      events = hub_events (hub_of network) (hub_tasks (found_first key) sessions);
    }
