-- A hub whose store `init` made is a node of the schedule that its header and its sessions give.
use Rattle.std.proofs.Common.{◌≡◌, ℕ, ◌≤◌, ◌<◌, ◌^◌, true, cond, not, ◌&&◌, ◌||◌, nat_eq, List, [], ◌∷◌, map, length, find, Option, Some, None, is_some, refl, sym, ap, ◌∙◌, subst, arith}
use Rattle.std.proofs.lemmas.Bool.{false≢true}
use Rattle.std.specs.List.{AllByRecursion, list_any}
use Rattle.law_run.specs.Commanding.{OneCentre}
use Rattle.law_run.proofs.Basics.{nat_eq-refl}
use Rattle.law_sessions.specs.Logs.{AllHaveSetting, IsHubOf}
use Rattle.law_sessions.specs.Making.{BeginsWithCentre, IsHeader, found_first, hub_of, hub_schedule, node_of, nodes_of, same_eui}
use Rattle.law_sessions.proofs.LogLemmas.{holding}
use Rattle.zb_base.specs.declared.node.Role.{Role}
use Rattle.zb_base.specs.declared.node.Role.TheVariants as role
use Rattle.zb_centre_store.specs.Makings.{first_tables}
use Rattle.zb_keys.specs.Declarations.{code_with, first_state}
use Rattle.zb_keys.specs.Declarations as keys
use Rattle.zb_live.specs.Living as live
use Rattle.zb_live.specs.Living.{first_station, station}
use Rattle.zb_model.specs.Data.{Bytes, Centre, Station}
use Rattle.zb_model.specs.Data as model
use Rattle.zb_model.specs.Fits.{all_apart}
use Rattle.zb_model.specs.Play.{Node, Schedule, setting_of, start, station_or, stations, without_blocks}
use Rattle.zb_model.specs.Readings.{state_of}
use Rattle.zb_model.specs.Rules.{Setting, centre_of, eui_or, station_of}
use Rattle.zb_model.specs.Schedules.{IsMember, IsSchedule, Names}
use Rattle.zb_model.specs.State.{NodeState, after_boot, is_centre, shown, with_declared, with_given_net}
use Rattle.zb_node_types.specs.Changes.{model_role}
use Rattle.zb_script.specs.Grammar.{is_joiner}
use Rattle.zb_script.specs.Scripts as script
use Rattle.zb_script.specs.Scripts.{Script}

-- ---- the nodes, for these blocks of counters

module _ (out_block in_block : ℕ) where
  peers_are : (ps : List script.Station)
      → map (λ (m : Node). m.station) (map (node_of out_block in_block None) ps) ≡ map (station out_block in_block) ps
  peers_are [] = refl
  peers_are (p ∷ ps) = ap (λ l. station out_block in_block p ∷ l) (peers_are ps)

  stations_are : (key : Bytes) (ps : List script.Station)
      → map (λ (m : Node). m.station) (nodes_of out_block in_block key ps) ≡ map (station out_block in_block) ps
  stations_are key [] = refl
  stations_are key (p ∷ ps) = ap (λ l. station out_block in_block p ∷ l) (peers_are ps)

  hidden_are : (ps : List script.Station) → map without_blocks (map (station out_block in_block) ps)
      ≡ map (station 0 0) ps
  hidden_are [] = refl
  hidden_are (p ∷ ps) = ap (λ l. station 0 0 p ∷ l) (hidden_are ps)

  -- the first node has its own EUI
  own_found : (ps : List script.Station) → BeginsWithCentre ps
      → station_of (map (station out_block in_block) ps) (first_station out_block in_block ps).eui
      ≡ Some (first_station out_block in_block ps)
  unfolding station_of
  own_found [] is = absurd is
  own_found (p ∷ ps) is =
      ap
      (λ b. cond b (Some (station out_block in_block p))
      (find (λ (x : Station). nat_eq x.eui p.eui) (map (station out_block in_block) ps))) (nat_eq-refl p.eui)

  -- no two of them have one EUI
  any_are : (given : Option (Bytes × ℕ)) (x : script.Station) (ps : List script.Station)
      → list_any (keys.same_eui (node_of out_block in_block given x)) (map (node_of out_block in_block None) ps)
      ≡ list_any (same_eui x) ps
  any_are given x [] = refl
  any_are given x (p ∷ ps) = ap (λ b. nat_eq x.eui p.eui || b) (any_are given x ps)

  peers_apart : (ps : List script.Station) → all_apart keys.same_eui (map (node_of out_block in_block None) ps)
      ≡ all_apart same_eui ps
  peers_apart [] = refl
  peers_apart (p ∷ ps) =
      ap (λ b. not b && all_apart keys.same_eui (map (node_of out_block in_block None) ps)) (any_are None p ps)
      ∙ ap (λ b. not (list_any (same_eui p) ps) && b) (peers_apart ps)

  nodes_apart : (key : Bytes) (ps : List script.Station)
      → all_apart keys.same_eui (nodes_of out_block in_block key ps) ≡ all_apart same_eui ps
  nodes_apart key [] = refl
  nodes_apart key (p ∷ ps) =
      ap (λ b. not b && all_apart keys.same_eui (map (node_of out_block in_block None) ps))
      (any_are (Some (key, 0)) p ps)
      ∙ ap (λ b. not (list_any (same_eui p) ps) && b) (peers_apart ps)

  -- each is one that a schedule may have
  member : (given : Option (Bytes × ℕ)) (p : script.Station) → 1 ≤ out_block → 1 ≤ in_block → p.eui < 2 ^ 64
      → IsMember (node_of out_block in_block given p)
  member given p out into eui = record {
    eui = eui;
    out_block = omega (arith, out);
    in_block = omega (arith, into);
    start_nwk = omega arith;
    start_aps = omega arith;
  }

  peer_members : (ps : List script.Station) → 1 ≤ out_block → 1 ≤ in_block
      → AllByRecursion (λ (p : script.Station). p.eui < 2 ^ 64) ps
      → AllByRecursion IsMember (map (node_of out_block in_block None) ps)
  peer_members [] out into euis = tt
  peer_members (p ∷ ps) out into euis = (member None p out into euis.0, peer_members ps out into euis.1)

  members : (key : Bytes) (ps : List script.Station) → 1 ≤ out_block → 1 ≤ in_block
      → AllByRecursion (λ (p : script.Station). p.eui < 2 ^ 64) ps
      → AllByRecursion IsMember (nodes_of out_block in_block key ps)
  members key [] out into euis = tt
  members key (p ∷ ps) out into euis =
      (member (Some (key, 0)) p out into euis.0, peer_members ps out into euis.1)

  as_many_peers : (ps : List script.Station) → length (map (node_of out_block in_block None) ps) ≡ length ps
  as_many_peers [] = refl
  as_many_peers (p ∷ ps) = omega (arith, as_many_peers ps)

  as_many : (key : Bytes) (ps : List script.Station) → length (nodes_of out_block in_block key ps) ≡ length ps
  as_many key [] = refl
  as_many key (p ∷ ps) = omega (arith, as_many_peers ps)

  -- the first one alone is a centre
  no_centre : (r : Role) → is_joiner r ≡ true → is_centre (model_role r) ≡ true → ⊥
  no_centre role.Centre joins e = false≢true joins
  no_centre role.Router joins e = false≢true e
  no_centre role.Device joins e = false≢true e

  peers_one : (n : ℕ) (ps : List script.Station) → AllByRecursion (λ (p : script.Station). is_joiner p.role ≡ true) ps
      → AllByRecursion (λ (p : Station). is_centre p.role ≡ true → p.eui ≡ n) (map (station out_block in_block) ps)
  peers_one n [] all = tt
  peers_one n (p ∷ ps) all = ((λ e. absurd (no_centre p.role all.0 e)), peers_one n ps all.1)

  all_one : (ps : List script.Station) → BeginsWithCentre ps
      → AllByRecursion (λ (p : Station). is_centre p.role ≡ true
      → p.eui ≡ centre_of (map (station out_block in_block) ps)) (map (station out_block in_block) ps)
  unfolding centre_of
  all_one [] is = absurd is
  all_one (p ∷ ps) is =
      let rest = find (λ (x : Station). is_centre x.role) (map (station out_block in_block) ps) in
      let own = Some (station out_block in_block p) in
      let found : eui_or 18446744073709551616 (cond (is_centre (model_role p.role)) own rest) ≡ p.eui =
      ap (λ (r : model.Role). eui_or 18446744073709551616 (cond (is_centre r) own rest)) is.0 in
      ((λ e. sym found), peers_one _ ps is.1)

-- ---- the schedule

abbrev with_stations : Station → List Station → Setting
with_stations me ps = record { me = me; stations = ps }

abbrev firsts : Script → Station
firsts network = first_station network.out_block network.in_block network.stations

own_is : (network : Script) (key : Bytes) (sessions : List (List Bytes)) → BeginsWithCentre network.stations
    → station_of (stations (hub_schedule network key sessions)) (hub_of network) ≡ Some (firsts network)
unfolding live.setting_of
own_is network key sessions is =
    ap (λ ps. station_of ps (firsts network).eui)
    (stations_are network.out_block network.in_block key network.stations)
    ∙ own_found network.out_block network.in_block network.stations is

named_is : (network : Script) (key : Bytes) (sessions : List (List Bytes)) → BeginsWithCentre network.stations
    → Names (hub_schedule network key sessions) (hub_of network)
named_is network key sessions is = ap is_some (own_is network key sessions is)

setting_is : (network : Script) (key : Bytes) (sessions : List (List Bytes)) → BeginsWithCentre network.stations
    → setting_of (hub_schedule network key sessions) (hub_of network) ≡ live.setting_of network
unfolding live.setting_of setting_of
setting_is network key sessions is =
    ap (λ (o : Option Station). with_stations (station_or o)
    (map without_blocks (stations (hub_schedule network key sessions)))) (own_is network key sessions is)
    ∙ ap (λ ps. with_stations (firsts network) (map without_blocks ps))
    (stations_are network.out_block network.in_block key network.stations)
    ∙ ap (λ ps. with_stations (firsts network) ps) (hidden_are network.out_block network.in_block network.stations)

-- the start lines give each node the state of what it holds
abbrev pub StartGives : Type 0
StartGives = (w : Schedule) (m : Node) → all_apart keys.same_eui w.nodes ≡ true
    → find (λ (x : Node). nat_eq x.station.eui m.station.eui) w.nodes ≡ Some m
    → state_of (start w) m.station.eui
    ≡ first_state m.station.role m.network (code_with (centre_of (stations w)) m.code) m.start_nwk m.start_aps

start_is : StartGives → (network : Script) (key : Bytes) (sessions : List (List Bytes)) (ps : List script.Station)
    → network.stations ≡ ps → BeginsWithCentre ps → all_apart same_eui ps ≡ true
    → state_of (start (hub_schedule network key sessions)) (hub_of network) ≡ first_tables key
unfolding live.setting_of
start_is gives network key sessions [] same is differ = absurd is
start_is gives network key sessions (p ∷ ps) same is differ =
    let w = hub_schedule network key sessions in
    let m = node_of network.out_block network.in_block (Some (key, 0)) p in
    let nodes : w.nodes ≡ nodes_of network.out_block network.in_block key (p ∷ ps) =
    ap (nodes_of network.out_block network.in_block key) same in
    let at : hub_of network ≡ p.eui =
    ap (λ xs. (first_station network.out_block network.in_block xs).eui) same in
    ap (state_of (start w)) at
    ∙ gives w m
    (ap (all_apart keys.same_eui) nodes
    ∙ nodes_apart network.out_block network.in_block key (p ∷ ps) ∙ differ)
    (ap (find (λ (x : Node). nat_eq x.station.eui p.eui)) nodes
    ∙ ap (λ b. cond b (Some m)
    (find (λ (x : Node). nat_eq x.station.eui p.eui) (map (node_of network.out_block network.in_block None) ps)))
    (nat_eq-refl p.eui))
    ∙ ap (λ (r : model.Role). first_state r (Some (key, 0)) None 0 0) is.0

pub first_again : (key : Bytes) → shown (after_boot (first_tables key)) ≡ first_tables key
unfolding first_state with_declared with_given_net after_boot shown
first_again key = refl

pub made_is : StartGives → (network : Script) (key : Bytes) (sessions : List (List Bytes)) → IsHeader network
    → AllHaveSetting (live.setting_of network) (found_first key) sessions
    → IsHubOf (hub_schedule network key sessions) (hub_of network) (found_first key) sessions
made_is gives network key sessions header all = record {
  named = named_is network key sessions header.centre;
  events = refl;
  found_so = ap holding (sym (first_again key))
      ∙ ap (λ (s : NodeState). holding (shown (after_boot s)))
      (sym (start_is gives network key sessions network.stations refl header.centre header.differ));
  headers = subst (λ c. AllHaveSetting c (found_first key) sessions)
      (sym (setting_is network key sessions header.centre)) all;
}

-- ---- its nodes

pub made_nodes : (network : Script) (key : Bytes) (sessions : List (List Bytes)) → IsHeader network
    → IsSchedule (record (hub_schedule network key sessions) { events = [] })
made_nodes network key sessions header = record {
  few_nodes = omega (arith, as_many network.out_block network.in_block key network.stations, header.few);
  nodes = members network.out_block network.in_block key network.stations header.out_block header.in_block header.euis;
  events = tt;
  roles = tt;
  calls = tt;
}

pub made_one : (network : Script) (key : Bytes) (sessions : List (List Bytes)) → IsHeader network
    → OneCentre (hub_schedule network key sessions)
made_one network key sessions header =
    subst (λ (ps : List Station). AllByRecursion (λ (p : Station). is_centre p.role ≡ true → p.eui ≡ centre_of ps) ps)
    (sym (stations_are network.out_block network.in_block key network.stations))
    (all_one network.out_block network.in_block network.stations header.centre)
