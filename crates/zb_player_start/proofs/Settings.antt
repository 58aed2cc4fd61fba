-- The nodes of a schedule as the peers of a configuration.
use Rattle.std.proofs.Common.{◌≡◌, ℕ, zero, suc, ◌<◌, ◌≤◌, Bool, true, false, cond, List, [], ◌∷◌, map, find, length, nat_eq, Some, None, refl, sym, ap, ◌∙◌, subst, arith, eq-eqb, eqb-true}
use Rattle.std.specs.Prelude.{slice_get, count_by, filter, option_map, ◌≢◌, ◌||◌}
use Rattle.std.specs.List.{AllByRecursion, list_any}
use Rattle.std.proofs.lemmas.Bool.{false≢true}
use Rattle.std.proofs.lemmas.Bool.Decides.{nat_tests}
use Rattle.std.proofs.lemmas.List.{length-map}
use Rattle.std.proofs.lemmas.List.Sums.{length-filter}
use Rattle.zb_base.specs.Config as config
use Rattle.zb_base.specs.Config.{ApartBy, IsConfig}
use Rattle.zb_base.specs.declared.node.Config.{Config}
use Rattle.zb_base.specs.declared.node.Peer.{Peer}
use Rattle.zb_base.specs.declared.node.Role.{Role}
use Rattle.zb_base.specs.declared.node.Role.TheVariants.{Centre, Router, Device}
use Rattle.zb_model.specs.Data.{Station}
use Rattle.zb_model.specs.Play as model
use Rattle.zb_model.specs.Play.{setting_of, without_blocks, station_or}
use Rattle.zb_model.specs.Rules.{centre_of, eui_or, station_of}
use Rattle.zb_model.specs.State as state
use Rattle.law_schedules.specs.Schedules.{schedule_of, station_for}
use Rattle.law_schedules.proofs.Meets.{same_stations}
use Rattle.zb_setting.specs.Settings.{setting_for, known, own, station}
use Rattle.zb_node_types.specs.Changes.{model_role}
use Rattle.zb_sched.specs.Judge.{are_blocks}
use Rattle.zb_sched.specs.Reading as sched
use Rattle.zb_sched.specs.Schedules.{Node, Schedule, node_of}
use Rattle.zb_sched.specs.Valid.{Apart, FitsNode, Pairwise}
use Rattle.zb_sched.specs.declared.schedule.Node.{Node as CodeNode}
use Rattle.zb_sched.proofs.OneCentre.{one_centre}
use Rattle.zb_sched.proofs.Splits.{false_if}
use Rattle.zb_player_start.specs.Firsts.{AreNodesOf}
use Rattle.zb_player_start.proofs.Lists.{all_at, map_at, each_found, mapped_pairs}

abbrev pub peer_of : CodeNode → Peer
peer_of d = d.peer

-- the stations of the program's nodes
abbrev pub stations_in : List CodeNode → List Station
stations_in ds = map station_for (map node_of ds)

pub stations_are : (p : Schedule) (ds : List CodeNode) → AreNodesOf p ds → model.stations (schedule_of p)
    ≡ stations_in ds
stations_are p ds is = same_stations p ∙ ap (map station_for) is.nodes

pub apart_nodes : (p : Schedule) (ds : List CodeNode) → AreNodesOf p ds → Pairwise Apart (map node_of ds)
apart_nodes p ds is = subst (Pairwise Apart) is.nodes is.valid.so_far.apart

pub fit_nodes : (p : Schedule) (ds : List CodeNode) → AreNodesOf p ds → AllByRecursion FitsNode (map node_of ds)
fit_nodes p ds is = subst (AllByRecursion FitsNode) is.nodes is.valid.so_far.nodes

pub few_nodes : (p : Schedule) (ds : List CodeNode) → AreNodesOf p ds → length ds ≤ 64
few_nodes p ds is = let few = is.valid.so_far.few_nodes in let same : length p.nodes ≡ length ds =
    ap (length {A = Node}) is.nodes ∙ length-map ds node_of in omega (arith, few, same)

-- what others know of each
known_same : (ds : List CodeNode) → map known (map peer_of ds) ≡ map without_blocks (stations_in ds)
known_same [] = refl
known_same (d ∷ ds) = ap (λ ps. known d.peer ∷ ps) (known_same ds)

-- each node is found by its EUI

abbrev EuisDiffer : Station → Station → Type 0
EuisDiffer p q = p.eui ≡ q.eui → ⊥

other_eui : (p q : Station) → EuisDiffer p q → nat_eq p.eui q.eui ≡ false
other_eui p q differ = false_if (nat_eq p.eui q.eui) (λ same. differ (eqb-true p.eui q.eui same))

pub found_by_eui : (ds : List CodeNode) → Pairwise Apart (map node_of ds) → (me : ℕ) (s : Station)
    → slice_get (stations_in ds) me ≡ Some s → station_of (stations_in ds) s.eui ≡ Some s
unfolding station_of
found_by_eui ds apart me s at =
    all_at (λ (q : Station). find (λ (p : Station). nat_eq p.eui q.eui) (stations_in ds) ≡ Some q) (stations_in ds) me
    s
    (each_found EuisDiffer (λ (p q : Station). nat_eq p.eui q.eui) other_eui (λ p. eq-eqb p.eui p.eui refl)
    (stations_in ds)
    (mapped_pairs Apart EuisDiffer station_for (λ m n differ. differ.1) (map node_of ds) apart)) at

-- the setting of a configuration

me_at : (ds : List CodeNode) (me : ℕ) (s : Station) (out_block in_block : ℕ) → slice_get (stations_in ds) me ≡ Some s
    → out_block ≡ s.out_block → in_block ≡ s.in_block
    → own out_block in_block (slice_get (map peer_of ds) me) ≡ s
me_at [] me s out_block in_block at a b = absurd (cc)
me_at (d ∷ ds) zero s out_block in_block at a b = let same : station_for (node_of d) ≡ s = cc in
    ap (λ o. station o in_block d.peer) (a ∙ ap (λ (x : Station). x.out_block) (sym same)) ∙ ap
    (λ i. station d.out_block i d.peer) (b ∙ ap (λ (x : Station). x.in_block) (sym same)) ∙ same
me_at (d ∷ ds) (suc me) s out_block in_block at a b = me_at ds me s out_block in_block at a b

pub setting_is : (ds : List CodeNode) → Pairwise Apart (map node_of ds)
    → (c : Config) (s : Station) (w : model.Schedule) → model.stations w ≡ stations_in ds
    → slice_get (stations_in ds) c.me ≡ Some s → c.peers.items ≡ map peer_of ds → c.out_block ≡ s.out_block
    → c.in_block ≡ s.in_block
    → setting_for c ≡ setting_of w s.eui
unfolding setting_for setting_of
setting_is ds apart c s w stations at peers out_block in_block =
    ap (λ ps. record { me = own c.out_block c.in_block (slice_get ps c.me); stations = map known ps }) peers
    ∙ ap (λ m. record { me = m; stations = map known (map peer_of ds) })
    (me_at ds c.me s c.out_block c.in_block at out_block in_block)
    ∙ ap (λ ps. record { me = s; stations = ps }) (known_same ds)
    ∙ ap (λ o. record { me = station_or o; stations = map without_blocks (stations_in ds) })
    (sym (found_by_eui ds apart c.me s at))
    ∙ ap (λ ps. record { me = station_or (station_of ps s.eui); stations = map without_blocks ps }) (sym stations)

-- a configuration of a node

others_apart : {V : Type 0} (reading : Peer → V) (d : CodeNode)
    → ((e : CodeNode) → Apart (node_of d) (node_of e) → reading d.peer ≢ reading e.peer)
    → (ds : List CodeNode) → AllByRecursion (Apart (node_of d)) (map node_of ds)
    → AllByRecursion (λ other. reading d.peer ≢ reading other) (map peer_of ds)
others_apart reading d each [] all = tt
others_apart reading d each (e ∷ ds) all = (each e all.0, others_apart reading d each ds all.1)

apart_by : {V : Type 0} (reading : Peer → V)
    → ((d e : CodeNode) → Apart (node_of d) (node_of e) → reading d.peer ≢ reading e.peer)
    → (ds : List CodeNode) → Pairwise Apart (map node_of ds) → ApartBy reading (map peer_of ds)
apart_by reading each [] pairs = tt
apart_by reading each (d ∷ ds) pairs = (others_apart reading d (each d) ds pairs.0, apart_by reading each ds pairs.1)

same_centre : (r : Role) → config.is_centre r ≡ sched.is_centre r
same_centre Centre = refl
same_centre Router = refl
same_centre Device = refl

abbrev NotBoth : Node → Node → Type 0
NotBoth m n = sched.is_centre m.role ≡ true → sched.is_centre n.role ≡ true → ⊥

abbrev centres : List CodeNode → List Peer
centres ds = filter (λ (peer : Peer). config.is_centre peer.role) (map peer_of ds)

no_more : (d : CodeNode) (ds : List CodeNode) → sched.is_centre d.peer.role ≡ true
    → AllByRecursion (NotBoth (node_of d)) (map node_of ds) → centres ds ≡ []
no_more d [] is all = refl
no_more d (e ∷ ds) is all =
    ap (λ b. cond b (e.peer ∷ centres ds) (centres ds))
    (same_centre e.peer.role ∙ false_if (sched.is_centre e.peer.role) (λ f. all.0 is f)) ∙ no_more d ds is all.1

one_by : (d : CodeNode) (ds : List CodeNode) (b : Bool) → sched.is_centre d.peer.role ≡ b
    → AllByRecursion (NotBoth (node_of d)) (map node_of ds)
    → (list_any (λ (m : Node). sched.is_centre m.role) (map node_of ds) ≡ true → length (centres ds) ≡ 1)
    → (b || list_any (λ (m : Node). sched.is_centre m.role) (map node_of ds)) ≡ true
    → length (cond b (d.peer ∷ centres ds) (centres ds)) ≡ 1
one_by d ds true is all more some = ap (λ (ps : List Peer). length (d.peer ∷ ps)) (no_more d ds is all)
one_by d ds false is all more some = more some

one_peer : (ds : List CodeNode) → Pairwise NotBoth (map node_of ds) → list_any (λ (m : Node). sched.is_centre m.role)
    (map node_of ds) ≡ true → length (centres ds) ≡ 1
one_peer [] pairs some = absurd (false≢true some)
one_peer (d ∷ ds) pairs some =
    ap (λ b. length (cond b (d.peer ∷ centres ds) (centres ds))) (same_centre d.peer.role)
    ∙ one_by d ds (sched.is_centre d.peer.role) refl pairs.0 (one_peer ds pairs.1) some

record Blocks (out_block in_block : ℕ) : Type 0 where
  out_least : 1 ≤ out_block
  out_most : out_block ≤ 65536
  in_least : 1 ≤ in_block
  in_most : in_block ≤ 1024

blocks_of : (out_block in_block : ℕ) → are_blocks out_block in_block ≡ true → Blocks out_block in_block
blocks_of out_block in_block fits = record {
  out_least = grind (arith, nat_tests, fits);
  out_most = grind (arith, nat_tests, fits);
  in_least = grind (arith, nat_tests, fits);
  in_most = grind (arith, nat_tests, fits);
}

one_counted : (p : Schedule) (ds : List CodeNode) → AreNodesOf p ds
    → count_by (λ (peer : Peer). config.is_centre peer.role) (map peer_of ds) ≡ 1
one_counted p ds is =
    sym (length-filter (λ (peer : Peer). config.is_centre peer.role) (map peer_of ds))
    ∙ one_peer ds (one_centre (map node_of ds) (fit_nodes p ds is) (apart_nodes p ds is))
    (subst (λ ms. list_any (λ (m : Node). sched.is_centre m.role) ms ≡ true) is.nodes is.valid.centre)

pub config_is : (p : Schedule) (ds : List CodeNode) → AreNodesOf p ds → (c : Config) (d : CodeNode)
    → slice_get ds c.me ≡ Some d → c.me < length ds
    → c.peers.items ≡ map peer_of ds → c.out_block ≡ d.out_block → c.in_block ≡ d.in_block → IsConfig c
config_is p ds is c d at within peers out_block in_block =
    let pairs = apart_nodes p ds is in
    let fits : FitsNode (node_of d) = all_at FitsNode (map node_of ds) c.me (node_of d) (fit_nodes p ds is)
    (map_at node_of ds c.me d at) in
    let b = blocks_of d.out_block d.in_block fits.1 in
    record {
      names = subst (ApartBy (λ (peer : Peer). peer.name.bytes)) (sym peers)
          (apart_by (λ (peer : Peer). peer.name.bytes) (λ d e differ. differ.0) ds pairs);
      euis = subst (ApartBy (λ (peer : Peer). peer.eui.0)) (sym peers)
          (apart_by (λ (peer : Peer). peer.eui.0) (λ d e differ. differ.1) ds pairs);
      shorts = subst (ApartBy (λ (peer : Peer). peer.short.0)) (sym peers)
          (apart_by (λ (peer : Peer). peer.short.0) (λ d e differ. differ.2) ds pairs);
      one_centre = subst (λ ps. count_by (λ (peer : Peer). config.is_centre peer.role) ps ≡ 1) (sym peers)
          (one_counted p ds is);
      place = subst (λ ps. c.me < length ps) (sym peers) (subst (λ n. c.me < n) (sym (length-map ds peer_of)) within);
      out_least = subst (λ n. 1 ≤ n) (sym out_block) b.out_least;
      out_most = subst (λ n. n ≤ 65536) (sym out_block) b.out_most;
      in_least = subst (λ n. 1 ≤ n) (sym in_block) b.in_least;
      in_most = subst (λ n. n ≤ 1024) (sym in_block) b.in_most;
    }

-- the centre

first_centre : (ds : List CodeNode) → find (λ (s : Station). state.is_centre s.role) (stations_in ds)
    ≡ option_map (λ (d : CodeNode). station_for (node_of d)) (find (λ (d : CodeNode). sched.is_centre d.peer.role) ds)
first_centre [] = refl
first_centre (d ∷ ds) = by_test (state.is_centre (model_role d.peer.role)) (sched.is_centre d.peer.role)
    (role_same d.peer.role) (first_centre ds)
  where
    role_same : (r : Role) → state.is_centre (model_role r) ≡ sched.is_centre r
    role_same Centre = refl
    role_same Router = refl
    role_same Device = refl

    by_test : (a b : Bool) → a ≡ b → find (λ (s : Station). state.is_centre s.role) (stations_in ds)
        ≡ option_map (λ (e : CodeNode). station_for (node_of e))
        (find (λ (e : CodeNode). sched.is_centre e.peer.role) ds)
        → cond a (Some (station_for (node_of d))) (find (λ (s : Station). state.is_centre s.role) (stations_in ds))
        ≡ option_map (λ (e : CodeNode). station_for (node_of e))
        (cond b (Some d) (find (λ (e : CodeNode). sched.is_centre e.peer.role) ds))
    by_test a b same more =
        ap (λ x. cond x (Some (station_for (node_of d)))
        (find (λ (s : Station). state.is_centre s.role) (stations_in ds))) same ∙ on b more
      where
        on : (b : Bool) → find (λ (s : Station). state.is_centre s.role) (stations_in ds)
            ≡ option_map (λ (e : CodeNode). station_for (node_of e))
            (find (λ (e : CodeNode). sched.is_centre e.peer.role) ds)
            → cond b (Some (station_for (node_of d))) (find (λ (s : Station). state.is_centre s.role) (stations_in ds))
            ≡ option_map (λ (e : CodeNode). station_for (node_of e))
            (cond b (Some d) (find (λ (e : CodeNode). sched.is_centre e.peer.role) ds))
        on true more = refl
        on false more = more

pub centre_is : (p : Schedule) (ds : List CodeNode) → AreNodesOf p ds → (d : CodeNode)
    → find (λ (e : CodeNode). sched.is_centre e.peer.role) ds ≡ Some d
    → d.peer.eui.0 ≡ centre_of (model.stations (schedule_of p))
unfolding centre_of
centre_is p ds is d one =
    sym (ap (λ ps. eui_or 18446744073709551616 (find (λ (s : Station). state.is_centre s.role) ps))
    (stations_are p ds is)
    ∙ ap (eui_or 18446744073709551616)
    (first_centre ds ∙ ap (option_map (λ (e : CodeNode). station_for (node_of e))) one))

none_found : (ds : List CodeNode) → find (λ (d : CodeNode). sched.is_centre d.peer.role) ds ≡ None
    → list_any (λ (m : Node). sched.is_centre m.role) (map node_of ds) ≡ false
none_found [] none = refl
none_found (d ∷ ds) none = by_test (sched.is_centre d.peer.role) none (none_found ds)
  where
    by_test : (b : Bool) → cond b (Some d) (find (λ (e : CodeNode). sched.is_centre e.peer.role) ds) ≡ None
        → (find (λ (e : CodeNode). sched.is_centre e.peer.role) ds ≡ None
        → list_any (λ (m : Node). sched.is_centre m.role) (map node_of ds) ≡ false)
        → (b || list_any (λ (m : Node). sched.is_centre m.role) (map node_of ds)) ≡ false
    by_test true none more = absurd (cc)
    by_test false none more = more none

pub some_centre : (p : Schedule) (ds : List CodeNode) → AreNodesOf p ds
    → find (λ (d : CodeNode). sched.is_centre d.peer.role) ds ≡ None → ⊥
some_centre p ds is none =
    false≢true
    (sym (none_found ds none) ∙ subst (λ ms. list_any (λ (m : Node). sched.is_centre m.role) ms ≡ true) is.nodes
    is.valid.centre)

pub setting_at : (p : Schedule) (ds : List CodeNode) → AreNodesOf p ds → (c : Config) (d : CodeNode)
    → slice_get ds c.me ≡ Some d → c.peers.items ≡ map peer_of ds → c.out_block ≡ d.out_block → c.in_block ≡ d.in_block
    → (s : Station) → slice_get (model.stations (schedule_of p)) c.me ≡ Some s → setting_for c
    ≡ setting_of (schedule_of p) s.eui
setting_at p ds is c d at peers out_block in_block s found =
    let there : slice_get (stations_in ds) c.me ≡ Some s = subst (λ ps. slice_get ps c.me ≡ Some s)
    (stations_are p ds is) found in
    let here : slice_get (stations_in ds) c.me ≡ Some (station_for (node_of d)) =
    map_at station_for (map node_of ds) c.me (node_of d) (map_at node_of ds c.me d at) in
    let same : station_for (node_of d) ≡ s = cc in
    setting_is ds (apart_nodes p ds is) c s (schedule_of p) (stations_are p ds is) there peers
    (out_block ∙ ap (λ (x : Station). x.out_block) same) (in_block ∙ ap (λ (x : Station). x.in_block) same)
