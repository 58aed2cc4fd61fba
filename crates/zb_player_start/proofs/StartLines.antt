-- The start lines of a schedule, told kind by kind.
use Rattle.std.proofs.Common.{◌≡◌, ℕ, List, [], ◌∷◌, ◌++◌, map, refl, sym, ap, ◌∙◌, subst, append_assoc, Bool, false, find, Some, nat_eq, bytes_eq, eq-eqb, eqb-true, Option}
use Rattle.std.specs.Io.KnownBytes.{append_known}
use Rattle.std.specs.Prelude.{flat_map, fold}
use Rattle.std.specs.List.{AllByRecursion}
use Rattle.std.proofs.lemmas.List.{append-nil}
use Rattle.std.proofs.lemmas.List.Concat.{flat_map-cons}
use Rattle.std.proofs.lemmas.Slice.Eq.{bytes_eq-Decides}
use Rattle.zb_player_start.specs.Firsts.{AreNodesOf, model_node}
use Rattle.zb_player_start.proofs.Lists.{each_found, mapped_pairs}
use Rattle.zb_player_start.proofs.Settings.{apart_nodes, stations_are, stations_in}
use Rattle.zb_model.specs.Data.{Station, Nwk, Aps}
use Rattle.zb_model.specs.Lines.{Line, Declared}
use Rattle.zb_model.specs.Play as model
use Rattle.zb_model.specs.Play.{limit_line, link_line, net_line, start}
use Rattle.zb_model.specs.Readings.{station_line, stations_of}
use Rattle.zb_model.specs.Rules.{centre_of, station_of as model_station}
use Rattle.law_schedules.specs.Schedules.{node_for, schedule_of, station_for}
use Rattle.zb_trace_model.specs.Naming.{name_of, name_or_none, IsCalled}
use Rattle.zb_trace_model.specs.Said.{text_of}
use Rattle.zb_trace_model.proofs.Texts.{text_append}
use Rattle.zb_sched.specs.Schedules.{Schedule, node_of}
use Rattle.zb_sched.specs.Valid.{Apart, Pairwise}
use Rattle.zb_sched.specs.declared.schedule.Node.{Node as CodeNode}
use Rattle.zb_sched.proofs.Lists.{all_map2}
use Rattle.zb_sched.proofs.Splits.{false_if}
use Rattle.zb_player_scribe.specs.Kept.{Kept, Tells}
use Rattle.zb_player_scribe.specs.declared.scribe.Scribe.{Scribe}
use Rattle.zb_player_scribe.specs.Turns.{append_twice, told_in_turn}
use Rattle.zb_trace.specs.Views.{eui_or_nobody, named}
use Rattle.zb_player_start.specs.Starts.{AreKnown, code_lines, counter_lines, declared_lines, network_lines, station_of}

-- The names of declared nodes lead to them.

abbrev Differ : Station → Station → Type 0
Differ p q = (p.name ≡ q.name → ⊥) × (p.eui ≡ q.eui → ⊥)

abbrev by_eui : Station → Station → Bool
by_eui p q = nat_eq p.eui q.eui

abbrev by_name : Station → Station → Bool
by_name p q = bytes_eq p.name q.name

other_eui : (p q : Station) → Differ p q → by_eui p q ≡ false
other_eui p q differ = false_if (by_eui p q) (λ same. differ.1 (eqb-true p.eui q.eui same))

other_name : (p q : Station) → Differ p q → by_name p q ≡ false
other_name p q differ = false_if (by_name p q) (λ same. differ.0 ((bytes_eq-Decides p.name q.name).0 same))

called : (ps : List Station) (p : Station) → find (λ (q : Station). by_eui q p) ps ≡ Some p
    → find (λ (q : Station). by_name q p) ps ≡ Some p → IsCalled ps p.eui p.name
unfolding name_of model_station named
called ps p eui name = record { name_is = ap name_or_none eui; leads = ap eui_or_nobody name }

all_called : (ps : List Station) → Pairwise Differ ps → AllByRecursion (λ (p : Station). IsCalled ps p.eui p.name) ps
all_called ps pairs =
    all_map2 (λ (p : Station). find (λ (q : Station). by_eui q p) ps ≡ Some p)
    (λ (p : Station). find (λ (q : Station). by_name q p) ps ≡ Some p) (λ (p : Station). IsCalled ps p.eui p.name)
    ps (called ps)
    (each_found Differ by_eui other_eui (λ p. eq-eqb p.eui p.eui refl) ps pairs)
    (each_found Differ by_name other_name (λ p. (bytes_eq-Decides p.name p.name).1 refl) ps pairs)

known_nodes : (known : List Station) (ds : List CodeNode)
    → AllByRecursion (λ (p : Station). IsCalled known p.eui p.name) (map station_for (map node_of ds))
    → AreKnown known ds
known_nodes known [] all = tt
known_nodes known (d ∷ ds) all = (all.0, known_nodes known ds all.1)

pub are_known : (p : Schedule) (ds : List CodeNode) → AreNodesOf p ds → AreKnown (model.stations (schedule_of p)) ds
are_known p ds is =
    known_nodes (model.stations (schedule_of p)) ds
    (subst (λ ps. AllByRecursion (λ (s : Station). IsCalled ps s.eui s.name) (stations_in ds))
    (sym (stations_are p ds is))
    (all_called (stations_in ds)
    (mapped_pairs Apart Differ station_for (λ m n differ. (differ.0, differ.1)) (map node_of ds)
    (apart_nodes p ds is))))

-- The start lines, kind by kind.

declared_of : (ds : List CodeNode) → map Declared (stations_in ds) ≡ declared_lines ds
declared_of [] = refl
declared_of (d ∷ ds) = ap (λ lines. Declared (station_of d) ∷ lines) (declared_of ds)

lines_of : (f : model.Node → List Line) (g : CodeNode → List Line) → ((d : CodeNode) → f (model_node d) ≡ g d)
    → (ds : List CodeNode) → flat_map f (map node_for (map node_of ds)) ≡ flat_map g ds
lines_of f g same [] = refl
lines_of f g same (d ∷ ds) =
    flat_map-cons f (model_node d) (map node_for (map node_of ds)) ∙ ap
    (λ lines. lines ++ flat_map f (map node_for (map node_of ds))) (same d)
    ∙ ap (λ lines. g d ++ lines) (lines_of f g same ds) ∙ sym (flat_map-cons g d ds)

nodes_are : (p : Schedule) (ds : List CodeNode) → AreNodesOf p ds → (schedule_of p).nodes
    ≡ map node_for (map node_of ds)
unfolding schedule_of
nodes_are p ds is = ap (map node_for) is.nodes

abbrev rest_of : ℕ → List CodeNode → List Line
rest_of centre ds = flat_map network_lines ds ++ (flat_map (code_lines centre) ds ++ flat_map counter_lines ds)

start_is : (p : Schedule) (ds : List CodeNode) → AreNodesOf p ds → start (schedule_of p) ≡ declared_lines ds
    ++ rest_of (centre_of (model.stations (schedule_of p))) ds
unfolding start
start_is p ds is = by_nodes (model.stations (schedule_of p)) (schedule_of p).nodes (stations_are p ds is)
    (nodes_are p ds is)
  where
    c : ℕ
    c = centre_of (model.stations (schedule_of p))

    by_nodes : (ps : List Station) (ms : List model.Node) → ps ≡ stations_in ds → ms ≡ map node_for (map node_of ds)
        → map Declared ps ++ (flat_map (λ (m : model.Node). net_line m.station.eui m.network) ms
        ++ (flat_map (λ (m : model.Node). link_line c m.station.eui m.code) ms
        ++ flat_map
        (λ (m : model.Node). limit_line m.station.eui Nwk m.start_nwk ++ limit_line m.station.eui Aps m.start_aps)
        ms))
        ≡ declared_lines ds ++ rest_of c ds
    by_nodes ps ms one two =
        ap (λ xs. map Declared xs ++ (flat_map (λ (m : model.Node). net_line m.station.eui m.network) ms
        ++ (flat_map (λ (m : model.Node). link_line c m.station.eui m.code) ms
        ++ flat_map
        (λ (m : model.Node). limit_line m.station.eui Nwk m.start_nwk ++ limit_line m.station.eui Aps m.start_aps)
        ms))) one
        ∙ ap (λ xs. map Declared (stations_in ds)
        ++ (flat_map (λ (m : model.Node). net_line m.station.eui m.network) xs
        ++ (flat_map (λ (m : model.Node). link_line c m.station.eui m.code) xs
        ++ flat_map
        (λ (m : model.Node). limit_line m.station.eui Nwk m.start_nwk ++ limit_line m.station.eui Aps m.start_aps)
        xs))) two
        ∙ joined (declared_of ds)
        (lines_of (λ (m : model.Node). net_line m.station.eui m.network) network_lines (λ d. refl) ds)
        (lines_of (λ (m : model.Node). link_line c m.station.eui m.code) (code_lines c) (λ d. refl) ds)
        (lines_of
        (λ (m : model.Node). limit_line m.station.eui Nwk m.start_nwk ++ limit_line m.station.eui Aps m.start_aps)
        counter_lines (λ d. refl) ds)
      where
        joined : {a b e f a' b' e' f' : List Line} → a ≡ a' → b ≡ b' → e ≡ e' → f ≡ f' → a ++ (b ++ (e ++ f)) ≡ a'
            ++ (b' ++ (e' ++ f'))
        joined one two three four = cc

stations_from : (ps : List Station) (ds : List CodeNode) → fold station_line ps (declared_lines ds) ≡ ps
    ++ stations_in ds
stations_from ps [] = sym (append-nil ps)
stations_from ps (d ∷ ds) = stations_from (ps ++ station_of d ∷ []) ds ∙ append_assoc ps (station_of d ∷ [])
    (stations_in ds)

declared_stations : (ds : List CodeNode) → stations_of (declared_lines ds) ≡ stations_in ds
unfolding stations_of
declared_stations ds = stations_from [] ds

rest_told : (known : List Station) (centre : ℕ) (ds : List CodeNode) (s1 s2 s3 s4 : Scribe)
    (p1 p2 p3 p4 : Option (List ℕ)) → Tells known (flat_map network_lines ds) s1 p1 s2 p2
    → Tells known (flat_map (code_lines centre) ds) s2 p2 s3 p3 → Tells known (flat_map counter_lines ds) s3 p3 s4 p4
    → Tells known (rest_of centre ds) s1 p1 s4 p4
rest_told known centre ds s1 s2 s3 s4 p1 p2 p3 p4 networks codes counters =
    told_in_turn known (flat_map network_lines ds) (flat_map (code_lines centre) ds ++ flat_map counter_lines ds) s1
    s2 s4 p1 p2 p4 networks
    (told_in_turn known (flat_map (code_lines centre) ds) (flat_map counter_lines ds) s2 s3 s4 p2 p3 p4 codes counters)

-- What stands on the page after all four kinds, and what the scribe keeps.

abbrev centre_in : Schedule → ℕ
centre_in p = centre_of (model.stations (schedule_of p))

pub start_page : (p : Schedule) (ds : List CodeNode) → AreNodesOf p ds → (s1 s4 : Scribe) (p0 p1 p4 : Option (List ℕ))
    → p1 ≡ append_known p0 (text_of (model.stations (schedule_of p)) (declared_lines ds))
    → Tells (model.stations (schedule_of p)) (rest_of (centre_in p) ds) s1 p1 s4 p4
    → p4 ≡ append_known p0 (text_of (model.stations (schedule_of p)) (start (schedule_of p)))
start_page p ds is s1 s4 p0 p1 p4 first rest =
    let known = model.stations (schedule_of p) in
    rest.page ∙ ap (λ shown. append_known shown (text_of known (rest_of (centre_in p) ds))) first ∙ append_twice p0
    (text_of known (declared_lines ds)) (text_of known (rest_of (centre_in p) ds))
    ∙ ap (append_known p0)
    (sym (text_append known (declared_lines ds) (rest_of (centre_in p) ds)) ∙ ap (text_of known)
    (sym (start_is p ds is)))

pub start_kept : (p : Schedule) (ds : List CodeNode) → AreNodesOf p ds → (s1 s4 : Scribe) (p1 p4 : Option (List ℕ))
    → Kept (declared_lines ds) s1
    → Tells (model.stations (schedule_of p)) (rest_of (centre_in p) ds) s1 p1 s4 p4 → Kept (start (schedule_of p)) s4
start_kept p ds is s1 s4 p1 p4 first rest =
    subst (λ lines. Kept lines s4) (sym (start_is p ds is))
    (rest.kept (declared_lines ds) (declared_stations ds ∙ sym (stations_are p ds is)) first)

pub start_rest : (p : Schedule) (ds : List CodeNode) → AreNodesOf p ds → (centre : ℕ) → centre ≡ centre_in p
    → (s1 s2 s3 s4 : Scribe) (p1 p2 p3 p4 : Option (List ℕ))
    → ((known : List Station) → AreKnown known ds → Tells known (flat_map network_lines ds) s1 p1 s2 p2)
    → ((known : List Station) → AreKnown known ds → Tells known (flat_map (code_lines centre) ds) s2 p2 s3 p3)
    → ((known : List Station) → AreKnown known ds → Tells known (flat_map counter_lines ds) s3 p3 s4 p4)
    → Tells (model.stations (schedule_of p)) (rest_of (centre_in p) ds) s1 p1 s4 p4
start_rest p ds is centre same s1 s2 s3 s4 p1 p2 p3 p4 networks codes counters =
    let known = model.stations (schedule_of p) in
    let all = are_known p ds is in
    subst (λ c. Tells known (rest_of c ds) s1 p1 s4 p4) same
    (rest_told known centre ds s1 s2 s3 s4 p1 p2 p3 p4 (networks known all) (codes known all) (counters known all))
