-- What every schedule keeps implies what the laws over runs ask of its model.
use Rattle.std.proofs.Common.{◌≡◌, ℕ, ◌&&◌, ◌||◌, not, Bool, true, false, cond, List, [], ◌∷◌, ◌++◌, map, find, Option, Some, None, option_to_list, nat_eq, bytes_eq, refl, sym, ap, ◌∙◌, subst, arith, eq-eqb, eqb-true, ◌≤◌}
use Rattle.std.specs.Prelude.{is_some, IfSome}
use Rattle.std.specs.List.{AllByRecursion, list_any}
use Rattle.std.specs.Option.{option_map}
use Rattle.std.proofs.lemmas.Bool.{and_parts, false≢true}
use Rattle.std.proofs.lemmas.Bool.Decides.{nat_tests}
use Rattle.std.proofs.lemmas.List.{length-map}
use Rattle.std.proofs.lemmas.Slice.Eq.{bytes_eq-Decides}
use Rattle.zb_base.specs.declared.node.Role.{Role}
use Rattle.zb_base.specs.declared.node.Role.TheVariants.{Centre, Router, Device}
use Rattle.zb_node_types.specs.Changes.{model_role}
use Rattle.zb_install.specs.Code.{code_key}
use Rattle.law_run.specs.Commanding.{OneCentre}
use Rattle.law_run.specs.KeysApart.{KeysApart, AllDiffer, EntersOwn, IsNewKey, IsNoneOf, given_keys, keys_of_others, network_key}
use Rattle.zb_model.specs.Data.{Station, nobody}
use Rattle.zb_model.specs.Play as model
use Rattle.zb_model.specs.Rules.{centre_of, eui_or, station_of as model_station}
use Rattle.zb_model.specs.Schedules.{IsMember, IsSchedule, Names, NamesNode, SuitsRole, CountsCalls}
use Rattle.zb_model.specs.State.{is_centre as is_centre_role}
use Rattle.zb_sched.specs.Judge.{Seat, clashes, has_its_nodes, has_name, is_drawn, is_joiner, is_key, is_link_of_other, is_network, is_parent, link_of, network_of, role_named, well_known}
use Rattle.zb_sched.specs.Schedules.{Node, Schedule}
use Rattle.zb_sched.specs.Reading.{is_centre}
use Rattle.zb_sched.specs.Valid as sched
use Rattle.zb_sched.specs.Valid.{Apart, Differ, FitsNode, FitsSchedule, Pairwise, seated, seen_of}
use Rattle.zb_sched.proofs.Lists.{all_map, all_map2, any_false, neither, unequal}
use Rattle.zb_sched.proofs.OneCentre.{one_centre}
use Rattle.zb_sched.proofs.Splits.{mapped_all}
use Rattle.zb_sched_line.specs.Fits.{FitsEvent}
use Rattle.zb_sched_line.specs.Said.{Bytes, Event, Says, Delivers, Ticks, Knocks, Rejoins, Adopts, Provisions, Repeats, Rolls, Switches, Removes, Resets, Boots, Dumps, Stops, Fails, Injects, ForgesNet, ForgesBoth, ForgesOpen, Asks, Shares, Tells}
use Rattle.law_schedules.specs.Schedules.{station_for, stations_for, node_for, named, event_for, schedule_of}
use Rattle.law_schedules.proofs.Nodes.{NotBoth, EuisDiffer, declared, first_by, passes, the_one}

-- Nodes

abbrev has_that_name : Bytes → Station → Bool
has_that_name name s = bytes_eq s.name name

abbrev is_a_centre : Station → Bool
is_a_centre s = is_centre_role s.role

same_centre : (role : Role) → is_centre_role (model_role role) ≡ is_centre role
same_centre Centre = refl
same_centre Router = refl
same_centre Device = refl

related_map : {X Y : Type 0} (R : X → X → Type 0) (S : Y → Y → Type 0) (f : X → Y)
    → ((a b : X) → R a b → S (f a) (f b)) → (xs : List X) → Pairwise R xs → Pairwise S (map f xs)
related_map R S f each [] pairs = tt
related_map R S f each (x ∷ xs) pairs =
    (mapped_all (R x) (S (f x)) f (each x) xs pairs.0, related_map R S f each xs pairs.1)

unmapped_all : {X Y : Type 0} (Q : Y → Type 0) (f : X → Y) (xs : List X) → AllByRecursion Q (map f xs)
    → AllByRecursion (λ x. Q (f x)) xs
unmapped_all Q f [] all = tt
unmapped_all Q f (x ∷ xs) all = (all.0, unmapped_all Q f xs all.1)

names_apart : (name : Bytes) (m n : Node) → Apart m n → NotBoth (has_that_name name) (station_for m) (station_for n)
names_apart name m n apart e f =
    apart.0 ((bytes_eq-Decides m.name name).0 e ∙ sym ((bytes_eq-Decides n.name name).0 f))

-- the node that a name gives is the one that the name represents
pub of_that_name : (name : Bytes) (ms : List Node) → Pairwise Apart ms
    → AllByRecursion (λ (m : Node). bytes_eq m.name name ≡ true → m.eui ≡ named (map station_for ms) name) ms
of_that_name name ms apart =
    unmapped_all (λ (s : Station). has_that_name name s ≡ true → s.eui ≡ named (map station_for ms) name) station_for
    ms
    (the_one (has_that_name name) (map station_for ms)
    (related_map Apart (NotBoth (has_that_name name)) station_for (names_apart name) ms apart))

some_role : (name : Bytes) (m : Node) (ms : List Node) (b : Bool) → bytes_eq m.name name ≡ b
    → (is_some (role_named name (map seated ms)) ≡ true → is_some (find (has_that_name name) (map station_for ms))
    ≡ true)
    → is_some
    (option_map (λ (seat : Seat). seat.node.role)
    (cond b (Some (seated m)) (find (λ seat. has_name name seat) (map seated ms)))) ≡ true
    → is_some (cond b (Some (station_for m)) (find (has_that_name name) (map station_for ms))) ≡ true
some_role name m ms true e more found = refl
some_role name m ms false e more found = more found

found_name : (name : Bytes) (ms : List Node) → is_some (role_named name (map seated ms)) ≡ true
    → is_some (find (has_that_name name) (map station_for ms)) ≡ true
found_name name [] found = found
found_name name (m ∷ ms) found = some_role name m ms (bytes_eq m.name name) refl (found_name name ms) found

-- the stations of the model
stations_map : (ms : List Node) → map (λ (m : model.Node). m.station) (map node_for ms) ≡ map station_for ms
stations_map [] = refl
stations_map (m ∷ ms) = ap (λ ps. station_for m ∷ ps) (stations_map ms)

pub same_stations : (p : Schedule) → model.stations (schedule_of p) ≡ stations_for p
unfolding schedule_of
same_stations p = stations_map p.nodes

pub names : (p : Schedule) (n : ℕ) → is_some (model_station (stations_for p) n) ≡ true → Names (schedule_of p) n
names p n found = subst (λ ps. is_some (model_station ps n) ≡ true) (sym (same_stations p)) found

-- a name that has a part is declared
a_node : (p : Schedule) (name : Bytes) → is_some (role_named name (map seated p.nodes)) ≡ true
    → Names (schedule_of p) (named (stations_for p) name)
a_node p name found =
    names p (named (stations_for p) name)
    (declared (has_that_name name) (stations_for p) (found_name name p.nodes found))

joiner_is : (o : Option Role) → is_joiner o ≡ true → is_some o ≡ true
joiner_is None e = e
joiner_is (Some r) e = refl

parent_is : (o : Option Role) → is_parent o ≡ true → is_some o ≡ true
parent_is None e = e
parent_is (Some r) e = refl

a_joiner : (p : Schedule) (name : Bytes) → is_joiner (role_named name (map seated p.nodes)) ≡ true
    → Names (schedule_of p) (named (stations_for p) name)
a_joiner p name found = a_node p name (joiner_is (role_named name (map seated p.nodes)) found)

found_centre_by : (m : Node) (ms : List Node) (b c : Bool) → b ≡ c
    → (list_any (λ (n : Node). is_centre n.role) ms ≡ true → is_some (find is_a_centre (map station_for ms)) ≡ true)
    → (b || list_any (λ (n : Node). is_centre n.role) ms) ≡ true
    → is_some (cond c (Some (station_for m)) (find is_a_centre (map station_for ms))) ≡ true
found_centre_by m ms true true e more found = refl
found_centre_by m ms true false e more found = absurd (false≢true (sym e))
found_centre_by m ms false true e more found = refl
found_centre_by m ms false false e more found = more found

found_centre : (ms : List Node) → list_any (λ (n : Node). is_centre n.role) ms ≡ true
    → is_some (find is_a_centre (map station_for ms)) ≡ true
found_centre [] found = found
found_centre (m ∷ ms) found = found_centre_by m ms (is_centre m.role) (is_centre_role (model_role m.role))
    (sym (same_centre m.role)) (found_centre ms) found

the_centre : (p : Schedule) → sched.IsSchedule p → Names (schedule_of p) (centre_of (stations_for p))
unfolding centre_of
the_centre p is = names p (first_by is_a_centre (stations_for p))
    (declared is_a_centre (stations_for p) (found_centre p.nodes is.centre))

-- Each event is of a declared node.

joiner_of_two : (a b : Bool) (o : Option Role) → ((a && is_joiner o) && b) ≡ true → is_joiner o ≡ true
joiner_of_two a b o e = (and_parts a (is_joiner o) (and_parts (a && is_joiner o) b e).0).1

second_of : (a b : Bool) → (a && b) ≡ true → b ≡ true
second_of a b e = (and_parts a b e).1

event_names : (p : Schedule) → sched.IsSchedule p → (event : Event) → has_its_nodes event (map seated p.nodes) ≡ true
    → NamesNode (schedule_of p) (event_for (stations_for p) event)
unfolding event_for
event_names p is (Says name to bytes) e = a_node p name e
event_names p is (Delivers frame name) e = a_node p name e
event_names p is (Ticks name) e = a_node p name e
event_names p is (Knocks name) e = a_joiner p name e
event_names p is (Rejoins name) e = a_joiner p name e
event_names p is (Adopts parent name rejoin) e =
    a_node p parent
    (parent_is (role_named parent (map seated p.nodes))
    (second_of (not (bytes_eq name parent) && is_joiner (role_named name (map seated p.nodes)))
    (is_parent (role_named parent (map seated p.nodes))) e))
event_names p is (Provisions name code) e = the_centre p is
event_names p is (Repeats name) e = the_centre p is
event_names p is Rolls e = the_centre p is
event_names p is Switches e = the_centre p is
event_names p is (Removes name parent) e = the_centre p is
event_names p is (Resets name) e = a_node p name e
event_names p is (Boots name) e = a_node p name e
event_names p is (Dumps name) e = a_node p name e
event_names p is (Stops name calls torn) e = a_node p name e
event_names p is (Fails name call) e = a_node p name e
event_names p is (Injects bytes) e = tt
event_names p is (ForgesNet to from source key sequence counter content) e = tt
event_names p is (ForgesBoth to from source key sequence counter label base aps_counter command) e = tt
event_names p is (ForgesOpen to from source label base aps_counter command) e = tt
event_names p is (Asks name partner) e =
    a_joiner p name
    (joiner_of_two (not (bytes_eq name partner)) (is_joiner (role_named partner (map seated p.nodes)))
    (role_named name (map seated p.nodes)) e)
event_names p is (Shares name partner) e = the_centre p is
event_names p is (Tells name partner bytes) e =
    a_joiner p name
    (joiner_of_two (not (bytes_eq name partner)) (is_joiner (role_named partner (map seated p.nodes)))
    (role_named name (map seated p.nodes)) e)

is_member : (m : Node) → FitsNode m → IsMember (node_for m)
is_member m f =
    record {
      eui = f.0.1.0;
      out_block = grind (arith, nat_tests, f.1);
      in_block = grind (arith, nat_tests, f.1);
      start_nwk = f.4;
      start_aps = f.5;
    }

-- One centre

not_both_centres : (m n : Node) → (is_centre m.role ≡ true → is_centre n.role ≡ true → ⊥)
    → NotBoth is_a_centre (station_for m) (station_for n)
not_both_centres m n one e f = one (sym (same_centre m.role) ∙ e) (sym (same_centre n.role) ∙ f)

abbrev CentreIs : List Station → ℕ → Type 0
CentreIs ps c = AllByRecursion (λ (s : Station). is_a_centre s ≡ true → s.eui ≡ c) ps

pub one : (p : Schedule) → sched.IsSchedule p → OneCentre (schedule_of p)
unfolding centre_of
one p is =
    subst (λ ps. CentreIs ps (first_by is_a_centre ps)) (sym (same_stations p))
    (the_one is_a_centre (stations_for p)
    (related_map (λ (m n : Node). is_centre m.role ≡ true → is_centre n.role ≡ true → ⊥) (NotBoth is_a_centre)
    station_for not_both_centres p.nodes
    (one_centre p.nodes is.so_far.nodes is.so_far.apart)))

euis_apart : (m n : Node) → Apart m n → EuisDiffer (station_for m) (station_for n)
euis_apart m n apart = apart.1

pub centre_alone : (p : Schedule) → sched.IsSchedule p
    → AllByRecursion (λ (s : Station). s.eui ≡ centre_of (stations_for p) → is_a_centre s ≡ true) (stations_for p)
unfolding centre_of
centre_alone p is =
    passes is_a_centre (stations_for p) (related_map Apart EuisDiffer station_for euis_apart p.nodes is.so_far.apart)
    (found_centre p.nodes is.centre)

-- what is true of each declared node is true of the one that is found, and it passes the test
found_role_by : (Q : Station → Type 0) (test : Station → Bool) (s : Station) (o : Option Station) (b : Bool) → test s
    ≡ b → Q s → (is_some o ≡ true → Q (model.station_or o) × (test (model.station_or o) ≡ true))
    → is_some (cond b (Some s) o) ≡ true → Q (model.station_or (cond b (Some s) o))
    × (test (model.station_or (cond b (Some s) o)) ≡ true)
found_role_by Q test s o true e q more found = (q, e)
found_role_by Q test s o false e q more found = more found

found_has : (Q : Station → Type 0) (test : Station → Bool) (ss : List Station) → AllByRecursion Q ss
    → is_some (find test ss) ≡ true → Q (model.station_or (find test ss))
    × (test (model.station_or (find test ss)) ≡ true)
found_has Q test [] all found = absurd (false≢true found)
found_has Q test (s ∷ ss) all found = found_role_by Q test s (find test ss) (test s) refl all.0
    (found_has Q test ss all.1) found

-- a router or device isn't the centre

not_centre_by : (c : ℕ) (name : Bytes) (m : Node) (ms : List Node) (b : Bool) → bytes_eq m.name name ≡ b
    → (m.eui ≡ c → is_a_centre (station_for m) ≡ true)
    → (is_joiner (role_named name (map seated ms)) ≡ true → named (map station_for ms) name ≡ c → ⊥)
    → is_joiner
    (option_map (λ (seat : Seat). seat.node.role)
    (cond b (Some (seated m)) (find (λ seat. has_name name seat) (map seated ms)))) ≡ true
    → eui_or nobody (cond b (Some (station_for m)) (find (has_that_name name) (map station_for ms))) ≡ c → ⊥
not_centre_by c name m ms true e alone more joins same = no_joiner m.role joins (sym (same_centre m.role) ∙ alone same)
  where
    no_joiner : (role : Role) → is_joiner (Some role) ≡ true → is_centre role ≡ true → ⊥
    no_joiner Centre joins centre = false≢true joins
    no_joiner Router joins centre = false≢true centre
    no_joiner Device joins centre = false≢true centre
not_centre_by c name m ms false e alone more joins same = more joins same

not_centre : (c : ℕ) (name : Bytes) (ms : List Node)
    → AllByRecursion (λ (m : Node). m.eui ≡ c → is_a_centre (station_for m) ≡ true) ms
    → is_joiner (role_named name (map seated ms)) ≡ true → named (map station_for ms) name ≡ c → ⊥
not_centre c name [] alone joins same = false≢true joins
not_centre c name (m ∷ ms) alone joins same = not_centre_by c name m ms (bytes_eq m.name name) refl alone.0
    (not_centre c name ms alone.1) joins same

-- Each event of a node's own is for its role.

centre_by : (n : ℕ) (s : Station) → (s.eui ≡ n → is_a_centre s ≡ true) × (nat_eq s.eui n ≡ true) → is_a_centre s ≡ true
centre_by n s f = f.0 (eqb-true s.eui n f.1)

member_by : (n c : ℕ) (s : Station) (b : Bool) → is_a_centre s ≡ b → (is_a_centre s ≡ true → s.eui ≡ c)
    × (nat_eq s.eui n ≡ true) → (n ≡ c → ⊥) → b ≡ false
member_by n c s true e f differ = absurd (differ (sym (eqb-true s.eui n f.1) ∙ f.0 e))
member_by n c s false e f differ = refl

centre_role : (p : Schedule) → sched.IsSchedule p
    → is_centre_role (model.setting_of (schedule_of p) (centre_of (stations_for p))).me.role ≡ true
unfolding model.setting_of model_station
centre_role p is =
    centre_by (centre_of (stations_for p))
    (model.station_or (model_station (model.stations (schedule_of p)) (centre_of (stations_for p))))
    (found_has (λ (s : Station). s.eui ≡ centre_of (stations_for p) → is_a_centre s ≡ true)
    (λ (s : Station). nat_eq s.eui (centre_of (stations_for p))) (model.stations (schedule_of p))
    (subst (λ ps. AllByRecursion (λ (s : Station). s.eui ≡ centre_of (stations_for p) → is_a_centre s ≡ true) ps)
    (sym (same_stations p)) (centre_alone p is)) (the_centre p is))

member_role : (p : Schedule) → sched.IsSchedule p → (n : ℕ) → Names (schedule_of p) n
    → (n ≡ centre_of (model.stations (schedule_of p)) → ⊥)
    → is_centre_role (model.setting_of (schedule_of p) n).me.role ≡ false
unfolding model.setting_of model_station
member_role p is n named_ differ =
    member_by n (centre_of (model.stations (schedule_of p)))
    (model.station_or (model_station (model.stations (schedule_of p)) n))
    (is_a_centre (model.station_or (model_station (model.stations (schedule_of p)) n))) refl
    (found_has (λ (s : Station). is_a_centre s ≡ true → s.eui ≡ centre_of (model.stations (schedule_of p)))
    (λ (s : Station). nat_eq s.eui n) (model.stations (schedule_of p)) (one p is) named_) differ

joiner_role : (p : Schedule) → sched.IsSchedule p → (name : Bytes) → is_joiner (role_named name (map seated p.nodes))
    ≡ true → not (is_centre_role (model.setting_of (schedule_of p) (named (stations_for p) name)).me.role) ≡ true
joiner_role p is name joins =
    ap not (member_role p is (named (stations_for p) name) (a_joiner p name joins)
    (λ same. not_centre (centre_of (stations_for p)) name p.nodes
    (unmapped_all (λ (s : Station). s.eui ≡ centre_of (stations_for p) → is_a_centre s ≡ true) station_for p.nodes
    (centre_alone p is)) joins
    (same ∙ ap centre_of (same_stations p))))

event_roles : (p : Schedule) → sched.IsSchedule p → (event : Event) → has_its_nodes event (map seated p.nodes) ≡ true
    → SuitsRole (schedule_of p) (event_for (stations_for p) event)
unfolding event_for
event_roles p is (Says name to bytes) e = refl
event_roles p is (Delivers frame name) e = tt
event_roles p is (Ticks name) e = refl
event_roles p is (Knocks name) e = joiner_role p is name e
event_roles p is (Rejoins name) e = joiner_role p is name e
event_roles p is (Adopts parent name rejoin) e = refl
event_roles p is (Provisions name code) e = centre_role p is
event_roles p is (Repeats name) e = centre_role p is
event_roles p is Rolls e = centre_role p is
event_roles p is Switches e = centre_role p is
event_roles p is (Removes name parent) e = centre_role p is
event_roles p is (Resets name) e = tt
event_roles p is (Boots name) e = tt
event_roles p is (Dumps name) e = tt
event_roles p is (Stops name calls torn) e = tt
event_roles p is (Fails name call) e = tt
event_roles p is (Injects bytes) e = tt
event_roles p is (ForgesNet to from source key sequence counter content) e = tt
event_roles p is (ForgesBoth to from source key sequence counter label base aps_counter command) e = tt
event_roles p is (ForgesOpen to from source label base aps_counter command) e = tt
event_roles p is (Asks name partner) e =
    joiner_role p is name
    (joiner_of_two (not (bytes_eq name partner)) (is_joiner (role_named partner (map seated p.nodes)))
    (role_named name (map seated p.nodes)) e)
event_roles p is (Shares name partner) e = centre_role p is
event_roles p is (Tells name partner bytes) e =
    joiner_role p is name
    (joiner_of_two (not (bytes_eq name partner)) (is_joiner (role_named partner (map seated p.nodes)))
    (role_named name (map seated p.nodes)) e)

-- a call that fails is at least the first
event_calls : (p : Schedule) (event : Event) → FitsEvent event → CountsCalls (event_for (stations_for p) event)
unfolding event_for
event_calls p (Says name to bytes) f = tt
event_calls p (Delivers frame name) f = tt
event_calls p (Ticks name) f = tt
event_calls p (Knocks name) f = tt
event_calls p (Rejoins name) f = tt
event_calls p (Adopts parent name rejoin) f = tt
event_calls p (Provisions name code) f = tt
event_calls p (Repeats name) f = tt
event_calls p Rolls f = tt
event_calls p Switches f = tt
event_calls p (Removes name parent) f = tt
event_calls p (Resets name) f = tt
event_calls p (Boots name) f = tt
event_calls p (Dumps name) f = tt
event_calls p (Stops name calls torn) f = tt
event_calls p (Fails name call) f = f.1
event_calls p (Injects bytes) f = tt
event_calls p (ForgesNet to from source key sequence counter content) f = tt
event_calls p (ForgesBoth to from source key sequence counter label base aps_counter command) f = tt
event_calls p (ForgesOpen to from source label base aps_counter command) f = tt
event_calls p (Asks name partner) f = tt
event_calls p (Shares name partner) f = tt
event_calls p (Tells name partner bytes) f = tt

pub is_schedule : (p : Schedule) → sched.IsSchedule p → IsSchedule (schedule_of p)
unfolding schedule_of
is_schedule p is = record {
  few_nodes = subst (λ n. n ≤ 64) (sym (length-map p.nodes node_for)) is.so_far.few_nodes;
  nodes = mapped_all FitsNode IsMember node_for is_member p.nodes is.so_far.nodes;
  events = mapped_all (FitsSchedule p) (NamesNode (schedule_of p)) (event_for (stations_for p))
      (λ event f. event_names p is event f.1) p.events is.so_far.events;
  roles = mapped_all (FitsSchedule p) (SuitsRole (schedule_of p)) (event_for (stations_for p))
      (λ event f. event_roles p is event f.1) p.events is.so_far.events;
  calls = mapped_all (FitsSchedule p) CountsCalls (event_for (stations_for p)) (λ event f. event_calls p event f.0)
      p.events is.so_far.events;
}

-- Keys

all_differ : (ks : List Bytes) → Pairwise (λ (a b : Bytes). a ≡ b → ⊥) ks → AllDiffer ks
all_differ [] apart = tt
all_differ (k ∷ ks) apart =
    (all_map (λ j. k ≡ j → ⊥) (λ j. j ≡ k → ⊥) ks (λ j differ same. differ (sym same)) apart.0, all_differ ks apart.1)

none_of_both : (xs ys : List Bytes) (k : Bytes) → IsNoneOf xs k → IsNoneOf ys k → IsNoneOf (xs ++ ys) k
none_of_both [] ys k a b = b
none_of_both (x ∷ xs) ys k a b = (a.0, none_of_both xs ys k a.1 b)

none_network : (o : Option (Bytes × ℕ)) (k : Bytes) → Differ (Some k) (option_map (λ (held : Bytes × ℕ). held.0) o)
    → IsNoneOf (network_key o) k
none_network None k differ = tt
none_network (Some held) k differ = (λ same. differ (sym same), tt)

none_code : (o : Option Bytes) (k : Bytes) → Differ (Some k) o → IsNoneOf (option_to_list o) k
none_code None k differ = tt
none_code (Some key) k differ = (λ same. differ (sym same), tt)

new_of : (m : Node) (k : Bytes) → Differ (Some k) (link_of m) × Differ (Some k) (network_of m)
    → IsNoneOf (given_keys (node_for m)) k
new_of m k differ = none_of_both (option_to_list (link_of m)) (network_key m.network) k
    (none_code (link_of m) k differ.0) (none_network m.network k differ.1)

is_new : (p : Schedule) (k : Bytes) → sched.IsNewKey p.nodes k → IsNewKey (schedule_of p) k
unfolding schedule_of
is_new p k f = (
  f.1,
  mapped_all (λ (m : Node). Differ (Some k) (link_of m) × Differ (Some k) (network_of m))
      (λ (m : model.Node). IsNoneOf (given_keys m) k) node_for (λ m differ. new_of m k differ) p.nodes f.2,
)

-- an entered code

no_code_by : (m : Node) (o : Option Bytes) → IfSome o (λ code. sched.FitsNodeCode m code)
    → is_a_centre (station_for m) ≡ true → option_map code_key o ≡ None
no_code_by m None f e = refl
no_code_by m (Some code) f e = absurd (false≢true (sym f.1 ∙ (sym (same_centre m.role) ∙ e)))

abbrev NoCode : Schedule → Node → Type 0
NoCode p m = m.eui ≡ centre_of (stations_for p) → option_map code_key m.code ≡ None

no_code : (p : Schedule) → sched.IsSchedule p → AllByRecursion (NoCode p) p.nodes
no_code p is =
    all_map2 (λ (m : Node). m.eui ≡ centre_of (stations_for p) → is_a_centre (station_for m) ≡ true) FitsNode
    (NoCode p) p.nodes
    (λ m alone f same. no_code_by m m.code f.2 (alone same))
    (unmapped_all (λ (s : Station). s.eui ≡ centre_of (stations_for p) → is_a_centre s ≡ true) station_for p.nodes
    (centre_alone p is)) is.so_far.nodes

no_link_key : (key : Bytes) (o : Option Bytes) → is_key key o ≡ false → IsNoneOf (option_to_list o) key
no_link_key key None e = tt
no_link_key key (Some other) e = (unequal other key e, tt)

no_network_key : (key : Bytes) (o : Option (Bytes × ℕ)) → is_key key (option_map (λ (held : Bytes × ℕ). held.0) o)
    ≡ false → IsNoneOf (network_key o) key
no_network_key key None e = tt
no_network_key key (Some held) e = (unequal held.0 key e, tt)

-- the link key of another node isn't the one that is entered
abbrev Other : Bytes → Bytes → Node → Type 0
Other key name m = (is_key key (link_of m) && not (bytes_eq m.name name)) ≡ false

not_other : (a b : Bool) → (a && not b) ≡ false → b ≡ false → a ≡ false
not_other true true e f = f
not_other true false e f = e
not_other false b e f = refl

code_of_other_by : (key name : Bytes) (device : ℕ) (m : Node) (b : Bool) → nat_eq m.eui device ≡ b → Other key name m
    → (bytes_eq m.name name ≡ true → m.eui ≡ device)
    → IsNoneOf (cond b [] (option_to_list (link_of m))) key
code_of_other_by key name device m true e other same = tt
code_of_other_by key name device m false e other same =
    no_link_key key (link_of m)
    (not_other (is_key key (link_of m)) (bytes_eq m.name name) other (differs (bytes_eq m.name name) same))
  where
    differs : (b : Bool) → (b ≡ true → m.eui ≡ device) → b ≡ false
    differs true k = absurd (false≢true (sym e ∙ eq-eqb m.eui device (k refl)))
    differs false k = refl

abbrev SeatFree : Bytes → Bytes → Node → Type 0
SeatFree key name m = Other key name m × (is_key key (network_of m) ≡ false)

others_free : (key name : Bytes) (device : ℕ) (m : Node) → SeatFree key name m
    → (bytes_eq m.name name ≡ true → m.eui ≡ device) → IsNoneOf (keys_of_others device (node_for m)) key
others_free key name device m free same =
    none_of_both (cond (nat_eq m.eui device) [] (option_to_list (link_of m))) (network_key m.network) key
    (code_of_other_by key name device m (nat_eq m.eui device) refl free.0 same) (no_network_key key m.network free.1)

record Free (p : Schedule) (key name : Bytes) : Type 0 where
  others : list_any (λ (seat : Seat). is_key key (link_of seat.node) && not (has_name name seat)) (map seated p.nodes)
      ≡ false
  networks : list_any (λ (seat : Seat). is_key key (network_of seat.node)) (map seated p.nodes) ≡ false
  draws : list_any (λ draw. bytes_eq draw key) p.draws ≡ false
  known : bytes_eq key well_known ≡ false

free : (p : Schedule) (key name : Bytes) → clashes key name (seen_of p) ≡ false → Free p key name
free p key name e = record { others = third.0; networks = third.1; draws = second.1; known = first.1 }
  where
    a : Bool
    a = is_link_of_other key name (map seated p.nodes)

    b : Bool
    b = is_network key (map seated p.nodes)

    first : (((a || b) || is_drawn key p.draws) ≡ false) × (bytes_eq key well_known ≡ false)
    first = neither ((a || b) || is_drawn key p.draws) (bytes_eq key well_known) e

    second : ((a || b) ≡ false) × (is_drawn key p.draws ≡ false)
    second = neither (a || b) (is_drawn key p.draws) first.0

    third : (a ≡ false) × (b ≡ false)
    third = neither a b second.0

enters : (p : Schedule) → sched.IsSchedule p → (name code : Bytes) → is_joiner (role_named name (map seated p.nodes))
    ≡ true → clashes (code_key code) name (seen_of p) ≡ false
    → EntersOwn (schedule_of p) (event_for (stations_for p) (Provisions name code))
unfolding schedule_of event_for
enters p is name code joins clash = (
  λ same. not_centre (centre_of (stations_for p)) name p.nodes
      (unmapped_all (λ (s : Station). s.eui ≡ centre_of (stations_for p) → is_a_centre s ≡ true) station_for p.nodes
      (centre_alone p is)) joins
      (same ∙ ap centre_of (stations_map p.nodes)),
  unequal (code_key code) well_known f.known,
  all_map (λ draw. bytes_eq draw (code_key code) ≡ false) (λ draw. draw ≡ code_key code → ⊥) p.draws
      (λ draw no_match. unequal draw (code_key code) no_match)
      (any_false (λ draw. bytes_eq draw (code_key code)) p.draws f.draws),
  mapped_all
      (λ (m : Node). SeatFree (code_key code) name m
      × (bytes_eq m.name name ≡ true → m.eui ≡ named (stations_for p) name))
      (λ (m : model.Node). IsNoneOf (keys_of_others (named (stations_for p) name) m) (code_key code)) node_for
      (λ m both. others_free (code_key code) name (named (stations_for p) name) m both.0 both.1) p.nodes
      (all_map2 (SeatFree (code_key code) name)
      (λ (m : Node). bytes_eq m.name name ≡ true → m.eui ≡ named (stations_for p) name)
      (λ (m : Node). SeatFree (code_key code) name m
      × (bytes_eq m.name name ≡ true → m.eui ≡ named (stations_for p) name)) p.nodes (λ m a b. (a, b))
      seats (of_that_name name p.nodes is.so_far.apart)),
)
  where
    f : Free p (code_key code) name
    f = free p (code_key code) name clash

    unseated : (P : Node → Bool) (ms : List Node) → list_any (λ (seat : Seat). P seat.node) (map seated ms) ≡ false
        → AllByRecursion (λ (m : Node). P m ≡ false) ms
    unseated P [] e = tt
    unseated P (m ∷ ms) e = let both = neither (P m) (list_any (λ (seat : Seat). P seat.node) (map seated ms)) e in
        (both.0, unseated P ms both.1)

    seats : AllByRecursion (SeatFree (code_key code) name) p.nodes
    seats = all_map2 (Other (code_key code) name) (λ (m : Node). is_key (code_key code) (network_of m) ≡ false)
        (SeatFree (code_key code) name) p.nodes (λ m a b. (a, b))
        (unseated (λ (m : Node). is_key (code_key code) (link_of m) && not (bytes_eq m.name name)) p.nodes f.others)
        (unseated (λ (m : Node). is_key (code_key code) (network_of m)) p.nodes f.networks)

event_enters : (p : Schedule) → sched.IsSchedule p → (event : Event) → FitsSchedule p event
    → EntersOwn (schedule_of p) (event_for (stations_for p) event)
unfolding event_for
event_enters p is (Provisions name code) f = enters p is name code f.1 f.2
event_enters p is (Says name to bytes) f = tt
event_enters p is (Delivers frame name) f = tt
event_enters p is (Ticks name) f = tt
event_enters p is (Knocks name) f = tt
event_enters p is (Rejoins name) f = tt
event_enters p is (Adopts parent name rejoin) f = tt
event_enters p is (Repeats name) f = tt
event_enters p is Rolls f = tt
event_enters p is Switches f = tt
event_enters p is (Removes name parent) f = tt
event_enters p is (Resets name) f = tt
event_enters p is (Boots name) f = tt
event_enters p is (Dumps name) f = tt
event_enters p is (Stops name calls torn) f = tt
event_enters p is (Fails name call) f = tt
event_enters p is (Injects bytes) f = tt
event_enters p is (ForgesNet to from source key sequence counter content) f = tt
event_enters p is (ForgesBoth to from source key sequence counter label base aps_counter command) f = tt
event_enters p is (ForgesOpen to from source label base aps_counter command) f = tt
event_enters p is (Asks name partner) f = tt
event_enters p is (Shares name partner) f = tt
event_enters p is (Tells name partner bytes) f = tt

pub keys_apart : (p : Schedule) → sched.IsSchedule p → KeysApart (schedule_of p)
unfolding schedule_of
keys_apart p is = record {
  draws_differ = all_differ p.draws is.so_far.draws_apart;
  draws_new = all_map (sched.IsNewKey p.nodes) (IsNewKey (schedule_of p)) p.draws (λ k f. is_new p k f)
      is.so_far.draws;
  entered = mapped_all (FitsSchedule p) (EntersOwn (schedule_of p)) (event_for (stations_for p))
      (λ event f. event_enters p is event f) p.events is.so_far.events;
  alone = subst (λ ps. AllByRecursion (λ (s : Station). s.eui ≡ centre_of ps → is_a_centre s ≡ true) ps)
      (sym (stations_map p.nodes)) (centre_alone p is);
  no_code =
      mapped_all (NoCode p) (λ (m : model.Node). m.station.eui ≡ centre_of (model.stations (schedule_of p)) → m.code
      ≡ None) node_for
      (λ m k same. k (same ∙ ap centre_of (stations_map p.nodes))) p.nodes (no_code p is);
}
