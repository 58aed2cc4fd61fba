-- Which nodes the printed lines of a run declare: its start declares all nodes, and no other line declares one.
use Rattle.std.proofs.Common.{◌≡◌, ℕ, ◌+◌, ◌<◌, ◌^◌, ◌||◌, not, Bool, true, false, cond, List, [], ◌∷◌, ◌++◌, map, find, flat_map, fold, length, Option, Some, None, nat_eq, bytes_eq, refl, sym, ap, ◌∙◌, subst, append_assoc, eqb-true, eq-eqb, lt_irrefl, option_map}
use Rattle.std.specs.List.{AllByRecursion, list_any}
use Rattle.std.proofs.lemmas.Bool.{false≢true, and_parts}
use Rattle.std.proofs.lemmas.Slice.Eq.{bytes_eq-Decides}
use Rattle.zb_audit_names.specs.Naming.{centre_name, declares, is_centres, is_name, or_added, station_named, with_station}
use Rattle.law_audit_groups.specs.Printing.{printed}
use Rattle.zb_model.specs.Data as model
use Rattle.zb_model.specs.Data.{Aps, Bytes, Nwk, Station}
use Rattle.zb_model.specs.Fits.{all_apart}
use Rattle.zb_model.specs.Lines as log
use Rattle.zb_model.specs.Lines.{Counter, Declared, Line}
use Rattle.zb_model.specs.Play.{ArmFail, ArmStop, Deliver, Disk, Event, ForgeNet, ForgeNetAps, ForgeOpen, InjectBytes, Node, Own, PowerOn, Reset, RollOver, Schedule, ShowRecord, groups, limit_line, link_line, net_line, start, stations, step}
use Rattle.zb_model.specs.Rules.{centre_of, eui_or, station_of}
use Rattle.zb_model.specs.Schedules.{IsSchedule, Names}
use Rattle.zb_model.specs.State.{is_centre}
use Rattle.zb_model.specs.Tools.{Tools}
use Rattle.zb_model.specs.Transcript.{end_line, run_lines, transcript}
use Rattle.law_run.proofs.FreshLines.{all-append}
use Rattle.law_run.proofs.Runs.{me-of}
use Rattle.law_tables_suffice.specs.Along.{euis_differ}
use Rattle.law_run_steps.proofs.Walks.{Asked, OfNode, OfOutside, step-has}
use Rattle.zb_node_types.specs.Changes.{model_role}
use Rattle.law_audit_sound.proofs.EachLine.{bool_same}
use Rattle.zb_trace_model.specs.Naming.{AreNamed, IsDeclared, NamesDiffer, name_of, name_or_none}
use Rattle.zb_trace_model.specs.Parts.{role_for}
use Rattle.zb_trace_model.specs.Said.{line_for}
use Rattle.zb_trace_model.proofs.Naming.{named_again}
use Rattle.zb_trace.specs.Views.{named}

-- ---- lines that declare

role_again : (r : model.Role) → model_role (role_for r) ≡ r
role_again model.Centre = refl
role_again model.Router = refl
role_again model.Device = refl

declares_node : (known ks : List Station) (p : Station) → declares ks (line_for known (Declared p)) ≡ with_station ks p
unfolding declares line_for
declares_node known ks p =
    ap (λ (r : model.Role). with_station ks
    (record
    { name = p.name; eui = p.eui; short = p.short; role = r; out_block = p.out_block; in_block = p.in_block }))
    (role_again p.role)

not_named : (ks : List Station) (p : Station) (ps : List Station) → NamesDiffer (ks ++ p ∷ ps)
    → station_named ks p.name ≡ None
unfolding station_named
not_named [] p ps differ = refl
not_named (q ∷ ks) p ps differ =
    ap (λ (b : Bool). cond b (Some q) (find (λ (s : Station). bytes_eq s.name p.name) ks)) (at_place ks differ.0) ∙
    not_named ks p ps differ.1
  where
    at_place : (xs : List Station) → AllByRecursion (λ (x : Station). bytes_eq q.name x.name ≡ false) (xs ++ p ∷ ps)
        → bytes_eq q.name p.name ≡ false
    at_place [] all = all.0
    at_place (x ∷ xs) all = at_place xs all.1

-- the lines that declare these nodes, whose names are new
pub declares_nodes : (known ks ps : List Station) → NamesDiffer (ks ++ ps)
    → fold declares ks (printed known (map Declared ps)) ≡ ks ++ ps
unfolding with_station
declares_nodes known ks [] differ = sym (nothing_more ks)
  where
    nothing_more : (xs : List Station) → xs ++ [] ≡ xs
    nothing_more [] = refl
    nothing_more (x ∷ xs) = ap (λ (ys : List Station). x ∷ ys) (nothing_more xs)
declares_nodes known ks (p ∷ ps) differ =
    ap (λ (found : List Station). fold declares found (printed known (map Declared ps)))
    (declares_node known ks p ∙ ap (or_added ks p) (not_named ks p ps differ))
    ∙ declares_nodes known (ks ++ p ∷ []) ps (subst NamesDiffer (sym (append_assoc ks (p ∷ []) ps)) differ)
    ∙ append_assoc ks (p ∷ []) ps

-- ---- lines that don't

abbrev pub NotDeclared : Line → Type 0
NotDeclared (Declared p) = ⊥
NotDeclared _ = Unit {0}

pub declares_none : (known ks : List Station) (m : Line) → NotDeclared m → declares ks (line_for known m) ≡ ks
unfolding declares line_for
declares_none known ks (log.Declared p) plain = absurd plain
declares_none known ks (log.GivenNet j key sequence) plain = refl
declares_none known ks (log.GivenLink j partner key) plain = refl
declares_none known ks (log.Counter j l limit) plain = refl
declares_none known ks (log.Commit event j) plain = refl
declares_none known ks (log.Accept event j t) plain = refl
declares_none known ks (log.Refuse event j at why) plain = refl
declares_none known ks (log.Seal event j t) plain = refl
declares_none known ks (log.Forge event t) plain = refl
declares_none known ks (log.Send event from frame bytes) plain = refl
declares_none known ks (log.Inject event frame bytes) plain = refl
declares_none known ks (log.Stopped event j) plain = refl
declares_none known ks (log.DownReset event j) plain = refl
declares_none known ks (log.DownDisk event j) plain = refl
declares_none known ks (log.Boot event j) plain = refl
declares_none known ks (log.Dump event j bytes) plain = refl
declares_none known ks (log.End events seals accepts refusals ideal private) plain = refl
declares_none known ks (log.Changed event j (model.Reserve l limit)) plain = refl
declares_none known ks (log.Changed event j (model.Floor l k from value)) plain = refl
declares_none known ks (log.Changed event j (model.Start k value)) plain = refl
declares_none known ks (log.Changed event j (model.Moved (model.Draw key))) plain = refl
declares_none known ks (log.Changed event j (model.Moved (model.DropNet key))) plain = refl
declares_none known ks (log.Changed event j (model.Moved (model.DropLink partner key))) plain = refl
declares_none known ks (log.Changed event j (model.Moved (model.Install key sequence))) plain = refl
declares_none known ks (log.Changed event j (model.Moved (model.Active key))) plain = refl
declares_none known ks (log.Changed event j (model.Moved (model.Row partner key attribute))) plain = refl
declares_none known ks (log.Changed event j (model.Moved (model.Pair first second key))) plain = refl
declares_none known ks (log.Changed event j (model.Moved (model.Became state))) plain = refl
declares_none known ks (log.Changed event j (model.Moved (model.Live device))) plain = refl
declares_none known ks (log.Changed event j (model.Moved (model.Removed device))) plain = refl
declares_none known ks (log.Changed event j (model.Moved (model.Roll sending))) plain = refl
declares_none known ks (log.Changed event j (model.Moved (model.Told device))) plain = refl
declares_none known ks (log.Changed event j (model.Moved (model.Untold device))) plain = refl

pub declares_no_more : (known ks : List Station) (g : List Line) → AllByRecursion NotDeclared g
    → fold declares ks (printed known g) ≡ ks
declares_no_more known ks [] all = refl
declares_no_more known ks (m ∷ g) all = ap (λ (found : List Station). fold declares found (printed known g))
    (declares_none known ks m all.0) ∙ declares_no_more known ks g all.1

-- ---- a run begins with all that declare

-- what its nodes hold at the start
abbrev given_lines : Schedule → List Line
given_lines w =
    flat_map (λ (m : Node). net_line m.station.eui m.network) w.nodes
    ++ (flat_map (λ (m : Node). link_line (centre_of (stations w)) m.station.eui m.code) w.nodes
    ++ flat_map (λ (m : Node). limit_line m.station.eui Nwk m.start_nwk ++ limit_line m.station.eui Aps m.start_aps)
    w.nodes)

-- the lines after those that declare
abbrev pub lines_behind : Tools → Schedule → List Line
lines_behind tools w = given_lines w
    ++ (groups tools w (start w) [] 1 w.events ++ end_line tools (length w.events) (run_lines tools w) ∷ [])

pub begins : (tools : Tools) (w : Schedule) → transcript tools w ≡ map Declared (stations w) ++ lines_behind tools w
unfolding transcript run_lines start
begins tools w =
    let rest = groups tools w (start w) [] 1 w.events in
    let last = end_line tools (length w.events) (run_lines tools w) in
    append_assoc (map Declared (stations w) ++ given_lines w) rest (last ∷ [])
    ∙ append_assoc (map Declared (stations w)) (given_lines w) (rest ++ last ∷ [])

plain_net : (n : ℕ) (o : Option (Bytes × ℕ)) → AllByRecursion NotDeclared (net_line n o)
plain_net n None = tt
plain_net n (Some given) = (tt, tt)

plain_link : (centre n : ℕ) (o : Option Bytes) → AllByRecursion NotDeclared (link_line centre n o)
plain_link centre n None = tt
plain_link centre n (Some key) = (tt, tt)

plain_limit : (n : ℕ) (layer : model.Layer) (limit : ℕ) → AllByRecursion NotDeclared (limit_line n layer limit)
plain_limit n layer limit = by_test (nat_eq limit 0)
  where
    by_test : (b : Bool) → AllByRecursion NotDeclared (cond b [] (Counter n layer limit ∷ []))
    by_test true = tt
    by_test false = (tt, tt)

plain_each : (f : Node → List Line) → ((m : Node) → AllByRecursion NotDeclared (f m)) → (ms : List Node)
    → AllByRecursion NotDeclared (flat_map f ms)
plain_each f each [] = tt
plain_each f each (m ∷ ms) = all-append NotDeclared (f m) (flat_map f ms) (each m) (plain_each f each ms)

plain_given : (w : Schedule) → AllByRecursion NotDeclared (given_lines w)
plain_given w =
    all-append NotDeclared (flat_map (λ (m : Node). net_line m.station.eui m.network) w.nodes) _
    (plain_each (λ (m : Node). net_line m.station.eui m.network) (λ m. plain_net m.station.eui m.network) w.nodes)
    (all-append NotDeclared (flat_map (λ (m : Node). link_line (centre_of (stations w)) m.station.eui m.code) w.nodes)
    _
    (plain_each (λ (m : Node). link_line (centre_of (stations w)) m.station.eui m.code)
    (λ m. plain_link (centre_of (stations w)) m.station.eui m.code) w.nodes)
    (plain_each (λ (m : Node). limit_line m.station.eui Nwk m.start_nwk ++ limit_line m.station.eui Aps m.start_aps)
    (λ m. all-append NotDeclared (limit_line m.station.eui Nwk m.start_nwk) (limit_line m.station.eui Aps m.start_aps)
    (plain_limit m.station.eui Nwk m.start_nwk) (plain_limit m.station.eui Aps m.start_aps))
    w.nodes))

-- the disks don't matter
abbrev Any : List Disk → Type 0
Any ds = Unit {0}

plain_node : (ds : List Disk) (number n : ℕ) → OfNode NotDeclared Any ds number n
plain_node ds number n = record {
  lines = record {
    changed = λ e. tt;
    commit = tt;
    told = record { accept = λ t. tt; refuse = λ place reason. tt; seal = λ t. tt; send = λ by frame bytes. tt };
    stopped = tt;
    failed = tt;
    reset = tt;
    boot = tt;
    dump = λ bytes. tt;
  };
  disks = λ d. tt;
}

plain_outside : (number : ℕ) → OfOutside NotDeclared number
plain_outside number = record { forge = λ t. tt; send = λ by frame bytes. tt; inject = λ frame bytes. tt }

asked_plain : (ds : List Disk) (number : ℕ) (act : Event) → Asked NotDeclared Any ds number act
asked_plain ds number (Own n task) = plain_node ds number n
asked_plain ds number (RollOver n) = plain_node ds number n
asked_plain ds number (Deliver frame n) = plain_node ds number n
asked_plain ds number (Reset n) = plain_node ds number n
asked_plain ds number (PowerOn n) = plain_node ds number n
asked_plain ds number (ShowRecord n) = plain_node ds number n
asked_plain ds number (ArmStop n calls torn) = plain_node ds number n
asked_plain ds number (ArmFail n call) = plain_node ds number n
asked_plain ds number (InjectBytes bytes) = plain_outside number
asked_plain ds number (ForgeNet to from source key sequence counter content) = plain_outside number
asked_plain ds number (ForgeNetAps to from source key sequence counter label base aps_counter command) =
    plain_outside number
asked_plain ds number (ForgeOpen to from source label base aps_counter command) = plain_outside number

plain_groups : (tools : Tools) (w : Schedule) (h : List Line) (ds : List Disk) (number : ℕ) (events : List Event)
    → AllByRecursion NotDeclared (groups tools w h ds number events)
unfolding groups
plain_groups tools w h ds number [] = tt
plain_groups tools w h ds number (event ∷ events) =
    let g = step tools w h ds number event in
    all-append NotDeclared g.lines (groups tools w (h ++ g.lines) g.disks (number + 1) events)
    (step-has NotDeclared Any tools w h ds number event (asked_plain ds number event) tt).0
    (plain_groups tools w (h ++ g.lines) g.disks (number + 1) events)

pub plain_behind : (tools : Tools) (w : Schedule) → AllByRecursion NotDeclared (lines_behind tools w)
unfolding end_line
plain_behind tools w =
    all-append NotDeclared (given_lines w) _ (plain_given w)
    (all-append NotDeclared (groups tools w (start w) [] 1 w.events)
    (end_line tools (length w.events) (run_lines tools w) ∷ []) (plain_groups tools w (start w) [] 1 w.events)
    (tt, tt))

-- ---- the centre by its name

abbrev IsNothing : Option Station → Type 0
IsNothing None = Unit {0}
IsNothing (Some q) = ⊥

abbrev eui_in : Option Station → ℕ
eui_in None = 0
eui_in (Some x) = x.eui

neither : (a b : Bool) → (a || b) ≡ false → (a ≡ false) × (b ≡ false)
neither true b e = absurd (false≢true (sym e))
neither false b e = (refl, e)

none_alike : (n : ℕ) (test : Station → Bool) (ps : List Station) (p : Station)
    → list_any (λ (x : Station). nat_eq n x.eui) ps ≡ false → find test ps ≡ Some p → nat_eq n p.eui ≡ false
none_alike n test [] p none found = absurd (no_some p found)
  where
    no_some : (q : Station) → None ≡ Some q → ⊥
    no_some q e = subst IsNothing e tt
none_alike n test (q ∷ ps) p none found =
    by_test (test q) found
    (λ e. none_alike n test ps p (neither (nat_eq n q.eui) (list_any (λ (x : Station). nat_eq n x.eui) ps) none).1 e)
  where
    both : (nat_eq n q.eui ≡ false) × (list_any (λ (x : Station). nat_eq n x.eui) ps ≡ false)
    both = neither (nat_eq n q.eui) (list_any (λ (x : Station). nat_eq n x.eui) ps) none

    by_test : (b : Bool) → cond b (Some q) (find test ps) ≡ Some p → (find test ps ≡ Some p → nat_eq n p.eui ≡ false)
        → nat_eq n p.eui ≡ false
    by_test true e later = subst (λ (k : ℕ). nat_eq n k ≡ false) (ap eui_in e) both.0
    by_test false e later = later e

-- EUIs differ, so a node that is found by a test is found by its own EUI
found_again : (test : Station → Bool) (ps : List Station) → all_apart (λ (a b : Station). nat_eq a.eui b.eui) ps
    ≡ true → (p : Station) → find test ps ≡ Some p → find (λ (x : Station). nat_eq x.eui p.eui) ps ≡ Some p
found_again test [] apart p found = found
found_again test (q ∷ ps) apart p found =
    by_test (test q) found
    (λ e. found_again test ps
    (and_parts (not (list_any (λ (x : Station). nat_eq q.eui x.eui) ps))
    (all_apart (λ (a b : Station). nat_eq a.eui b.eui) ps) apart).1 p e)
  where
    negated : (b : Bool) → not b ≡ true → b ≡ false
    negated true e = absurd (false≢true e)
    negated false e = refl

    parts : (not (list_any (λ (x : Station). nat_eq q.eui x.eui) ps) ≡ true)
        × (all_apart (λ (a b : Station). nat_eq a.eui b.eui) ps ≡ true)
    parts = and_parts (not (list_any (λ (x : Station). nat_eq q.eui x.eui) ps))
        (all_apart (λ (a b : Station). nat_eq a.eui b.eui) ps) apart

    by_test : (b : Bool) → cond b (Some q) (find test ps) ≡ Some p
        → (find test ps ≡ Some p → find (λ (x : Station). nat_eq x.eui p.eui) ps ≡ Some p)
        → cond (nat_eq q.eui p.eui) (Some q) (find (λ (x : Station). nat_eq x.eui p.eui) ps) ≡ Some p
    by_test true e later = ap (λ (b : Bool). cond b (Some q) (find (λ (x : Station). nat_eq x.eui p.eui) ps))
        (eq-eqb q.eui p.eui (ap eui_in e)) ∙ e
    by_test false e later =
        ap (λ (b : Bool). cond b (Some q) (find (λ (x : Station). nat_eq x.eui p.eui) ps))
        (none_alike q.eui test ps p (negated (list_any (λ (x : Station). nat_eq q.eui x.eui) ps) parts.0) e)
        ∙ later e

-- of the declared nodes, that one is the centre, by their names
abbrev pub Centred : List Station → ℕ → Type 0
Centred known c = (j : ℕ) → IsDeclared known j → is_centres known (name_of known j) ≡ nat_eq j c

-- the first centre has the name of the node of its EUI
centre_called : (w : Schedule) → euis_differ w ≡ true → (n : ℕ) → n < 2 ^ 64 → n ≡ centre_of (stations w)
    → is_centres (stations w) (name_of (stations w) n) ≡ true
unfolding is_centres centre_name name_of station_of centre_of euis_differ
centre_called w differ n small its = by_found (find (λ (p : Station). is_centre p.role) (stations w)) refl its
  where
    by_found : (o : Option Station) → find (λ (p : Station). is_centre p.role) (stations w) ≡ o → n
        ≡ eui_or model.nobody o
        → is_name (option_map (λ (s : Station). s.name) o)
        (name_or_none (find (λ (p : Station). nat_eq p.eui n) (stations w))) ≡ true
    by_found None e is = absurd (lt_irrefl (2 ^ 64) (subst (λ (k : ℕ). k < 2 ^ 64) is small))
    by_found (Some p) e is =
        ap (λ (o : Option Station). bytes_eq p.name (name_or_none o))
        (ap (λ (k : ℕ). find (λ (x : Station). nat_eq x.eui k) (stations w)) is ∙ found_again
        (λ (x : Station). is_centre x.role) (stations w) differ p e)
        ∙ (bytes_eq-Decides p.name p.name).1 refl

one_name : (o : Option Bytes) (x y : Bytes) → is_name o x ≡ true → is_name o y ≡ true → x ≡ y
one_name None x y e f = absurd (false≢true e)
one_name (Some z) x y e f = sym ((bytes_eq-Decides z x).0 e) ∙ (bytes_eq-Decides z y).0 f

pub is_centred : (w : Schedule) → IsSchedule w → euis_differ w ≡ true → AreNamed (stations w) → (c : ℕ) → Names w c
    → c ≡ centre_of (stations w) → Centred (stations w) c
unfolding is_centres
is_centred w is differ fits c there its j named_too =
    let known = stations w in
    let called : is_centres known (name_of known c) ≡ true = centre_called w differ c (me-of w is c there).eui its in
    bool_same (is_centres known (name_of known j)) (nat_eq j c)
    (λ e. eq-eqb j c
    (sym (named_again known j fits.differ named_too) ∙ ap (named known)
    (one_name (centre_name known) (name_of known j) (name_of known c) e called) ∙ named_again known c fits.differ
    there))
    (λ e. subst (λ (k : ℕ). is_centres known (name_of known k) ≡ true) (sym (eqb-true j c e)) called)
