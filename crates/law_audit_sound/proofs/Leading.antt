-- Lines whose node lines come first, and which node is which after them.
use Rattle.std.proofs.Common.{◌≡◌, ℕ, ◌&&◌, ◌||◌, ◌⊎◌, Bool, true, false, cond, not, List, [], ◌∷◌, ◌++◌, fold, find, Option, Some, None, is_some, nat_eq, bytes_eq, unwrap_or, refl, sym, ap, ◌∙◌, subst, append_assoc, eqb-true, eq-eqb, ⊎_elim}
use Rattle.std.specs.List.{AllByRecursion, list_any}
use Rattle.std.specs.Option.{option_map}
use Rattle.std.proofs.lemmas.Bool.{and_parts, false≢true, not-true}
use Rattle.std.proofs.lemmas.Slice.Eq.{bytes_eq-Decides}
use Rattle.zb_audit_names.specs.Naming.{centre_name, declared_in, declares, eui_of, is_centres, is_eui, is_name, is_of, or_added, station_named, with_station}
use Rattle.zb_audit_names.specs.Secrets.{is_joiner, joins as joins_by_name}
use Rattle.law_audit_groups.specs.Printing.{printed}
use Rattle.zb_model.specs.Data as model
use Rattle.zb_model.specs.Data.{Bytes, Station}
use Rattle.zb_model.specs.Lines as log
use Rattle.zb_model.specs.Readings.{station_line, stations_of}
use Rattle.zb_model.specs.Fits.{all_apart}
use Rattle.zb_model.specs.Rules.{station_of}
use Rattle.zb_model.specs.Secrets.{is_the_centre, joins}
use Rattle.zb_model.specs.State.{is_centre}
use Rattle.law_run.proofs.Basics.{nat_eq-refl}
use Rattle.zb_node_types.specs.Changes.{model_role}
use Rattle.zb_trace_model.specs.Naming.{AreNamed, IsDeclared, NamesDiffer, name_of, name_or_none}
use Rattle.zb_trace_model.specs.Parts.{role_for}
use Rattle.zb_trace_model.specs.Said.{IsOfNodes, line_for}
use Rattle.zb_trace_model.proofs.Naming.{each_name, named_again}
use Rattle.zb_trace_model.proofs.Parts.{role_again}
use Rattle.zb_trace.specs.Views.{named}
use Rattle.law_audit_sound.specs.Agreeing.{NameSame}

-- ---- node lines first

abbrev pub NotNode : log.Line → Type 0
NotNode (log.Declared p) = ⊥
NotNode _ = Unit {0}

-- the line of the next node; or a line after all node lines, of one of these nodes or of no node
abbrev pub IsNext : List Station → List Station → log.Line → Type 0
IsNext known front m = (p : Station) × (m ≡ log.Declared p) × (more : List Station) × (known ≡ front ++ p ∷ more)

abbrev pub IsBehind : List Station → List Station → log.Line → Type 0
IsBehind known front m = (front ≡ known) × IsOfNodes known m × NotNode m

abbrev pub Leads : List Station → List Station → List log.Line → Type 0
Leads known front [] = Unit {0}
Leads known front (m ∷ ms) = (IsNext known front m ⊎ IsBehind known front m) × Leads known (station_line front m) ms

pub by_line : (P : List Station → log.Line → Type 0) (known front : List Station) (m : log.Line)
    → IsNext known front m ⊎ IsBehind known front m
    → ((p : Station) → P front (log.Declared p)) → (IsOfNodes known m → P known m) → P front m
by_line P known front m is first later = ⊎_elim (λ x. subst (P front) (sym x.1) (first x.0))
    (λ x. subst (λ f. P f m) (sym x.0) (later x.1)) is

pub no_station : (front : List Station) (m : log.Line) → NotNode m → station_line front m ≡ front
no_station front (log.Declared p) n = absurd n
no_station front _ n = refl

pub leads_left : (known front : List Station) (g h : List log.Line) → Leads known front (g ++ h) → Leads known front g
leads_left known front [] h all = tt
leads_left known front (m ∷ g) h all = (all.0, leads_left known (station_line front m) g h all.1)

pub leads_right : (known front : List Station) (g h : List log.Line) → Leads known front (g ++ h)
    → Leads known (fold station_line front g) h
leads_right known front [] h all = all
leads_right known front (m ∷ g) h all = leads_right known (station_line front m) g h all.1

-- lines of this form are of these nodes
one_of_nodes : (known front : List Station) (m : log.Line) → IsNext known front m ⊎ IsBehind known front m
    → IsOfNodes known m
one_of_nodes known front m is = by_line (λ f x. IsOfNodes known x) known front m is (λ p. tt) (λ of. of)

pub all_of_nodes : (known front : List Station) (h : List log.Line) → Leads known front h
    → AllByRecursion (IsOfNodes known) h
all_of_nodes known front [] all = tt
all_of_nodes known front (m ∷ h) all =
    (one_of_nodes known front m all.0, all_of_nodes known (station_line front m) h all.1)

-- the nodes declared so far are the first of all
abbrev pub IsFrontOf : List Station → List Station → Type 0
IsFrontOf known front = (more : List Station) × (known ≡ front ++ more)

next_front : (known front : List Station) (m : log.Line) → IsNext known front m ⊎ IsBehind known front m
    → IsFrontOf known front → IsFrontOf known (station_line front m)
next_front known front m is now =
    ⊎_elim (λ x. subst (λ l. IsFrontOf known (station_line front l)) (sym x.1)
    (x.2, x.3 ∙ sym (append_assoc front (x.0 ∷ []) x.2)))
    (λ x. subst (IsFrontOf known) (sym (no_station front m x.2)) now) is

pub front_of : (known front : List Station) (h : List log.Line) → Leads known front h → IsFrontOf known front
    → IsFrontOf known (fold station_line front h)
front_of known front [] all now = now
front_of known front (m ∷ h) all now = front_of known (station_line front m) h all.1
    (next_front known front m all.0 now)

-- ---- what is read of a run after some of its lines

-- The lines begin a run of these nodes, whose names and addresses differ.
pub record Begins (known : List Station) (h : List log.Line) : Type 0 where
  pub named : AreNamed known
  pub apart : all_apart (λ (a b : Station). nat_eq a.eui b.eui) known ≡ true
  pub leads : Leads known [] h

pub begins_left : (known : List Station) (g h : List log.Line) → Begins known (g ++ h) → Begins known g
begins_left known g h b = record { named = b.named; apart = b.apart; leads = leads_left known [] g h b.leads }

pub begins_front : (known : List Station) (h : List log.Line) → Begins known h → IsFrontOf known (stations_of h)
unfolding stations_of
begins_front known h b = front_of known [] h b.leads (known, refl)

-- ---- declared nodes

at_it : (P : Station → Type 0) (front : List Station) (p : Station) (more : List Station)
    → AllByRecursion P (front ++ p ∷ more) → P p
at_it P [] p more all = all.0
at_it P (q ∷ front) p more all = at_it P front p more all.1

-- a name that comes later is new
pub new_name : (front : List Station) (p : Station) (more : List Station) → NamesDiffer (front ++ p ∷ more)
    → station_named front p.name ≡ None
unfolding station_named
new_name [] p more differ = refl
new_name (q ∷ front) p more differ =
    by_name (bytes_eq q.name p.name) (at_it (λ (r : Station). bytes_eq q.name r.name ≡ false) front p more differ.0)
    (new_name front p more differ.1)
  where
    by_name : (b : Bool) → b ≡ false → find (λ (s : Station). bytes_eq s.name p.name) front ≡ None
        → cond b (Some q) (find (λ (s : Station). bytes_eq s.name p.name) front) ≡ None
    by_name true e none = absurd (false≢true (sym e))
    by_name false e none = none

as_model : (p : Station) → Station
as_model p =
    record {
      name = p.name;
      eui = p.eui;
      short = p.short;
      role = model_role (role_for p.role);
      out_block = p.out_block;
      in_block = p.in_block;
    }

is_model : (p : Station) → as_model p ≡ p
unfolding as_model
is_model p = ap (λ r. record p { role = r }) (role_again p.role)

adds : (known front : List Station) (p : Station) → station_named front p.name ≡ None
    → declares front (line_for known (log.Declared p)) ≡ front ++ p ∷ []
unfolding declares with_station line_for as_model
adds known front p new = ap (with_station front) (is_model p) ∙ ap (or_added front p) new

adds_none : (known front : List Station) (m : log.Line) → NotNode m → declares front (line_for known m) ≡ front
unfolding declares line_for
adds_none known front (log.Declared p) n = absurd n
adds_none known front (log.Changed event j (model.Moved (model.Draw key))) n = refl
adds_none known front _ n = refl

pub declares_same : (known front : List Station) (m : log.Line) → NamesDiffer known → IsNext known front m
    ⊎ IsBehind known front m → declares front (line_for known m) ≡ station_line front m
declares_same known front m differ is =
    ⊎_elim (λ x. subst (λ l. declares front (line_for known l) ≡ station_line front l) (sym x.1)
    (adds known front x.0 (new_name front x.0 x.2 (subst NamesDiffer x.3 differ))))
    (λ x. adds_none known front m x.2 ∙ sym (no_station front m x.2)) is

declared_from : (known front : List Station) (h : List log.Line) → NamesDiffer known → Leads known front h
    → fold declares front (printed known h) ≡ fold station_line front h
declared_from known front [] differ all = refl
declared_from known front (m ∷ h) differ all =
    ap (λ f. fold declares f (printed known h)) (declares_same known front m differ all.0) ∙ declared_from known
    (station_line front m) h differ all.1

pub declared_same : (known : List Station) (h : List log.Line) → Begins known h → declared_in (printed known h)
    ≡ stations_of h
unfolding declared_in stations_of
declared_same known h b = declared_from known [] h b.named.differ b.leads

-- ---- names and addresses

bool_same : (a b : Bool) → (a ≡ true → b ≡ true) → (b ≡ true → a ≡ true) → a ≡ b
bool_same true true f g = refl
bool_same true false f g = sym (f refl)
bool_same false true f g = g refl
bool_same false false f g = refl

-- names distinguish the nodes as their addresses do
abbrev pub TellsApart : List Station → ℕ → Type 0
TellsApart known n = (j : ℕ) → IsDeclared known j → bytes_eq (name_of known j) (name_of known n) ≡ nat_eq j n

pub tells_apart : (known : List Station) → AreNamed known → (n : ℕ) → IsDeclared known n → TellsApart known n
tells_apart known fits n its j there =
    bool_same (bytes_eq (name_of known j) (name_of known n)) (nat_eq j n)
    (λ e. eq-eqb j n
    (sym (named_again known j fits.differ there) ∙ ap (named known)
    ((bytes_eq-Decides (name_of known j) (name_of known n)).0 e) ∙ named_again known n fits.differ its))
    (λ e. (bytes_eq-Decides (name_of known j) (name_of known n)).1 (ap (name_of known) (eqb-true j n e)))

abbrev name_or_other : Bool → Station → Option Station → Bytes
name_or_other b p o = name_or_none (cond b (Some p) o)

itself : (p : Station) (front : List Station) → station_named (p ∷ front) p.name ≡ Some p
unfolding station_named
itself p front = ap (λ b. cond b (Some p) (find (λ (s : Station). bytes_eq s.name p.name) front))
    ((bytes_eq-Decides p.name p.name).1 refl)

another : (p : Station) (front : List Station) (name : Bytes) → bytes_eq p.name name ≡ false
    → station_named (p ∷ front) name ≡ station_named front name
unfolding station_named
another p front name e = ap (λ b. cond b (Some p) (find (λ (s : Station). bytes_eq s.name name) front)) e

nobody_named : (name : Bytes) → station_named [] name ≡ None
unfolding station_named
nobody_named name = refl

-- a node that has the name of a node is that node
pub named_front : (front more : List Station) (n : ℕ) → NamesDiffer (front ++ more) → IsDeclared (front ++ more) n
    → station_named front (name_of (front ++ more) n) ≡ station_of front n
unfolding station_of name_of
named_front [] more n differ its = nobody_named (name_of more n)
named_front (p ∷ front) more n differ its =
    by_first (nat_eq p.eui n) its (λ found. named_front front more n differ.1 found)
  where
    rest : Option Station
    rest = find (λ (q : Station). nat_eq q.eui n) (front ++ more)

    by_first : (b : Bool) → is_some (cond b (Some p) rest) ≡ true
        → (is_some rest ≡ true → station_named front (name_or_none rest)
        ≡ find (λ (q : Station). nat_eq q.eui n) front)
        → station_named (p ∷ front) (name_or_other b p rest)
        ≡ cond b (Some p) (find (λ (q : Station). nat_eq q.eui n) front)
    by_first true found more_ = itself p front
    by_first false found more_ =
        another p front (name_or_none rest)
        (each_name (λ name. bytes_eq p.name name ≡ false) (front ++ more) n differ.0 found) ∙ more_ found

pub named_same : (known front : List Station) (n : ℕ) → NamesDiffer known → IsFrontOf known front → IsDeclared known n
    → station_named front (name_of known n) ≡ station_of front n
named_same known front n differ is its =
    subst (λ ps. station_named front (name_of ps n) ≡ station_of front n) (sym is.1)
    (named_front front is.0 n (subst NamesDiffer is.1 differ) (subst (λ ps. IsDeclared ps n) is.1 its))

-- what is found passes the test
found_passes : (test : Station → Bool) (ps : List Station) (p : Station) → find test ps ≡ Some p → test p ≡ true
found_passes test [] p e = absurd (false≢true (ap is_some e))
found_passes test (q ∷ qs) p e = by_test (test q) refl e (λ f. found_passes test qs p f)
  where
    by_test : (b : Bool) → test q ≡ b → cond b (Some q) (find test qs) ≡ Some p
        → (find test qs ≡ Some p → test p ≡ true) → test p ≡ true
    by_test true t f more = ap test (sym (ap (λ o. unwrap_or o q) f)) ∙ t
    by_test false t f more = more f

station_is : (ps : List Station) (n : ℕ) (p : Station) → station_of ps n ≡ Some p → p.eui ≡ n
unfolding station_of
station_is ps n p e = eqb-true p.eui n (found_passes (λ (q : Station). nat_eq q.eui n) ps p e)

-- ---- the centre

none_passes : (test f : Station → Bool) (ps : List Station) (p : Station) → list_any f ps ≡ false → find test ps
    ≡ Some p → f p ≡ false
none_passes test f [] p none e = absurd (false≢true (ap is_some e))
none_passes test f (q ∷ qs) p none e = by_test (test q) (f q) refl none e (λ a b. none_passes test f qs p a b)
  where
    by_test : (b c : Bool) → f q ≡ c → (c || list_any f qs) ≡ false → cond b (Some q) (find test qs) ≡ Some p
        → (list_any f qs ≡ false → find test qs ≡ Some p → f p ≡ false) → f p ≡ false
    by_test b true is none e more = absurd (false≢true (sym none))
    by_test true false is none e more = ap f (sym (ap (λ o. unwrap_or o q) e)) ∙ is
    by_test false false is none e more = more none e

-- the node that is found is the node of its address
found_first : (test : Station → Bool) (ps : List Station) (p : Station)
    → all_apart (λ (a b : Station). nat_eq a.eui b.eui) ps ≡ true → find test ps ≡ Some p → station_of ps p.eui
    ≡ Some p
unfolding station_of
found_first test [] p apart e = absurd (false≢true (ap is_some e))
found_first test (q ∷ qs) p apart e =
    by_test (test q) e
    (none_passes test (λ (b : Station). nat_eq q.eui b.eui) qs p
    (not-true (list_any (λ (b : Station). nat_eq q.eui b.eui) qs) parts.0)) (λ f. found_first test qs p parts.1 f)
  where
    parts : (not (list_any (λ (b : Station). nat_eq q.eui b.eui) qs) ≡ true)
        × (all_apart (λ (a b : Station). nat_eq a.eui b.eui) qs ≡ true)
    parts = and_parts (not (list_any (λ (b : Station). nat_eq q.eui b.eui) qs))
        (all_apart (λ (a b : Station). nat_eq a.eui b.eui) qs) apart

    is_first : q ≡ p → cond (nat_eq q.eui p.eui) (Some q) (find (λ (s : Station). nat_eq s.eui p.eui) qs) ≡ Some p
    is_first same =
        subst (λ x. cond (nat_eq q.eui x.eui) (Some q) (find (λ (s : Station). nat_eq s.eui x.eui) qs) ≡ Some x) same
        (ap (λ b. cond b (Some q) (find (λ (s : Station). nat_eq s.eui q.eui) qs)) (nat_eq-refl q.eui))

    by_test : (b : Bool) → cond b (Some q) (find test qs) ≡ Some p
        → (find test qs ≡ Some p → nat_eq q.eui p.eui ≡ false)
        → (find test qs ≡ Some p → find (λ (s : Station). nat_eq s.eui p.eui) qs ≡ Some p)
        → cond (nat_eq q.eui p.eui) (Some q) (find (λ (s : Station). nat_eq s.eui p.eui) qs) ≡ Some p
    by_test true f apart_ more = is_first (ap (λ o. unwrap_or o q) f)
    by_test false f apart_ more = ap (λ b. cond b (Some q) (find (λ (s : Station). nat_eq s.eui p.eui) qs)) (apart_ f)
        ∙ more f

found_left : (test : Station → Bool) (front more : List Station) (p : Station) → find test front ≡ Some p
    → find test (front ++ more) ≡ Some p
found_left test [] more p e = absurd (false≢true (ap is_some e))
found_left test (q ∷ front) more p e = by_test (test q) e (λ f. found_left test front more p f)
  where
    by_test : (b : Bool) → cond b (Some q) (find test front) ≡ Some p
        → (find test front ≡ Some p → find test (front ++ more) ≡ Some p)
        → cond b (Some q) (find test (front ++ more)) ≡ Some p
    by_test true f more_ = f
    by_test false f more_ = more_ f

-- the name of a node that is found is that of the node of its address
centre_named : (known front : List Station) (p : Station) (n : ℕ) → AreNamed known
    → all_apart (λ (a b : Station). nat_eq a.eui b.eui) known ≡ true → IsFrontOf known front
    → find (λ (s : Station). is_centre s.role) front ≡ Some p → IsDeclared known n → bytes_eq p.name (name_of known n)
    ≡ nat_eq p.eui n
unfolding name_of
centre_named known front p n fits apart is e its =
    let here : find (λ (s : Station). is_centre s.role) known ≡ Some p =
    subst (λ ps. find (λ (s : Station). is_centre s.role) ps ≡ Some p) (sym is.1)
    (found_left (λ (s : Station). is_centre s.role) front is.0 p e) in
    let own : station_of known p.eui ≡ Some p = found_first (λ (s : Station). is_centre s.role) known p apart here in
    let name : name_of known p.eui ≡ p.name = ap name_or_none own in
    ap (λ x. bytes_eq x (name_of known n)) (sym name) ∙ tells_apart known fits n its p.eui (ap is_some own)

pub centres_same : (known front : List Station) (n : ℕ) → AreNamed known
    → all_apart (λ (a b : Station). nat_eq a.eui b.eui) known ≡ true → IsFrontOf known front → IsDeclared known n
    → is_centres front (name_of known n) ≡ is_the_centre front n
unfolding is_centres centre_name
centres_same known front n fits apart is its = by_found (find (λ (s : Station). is_centre s.role) front) refl
  where
    by_found : (o : Option Station) → find (λ (s : Station). is_centre s.role) front ≡ o
        → is_name (option_map (λ (s : Station). s.name) (find (λ (s : Station). is_centre s.role) front))
        (name_of known n) ≡ is_the_centre front n
    by_found None e = rw e refl
    by_found (Some p) e = rw e (centre_named known front p n fits apart is e its)

-- ---- all of it together

-- whether the node of a name has an address
pub whose_same : (front : List Station) (name : Bytes) (n d : ℕ) → station_named front name ≡ station_of front n
    → is_of front d name ≡ (is_some (station_of front n) && nat_eq n d)
unfolding is_of eui_of
whose_same front name n d same = ap (λ o. is_eui (option_map (λ (s : Station). s.eui) o) d) same ∙ by_found
    (station_of front n) refl
  where
    by_found : (o : Option Station) → station_of front n ≡ o → is_eui (option_map (λ (s : Station). s.eui) o) d
        ≡ (is_some o && nat_eq n d)
    by_found None e = refl
    by_found (Some p) e = ap (λ x. nat_eq x d) (station_is front n p e)

joining_same : (h : List log.Line) (n : ℕ) → is_joiner (station_of (stations_of h) n) ≡ joins h n
joining_same h n = by_found (station_of (stations_of h) n) refl
  where
    by_role : (p : Station) (r : model.Role) → p.role ≡ r → station_of (stations_of h) n ≡ Some p
        → is_joiner (station_of (stations_of h) n) ≡ joins h n
    by_role p model.Centre q e = rw e (rw q refl)
    by_role p model.Router q e = rw e (rw q refl)
    by_role p model.Device q e = rw e (rw q refl)

    by_found : (o : Option Station) → station_of (stations_of h) n ≡ o → is_joiner (station_of (stations_of h) n)
        ≡ joins h n
    by_found None e = rw e refl
    by_found (Some p) e = by_role p p.role refl e

pub name_same : (known : List Station) (h : List log.Line) → Begins known h → NameSame known h
unfolding eui_of joins_by_name
name_same known h b =
    let front = stations_of h in
    let declared = declared_same known h b in
    let is = begins_front known h b in
    record {
      declared = declared;
      named = λ n its. ap (λ ps. station_named ps (name_of known n)) declared ∙ named_same known front n
          b.named.differ is its;
      addressed = λ n its.
          ap (λ ps. eui_of ps (name_of known n)) declared ∙ ap (option_map (λ (s : Station). s.eui))
          (named_same known front n b.named.differ is its);
      whose = λ n d its.
          ap (λ ps. is_of ps d (name_of known n)) declared ∙ whose_same front (name_of known n) n d
          (named_same known front n b.named.differ is its);
      centres = λ n its. ap (λ ps. is_centres ps (name_of known n)) declared ∙ centres_same known front n b.named
          b.apart is its;
      joining = λ n its.
          ap (λ ps. joins_by_name ps (name_of known n)) declared ∙ ap is_joiner
          (named_same known front n b.named.differ is its) ∙ joining_same h n;
    }
