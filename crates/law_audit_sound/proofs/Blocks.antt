-- Whatever lines follow the start of a run, the first node that they declare with the name of one of its nodes is
-- that node.
use Rattle.std.proofs.Common.{◌≡◌, Bool, true, false, cond, ℕ, List, [], ◌∷◌, ◌++◌, map, fold, find, Option, Some, None, is_some, nat_eq, bytes_eq, refl, sym, ap, ◌∙◌, append_assoc}
use Rattle.std.proofs.lemmas.Bool.{false≢true}
use Rattle.std.proofs.lemmas.Slice.Eq.{bytes_eq-Decides}
use Rattle.zb_audit_names.specs.Naming.{declared_in, declares, or_added, station_named, with_station}
use Rattle.law_audit_groups.specs.Printing.{printed}
use Rattle.zb_model.specs.Data as model
use Rattle.zb_model.specs.Data.{Bytes, Station}
use Rattle.zb_model.specs.Lines as log
use Rattle.zb_model.specs.Lines.{Declared}
use Rattle.zb_model.specs.Play.{Schedule, setting_of, start, station_or, stations}
use Rattle.zb_model.specs.Rules.{station_of}
use Rattle.zb_model.specs.Schedules.{Names}
use Rattle.zb_node_types.specs.Changes.{model_role}
use Rattle.zb_trace_model.specs.Naming.{AreNamed, IsDeclared, NamesDiffer, name_of, name_or_none}
use Rattle.zb_trace_model.specs.Parts.{role_for}
use Rattle.zb_trace_model.specs.Said.{line_for}
use Rattle.zb_trace_model.proofs.Naming.{each_name}
use Rattle.zb_trace.specs.declared.line.Line.{Line}
use Rattle.zb_trace.specs.declared.line.Line.TheVariants as line

-- ---- what is found stays found

by_some : {X : Type 0} (test : Bool) (z x : X) (o p : Option X) → (o ≡ Some x → p ≡ Some x) → cond test (Some z) o
    ≡ Some x → cond test (Some z) p ≡ Some x
by_some true z x o p more e = e
by_some false z x o p more e = more e

no_some : {X : Type 0} (x : X) → None ≡ Some x → ⊥
no_some x e = false≢true (ap is_some e)

find_left : {X : Type 0} (test : X → Bool) (xs ys : List X) (x : X) → find test xs ≡ Some x → find test (xs ++ ys)
    ≡ Some x
find_left test [] ys x e = absurd (no_some x e)
find_left test (z ∷ xs) ys x e = by_some (test z) z x (find test xs) (find test (xs ++ ys)) (find_left test xs ys x) e

by_none : {X : Type 0} (test : Bool) (z : X) (o p q : Option X) → (o ≡ None → p ≡ q) → cond test (Some z) o ≡ None
    → cond test (Some z) p ≡ q
by_none true z o p q more e = absurd (no_some z (sym e))
by_none false z o p q more e = more e

find_right : {X : Type 0} (test : X → Bool) (xs ys : List X) → find test xs ≡ None → find test (xs ++ ys)
    ≡ find test ys
find_right test [] ys e = refl
find_right test (z ∷ xs) ys e = by_none (test z) z (find test xs) (find test (xs ++ ys)) (find test ys)
    (find_right test xs ys) e

-- ---- lines

added_keeps : (ks : List Station) (x : Station) (name : Bytes) (o : Option Station) (s : Station)
    → station_named ks name ≡ Some s → station_named (or_added ks x o) name ≡ Some s
unfolding station_named
added_keeps ks x name None s e = find_left (λ (p : Station). bytes_eq p.name name) ks (x ∷ []) s e
added_keeps ks x name (Some y) s e = e

line_keeps : (ks : List Station) (name : Bytes) (l : Line) (s : Station) → station_named ks name ≡ Some s
    → station_named (declares ks l) name ≡ Some s
unfolding declares with_station
line_keeps ks name (line.Node called r eui short out_block in_block) s e =
    added_keeps ks
    (record {
      name = called.bytes;
      eui = eui.0;
      short = short.0;
      role = model_role r;
      out_block = out_block;
      in_block = in_block;
    }) name (station_named ks called.bytes) s e
line_keeps ks name _ s e = e

lines_keep : (ls : List Line) (ks : List Station) (name : Bytes) (s : Station) → station_named ks name ≡ Some s
    → station_named (fold declares ks ls) name ≡ Some s
lines_keep [] ks name s e = e
lines_keep (l ∷ ls) ks name s e = lines_keep ls (declares ks l) name s (line_keeps ks name l s e)

-- ---- the nodes of the start

role_again : (r : model.Role) → model_role (role_for r) ≡ r
role_again model.Centre = refl
role_again model.Router = refl
role_again model.Device = refl

one_declared : (known ks : List Station) (p : Station) → declares ks (line_for known (Declared p)) ≡ with_station ks p
unfolding declares line_for
one_declared known ks p =
    ap (λ r. with_station ks
    (record
    { name = p.name; eui = p.eui; short = p.short; role = r; out_block = p.out_block; in_block = p.in_block }))
    (role_again p.role)

added : (ks : List Station) (p : Station) (name : Bytes) (o : Option Station) → o ≡ None → station_named ks name
    ≡ None → station_named (or_added ks p o) name ≡ station_named (p ∷ []) name
unfolding station_named
added ks p name None none e = find_right (λ (s : Station). bytes_eq s.name name) ks (p ∷ []) e
added ks p name (Some x) none e = absurd (no_some x (sym none))

new_one : (ks : List Station) (p : Station) (name : Bytes) → bytes_eq p.name name ≡ true → station_named ks name
    ≡ None → station_named (with_station ks p) name ≡ Some p
unfolding with_station station_named
new_one ks p name is e =
    added ks p name (station_named ks p.name) (ap (station_named ks) ((bytes_eq-Decides p.name name).0 is) ∙ e) e ∙ ap
    (λ b. cond b (Some p) None) is

other_one : (ks : List Station) (p : Station) (name : Bytes) (o : Option Station) → bytes_eq p.name name ≡ false
    → station_named ks name ≡ None → station_named (or_added ks p o) name ≡ None
unfolding station_named
other_one ks p name None is e = find_right (λ (s : Station). bytes_eq s.name name) ks (p ∷ []) e ∙ ap
    (λ b. cond b (Some p) None) is
other_one ks p name (Some x) is e = e

not_this : (ks : List Station) (p : Station) (name : Bytes) → bytes_eq p.name name ≡ false → station_named ks name
    ≡ None → station_named (with_station ks p) name ≡ None
unfolding with_station
not_this ks p name is none = other_one ks p name (station_named ks p.name) is none

all_declared : (known ps ks : List Station) (name : Bytes) (s : Station) → station_named ks name ≡ None
    → station_named ps name ≡ Some s → station_named (fold declares ks (printed known (map Declared ps))) name ≡ Some s
unfolding station_named
all_declared known [] ks name s none e = absurd (no_some s e)
all_declared known (p ∷ ps) ks name s none e =
    ap (λ x. station_named (fold declares x (printed known (map Declared ps))) name) (one_declared known ks p)
    ∙ by_first (bytes_eq p.name name) refl (all_declared known ps (with_station ks p) name s) e
  where
    by_first : (b : Bool) → bytes_eq p.name name ≡ b
        → (station_named (with_station ks p) name ≡ None → station_named ps name ≡ Some s
        → station_named (fold declares (with_station ks p) (printed known (map Declared ps))) name ≡ Some s)
        → cond b (Some p) (station_named ps name) ≡ Some s
        → station_named (fold declares (with_station ks p) (printed known (map Declared ps))) name ≡ Some s
    by_first true is more e = lines_keep (printed known (map Declared ps)) (with_station ks p) name p
        (new_one ks p name is none) ∙ e
    by_first false is more e = more (not_this ks p name is none) e

-- ---- the node of a name

abbrev name_differs : Station → Bytes → Type 0
name_differs p name = bytes_eq p.name name ≡ false

own_station : (ps : List Station) (n : ℕ) → NamesDiffer ps → IsDeclared ps n → station_named ps (name_of ps n)
    ≡ station_of ps n
unfolding station_named name_of station_of
own_station [] n differ found = absurd (false≢true found)
own_station (p ∷ ps) n differ found = by_first (nat_eq p.eui n) (each_name (name_differs p) ps n differ.0)
    (own_station ps n differ.1) found
  where
    by_first : (b : Bool) → (IsDeclared ps n → name_differs p (name_of ps n))
        → (IsDeclared ps n → station_named ps (name_of ps n) ≡ station_of ps n)
        → is_some (cond b (Some p) (station_of ps n)) ≡ true
        → station_named (p ∷ ps) (name_or_none (cond b (Some p) (station_of ps n))) ≡ cond b (Some p) (station_of ps n)
    by_first true differs more found = ap (λ b. cond b (Some p) (station_named ps p.name))
        ((bytes_eq-Decides p.name p.name).1 refl)
    by_first false differs more found = ap (λ b. cond b (Some p) (station_named ps (name_of ps n))) (differs found) ∙
        more found

-- ---- along a run

-- Whatever lines follow these, the first node with the name of a declared node is that node.
unfoldable pub KnowsNodes : Schedule → List log.Line → Type 0
KnowsNodes w h = (n : ℕ) → Names w n → (rest : List Line)
    → station_named (declared_in (printed (stations w) h ++ rest)) (name_of (stations w) n) ≡ Some (setting_of w n).me

fold_more : (f : List Station → Line → List Station) (ks : List Station) (xs ys : List Line) → fold f ks (xs ++ ys)
    ≡ fold f (fold f ks xs) ys
fold_more f ks [] ys = refl
fold_more f ks (x ∷ xs) ys = fold_more f (f ks x) xs ys

printed_more : (known : List Station) (g h : List log.Line) → printed known (g ++ h) ≡ printed known g
    ++ printed known h
printed_more known [] h = refl
printed_more known (m ∷ g) h = ap (λ ls. line_for known m ∷ ls) (printed_more known g h)

me_is : (o : Option Station) → is_some o ≡ true → o ≡ Some (station_or o)
me_is None named = absurd (false≢true named)
me_is (Some p) named = refl

nothing : (name : Bytes) → station_named [] name ≡ None
unfolding station_named
nothing name = refl

-- the nodes are declared first
first_know : (w : Schedule) → AreNamed (stations w) → (others : List log.Line)
    → KnowsNodes w (map Declared (stations w) ++ others)
unfolding KnowsNodes declared_in setting_of
first_know w fits others n named rest =
    let known = stations w in
    let name = name_of known n in
    let first = printed known (map Declared known) in
    let behind = printed known others ++ rest in
    ap (λ ls. station_named (fold declares [] (ls ++ rest)) name) (printed_more known (map Declared known) others)
    ∙ ap (λ ls. station_named (fold declares [] ls) name) (append_assoc first (printed known others) rest)
    ∙ ap (λ ks. station_named ks name) (fold_more declares [] first behind)
    ∙ lines_keep behind (fold declares [] first) name (station_or (station_of known n))
    (all_declared known known [] name (station_or (station_of known n)) (nothing name)
    (own_station known n fits.differ named ∙ me_is (station_of known n) named))

pub start_knows : (w : Schedule) → AreNamed (stations w) → KnowsNodes w (start w)
unfolding start
start_knows w fits = first_know w fits _

pub more_knows : (w : Schedule) (h g : List log.Line) → KnowsNodes w h → KnowsNodes w (h ++ g)
unfolding KnowsNodes
more_knows w h g all n named rest =
    let known = stations w in
    ap (λ ls. station_named (declared_in ls) (name_of known n))
    (ap (λ ls. ls ++ rest) (printed_more known h g) ∙ append_assoc (printed known h) (printed known g) rest) ∙ all
    n named (printed known g ++ rest)
