-- What a line adds to the sayings from which the two words follow, if nodes are identified by names.
use Rattle.std.proofs.Common.{◌≡◌, ℕ, ◌+◌, ◌≤◌, suc, List, [], ◌∷◌, ◌++◌, Bool, true, false, not, ◌||◌, ◌&&◌, Option, Some, None, refl, ap, sym, ◌∙◌, bytes_eq, nat_eq, length, length-append, append_assoc, arith}
use Rattle.std.specs.List.{list_any, flat_map}
use Rattle.std.specs.Option.{IfSome, option_map}
use Rattle.std.specs.Prelude.{fold, if◌then◌else◌}
use Rattle.std.proofs.lemmas.List.Folds.{list_any-append}
use Rattle.std.proofs.lemmas.List.{append-nil}
use Rattle.std.proofs.lemmas.Bool.{false≢true}
use Rattle.arrayvec.specs.ArrayString.{ArrayString}
use Rattle.zb_audit.specs.Words.{has_role, is_first, is_joining, is_place, name_at, said, seen, WordsStand}
use Rattle.zb_audit_names.proofs.Places.{itself, one_place}
use Rattle.zb_audit_names.specs.Naming.{declared_in, declares, eui_of, is_centres, is_eui, is_of, place_in, speaker, station_named}
use Rattle.zb_audit_names.specs.Secrets.{along, base_in, bases, based_line, came_by, code_in, codes_of, each_line, ever, exposed, forged_in, held_by, ideal, ideal_line, is_joiner, is_member, joins, network_in, network_keys, outside, passes_on, private, removed_devices, removed_in, terms_in, terms_of}
use Rattle.zb_audit_names.specs.Standing.{IsSpeaker, Tells}
use Rattle.zb_audit_names.specs.declared.node.Node.{Node}
use Rattle.zb_audit_names.specs.declared.node.Who.{Who}
use Rattle.zb_base.specs.declared.address.Eui.{Eui}
use Rattle.zb_base.specs.declared.key.Key.{Key}
use Rattle.zb_base.specs.declared.state.Attribute.{Attribute}
use Rattle.zb_base.specs.declared.state.Attribute.TheVariants as attribute
use Rattle.zb_model.specs.Data.{Bytes, Role, Station, Term}
use Rattle.zb_model.specs.Secrets.{carried, holds, holds_some}
use Rattle.zb_model.specs.Tools.{Tools}
use Rattle.zb_trace.specs.declared.line.Line.{Line}
use Rattle.zb_trace.specs.declared.line.Line.TheVariants as line
use Rattle.zb_trace_watch.specs.Passing.{is_code}
use Rattle.zb_trace_watch.specs.Sayings as say
use Rattle.zb_trace_watch.specs.Sayings.{came_to, only_if, said_by, start, Grows, JoinerCounts, Sayings}
use Rattle.zb_trace_watch.specs.Sets.{is_node, is_number}
use Rattle.zb_trace_watch.specs.Standing.{Represents}
use Rattle.zb_trace_watch.specs.declared.words.EndWords.{EndWords}
use Rattle.zb_trace_watch.proofs.Growth.{and_all, and_assoc, any_grows, any_more, or_assoc, or_none}
use Rattle.zb_trace_watch.proofs.Truth.{and_left, and_right, itself_number, not_both, or_left, same_bytes, same_number, same_truth, turned_number}

terms_more : (p : Term → Bool) (h : List Line) (l : Line) → list_any p (terms_of (h ++ l ∷ []))
    ≡ (list_any p (terms_of h) || list_any p (terms_in l))
unfolding terms_of
terms_more p h l = any_more p terms_in h l

codes_more : (h : List Line) (l : Line) (n : Bytes) (k : Bytes) → holds (codes_of (h ++ l ∷ []) n) k
    ≡ (holds (codes_of h n) k || holds (code_in n l) k)
unfolding codes_of
codes_more h l n k = any_more (bytes_eq k) (code_in n) h l

bases_more : (h : List Line) (l : Line) (n : Bytes) (k : Bytes) → holds (bases (h ++ l ∷ []) n) k
    ≡ (holds (bases h n) k || holds (base_in n l) k)
unfolding bases
bases_more h l n k = any_more (bytes_eq k) (base_in n) h l

removed_more : (h : List Line) (l : Line) (d : ℕ) → list_any (nat_eq d) (removed_devices (h ++ l ∷ []))
    ≡ (list_any (nat_eq d) (removed_devices h) || list_any (nat_eq d) (removed_in l))
unfolding removed_devices
removed_more h l d = any_more (nat_eq d) removed_in h l

network_more : (h : List Line) (l : Line) (k : Bytes) → holds (network_keys (h ++ l ∷ [])) k
    ≡ (holds (network_keys h) k || holds (network_in l) k)
unfolding network_keys
network_more h l k = any_more (bytes_eq k) network_in h l

forged_more : (p : Term → Bool) (h : List Line) (l : Line) → list_any p (flat_map forged_in (h ++ l ∷ []))
    ≡ (list_any p (flat_map forged_in h) || list_any p (forged_in l))
forged_more p h l = any_more p forged_in h l

along_more : {A : Type 0} (p : A → Bool) (says : List Station → Line → List A) (known : List Station) (h : List Line)
    (l : Line)
    → list_any p (along says known (h ++ l ∷ []))
    ≡ (list_any p (along says known h) || list_any p (says (fold declares known h) l))
along_more p says known [] l = list_any-append p (says known l) [] ∙ or_none (list_any p (says known l))
along_more p says known (m ∷ h) l =
    list_any-append p (says known m) (along says (declares known m) (h ++ l ∷ []))
    ∙ (ap (λ (b : Bool). list_any p (says known m) || b) (along_more p says (declares known m) h l)
    ∙ (sym (or_assoc (list_any p (says known m)) (list_any p (along says (declares known m) h))
    (list_any p (says (fold declares (declares known m) h) l)))
    ∙ ap (λ (b : Bool). b || list_any p (says (fold declares (declares known m) h) l))
    (sym (list_any-append p (says known m) (along says (declares known m) h)))))

ever_more : (h : List Line) (l : Line) (d : ℕ) (k : Bytes) → holds (ever (h ++ l ∷ []) d) k
    ≡ (holds (ever h d) k || holds (held_by d (declared_in h) l) k)
unfolding ever declared_in
ever_more h l d k = along_more (bytes_eq k) (held_by d) [] h l

no_more : (g : List Line) → g ++ [] ≡ g
no_more g = append-nil g

grouped : (g : List Line) (m : Line) (h : List Line) → (g ++ m ∷ []) ++ h ≡ g ++ m ∷ h
grouped g m h = append_assoc g (m ∷ []) h

each_more : (test : List Line → Line → Bool) (g h : List Line) (l : Line) → each_line test g (h ++ l ∷ [])
    ≡ (each_line test g h && test (g ++ h) l)
unfolding each_line
each_more test g [] l = and_all (test g l) ∙ ap (λ (x : List Line). test x l) (sym (no_more g))
each_more test g (m ∷ h) l =
    ap (λ (b : Bool). test g m && b)
    (each_more test (g ++ m ∷ []) h l ∙ ap (λ (x : List Line). each_line test (g ++ m ∷ []) h && test x l)
    (grouped g m h))
    ∙ sym (and_assoc (test g m) (each_line test (g ++ m ∷ []) h) (test (g ++ m ∷ h) l))

ideal_more : (tools : Tools) (h : List Line) (l : Line) → ideal tools (h ++ l ∷ [])
    ≡ (ideal tools h && ideal_line tools h l)
unfolding ideal
ideal_more tools h l = each_more (ideal_line tools) [] h l

based_more : (tools : Tools) (h : List Line) (l : Line) → each_line (based_line tools) [] (h ++ l ∷ [])
    ≡ (each_line (based_line tools) [] h && based_line tools h l)
based_more tools h l = each_more (based_line tools) [] h l

one_term : (l : Line) → length (terms_in l) ≤ 1
one_term (line.Seal event node t) = omega arith
one_term (line.Forge event t) = omega arith
one_term _ = omega arith

few_terms : (h : List Line) → length (terms_of h) ≤ length h
unfolding terms_of
few_terms [] = omega arith
few_terms (l ∷ h) = omega (arith, length-append (terms_in l) (flat_map terms_in h), one_term l, few_terms h)

exposed_is : (tools : Tools) (names : List Bytes) (h : List Line) → exposed tools h (outside h)
    ≡ say.exposed tools (said tools names h)
unfolding exposed outside say.exposed
exposed_is tools names h = refl

-- What a line adds, part by part.
grown : (tools : Tools) (names : List Bytes) (h : List Line) (l : Line) (a : Sayings) → terms_in l ≡ a.terms
    → forged_in l ≡ a.forged
    → ((i : ℕ) → is_place names i ≡ true → code_in (name_at names i) l ≡ a.codes i)
    → ((i : ℕ) → is_place names i ≡ true → base_in (name_at names i) l ≡ a.bases i)
    → ((d : ℕ) → held_by d (declared_in h) l ≡ a.ever d) → removed_in l ≡ a.removed
    → network_in l ≡ a.network → ideal_line tools h l ≡ a.ideal → based_line tools h l ≡ a.based
    → Grows (is_place names) (said tools names h) a (said tools names (h ++ l ∷ []))
grown tools names h l a terms forged codes bases_are ever_is removed network ideal_is based = record {
  terms = λ p. terms_more p h l ∙ ap (λ (ts : List Term). list_any p (terms_of h) || list_any p ts) terms;
  forged = λ p. forged_more p h l ∙ ap (λ (ts : List Term). list_any p (flat_map forged_in h) || list_any p ts) forged;
  codes = λ i at k. codes_more h l (name_at names i) k
      ∙ ap (λ (ks : List Bytes). holds (codes_of h (name_at names i)) k || holds ks k) (codes i at);
  bases = λ i at k. bases_more h l (name_at names i) k
      ∙ ap (λ (ks : List Bytes). holds (bases h (name_at names i)) k || holds ks k) (bases_are i at);
  ever = λ d some k. ever_more h l d k ∙ ap (λ (ks : List Bytes). holds (ever h d) k || holds ks k) (ever_is d);
  removed = λ d. removed_more h l d ∙ ap (λ (ds : List ℕ). list_any (nat_eq d) (removed_devices h)
      || list_any (nat_eq d) ds) removed;
  network = λ k. network_more h l k ∙ ap (λ (ks : List Bytes). holds (network_keys h) k || holds ks k) network;
  few = few_terms (h ++ l ∷ []);
  ideal = ideal_more tools h l ∙ ap (λ (b : Bool). ideal tools h && b) ideal_is;
  based = based_more tools h l ∙ ap (λ (b : Bool). each_line (based_line tools) [] h && b) based;
}

-- Which node a line names

-- A place is that of the line's node exactly if the name there is the node's name.
is_speaker : (names : List Bytes) (known : List Station) (who : Who) (name n : Bytes) (i : ℕ)
    → Tells who names known name → place_in names n ≡ Some i → nat_eq i who.place ≡ bytes_eq name n
is_speaker names known who name n i told at =
    same_truth _ _
    (λ e. let it : i ≡ who.place = same_number i who.place e in ap (λ (m : Bytes). bytes_eq name m)
    (one_place names n name who.place (at ∙ ap Some it) told.place) ∙ itself name)
    (λ e. let it : Some i ≡ Some who.place = sym at ∙ (ap (place_in names) (sym (same_bytes name n e)) ∙ told.place)
    in let same : i ≡ who.place = cc in ap (λ (m : ℕ). nat_eq i m) (sym same) ∙ itself_number i)

node_as : (address : Option Eui) (o : Option ℕ) (d : ℕ) → option_map (λ (e : Eui). e.0) address ≡ o
    → is_node address d ≡ is_eui o d
node_as None None d e = refl
node_as None (Some x) d e = cc
node_as (Some eui) None d e = cc
node_as (Some eui) (Some x) d e = let it : eui.0 ≡ x = cc in turned_number d eui.0 ∙ ap (λ (m : ℕ). nat_eq m d) it

is_address : (names : List Bytes) (known : List Station) (who : Who) (name : Bytes) (address : Option Eui)
    → Tells who names known name → option_map (λ (e : Eui). e.0) address ≡ option_map (λ (n : Node). n.eui.0) who.node
    → (d : ℕ) → is_node address d ≡ is_of known d name
unfolding is_of
is_address names known who name address told is d = node_as address (eui_of known name) d (is ∙ told.eui)

roles_as : (o : Option Role) (s : Option Station) → o ≡ option_map (λ (s : Station). s.role) s → has_role o
    ≡ is_joiner s
roles_as None None e = refl
roles_as None (Some s) e = cc
roles_as (Some r) None e = cc
roles_as (Some r) (Some s) e = let it : r ≡ s.role = cc in ap is_member it

is_joining_by : (names : List Bytes) (known : List Station) (who : Who) (name : Bytes) → Tells who names known name
    → is_joining who.node ≡ joins known name
unfolding joins
is_joining_by names known who name told = roles_as _ (station_named known name) told.role

more_than : (place : Option ℕ) (i : ℕ) → option_map (λ (n : ℕ). n + 1) place ≡ Some i → (j : ℕ) × (place ≡ Some j)
    × (j + 1 ≡ i)
more_than None i e = cc
more_than (Some j) i e = let same : j + 1 ≡ i = cc in (j, refl, same)

-- The name at the place of a name is that name.
named_there : (other name : Bytes) (names : List Bytes) (i : ℕ) (b : Bool) → bytes_eq other name ≡ b
    → ((j : ℕ) → place_in names name ≡ Some j → name_at names j ≡ name)
    → (if b then Some 0 else option_map (λ (n : ℕ). n + 1) (place_in names name)) ≡ Some i
    → name_at (other ∷ names) i ≡ name
named_there other name names i true same more e =
    let zero : 0 ≡ i = cc in ap (name_at (other ∷ names)) (sym zero) ∙ same_bytes other name same
named_there other name names i false same more e =
    let it = more_than (place_in names name) i e in
    let later : i ≡ suc it.0 = omega (arith, it.2) in
    ap (name_at (other ∷ names)) later ∙ more it.0 it.1

there : (names : List Bytes) (name : Bytes) (i : ℕ) → place_in names name ≡ Some i → name_at names i ≡ name
unfolding place_in
there [] name i e = cc
there (other ∷ names) name i e = named_there other name names i (bytes_eq other name) refl (there names name) e

first_is : (o : Option ℕ) (i : ℕ) → is_first o i ≡ true → o ≡ Some i
first_is None i e = cc
first_is (Some j) i e = ap Some (same_number j i e)

address_as : (node : Option Node) → option_map (λ (e : Eui). e.0) (option_map (λ (n : Node). n.eui) node)
    ≡ option_map (λ (n : Node). n.eui.0) node
address_as None = refl
address_as (Some n) = refl

code_key : (event : ℕ) (node : ArrayString) (partner : Eui) (key : Key) (a : Attribute)
    → network_in (line.Row event node partner key a) ≡ only_if (is_code a) key.0
code_key event node partner key attribute.Provisional = refl
code_key event node partner key attribute.Unverified = refl
code_key event node partner key attribute.Verified = refl

module _ (tools : Tools) (names : List Bytes) (h : List Line) (who : Who) (node : ArrayString)
    (told : Tells who names (declared_in h) node.bytes) where
  owned : (key : Bytes) (i : ℕ) → is_place names i ≡ true
      → only_if (bytes_eq node.bytes (name_at names i)) key ≡ only_if (is_number (seen who).number i) key
  owned key i at = ap (λ (b : Bool). only_if b key)
      (sym (is_speaker names (declared_in h) who node.bytes (name_at names i) i told
      (first_is (place_in names (name_at names i)) i at)))

  of_node : (d : ℕ) → is_node (seen who).address d ≡ is_of (declared_in h) d node.bytes
  of_node d = is_address names (declared_in h) who node.bytes (seen who).address told (address_as who.node) d

  held : (key : Bytes) (d : ℕ) → only_if (is_of (declared_in h) d node.bytes) key
      ≡ only_if (is_node (seen who).address d) key
  held key d = ap (λ (b : Bool). only_if b key) (sym (of_node d))

  held_with : (key : Bytes) (partner d : ℕ)
      → only_if (is_of (declared_in h) d node.bytes || (is_centres (declared_in h) node.bytes && nat_eq partner d)) key
      ≡ only_if (is_node (seen who).address d || (who.is_centre && nat_eq partner d)) key
  held_with key partner d =
      ap (λ (b : Bool). only_if (b || (is_centres (declared_in h) node.bytes && nat_eq partner d)) key)
      (sym (of_node d))
      ∙ ap (λ (b : Bool). only_if (is_node (seen who).address d || (b && nat_eq partner d)) key) (sym told.centre)

  came_same : (i : ℕ) (key : Bytes) → say.came_by tools (said tools names h) i key
      ≡ came_by tools h (name_at names i) key
  unfolding came_by say.came_by
  came_same i key = refl

  came_as : (b : Bool) (key : Bytes)
      → came_to tools (said tools names h) (if b then Some who.place else None) key
      ≡ (not b || came_by tools h node.bytes key)
  came_as false key = refl
  came_as true key = came_same who.place key ∙ ap (λ (n : Bytes). came_by tools h n key)
      (there names node.bytes who.place told.place)

  taken : (key : Bytes) → (not (joins (declared_in h) node.bytes) || came_by tools h node.bytes key)
      ≡ came_to tools (said tools names h) (seen who).joiner key
  taken key =
      ap (λ (b : Bool). not b || came_by tools h node.bytes key)
      (sym (is_joining_by names (declared_in h) who node.bytes told)) ∙ sym (came_as (is_joining who.node) key)

  counts_as : (b : Bool) → IfSome (if b then Some who.place else None) (λ (i : ℕ). is_place names i ≡ true)
  counts_as false = tt
  counts_as true =
      ap (λ (n : Bytes). is_first (place_in names n) who.place) (there names node.bytes who.place told.place)
      ∙ (ap (λ (o : Option ℕ). is_first o who.place) told.place ∙ itself_number who.place)

-- What a line adds, if its node is given.
line_adds : (tools : Tools) (names : List Bytes) (h : List Line) (who : Who) (l : Line)
    → IsSpeaker who names (declared_in h) l
    → JoinerCounts (is_place names) (seen who) l
    × Grows (is_place names) (said tools names h) (said_by tools (said tools names h) (seen who) l)
    (said tools names (h ++ l ∷ []))
unfolding speaker ideal_line
line_adds tools names h who (line.Node x0 x1 x2 x3 x4 x5) told = (
  (λ it. absurd (false≢true it)),
  grown tools names h _ _ refl refl (λ i at. refl)
      (λ i at. refl) (λ d. refl) refl refl refl refl,
)
line_adds tools names h who (line.GivenNet x0 x1 x2) told = (
  (λ it. absurd (false≢true it)),
  grown tools names h _ _ refl refl (λ i at. refl)
      (λ i at. refl) (held tools names h who x0 told x1.0) refl refl refl refl,
)
line_adds tools names h who (line.GivenLink x0 x1 x2) told = (
  (λ it. absurd (false≢true it)),
  grown tools names h _ _ refl refl (owned tools names h who x0 told x2.0)
      (owned tools names h who x0 told x2.0) (held tools names h who x0 told x2.0) refl refl refl refl,
)
line_adds tools names h who (line.Counter x0 x1 x2) told = (
  (λ it. absurd (false≢true it)),
  grown tools names h _ _ refl refl (λ i at. refl)
      (λ i at. refl) (λ d. refl) refl refl refl refl,
)
line_adds tools names h who (line.Reserve x0 x1 x2 x3) told = (
  (λ it. absurd (false≢true it)),
  grown tools names h _ _ refl refl (λ i at. refl)
      (λ i at. refl) (λ d. refl) refl refl refl refl,
)
line_adds tools names h who (line.Floor x0 x1 x2 x3 x4 x5) told = (
  (λ it. absurd (false≢true it)),
  grown tools names h _ _ refl refl (λ i at. refl)
      (λ i at. refl) (λ d. refl) refl refl refl refl,
)
line_adds tools names h who (line.Draw x0 x1) told = (
  (λ it. absurd (false≢true it)),
  grown tools names h _ _ refl refl (λ i at. refl)
      (λ i at. refl) (λ d. refl) refl refl refl refl,
)
line_adds tools names h who (line.DropNet x0 x1 x2) told = (
  (λ it. absurd (false≢true it)),
  grown tools names h _ _ refl refl (λ i at. refl)
      (λ i at. refl) (λ d. refl) refl refl refl refl,
)
line_adds tools names h who (line.DropLink x0 x1 x2 x3) told = (
  (λ it. absurd (false≢true it)),
  grown tools names h _ _ refl refl (λ i at. refl)
      (λ i at. refl) (λ d. refl) refl refl refl refl,
)
line_adds tools names h who (line.Install x0 x1 x2 x3) told = (
  (λ it. counts_as tools names h who x1 told (is_joining who.node)),
  grown tools names h _ _ refl refl (λ i at. refl)
      (λ i at. refl) (held tools names h who x1 told x2.0) refl refl (taken tools names h who x1 told x2.0) refl,
)
line_adds tools names h who (line.Active x0 x1 x2) told = (
  (λ it. absurd (false≢true it)),
  grown tools names h _ _ refl refl (λ i at. refl)
      (λ i at. refl) (λ d. refl) refl refl refl refl,
)
line_adds tools names h who (line.Start x0 x1 x2 x3) told = (
  (λ it. absurd (false≢true it)),
  grown tools names h _ _ refl refl (λ i at. refl)
      (λ i at. refl) (λ d. refl) refl refl refl refl,
)
line_adds tools names h who (line.Row x0 x1 x2 x3 x4) told = (
  (λ it. counts_as tools names h who x1 told (is_joining who.node)),
  grown tools names h _ _ refl refl (λ i at. refl)
      (owned tools names h who x1 told x3.0) (held_with tools names h who x1 told x3.0 x2.0) refl (code_key x0 x1 x2
      x3 x4)
      (taken tools names h who x1 told x3.0) refl,
)
line_adds tools names h who (line.Pair x0 x1 x2 x3 x4) told = (
  (λ it. absurd (false≢true it)),
  grown tools names h _ _ refl refl (λ i at. refl)
      (λ i at. refl) (λ d. refl) refl refl refl refl,
)
line_adds tools names h who (line.State x0 x1 x2) told = (
  (λ it. absurd (false≢true it)),
  grown tools names h _ _ refl refl (λ i at. refl)
      (λ i at. refl) (λ d. refl) refl refl refl refl,
)
line_adds tools names h who (line.Live x0 x1) told = (
  (λ it. absurd (false≢true it)),
  grown tools names h _ _ refl refl (λ i at. refl)
      (λ i at. refl) (λ d. refl) refl refl refl refl,
)
line_adds tools names h who (line.Removed x0 x1) told = (
  (λ it. absurd (false≢true it)),
  grown tools names h _ _ refl refl (λ i at. refl)
      (λ i at. refl) (λ d. refl) refl refl refl refl,
)
line_adds tools names h who (line.Roll x0 x1 x2) told = (
  (λ it. absurd (false≢true it)),
  grown tools names h _ _ refl refl (λ i at. refl)
      (λ i at. refl) (λ d. refl) refl refl refl refl,
)
line_adds tools names h who (line.Told x0 x1) told = (
  (λ it. absurd (false≢true it)),
  grown tools names h _ _ refl refl (λ i at. refl)
      (λ i at. refl) (λ d. refl) refl refl refl refl,
)
line_adds tools names h who (line.Untold x0 x1) told = (
  (λ it. absurd (false≢true it)),
  grown tools names h _ _ refl refl (λ i at. refl)
      (λ i at. refl) (λ d. refl) refl refl refl refl,
)
line_adds tools names h who (line.Commit x0 x1) told = (
  (λ it. absurd (false≢true it)),
  grown tools names h _ _ refl refl (λ i at. refl)
      (λ i at. refl) (λ d. refl) refl refl refl refl,
)
line_adds tools names h who (line.Accept x0 x1 x2) told = (
  (λ it. absurd (false≢true it)),
  grown tools names h _ _ refl refl (λ i at. refl)
      (λ i at. refl) (λ d. refl) refl refl refl refl,
)
line_adds tools names h who (line.Refuse x0 x1 x2) told = (
  (λ it. absurd (false≢true it)),
  grown tools names h _ _ refl refl (λ i at. refl)
      (λ i at. refl) (λ d. refl) refl refl refl refl,
)
line_adds tools names h who (line.Seal x0 x1 x2) told = (
  (λ it. absurd (false≢true it)),
  grown tools names h _ _ refl refl (λ i at. refl)
      (λ i at. refl) (λ d. refl) refl refl refl refl,
)
line_adds tools names h who (line.Forge x0 x1) told = (
  (λ it. absurd (false≢true it)),
  grown tools names h _ _ refl refl (λ i at. refl)
      (λ i at. refl) (λ d. refl) refl refl refl
      (ap (λ (ks : List Bytes). holds ks x1.base.0) (exposed_is tools names h)),
)
line_adds tools names h who (line.Send x0 x1 x2 x3) told = (
  (λ it. absurd (false≢true it)),
  grown tools names h _ _ refl refl (λ i at. refl)
      (λ i at. refl) (λ d. refl) refl refl refl refl,
)
line_adds tools names h who (line.Inject x0 x1 x2) told = (
  (λ it. absurd (false≢true it)),
  grown tools names h _ _ refl refl (λ i at. refl)
      (λ i at. refl) (λ d. refl) refl refl refl refl,
)
line_adds tools names h who (line.Stopped x0 x1) told = (
  (λ it. absurd (false≢true it)),
  grown tools names h _ _ refl refl (λ i at. refl)
      (λ i at. refl) (λ d. refl) refl refl refl refl,
)
line_adds tools names h who (line.DownReset x0 x1) told = (
  (λ it. absurd (false≢true it)),
  grown tools names h _ _ refl refl (λ i at. refl)
      (λ i at. refl) (λ d. refl) refl refl refl refl,
)
line_adds tools names h who (line.DownDisk x0 x1) told = (
  (λ it. absurd (false≢true it)),
  grown tools names h _ _ refl refl (λ i at. refl)
      (λ i at. refl) (λ d. refl) refl refl refl refl,
)
line_adds tools names h who (line.Boot x0 x1) told = (
  (λ it. absurd (false≢true it)),
  grown tools names h _ _ refl refl (λ i at. refl)
      (λ i at. refl) (λ d. refl) refl refl refl refl,
)
line_adds tools names h who (line.Dump x0 x1 x2) told = (
  (λ it. absurd (false≢true it)),
  grown tools names h _ _ refl refl (λ i at. refl)
      (λ i at. refl) (λ d. refl) refl refl refl refl,
)
line_adds tools names h who (line.End x0 x1 x2 x3 x4 x5) told = (
  (λ it. absurd (false≢true it)),
  grown tools names h _ _ refl refl (λ i at. refl)
      (λ i at. refl) (λ d. refl) refl refl refl refl,
)

-- Both together

pub words_start : (tools : Tools) (names : List Bytes) (w : EndWords)
    → ((counts : ℕ → Bool) → Represents tools counts w start) → WordsStand tools names w []
unfolding terms_of ever codes_of bases removed_devices network_keys ideal each_line
words_start tools names w represents = represents (is_place names)

pub words_follow : (tools : Tools) (names : List Bytes) (h : List Line) (who : Who) (l : Line) (old new : EndWords)
    → ((s : Sayings) → JoinerCounts (is_place names) (seen who) l
    → (after : Sayings) → Grows (is_place names) s (said_by tools s (seen who) l) after
    → Represents tools (is_place names) old s → Represents tools (is_place names) new after)
    → IsSpeaker who names (declared_in h) l → WordsStand tools names old h → WordsStand tools names new (h ++ l ∷ [])
words_follow tools names h who l old new follows told stands =
    let it = line_adds tools names h who l told in
    follows (said tools names h) it.0 (said tools names (h ++ l ∷ [])) it.1 stands

pub words_private : (tools : Tools) (names : List Bytes) (h : List Line) → say.private tools (said tools names h)
    ≡ private tools h
unfolding private passes_on say.passes_on
words_private tools names h = refl

-- Neither word becomes true again.

pub ideal_before : (tools : Tools) (h : List Line) (l : Line) → ideal tools (h ++ l ∷ []) ≡ true → ideal tools h ≡ true
ideal_before tools h l it = and_left (ideal tools h) (ideal_line tools h l) (sym (ideal_more tools h l) ∙ it)

some_grows : (keys all : List Bytes) → ((k : Bytes) → holds keys k ≡ true → holds all k ≡ true) → (o : Option Bytes)
    → holds_some keys o ≡ true → holds_some all o ≡ true
some_grows keys all more None it = cc
some_grows keys all more (Some k) it = more k it

passes_still : (tools : Tools) (h : List Line) (l : Line) → passes_on tools h ≡ true → passes_on tools (h ++ l ∷ [])
    ≡ true
unfolding passes_on
passes_still tools h l it =
    forged_more (λ (t : Term). holds_some (network_keys (h ++ l ∷ [])) (carried tools t)) h l
    ∙ or_left _ _
    (any_grows (λ (t : Term). holds_some (network_keys h) (carried tools t))
    (λ (t : Term). holds_some (network_keys (h ++ l ∷ [])) (carried tools t))
    (λ t. some_grows (network_keys h) (network_keys (h ++ l ∷ [])) (λ k here. network_more h l k ∙ or_left _ _ here)
    (carried tools t))
    (flat_map forged_in h) it)

pub private_before : (tools : Tools) (h : List Line) (l : Line) → private tools (h ++ l ∷ []) ≡ true → private tools h
    ≡ true
unfolding private
private_before tools h l it = both_before (each_line (based_line tools) [] h) (passes_on tools h) refl refl
  where
    based : each_line (based_line tools) [] h ≡ true
    based =
        and_left _ (based_line tools h l)
        (sym (based_more tools h l) ∙ and_left _ (not (passes_on tools (h ++ l ∷ []))) it)

    kept : not (passes_on tools (h ++ l ∷ [])) ≡ true
    kept = and_right (each_line (based_line tools) [] (h ++ l ∷ [])) _ it

    both_before : (a b : Bool) → each_line (based_line tools) [] h ≡ a → passes_on tools h ≡ b
        → (each_line (based_line tools) [] h && not (passes_on tools h)) ≡ true
    both_before a true e f = let still : passes_on tools (h ++ l ∷ []) ≡ true =
        passes_still tools h l f in absurd (not_both (not (passes_on tools (h ++ l ∷ []))) kept (ap not still))
    both_before a false e f = rw (based, f) refl
