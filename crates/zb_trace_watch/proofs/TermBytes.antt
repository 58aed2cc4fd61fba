-- The bytes of terms distinguish them by all their parts.
use Rattle.zb_model.specs.State.{same_layer, same_label}
use Rattle.std.proofs.Common.{◌≡◌, ℕ, zero, suc, ◌+◌, ◌-◌, ◌*◌, ◌/◌, ◌%◌, ◌≤◌, List, [], ◌∷◌, ◌++◌, length, Bool, true, false, ◌&&◌, ◌||◌, cond, Option, Some, None, nat_eq, bytes_eq, refl, ap, sym, ◌∙◌, append_assoc, arith, div-add-mod', length-append}
use Rattle.std.specs.Global.{Vec}
use Rattle.std.specs.List.{list_any}
use Rattle.std.specs.BTreeMap.{is_at}
use Rattle.std.specs.Option.{is_some}
use Rattle.std.specs.BTreeSet.{insert_key}
use Rattle.std.specs.Cmp.Lexicographic.{slice_cmp}
use Rattle.std.specs.Ordering.{is_eq, match_ordering, nat_cmp}
use Rattle.std.specs.declared.cmp.Ordering.{Ordering}
use Rattle.std.specs.declared.cmp.Ordering.TheVariants.{Less, Equal, Greater}
use lib.Dec.{eqb-zero-suc, eqb-suc-zero, eqb-suc-suc}
use Rattle.zb_base.specs.declared.label.Label.{Label}
use Rattle.zb_base.specs.declared.label.Label.TheVariants as label
use Rattle.zb_base.specs.declared.label.Layer.{Layer}
use Rattle.zb_base.specs.declared.label.Layer.TheVariants as layer
use Rattle.zb_trace_watch.specs.Terms.{is_kept, low_bytes, layer_number, label_number, sized, term_bytes, term_head}
use Rattle.zb_trace_watch.proofs.TermOrder.{and_false, fifth}
use Rattle.zb_trace_watch.proofs.Alike.{bytes_alike}
use Rattle.zb_trace_watch.proofs.Truth.{number_so, same_bytes, same_truth, same_number, itself_number, both, and_left, and_right}
use Rattle.zb_model.specs.Secrets.{same_term}
use Rattle.zb_node_types.specs.Changes.{model_layer}
use Rattle.zb_model_real.specs.Terms.{model_term, model_label}
use Rattle.zb_seal.specs.declared.term.Term.{Term}

layer_alike : (a b : Layer) → nat_eq (layer_number a) (layer_number b) ≡ same_layer (model_layer a) (model_layer b)
layer_alike layer.Nwk layer.Nwk = refl
layer_alike layer.Nwk layer.Aps = refl
layer_alike layer.Aps layer.Nwk = refl
layer_alike layer.Aps layer.Aps = refl

label_alike : (a b : Label) → nat_eq (label_number a) (label_number b) ≡ same_label (model_label a) (model_label b)
label_alike label.Data label.Data = refl
label_alike label.Data label.Network = refl
label_alike label.Data label.Transport = refl
label_alike label.Data label.Load = refl
label_alike label.Network label.Data = refl
label_alike label.Network label.Network = refl
label_alike label.Network label.Transport = refl
label_alike label.Network label.Load = refl
label_alike label.Transport label.Data = refl
label_alike label.Transport label.Network = refl
label_alike label.Transport label.Transport = refl
label_alike label.Transport label.Load = refl
label_alike label.Load label.Data = refl
label_alike label.Load label.Network = refl
label_alike label.Load label.Transport = refl
label_alike label.Load label.Load = refl

and_assoc : (a b c : Bool) → (a && (b && c)) ≡ ((a && b) && c)
and_assoc true b c = refl
and_assoc false b c = refl

or_assoc : (a b c : Bool) → (a || (b || c)) ≡ ((a || b) || c)
or_assoc true b c = refl
or_assoc false b c = refl

or_swap : (a b : Bool) → (a || b) ≡ (b || a)
or_swap true true = refl
or_swap true false = refl
or_swap false true = refl
or_swap false false = refl

or_again : (a b : Bool) → (a || b) ≡ ((a || b) || a)
or_again true b = refl
or_again false true = refl
or_again false false = refl

both_and : {a b p q : Bool} → a ≡ b → p ≡ q → (a && p) ≡ (b && q)
both_and e f = λ i. e i && f i

-- A number equals another if the low byte and the rest do.

divided : (a b : ℕ) → a % 256 ≡ b % 256 → a / 256 ≡ b / 256 → a ≡ b
divided a b low high =
    sym (div-add-mod' a 256) ∙
    (ap (λ (x : ℕ). x * 256 + a % 256) high ∙ (ap (λ (x : ℕ). b / 256 * 256 + x) low ∙ div-add-mod' b 256))

divided_alike : (a b : ℕ) → (nat_eq (a % 256) (b % 256) && nat_eq (a / 256) (b / 256)) ≡ nat_eq a b
divided_alike a b = same_truth _ _ apart together
  where
    apart : (nat_eq (a % 256) (b % 256) && nat_eq (a / 256) (b / 256)) ≡ true → nat_eq a b ≡ true
    apart h =
        ap (λ (x : ℕ). nat_eq x b)
        (divided a b (same_number _ _ (and_left _ _ h))
        (same_number _ _ (and_right (nat_eq (a % 256) (b % 256)) _ h)))
        ∙ itself_number b

    together : nat_eq a b ≡ true → (nat_eq (a % 256) (b % 256) && nat_eq (a / 256) (b / 256)) ≡ true
    together h = ap (λ (x : ℕ). nat_eq (x % 256) (b % 256) && nat_eq (x / 256) (b / 256)) (same_number a b h) ∙ both _
        _ (itself_number (b % 256)) (itself_number (b / 256))

number_alike : (n a b : ℕ) (c d : List ℕ) → bytes_eq (low_bytes n a ++ c) (low_bytes n b ++ d)
    ≡ (nat_eq a b && bytes_eq c d)
number_alike zero a b c d = refl
number_alike (suc n) a b c d =
    ap (λ (x : Bool). nat_eq (a % 256) (b % 256) && x) (number_alike n (a / 256) (b / 256) c d)
    ∙ (and_assoc (nat_eq (a % 256) (b % 256)) (nat_eq (a / 256) (b / 256)) (bytes_eq c d) ∙ ap
    (λ (x : Bool). x && bytes_eq c d) (divided_alike a b))

-- A list with its length before it differs from another, whatever follows.

between : (x l r s t : Bool) → (l && r) ≡ (s && t) → (l && (x && r)) ≡ ((x && s) && t)
between true l r s t same = same
between false l r s t same = and_false l

sized_alike : (a b c d : List ℕ) → bytes_eq (sized a ++ c) (sized b ++ d) ≡ (bytes_eq a b && bytes_eq c d)
sized_alike [] [] c d = refl
sized_alike [] (y ∷ b) c d = ap (λ (l : Bool). l && bytes_eq c (y ∷ (b ++ d))) (eqb-zero-suc (length b))
sized_alike (x ∷ a) [] c d = ap (λ (l : Bool). l && bytes_eq (x ∷ (a ++ c)) d) (eqb-suc-zero (length a))
sized_alike (x ∷ a) (y ∷ b) c d =
    ap (λ (l : Bool). l && (nat_eq x y && bytes_eq (a ++ c) (b ++ d))) (eqb-suc-suc (length a) (length b))
    ∙ between (nat_eq x y) (nat_eq (length a) (length b)) (bytes_eq (a ++ c) (b ++ d)) (bytes_eq a b) (bytes_eq c d)
    (sized_alike a b c d)

-- The parts of a term, from one on.

from_control : Term → List ℕ
from_control t = t.control ∷ (sized t.header.items ++ t.content.items)

from_label : Term → List ℕ
from_label t = label_number t.label ∷ (low_bytes 7 t.source.0 ++ from_control t)

from_layer : Term → List ℕ
from_layer t = layer_number t.layer ∷ (sized t.base.0 ++ from_label t)

controls : (a b : Term) → bytes_eq (from_control a) (from_control b)
    ≡ (nat_eq a.control b.control
    && (bytes_eq a.header.items b.header.items && bytes_eq a.content.items b.content.items))
unfolding from_control
controls a b = ap (λ (x : Bool). nat_eq a.control b.control && x)
    (sized_alike a.header.items b.header.items a.content.items b.content.items)

labels : (a b : Term) → bytes_eq (from_label a) (from_label b)
    ≡ (same_label (model_label a.label) (model_label b.label) && (nat_eq a.source.0 b.source.0
    && (nat_eq a.control b.control
    && (bytes_eq a.header.items b.header.items && bytes_eq a.content.items b.content.items))))
unfolding from_label
labels a b =
    both_and (label_alike a.label b.label)
    (number_alike 7 a.source.0 b.source.0 (from_control a) (from_control b) ∙ ap
    (λ (x : Bool). nat_eq a.source.0 b.source.0 && x) (controls a b))

layers : (a b : Term) → bytes_eq (from_layer a) (from_layer b)
    ≡ (same_layer (model_layer a.layer) (model_layer b.layer)
    && (bytes_eq a.base.0 b.base.0
    && (same_label (model_label a.label) (model_label b.label) && (nat_eq a.source.0 b.source.0
    && (nat_eq a.control b.control
    && (bytes_eq a.header.items b.header.items && bytes_eq a.content.items b.content.items))))))
unfolding from_layer
layers a b =
    both_and (layer_alike a.layer b.layer)
    (sized_alike a.base.0 b.base.0 (from_label a) (from_label b) ∙ ap (λ (x : Bool). bytes_eq a.base.0 b.base.0 && x)
    (labels a b))

in_order : (a b : Term) → bytes_eq (term_bytes a) (term_bytes b)
    ≡ (nat_eq a.counter b.counter && (same_layer (model_layer a.layer) (model_layer b.layer)
    && (bytes_eq a.base.0 b.base.0
    && (same_label (model_label a.label) (model_label b.label) && (nat_eq a.source.0 b.source.0
    && (nat_eq a.control b.control
    && (bytes_eq a.header.items b.header.items && bytes_eq a.content.items b.content.items)))))))
unfolding term_bytes from_layer from_label from_control
in_order a b = number_alike 3 a.counter b.counter (from_layer a) (from_layer b) ∙ ap
    (λ (x : Bool). nat_eq a.counter b.counter && x) (layers a b)

pub bytes_tell : (a b : Term) → bytes_eq (term_bytes a) (term_bytes b) ≡ same_term (model_term a) (model_term b)
unfolding same_term
bytes_tell a b =
    in_order a b
    ∙ fifth (nat_eq a.counter b.counter) (same_layer (model_layer a.layer) (model_layer b.layer))
    (bytes_eq a.base.0 b.base.0) (same_label (model_label a.label) (model_label b.label))
    (nat_eq a.source.0 b.source.0)
    (nat_eq a.control b.control
    && (bytes_eq a.header.items b.header.items && bytes_eq a.content.items b.content.items))

-- Terms with one spelling have one head.

parts_of : (c l b k s r : Bool) → (c && (l && (b && (k && (s && r))))) ≡ true
    → (c ≡ true) × (l ≡ true) × (s ≡ true)
parts_of true true true true true r h = (refl, refl, refl)
parts_of true true true true false r h = cc h
parts_of true true true false s r h = cc h
parts_of true true false k s r h = cc h
parts_of true false b k s r h = cc h
parts_of false l b k s r h = cc h

pub same_head : (a b : Term) → bytes_eq (term_bytes a) (term_bytes b) ≡ true → term_head a ≡ term_head b
same_head a b h =
    let parts = parts_of (nat_eq a.counter b.counter) (same_layer (model_layer a.layer) (model_layer b.layer))
    (bytes_eq a.base.0 b.base.0) (same_label (model_label a.label) (model_label b.label))
    (nat_eq a.source.0 b.source.0)
    (nat_eq a.control b.control
    && (bytes_eq a.header.items b.header.items && bytes_eq a.content.items b.content.items))
    (sym (in_order a b) ∙ h) in
    let counters : a.counter ≡ b.counter = same_number a.counter b.counter parts.0 in
    let layers : layer_number a.layer ≡ layer_number b.layer =
    same_number (layer_number a.layer) (layer_number b.layer) (layer_alike a.layer b.layer ∙ parts.1) in
    let sources : a.source.0 ≡ b.source.0 = same_number a.source.0 b.source.0 parts.2 in
    λ i. (sources i % 16777216 * 256 + layers i) * 4294967296 + (4294967295 - counters i)

-- The first bytes that are kept under a number are added to what was there.

first_kept : (here : Bool) (old : Option (Vec ℕ)) (new : Vec ℕ) (bytes : List ℕ) (others : Bool)
    → (here ≡ true → old ≡ None) → (here ≡ false → bytes_eq bytes new.items ≡ false)
    → (is_kept (cond here (Some new) old) bytes || others)
    ≡ ((is_kept old bytes || others) || bytes_eq bytes new.items)
first_kept true old new bytes others none apart =
    or_swap (bytes_eq bytes new.items) others
    ∙ ap (λ (o : Option (Vec ℕ)). (is_kept o bytes || others) || bytes_eq bytes new.items) (sym (none refl))
first_kept false old new bytes others none apart =
    or_swap false (is_kept old bytes || others)
    ∙ ap (λ (b : Bool). (is_kept old bytes || others) || b) (sym (apart refl))

none_there : {A : Type 0} (o : Option A) → is_some o ≡ false → o ≡ None
none_there None e = refl
none_there (Some x) e = cc e

pub first_added : (old new : ℕ → Option (Vec ℕ)) (head : ℕ) (bytes : Vec ℕ) (h : ℕ) (b : List ℕ) (others : Bool)
    → new h ≡ cond (is_at (nat_cmp head) h) (Some bytes) (old h) → is_some (old head) ≡ false
    → (bytes_eq b bytes.items ≡ true → h ≡ head)
    → (is_kept (new h) b || others) ≡ ((is_kept (old h) b || others) || bytes_eq b bytes.items)
first_added old new head bytes h b others updated none alone =
    ap (λ (k : Option (Vec ℕ)). is_kept k b || others) updated
    ∙ first_kept (is_at (nat_cmp head) h) (old h) bytes b others
    (λ here. ap old (sym (same_number head h (sym (number_so head h) ∙ here))) ∙ none_there (old head) none)
    (λ there. apart (bytes_eq b bytes.items) refl there)
  where
    apart : (same : Bool) → bytes_eq b bytes.items ≡ same → is_at (nat_cmp head) h ≡ false
        → bytes_eq b bytes.items ≡ false
    apart false e there = e
    apart true e there = let yes : is_at (nat_cmp head) h ≡ true =
        number_so head h ∙ (ap (nat_eq head) (alone e) ∙ itself_number head) in
        cc (sym there ∙ yes)

-- If the first bytes with a number are put back, the others get the bytes that were in their place.

as_before : (here : Bool) (first bytes : Vec ℕ) (old mid new : Option (Vec ℕ)) → (here ≡ true → old ≡ Some first)
    → mid ≡ cond here (Some bytes) old → new ≡ cond here (Some first) mid → new ≡ old
as_before true first bytes old mid new was put back = back ∙ sym (was refl)
as_before false first bytes old mid new was put back = back ∙ put

pub nothing_more : (b : Bool) → b ≡ (b || false)
nothing_more true = refl
nothing_more false = refl

pub back_in_place : (old mid new : ℕ → Option (Vec ℕ)) (head : ℕ) (first bytes : Vec ℕ) (h : ℕ) (b : List ℕ)
    (others more : Bool) → old head ≡ Some first
    → mid h ≡ cond (is_at (nat_cmp head) h) (Some bytes) (old h)
    → new h ≡ cond (is_at (nat_cmp head) h) (Some first) (mid h)
    → more ≡ (others || bytes_eq b bytes.items)
    → (is_kept (new h) b || more) ≡ ((is_kept (old h) b || others) || bytes_eq b bytes.items)
back_in_place old mid new head first bytes h b others more was put back added =
    let there : is_at (nat_cmp head) h ≡ true → old h ≡ Some first =
    λ here. ap old (sym (same_number head h (sym (number_so head h) ∙ here))) ∙ was in
    ap (λ (k : Option (Vec ℕ)). is_kept k b || more)
    (as_before (is_at (nat_cmp head) h) first bytes (old h) (mid h) (new h) there put back)
    ∙ (ap (λ (x : Bool). is_kept (old h) b || x) added
    ∙ or_assoc (is_kept (old h) b) others (bytes_eq b bytes.items))

-- After an insertion a set has what it had, and what was inserted, under each test that gives one answer for equal
-- keys.
pub inserted_alike : {K : Type 0} (cmp : K → K → Ordering) (test : K → Bool)
    → ((a b : K) → is_eq (cmp a b) ≡ true → test a ≡ test b)
    → (keys : List K) (key : K) → list_any test (insert_key cmp keys key) ≡ (list_any test keys || test key)
inserted_alike cmp test alike [] key = or_swap (test key) false
inserted_alike cmp test alike (x ∷ xs) key = by (cmp key x) refl (inserted_alike cmp test alike xs key)
  where
    by : (o : Ordering) → cmp key x ≡ o → list_any test (insert_key cmp xs key) ≡ (list_any test xs || test key)
        → list_any test (match_ordering o (key ∷ x ∷ xs) (x ∷ xs) (x ∷ insert_key cmp xs key))
        ≡ ((test x || list_any test xs) || test key)
    by Less e rest = or_swap (test key) (test x || list_any test xs)
    by Equal e rest = or_again (test x) (list_any test xs) ∙ ap (λ (b : Bool). (test x || list_any test xs) || b)
        (sym (alike key x (ap is_eq e)))
    by Greater e rest = ap (λ (r : Bool). test x || r) rest ∙ or_assoc (test x) (list_any test xs) (test key)

pub other_added : (first : Bool) (others new : List (Vec ℕ)) (bytes : Vec ℕ) (b : List ℕ)
    → new ≡ insert_key (λ (x y : Vec ℕ). slice_cmp nat_cmp x.items y.items) others bytes
    → (first || list_any (λ (kept : Vec ℕ). bytes_eq b kept.items) new)
    ≡ ((first || list_any (λ (kept : Vec ℕ). bytes_eq b kept.items) others) || bytes_eq b bytes.items)
other_added first others new bytes b inserted =
    ap (λ (r : Bool). first || r)
    (ap (list_any (λ (kept : Vec ℕ). bytes_eq b kept.items)) inserted
    ∙ inserted_alike (λ (x y : Vec ℕ). slice_cmp nat_cmp x.items y.items)
    (λ (kept : Vec ℕ). bytes_eq b kept.items)
    (λ x y h. ap (bytes_eq b) (same_bytes x.items y.items (sym (bytes_alike x.items y.items) ∙ h)))
    others bytes)
    ∙ or_assoc first (list_any (λ (kept : Vec ℕ). bytes_eq b kept.items) others) (bytes_eq b bytes.items)

-- Pieces that are put at the end of bytes with room for 287.

pub put_then : (old piece new rest last : List ℕ) → (length old + length piece ≤ 287 → new ≡ old ++ piece)
    → (length new + length rest ≤ 287 → last ≡ new ++ rest)
    → length old + length (piece ++ rest) ≤ 287 → last ≡ old ++ (piece ++ rest)
put_then old piece new rest last first second room =
    let lengths : length (piece ++ rest) ≡ length piece + length rest = length-append piece rest in
    let is : new ≡ old ++ piece = first (omega (arith, room, lengths)) in
    let size : length new ≡ length old + length piece = ap length is ∙ length-append old piece in
    second (omega (arith, room, lengths, size)) ∙ (ap (λ (s : List ℕ). s ++ rest) is ∙ append_assoc old piece rest)

have_room : (t : Term) → length t.base.0 ≡ 16 → length t.header.items ≤ 127 → length t.content.items ≤ 127
    → length (term_bytes t) ≤ 287
unfolding term_bytes from_layer from_label from_control
have_room t key header content =
    let base : length (t.base.0 ++ from_label t) ≡ length t.base.0 + length (from_label t) =
    length-append t.base.0 (from_label t) in
    let frames : length (t.header.items ++ t.content.items) ≡ length t.header.items + length t.content.items =
    length-append t.header.items t.content.items in
    let end : length (from_label t)
    ≡ suc (suc
    (suc (suc (suc (suc (suc (suc (suc (suc (suc (length (t.header.items ++ t.content.items)))))))))))) = refl in
    let all : length (term_bytes t) ≡ suc (suc (suc (suc (suc (suc (length (t.base.0 ++ from_label t))))))) = refl in
    omega (arith, key, header, content, base, frames, end, all)

are_all : (t : Term) (counter base source header content : List ℕ) (layer label size : ℕ)
    → counter ≡ low_bytes 3 t.counter → layer ≡ layer_number t.layer → length t.base.0 ≡ 16 → base ≡ t.base.0 → label
    ≡ label_number t.label
    → source ≡ low_bytes 7 t.source.0 → size ≡ length t.header.items → header ≡ t.header.items → content
    ≡ t.content.items
    → counter
    ++ ((layer ∷ 16 ∷ [])
    ++ (base ++ ((label ∷ []) ++ (source ++ ((t.control ∷ size ∷ []) ++ (header ++ content)))))) ≡ term_bytes t
unfolding term_bytes
are_all t counter base source header content layer label size counters same_layers keys bases same_labels sources
    sizes headers contents =
    λ i. counters i
    ++ (same_layers i ∷ sym keys i
    ∷ (bases i ++ (same_labels i ∷ (sources i ++ (t.control ∷ sizes i ∷ (headers i ++ contents i))))))

-- What was put piece by piece is the bytes of the term.
pub all_put : (t : Term) (old counter base source header content last : List ℕ) (layer label size : ℕ)
    → old ≡ [] → counter ≡ low_bytes 3 t.counter → layer ≡ layer_number t.layer → length t.base.0 ≡ 16 → base
    ≡ t.base.0 → label ≡ label_number t.label
    → source ≡ low_bytes 7 t.source.0 → size ≡ length t.header.items → header ≡ t.header.items → content
    ≡ t.content.items
    → length header ≤ 127 → length content ≤ 127
    → (length old + length
    (counter
    ++ ((layer ∷ 16 ∷ [])
    ++ (base ++ ((label ∷ []) ++ (source ++ ((t.control ∷ size ∷ []) ++ (header ++ content))))))) ≤ 287
    → last ≡ old
    ++ (counter
    ++ ((layer ∷ 16 ∷ [])
    ++ (base ++ ((label ∷ []) ++ (source ++ ((t.control ∷ size ∷ []) ++ (header ++ content))))))))
    → last ≡ term_bytes t
all_put t old counter base source header content last layer label size none counters same_layers keys bases
    same_labels sources sizes headers contents short few put =
    let all : counter
    ++ ((layer ∷ 16 ∷ [])
    ++ (base ++ ((label ∷ []) ++ (source ++ ((t.control ∷ size ∷ []) ++ (header ++ content)))))) ≡ term_bytes t =
    are_all t counter base source header content layer label size counters same_layers keys bases same_labels sources
    sizes headers contents in
    let lengths : length
    (counter
    ++ ((layer ∷ 16 ∷ [])
    ++ (base ++ ((label ∷ []) ++ (source ++ ((t.control ∷ size ∷ []) ++ (header ++ content)))))))
    ≡ length (term_bytes t) = ap length all in
    let nothing : length old ≡ 0 = ap length none in
    let header_size : length header ≡ length t.header.items = ap length headers in
    let content_size : length content ≡ length t.content.items = ap length contents in
    put (omega (
      arith,
      lengths,
      nothing,
      have_room t keys (omega (arith, header_size, short))
          (omega (arith, content_size, few)),
    )) ∙
    (ap (λ (s : List ℕ). s
    ++ (counter
    ++ ((layer ∷ 16 ∷ [])
    ++ (base ++ ((label ∷ []) ++ (source ++ ((t.control ∷ size ∷ []) ++ (header ++ content)))))))) none ∙ all)
