-- Link rows that are dropped one after the other, and what may follow.
use Rattle.std.proofs.Common.{◌≡◌, ℕ, List, [], ◌∷◌, ◌++◌, length, map, refl, sym, ap, ◌∙◌, Bool, true, false, not, if◌then◌else◌, ◌&&◌, ◌||◌, Option, Some, None, nat_eq}
use Rattle.std.specs.Prelude.{find, filter, option_to_list}
use Rattle.std.specs.List.{list_any, list_all}
use Rattle.std.proofs.lemmas.Bool.{not-true, eq-eqb, eqb-true}
use Rattle.std.proofs.lemmas.List.{length-map}
use Rattle.zb_model.specs.Data.{Move}
use Rattle.zb_model.specs.State.{LinkKey, NodeState, same_key, is_link, is_live_of, is_unverified, at_link, dropped_link, moved}
use Rattle.zb_model.specs.Fits.{all_apart, same_bool}
use Rattle.zb_model.specs.Rules.{drop_link, drop_row}
use Rattle.law_change_fits.proofs.Tests.{both, neither, never, any_map, any_same, any_from, all_map, apart_filter, or_true, none_where}
use Rattle.law_change_fits.proofs.Parts.{links_alike, kinds_alike, same_key_is, same_key_of}
use Rattle.law_answer_storable.proofs.Lists.{one_left}
use Rattle.law_answer_storable.proofs.Moves.{moves_fit}

-- the rows after some were dropped
abbrev pub dropped_each : List LinkKey → List LinkKey → List LinkKey
dropped_each [] links = links
dropped_each (x ∷ xs) links = dropped_each xs (at_link x.partner x.key dropped_link links)

-- The state after all rows that pass a test were dropped: nothing else changed, and no row passes it any more.
pub record Dropped (q : LinkKey → Bool) (links left : List LinkKey) : Type 0 where
  pub same : (u : LinkKey → Bool) → ((r : LinkKey) → u (dropped_link r) ≡ u r) → list_any u left ≡ list_any u links
  pub gone : (t : LinkKey → Bool) → ((r : LinkKey) → t (dropped_link r) ≡ false)
      → ((r : LinkKey) → q r ≡ false → t r ≡ false) → list_any t left ≡ false
  pub room : length left ≡ length links

same_each : (u : LinkKey → Bool) → ((r : LinkKey) → u (dropped_link r) ≡ u r) → (xs links : List LinkKey)
    → list_any u (dropped_each xs links) ≡ list_any u links
same_each u same [] links = refl
same_each u same (x ∷ xs) links =
    same_each u same xs (at_link x.partner x.key dropped_link links)
    ∙ any_map u (λ (r : LinkKey). if is_link x.partner x.key r then dropped_link r else r) links
    ∙ any_same (λ (r : LinkKey). u (if is_link x.partner x.key r then dropped_link r else r)) u
    (λ r. by_test (is_link x.partner x.key r) r) links
  where
    by_test : (b : Bool) (r : LinkKey) → u (if b then dropped_link r else r) ≡ u r
    by_test true r = same r
    by_test false r = refl

room_each : (xs links : List LinkKey) → length (dropped_each xs links) ≡ length links
room_each [] links = refl
room_each (x ∷ xs) links = room_each xs (at_link x.partner x.key dropped_link links) ∙ length-map links
    (λ (r : LinkKey). if is_link x.partner x.key r then dropped_link r else r)

-- each row that passes is still to be dropped
abbrev marks : List LinkKey → LinkKey → Bool
marks xs r = list_any (λ (x : LinkKey). is_link x.partner x.key r) xs

none_unmarked : (t : LinkKey → Bool) (links : List LinkKey) → list_all (λ (r : LinkKey). not (t r) || false) links
    ≡ true → list_any t links ≡ false
none_unmarked t [] e = refl
none_unmarked t (r ∷ rs) e =
    let parts = both (not (t r) || false) (list_all (λ (x : LinkKey). not (t x) || false) rs) e in
    rw (clear (t r) parts.0) (none_unmarked t rs parts.1)
  where
    clear : (b : Bool) → (not b || false) ≡ true → b ≡ false
    clear true e = absurd (cc)
    clear false e = refl

gone_each : (t : LinkKey → Bool) → ((r : LinkKey) → t (dropped_link r) ≡ false) → (xs links : List LinkKey)
    → list_all (λ (r : LinkKey). not (t r) || marks xs r) links ≡ true → list_any t (dropped_each xs links) ≡ false
gone_each t off [] links e = none_unmarked t links e
gone_each t off (x ∷ xs) links e =
    gone_each t off xs (at_link x.partner x.key dropped_link links)
    (all_map (λ (r : LinkKey). not (t r) || (is_link x.partner x.key r || marks xs r))
    (λ (r : LinkKey). not (t r) || marks xs r) (λ (r : LinkKey). if is_link x.partner x.key r then dropped_link r
    else r)
    (λ r k. by_test (is_link x.partner x.key r) r k) links e)
  where
    by_test : (b : Bool) (r : LinkKey) → (not (t r) || (b || marks xs r)) ≡ true
        → (not (t (if b then dropped_link r else r)) || marks xs (if b then dropped_link r else r)) ≡ true
    by_test true r k = rw (off r) refl
    by_test false r k = k

pub itself : (r : LinkKey) → is_link r.partner r.key r ≡ true
itself r = rw (eq-eqb r.partner r.partner refl, same_key_of r.key r.key refl) refl

-- the rows that pass are marked by those that the filter leaves
all_marked : (q t : LinkKey → Bool) → ((r : LinkKey) → q r ≡ false → t r ≡ false) → (xs zs : List LinkKey)
    → ((f : LinkKey → Bool) → list_any f (filter q xs) ≡ true → list_any f zs ≡ true)
    → list_all (λ (r : LinkKey). not (t r) || marks zs r) xs ≡ true
all_marked q t off [] zs within = refl
all_marked q t off (x ∷ xs) zs within = by_test (q x) refl within (λ w. all_marked q t off xs zs w)
  where
    by_test : (b : Bool) → q x ≡ b
        → ((f : LinkKey → Bool) → list_any f (if b then x ∷ filter q xs else filter q xs) ≡ true → list_any f zs
        ≡ true)
        → (((f : LinkKey → Bool) → list_any f (filter q xs) ≡ true → list_any f zs ≡ true)
        → list_all (λ (r : LinkKey). not (t r) || marks zs r) xs ≡ true)
        → ((not (t x) || marks zs x) && list_all (λ (r : LinkKey). not (t r) || marks zs r) xs) ≡ true
    by_test true e w later =
        let here : marks zs x ≡ true = w (λ (y : LinkKey). is_link y.partner y.key x) (rw (itself x) refl) in
        rw (here, later (λ f k. w f (or_true (f x) (list_any f (filter q xs)) k))) (or_end (not (t x)))
      where
        or_end : (c : Bool) → ((c || true) && true) ≡ true
        or_end true = refl
        or_end false = refl
    by_test false e w later = rw (off x e, later w) refl

pub dropped_all : (q : LinkKey → Bool) (links : List LinkKey) → Dropped q links (dropped_each (filter q links) links)
dropped_all q links = record {
  same = λ u same. same_each u same (filter q links) links;
  gone = λ t off within. gone_each t off (filter q links) links
      (all_marked q t within links (filter q links) (λ f e. e));
  room = room_each (filter q links) links;
}

-- if no row passes, nothing is to be dropped
pub dropped_none : (q : LinkKey → Bool) (links : List LinkKey) → list_any q links ≡ false → Dropped q links links
dropped_none q links none = record {
  same = λ u same. refl;
  gone = λ t off within. none_where q t within links none;
  room = refl;
}

-- Each is live when its turn comes, because no two keys are the same.

abbrev lives : List LinkKey → LinkKey → Bool
lives links x = list_any (λ (r : LinkKey). is_link x.partner x.key r && r.live) links

all_live : (q : LinkKey → Bool) → ((r : LinkKey) → q r ≡ true → r.live ≡ true) → (xs links : List LinkKey)
    → ((f : LinkKey → Bool) → list_any f xs ≡ true → list_any f links ≡ true) → list_all (lives links) (filter q xs)
    ≡ true
all_live q live [] links within = refl
all_live q live (x ∷ xs) links within = by_test (q x) refl within (λ w. all_live q live xs links w)
  where
    by_test : (b : Bool) → q x ≡ b → ((f : LinkKey → Bool) → list_any f (x ∷ xs) ≡ true → list_any f links ≡ true)
        → (((f : LinkKey → Bool) → list_any f xs ≡ true → list_any f links ≡ true)
        → list_all (lives links) (filter q xs) ≡ true)
        → list_all (lives links) (if b then x ∷ filter q xs else filter q xs) ≡ true
    by_test true e w later =
        let here : lives links x ≡ true = w (λ (r : LinkKey). is_link x.partner x.key r && r.live)
        (rw (itself x, live x e) refl) in
        rw here (later (λ f k. w f (or_true (f x) (list_any f xs) k)))
    by_test false e w later = later (λ f k. w f (or_true (f x) (list_any f xs) k))

still_live : (x : LinkKey) (links xs : List LinkKey) → list_any (links_alike x) xs ≡ false → list_all (lives links) xs
    ≡ true → list_all (lives (at_link x.partner x.key dropped_link links)) xs ≡ true
still_live x links [] apart e = refl
still_live x links (y ∷ ys) apart e =
    let other = neither (links_alike x y) (list_any (links_alike x) ys) apart in
    let parts = both (lives links y) (list_all (lives links) ys) e in
    rw (any_map (λ (r : LinkKey). is_link y.partner y.key r && r.live) (λ (r : LinkKey). if is_link x.partner x.key r
    then dropped_link r else r) links
    ∙ any_from (λ (r : LinkKey). is_link y.partner y.key r && r.live)
    (λ (r : LinkKey). is_link y.partner y.key (if is_link x.partner x.key r then dropped_link r else r)
    && (if is_link x.partner x.key r then dropped_link r else r).live)
    (λ r k. by_test (is_link x.partner x.key r) r refl other.0 k) links parts.0)
    (still_live x links ys other.1 parts.1)
  where
    by_test : (b : Bool) (r : LinkKey) → is_link x.partner x.key r ≡ b → links_alike x y ≡ false
        → (is_link y.partner y.key r && r.live) ≡ true
        → (is_link y.partner y.key (if b then dropped_link r else r) && (if b then dropped_link r else r).live) ≡ true
    by_test true r is other k =
        let one = both (nat_eq r.partner x.partner) (same_key r.key x.key) is in
        let two = both (is_link y.partner y.key r) r.live k in
        let three = both (nat_eq r.partner y.partner) (same_key r.key y.key) two.0 in
        never (same_key x.key y.key)
        (same_key_of x.key y.key (sym (same_key_is r.key x.key one.1) ∙ same_key_is r.key y.key three.1)) other
    by_test false r is other k = k

drops_then : (start s : NodeState) (xs : List LinkKey) (rest : List Move) → list_all (lives s.links) xs ≡ true
    → all_apart links_alike xs ≡ true
    → moves_fit start rest (record s { links = dropped_each xs s.links }) ≡ true
    → moves_fit start (map drop_link xs ++ rest) s ≡ true
drops_then start s [] rest live apart fit = fit
drops_then start s (x ∷ xs) rest live apart fit =
    let parts = both (lives s.links x) (list_all (lives s.links) xs) live in
    let alone = both (not (list_any (links_alike x) xs)) (all_apart links_alike xs) apart in
    rw parts.0
    (drops_then start (moved (drop_link x) s) xs rest (still_live x s.links xs (not-true _ alone.0) parts.1)
    alone.1 fit)

-- all rows that pass a test, of live rows alone, are dropped before the rest
pub dropped_then : (start s : NodeState) (q : LinkKey → Bool) → all_apart links_alike s.links ≡ true
    → ((r : LinkKey) → q r ≡ true → r.live ≡ true) → (rest : List Move)
    → ((left : List LinkKey) → Dropped q s.links left → moves_fit start rest (record s { links = left }) ≡ true)
    → moves_fit start (map drop_link (filter q s.links) ++ rest) s ≡ true
dropped_then start s q keys live rest fit =
    drops_then start s (filter q s.links) rest (all_live q live s.links s.links (λ f e. e))
    (apart_filter links_alike q s.links keys)
    (fit (dropped_each (filter q s.links) s.links) (dropped_all q s.links))

-- A partner's current row, or its offered one, is its only one of that kind.
pub kind_alike : (partner : ℕ) (kind : Bool) (x y : LinkKey)
    → (is_live_of partner x && same_bool (is_unverified x.attribute) kind) ≡ true
    → (is_live_of partner y && same_bool (is_unverified y.attribute) kind) ≡ true → kinds_alike x y ≡ true
kind_alike partner kind x y e f =
    let one = both (is_live_of partner x) (same_bool (is_unverified x.attribute) kind) e in
    let two = both (is_live_of partner y) (same_bool (is_unverified y.attribute) kind) f in
    let three = both x.live (nat_eq x.partner partner) one.0 in
    let four = both y.live (nat_eq y.partner partner) two.0 in
    let same : nat_eq x.partner y.partner ≡ true = eq-eqb _ _ (eqb-true _ _ three.1 ∙ sym (eqb-true _ _ four.1)) in
    rw (three.0, four.0, same) (kinds (is_unverified x.attribute) (is_unverified y.attribute) kind one.1 two.1)
  where
    kinds : (a b c : Bool) → same_bool a c ≡ true → same_bool b c ≡ true → same_bool a b ≡ true
    kinds true true c e f = refl
    kinds true false true e f = f
    kinds true false false e f = e
    kinds false true true e f = e
    kinds false true false e f = f
    kinds false false c e f = refl

row_list : (o : Option LinkKey) → drop_row o ≡ map drop_link (option_to_list o)
row_list None = refl
row_list (Some r) = refl

-- the found row of a kind is dropped before the rest
pub row_then : (start s : NodeState) (partner : ℕ) (q : LinkKey → Bool) (kind : Bool)
    → ((r : LinkKey) → q r ≡ true → (is_live_of partner r && same_bool (is_unverified r.attribute) kind) ≡ true)
    → all_apart links_alike s.links ≡ true → all_apart kinds_alike s.links ≡ true → (rest : List Move)
    → ((left : List LinkKey) → Dropped q s.links left → moves_fit start rest (record s { links = left }) ≡ true)
    → moves_fit start (drop_row (find q s.links) ++ rest) s ≡ true
row_then start s partner q kind of_kind keys kinds rest fit =
    ap (λ l. moves_fit start (l ++ rest) s)
    (row_list (find q s.links) ∙ ap (map drop_link)
    (sym (one_left kinds_alike q (λ x y e f. kind_alike partner kind x y (of_kind x e) (of_kind y f)) s.links
    kinds)))
    ∙ dropped_then start s q keys
    (λ r e.
    (both r.live (nat_eq r.partner partner)
    (both (is_live_of partner r) (same_bool (is_unverified r.attribute) kind) (of_kind r e)).0).0) rest fit
