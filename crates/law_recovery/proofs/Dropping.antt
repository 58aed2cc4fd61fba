-- Link rows of which some are dropped, one after the other: which are live then, and which are found.
use Rattle.std.proofs.Common.{◌≡◌, ℕ, suc, Bool, true, false, not, ◌&&◌, ◌||◌, if◌then◌else◌, List, [], ◌∷◌, map, filter, find, fold, length, Some, nat_eq, refl, sym, ap, ◌∙◌, eq-eqb}
use Rattle.std.specs.List.{AllByRecursion, list_any}
use Rattle.std.proofs.lemmas.Bool.{false≢true}
use Rattle.zb_model.specs.Data.{Bytes}
use Rattle.zb_model.specs.Fits.{all_apart}
use Rattle.zb_model.specs.State.{LinkKey, same_key, is_link, has_link, is_live_of, at_link, dropped_link}
use Rattle.law_change_fits.proofs.Parts.{same_key_of}
use Rattle.law_change_fits.proofs.Tests.{any_map, any_same, both, neither, never, or_true}
use Rattle.law_recovery.proofs.Rows.{any_found}
use Rattle.law_recovery.proofs.Once.{map_map, map_same}

pub self : (n : ℕ) → nat_eq n n ≡ true
self n = eq-eqb n n refl

pub self_key : (key : Bytes) → same_key key key ≡ true
self_key key = same_key_of key key refl

-- ---- rows that are dropped

abbrev pub drops : LinkKey → LinkKey → LinkKey
drops x r = if is_link x.partner x.key r then dropped_link r else r

abbrev pub dropped_by : List LinkKey → LinkKey → LinkKey
dropped_by rows r = fold (λ (y : LinkKey) (x : LinkKey). drops x y) r rows

abbrev pub dropped_links : List LinkKey → List LinkKey → List LinkKey
dropped_links rows links =
    fold (λ (l : List LinkKey) (x : LinkKey). at_link x.partner x.key dropped_link l) links rows

pub row_by_row : (rows links : List LinkKey) → dropped_links rows links ≡ map (dropped_by rows) links
row_by_row [] links = sym (map_same links)
row_by_row (x ∷ rows) links =
    row_by_row rows (at_link x.partner x.key dropped_link links) ∙ map_map (dropped_by rows) (drops x) links

-- what a dropped row keeps
pub record Kept (r q : LinkKey) : Type 0 where
  pub partner : q.partner ≡ r.partner
  pub key : q.key ≡ r.key
  pub attribute : q.attribute ≡ r.attribute
  pub floor : q.kept ≡ r.kept
  pub dead : r.live ≡ false → q.live ≡ false

same_row : (r : LinkKey) → Kept r r
same_row r = record { partner = refl; key = refl; attribute = refl; floor = refl; dead = λ e. e }

kept_then : (r q u : LinkKey) → Kept r q → Kept q u → Kept r u
kept_then r q u a b =
    record {
      partner = b.partner ∙ a.partner;
      key = b.key ∙ a.key;
      attribute = b.attribute ∙ a.attribute;
      floor = b.floor ∙ a.floor;
      dead = λ e. b.dead (a.dead e);
    }

kept_if : (r : LinkKey) (b : Bool) → Kept r (if b then dropped_link r else r)
kept_if r true = record { partner = refl; key = refl; attribute = refl; floor = refl; dead = λ e. refl }
kept_if r false = same_row r

pub kept_by : (rows : List LinkKey) (r : LinkKey) → Kept r (dropped_by rows r)
kept_by [] r = same_row r
kept_by (x ∷ rows) r = kept_then r (drops x r) (dropped_by rows (drops x r)) (kept_if r (is_link x.partner x.key r))
    (kept_by rows (drops x r))

-- a row of which one with its partner and key is dropped isn't live
abbrev pub names_it : LinkKey → LinkKey → Bool
names_it r x = is_link x.partner x.key r

pub dead_by : (rows : List LinkKey) (r : LinkKey) → list_any (names_it r) rows ≡ true → (dropped_by rows r).live
    ≡ false
dead_by [] r e = absurd (false≢true e)
dead_by (x ∷ rows) r e =
    by_test (is_link x.partner x.key r) e (λ f. dead_by rows r f)
  where
    by_test : (b : Bool) → (b || list_any (names_it r) rows) ≡ true
        → (list_any (names_it r) rows ≡ true → (dropped_by rows r).live ≡ false)
        → (dropped_by rows (if b then dropped_link r else r)).live ≡ false
    by_test true e f = (kept_by rows (dropped_link r)).dead refl
    by_test false e f = f e

-- a row of which none with its partner and key is dropped stays as it is
pub left_by : (rows : List LinkKey) (r : LinkKey) → list_any (names_it r) rows ≡ false → dropped_by rows r ≡ r
left_by [] r e = refl
left_by (x ∷ rows) r e = by_test (is_link x.partner x.key r) e (λ f. left_by rows r f)
  where
    by_test : (b : Bool) → (b || list_any (names_it r) rows) ≡ false
        → (list_any (names_it r) rows ≡ false → dropped_by rows r ≡ r)
        → dropped_by rows (if b then dropped_link r else r) ≡ r
    by_test true e f = absurd (false≢true (sym e))
    by_test false e f = f e

-- ---- each row that passes a test is among those that are dropped

names_self : (r : LinkKey) → names_it r r ≡ true
names_self r = rw (self r.partner, self_key r.key) refl

weaker : (f g : LinkKey → Bool) (x : LinkKey) (xs ys : List LinkKey)
    → AllByRecursion (λ r. f r ≡ true → list_any (names_it r) xs ≡ true) ys
    → AllByRecursion (λ r. f r ≡ true → list_any (names_it r) (x ∷ xs) ≡ true) ys
weaker f g x xs [] all = tt
weaker f g x xs (r ∷ ys) all =
    (λ e. or_true (names_it r x) (list_any (names_it r) xs) (all.0 e), weaker f g x xs ys all.1)

pub all_named : (f : LinkKey → Bool) (xs : List LinkKey)
    → AllByRecursion (λ r. f r ≡ true → list_any (names_it r) (filter f xs) ≡ true) xs
all_named f [] = tt
all_named f (x ∷ xs) = by_test (f x) refl (all_named f xs)
  where
    by_test : (b : Bool) → f x ≡ b → AllByRecursion (λ r. f r ≡ true → list_any (names_it r) (filter f xs) ≡ true) xs
        → (f x ≡ true → list_any (names_it x) (if b then x ∷ filter f xs else filter f xs) ≡ true)
        × AllByRecursion (λ r. f r ≡ true → list_any (names_it r) (if b then x ∷ filter f xs else filter f xs) ≡ true)
        xs
    by_test true e all = (λ g. rw (names_self x) refl, weaker f f x (filter f xs) xs all)
    by_test false e all = (λ g. never (f x) g e, all)

-- if no row of a partner is live, none is live after each row is changed
pub none_of : {X : Type 0} (test : X → Bool) (f : X → X) (xs : List X)
    → AllByRecursion (λ x. test (f x) ≡ false) xs → list_any test (map f xs) ≡ false
none_of test f [] all = refl
none_of test f (x ∷ xs) all = rw all.0 (none_of test f xs all.1)

pub all_by : {X : Type 0} (P Q : X → Type 0) → ((x : X) → P x → Q x) → (xs : List X) → AllByRecursion P xs
    → AllByRecursion Q xs
all_by P Q each [] all = tt
all_by P Q each (x ∷ xs) all = (each x all.0, all_by P Q each xs all.1)

not_live : (p : ℕ) (r : LinkKey) → r.live ≡ false → is_live_of p r ≡ false
not_live p r e = rw e refl

-- a row that isn't live of a partner isn't afterwards
pub still_not : (p : ℕ) (r q : LinkKey) → Kept r q → is_live_of p r ≡ false → is_live_of p q ≡ false
still_not p r q k e = by_live q.live refl
  where
    by_live : (b : Bool) → q.live ≡ b → (b && nat_eq q.partner p) ≡ false
    by_live false f = refl
    by_live true f =
        let alive : r.live ≡ true = by_old r.live refl f in
        ap (λ n. nat_eq n p) k.partner ∙ ap (λ b. b && nat_eq r.partner p) (sym alive) ∙ e
      where
        by_old : (b : Bool) → r.live ≡ b → q.live ≡ true → b ≡ true
        by_old true g h = refl
        by_old false g h = never q.live h (k.dead g)

pub dropped_not : (p : ℕ) (rows : List LinkKey) (r : LinkKey)
    → (is_live_of p r ≡ true → list_any (names_it r) rows ≡ true) → is_live_of p (dropped_by rows r) ≡ false
dropped_not p rows r among = by_test (is_live_of p r) refl
  where
    by_test : (b : Bool) → is_live_of p r ≡ b → is_live_of p (dropped_by rows r) ≡ false
    by_test true e = not_live p (dropped_by rows r) (dead_by rows r (among e))
    by_test false e = still_not p r (dropped_by rows r) (kept_by rows r) e

-- when all live rows of a partner are dropped, none is live
pub none_live : (p : ℕ) (links : List LinkKey)
    → list_any (is_live_of p) (dropped_links (filter (is_live_of p) links) links) ≡ false
none_live p links =
    let rows = filter (is_live_of p) links in
    ap (list_any (is_live_of p)) (row_by_row rows links)
    ∙ none_of (is_live_of p) (dropped_by rows) links
    (all_by (λ r. is_live_of p r ≡ true → list_any (names_it r) rows ≡ true)
    (λ r. is_live_of p (dropped_by rows r) ≡ false) (λ r among. dropped_not p rows r among) links
    (all_named (is_live_of p) links))

-- ---- what is found of keys and partners stays

pub same_has : (p : ℕ) (key : Bytes) (rows links : List LinkKey) → has_link p key (dropped_links rows links)
    ≡ has_link p key links
same_has p key rows links =
    ap (list_any (is_link p key)) (row_by_row rows links)
    ∙ any_map (is_link p key) (dropped_by rows) links
    ∙ any_same (λ r. is_link p key (dropped_by rows r)) (is_link p key)
    (λ r. let k = kept_by rows r in
    ap (λ n. nat_eq n p && same_key (dropped_by rows r).key key) k.partner
    ∙ ap (λ y. nat_eq r.partner p && same_key y key) k.key) links

map_length : {X : Type 0} (f : X → X) (xs : List X) → length (map f xs) ≡ length xs
map_length f [] = refl
map_length f (x ∷ xs) = ap suc (map_length f xs)

pub same_length : (rows links : List LinkKey) → length (dropped_links rows links) ≡ length links
same_length rows links = ap (length {A = LinkKey}) (row_by_row rows links) ∙ map_length (dropped_by rows) links

-- ---- the one row with a key

-- If any two that pass a test are alike, and no two items are alike, all that pass are the one that another test
-- finds.
none_passes : {X : Type 0} (alike : X → X → Bool) (q : X → Bool)
    → ((x y : X) → q x ≡ true → q y ≡ true → alike x y ≡ true) → (row x : X) (xs : List X) → q x ≡ true
    → list_any (alike x) xs ≡ false → AllByRecursion (λ y. q y ≡ true → y ≡ row) xs
none_passes alike q each row x [] e apart = tt
none_passes alike q each row x (y ∷ ys) e apart =
    let parts = neither (alike x y) (list_any (alike x) ys) apart in
    (λ g. never (alike x y) (each x y e g) parts.0, none_passes alike q each row x ys e parts.1)

pub only_one : {X : Type 0} (alike : X → X → Bool) (q test : X → Bool)
    → ((x y : X) → q x ≡ true → q y ≡ true → alike x y ≡ true) → (row : X) → q row ≡ true → (xs : List X)
    → all_apart alike xs ≡ true → find test xs ≡ Some row → AllByRecursion (λ y. q y ≡ true → y ≡ row) xs
only_one alike q test each row is [] apart e = tt
only_one {X} alike q test each row is (x ∷ xs) apart e =
    let parts = both (not (list_any (alike x) xs)) (all_apart alike xs) apart in
    by_test (test x) e (alone (list_any (alike x) xs) parts.0) (λ f. only_one alike q test each row is xs parts.1 f)
  where
    alone : (b : Bool) → not b ≡ true → b ≡ false
    alone true e = absurd (false≢true e)
    alone false e = refl

    by_test : (b : Bool) → (if b then Some x else find test xs) ≡ Some row → list_any (alike x) xs ≡ false
        → (find test xs ≡ Some row → AllByRecursion (λ y. q y ≡ true → y ≡ row) xs)
        → (q x ≡ true → x ≡ row) × AllByRecursion (λ y. q y ≡ true → y ≡ row) xs
    by_test true f none later = (λ g. same f, all_later)
      where
        same : Some x ≡ Some row → x ≡ row
        same d = cc

        here : q x ≡ true
        here = ap q (same f) ∙ is

        all_later : AllByRecursion (λ y. q y ≡ true → y ≡ row) xs
        all_later = none_passes alike q each row x xs here none
    by_test false f none later =
        (λ g. never (list_any (alike x) xs) (any_found test (alike x) xs row f (each x row g is)) none, later f)
