-- Tests of lists: what is true of their answers when a list grows, shrinks or is changed item by item.
use Rattle.std.proofs.Common.{◌≡◌, ◌≤◌, List, [], ◌∷◌, ◌++◌, length, map, refl, sym, ap, ◌∙◌, arith, Bool, true, false, not, if◌then◌else◌, ◌&&◌, ◌||◌}
use Rattle.std.specs.Prelude.{filter}
use Rattle.std.specs.List.{list_any, list_all}
use Rattle.std.proofs.lemmas.Bool.{not-true}
use Rattle.std.proofs.lemmas.List.Folds.{list_any-append}
use Rattle.zb_model.specs.Fits.{all_apart}

pub both : (a b : Bool) → (a && b) ≡ true → (a ≡ true) × (b ≡ true)
both true b e = (refl, e)
both false b e = absurd (cc)

pub neither : (a b : Bool) → (a || b) ≡ false → (a ≡ false) × (b ≡ false)
neither true b e = absurd (cc)
neither false b e = (refl, e)

pub same_both : (a b : Bool) → (a ≡ true → b ≡ true) → (b ≡ true → a ≡ true) → a ≡ b
same_both true true f g = refl
same_both true false f g = sym (f refl)
same_both false true f g = g refl
same_both false false f g = refl

pub never : {X : Type 0} (b : Bool) → b ≡ true → b ≡ false → X
never true e f = absurd (cc)
never false e f = absurd (cc)

pub all_from : {X : Type 0} (p q : X → Bool) → ((x : X) → p x ≡ true → q x ≡ true) → (xs : List X) → list_all p xs
    ≡ true → list_all q xs ≡ true
all_from p q each [] e = refl
all_from p q each (x ∷ xs) e =
    let parts = both (p x) (list_all p xs) e in
    rw (each x parts.0) (all_from p q each xs parts.1)

pub all_map : {X Y : Type 0} (p : X → Bool) (q : Y → Bool) (g : X → Y) → ((x : X) → p x ≡ true → q (g x) ≡ true)
    → (xs : List X) → list_all p xs ≡ true → list_all q (map g xs) ≡ true
all_map p q g each [] e = refl
all_map p q g each (x ∷ xs) e =
    let parts = both (p x) (list_all p xs) e in
    rw (each x parts.0) (all_map p q g each xs parts.1)

pub all_filter : {X : Type 0} (p q : X → Bool) (xs : List X) → list_all p xs ≡ true → list_all p (filter q xs) ≡ true
all_filter p q [] e = refl
all_filter p q (x ∷ xs) e =
    let parts = both (p x) (list_all p xs) e in
    at_test (q x) parts.0 (all_filter p q xs parts.1)
  where
    at_test : (b : Bool) → p x ≡ true → list_all p (filter q xs) ≡ true
        → list_all p (if b then x ∷ filter q xs else filter q xs) ≡ true
    at_test true here later = rw here later
    at_test false here later = later

pub or_true : (a b : Bool) → b ≡ true → (a || b) ≡ true
or_true true b e = refl
or_true false b e = e

pub any_from : {X : Type 0} (p q : X → Bool) → ((x : X) → p x ≡ true → q x ≡ true) → (xs : List X) → list_any p xs
    ≡ true → list_any q xs ≡ true
any_from p q each [] e = absurd (cc)
any_from p q each (x ∷ xs) e = at_test (p x) refl e (λ k. any_from p q each xs k)
  where
    at_test : (b : Bool) → p x ≡ b → (b || list_any p xs) ≡ true → (list_any p xs ≡ true → list_any q xs ≡ true)
        → (q x || list_any q xs) ≡ true
    at_test true is e later = rw (each x is) refl
    at_test false is e later = or_true (q x) (list_any q xs) (later e)

pub none_where : {X : Type 0} (p q : X → Bool) → ((x : X) → p x ≡ false → q x ≡ false) → (xs : List X) → list_any p xs
    ≡ false → list_any q xs ≡ false
none_where p q each [] e = refl
none_where p q each (x ∷ xs) e =
    let parts = neither (p x) (list_any p xs) e in
    rw (each x parts.0) (none_where p q each xs parts.1)

-- the same of two tests
pub none_both : {X : Type 0} (p q t : X → Bool) → ((x : X) → p x ≡ false → q x ≡ false → t x ≡ false) → (xs : List X)
    → list_any p xs ≡ false → list_any q xs ≡ false → list_any t xs ≡ false
none_both p q t each [] a b = refl
none_both p q t each (x ∷ xs) a b =
    let one = neither (p x) (list_any p xs) a in
    let two = neither (q x) (list_any q xs) b in
    rw (each x one.0 two.0) (none_both p q t each xs one.1 two.1)

pub any_same : {X : Type 0} (p q : X → Bool) → ((x : X) → p x ≡ q x) → (xs : List X) → list_any p xs ≡ list_any q xs
any_same p q each [] = refl
any_same p q each (x ∷ xs) = ap (λ b. b || list_any p xs) (each x) ∙ ap (λ b. q x || b) (any_same p q each xs)

pub any_map : {X Y : Type 0} (p : Y → Bool) (g : X → Y) (xs : List X) → list_any p (map g xs)
    ≡ list_any (λ x. p (g x)) xs
any_map p g [] = refl
any_map p g (x ∷ xs) = ap (λ b. p (g x) || b) (any_map p g xs)

-- what one item has and all have
pub any_all : {X : Type 0} {C : Type 0} (p q : X → Bool) → ((x : X) → p x ≡ true → q x ≡ true → C) → (xs : List X)
    → list_any p xs ≡ true → list_all q xs ≡ true → C
any_all p q each [] some all = absurd (cc)
any_all {X} {C} p q each (x ∷ xs) some all = at_test (p x) refl some (both (q x) (list_all q xs) all)
    (λ e f. any_all p q each xs e f)
  where
    at_test : (b : Bool) → p x ≡ b → (b || list_any p xs) ≡ true → (q x ≡ true) × (list_all q xs ≡ true)
        → (list_any p xs ≡ true → list_all q xs ≡ true → C) → C
    at_test true is e parts later = each x is parts.0
    at_test false is e parts later = later e parts.1

-- fewer items pass after a change that makes none pass
pub fewer : {X Y : Type 0} (p : X → Bool) (q : Y → Bool) (g : X → Y) → ((x : X) → q (g x) ≡ true → p x ≡ true)
    → (xs : List X) → length (filter q (map g xs)) ≤ length (filter p xs)
fewer p q g each [] = omega arith
fewer {X} {Y} p q g each (x ∷ xs) = at_test (q (g x)) (p x) refl refl (fewer p q g each xs)
  where
    at_test : (b c : Bool) → q (g x) ≡ b → p x ≡ c → length (filter q (map g xs)) ≤ length (filter p xs)
        → length (if b then g x ∷ filter q (map g xs) else filter q (map g xs))
        ≤ length (if c then x ∷ filter p xs else filter p xs)
    at_test true true eb ec le = omega (arith, le)
    at_test true false eb ec le = never (p x) (each x eb) ec
    at_test false true eb ec le = omega (arith, le)
    at_test false false eb ec le = le

pub filter_shorter : {X : Type 0} (q : X → Bool) (xs : List X) → length (filter q xs) ≤ length xs
filter_shorter q [] = omega arith
filter_shorter q (x ∷ xs) = at_test (q x) (filter_shorter q xs)
  where
    at_test : (b : Bool) → length (filter q xs) ≤ length xs → length (if b then x ∷ filter q xs else filter q xs)
        ≤ length (x ∷ xs)
    at_test true le = omega (arith, le)
    at_test false le = omega (arith, le)

-- items that differ

-- one more item at the end
pub apart_snoc : {X : Type 0} (alike : X → X → Bool) (xs : List X) (x : X) → all_apart alike (xs ++ x ∷ [])
    ≡ (all_apart alike xs && not (list_any (λ y. alike y x) xs))
apart_snoc alike [] x = refl
apart_snoc alike (y ∷ ys) x =
    ap (λ b. not b && all_apart alike (ys ++ x ∷ [])) (list_any-append (alike y) ys (x ∷ []))
    ∙ ap (λ b. not (list_any (alike y) ys || (alike y x || false)) && b) (apart_snoc alike ys x)
    ∙ shuffle (list_any (alike y) ys) (alike y x) (all_apart alike ys) (list_any (λ z. alike z x) ys)
  where
    shuffle : (a b c d : Bool) → (not (a || (b || false)) && (c && not d)) ≡ ((not a && c) && not (b || d))
    shuffle true b c d = refl
    shuffle false true true d = refl
    shuffle false true false d = refl
    shuffle false false c d = refl

-- a change of each item after which two are alike only if they were before, if their keys agree, or if one is marked
none_from : {X Y : Type 0} (p q r : X → Bool) (t : Y → Bool) (g : X → Y)
    → ((y : X) → p y ≡ false → q y ≡ false → r y ≡ false → t (g y) ≡ false)
    → (xs : List X) → list_any p xs ≡ false → list_any q xs ≡ false → list_any r xs ≡ false → list_any t (map g xs)
    ≡ false
none_from p q r t g each [] a b c = refl
none_from p q r t g each (x ∷ xs) a b c =
    let one = neither (p x) (list_any p xs) a in
    let two = neither (q x) (list_any q xs) b in
    let three = neither (r x) (list_any r xs) c in
    rw (each x one.0 two.0 three.0) (none_from p q r t g each xs one.1 two.1 three.1)

pub apart_from : {X Y : Type 0} (alike keyed : X → X → Bool) (new : Y → Y → Bool) (marked : X → Bool) (g : X → Y)
    → ((x y : X) → alike x y ≡ false → keyed x y ≡ false → marked x ≡ false → marked y ≡ false → new (g x) (g y)
    ≡ false)
    → (xs : List X) → all_apart alike xs ≡ true → all_apart keyed xs ≡ true → list_any marked xs ≡ false
    → all_apart new (map g xs) ≡ true
apart_from alike keyed new marked g each [] a k m = refl
apart_from alike keyed new marked g each (x ∷ xs) a k m =
    let one = both (not (list_any (alike x) xs)) (all_apart alike xs) a in
    let two = both (not (list_any (keyed x) xs)) (all_apart keyed xs) k in
    let three = neither (marked x) (list_any marked xs) m in
    let none : list_any (new (g x)) (map g xs) ≡ false =
    none_from (alike x) (keyed x) marked (new (g x)) g (λ y p q r. each x y p q three.0 r) xs (not-true _ one.0)
    (not-true _ two.0) three.1 in
    rw none (apart_from alike keyed new marked g each xs one.1 two.1 three.1)

-- a change of each item after which two are alike only if they were before
pub apart_map : {X Y : Type 0} (alike : X → X → Bool) (new : Y → Y → Bool) (g : X → Y)
    → ((x y : X) → alike x y ≡ false → new (g x) (g y) ≡ false)
    → (xs : List X) → all_apart alike xs ≡ true → all_apart new (map g xs) ≡ true
apart_map alike new g each xs a = apart_from alike alike new (λ x. false) g (λ x y p q r t. each x y p) xs a a
    (none_false xs)
  where
    none_false : {X : Type 0} (ys : List X) → list_any (λ (x : X). false) ys ≡ false
    none_false [] = refl
    none_false (y ∷ ys) = none_false ys

-- items that are changed, and then compared
pub apart_seen : {X Y : Type 0} (alike : Y → Y → Bool) (g : X → Y) (xs : List X) → all_apart alike (map g xs)
    ≡ all_apart (λ (a b : X). alike (g a) (g b)) xs
apart_seen alike g [] = refl
apart_seen alike g (x ∷ xs) =
    ap (λ b. not b && all_apart alike (map g xs)) (any_map (alike (g x)) g xs) ∙ ap
    (λ b. not (list_any (λ y. alike (g x) (g y)) xs) && b) (apart_seen alike g xs)

none_filter : {X : Type 0} (p q : X → Bool) (xs : List X) → list_any p xs ≡ false → list_any p (filter q xs) ≡ false
none_filter p q [] e = refl
none_filter p q (x ∷ xs) e =
    let parts = neither (p x) (list_any p xs) e in
    at_test (q x) parts.0 (none_filter p q xs parts.1)
  where
    at_test : (b : Bool) → p x ≡ false → list_any p (filter q xs) ≡ false
        → list_any p (if b then x ∷ filter q xs else filter q xs) ≡ false
    at_test true here later = rw here later
    at_test false here later = later

pub apart_filter : {X : Type 0} (alike : X → X → Bool) (q : X → Bool) (xs : List X) → all_apart alike xs ≡ true
    → all_apart alike (filter q xs) ≡ true
apart_filter alike q [] a = refl
apart_filter alike q (x ∷ xs) a =
    let parts = both (not (list_any (alike x) xs)) (all_apart alike xs) a in
    at_test (q x) (none_filter (alike x) q xs (not-true _ parts.0)) (apart_filter alike q xs parts.1)
  where
    at_test : (b : Bool) → list_any (alike x) (filter q xs) ≡ false → all_apart alike (filter q xs) ≡ true
        → all_apart alike (if b then x ∷ filter q xs else filter q xs) ≡ true
    at_test true here later = rw here later
    at_test false here later = later

-- two items that are alike both ways, wherever they are, are not apart
pub not_apart : {X : Type 0} (alike : X → X → Bool) (p q : X → Bool)
    → ((x y : X) → p x ≡ true → q y ≡ true → alike x y ≡ true)
    → ((x y : X) → p x ≡ true → q y ≡ true → alike y x ≡ true)
    → ((x : X) → p x ≡ true → q x ≡ true → ⊥) → (xs : List X) → list_any p xs ≡ true → list_any q xs ≡ true
    → all_apart alike xs ≡ true → ⊥
not_apart alike p q one other apart [] some more a = absurd (cc)
not_apart {X} alike p q one other apart (x ∷ xs) some more a =
    let parts = both (not (list_any (alike x) xs)) (all_apart alike xs) a in
    at_tests (p x) (q x) refl refl some more (not-true _ parts.0)
    (λ e f. not_apart alike p q one other apart xs e f parts.1)
  where
    at_tests : (b c : Bool) → p x ≡ b → q x ≡ c → (b || list_any p xs) ≡ true → (c || list_any q xs) ≡ true
        → list_any (alike x) xs ≡ false → (list_any p xs ≡ true → list_any q xs ≡ true → ⊥) → ⊥
    at_tests true true px qx some more none later = apart x px qx
    at_tests true false px qx some more none later =
        never (list_any (alike x) xs) (any_from q (alike x) (λ y e. one x y px e) xs more) none
    at_tests false true px qx some more none later =
        never (list_any (alike x) xs) (any_from p (alike x) (λ y e. other y x e qx) xs some) none
    at_tests false false px qx some more none later = later some more
