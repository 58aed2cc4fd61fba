-- Numbers of a list, each once; and rows that are found, in lists of which each row is changed.
use Rattle.std.proofs.Common.{◌≡◌, ℕ, ◌+◌, Bool, true, false, cond, not, ◌||◌, if◌then◌else◌, List, [], ◌∷◌, map, filter, length, reverse, Some, option_map, find, nat_eq, refl, sym, ap, ◌∙◌, eq-eqb, eqb-true, arith}
use Rattle.std.specs.List.{list_any}
use Rattle.std.proofs.lemmas.Bool.{both_ways}
use mathlib.Core.List.{reverse_aux}
use Rattle.law_recovery.specs.Rollovers.{each_once}

-- ---- tests

pub by_bool : (P : Bool → Type 0) (b : Bool) → (b ≡ true → P true) → (b ≡ false → P false) → P b
by_bool P true t f = t refl
by_bool P false t f = f refl

swapped : (a b : ℕ) → nat_eq a b ≡ nat_eq b a
swapped a b = by_bool (λ t. nat_eq a b ≡ t → nat_eq b a ≡ t → nat_eq a b ≡ nat_eq b a) (nat_eq a b)
    (λ e p q. p ∙ sym q) (λ e p q. p ∙ sym q) refl (other (nat_eq a b) refl)
  where
    other : (t : Bool) → nat_eq a b ≡ t → nat_eq b a ≡ t
    other true e = eq-eqb b a (sym (eqb-true a b e))
    other false e = by_bool (λ t. nat_eq b a ≡ t → t ≡ false) (nat_eq b a)
        (λ f g. absurd (both_ways (nat_eq a b) e (eq-eqb a b (sym (eqb-true b a g))))) (λ f g. refl) refl

-- ---- each once

abbrev Others : ℕ → List ℕ → List ℕ
Others d ns = filter (λ n. not (nat_eq n d)) ns

-- a number that isn't left out is among the others if it is among all
among_others : (d n : ℕ) (ns : List ℕ) → nat_eq n d ≡ false → list_any (nat_eq n) (Others d ns)
    ≡ list_any (nat_eq n) ns
among_others d n [] e = refl
among_others d n (m ∷ ns) e = by_test (nat_eq m d) refl (among_others d n ns e)
  where
    by_test : (b : Bool) → nat_eq m d ≡ b → list_any (nat_eq n) (Others d ns) ≡ list_any (nat_eq n) ns
        → list_any (nat_eq n) (cond (not b) (m ∷ Others d ns) (Others d ns)) ≡ (nat_eq n m || list_any (nat_eq n) ns)
    by_test true f h =
        let apart : nat_eq n m ≡ false = by_bool (λ t. nat_eq n m ≡ t → t ≡ false) (nat_eq n m)
        (λ x g. absurd (both_ways (nat_eq n d) e (eq-eqb n d (eqb-true n m g ∙ eqb-true m d f)))) (λ x g. refl)
        refl in
        h ∙ rw apart refl
    by_test false f h = ap (λ b. nat_eq n m || b) h

-- leaving out a number, and then keeping each once, gives each once without that number
pub others_once : (d : ℕ) (ns : List ℕ) → each_once (Others d ns) ≡ Others d (each_once ns)
unfolding each_once
others_once d [] = refl
others_once d (n ∷ ns) = by_test (nat_eq n d) refl (others_once d ns)
  where
    kept : (b : Bool) → nat_eq n d ≡ false → (if b then Others d (each_once ns) else n ∷ Others d (each_once ns))
        ≡ Others d (if b then each_once ns else n ∷ each_once ns)
    kept true e = refl
    kept false e = rw e refl

    left_out : (b : Bool) → nat_eq n d ≡ true → Others d (each_once ns)
        ≡ Others d (if b then each_once ns else n ∷ each_once ns)
    left_out true e = refl
    left_out false e = rw e refl

    by_test : (b : Bool) → nat_eq n d ≡ b → each_once (Others d ns) ≡ Others d (each_once ns)
        → each_once (cond (not b) (n ∷ Others d ns) (Others d ns))
        ≡ Others d (if list_any (nat_eq n) ns then each_once ns else n ∷ each_once ns)
    by_test true e h = h ∙ left_out (list_any (nat_eq n) ns) e
    by_test false e h = rw (among_others d n ns e, h) (kept (list_any (nat_eq n) ns) e)

abbrev worth : Bool → ℕ
worth b = if b then 1 else 0

-- a number that is among them is counted once
pub once_less : (d : ℕ) (ns : List ℕ) → length (each_once (Others d ns)) + worth (list_any (nat_eq d) ns)
    ≡ length (each_once ns)
unfolding each_once
once_less d [] = refl
once_less d (n ∷ ns) = by_test (nat_eq n d) refl (once_less d ns)
  where
    same : (b : Bool) → length (each_once (Others d ns)) + worth b ≡ length (each_once ns) → list_any (nat_eq n) ns
        ≡ b → length (each_once (Others d ns)) + 1 ≡ length (if b then each_once ns else n ∷ each_once ns)
    same true h e = h
    same false h e = omega (arith, h)

    other : (b : Bool) → length (each_once (Others d ns)) + worth (list_any (nat_eq d) ns) ≡ length (each_once ns)
        → length (if b then each_once (Others d ns) else n ∷ each_once (Others d ns)) + worth (list_any (nat_eq d) ns)
        ≡ length (if b then each_once ns else n ∷ each_once ns)
    other true h = h
    other false h = omega (arith, h)

    by_test : (b : Bool) → nat_eq n d ≡ b → length (each_once (Others d ns)) + worth (list_any (nat_eq d) ns)
        ≡ length (each_once ns)
        → length (each_once (cond (not b) (n ∷ Others d ns) (Others d ns))) + worth
        (nat_eq d n || list_any (nat_eq d) ns) ≡ length (if list_any (nat_eq n) ns then each_once ns
        else n ∷ each_once ns)
    by_test true e h =
        let is : d ≡ n = sym (eqb-true n d e) in
        let here : list_any (nat_eq n) ns ≡ list_any (nat_eq d) ns = ap (λ k. list_any (nat_eq k) ns) (sym is) in
        rw (eq-eqb d n is) (same (list_any (nat_eq n) ns) (rw here h) refl)
    by_test false e h = rw (swapped d n, e, among_others d n ns e) (other (list_any (nat_eq n) ns) h)

pub none_once : (ns : List ℕ) → length (each_once ns) ≡ 0 → ns ≡ []
unfolding each_once
none_once [] e = refl
none_once (n ∷ ns) e = by_test (list_any (nat_eq n) ns) refl e (none_once ns)
  where
    by_test : (b : Bool) → list_any (nat_eq n) ns ≡ b → length (if b then each_once ns else n ∷ each_once ns) ≡ 0
        → (length (each_once ns) ≡ 0 → ns ≡ []) → n ∷ ns ≡ []
    by_test true f e h = absurd (both_ways (list_any (nat_eq n) ns) (rw (h e) refl) f)
    by_test false f e h = absurd (omega (arith, e))

-- ---- rows

pub map_map : {X : Type 0} (f g : X → X) (xs : List X) → map f (map g xs) ≡ map (λ x. f (g x)) xs
map_map f g [] = refl
map_map f g (x ∷ xs) = ap (λ l. f (g x) ∷ l) (map_map f g xs)

pub map_same : {X : Type 0} (xs : List X) → map (λ x. x) xs ≡ xs
map_same [] = refl
map_same (x ∷ xs) = ap (λ l. x ∷ l) (map_same xs)

pub find_map : {X : Type 0} (test : X → Bool) (f : X → X) → ((x : X) → test (f x) ≡ test x) → (xs : List X)
    → find test (map f xs) ≡ option_map f (find test xs)
find_map test f same [] = refl
find_map {X} test f same (x ∷ xs) = ap (λ b. if b then Some (f x) else find test (map f xs)) (same x) ∙ by_test
    (test x) (find_map test f same xs)
  where
    by_test : (b : Bool) → find test (map f xs) ≡ option_map f (find test xs)
        → (if b then Some (f x) else find test (map f xs)) ≡ option_map f (if b then Some x else find test xs)
    by_test true e = refl
    by_test false e = e

turned_map : {X : Type 0} (f : X → X) (xs ys : List X) → reverse_aux (map f xs) (map f ys) ≡ map f (reverse_aux xs ys)
turned_map f [] ys = refl
turned_map f (x ∷ xs) ys = turned_map f xs (x ∷ ys)

pub reverse_map : {X : Type 0} (f : X → X) (xs : List X) → reverse (map f xs) ≡ map f (reverse xs)
reverse_map f xs = turned_map f xs []
