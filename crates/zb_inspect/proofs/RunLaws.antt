-- What a list has from a place on, run by run.
use Rattle.std.proofs.Common.{◌≡◌, ℕ, zero, suc, ◌+◌, ◌<◌, ◌≤◌, List, [], ◌∷◌, ◌++◌, length, get_or, take, drop, map, refl, ap, sym, ◌∙◌, arith, length-take, length-drop}
use Rattle.std.proofs.lemmas.List.{get_or-take, get_or-drop, map-append, take-take}
use Rattle.zb_inspect.proofs.PieceLists.{drop_more, take_more}

-- The item at a place, whatever the other items are.
pub any_beside : {A : Type 0} (xs : List A) (i : ℕ) (x y : A) → i < length xs → get_or xs i x ≡ get_or xs i y
any_beside [] i x y within = absurd (omega (arith, within))
any_beside (z ∷ xs) zero x y within = refl
any_beside (z ∷ xs) (suc i) x y within = any_beside xs i x y (omega (arith, within))

-- The first item of a run is the one at its place.
pub at_place : {A : Type 0} (xs run : List A) (place : ℕ) (x y : A) → place < length xs → 0 < length run
    → run ≡ take (length run) (drop place xs) → x ≡ get_or run 0 x → x ≡ get_or xs place y
at_place xs run place x y within some part is =
    is ∙ ap (λ zs. get_or zs 0 x) part ∙ get_or-take (length run) (drop place xs) 0 x some
    ∙ get_or-drop place xs 0 x ∙ ap (λ n. get_or xs n x) (omega arith) ∙ any_beside xs place x y within

-- The item at a place is that of a part of the list.
pub in_part : {A : Type 0} (xs : List A) (from count i : ℕ) (x : A) → i < count → from + count ≤ length xs
    → get_or xs (from + i) x ≡ get_or (take count (drop from xs)) i (get_or xs (from + i) x)
in_part xs from count i x within room =
    any_beside xs (from + i) x (get_or xs (from + i) x) (omega (arith, within, room))
    ∙ sym (get_or-drop from xs i (get_or xs (from + i) x))
    ∙ sym (get_or-take count (drop from xs) i (get_or xs (from + i) x) within)

-- The mapped items of a list from a place on, and then those that follow.
pub more_mapped : {A B : Type 0} (f : A → B) (xs run : List A) (ys new : List B) (from done n : ℕ) → n ≤ length run
    → run ≡ take (length run) (drop (from + done) xs) → ys ≡ map f (take done (drop from xs)) → new ≡ ys
    ++ map f (take n run)
    → new ≡ map f (take (done + n) (drop from xs))
more_mapped f xs run ys new from done n within part so_far is =
    let next : take n run ≡ take n (drop done (drop from xs)) =
    ap (take n) part ∙ take-take n (length run) (drop (from + done) xs) within
    ∙ ap (take n) (sym (drop_more xs from done)) in
    is ∙ ap (λ zs. zs ++ map f (take n run)) so_far ∙ ap (λ zs. map f (take done (drop from xs)) ++ map f zs) next
    ∙ sym (map-append f (take done (drop from xs)) (take n (drop done (drop from xs)))) ∙ ap (map f)
    (take_more (drop from xs) done n)

pub part_count : {A : Type 0} (xs : List A) (from count : ℕ) → from + count ≤ length xs
    → length (take count (drop from xs)) ≡ count
part_count xs from count room = omega (arith, length-take count (drop from xs), length-drop from xs, room)

-- One more item.
pub one_mapped : {A B : Type 0} (f : A → B) (xs : List A) (i : ℕ) (d : A) → i < length xs
    → map f (take (suc i) xs) ≡ map f (take i xs) ++ f (get_or xs i d) ∷ []
one_mapped f [] i d within = absurd (omega (arith, within))
one_mapped f (x ∷ xs) zero d within = refl
one_mapped f (x ∷ xs) (suc i) d within = ap (λ zs. f x ∷ zs) (one_mapped f xs i d (omega (arith, within)))
