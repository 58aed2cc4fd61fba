-- Lists whose first items are mapped.
use Rattle.std.proofs.Common.{◌≡◌, ℕ, zero, suc, ◌+◌, ◌<◌, ◌≤◌, List, [], ◌∷◌, ◌++◌, length, get_or, take, drop, map, refl, ap, sym, ◌∙◌, subst, arith, add-one, append_assoc, append-nil, Result, Ok, Err, IfOk}
use Rattle.std.specs.List.{AllZip, AllByRecursion, flat_map}
use Rattle.std.specs.Prelude.{slice_set}
use Rattle.std.proofs.lemmas.List.{length-map}

-- One more item is mapped by f instead of g.
set_next : {A B : Type 0} (f g : A → B) (xs : List A) (i : ℕ) (x : A) → i < length xs → x ≡ get_or xs i x
    → slice_set (map f (take i xs) ++ map g (drop i xs)) i (f x) ≡ map f (take (suc i) xs) ++ map g (drop (suc i) xs)
set_next f g [] i x within is = absurd (omega arith)
set_next f g (y ∷ xs) zero x within is = ap (λ z. f z ∷ map g xs) is
set_next f g (y ∷ xs) (suc i) x within is = ap (λ zs. f y ∷ zs) (set_next f g xs i x (omega arith) is)

pub half_mapped : {A B : Type 0} (f g : A → B) (xs : List A) (ys : List B) (i : ℕ) (x : A) (y : B) → i < length xs → x
    ≡ get_or xs i x → y ≡ f x
    → ys ≡ map f (take i xs) ++ map g (drop i xs)
    → slice_set ys i y ≡ map f (take (i + 1) xs) ++ map g (drop (i + 1) xs)
half_mapped f g xs ys i x y within is new so_far =
    ap (λ z. slice_set ys i z) new ∙ ap (λ zs. slice_set zs i (f x)) so_far ∙ set_next f g xs i x within is
    ∙ ap (λ j. map f (take j xs) ++ map g (drop j xs)) (sym (add-one i))

half_at : {A B : Type 0} (f g : A → B) (xs : List A) (i : ℕ) (d : B) (x : A) → i < length xs
    → get_or (map f (take i xs) ++ map g (drop i xs)) i d ≡ g (get_or xs i x)
half_at f g [] i d x within = absurd (omega arith)
half_at f g (y ∷ xs) zero d x within = refl
half_at f g (y ∷ xs) (suc i) d x within = half_at f g xs i d x (omega arith)

-- The first item that isn't mapped by f yet.
pub not_yet_mapped : {A B : Type 0} (f g : A → B) (xs : List A) (ys : List B) (i : ℕ) (d : B) (x : A) → i < length xs
    → x ≡ get_or xs i x
    → ys ≡ map f (take i xs) ++ map g (drop i xs) → get_or ys i d ≡ g x
not_yet_mapped f g xs ys i d x within is so_far = ap (λ zs. get_or zs i d) so_far ∙ half_at f g xs i d x within ∙ ap g
    (sym is)

-- A list of which the first items were replaced, each by one that is related to it.
abbrev pub Half : {A : Type 0} → (A → A → Type 0) → ℕ → List A → List A → Type 0
Half R zero old now = now ≡ old
Half R (suc i) [] now = now ≡ []
Half R (suc i) (x ∷ old) [] = ⊥
Half R (suc i) (x ∷ old) (y ∷ now) = R x y × Half R i old now

half_next : {A : Type 0} (R : A → A → Type 0) (i : ℕ) (old now : List A) (d y : A) → i < length old → Half R i old now
    → R (get_or old i d) y
    → Half R (suc i) old (slice_set now i y)
half_next R i [] now d y within half related = absurd (omega arith)
half_next R zero (x ∷ old) now d y within half related =
    let P : List _ → Type 0 = λ zs. Half R 1 (x ∷ old) (slice_set zs 0 y) in subst P (sym half) (related, refl)
half_next R (suc i) (x ∷ old) [] d y within half related = absurd half
half_next R (suc i) (x ∷ old) (z ∷ now) d y within half related =
    (half.0, half_next R i old now d y (omega arith) half.1 related)

pub half_more : {A : Type 0} (R : A → A → Type 0) (i : ℕ) (old now : List A) (d y : A) → i < length old
    → Half R i old now → R (get_or old i d) y
    → Half R (i + 1) old (slice_set now i y)
half_more R i old now d y within half related = rw add-one (half_next R i old now d y within half related)

pub half_get : {A : Type 0} (R : A → A → Type 0) (i : ℕ) (old now : List A) (d : A) → i < length old
    → Half R i old now → get_or now i d ≡ get_or old i d
half_get R i [] now d within half = absurd (omega arith)
half_get R zero (x ∷ old) now d within half = ap (λ zs. get_or zs 0 d) half
half_get R (suc i) (x ∷ old) [] d within half = absurd half
half_get R (suc i) (x ∷ old) (z ∷ now) d within half = half_get R i old now d (omega arith) half.1

pub half_end : {A : Type 0} (R : A → A → Type 0) (i : ℕ) (old now : List A) → length old ≤ i → Half R i old now
    → AllZip R old now
half_end R zero [] now most half = let P : List _ → Type 0 = λ zs. AllZip R [] zs in subst P (sym half) tt
half_end R zero (x ∷ old) now most half = absurd (omega arith)
half_end R (suc i) [] now most half = let P : List _ → Type 0 = λ zs. AllZip R [] zs in subst P (sym half) tt
half_end R (suc i) (x ∷ old) [] most half = absurd half
half_end R (suc i) (x ∷ old) (y ∷ now) most half = (half.0, half_end R i old now (omega arith) half.1)

-- What holds for all items holds for each.
pub all_at : {A : Type 0} (P : A → Type 0) (xs : List A) (i : ℕ) (d : A) → i < length xs → AllByRecursion P xs
    → P (get_or xs i d)
all_at P [] i d within all = absurd (omega arith)
all_at P (x ∷ xs) zero d within all = all.0
all_at P (x ∷ xs) (suc i) d within all = all_at P xs i d (omega arith) all.1

pub all_append : {A : Type 0} (P : A → Type 0) (xs ys : List A) → AllByRecursion P xs → AllByRecursion P ys
    → AllByRecursion P (xs ++ ys)
all_append P [] ys all more = more
all_append P (x ∷ xs) ys all more = (all.0, all_append P xs ys all.1 more)

pub all_front : {A : Type 0} (P : A → Type 0) (xs ys : List A) → AllByRecursion P (xs ++ ys) → AllByRecursion P xs
all_front P [] ys all = tt
all_front P (x ∷ xs) ys all = (all.0, all_front P xs ys all.1)

pub all_back : {A : Type 0} (P : A → Type 0) (xs ys : List A) → AllByRecursion P (xs ++ ys) → AllByRecursion P ys
all_back P [] ys all = all
all_back P (x ∷ xs) ys all = all_back P xs ys all.1

-- One more item of what is mapped to lists.
flat_suc : {A B : Type 0} (f : A → List B) (xs : List A) (i : ℕ) (d : A) → i < length xs
    → flat_map f (take (suc i) xs) ≡ flat_map f (take i xs) ++ f (get_or xs i d)
flat_suc f [] i d within = absurd (omega arith)
flat_suc f (x ∷ xs) zero d within = append-nil (f x)
flat_suc f (x ∷ xs) (suc i) d within =
    ap (λ zs. f x ++ zs) (flat_suc f xs i d (omega arith)) ∙ sym
    (append_assoc (f x) (flat_map f (take i xs)) (f (get_or xs i d)))

pub flat_next : {A B : Type 0} (f : A → List B) (xs : List A) (i : ℕ) (d : A) → i < length xs
    → flat_map f (take (i + 1) xs) ≡ flat_map f (take i xs) ++ f (get_or xs i d)
flat_next f xs i d within = rw add-one (flat_suc f xs i d within)

-- A relation that holds place by place.
zip_from_index : {A B : Type 0} (R : A → B → Type 0) (xs : List A) (ys : List B) → length xs ≡ length ys
    → ((i : ℕ) (d : A) (e : B) → i < length xs → R (get_or xs i d) (get_or ys i e)) → AllZip R xs ys
zip_from_index R [] [] same each = tt
zip_from_index R [] (y ∷ ys) same each = absurd (omega arith)
zip_from_index R (x ∷ xs) [] same each = absurd (omega arith)
zip_from_index R (x ∷ xs) (y ∷ ys) same each =
    (each 0 x y (omega arith), zip_from_index R xs ys (omega arith) (λ i d e within. each (suc i) d e (omega arith)))

get_mapped : {A B : Type 0} (f : A → B) (xs : List A) (i : ℕ) (d : A) → get_or (map f xs) i (f d) ≡ f (get_or xs i d)
get_mapped f [] i d = refl
get_mapped f (x ∷ xs) zero d = refl
get_mapped f (x ∷ xs) (suc i) d = get_mapped f xs i d

-- Each call was Ok, and its value is as the call says.
pub oks_zip : {A B E : Type 0} (R : A → B → Type 0) (old : List A) (new : List B) (results : List (Result B E))
    → results ≡ map (λ x. Ok x) new
    → length results ≡ length old
    → ((i : ℕ) (d : Result B E) (e : A) → i < length old → IfOk (get_or results i d) (λ x. R (get_or old i e) x))
    → AllZip R old new
oks_zip {A} {B} {E} R old new results is same each =
    zip_from_index R old new (sym same ∙ ap (length {A = Result B E}) is ∙ length-map new _)
    (λ i d e within.
    let P : Result B E → Type 0 = λ r. IfOk r (λ x. R (get_or old i d) x) in
    subst P (ap (λ rs. get_or rs i (Ok e)) is ∙ get_mapped (λ x. Ok x) new i e) (each i (Ok e) d within))

pub if_ok : {A E : Type 0} (P Q : A → Type 0) (r : Result A E) → IfOk r P → ((x : A) → P x → Q x) → IfOk r Q
if_ok P Q (Ok x) h next = next x h
if_ok P Q (Err e) h next = tt
