-- Claims on each item of a list, and on what is found in it.
use Rattle.std.proofs.Common.{ℕ, zero, suc, Bool, true, false, cond, List, [], ◌∷◌, map, filter, find, reverse, slice_get, Option, Some, IfSome}
use Rattle.std.specs.List.{AllByRecursion}
use Rattle.zb_model.specs.State.{last_where}
use mathlib.Core.List.{reverse_aux}

either : {X : Type 0} (P : X → Type 0) (b : Bool) (x : X) (o : Option X) → P x → IfSome o P
    → IfSome (cond b (Some x) o) P
either P true x o p q = p
either P false x o p q = q

pub found : {X : Type 0} (P : X → Type 0) (test : X → Bool) (xs : List X) → AllByRecursion P xs
    → IfSome (find test xs) P
found P test [] all = tt
found P test (x ∷ xs) all = either P (test x) x (find test xs) all.0 (found P test xs all.1)

turned : {X : Type 0} (P : X → Type 0) (xs ys : List X) → AllByRecursion P xs → AllByRecursion P ys
    → AllByRecursion P (reverse_aux xs ys)
turned P [] ys all rest = rest
turned P (x ∷ xs) ys all rest = turned P xs (x ∷ ys) all.1 (all.0, rest)

pub reversed : {X : Type 0} (P : X → Type 0) (xs : List X) → AllByRecursion P xs → AllByRecursion P (reverse xs)
reversed P xs all = turned P xs [] all tt

pub last_found : {X : Type 0} (P : X → Type 0) (test : X → Bool) (xs : List X) → AllByRecursion P xs
    → IfSome (last_where test xs) P
last_found P test xs all = found P test (reverse xs) (reversed P xs all)

pub if_then : {X : Type 0} (P : X → Type 0) (b : Bool) (x y : X) → P x → P y → P (cond b x y)
if_then P true x y p q = p
if_then P false x y p q = q

pub filtered : {X : Type 0} (P : X → Type 0) (test : X → Bool) (xs : List X) → AllByRecursion P xs
    → AllByRecursion P (filter test xs)
filtered P test [] all = tt
filtered {X} P test (x ∷ xs) all = if_then (λ (l : List X). AllByRecursion P l) (test x) (x ∷ filter test xs)
    (filter test xs) (all.0, filtered P test xs all.1) (filtered P test xs all.1)

pub mapped : {X : Type 0} (P : X → Type 0) (f : X → X) → ((x : X) → P x → P (f x)) → (xs : List X)
    → AllByRecursion P xs → AllByRecursion P (map f xs)
mapped P f keeps [] all = tt
mapped P f keeps (x ∷ xs) all = (keeps x all.0, mapped P f keeps xs all.1)

-- the items that pass a test are changed
pub changed : {X : Type 0} (P : X → Type 0) (test : X → Bool) (f : X → X) → ((x : X) → P x → P (f x)) → (xs : List X)
    → AllByRecursion P xs → AllByRecursion P (map (λ x. cond (test x) (f x) x) xs)
changed P test f keeps [] all = tt
changed P test f keeps (x ∷ xs) all =
    (if_then P (test x) (f x) x (keeps x all.0) all.0, changed P test f keeps xs all.1)

pub item : {X : Type 0} (P : X → Type 0) (xs : List X) (i : ℕ) → AllByRecursion P xs → IfSome (slice_get xs i) P
item P [] i all = tt
item P (x ∷ xs) zero all = all.0
item P (x ∷ xs) (suc i) all = item P xs i all.1
