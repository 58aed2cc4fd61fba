-- Facts of a list around one of its items.
use Rattle.std.proofs.Common.{◌≡◌, ℕ, ◌==◌, List, [], ◌∷◌, ◌++◌, Bool, true, false, map, Option, Some, None, refl, arith, ap, sym, bytes_eq}
use Rattle.std.specs.List.{AllByRecursion, list_any}
use Rattle.std.proofs.lemmas.Bool.Decides.{nat_tests}
use Rattle.std.proofs.lemmas.List.Folds.{list_any-append}
use Rattle.std.proofs.lemmas.Slice.Eq.{bytes_eq-Decides}
use Rattle.zb_sched_line.specs.Said.{Bytes}
use Rattle.zb_sched.specs.Judge.{Seat, changed, has_name, is_key, role_named}
use Rattle.zb_sched.specs.Valid.{Pairwise, Differ}

-- what holds of all items holds of those before one, of that one, and of those after it
pub all_before : {X : Type 0} (P : X → Type 0) (done todo : List X) → AllByRecursion P (done ++ todo)
    → AllByRecursion P done
all_before P [] todo all = tt
all_before P (d ∷ done) todo all = (all.0, all_before P done todo all.1)

pub all_behind : {X : Type 0} (P : X → Type 0) (done todo : List X) → AllByRecursion P (done ++ todo)
    → AllByRecursion P todo
all_behind P [] todo all = all
all_behind P (d ∷ done) todo all = all_behind P done todo all.1

pub one_of : {X : Type 0} (P : X → Type 0) (done : List X) (x : X) (todo : List X)
    → AllByRecursion P (done ++ x ∷ todo) → P x
one_of P done x todo all = let behind : AllByRecursion P (x ∷ todo) = all_behind P done (x ∷ todo) all in behind.0

-- of items that are related pair by pair, each one before is related to that one
pub related : {X : Type 0} (R : X → X → Type 0) (done : List X) (x : X) (todo : List X)
    → Pairwise R (done ++ x ∷ todo) → AllByRecursion (λ d. R d x) done
related R [] x todo pairs = tt
related R (d ∷ done) x todo pairs = (one_of (R d) done x todo pairs.0, related R done x todo pairs.1)

-- one column of a relation that holds of any two items
pub column : {X Y : Type 0} (R : Y → X → Type 0) (ys : List Y) (done : List X) (x : X) (todo : List X)
    → AllByRecursion (λ y. AllByRecursion (λ z. R y z) (done ++ x ∷ todo)) ys → AllByRecursion (λ y. R y x) ys
column R [] done x todo all = tt
column R (y ∷ ys) done x todo all = (one_of (R y) done x todo all.0, column R ys done x todo all.1)

-- no item passes a test
pub none_passes : {X Y : Type 0} (p : Y → Bool) (f : X → Y) (xs : List X) → AllByRecursion (λ x. p (f x) ≡ false) xs
    → list_any p (map f xs) ≡ false
none_passes p f [] all = refl
none_passes p f (x ∷ xs) all = rw (all.0, none_passes p f xs all.1) refl

pub none_of_both : {Y : Type 0} (p : Y → Bool) (xs ys : List Y) → list_any p xs ≡ false → list_any p ys ≡ false
    → list_any p (xs ++ ys) ≡ false
none_of_both p xs ys a b = rw (list_any-append p xs ys, a, b) refl

-- ---- tests that fail

pub false_if : (b : Bool) → (b ≡ true → ⊥) → b ≡ false
false_if true no_way = absurd (no_way refl)
false_if false no_way = refl

pub other_bytes : (xs ys : List ℕ) → (xs ≡ ys → ⊥) → bytes_eq xs ys ≡ false
other_bytes xs ys differ = false_if (bytes_eq xs ys) (λ same. differ ((bytes_eq-Decides xs ys).0 same))

pub same_bytes : (xs : List ℕ) → bytes_eq xs xs ≡ true
same_bytes xs = (bytes_eq-Decides xs xs).1 refl

pub other_number : (m n : ℕ) → (m ≡ n → ⊥) → (m == n) ≡ false
other_number m n differ = false_if (m == n) (λ same. differ (grind (arith, nat_tests, same)))

pub no_key : (key : Bytes) (o : Option Bytes) → Differ o (Some key) → is_key key o ≡ false
no_key key None differ = refl
no_key key (Some other) differ = other_bytes other key differ

pub no_such_key : (key : Bytes) (o : Option Bytes) → Differ (Some key) o → is_key key o ≡ false
no_such_key key None differ = refl
no_such_key key (Some other) differ = other_bytes other key (λ same. differ (sym same))

-- ---- the seat of a name

abbrev pub Others : Bytes → List Seat → Type 0
Others name seats = AllByRecursion (λ (s : Seat). has_name name s ≡ false) seats

pub changed_there : (name : Bytes) (f : Seat → Seat) (xs : List Seat) (s : Seat) (ys : List Seat) → Others name xs
    → has_name name s ≡ true
    → changed name f (xs ++ s ∷ ys) ≡ xs ++ f s ∷ ys
changed_there name f [] s ys others named = rw named refl
changed_there name f (x ∷ xs) s ys others named =
    rw others.0 (ap (λ (more : List Seat). x ∷ more) (changed_there name f xs s ys others.1 named))

pub role_there : (name : Bytes) (xs : List Seat) (s : Seat) (ys : List Seat) → Others name xs → has_name name s ≡ true
    → role_named name (xs ++ s ∷ ys) ≡ Some s.node.role
role_there name [] s ys others named = rw named refl
role_there name (x ∷ xs) s ys others named = rw others.0 (role_there name xs s ys others.1 named)

-- ---- lists put together

pub both_all : {X : Type 0} (P : X → Type 0) (xs ys : List X) → AllByRecursion P xs → AllByRecursion P ys
    → AllByRecursion P (xs ++ ys)
both_all P [] ys first second = second
both_all P (x ∷ xs) ys first second = (first.0, both_all P xs ys first.1 second)

pub mapped_all : {X Y : Type 0} (P : X → Type 0) (Q : Y → Type 0) (f : X → Y) → ((x : X) → P x → Q (f x))
    → (xs : List X) → AllByRecursion P xs → AllByRecursion Q (map f xs)
mapped_all P Q f each [] all = tt
mapped_all P Q f each (x ∷ xs) all = (each x all.0, mapped_all P Q f each xs all.1)
