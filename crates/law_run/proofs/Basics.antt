-- Plain facts on tests, finds and lists.
use Rattle.std.proofs.Common.{◌≡◌, ℕ, Bool, true, false, cond, List, [], ◌∷◌, ◌++◌, map, Option, Some, option_map, find, fold, flat_map, nat_eq, refl, sym, ap, ◌∙◌, subst, eq-eqb, append_assoc}
use Rattle.std.proofs.lemmas.Slice.Eq.{bytes_eq-Decides}
use Rattle.std.proofs.lemmas.List.Sums.{fold-append}
use Rattle.zb_model.specs.Data.{Bytes}
use Rattle.zb_model.specs.Lines.{Line}
use Rattle.zb_model.specs.State.{new_node, same_key}
use Rattle.zb_model.specs.Readings.{state_of, heard_line}
use Rattle.zb_model.specs.Claims.{Each}

pub same_key-eq : (a b : Bytes) → same_key a b ≡ true → a ≡ b
same_key-eq a b h = (bytes_eq-Decides a b).0 h

pub same_key-refl : (a : Bytes) → same_key a a ≡ true
same_key-refl a = (bytes_eq-Decides a a).1 refl

pub nat_eq-refl : (n : ℕ) → nat_eq n n ≡ true
nat_eq-refl n = eq-eqb n n refl

map_cond : {X : Type 0} (f : X → X) (b : Bool) (x : X) (r s : Option X) → r ≡ option_map f s → cond b (Some (f x)) r
    ≡ option_map f (cond b (Some x) s)
map_cond f true x r s e = refl
map_cond f false x r s e = e

-- a map that leaves the test alone gives the found item, changed
pub find-map : {X : Type 0} (test : X → Bool) (f : X → X) → ((x : X) → test (f x) ≡ test x) → (xs : List X)
    → find test (map f xs) ≡ option_map f (find test xs)
find-map test f same [] = refl
find-map test f same (x ∷ xs) =
    rw (same x) (map_cond f (test x) x (find test (map f xs)) (find test xs) (find-map test f same xs))

pub append-nil' : {X : Type 0} (xs : List X) → xs ++ [] ≡ xs
append-nil' [] = refl
append-nil' (x ∷ xs) = ap (λ l. x ∷ l) (append-nil' xs)

pub flat_map-append : {X Y : Type 0} (f : X → List Y) (xs ys : List X) → flat_map f (xs ++ ys) ≡ flat_map f xs
    ++ flat_map f ys
flat_map-append f [] ys = refl
flat_map-append f (x ∷ xs) ys = ap (λ l. f x ++ l) (flat_map-append f xs ys) ∙ sym
    (append_assoc (f x) (flat_map f xs) (flat_map f ys))

-- Reading continues.
pub state-append : (h g : List Line) (n : ℕ) → state_of (h ++ g) n ≡ fold (heard_line n) (state_of h n) g
unfolding state_of
state-append h g n = fold-append (heard_line n) (new_node Rattle.zb_model.specs.Data.Role.Device) h g

pub state-snoc : (h : List Line) (l : Line) (n : ℕ) → state_of (h ++ l ∷ []) n ≡ heard_line n (state_of h n) l
state-snoc h l n = state-append h (l ∷ []) n

-- claims on each line, over lists joined
pub each-append : (P : List Line → Line → Type 0) (h xs ys : List Line) → Each P h xs → Each P (h ++ xs) ys
    → Each P h (xs ++ ys)
each-append P h [] ys a b = subst (λ l. Each P l ys) (append-nil' h) b
each-append P h (x ∷ xs) ys a b =
    (a.0, each-append P (h ++ x ∷ []) xs ys a.1 (subst (λ l. Each P l ys) (sym (append_assoc h (x ∷ []) xs)) b))
