-- Items that are found in lists: what is found, and that each item of a list of different items is found.
use Rattle.std.proofs.Common.{◌≡◌, Bool, true, false, cond, List, [], ◌∷◌, ◌++◌, map, Option, Some, None, option_map, find, sym, subst}
use Rattle.law_run.proofs.Basics.{find-map}

unfoldable pub HoldsOf : {X : Type 0} → (X → Type 0) → Option X → Type 0
HoldsOf P None = ⊥
HoldsOf P (Some x) = P x

unfoldable pub IfOf : {X : Type 0} → (X → Type 0) → Option X → Type 0
IfOf P None = Unit {0}
IfOf P (Some x) = P x

-- what is found in a list meets P
abbrev pub Finds : {X : Type 0} → (X → Type 0) → (X → Bool) → List X → Type 0
Finds P test xs = HoldsOf P (find test xs)

pub finds-some : {X : Type 0} (P : X → Type 0) (test : X → Bool) (xs : List X) (x : X) → find test xs ≡ Some x → P x
    → Finds P test xs
unfolding HoldsOf
finds-some P test xs x e p = subst (λ o. HoldsOf P o) (sym e) p

holds-map : {X : Type 0} (P Q : X → Type 0) (f : X → X) → ((x : X) → P x → Q (f x)) → (o : Option X) → HoldsOf P o
    → HoldsOf Q (option_map f o)
unfolding HoldsOf
holds-map P Q f k None h = h
holds-map P Q f k (Some x) h = k x h

pub finds-map : {X : Type 0} (P Q : X → Type 0) (test : X → Bool) (f : X → X) → ((x : X) → test (f x) ≡ test x)
    → ((x : X) → P x → Q (f x)) → (xs : List X) → Finds P test xs → Finds Q test (map f xs)
finds-map P Q test f same k xs h = subst (λ o. HoldsOf Q o) (sym (find-map test f same xs))
    (holds-map P Q f k (find test xs) h)

holds-cons : {X : Type 0} (P : X → Type 0) (x : X) (b : Bool) (o q : Option X) → (HoldsOf P o → HoldsOf P q)
    → HoldsOf P (cond b (Some x) o) → HoldsOf P (cond b (Some x) q)
holds-cons P x true o q k h = h
holds-cons P x false o q k h = k h

pub finds-append : {X : Type 0} (P : X → Type 0) (test : X → Bool) (xs ys : List X) → Finds P test xs
    → Finds P test (xs ++ ys)
unfolding HoldsOf
finds-append P test [] ys h = absurd h
finds-append P test (x ∷ xs) ys h = holds-cons P x (test x) (find test xs) (find test (xs ++ ys))
    (finds-append P test xs ys) h

-- elements
