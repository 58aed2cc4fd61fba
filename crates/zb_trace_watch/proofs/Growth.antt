-- What one more line adds to what lines say.
use Rattle.std.proofs.Common.{◌≡◌, ℕ, List, [], ◌∷◌, ◌++◌, Bool, true, false, ◌||◌, ◌&&◌, Option, Some, None, inl, inr, refl, ap, ◌∙◌}
use Rattle.std.specs.List.{list_any, flat_map}
use Rattle.std.proofs.lemmas.Grind.{flat_map-append}
use Rattle.std.proofs.lemmas.List.Folds.{list_any-append}
use Rattle.zb_model.specs.Data.{Bytes, Term}
use Rattle.zb_model.specs.Secrets.{brings, carried, holds, holds_some}
use Rattle.zb_model.specs.Tools.{Tools}
use Rattle.zb_trace_watch.specs.Sayings.{came_by, passes_on, Grows, Sayings}
use Rattle.zb_trace_watch.proofs.Alike.{any_or, list_any_alike}
use Rattle.zb_trace_watch.proofs.Truth.{either, or_left, or_right}

pub or_none : (a : Bool) → (a || false) ≡ a
or_none true = refl
or_none false = refl

pub and_all : (a : Bool) → (a && true) ≡ a
and_all true = refl
and_all false = refl

pub or_assoc : (a b c : Bool) → ((a || b) || c) ≡ (a || (b || c))
or_assoc true b c = refl
or_assoc false b c = refl

pub and_assoc : (a b c : Bool) → ((a && b) && c) ≡ (a && (b && c))
and_assoc true b c = refl
and_assoc false b c = refl

pub any_more : {A X : Type 0} (p : X → Bool) (f : A → List X) (h : List A) (l : A)
    → list_any p (flat_map f (h ++ l ∷ []))
    ≡ (list_any p (flat_map f h) || list_any p (f l))
any_more p f h l =
    ap (list_any p) (flat_map-append f h (l ∷ []))
    ∙ (list_any-append p (flat_map f h) (f l ++ [])
    ∙ ap (λ (b : Bool). list_any p (flat_map f h) || b) (list_any-append p (f l) [] ∙ or_none (list_any p (f l))))

-- Whether a forged term carries a key of the network

some_more : (keys more all : List Bytes) (o : Option Bytes)
    → ((k : Bytes) → holds all k ≡ (holds keys k || holds more k)) → holds_some all o
    ≡ (holds_some keys o || holds_some more o)
some_more keys more all None so = refl
some_more keys more all (Some k) so = so k

same_some : (keys all : List Bytes) → ((k : Bytes) → holds all k ≡ holds keys k) → (o : Option Bytes)
    → holds_some all o ≡ holds_some keys o
same_some keys all so None = refl
same_some keys all so (Some k) = so k

pub any_grows : {X : Type 0} (p q : X → Bool) → ((x : X) → p x ≡ true → q x ≡ true) → (xs : List X)
    → list_any p xs ≡ true → list_any q xs ≡ true
any_grows p q more [] it = cc
any_grows p q more (x ∷ xs) it =
    elim (either (p x) (list_any p xs) it) [
      | inl here ↦ or_left (q x) (list_any q xs) (more x here)
      | inr there ↦ or_right (q x) (list_any q xs) (any_grows p q more xs there)
    ]

and_grows : (a b c : Bool) → (a ≡ true → b ≡ true) → (a && c) ≡ true → (b && c) ≡ true
and_grows true b c more it = rw (more refl) it
and_grows false b c more it = cc

module _ (tools : Tools) (counts : ℕ → Bool) (s a after : Sayings) (grows : Grows counts s a after) where
  -- A line that has no key of the network.
  pub passes_by_forged : a.network ≡ [] → passes_on tools after
      ≡ (passes_on tools s || list_any (λ (t : Term). holds_some s.network (carried tools t)) a.forged)
  unfolding passes_on
  passes_by_forged none =
      list_any_alike (λ (t : Term). holds_some after.network (carried tools t))
      (λ (t : Term). holds_some s.network (carried tools t))
      (λ t. same_some s.network after.network
      (λ k. grows.network k ∙
      (ap (λ (more : List Bytes). holds s.network k || holds more k) none ∙ or_none (holds s.network k)))
      (carried tools t)) after.forged
      ∙ grows.forged (λ (t : Term). holds_some s.network (carried tools t))

  -- A line that forges nothing.
  pub passes_by_network : a.forged ≡ [] → passes_on tools after
      ≡ (passes_on tools s || list_any (λ (t : Term). holds_some a.network (carried tools t)) s.forged)
  unfolding passes_on
  passes_by_network none =
      grows.forged (λ (t : Term). holds_some after.network (carried tools t))
      ∙ (ap (λ (more : List Term). list_any (λ (t : Term). holds_some after.network (carried tools t)) s.forged
      || list_any (λ (t : Term). holds_some after.network (carried tools t)) more) none
      ∙ (or_none (list_any (λ (t : Term). holds_some after.network (carried tools t)) s.forged)
      ∙ (list_any_alike (λ (t : Term). holds_some after.network (carried tools t))
      (λ (t : Term). holds_some s.network (carried tools t) || holds_some a.network (carried tools t))
      (λ t. some_more s.network a.network after.network (carried tools t) grows.network) s.forged
      ∙ any_or (λ (t : Term). holds_some s.network (carried tools t))
      (λ (t : Term). holds_some a.network (carried tools t)) s.forged)))

  -- A line that does neither.
  pub passes_nothing : a.network ≡ [] → a.forged ≡ [] → passes_on tools after ≡ passes_on tools s
  passes_nothing none nothing =
      passes_by_forged none
      ∙ (ap (λ (more : List Term). passes_on tools s
      || list_any (λ (t : Term). holds_some s.network (carried tools t)) more) nothing ∙ or_none (passes_on tools s))

  -- A key that came from somewhere still did.
  pub came_more : (n : ℕ) (key : Bytes) → counts n ≡ true → came_by tools s n key ≡ true → came_by tools after n key
      ≡ true
  unfolding came_by
  came_more n key it_counts it =
      elim (either (holds (s.codes n) key) (list_any (brings tools (s.bases n) key) s.terms) it) [
        | inl code ↦ or_left _ _ (grows.codes n it_counts key ∙ or_left _ _ code)
        | inr term ↦
            or_right _ _
            (grows.terms (brings tools (after.bases n) key)
            ∙ or_left _ _
            (any_grows (brings tools (s.bases n) key) (brings tools (after.bases n) key)
            (λ t. and_grows (holds (s.bases n) t.base) (holds (after.bases n) t.base) _
            (λ here. grows.bases n it_counts t.base ∙ or_left _ _ here)) s.terms term))
      ]
