-- What outsiders may know is the least set that has the start, and that has the key of each term whose base key it
-- has.
use Rattle.std.proofs.Common.{◌≡◌, ℕ, ◌+◌, ◌<◌, ◌≤◌, zero, suc, List, [], ◌∷◌, ◌++◌, length, Bool, true, false, ◌||◌, Option, Some, None, ◌⊎◌, inl, inr, refl, arith, ap, sym, ◌∙◌, subst, bytes_eq, length-append}
use Rattle.std.specs.Prelude.{if◌then◌else◌, fold}
use Rattle.std.specs.List.{AllByRecursion, flat_map}
use Rattle.std.specs.Option.{IfSome, option_to_list}
use Rattle.std.proofs.lemmas.List.Folds.{list_any-append}
use Rattle.std.proofs.lemmas.Slice.Eq.{bytes_eq-Decides}
use Rattle.zb_model.specs.Data.{Bytes, Term}
use Rattle.zb_model.specs.Lines.{Line, Seal, Forge}
use Rattle.zb_model.specs.Secrets.{holds, with_key, carried, opened_by, a_round, rounds, exposed, terms_in, terms_of}
use Rattle.zb_model.specs.Tools.{Tools}
use Rattle.zb_trace_watch.specs.Closure.{Passes, IsClosed}

-- Sets of keys

abbrev Within : (Bytes → Bool) → List Bytes → Type 0
Within S keys = AllByRecursion (λ key. S key ≡ true) keys

abbrev Subset : List Bytes → List Bytes → Type 0
Subset keys more = (q : Bytes) → holds keys q ≡ true → holds more q ≡ true

same_bytes : (a b : Bytes) → bytes_eq a b ≡ true → a ≡ b
same_bytes a b h = (bytes_eq-Decides a b).0 h

itself : (a : Bytes) → bytes_eq a a ≡ true
itself a = (bytes_eq-Decides a a).1 refl

either : (a b : Bool) → (a || b) ≡ true → (a ≡ true) ⊎ (b ≡ true)
either true b h = inl refl
either false b h = inr h

or_left : (a b : Bool) → a ≡ true → (a || b) ≡ true
or_left a b h = rw h refl

or_right : (a b : Bool) → b ≡ true → (a || b) ≡ true
or_right true b h = refl
or_right false b h = h

pub holds_within : (S : Bytes → Bool) (keys : List Bytes) (key : Bytes) → Within S keys → holds keys key ≡ true
    → S key ≡ true
holds_within S [] key within h = cc h
holds_within S (k ∷ keys) key within h =
    elim (either (bytes_eq key k) (holds keys key) h) [
      | inl here ↦ ap S (same_bytes key k here) ∙ within.0
      | inr there ↦ holds_within S keys key within.1 there
    ]

holds_end : (keys : List Bytes) (key q : Bytes) → holds (keys ++ key ∷ []) q
    ≡ (holds keys q || (bytes_eq q key || false))
holds_end keys key q = list_any-append (bytes_eq q) keys (key ∷ [])

grows_end : (keys : List Bytes) (key : Bytes) → Subset keys (keys ++ key ∷ [])
grows_end keys key q h = holds_end keys key q ∙ or_left _ _ h

has_end : (keys : List Bytes) (key : Bytes) → holds (keys ++ key ∷ []) key ≡ true
has_end keys key = holds_end keys key key ∙ or_right _ _ (or_left _ _ (itself key))

within_end : (S : Bytes → Bool) (keys : List Bytes) (key : Bytes) → Within S keys → S key ≡ true
    → Within S (keys ++ key ∷ [])
within_end S [] key within h = (h, tt)
within_end S (k ∷ keys) key within h = (within.0, within_end S keys key within.1 h)

-- One step, by cases

abbrev stepped : Bool → Option Bytes → List Bytes → List Bytes
stepped base o keys = if base then fold with_key keys (option_to_list o) else keys

abbrev put : Bool → Bytes → List Bytes → List Bytes
put held key keys = if held then keys else keys ++ key ∷ []

put_grows : (held : Bool) (key : Bytes) (keys : List Bytes) → Subset keys (put held key keys)
put_grows true key keys q h = h
put_grows false key keys q h = grows_end keys key q h

step_grows : (base : Bool) (o : Option Bytes) (keys : List Bytes) → Subset keys (stepped base o keys)
step_grows false o keys q h = h
step_grows true None keys q h = h
step_grows true (Some k) keys q h = put_grows (holds keys k) k keys q h

put_within : (S : Bytes → Bool) (held : Bool) (key : Bytes) (keys : List Bytes) → Within S keys → S key ≡ true
    → Within S (put held key keys)
put_within S true key keys within h = within
put_within S false key keys within h = within_end S keys key within h

step_within : (S : Bytes → Bool) (base : Bool) (o : Option Bytes) (keys : List Bytes) → Within S keys
    → (base ≡ true → IfSome o (λ k. S k ≡ true)) → Within S (stepped base o keys)
step_within S false o keys within passes = within
step_within S true None keys within passes = within
step_within S true (Some k) keys within passes = put_within S (holds keys k) k keys within (passes refl)

module _ (tools : Tools) where
  grows : (ts : List Term) (keys : List Bytes) → Subset keys (fold (opened_by tools) keys ts)
  grows [] keys q h = h
  grows (t ∷ ts) keys q h =
      grows ts (opened_by tools keys t) q (step_grows (holds keys t.base) (carried tools t) keys q h)

  round_grows : (ts : List Term) (keys : List Bytes) → Subset keys (a_round tools ts keys)
  unfolding a_round
  round_grows ts keys q h = grows ts keys q h

  pub rounds_grow : (n : ℕ) (ts : List Term) (keys : List Bytes) → Subset keys (rounds n tools ts keys)
  unfolding rounds
  rounds_grow zero ts keys q h = h
  rounds_grow (suc n) ts keys q h = rounds_grow n ts (a_round tools ts keys) q (round_grows ts keys q h)

  -- No key comes out of a closed set.
  stays_within : (S : Bytes → Bool) (ts : List Term) (keys : List Bytes) → IsClosed tools S ts → Within S keys
      → Within S (fold (opened_by tools) keys ts)
  stays_within S [] keys closed within = within
  stays_within S (t ∷ ts) keys closed within =
      stays_within S ts (opened_by tools keys t) closed.1
      (step_within S (holds keys t.base) (carried tools t) keys within
      (λ base. closed.0 (holds_within S keys t.base within base)))

  round_within : (S : Bytes → Bool) (ts : List Term) (keys : List Bytes) → IsClosed tools S ts → Within S keys
      → Within S (a_round tools ts keys)
  unfolding a_round
  round_within S ts keys closed within = stays_within S ts keys closed within

  pub rounds_within : (n : ℕ) (S : Bytes → Bool) (ts : List Term) (keys : List Bytes) → IsClosed tools S ts
      → Within S keys → Within S (rounds n tools ts keys)
  unfolding rounds
  rounds_within zero S ts keys closed within = within
  rounds_within (suc n) S ts keys closed within = rounds_within n S ts (a_round tools ts keys) closed
      (round_within S ts keys closed within)

  -- How many terms carry a key that is not among these.

  abbrev lacks : Option Bytes → List Bytes → ℕ
  lacks None keys = 0
  lacks (Some k) keys = if holds keys k then 0 else 1

  abbrev missing : List Term → List Bytes → ℕ
  missing [] keys = 0
  missing (t ∷ ts) keys = lacks (carried tools t) keys + missing ts keys

  one_at_most : (b : Bool) → (if b then 0 else 1) ≤ 1
  one_at_most true = omega arith
  one_at_most false = omega arith

  lacks_one : (o : Option Bytes) (keys : List Bytes) → lacks o keys ≤ 1
  lacks_one None keys = omega arith
  lacks_one (Some k) keys = one_at_most (holds keys k)

  missing_at_most : (ts : List Term) (keys : List Bytes) → missing ts keys ≤ length ts
  missing_at_most [] keys = omega arith
  missing_at_most (t ∷ ts) keys = omega (arith, lacks_one (carried tools t) keys, missing_at_most ts keys)

  fewer_by : (a b : Bool) → (a ≡ true → b ≡ true) → (if b then 0 else 1) ≤ (if a then 0 else 1)
  fewer_by true b more = rw (more refl) (omega arith)
  fewer_by false true more = omega arith
  fewer_by false false more = omega arith

  fewer_one : (o : Option Bytes) (keys keys' : List Bytes) → Subset keys keys' → lacks o keys' ≤ lacks o keys
  fewer_one None keys keys' more = omega arith
  fewer_one (Some k) keys keys' more = fewer_by (holds keys k) (holds keys' k) (more k)

  fewer : (ts : List Term) (keys keys' : List Bytes) → Subset keys keys' → missing ts keys' ≤ missing ts keys
  fewer [] keys keys' more = omega arith
  fewer (t ∷ ts) keys keys' more = omega (arith, fewer_one (carried tools t) keys keys' more, fewer ts keys keys' more)

  -- Some term carries the key.
  abbrev IsCarried : Bytes → List Term → Type 0
  IsCarried k [] = ⊥
  IsCarried k (t ∷ ts) = (carried tools t ≡ Some k) ⊎ IsCarried k ts

  less_one : (o : Option Bytes) (k : Bytes) (keys keys' : List Bytes) → o ≡ Some k → holds keys k ≡ false
      → holds keys' k ≡ true → lacks o keys' < lacks o keys
  less_one o k keys keys' is before after = rw (is, before, after) (omega arith)

  less : (ts : List Term) (k : Bytes) (keys keys' : List Bytes) → Subset keys keys' → IsCarried k ts → holds keys k
      ≡ false → holds keys' k ≡ true → missing ts keys' < missing ts keys
  less [] k keys keys' more there before after = absurd there
  less (t ∷ ts) k keys keys' more (inl here) before after =
      omega (arith, less_one (carried tools t) k keys keys' here before after, fewer ts keys keys' more)
  less (t ∷ ts) k keys keys' more (inr there) before after =
      omega (arith, fewer_one (carried tools t) keys keys' more, less ts k keys keys' more there before after)

  -- A round either adds nothing, and then the keys are closed, or fewer keys are missing.
  abbrev Turns : List Term → List Term → List Bytes → Type 0
  Turns all ts keys = (IsClosed tools (holds keys) ts × (fold (opened_by tools) keys ts ≡ keys))
      ⊎ (missing all (fold (opened_by tools) keys ts) < missing all keys)

  abbrev Among : List Term → List Term → Type 0
  Among all ts = AllByRecursion (λ t. (k : Bytes) → carried tools t ≡ Some k → IsCarried k all) ts

  turn_on : (all ts : List Term) (keys : List Bytes) (t : Term) → Passes tools (holds keys) t → Turns all ts keys
      → (IsClosed tools (holds keys) (t ∷ ts) × (fold (opened_by tools) keys ts ≡ keys))
      ⊎ (missing all (fold (opened_by tools) keys ts) < missing all keys)
  turn_on all ts keys t passes (inl done) = inl ((passes, done.0), done.1)
  turn_on all ts keys t passes (inr lt) = inr lt

  abbrev StepTurns : List Term → List Term → List Bytes → Term → List Bytes → Type 0
  StepTurns all ts keys t stepped_keys =
      (IsClosed tools (holds keys) (t ∷ ts) × (fold (opened_by tools) stepped_keys ts ≡ keys))
      ⊎ (missing all (fold (opened_by tools) stepped_keys ts) < missing all keys)

  put_turns : (all ts : List Term) (keys : List Bytes) (t : Term) (k : Bytes) (held : Bool) → holds keys k ≡ held
      → carried tools t ≡ Some k → IsCarried k all
      → Turns all ts keys → StepTurns all ts keys t (put held k keys)
  put_turns all ts keys t k true held is there turns = turn_on all ts keys t (λ base. rw is held) turns
  put_turns all ts keys t k false held is there turns =
      inr (less all k keys (fold (opened_by tools) (keys ++ k ∷ []) ts)
      (λ q h. grows ts (keys ++ k ∷ []) q (grows_end keys k q h)) there held
      (grows ts (keys ++ k ∷ []) k (has_end keys k)))

  step_turns : (all ts : List Term) (keys : List Bytes) (t : Term) (base : Bool) (o : Option Bytes)
      → holds keys t.base ≡ base → carried tools t ≡ o
      → ((k : Bytes) → carried tools t ≡ Some k → IsCarried k all) → Turns all ts keys
      → StepTurns all ts keys t (stepped base o keys)
  step_turns all ts keys t false o no_base is among turns = turn_on all ts keys t (λ base. cc (sym no_base ∙ base))
      turns
  step_turns all ts keys t true None base is among turns = turn_on all ts keys t (λ _. rw is tt) turns
  step_turns all ts keys t true (Some k) base is among turns = put_turns all ts keys t k (holds keys k) refl is
      (among k is) turns

  turns : (all ts : List Term) (keys : List Bytes) → Among all ts → Turns all ts keys
  turns all [] keys among = inl (tt, refl)
  turns all (t ∷ ts) keys among = step_turns all ts keys t (holds keys t.base) (carried tools t) refl refl among.0
      (turns all ts keys among.1)

  among_more : (t : Term) (all ts : List Term) → Among all ts → Among (t ∷ all) ts
  among_more t all [] among = tt
  among_more t all (s ∷ ts) among = ((λ k is. inr (among.0 k is)), among_more t all ts among.1)

  all_among : (ts : List Term) → Among ts ts
  all_among [] = tt
  all_among (t ∷ ts) = ((λ k is. inl is), among_more t ts ts (all_among ts))

  none_lacks : (o : Option Bytes) (keys : List Bytes) → lacks o keys ≤ 0 → IfSome o (λ k. holds keys k ≡ true)
  none_lacks None keys le = tt
  none_lacks (Some k) keys le = there (holds keys k) le
    where
      there : (b : Bool) → (if b then 0 else 1) ≤ 0 → b ≡ true
      there true le = refl
      there false le = absurd (omega (arith, le))

  none_missing : (ts : List Term) (keys : List Bytes) → missing ts keys ≤ 0 → IsClosed tools (holds keys) ts
  none_missing [] keys le = tt
  none_missing (t ∷ ts) keys le =
      ((λ base. none_lacks (carried tools t) keys (omega (arith, le))), none_missing ts keys (omega (arith, le)))

  same_rounds : (n : ℕ) (ts : List Term) (keys : List Bytes) → a_round tools ts keys ≡ keys → rounds n tools ts keys
      ≡ keys
  unfolding rounds
  same_rounds zero ts keys same = refl
  same_rounds (suc n) ts keys same = ap (rounds n tools ts) same ∙ same_rounds n ts keys same

  by_turn : (n : ℕ) (ts : List Term) (keys : List Bytes)
      → ((more : List Bytes) → missing ts more ≤ n → IsClosed tools (holds (rounds n tools ts more)) ts)
      → missing ts keys ≤ n + 1 → Turns ts ts keys
      → IsClosed tools (holds (rounds n tools ts (a_round tools ts keys))) ts
  unfolding a_round
  by_turn n ts keys later le (inl done) =
      subst (λ (known : List Bytes). IsClosed tools (holds known) ts)
      (sym (ap (rounds n tools ts) done.1 ∙ same_rounds n ts keys done.1)) done.0
  by_turn n ts keys later le (inr lt) = later (a_round tools ts keys) (omega (arith, lt, le))

  closed_after : (n : ℕ) (ts : List Term) (keys : List Bytes) → missing ts keys ≤ n
      → IsClosed tools (holds (rounds n tools ts keys)) ts
  unfolding rounds
  closed_after zero ts keys le = none_missing ts keys le
  closed_after (suc n) ts keys le =
      by_turn n ts keys (λ more fewer_left. closed_after n ts more fewer_left) (omega (arith, le))
      (turns ts ts keys (all_among ts))

-- What comes out in as many rounds as there are terms: it has the start, is closed, and is no more than that.

pub rounds_cover : (tools : Tools) (n : ℕ) (ts : List Term) (from : List Bytes) (k : Bytes) → holds from k ≡ true
    → holds (rounds n tools ts from) k ≡ true
rounds_cover tools n ts from k there = rounds_grow tools n ts from k there

pub rounds_closed : (tools : Tools) (n : ℕ) (ts : List Term) (from : List Bytes) → length ts ≤ n
    → IsClosed tools (holds (rounds n tools ts from)) ts
rounds_closed tools n ts from few = closed_after tools n ts from (omega (arith, missing_at_most tools ts from, few))

all_within : (S : Bytes → Bool) (keys all : List Bytes) → ((k : Bytes) → holds all k ≡ true → S k ≡ true)
    → Subset keys all → Within S keys
all_within S [] all covers sub = tt
all_within S (k ∷ keys) all covers sub =
    (covers k (sub k (or_left _ _ (itself k))), all_within S keys all covers (λ q h. sub q (or_right _ _ h)))

pub rounds_least : (tools : Tools) (n : ℕ) (ts : List Term) (from : List Bytes) (S : Bytes → Bool)
    → ((k : Bytes) → holds from k ≡ true → S k ≡ true) → IsClosed tools S ts
    → (k : Bytes) → holds (rounds n tools ts from) k ≡ true → S k ≡ true
rounds_least tools n ts from S covers closed k there =
    holds_within S (rounds n tools ts from) k
    (rounds_within tools n S ts from closed (all_within S from from covers (λ q h. h))) there

-- The same for lines

one_term : (l : Line) → length (terms_in l) ≤ 1
one_term (Seal e n t) = omega arith
one_term (Forge e t) = omega arith
one_term _ = omega arith

pub few_terms : (h : List Line) → length (terms_of h) ≤ length h
unfolding terms_of
few_terms [] = omega arith
few_terms (l ∷ h) = omega (arith, length-append (terms_in l) (flat_map terms_in h), one_term l, few_terms h)

pub exposed_covers : (tools : Tools) (h : List Line) (from : List Bytes) (k : Bytes) → holds from k ≡ true
    → holds (exposed tools h from) k ≡ true
unfolding exposed
exposed_covers tools h from k there = rounds_cover tools (length h) (terms_of h) from k there

pub exposed_closed : (tools : Tools) (h : List Line) (from : List Bytes)
    → IsClosed tools (holds (exposed tools h from)) (terms_of h)
unfolding exposed
exposed_closed tools h from = rounds_closed tools (length h) (terms_of h) from (few_terms h)

pub exposed_least : (tools : Tools) (h : List Line) (from : List Bytes) (S : Bytes → Bool)
    → ((k : Bytes) → holds from k ≡ true → S k ≡ true) → IsClosed tools S (terms_of h)
    → (k : Bytes) → holds (exposed tools h from) k ≡ true → S k ≡ true
unfolding exposed
exposed_least tools h from S covers closed k there = rounds_least tools (length h) (terms_of h) from S covers closed k
    there
