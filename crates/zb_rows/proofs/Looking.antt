-- Searching for a row from the end, and after a test.
use Rattle.std.proofs.Common.{◌≡◌, ℕ, List, [], ◌∷◌, ◌++◌, map, refl, sym, ap, ◌∙◌, append-nil, Bool, true, false, if◌then◌else◌, ◌&&◌, Option, Some, None}
use Rattle.std.specs.Prelude.{filter, find, nat_eq, option_map, reverse}
use Rattle.std.specs.List.{list_any}
use mathlib.Core.List.{reverse-cons}
use Rattle.zb_model.specs.Data.{Role, State, Fresh, Knocked, Joined, Offered, Confirmed, Rejoining, Gone}
use Rattle.zb_model.specs.State.{NodeState, NetKey, last_where, live_of, may_use, live_nets, usable_nets, usable_of}
use Rattle.zb_rows.specs.Asking.{may_use_in}
use Rattle.zb_keys.proofs.FindLemmas.{find_map, last_map}
use Rattle.zb_record.proofs.Lists.{any_map}

-- a row that the program found is the one that the model finds
pub found_in : {X Y : Type 0} (p : Y → Bool) (view : X → Y) (rows : List X) (xs : List Y) (o : Option X)
    → map view rows ≡ xs → o ≡ find (λ x. p (view x)) rows → option_map view o ≡ find p xs
found_in p view rows xs o is found = ap (option_map view) found ∙ sym (find_map p view rows) ∙ ap (find p) is

pub last_in : {X Y : Type 0} (p : Y → Bool) (view : X → Y) (rows : List X) (xs : List Y) (o : Option X)
    → map view rows ≡ xs → o ≡ last_where (λ x. p (view x)) rows → option_map view o ≡ last_where p xs
last_in p view rows xs o is found = ap (option_map view) found ∙ sym (last_map p view rows) ∙ ap (λ l. last_where p l)
    is

pub any_in : {X Y : Type 0} (p : Y → Bool) (view : X → Y) (rows : List X) (xs : List Y) (b : Bool) → map view rows
    ≡ xs → b ≡ list_any (λ x. p (view x)) rows → b ≡ list_any p xs
any_in p view rows xs b is found = found ∙ sym (any_map p view rows) ∙ ap (list_any p) is

-- the last item that satisfies one test among those that satisfy another
find_filtered : {X : Type 0} (p q : X → Bool) (xs : List X) → find q (filter p xs) ≡ find (λ x. p x && q x) xs
find_filtered p q [] = refl
find_filtered p q (x ∷ xs) = at_test (p x) (find_filtered p q xs)
  where
    inner : (c : Bool) → find q (filter p xs) ≡ find (λ y. p y && q y) xs
        → (if c then Some x else find q (filter p xs)) ≡ (if c then Some x else find (λ y. p y && q y) xs)
    inner true e = refl
    inner false e = e

    at_test : (b : Bool) → find q (filter p xs) ≡ find (λ y. p y && q y) xs
        → find q (if b then x ∷ filter p xs else filter p xs)
        ≡ (if b && q x then Some x else find (λ y. p y && q y) xs)
    at_test true e = inner (q x) e
    at_test false e = e

filter_push : {X : Type 0} (p : X → Bool) (xs : List X) (x : X) → filter p (xs ++ x ∷ []) ≡ filter p xs
    ++ (if p x then x ∷ [] else [])
filter_push p [] x = refl
filter_push p (y ∷ ys) x = at_test (p y) (filter_push p ys x)
  where
    at_test : (b : Bool) → filter p (ys ++ x ∷ []) ≡ filter p ys ++ (if p x then x ∷ [] else [])
        → (if b then y ∷ filter p (ys ++ x ∷ []) else filter p (ys ++ x ∷ []))
        ≡ (if b then y ∷ filter p ys else filter p ys) ++ (if p x then x ∷ [] else [])
    at_test true e = ap (λ l. y ∷ l) e
    at_test false e = e

reverse_filter : {X : Type 0} (p : X → Bool) (xs : List X) → reverse (filter p xs) ≡ filter p (reverse xs)
reverse_filter p [] = refl
reverse_filter p (x ∷ xs) = at_test (p x) refl (reverse_filter p xs)
  where
    at_test : (b : Bool) → p x ≡ b → reverse (filter p xs) ≡ filter p (reverse xs)
        → reverse (if b then x ∷ filter p xs else filter p xs) ≡ filter p (reverse (x ∷ xs))
    at_test true is e =
        reverse-cons x (filter p xs) ∙ ap (λ l. l ++ x ∷ []) e
        ∙ sym (ap (filter p) (reverse-cons x xs) ∙ filter_push p (reverse xs) x ∙ ap
        (λ (b : Bool). filter p (reverse xs) ++ (if b then x ∷ [] else [])) is)
    at_test false is e =
        e ∙ sym
        (ap (filter p) (reverse-cons x xs) ∙ filter_push p (reverse xs) x ∙ ap
        (λ (b : Bool). filter p (reverse xs) ++ (if b then x ∷ [] else [])) is ∙ append-nil
        (filter p (reverse xs)))

-- the usable rows are the live ones, or none
pub usable_is : (s : NodeState) (sequence : ℕ) → may_use s ≡ true → live_of s sequence ≡ usable_of s sequence
unfolding usable_of usable_nets live_of
usable_is s sequence is =
    let found : last_where (λ (r : NetKey). nat_eq r.sequence sequence) (live_nets s)
    ≡ last_where (λ (r : NetKey). r.live && nat_eq r.sequence sequence) s.nets =
    ap (find (λ (r : NetKey). nat_eq r.sequence sequence)) (reverse_filter (λ (r : NetKey). r.live) s.nets) ∙
    find_filtered (λ (r : NetKey). r.live) (λ (r : NetKey). nat_eq r.sequence sequence) (reverse s.nets) in
    rw is (sym found)

pub usable_none : (s : NodeState) (sequence : ℕ) → may_use s ≡ false → None ≡ usable_of s sequence
unfolding usable_of usable_nets
usable_none s sequence isnt = rw isnt refl

-- whether network keys may be used depends on the role and the state alone
may_use_at : (s : NodeState) (state : State) → s.state ≡ state → may_use_in s.role state ≡ may_use s
may_use_at s Fresh is = rw is refl
may_use_at s Knocked is = rw is refl
may_use_at s Joined is = rw is refl
may_use_at s Offered is = rw is refl
may_use_at s Confirmed is = rw is refl
may_use_at s Rejoining is = rw is refl
may_use_at s Gone is = rw is refl

pub may_use_is : (s : NodeState) (role : Role) (state : State) → role ≡ s.role → state ≡ s.state
    → may_use_in role state ≡ may_use s
may_use_is s role state role_is state_is = ap (λ r. may_use_in r state) role_is ∙ may_use_at s state (sym state_is)
