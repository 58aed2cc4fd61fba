-- The parts of a node's answer to a task: what each change is stored for, and what each accepted and each sealed term
-- calls for.
use Rattle.std.proofs.Common.{◌≡◌, ℕ, ◌<◌, ◌≤◌, ◌+◌, min, Bool, true, false, cond, ◌&&◌, ◌⊎◌, inl, inr, List, [], ◌∷◌, ◌++◌, map, Option, Some, None, nat_eq, nat_lt, nat_le, flat_map, refl, sym, ap, ◌∙◌, subst, arith, lt-ltb, leb-true, leb-false}
use Rattle.std.proofs.lemmas.Bool.{false≢true, and_parts}
use Rattle.std.specs.List.{AllByRecursion}
use Rattle.zb_model.specs.Data.{Bytes, Layer, Nwk, Aps, Term, Task, Move, Draw, DropNet, DropLink, Install, Active, Row, Pair, Became, Live, Removed, Roll, Told, Untold, Edit, Reserve, Floor, Start, Moved}
use Rattle.zb_model.specs.Lines.{Line, Changed, Seal}
use Rattle.zb_model.specs.State.{greatest_counter, NodeState, NetKey, at_net, dropped_net, has_net, new_net, next_counter, same_layer, stored_limit}
use Rattle.zb_model.specs.Tools.{Tools}
use Rattle.zb_model.specs.Rules.{Plan, Sending}
use Rattle.zb_model.specs.Answer.{Answer, Counting, activated, answer_by, counting_of, edits_of, is_started_key, may_seal, plan_of, reserve_of, seals_at, sending_of, start_edit, start_for, stored_floor}
use Rattle.zb_model.specs.Readings.{air, is_up, state_of}
use Rattle.zb_model.specs.Play.{Own, Schedule, answer_step, disk_of, group_of, refuse_lines, refused_step, send_lines, setting_of, step, step_by, stored_lines, task_step, told_lines}
use Rattle.zb_model.specs.Schedules.{IsSchedule, Names}
use Rattle.law_run.specs.Opening.{Opens}
use Rattle.law_run.proofs.EventStates.{answer_to}
use Rattle.law_run.proofs.FreshLines.{all-append}
use Rattle.law_run.proofs.Judged.{AcceptsFit, In, plan-accepts}
use Rattle.law_run.proofs.Runs.{me-of}
use Rattle.law_run.proofs.Sound.{sound}
use Rattle.law_run_counters.specs.Counted.{IsActive, IsCounted, TakesCounter, block_reserved, has_started, reserve_called, reserve_line, start_value}
use Rattle.law_run_counters.proofs.ActiveRows.{moves-fit}
use Rattle.law_run_counters.proofs.Calls.{edits_by, floor_list, floors-own, own_floors, seals-call}
use Rattle.law_run_counters.proofs.Events.{event-counted, step-is}
use Rattle.law_run_counters.proofs.Sections.{kept_moves, reserve_list}
use Rattle.law_run_counters.proofs.Shown.{MovesFit, NoActive, plan-fits}
use Rattle.law_run_counters.proofs.Started.{Bridged}

-- ---- members of lists

pub in_left : {X : Type 0} (x : X) (xs ys : List X) → In x xs → In x (xs ++ ys)
unfolding In
in_left x [] ys i = absurd i
in_left x (z ∷ xs) ys (inl e) = inl e
in_left x (z ∷ xs) ys (inr i) = inr (in_left x xs ys i)

pub in_right : {X : Type 0} (x : X) (xs ys : List X) → In x ys → In x (xs ++ ys)
unfolding In
in_right x [] ys i = i
in_right x (z ∷ xs) ys i = inr (in_right x xs ys i)

pub in_map : {X Y : Type 0} (f : X → Y) (x : X) (xs : List X) → In x xs → In (f x) (map f xs)
unfolding In
in_map f x [] i = absurd i
in_map f x (z ∷ xs) (inl e) = inl (ap f e)
in_map f x (z ∷ xs) (inr i) = inr (in_map f x xs i)

in_flat : {X Y : Type 0} (f : X → List Y) (y : Y) (x : X) (xs : List X) → In y (f x) → In x xs → In y (flat_map f xs)
unfolding In
in_flat f y x [] there i = absurd i
in_flat f y x (z ∷ xs) there (inl e) = in_left y (f z) (flat_map f xs) (subst (λ u. In y (f u)) (sym e) there)
in_flat f y x (z ∷ xs) there (inr i) = in_right y (f z) (flat_map f xs) (in_flat f y x xs there i)

pub each_in : {X : Type 0} (P : X → Type 0) (xs : List X) → ((x : X) → In x xs → P x) → AllByRecursion P xs
unfolding In
each_in P [] f = tt
each_in P (x ∷ xs) f = (f x (inl refl), each_in P xs (λ y i. f y (inr i)))

-- ---- whether there are any

abbrev is_there : {X : Type 0} → List X → Bool
is_there [] = false
is_there (x ∷ xs) = true

there_left : {X : Type 0} (xs ys : List X) → is_there xs ≡ true → is_there (xs ++ ys) ≡ true
there_left [] ys e = absurd (false≢true e)
there_left (x ∷ xs) ys e = refl

there_right : {X : Type 0} (xs ys : List X) → is_there ys ≡ true → is_there (xs ++ ys) ≡ true
there_right [] ys e = e
there_right (x ∷ xs) ys e = refl

there_flat : {X Y : Type 0} (f : X → List Y) (x : X) (xs : List X) → is_there (f x) ≡ true → In x xs
    → is_there (flat_map f xs) ≡ true
unfolding In
there_flat f x [] there i = absurd i
there_flat f x (z ∷ xs) there (inl e) =
    there_left (f z) (flat_map f xs) (subst (λ u. is_there (f u) ≡ true) (sym e) there)
there_flat f x (z ∷ xs) there (inr i) = there_right (f z) (flat_map f xs) (there_flat f x xs there i)

-- ---- layers

layer_same : (l : Layer) → same_layer l l ≡ true
layer_same Nwk = refl
layer_same Aps = refl

layers_are : (a b : Layer) → same_layer a b ≡ true → a ≡ b
layers_are Nwk Nwk e = refl
layers_are Nwk Aps e = absurd (false≢true e)
layers_are Aps Nwk e = absurd (false≢true e)
layers_are Aps Aps e = refl

apart_layers : (t u : Term) → t.layer ≡ Nwk → u.layer ≡ Aps → u.layer ≡ t.layer → ⊥
apart_layers t u a b e =
    false≢true (ap (λ l. same_layer l Aps) (sym a) ∙ ap (λ l. same_layer l Aps) (sym e) ∙ ap (λ l. same_layer l Aps) b)

-- ---- what is stored for what

-- A floor is one incoming block above each accepted counter of its layer, none of which is below the stored floor;
-- one of these terms is of its key and sender.
pub record FloorFits (block : ℕ) (s : NodeState) (accepts : List Term) (layer : Layer) (key : Bytes)
    (from value : ℕ) : Type 0 where
  pub term : Term
  pub there : In term accepts
  pub layer_is : term.layer ≡ layer
  pub base_is : term.base ≡ key
  pub source_is : term.source ≡ from
  pub each : (u : Term) → In u accepts → u.layer ≡ layer → (nat_le (stored_floor term s) u.counter ≡ true)
      × (value ≡ min (u.counter + block) greatest_counter)
  pub rises : nat_lt (stored_floor term s) value ≡ true

-- A reserve is for a sealed term of its layer, if the next counter has reached the limit. A start comes with the
-- change that makes its key active, and that change has one unless the key has started.
unfoldable pub EditFits : Schedule → List Line → ℕ → Answer → Edit → Type 0
EditFits w h n a (Reserve layer value) =
    (nat_eq (next_counter layer (state_of h n)) (stored_limit layer (state_of h n)) ≡ true)
    × (value ≡ block_reserved w (state_of h n) n layer) × ((t : Term) × In t a.seals × (t.layer ≡ layer))
EditFits w h n a (Floor layer key from value) = FloorFits (setting_of w n).me.in_block (state_of h n) a.accepts layer
    key from value
EditFits w h n a (Start key value) = (has_started h n key ≡ false) × (value ≡ start_value (state_of h n))
    × In (Moved (Active key)) a.edits
EditFits w h n a (Moved (Active key)) = (has_started h n key ≡ true) ⊎ ((value : ℕ) × In (Start key value) a.edits)
EditFits w h n a _ = Unit {0}

-- An accepted term has a floor, unless its counter is below the stored one.
abbrev pub AcceptFits : List Line → ℕ → Answer → Term → Type 0
AcceptFits h n a t = (nat_lt t.counter (stored_floor t (state_of h n)) ≡ true)
    ⊎ ((value : ℕ) × In (Floor t.layer t.base t.source value) a.edits)

-- A sealed term has the next counter, at NWK under the active key, and a reserve if that counter has reached the
-- limit.
pub record SealFits (h : List Line) (n : ℕ) (a : Answer) (t : Term) : Type 0 where
  pub counter : t.counter ≡ next_counter t.layer (state_of h n)
  pub under : IsActive t.layer t.base (state_of h n)
  pub reserve : (nat_eq (next_counter t.layer (state_of h n)) (stored_limit t.layer (state_of h n)) ≡ false)
      ⊎ ((value : ℕ) × In (Reserve t.layer value) a.edits)

pub record AnswerFits (w : Schedule) (h : List Line) (n : ℕ) (a : Answer) : Type 0 where
  pub edits : AllByRecursion (EditFits w h n a) a.edits
  pub accepts : AllByRecursion (AcceptFits h n a) a.accepts
  pub seals : AllByRecursion (SealFits h n a) a.seals

-- ---- reserves

there_map : {X Y : Type 0} (f : X → Y) (xs : List X) → is_there (map f xs) ≡ true → is_there xs ≡ true
there_map f [] e = e
there_map f (x ∷ xs) e = refl

abbrev SealOf : Layer → List Term → Type 0
SealOf layer ts = (t : Term) × In t ts × (t.layer ≡ layer)

-- if a reserve is called for, one of the terms is of the layer
called_by : (due rest : List Line) (layer : Layer) (t : Term) (ts : List Term) (b : Bool) → same_layer t.layer layer
    ≡ b → (is_there rest ≡ true → SealOf layer ts) → is_there (cond b due [] ++ rest) ≡ true → SealOf layer (t ∷ ts)
unfolding In
called_by due rest layer t ts true is more e = (t, inl refl, layers_are t.layer layer is)
called_by due rest layer t ts false is more e = let found = more e in (found.0, inr found.1, found.2)

sealed_for : (w : Schedule) (h : List Line) (number n : ℕ) (layer : Layer) (ts : List Term)
    → is_there (flat_map (λ t. reserve_called w h layer (Seal number n t)) ts) ≡ true → SealOf layer ts
sealed_for w h number n layer [] e = absurd (false≢true e)
sealed_for w h number n layer (t ∷ ts) e =
    called_by (reserve_line w (state_of h n) number n layer)
    (flat_map (λ u. reserve_called w h layer (Seal number n u)) ts) layer t ts (same_layer t.layer layer) refl
    (sealed_for w h number n layer ts) e

reserve_fits : (w : Schedule) (h : List Line) (n : ℕ) (a : Answer) (send : Option Sending) (layer : Layer)
    → (is_there (reserve_list layer (reserve_of (setting_of w n) (state_of h n) send layer)) ≡ true
    → SealOf layer a.seals)
    → AllByRecursion (EditFits w h n a) (reserve_list layer (reserve_of (setting_of w n) (state_of h n) send layer))
unfolding reserve_of EditFits
reserve_fits w h n a send layer sealed =
    by_test (seals_at layer send && (may_seal s send && nat_eq (next_counter layer s) (stored_limit layer s))) refl
    sealed
  where
    s : NodeState
    s = state_of h n

    value : ℕ
    value = min (next_counter layer s + (setting_of w n).me.out_block) greatest_counter

    by_test : (b : Bool)
        → (seals_at layer send && (may_seal s send && nat_eq (next_counter layer s) (stored_limit layer s))) ≡ b
        → (is_there (reserve_list layer (cond b (Some value) None)) ≡ true → SealOf layer a.seals)
        → AllByRecursion (EditFits w h n a) (reserve_list layer (cond b (Some value) None))
    by_test true is sealed =
        let first =
        and_parts (seals_at layer send) (may_seal s send && nat_eq (next_counter layer s) (stored_limit layer s))
        is in
        let second = and_parts (may_seal s send) (nat_eq (next_counter layer s) (stored_limit layer s)) first.1 in
        ((second.1, refl, sealed refl), tt)
    by_test false is sealed = tt

listed_in : (layer : Layer) (o : Option ℕ) → is_there (reserve_list layer o) ≡ true → (v : ℕ)
    × In (Reserve layer v) (reserve_list layer o)
unfolding In
listed_in layer None e = absurd (false≢true e)
listed_in layer (Some v) e = (v, inl refl)

-- a sealed term calls for a reserve of its layer if the next counter has reached the limit
seal_calls : (w : Schedule) (h : List Line) (number n : ℕ) (t : Term) (ts : List Term) → In t ts → (o : Option ℕ)
    → (is_there (flat_map (λ u. reserve_called w h t.layer (Seal number n u)) ts) ≡ true
    → is_there (reserve_list t.layer o) ≡ true)
    → (nat_eq (next_counter t.layer (state_of h n)) (stored_limit t.layer (state_of h n)) ≡ false)
    ⊎ ((value : ℕ) × In (Reserve t.layer value) (reserve_list t.layer o))
seal_calls w h number n t ts i o listed = by_test (nat_eq (next_counter t.layer s) (stored_limit t.layer s)) refl
  where
    s : NodeState
    s = state_of h n

    due : List Line
    due = Changed number n (Reserve t.layer (block_reserved w s n t.layer)) ∷ []

    by_test : (b : Bool) → nat_eq (next_counter t.layer s) (stored_limit t.layer s) ≡ b
        → (nat_eq (next_counter t.layer s) (stored_limit t.layer s) ≡ false)
        ⊎ ((value : ℕ) × In (Reserve t.layer value) (reserve_list t.layer o))
    by_test true is =
        let called : is_there (reserve_called w h t.layer (Seal number n t)) ≡ true =
        ap (λ b. is_there (cond b (reserve_line w s number n t.layer) [])) (layer_same t.layer) ∙ ap
        (λ b. is_there (cond b due [])) is in
        inr (listed_in t.layer o
        (listed (there_flat (λ u. reserve_called w h t.layer (Seal number n u)) t ts called i)))
    by_test false is = inl is

-- ---- floors

small : (s : NodeState) (ts : List Term) → AcceptsFit s ts → (t : Term) → In t ts → t.counter < greatest_counter
unfolding In
small s [] f t i = absurd i
small s (x ∷ []) (inl j) t (inl e) = subst (λ y. y.counter < greatest_counter) e j.small
small s (x ∷ []) (inr j) t (inl e) = subst (λ y. y.counter < greatest_counter) e j.small
small s (x ∷ []) f t (inr i) = absurd i
small s (x ∷ y ∷ []) f t (inl e) = subst (λ z. z.counter < greatest_counter) e f.0.small
small s (x ∷ y ∷ []) f t (inr (inl e)) = subst (λ z. z.counter < greatest_counter) e f.1.small
small s (x ∷ y ∷ []) f t (inr (inr i)) = absurd i
small s (x ∷ y ∷ z ∷ ts) f t i = absurd f

-- at most one term is accepted at each layer
alone : (s : NodeState) (ts : List Term) → AcceptsFit s ts → (t u : Term) → In t ts → In u ts → u.layer ≡ t.layer → u
    ≡ t
unfolding In
alone s [] f t u i j e = absurd i
alone s (x ∷ []) f t u (inl p) (inl q) e = sym q ∙ p
alone s (x ∷ []) f t u (inl p) (inr j) e = absurd j
alone s (x ∷ []) f t u (inr i) j e = absurd i
alone s (x ∷ y ∷ []) f t u (inl p) (inl q) e = sym q ∙ p
alone s (x ∷ y ∷ []) f t u (inl p) (inr (inl q)) e =
    absurd (apart_layers x y f.0.at f.1.at (ap (λ z. z.layer) q ∙ e ∙ ap (λ z. z.layer) (sym p)))
alone s (x ∷ y ∷ []) f t u (inl p) (inr (inr j)) e = absurd j
alone s (x ∷ y ∷ []) f t u (inr (inl p)) (inl q) e =
    absurd (apart_layers x y f.0.at f.1.at (ap (λ z. z.layer) p ∙ sym e ∙ ap (λ z. z.layer) (sym q)))
alone s (x ∷ y ∷ []) f t u (inr (inl p)) (inr (inl q)) e = sym q ∙ p
alone s (x ∷ y ∷ []) f t u (inr (inl p)) (inr (inr j)) e = absurd j
alone s (x ∷ y ∷ []) f t u (inr (inr i)) j e = absurd i
alone s (x ∷ y ∷ z ∷ ts) f t u i j e = absurd f

abbrev ahead : Schedule → ℕ → Term → ℕ
ahead w n t = min (t.counter + (setting_of w n).me.in_block) greatest_counter

one_floor : (w : Schedule) (h : List Line) (n : ℕ) (a : Answer) → 0 < (setting_of w n).me.in_block
    → AcceptsFit (state_of h n) a.accepts → (t : Term) → In t a.accepts → (b : Bool)
    → nat_le (stored_floor t (state_of h n)) t.counter ≡ b
    → AllByRecursion (EditFits w h n a) (floor_list t (cond b (Some (ahead w n t)) None))
unfolding EditFits
one_floor w h n a block fit t i true is =
    let s = state_of h n in
    let most : stored_floor t s ≤ t.counter = leb-true (stored_floor t s) t.counter is in
    let less : t.counter < greatest_counter = small s a.accepts fit t i in
    let risen : stored_floor t s < ahead w n t = omega (arith, most, less, block) in (
      record {
        term = t;
        there = i;
        layer_is = refl;
        base_is = refl;
        source_is = refl;
        each = λ u j e. subst (λ v. (nat_le (stored_floor t s) v.counter ≡ true) × (ahead w n t ≡ ahead w n v))
            (sym (alone s a.accepts fit t u i j e)) (is, refl);
        rises = lt-ltb (stored_floor t s) (ahead w n t) risen;
      },
      tt,
    )
one_floor w h n a block fit t i false is = tt

floors_fit : (w : Schedule) (h : List Line) (n : ℕ) (a : Answer) → 0 < (setting_of w n).me.in_block
    → AcceptsFit (state_of h n) a.accepts → (ts : List Term) → ((t : Term) → In t ts → In t a.accepts)
    → AllByRecursion (EditFits w h n a) (own_floors (setting_of w n) (state_of h n) ts)
unfolding In
floors_fit w h n a block fit [] of = tt
floors_fit w h n a block fit (t ∷ ts) of =
    all-append (EditFits w h n a)
    (floor_list t (cond (nat_le (stored_floor t (state_of h n)) t.counter) (Some (ahead w n t)) None))
    (own_floors (setting_of w n) (state_of h n) ts)
    (one_floor w h n a block fit t (of t (inl refl)) (nat_le (stored_floor t (state_of h n)) t.counter) refl)
    (floors_fit w h n a block fit ts (λ u i. of u (inr i)))

-- an accepted term has its floor, unless its counter is below the stored one
accept_fits : (w : Schedule) (h : List Line) (n : ℕ) (t : Term) (ts : List Term) → In t ts
    → (nat_lt t.counter (stored_floor t (state_of h n)) ≡ true)
    ⊎ ((value : ℕ) × In (Floor t.layer t.base t.source value) (own_floors (setting_of w n) (state_of h n) ts))
unfolding In
accept_fits w h n t ts i = by_test (nat_le (stored_floor t s) t.counter) refl
  where
    s : NodeState
    s = state_of h n

    by_test : (b : Bool) → nat_le (stored_floor t s) t.counter ≡ b → (nat_lt t.counter (stored_floor t s) ≡ true)
        ⊎ ((value : ℕ) × In (Floor t.layer t.base t.source value) (own_floors (setting_of w n) s ts))
    by_test true is =
        let listed : In (Floor t.layer t.base t.source (ahead w n t))
        (floor_list t (cond (nat_le (stored_floor t s) t.counter) (Some (ahead w n t)) None)) =
        subst (λ b. In (Floor t.layer t.base t.source (ahead w n t))
        (floor_list t (cond b (Some (ahead w n t)) None))) (sym is) (inl refl) in
        inr (
          ahead w n t,
          in_flat (λ u. floor_list u (cond (nat_le (stored_floor u s) u.counter) (Some (ahead w n u)) None))
              (Floor t.layer t.base t.source (ahead w n t)) t ts listed i,
        )
    by_test false is = let more : t.counter < stored_floor t s = leb-false (stored_floor t s) t.counter is in inl
        (lt-ltb t.counter (stored_floor t s) more)

-- ---- starts

-- moves that make nothing active
none_active : (w : Schedule) (h : List Line) (n : ℕ) (a : Answer) (k : Counting) (ms : List Move)
    → AllByRecursion NoActive ms → AllByRecursion (EditFits w h n a) (edits_by k ms)
unfolding EditFits
none_active w h n a k [] all = tt
none_active w h n a k (Active key ∷ ms) all = absurd all.0
none_active w h n a k (Draw key ∷ ms) all = (tt, none_active w h n a k ms all.1)
none_active w h n a k (DropNet key ∷ ms) all = (tt, none_active w h n a k ms all.1)
none_active w h n a k (DropLink p key ∷ ms) all = (tt, none_active w h n a k ms all.1)
none_active w h n a k (Install key q ∷ ms) all = (tt, none_active w h n a k ms all.1)
none_active w h n a k (Row p key t ∷ ms) all = (tt, none_active w h n a k ms all.1)
none_active w h n a k (Pair x y key ∷ ms) all = (tt, none_active w h n a k ms all.1)
none_active w h n a k (Became g ∷ ms) all = (tt, none_active w h n a k ms all.1)
none_active w h n a k (Live d ∷ ms) all = (tt, none_active w h n a k ms all.1)
none_active w h n a k (Removed d ∷ ms) all = (tt, none_active w h n a k ms all.1)
none_active w h n a k (Roll b ∷ ms) all = (tt, none_active w h n a k ms all.1)
none_active w h n a k (Told d ∷ ms) all = (tt, none_active w h n a k ms all.1)
none_active w h n a k (Untold d ∷ ms) all = (tt, none_active w h n a k ms all.1)

-- a key that becomes active and the change after it, its start, if it has none yet
activates : (w : Schedule) (h : List Line) (n : ℕ) (a : Answer) (key : Bytes) (rest : List Edit) (b : Bool)
    → has_started h n key ≡ b → AllByRecursion (EditFits w h n a) rest
    → ((e : Edit)
    → In e (Moved (Active key) ∷ (start_edit key (cond b None (Some (start_value (state_of h n)))) ++ rest))
    → In e a.edits)
    → AllByRecursion (EditFits w h n a)
    (Moved (Active key) ∷ (start_edit key (cond b None (Some (start_value (state_of h n)))) ++ rest))
unfolding EditFits In
activates w h n a key rest true is all of = (inl is, all)
activates w h n a key rest false is all of = (
  inr (start_value (state_of h n), of (Start key (start_value (state_of h n))) (inr (inl refl))),
  ((is, refl, of (Moved (Active key)) (inl refl)), all),
)

starts_fit : (w : Schedule) (h : List Line) (n : ℕ) (a : Answer) (k : Counting)
    → ((key : Bytes) → is_started_key (state_of h n) key ≡ has_started h n key)
    → (nets : List NetKey) (ms : List Move) → MovesFit nets ms
    → k.start ≡ start_for (state_of h n) (activated (state_of h n) ms)
    → ((e : Edit) → In e (edits_by k ms) → In e a.edits) → AllByRecursion (EditFits w h n a) (edits_by k ms)
unfolding EditFits In
starts_fit w h n a k same nets [] f e of = tt
starts_fit w h n a k same nets (Active key ∷ ms) f e of =
    let is : k.start ≡ cond (has_started h n key) None (Some (start_value (state_of h n))) =
    e ∙ ap (λ b. cond b None (Some (start_value (state_of h n)))) (same key) in
    subst (λ o. AllByRecursion (EditFits w h n a) (Moved (Active key) ∷ (start_edit key o ++ edits_by k ms))) (sym is)
    (activates w h n a key (edits_by k ms) (has_started h n key) refl (none_active w h n a k ms f.1)
    (subst (λ o. (x : Edit) → In x (Moved (Active key) ∷ (start_edit key o ++ edits_by k ms)) → In x a.edits) is of))
starts_fit w h n a k same nets (Draw key ∷ ms) f e of =
    (tt, starts_fit w h n a k same nets ms f e (λ x i. of x (inr i)))
starts_fit w h n a k same nets (DropNet key ∷ ms) f e of =
    (tt, starts_fit w h n a k same (at_net key dropped_net nets) ms f e (λ x i. of x (inr i)))
starts_fit w h n a k same nets (DropLink p key ∷ ms) f e of =
    (tt, starts_fit w h n a k same nets ms f e (λ x i. of x (inr i)))
starts_fit w h n a k same nets (Install key q ∷ ms) f e of = (
  tt,
  starts_fit w h n a k same (cond (has_net key nets) nets (nets ++ new_net key q ∷ [])) ms f e
      (λ x i. of x (inr i)),
)
starts_fit w h n a k same nets (Row p key t ∷ ms) f e of =
    (tt, starts_fit w h n a k same nets ms f e (λ x i. of x (inr i)))
starts_fit w h n a k same nets (Pair x y key ∷ ms) f e of =
    (tt, starts_fit w h n a k same nets ms f e (λ x i. of x (inr i)))
starts_fit w h n a k same nets (Became g ∷ ms) f e of =
    (tt, starts_fit w h n a k same nets ms f e (λ x i. of x (inr i)))
starts_fit w h n a k same nets (Live d ∷ ms) f e of = (tt, starts_fit w h n a k same nets ms f e (λ x i. of x (inr i)))
starts_fit w h n a k same nets (Removed d ∷ ms) f e of =
    (tt, starts_fit w h n a k same nets ms f e (λ x i. of x (inr i)))
starts_fit w h n a k same nets (Roll b ∷ ms) f e of = (tt, starts_fit w h n a k same nets ms f e (λ x i. of x (inr i)))
starts_fit w h n a k same nets (Told d ∷ ms) f e of = (tt, starts_fit w h n a k same nets ms f e (λ x i. of x (inr i)))
starts_fit w h n a k same nets (Untold d ∷ ms) f e of =
    (tt, starts_fit w h n a k same nets ms f e (λ x i. of x (inr i)))

-- ---- seals

all_left : {X : Type 0} (P : X → Type 0) (xs ys : List X) → AllByRecursion P (xs ++ ys) → AllByRecursion P xs
all_left P [] ys all = tt
all_left P (x ∷ xs) ys all = (all.0, all_left P xs ys all.1)

all_right : {X : Type 0} (P : X → Type 0) (xs ys : List X) → AllByRecursion P (xs ++ ys) → AllByRecursion P ys
all_right P [] ys all = all
all_right P (x ∷ xs) ys all = all_right P xs ys all.1

abbrev Taken : List Line → ℕ → ℕ → List Term → Type 0
Taken h number n ts = AllByRecursion (TakesCounter h) (map (Seal number n) ts)

taken_in : (h : List Line) (number n : ℕ) (a : Answer) → AllByRecursion (TakesCounter h) (group_of h number n a)
    → Taken h number n a.seals
unfolding group_of told_lines
taken_in h number n a all =
    let send = send_lines number (Some n) (Rattle.std.specs.Prelude.length (air h) + 1) a.frame in
    let refusal = refuse_lines number n a.place a.refusal in
    all_left (TakesCounter h) (map (Seal number n) a.seals) send
    (all_right (TakesCounter h) refusal (map (Seal number n) a.seals ++ send)
    (all_right (TakesCounter h) (map (Rattle.zb_model.specs.Lines.Accept number n) a.accepts)
    (refusal ++ (map (Seal number n) a.seals ++ send))
    (all_right (TakesCounter h) (stored_lines number n a) _ all)))

whole_taken : (h : List Line) (number n : ℕ) (a : Answer) (b : Bool) → b ≡ true
    → AllByRecursion (TakesCounter h)
    (cond b (answer_step h [] number n a) (refused_step [] number n Rattle.zb_model.specs.Data.Down)).lines
    → Taken h number n a.seals
unfolding disk_of
whole_taken h number n a true up all = taken_in h number n a all
whole_taken h number n a false up all = absurd (false≢true up)

-- each sealed term uses the next counter
seals_taken : (tools : Tools) → Opens tools → (w : Schedule) (h : List Line) (number n : ℕ) (task : Task) → Bridged h
    → is_up h n ≡ true → Taken h number n (answer_to tools w h n task).seals
unfolding step step_by task_step
seals_taken tools opens w h number n task bridged up =
    let counted : IsCounted w h (step tools w h [] number (Own n task)).lines =
    subst (λ g. IsCounted w h g.lines) (step-is tools w h [] number (Own n task))
    (event-counted tools opens w h number (Own n task) bridged) in
    whole_taken h number n (answer_to tools w h n task) (is_up h n) up counted.seals

seals_fit : (h : List Line) (number n : ℕ) (a : Answer) (ts : List Term) → Taken h number n ts
    → ((t : Term) → In t ts
    → (nat_eq (next_counter t.layer (state_of h n)) (stored_limit t.layer (state_of h n)) ≡ false)
    ⊎ ((value : ℕ) × In (Reserve t.layer value) a.edits)) → AllByRecursion (SealFits h n a) ts
unfolding In
seals_fit h number n a [] taken reserved = tt
seals_fit h number n a (t ∷ ts) taken reserved = (
  record { counter = taken.0.0; under = taken.0.1; reserve = reserved t (inl refl) },
  seals_fit h number n a ts taken.1 (λ u i. reserved u (inr i)),
)

-- ---- the answer

abbrev plan : Tools → Schedule → List Line → ℕ → Task → Plan
plan tools w h n task = plan_of tools (setting_of w n) (state_of h n) task

abbrev counts : Tools → Schedule → List Line → ℕ → Task → Counting
counts tools w h n task = counting_of (setting_of w n) (state_of h n) (plan tools w h n task)

abbrev reserves : Schedule → List Line → ℕ → Plan → List Edit
reserves w h n p = reserve_list Nwk (reserve_of (setting_of w n) (state_of h n) (sending_of p.outcome) Nwk)
    ++ reserve_list Aps (reserve_of (setting_of w n) (state_of h n) (sending_of p.outcome) Aps)

-- the changes of an answer: reserves, floors, and those of the rule with its start
edits_are : (tools : Tools) → Opens tools → (w : Schedule) (h : List Line) (n : ℕ) (task : Task)
    → (answer_to tools w h n task).edits ≡ reserves w h n (plan tools w h n task)
    ++ (own_floors (setting_of w n) (state_of h n) (plan tools w h n task).accepts
    ++ edits_by (counts tools w h n task) (kept_moves (state_of h n) (plan tools w h n task)))
unfolding answer_by edits_of counting_of
edits_are tools opens w h n task =
    let p = plan tools w h n task in
    ap (λ es. reserves w h n p ++ (es ++ edits_by (counts tools w h n task) (kept_moves (state_of h n) p)))
    (floors-own (setting_of w n) (state_of h n) (state_of h n) p.accepts
    (plan-accepts tools opens (setting_of w n) (state_of h n) (sound h n) task))

-- the reserve of a layer is among the reserves
reserve_in : (w : Schedule) (h : List Line) (n : ℕ) (p : Plan) (rest : List Edit) (layer : Layer) (e : Edit)
    → In e (reserve_list layer (reserve_of (setting_of w n) (state_of h n) (sending_of p.outcome) layer))
    → In e (reserves w h n p ++ rest)
reserve_in w h n p rest Nwk e i =
    let o = reserve_of (setting_of w n) (state_of h n) (sending_of p.outcome) in
    in_left e (reserves w h n p) rest (in_left e (reserve_list Nwk (o Nwk)) (reserve_list Aps (o Aps)) i)
reserve_in w h n p rest Aps e i =
    let o = reserve_of (setting_of w n) (state_of h n) (sending_of p.outcome) in
    in_left e (reserves w h n p) rest (in_right e (reserve_list Nwk (o Nwk)) (reserve_list Aps (o Aps)) i)

-- the sealed terms call for exactly the reserves
calls_are : (tools : Tools) (w : Schedule) (h : List Line) (number n : ℕ) (task : Task) (layer : Layer)
    → flat_map (λ t. reserve_called w h layer (Seal number n t)) (answer_to tools w h n task).seals
    ≡ map (Changed number n)
    (reserve_list layer
    (reserve_of (setting_of w n) (state_of h n) (sending_of (plan tools w h n task).outcome) layer))
unfolding answer_by
calls_are tools w h number n task layer = seals-call tools w h number n (counts tools w h n task)
    (sending_of (plan tools w h n task).outcome) layer

pub answer_fits : (tools : Tools) → Opens tools → (w : Schedule) → IsSchedule w
    → (h : List Line) (number n : ℕ) (task : Task) → Names w n → Bridged h → is_up h n ≡ true
    → AnswerFits w h n (answer_to tools w h n task)
unfolding answer_by counting_of
answer_fits tools opens w i h number n task named bridged up =
    let s = state_of h n in
    let c = setting_of w n in
    let p = plan tools w h n task in
    let k = counts tools w h n task in
    let a = answer_to tools w h n task in
    let o = reserve_of c s (sending_of p.outcome) in
    let floors = own_floors c s p.accepts in
    let moves = edits_by k (kept_moves s p) in
    let fit = plan-accepts tools opens c s (sound h n) task in
    let all = reserves w h n p ++ (floors ++ moves) in
    let same : a.edits ≡ all = edits_are tools opens w h n task in
    let there : (e : Edit) → In e all → In e a.edits = λ e j. subst (λ es. In e es) (sym same) j in
    let sealed : (layer : Layer) → is_there (reserve_list layer (o layer)) ≡ true → SealOf layer a.seals =
    λ layer e. sealed_for w h number n layer a.seals
    (ap is_there (calls_are tools w h number n task layer) ∙ there_on (Changed number n)
    (reserve_list layer (o layer)) e) in
    record {
      edits = subst (λ es. AllByRecursion (EditFits w h n a) es) (sym same)
          (all-append (EditFits w h n a) (reserves w h n p) (floors ++ moves)
          (all-append (EditFits w h n a) (reserve_list Nwk (o Nwk)) (reserve_list Aps (o Aps))
          (reserve_fits w h n a (sending_of p.outcome) Nwk (sealed Nwk))
          (reserve_fits w h n a (sending_of p.outcome) Aps (sealed Aps)))
          (all-append (EditFits w h n a) floors moves
          (floors_fit w h n a (me-of w i n named).in_block fit p.accepts (λ t j. j))
          (starts_fit w h n a k (bridged n) s.nets (kept_moves s p) (moves-fit s p.outcome (plan-fits tools c s task))
          refl
          (λ e j. there e (in_right e (reserves w h n p) (floors ++ moves) (in_right e floors moves j))))));
      accepts =
          each_in (AcceptFits h n a) p.accepts
          (λ t j. accepted (nat_lt t.counter (stored_floor t s) ≡ true) t floors a.edits
          (λ e m. there e (in_right e (reserves w h n p) (floors ++ moves) (in_left e floors moves m)))
          (accept_fits w h n t p.accepts j));
      seals = seals_fit h number n a a.seals (seals_taken tools opens w h number n task bridged up) (λ t j.
          reserved (nat_eq (next_counter t.layer s) (stored_limit t.layer s) ≡ false) t
          (reserve_list t.layer (o t.layer)) a.edits
          (λ e m. there e (reserve_in w h n p (floors ++ moves) t.layer e m))
          (seal_calls w h number n t a.seals j (o t.layer)
          (λ e. there_map (Changed number n) (reserve_list t.layer (o t.layer))
          (sym (ap is_there (calls_are tools w h number n task t.layer)) ∙ e))));
    }
  where
    there_on : {X Y : Type 0} (f : X → Y) (xs : List X) → is_there xs ≡ true → is_there (map f xs) ≡ true
    there_on f [] e = e
    there_on f (x ∷ xs) e = refl

    accepted : (B : Type 0) (t : Term) (es fs : List Edit) → ((e : Edit) → In e es → In e fs) → B
        ⊎ ((value : ℕ) × In (Floor t.layer t.base t.source value) es) → B
        ⊎ ((value : ℕ) × In (Floor t.layer t.base t.source value) fs)
    accepted B t es fs f (inl e) = inl e
    accepted B t es fs f (inr v) = inr (v.0, f (Floor t.layer t.base t.source v.0) v.1)

    reserved : (B : Type 0) (t : Term) (es fs : List Edit) → ((e : Edit) → In e es → In e fs) → B
        ⊎ ((value : ℕ) × In (Reserve t.layer value) es) → B ⊎ ((value : ℕ) × In (Reserve t.layer value) fs)
    reserved B t es fs f (inl e) = inl e
    reserved B t es fs f (inr v) = inr (v.0, f (Reserve t.layer v.0) v.1)
