-- The counters that an answer's seals use are the next ones of the state after its changes and accepted terms. Only a
-- first counter changes a next counter, and it isn't above that of the active key.
use Rattle.std.proofs.Common.{◌≡◌, ℕ, ◌≤◌, Bool, true, false, if◌then◌else◌, List, [], ◌∷◌, ◌++◌, filter, find, flat_map, Option, Some, None, option_map, option_to_list, refl, sym, ap, ◌∙◌, subst, arith, le_refl, zero-le}
use Rattle.std.specs.Prelude.{nat_le}
use Rattle.std.specs.List.{AllByRecursion}
use Rattle.zb_model.specs.Data.{Bytes, Layer, Nwk, Aps, Term, Move, Active, Edit, Reserve, Floor, Task}
use Rattle.zb_model.specs.State.{NetKey, NodeState, active_row, next_counter, applied_all, shown}
use Rattle.zb_model.specs.Tools.{Tools}
use Rattle.zb_model.specs.Rules.{Plan, Setting}
use Rattle.zb_model.specs.Answer.{Counting, start_edit, move_edits, floor_edit, reserve_edit, moves_of, changes, edits_of, half, first_counter, activated, start_for, is_started_key, counting_of, plan_of, answer_by, answer}
use Rattle.law_answer_seals.specs.Sealing.{before_seals, IsNext, SealsNext}
use Rattle.law_answer_seals.proofs.Rows.{Holds, with_key, On, Gentle, on_applied_all, on_accepted, on_shown, aps_applied_all, aps_accepted, aps_shown}
use Rattle.law_answer_seals.proofs.Along.{active_found, next_is, unspent_nwk, unspent_aps, sending_at, answer_along}

-- the changes of an answer: a first counter is at most the next one

abbrev StartFits : ℕ → Option ℕ → Type 0
StartFits n None = Unit {0}
StartFits n (Some value) = value ≤ n

start_fits : (s : NodeState) (o : Option Bytes) → StartFits (next_counter Nwk s) (start_for s o)
start_fits s None = tt
start_fits s (Some key) = by_start (is_started_key s key)
  where
    first : (b : Bool) → (if b then 0 else next_counter Nwk s) ≤ next_counter Nwk s
    first true = zero-le
    first false = le_refl (next_counter Nwk s)

    by_start : (b : Bool) → StartFits (next_counter Nwk s) (if b then None else Some (first_counter s))
    by_start true = tt
    by_start false = first (nat_le half (next_counter Nwk s))

all_append : {X : Type 0} (P : X → Type 0) (xs ys : List X) → AllByRecursion P xs → AllByRecursion P ys
    → AllByRecursion P (xs ++ ys)
all_append P [] ys a b = b
all_append P (x ∷ xs) ys a b = (a.0, all_append P xs ys a.1 b)

start_gentle : (n : ℕ) (key : Bytes) (o : Option ℕ) → StartFits n o → AllByRecursion (Gentle n) (start_edit key o)
start_gentle n key None f = tt
start_gentle n key (Some value) f = (f, tt)

move_gentle : (n : ℕ) (k : Counting) (m : Move) → StartFits n k.start → AllByRecursion (Gentle n) (move_edits k m)
move_gentle n k (Active key) f = (tt, start_gentle n key k.start f)
move_gentle n k _ f = (tt, tt)

moves_gentle : (n : ℕ) (k : Counting) → StartFits n k.start → (ms : List Move)
    → AllByRecursion (Gentle n) (flat_map (move_edits k) ms)
moves_gentle n k f [] = tt
moves_gentle n k f (m ∷ ms) = all_append (Gentle n) (move_edits k m) (flat_map (move_edits k) ms)
    (move_gentle n k m f) (moves_gentle n k f ms)

floor_gentle : (n : ℕ) (t : Term) (o : Option ℕ)
    → AllByRecursion (Gentle n) (option_to_list (option_map (Floor t.layer t.base t.source) o))
floor_gentle n t None = tt
floor_gentle n t (Some value) = (tt, tt)

floors_gentle : (n : ℕ) (k : Counting) (ts : List Term) → AllByRecursion (Gentle n) (flat_map (floor_edit k) ts)
floors_gentle n k [] = tt
floors_gentle n k (t ∷ ts) = all_append (Gentle n) (floor_edit k t) (flat_map (floor_edit k) ts)
    (floor_gentle n t (k.floor t.layer)) (floors_gentle n k ts)

pub reserve_gentle : (n : ℕ) (layer : Layer) (o : Option ℕ)
    → AllByRecursion (Gentle n) (option_to_list (option_map (Reserve layer) o))
reserve_gentle n layer None = tt
reserve_gentle n layer (Some limit) = (tt, tt)

-- the changes after the reserves
abbrev pub rest_of : Setting → NodeState → Plan → List Edit
rest_of c s p = flat_map (floor_edit (counting_of c s p)) p.accepts
    ++ flat_map (move_edits (counting_of c s p)) (filter (changes s) (moves_of p.outcome))

pub rest_gentle : (c : Setting) (s : NodeState) (p : Plan)
    → AllByRecursion (Gentle (next_counter Nwk s)) (rest_of c s p)
unfolding counting_of
rest_gentle c s p =
    let k = counting_of c s p in
    let moves = filter (changes s) (moves_of p.outcome) in
    all_append (Gentle (next_counter Nwk s)) (flat_map (floor_edit k) p.accepts) (flat_map (move_edits k) moves)
    (floors_gentle (next_counter Nwk s) k p.accepts)
    (moves_gentle (next_counter Nwk s) k (start_fits s (activated s moves)) moves)

edits_gentle : (c : Setting) (s : NodeState) (p : Plan)
    → AllByRecursion (Gentle (next_counter Nwk s)) (edits_of s (counting_of c s p) p)
unfolding edits_of
edits_gentle c s p =
    let k = counting_of c s p in
    let n = next_counter Nwk s in
    all_append (Gentle n) (reserve_edit k Nwk ++ reserve_edit k Aps) (rest_of c s p)
    (all_append (Gentle n) (reserve_edit k Nwk) (reserve_edit k Aps) (reserve_gentle n Nwk (k.reserve Nwk))
    (reserve_gentle n Aps (k.reserve Aps)))
    (rest_gentle c s p)

-- the next counter

abbrev Next : ℕ → ℕ → ℕ → Type 0
Next n next limit = next ≡ n

next_found : (n : ℕ) (o : Option NetKey) → Holds (Next n) o → option_map (λ (r : NetKey). r.next) o ≡ Some n
unfolding Holds
next_found n None h = absurd h
next_found n (Some r) h = ap Some h

pub holds_some : (Q : ℕ → ℕ → Type 0) (o : Option NetKey) (r : NetKey) → o ≡ Some r → Q r.next r.limit → Holds Q o
unfolding Holds
holds_some Q o r e h = subst (Holds Q) (sym e) h

next_left : (tools : Tools) (c : Setting) (s : NodeState) (task : Task) (r : NetKey) → active_row s ≡ Some r
    → On (Next (next_counter Nwk s)) r.key (before_seals (answer tools c s task) s).nets
unfolding answer answer_by
next_left tools c s task r e =
    let n = next_counter Nwk s in
    let p = plan_of tools c s task in
    on_accepted (Next n) r.key p.accepts (shown (applied_all (edits_of s (counting_of c s p) p) s))
    (on_shown (Next n) r.key (applied_all (edits_of s (counting_of c s p) p) s)
    (on_applied_all n (Next n) (λ next limit more le is. is) (λ next limit value le is. omega (arith, le, is)) r.key
    (edits_of s (counting_of c s p) p) s (edits_gentle c s p)
    (holds_some (Next n) (find (with_key r.key) s.nets) r (active_found s r e) (sym (next_is s r e)))))

aps_left : (tools : Tools) (c : Setting) (s : NodeState) (task : Task)
    → (before_seals (answer tools c s task) s).aps_next ≡ next_counter Aps s
unfolding next_counter
aps_left tools c s task =
    let a = answer tools c s task in
    aps_accepted (Next s.aps_next) a.accepts (shown (applied_all a.edits s))
    (aps_shown (Next s.aps_next) (applied_all a.edits s)
    (aps_applied_all (Next s.aps_next) (λ next limit more le is. is) a.edits s refl))

pub answer_next : (tools : Tools) (c : Setting) (s : NodeState) (task : Task)
    → SealsNext (before_seals (answer tools c s task) s) (answer tools c s task).seals
answer_next tools c s task =
    answer_along IsNext tools c s task (before_seals (answer tools c s task) s)
    (λ may seals front label key content.
    record {
      counter_is = ap Some (aps_left tools c s task);
      below_last = unspent_aps s (sending_at tools c s task) may seals;
    })
    (λ may seals r e u same control to bytes. record {
      counter_is = ap (λ (rs : List NetKey). option_map (λ (x : NetKey). x.next) (find (with_key r.key) rs)) same
          ∙ next_found (next_counter Nwk s) (find (with_key r.key) (before_seals (answer tools c s task) s).nets)
          (next_left tools c s task r e);
      below_last = unspent_nwk s (sending_at tools c s task) may seals;
    })
