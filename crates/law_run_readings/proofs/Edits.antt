-- After the changes of an answer, what lines say of a node is still what its state says.
use Rattle.std.proofs.Common.{◌≡◌, ℕ, ◌≤◌, ◌<◌, ◌+◌, min, Bool, true, false, cond, not, ◌&&◌, ◌||◌, List, [], ◌∷◌, ◌++◌, map, filter, Option, Some, None, option_map, find, flat_map, is_some, nat_eq, nat_le, refl, sym, ap, ◌∙◌, subst, arith, leb-true, inl, inr, ◌⊎◌}
use Rattle.std.specs.Prelude.{option_to_list}
use Rattle.std.specs.List.{AllByRecursion, list_any}
use Rattle.std.proofs.lemmas.Bool.{false≢true, and_parts}
use Rattle.zb_model.specs.Data.{Bytes, Layer, Nwk, Aps, Move, Draw, DropNet, DropLink, Install, Active, Row, Pair, Became, Live, Removed, Roll, Told, Untold, Edit, Reserve, Floor, Start, Moved}
use Rattle.zb_model.specs.State.{greatest_counter, NetKey, LinkKey, NodeState, same_key, is_active_key, is_link, has_net, net_of, net_of_active, active_row, of_active, reserved, net_floor, started_at, next_counter, stored_limit, limit_of, next_of, applied, applied_all}
use Rattle.zb_model.specs.Fits.{net_stored, link_stored, row_is_live, live_net, live_link, net_limit, fits, all_fit, keeps_rules}
use Rattle.zb_model.specs.Rules.{Setting, Plan, Sending}
use Rattle.zb_model.specs.Answer.{Counting, half, row_is_started, is_started_key, start_edit, floor_edit, edits_of, reserve_of, sending_of, seals_at, may_seal, counting_of, start_for, activated, first_counter}
use Rattle.law_run.proofs.Counters.{none-some}
use Rattle.law_run.proofs.FloorRows.{Sorted}
use Rattle.law_run.proofs.Sound.{Sound, sound-applied}
use Rattle.law_run_counters.proofs.Sections.{IsFloor, are-floors, kept_moves}
use Rattle.law_run_counters.proofs.Calls.{edits_by}
use Rattle.law_run_counters.proofs.Shown.{MovesFit, NoActive}
use Rattle.law_run_counters.proofs.Started.{started, ActiveStarted, reserve-same, started-moved, started-at, plain-row}
use Rattle.law_run_readings.proofs.Rows.{row_at, link_at}
use Rattle.law_run_readings.proofs.Steps.{FitsReserve, FitsStart, FitsEdit}

-- each change fits, in the state after those before it
abbrev pub FitEdits : (Bytes → Bool) → List Edit → NodeState → Type 0
FitEdits was [] s = Unit {0}
FitEdits was (e ∷ es) s = FitsEdit was e s × FitEdits was es (applied e s)

fit_more : (was : Bytes → Bool) (xs ys : List Edit) (s : NodeState) → FitEdits was xs s
    → FitEdits was ys (applied_all xs s) → FitEdits was (xs ++ ys) s
unfolding applied_all
fit_more was [] ys s a b = b
fit_more was (x ∷ xs) ys s a b = (a.0, fit_more was xs ys (applied x s) a.1 b)

-- ---- what the rules for records say of a change

fits_parts : (a b : Bool) → (a && b) ≡ true → (a ≡ true) × (b ≡ true)
fits_parts a b e = and_parts a b e

all_parts : (e : Edit) (es : List Edit) (s : NodeState) → all_fit (e ∷ es) s ≡ true → (fits e s ≡ true)
    × (all_fit es (applied e s) ≡ true)
unfolding all_fit
all_parts e es s fit = fits_parts (fits e s) (all_fit es (applied e s)) fit

may_reserve : (v : ℕ) (s : NodeState) → fits (Reserve Nwk v) s ≡ true
    → (is_some (active_row s) && nat_le (stored_limit Nwk s) v) ≡ true
unfolding fits
may_reserve v s e =
    (fits_parts (is_some (active_row s) && nat_le (stored_limit Nwk s) v) (keeps_rules (applied (Reserve Nwk v) s))
    e).0

may_reserve_aps : (v : ℕ) (s : NodeState) → fits (Reserve Aps v) s ≡ true → s.aps_limit ≤ v
unfolding fits
may_reserve_aps v s e =
    leb-true s.aps_limit v (fits_parts (nat_le s.aps_limit v) (keeps_rules (applied (Reserve Aps v) s)) e).0

may_floor : (k : Bytes) (from v : ℕ) (s : NodeState) → fits (Floor Nwk k from v) s ≡ true → (live_net k s ≡ true)
    × (net_stored from (row_at k s.nets) ≤ v)
unfolding fits
may_floor k from v s e =
    let p = fits_parts (live_net k s) (nat_le (net_stored from (net_of k s)) v)
    (fits_parts (live_net k s && nat_le (net_stored from (net_of k s)) v)
    (keeps_rules (applied (Floor Nwk k from v) s)) e).0 in
    (p.0, leb-true (net_stored from (net_of k s)) v p.1)

may_link_floor : (k : Bytes) (from v : ℕ) (s : NodeState) → fits (Floor Aps k from v) s ≡ true
    → (live_link from k s ≡ true) × (link_stored (link_at from k s.links) ≤ v)
unfolding fits
may_link_floor k from v s e =
    let p = fits_parts (live_link from k s) (nat_le (link_stored (find (is_link from k) s.links)) v)
    (fits_parts (live_link from k s && nat_le (link_stored (find (is_link from k) s.links)) v)
    (keeps_rules (applied (Floor Aps k from v) s)) e).0 in
    (p.0, leb-true (link_stored (find (is_link from k) s.links)) v p.1)

may_start : (k : Bytes) (v : ℕ) (s : NodeState) → fits (Start k v) s ≡ true → (has_net k s.nets ≡ true)
    × (net_limit (row_at k s.nets) ≤ v)
unfolding fits
may_start k v s e =
    let p = fits_parts (has_net k s.nets) (nat_le (net_limit (net_of k s)) v)
    (fits_parts (has_net k s.nets && nat_le (net_limit (net_of k s)) v) (keeps_rules (applied (Start k v) s)) e).0
    in
    (p.0, leb-true (net_limit (net_of k s)) v p.1)

-- ---- floors

row_there : (k : Bytes) (nets : List NetKey) (o : Option NetKey) → row_at k nets ≡ o → row_is_live (row_at k nets)
    ≡ true → o ≡ None → ⊥
row_there k nets o e live none = false≢true (sym (ap row_is_live (e ∙ none)) ∙ live)

abbrev FoundSorted : Option NetKey → Type 0
FoundSorted None = Unit {0}
FoundSorted (Some r) = Sorted r.floors

all_sorted : (k : Bytes) (nets : List NetKey) → AllByRecursion (λ (r : NetKey). Sorted r.floors) nets
    → FoundSorted (row_at k nets)
all_sorted k [] a = tt
all_sorted k (r ∷ rs) a = by_test (same_key r.key k) (all_sorted k rs a.1)
  where
    by_test : (b : Bool) → FoundSorted (row_at k rs) → FoundSorted (cond b (Some r) (row_at k rs))
    by_test true more = a.0
    by_test false more = more

link_there : (from : ℕ) (k : Bytes) (links : List LinkKey) → list_any (λ (r : LinkKey). is_link from k r && r.live)
    links ≡ true → link_at from k links ≡ None → ⊥
link_there from k [] live none = false≢true live
link_there from k (r ∷ rs) live none = by_test (is_link from k r) live none (link_there from k rs)
  where
    IsThere : Option LinkKey → Type 0
    IsThere None = ⊥
    IsThere (Some x) = Unit {0}

    by_test : (b : Bool) → ((b && r.live) || list_any (λ (x : LinkKey). is_link from k x && x.live) rs) ≡ true
        → cond b (Some r) (link_at from k rs) ≡ None
        → (list_any (λ (x : LinkKey). is_link from k x && x.live) rs ≡ true → link_at from k rs ≡ None → ⊥) → ⊥
    by_test true live none k = subst IsThere none tt
    by_test false live none k = k live none

floor_fits : (was : Bytes → Bool) (layer : Layer) (k : Bytes) (from v : ℕ) (s : NodeState) → Sound s
    → fits (Floor layer k from v) s ≡ true → FitsEdit was (Floor layer k from v) s
floor_fits was Nwk k from v s sound e =
    let may = may_floor k from v s e in
    record {
      there = λ none. row_there k s.nets (row_at k s.nets) refl may.0 none;
      sorted = λ r found. subst FoundSorted found (all_sorted k s.nets sound.floors);
      below = may.1;
    }
floor_fits was Aps k from v s sound e =
    let may = may_link_floor k from v s e in
    record { there = λ none. link_there from k s.links may.0 none; below = may.1 }

floors_fit : (was : Bytes → Bool) (es rest : List Edit) (s : NodeState) → AllByRecursion IsFloor es → Sound s
    → all_fit (es ++ rest) s ≡ true → FitEdits was es s
    × (Sound (applied_all es s) × (all_fit rest (applied_all es s) ≡ true))
unfolding applied_all
floors_fit was [] rest s are sound fit = (tt, (sound, fit))
floors_fit was (Floor layer k from v ∷ es) rest s are sound fit =
    let p = all_parts (Floor layer k from v) (es ++ rest) s fit in
    let more = floors_fit was es rest (applied (Floor layer k from v) s) are.1
    (sound-applied (Floor layer k from v) s sound) p.1 in
    ((floor_fits was layer k from v s sound p.0, more.0), more.1)
floors_fit was (Reserve layer v ∷ es) rest s are sound fit = absurd are.0
floors_fit was (Start k v ∷ es) rest s are sound fit = absurd are.0
floors_fit was (Moved m ∷ es) rest s are sound fit = absurd are.0

-- ---- reserves

abbrev reserves : Layer → Option ℕ → List Edit
reserves layer o = option_to_list (option_map (Reserve layer) o)

small_block : (c : Setting) (s : NodeState) (send : Option Sending) (layer : Layer) (v : ℕ)
    → reserve_of c s send layer ≡ Some v → v ≤ greatest_counter
unfolding reserve_of
small_block c s send layer v e =
    by_test (seals_at layer send && (may_seal s send && nat_eq (next_counter layer s) (stored_limit layer s))) e
  where
    is_none : Option ℕ → Type 0
    is_none None = Unit {0}
    is_none (Some n) = ⊥

    block : ℕ
    block = min (next_counter layer s + c.me.out_block) greatest_counter

    by_test : (b : Bool) → cond b (Some block) None ≡ Some v → v ≤ greatest_counter
    by_test true f = subst (λ n. n ≤ greatest_counter) (ap (λ o. Rattle.std.specs.Prelude.unwrap_or o 0) f)
        (omega arith)
    by_test false f = absurd (subst is_none f tt)

with_row : {C : Type 0} (s : NodeState) → is_some (active_row s) ≡ true
    → ((key : Bytes) (r : NetKey) → s.active ≡ Some key → row_at key s.nets ≡ Some r → active_row s ≡ Some r → C) → C
unfolding active_row
with_row {C} s there k = by_active s.active refl
  where
    by_row : (key : Bytes) → s.active ≡ Some key → (o : Option NetKey) → net_of_active s.active s ≡ o → C
    by_row key e None f = absurd (false≢true (sym (ap is_some f) ∙ there))
    by_row key e (Some r) f = k key r e (sym (ap (λ o. net_of_active o s) e) ∙ f) f

    by_active : (o : Option Bytes) → s.active ≡ o → C
    by_active None e = absurd (false≢true (sym (ap (λ o. is_some (net_of_active o s)) e) ∙ there))
    by_active (Some key) e = by_row key e (net_of_active s.active s) refl

limit_row : (s : NodeState) (r : NetKey) → active_row s ≡ Some r → stored_limit Nwk s ≡ r.limit
unfolding stored_limit
limit_row s r e = ap (limit_of s.declared) e

reserve_fits : (was : Bytes → Bool) (v : ℕ) (s : NodeState) → ((key : Bytes) → was key ≡ is_active_key s.active key)
    → ActiveStarted s → v ≤ greatest_counter → fits (Reserve Nwk v) s ≡ true → FitsReserve was v s
reserve_fits was v s is active small e =
    let p = fits_parts (is_some (active_row s)) (nat_le (stored_limit Nwk s) v) (may_reserve v s e) in
    with_row s p.0 (λ key r at found row. record {
      was_is = is;
      key = key;
      active_is = at;
      there = λ none. none-some r (sym none ∙ found);
      row = λ x other.
          let same : r ≡ x = ap (λ o. Rattle.std.specs.Prelude.unwrap_or o r) (sym found ∙ other) in (
            ap row_is_started (sym other) ∙ active key at,
            subst (λ (y : NetKey). y.limit ≤ v) same
                (omega (arith, leb-true (stored_limit Nwk s) v p.1, limit_row s r row)),
          );
      small = small;
    })

nwk_reserves : (was : Bytes → Bool) (o : Option ℕ) (rest : List Edit) (s : NodeState)
    → ((key : Bytes) → was key ≡ is_active_key s.active key) → ActiveStarted s
    → ((v : ℕ) → o ≡ Some v → v ≤ greatest_counter) → Sound s
    → all_fit (reserves Nwk o ++ rest) s ≡ true → FitEdits was (reserves Nwk o) s
    × (Sound (applied_all (reserves Nwk o) s) × (all_fit rest (applied_all (reserves Nwk o) s) ≡ true))
unfolding applied_all
nwk_reserves was None rest s is active small sound fit = (tt, (sound, fit))
nwk_reserves was (Some v) rest s is active small sound fit =
    let p = all_parts (Reserve Nwk v) rest s fit in
    ((reserve_fits was v s is active (small v refl) p.0, tt), (sound-applied (Reserve Nwk v) s sound, p.1))

aps_reserves : (was : Bytes → Bool) (o : Option ℕ) (rest : List Edit) (s : NodeState)
    → ((v : ℕ) → o ≡ Some v → v ≤ greatest_counter) → Sound s
    → all_fit (reserves Aps o ++ rest) s ≡ true → FitEdits was (reserves Aps o) s
    × (Sound (applied_all (reserves Aps o) s) × (all_fit rest (applied_all (reserves Aps o) s) ≡ true))
unfolding applied_all
aps_reserves was None rest s small sound fit = (tt, (sound, fit))
aps_reserves was (Some v) rest s small sound fit =
    let p = all_parts (Reserve Aps v) rest s fit in
    (((may_reserve_aps v s p.0, small v refl), tt), (sound-applied (Reserve Aps v) s sound, p.1))

-- ---- which keys have started

abbrev Alike : NodeState → NodeState → Type 0
Alike s0 s = (key : Bytes) → started key s.nets ≡ started key s0.nets

reserves_alike : (o : Option ℕ) (s : NodeState) → ActiveStarted s → Alike s (applied_all (reserves Nwk o) s)
unfolding applied_all applied
reserves_alike None s active key = refl
reserves_alike (Some v) s active key = reserve-same v s.active key s.nets active

aps_alike : (o : Option ℕ) (s : NodeState) → Alike s (applied_all (reserves Aps o) s)
unfolding applied_all applied
aps_alike None s key = refl
aps_alike (Some v) s key = refl

floors_alike : (es : List Edit) (s : NodeState) → AllByRecursion IsFloor es → Alike s (applied_all es s)
unfolding applied_all applied
floors_alike [] s are key = refl
floors_alike (Floor Nwk k from v ∷ es) s are key = floors_alike es (applied (Floor Nwk k from v) s) are.1 key ∙
    started-at (net_floor from v) (plain-row (net_floor from v) (λ r. refl) (λ r. refl)) key k s.nets
floors_alike (Floor Aps k from v ∷ es) s are key = floors_alike es (applied (Floor Aps k from v) s) are.1 key
floors_alike (Reserve layer v ∷ es) s are key = absurd are.0
floors_alike (Start k v ∷ es) s are key = absurd are.0
floors_alike (Moved m ∷ es) s are key = absurd are.0

moved_alike : (m : Move) (s : NodeState) → Alike s (applied (Moved m) s)
unfolding applied
moved_alike m s key = started-moved key m s

-- ---- moves

rest_fits : (was : Bytes → Bool) (k : Counting) (ms : List Move) (s : NodeState) → AllByRecursion NoActive ms
    → FitEdits was (edits_by k ms) s
rest_fits was k [] s a = tt
rest_fits was k (Active key ∷ ms) s a = absurd a.0
rest_fits was k (Draw key ∷ ms) s a = (tt, rest_fits was k ms (applied (Moved (Draw key)) s) a.1)
rest_fits was k (DropNet key ∷ ms) s a = (tt, rest_fits was k ms (applied (Moved (DropNet key)) s) a.1)
rest_fits was k (DropLink p key ∷ ms) s a = (tt, rest_fits was k ms (applied (Moved (DropLink p key)) s) a.1)
rest_fits was k (Install key q ∷ ms) s a = (tt, rest_fits was k ms (applied (Moved (Install key q)) s) a.1)
rest_fits was k (Row p key t ∷ ms) s a = (tt, rest_fits was k ms (applied (Moved (Row p key t)) s) a.1)
rest_fits was k (Pair x y key ∷ ms) s a = (tt, rest_fits was k ms (applied (Moved (Pair x y key)) s) a.1)
rest_fits was k (Became g ∷ ms) s a = (tt, rest_fits was k ms (applied (Moved (Became g)) s) a.1)
rest_fits was k (Live d ∷ ms) s a = (tt, rest_fits was k ms (applied (Moved (Live d)) s) a.1)
rest_fits was k (Removed d ∷ ms) s a = (tt, rest_fits was k ms (applied (Moved (Removed d)) s) a.1)
rest_fits was k (Roll b ∷ ms) s a = (tt, rest_fits was k ms (applied (Moved (Roll b)) s) a.1)
rest_fits was k (Told d ∷ ms) s a = (tt, rest_fits was k ms (applied (Moved (Told d)) s) a.1)
rest_fits was k (Untold d ∷ ms) s a = (tt, rest_fits was k ms (applied (Moved (Untold d)) s) a.1)

-- the first counter of a key that has not started
start_is : (s0 : NodeState) (key : Bytes) (v : ℕ) → start_for s0 (Some key) ≡ Some v → (is_started_key s0 key ≡ false)
    × (v ≤ greatest_counter)
start_is s0 key v e = by_test (is_started_key s0 key) refl e
  where
    is_some_none : Option ℕ → Type 0
    is_some_none None = ⊥
    is_some_none (Some n) = Unit {0}

    first_small : (b : Bool) → nat_le half (next_counter Nwk s0) ≡ b → cond b 0 (next_counter Nwk s0)
        ≤ greatest_counter
    first_small true f = omega arith
    first_small false f = omega (arith, Rattle.std.proofs.lemmas.Bool.leb-false half (next_counter Nwk s0) f)

    by_test : (b : Bool) → is_started_key s0 key ≡ b → cond b None (Some (first_counter s0)) ≡ Some v
        → (is_started_key s0 key ≡ false) × (v ≤ greatest_counter)
    by_test true f g = absurd (subst is_some_none (sym g) tt)
    by_test false f g = (
      f,
      subst (λ n. n ≤ greatest_counter) (ap (λ o. Rattle.std.specs.Prelude.unwrap_or o 0) g)
          (first_small (nat_le half (next_counter Nwk s0)) refl),
    )

start_fits : (was : Bytes → Bool) (k : Bytes) (v : ℕ) (s : NodeState) → started k s.nets ≡ false → v
    ≤ greatest_counter → fits (Start k v) s ≡ true → FitsStart k v s
start_fits was k v s unstarted small e =
    let may = may_start k v s e in
    record {
      there = λ none. Rattle.law_run_readings.proofs.Rows.there_row k s.nets may.0 none;
      row = λ r found. (sym (ap row_is_started found) ∙ unstarted, subst (λ o. net_limit o ≤ v) found may.1);
      small = small;
    }

start_then : (was : Bytes → Bool) (s0 : NodeState) (key : Bytes) (o : Option ℕ) (rest : List Edit) (s : NodeState) → o
    ≡ start_for s0 (Some key) → Alike s0 s → all_fit (start_edit key o ++ rest) s ≡ true
    → ((x : NodeState) → FitEdits was rest x) → FitEdits was (start_edit key o ++ rest) s
start_then was s0 key None rest s e alike fit more = more s
start_then was s0 key (Some v) rest s e alike fit more =
    let is = start_is s0 key v (sym e) in (
      start_fits was key v s (alike key ∙ is.0) is.1 (all_parts (Start key v) rest s fit).0,
      more (applied (Start key v) s),
    )

moves_fit : (was : Bytes → Bool) (s0 : NodeState) (k : Counting) (nets : List NetKey) (ms : List Move) (s : NodeState)
    → MovesFit nets ms → k.start ≡ start_for s0 (activated s0 ms) → Alike s0 s → all_fit (edits_by k ms) s ≡ true
    → FitEdits was (edits_by k ms) s
moves_fit was s0 k nets [] s f e alike fit = tt
moves_fit was s0 k nets (Active key ∷ ms) s f e alike fit = (
  tt,
  start_then was s0 key k.start (edits_by k ms) (applied (Moved (Active key)) s) e
      (λ j. moved_alike (Active key) s j ∙ alike j)
      (all_parts (Moved (Active key)) (start_edit key k.start ++ edits_by k ms) s fit).1
      (λ x. rest_fits was k ms x f.1),
)
moves_fit was s0 k nets (Draw key ∷ ms) s f e alike fit = (
  tt,
  moves_fit was s0 k nets ms (applied (Moved (Draw key)) s) f e (λ j. moved_alike (Draw key) s j ∙ alike j)
      (all_parts (Moved (Draw key)) (edits_by k ms) s fit).1,
)
moves_fit was s0 k nets (DropNet key ∷ ms) s f e alike fit = (
  tt,
  moves_fit was s0 k (Rattle.zb_model.specs.State.at_net key Rattle.zb_model.specs.State.dropped_net nets) ms
      (applied (Moved (DropNet key)) s) f e (λ j. moved_alike (DropNet key) s j ∙ alike j)
      (all_parts (Moved (DropNet key)) (edits_by k ms) s fit).1,
)
moves_fit was s0 k nets (DropLink p key ∷ ms) s f e alike fit = (
  tt,
  moves_fit was s0 k nets ms (applied (Moved (DropLink p key)) s) f e
      (λ j. moved_alike (DropLink p key) s j ∙ alike j) (all_parts (Moved (DropLink p key)) (edits_by k ms) s fit).1,
)
moves_fit was s0 k nets (Install key q ∷ ms) s f e alike fit = (
  tt,
  moves_fit was s0 k (cond (has_net key nets) nets (nets ++ Rattle.zb_model.specs.State.new_net key q ∷ [])) ms
      (applied (Moved (Install key q)) s) f e (λ j. moved_alike (Install key q) s j ∙ alike j)
      (all_parts (Moved (Install key q)) (edits_by k ms) s fit).1,
)
moves_fit was s0 k nets (Row p key t ∷ ms) s f e alike fit = (
  tt,
  moves_fit was s0 k nets ms (applied (Moved (Row p key t)) s) f e
      (λ j. moved_alike (Row p key t) s j ∙ alike j) (all_parts (Moved (Row p key t)) (edits_by k ms) s fit).1,
)
moves_fit was s0 k nets (Pair x y key ∷ ms) s f e alike fit = (
  tt,
  moves_fit was s0 k nets ms (applied (Moved (Pair x y key)) s) f e
      (λ j. moved_alike (Pair x y key) s j ∙ alike j) (all_parts (Moved (Pair x y key)) (edits_by k ms) s fit).1,
)
moves_fit was s0 k nets (Became g ∷ ms) s f e alike fit = (
  tt,
  moves_fit was s0 k nets ms (applied (Moved (Became g)) s) f e (λ j. moved_alike (Became g) s j ∙ alike j)
      (all_parts (Moved (Became g)) (edits_by k ms) s fit).1,
)
moves_fit was s0 k nets (Live d ∷ ms) s f e alike fit = (
  tt,
  moves_fit was s0 k nets ms (applied (Moved (Live d)) s) f e (λ j. moved_alike (Live d) s j ∙ alike j)
      (all_parts (Moved (Live d)) (edits_by k ms) s fit).1,
)
moves_fit was s0 k nets (Removed d ∷ ms) s f e alike fit = (
  tt,
  moves_fit was s0 k nets ms (applied (Moved (Removed d)) s) f e (λ j. moved_alike (Removed d) s j ∙ alike j)
      (all_parts (Moved (Removed d)) (edits_by k ms) s fit).1,
)
moves_fit was s0 k nets (Roll b ∷ ms) s f e alike fit = (
  tt,
  moves_fit was s0 k nets ms (applied (Moved (Roll b)) s) f e (λ j. moved_alike (Roll b) s j ∙ alike j)
      (all_parts (Moved (Roll b)) (edits_by k ms) s fit).1,
)
moves_fit was s0 k nets (Told d ∷ ms) s f e alike fit = (
  tt,
  moves_fit was s0 k nets ms (applied (Moved (Told d)) s) f e (λ j. moved_alike (Told d) s j ∙ alike j)
      (all_parts (Moved (Told d)) (edits_by k ms) s fit).1,
)
moves_fit was s0 k nets (Untold d ∷ ms) s f e alike fit = (
  tt,
  moves_fit was s0 k nets ms (applied (Moved (Untold d)) s) f e (λ j. moved_alike (Untold d) s j ∙ alike j)
      (all_parts (Moved (Untold d)) (edits_by k ms) s fit).1,
)

-- ---- all changes of an answer

pub answer_fits : (was : Bytes → Bool) (c : Setting) (s : NodeState) (p : Plan)
    → ((key : Bytes) → was key ≡ is_active_key s.active key) → ActiveStarted s → Sound s
    → MovesFit s.nets (kept_moves s p)
    → all_fit (edits_of s (counting_of c s p) p) s ≡ true → FitEdits was (edits_of s (counting_of c s p) p) s
unfolding edits_of counting_of
answer_fits was c s p is active sound moves fit =
    let k = counting_of c s p in
    let nwk = reserve_of c s (sending_of p.outcome) Nwk in
    let aps = reserve_of c s (sending_of p.outcome) Aps in
    let floors = flat_map (floor_edit k) p.accepts in
    let last = edits_by k (kept_moves s p) in
    let rest = reserves Aps aps ++ (floors ++ last) in
    let one = nwk_reserves was nwk rest s is active (λ v e. small_block c s (sending_of p.outcome) Nwk v e) sound
    (sym (ap (λ es. all_fit es s)
    (Rattle.std.proofs.Common.append_assoc (reserves Nwk nwk) (reserves Aps aps) (floors ++ last))) ∙ fit) in
    let s1 = applied_all (reserves Nwk nwk) s in
    let two = aps_reserves was aps (floors ++ last) s1 (λ v e. small_block c s (sending_of p.outcome) Aps v e) one.1.0
    one.1.1 in
    let s2 = applied_all (reserves Aps aps) s1 in
    let three = floors_fit was floors last s2 (are-floors k p.accepts) two.1.0 two.1.1 in
    let s3 = applied_all floors s2 in
    let alike : Alike s s3 = λ j. floors_alike floors s2 (are-floors k p.accepts) j ∙
    (aps_alike aps s1 j ∙ reserves_alike nwk s active j) in
    let four = moves_fit was s k s.nets (kept_moves s p) s3 moves refl alike three.1.1 in
    subst (λ es. FitEdits was es s)
    (sym (Rattle.std.proofs.Common.append_assoc (reserves Nwk nwk) (reserves Aps aps) (floors ++ last)))
    (fit_more was (reserves Nwk nwk) rest s one.0
    (fit_more was (reserves Aps aps) (floors ++ last) s1 two.0 (fit_more was floors last s2 three.0 four)))
