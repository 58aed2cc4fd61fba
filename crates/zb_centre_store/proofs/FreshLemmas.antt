-- No counter falls below a bound that it has reached: not by changes, accepted terms, seals or boots.
use Rattle.std.proofs.Common.{◌≡◌, ℕ, ◌≤◌, ◌+◌, Bool, true, false, if◌then◌else◌, List, [], ◌∷◌, ◌++◌, map, find, Option, Some, None, option_map, refl, sym, ap, ◌∙◌, subst, arith}
use Rattle.std.specs.List.{AllByRecursion}
use Rattle.zb_model.specs.Answer.{accepted_all, answer, answered, sealed_all}
use Rattle.zb_model.specs.Data.{Bytes, Layer, Nwk, Aps, DropNet, Edit, Floor, Install, Move, Moved, Reserve, Start, Task, Term}
use Rattle.zb_model.specs.Rules.{Setting}
use Rattle.zb_model.specs.State.{NetKey, NodeState, after_accepting, after_boot, after_hearing, after_sealing, applied, applied_all, at_net, booted_net, dropped_net, has_net, moved, net_floor, net_kept, net_of, new_net, next_at, of_active, reserved, same_key, sealed_at, shown, shown_net, started_at, stored_limit}
use Rattle.zb_model.specs.Tools.{Tools}
use Rattle.law_change_fits.proofs.Parts.{same_key_is}
use Rattle.law_answer_seals.specs.Sealing.{SealsNext, before_seals, next_under}
use Rattle.law_answer_seals.proofs.Next.{answer_next}
use Rattle.zb_centre_store.specs.Freshness.{Deed, EachSeal, HasUsed, IsAbove, IsUnused, IsUnusedAt, boots, handles}
use Rattle.zb_centre_store.specs.Skipping.{counted_from, skipped, skipped_limit, skipped_net}

abbrev with_key : Bytes → NetKey → Bool
with_key key r = same_key r.key key

-- the row that a key finds in changed rows

chosen_map : {X : Type 0} (f : X → X) (b : Bool) (x : X) (o p : Option X) → o ≡ option_map f p
    → (if b then Some (f x) else o) ≡ option_map f (if b then Some x else p)
chosen_map f true x o p e = refl
chosen_map f false x o p e = e

find_map : {X : Type 0} (test : X → Bool) (f : X → X) → ((x : X) → test (f x) ≡ test x) → (xs : List X)
    → find test (map f xs) ≡ option_map f (find test xs)
find_map test f same [] = refl
find_map test f same (x ∷ xs) =
    rw (same x) (chosen_map f (test x) x (find test (map f xs)) (find test xs) (find_map test f same xs))

abbrev Passes : (NetKey → Bool) → Option NetKey → Type 0
Passes q None = Unit {0}
Passes q (Some r) = q r ≡ true

passes : (q : NetKey → Bool) (rs : List NetKey) → Passes q (find q rs)
passes q [] = tt
passes q (r ∷ rs) = by_test (q r) refl (passes q rs)
  where
    by_test : (b : Bool) → q r ≡ b → Passes q (find q rs) → Passes q (if b then Some r else find q rs)
    by_test true e h = e
    by_test false e h = h

found_key : (key : Bytes) (rs : List NetKey) (r : NetKey) → find (with_key key) rs ≡ Some r → r.key ≡ key
found_key key rs r e = same_key_is r.key key (subst (Passes (with_key key)) e (passes (with_key key) rs))

-- a row is found, and neither its next counter nor its limit is below a bound

abbrev IsLow : ℕ → NetKey → Type 0
IsLow n r = (n ≤ r.next) × (n ≤ r.limit)

abbrev Found : ℕ → Option NetKey → Type 0
Found n None = ⊥
Found n (Some r) = IsLow n r

abbrev Under : ℕ → Bytes → List NetKey → Type 0
Under n key nets = Found n (find (with_key key) nets)

-- a change of a row leaves its key, and brings no counter below the bound
record Keeps (n : ℕ) (f : NetKey → NetKey) : Type 0 where
  key : (r : NetKey) → (f r).key ≡ r.key
  low : (r : NetKey) → IsLow n r → IsLow n (f r)

row_kept : (n : ℕ) (f : NetKey → NetKey) → Keeps n f → (o : Option NetKey) → Found n o → Found n (option_map f o)
row_kept n f k None h = absurd h
row_kept n f k (Some r) h = k.low r h

map_kept : (n : ℕ) (f : NetKey → NetKey) → Keeps n f → (key : Bytes) (nets : List NetKey) → Under n key nets
    → Under n key (map f nets)
map_kept n f k key nets h =
    subst (Found n) (sym (find_map (with_key key) f (λ r. ap (λ x. same_key x key) (k.key r)) nets))
    (row_kept n f k (find (with_key key) nets) h)

keeps_at : (n : ℕ) (f : NetKey → NetKey) → Keeps n f → (other : Bytes)
    → Keeps n (λ (r : NetKey). if same_key r.key other then f r else r)
keeps_at n f k other =
    record { key = λ r. key_of (same_key r.key other) r; low = λ r h. low_of (same_key r.key other) r h }
  where
    key_of : (b : Bool) (r : NetKey) → (if b then f r else r).key ≡ r.key
    key_of true r = k.key r
    key_of false r = refl

    low_of : (b : Bool) (r : NetKey) → IsLow n r → IsLow n (if b then f r else r)
    low_of true r h = k.low r h
    low_of false r h = h

at_kept : (n : ℕ) (f : NetKey → NetKey) → Keeps n f → (other key : Bytes) (nets : List NetKey) → Under n key nets
    → Under n key (at_net other f nets)
at_kept n f k other key nets h = map_kept n (λ (r : NetKey). if same_key r.key other then f r
    else r) (keeps_at n f k other) key nets h

active_kept : (n : ℕ) (f : NetKey → NetKey) → Keeps n f → (active : Option Bytes) (key : Bytes) (nets : List NetKey)
    → Under n key nets → Under n key (of_active f active nets)
active_kept n f k None key nets h = h
active_kept n f k (Some active) key nets h = at_kept n f k active key nets h

behind_kept : (n : ℕ) (key : Bytes) (nets more : List NetKey) → Under n key nets → Under n key (nets ++ more)
behind_kept n key [] more h = absurd h
behind_kept n key (r ∷ rs) more h = by_test (same_key r.key key) h (behind_kept n key rs more)
  where
    by_test : (b : Bool) → Found n (if b then Some r else find (with_key key) rs)
        → (Under n key rs → Under n key (rs ++ more))
        → Found n (if b then Some r else find (with_key key) (rs ++ more))
    by_test true h later = h
    by_test false h later = later h

added_kept : (n : ℕ) (b : Bool) (key : Bytes) (nets more : List NetKey) → Under n key nets
    → Under n key (if b then nets else nets ++ more)
added_kept n true key nets more h = h
added_kept n false key nets more h = behind_kept n key nets more h

-- by changes

moved_kept : (n : ℕ) (key : Bytes) (m : Move) (s : NodeState) → Under n key s.nets → Under n key (moved m s).nets
moved_kept n key (DropNet k) s h = at_kept n dropped_net (record { key = λ r. refl; low = λ r h. h }) k key s.nets h
moved_kept n key (Install k sequence) s h = added_kept n (has_net k s.nets) key s.nets (new_net k sequence ∷ []) h
moved_kept n key _ s h = h

applied_kept : (n : ℕ) (key : Bytes) (e : Edit) (s : NodeState) → Under n key s.nets → Under n key (applied e s).nets
unfolding applied
applied_kept n key (Reserve Nwk limit) s h =
    active_kept n (reserved limit) (record { key = λ r. refl; low = λ r h. (h.0, omega (arith, h.1)) }) s.active key
    s.nets h
applied_kept n key (Reserve Aps limit) s h = h
applied_kept n key (Floor Nwk k sender value) s h =
    at_kept n (net_floor sender value) (record { key = λ r. refl; low = λ r h. h }) k key s.nets h
applied_kept n key (Floor Aps k sender value) s h = h
applied_kept n key (Start k value) s h =
    at_kept n (started_at value) (record { key = λ r. refl; low = λ r h. (omega (arith, h.0), omega (arith, h.1)) }) k
    key s.nets h
applied_kept n key (Moved m) s h = moved_kept n key m s h

aps_moved : (n : ℕ) (m : Move) (s : NodeState) → (n ≤ s.aps_next) × (n ≤ s.aps_limit) → (n ≤ (moved m s).aps_next)
    × (n ≤ (moved m s).aps_limit)
aps_moved n (DropNet key) s h = h
aps_moved n _ s h = h

aps_applied : (n : ℕ) (e : Edit) (s : NodeState) → (n ≤ s.aps_next) × (n ≤ s.aps_limit) → (n ≤ (applied e s).aps_next)
    × (n ≤ (applied e s).aps_limit)
unfolding applied
aps_applied n (Reserve Nwk limit) s h = h
aps_applied n (Reserve Aps limit) s h = (h.0, omega (arith, h.1))
aps_applied n (Floor Nwk k sender value) s h = h
aps_applied n (Floor Aps k sender value) s h = h
aps_applied n (Start k value) s h = h
aps_applied n (Moved m) s h = aps_moved n m s h

-- the bounds of a lost store: at APS, and under each network key that the backup has too

record AreLow (backup lost s : NodeState) : Type 0 where
  aps : (lost.aps_limit ≤ s.aps_next) × (lost.aps_limit ≤ s.aps_limit)
  nets : (key : Bytes) (r l : NetKey) → net_of key backup ≡ Some r → net_of key lost ≡ Some l
      → Under l.limit key s.nets

module _ (backup lost : NodeState) where
  changed_low : (es : List Edit) (s : NodeState) → AreLow backup lost s → AreLow backup lost (applied_all es s)
  unfolding applied_all
  changed_low [] s low = low
  changed_low (e ∷ es) s low = changed_low es (applied e s) (record {
    aps = aps_applied lost.aps_limit e s low.aps;
    nets = λ key r l here there. applied_kept l.limit key e s (low.nets key r l here there);
  })

  heard_low : (layer : Layer) (k : Bytes) (sender counter : ℕ) (s : NodeState) → AreLow backup lost s
      → AreLow backup lost (after_hearing layer k sender counter s)
  unfolding after_hearing
  heard_low Nwk k sender counter s low = record {
    aps = low.aps;
    nets = λ key r l here there. at_kept l.limit (net_kept sender (counter + 1))
        (record { key = λ x. refl; low = λ x h. h }) k key s.nets (low.nets key r l here there);
  }
  heard_low Aps k sender counter s low = record { aps = low.aps; nets = low.nets }

  accepted_low : (ts : List Term) (s : NodeState) → AreLow backup lost s → AreLow backup lost (accepted_all ts s)
  unfolding after_accepting
  accepted_low [] s low = low
  accepted_low (t ∷ ts) s low =
      accepted_low ts (after_accepting t s) (heard_low t.layer t.base t.source t.counter s low)

  shown_low : (s : NodeState) → AreLow backup lost s → AreLow backup lost (shown s)
  unfolding shown
  shown_low s low =
      record {
        aps = low.aps;
        nets = λ key r l here there. map_kept l.limit shown_net
            (record { key = λ x. refl; low = λ x h. h }) key s.nets (low.nets key r l here there);
      }

  booted_low : (s : NodeState) → AreLow backup lost s → AreLow backup lost (after_boot s)
  unfolding after_boot
  booted_low s low = record {
    aps = (low.aps.1, low.aps.1);
    nets = λ key r l here there. map_kept l.limit booted_net (record { key = λ x. refl; low = λ x h. (h.1, h.1) }) key
        s.nets (low.nets key r l here there);
  }

-- the next counter of a state isn't below the bound

low_next : (n counter : ℕ) (o : Option NetKey) → Found n o → option_map (λ (r : NetKey). r.next) o ≡ Some counter → n
    ≤ counter
low_next n counter None h e = absurd h
low_next n counter (Some r) h e = let same : r.next ≡ counter = cc in subst (λ m. n ≤ m) same h.0

unused_next : (backup lost s : NodeState) (layer : Layer) (key : Bytes) (counter : ℕ) → AreLow backup lost s
    → next_under layer key s ≡ Some counter → IsUnusedAt layer backup lost key counter
unused_next backup lost s Nwk key counter low e = λ r l here there. low_next l.limit counter
    (find (with_key key) s.nets) (low.nets key r l here there) e
unused_next backup lost s Aps key counter low e = let same : s.aps_next ≡ counter =
    cc in subst (λ m. lost.aps_limit ≤ m) same low.aps.0

-- a seal with such a counter

sealed_row : (n counter : ℕ) (base key : Bytes) (nets : List NetKey) → (base ≡ key → n ≤ counter)
    → (o : Option NetKey) → find (with_key key) nets ≡ o → Found n o
    → Found n (option_map (λ (r : NetKey). if same_key r.key base then next_at (counter + 1) r else r) o)
sealed_row n counter base key nets next None e h = absurd h
sealed_row n counter base key nets next (Some r) e h = by_test (same_key r.key base) refl
  where
    by_test : (b : Bool) → same_key r.key base ≡ b → IsLow n (if b then next_at (counter + 1) r else r)
    by_test true is = let le : n ≤ counter = next (sym (same_key_is r.key base is) ∙ found_key key nets r e) in
        (omega (arith, le), h.1)
    by_test false is = h

sealed_low : (backup lost : NodeState) (layer : Layer) (t : Term) (s : NodeState)
    → IsUnusedAt layer backup lost t.base t.counter → AreLow backup lost s → AreLow backup lost (sealed_at layer t s)
sealed_low backup lost Nwk t s next low = record {
  aps = low.aps;
  nets = λ key r l here there. subst (Found l.limit)
      (sym (find_map (with_key key) at (λ x. key_of (same_key x.key t.base) x key) s.nets))
      (sealed_row l.limit t.counter t.base key s.nets
      (λ e. next r l (subst (λ k. net_of k backup ≡ Some r) (sym e) here)
      (subst (λ k. net_of k lost ≡ Some l) (sym e) there))
      (find (with_key key) s.nets) refl (low.nets key r l here there));
}
  where
    at : NetKey → NetKey
    at r = if same_key r.key t.base then next_at (t.counter + 1) r else r

    key_of : (b : Bool) (r : NetKey) (key : Bytes) → same_key (if b then next_at (t.counter + 1) r else r).key key
        ≡ same_key r.key key
    key_of true r key = refl
    key_of false r key = refl
sealed_low backup lost Aps t s next low = record { aps = (omega (arith, next), low.aps.1); nets = low.nets }

all_sealed_low : (backup lost : NodeState) (ts : List Term) (s : NodeState) → AllByRecursion (IsUnused backup lost) ts
    → AreLow backup lost s → AreLow backup lost (sealed_all ts s)
unfolding after_sealing
all_sealed_low backup lost [] s next low = low
all_sealed_low backup lost (t ∷ ts) s next low = all_sealed_low backup lost ts (after_sealing t s) next.1
    (sealed_low backup lost t.layer t s next.0 low)

seals_unused : (backup lost : NodeState) (ts : List Term) (s : NodeState) → SealsNext s ts → AreLow backup lost s
    → AllByRecursion (IsUnused backup lost) ts
unfolding after_sealing
seals_unused backup lost [] s next low = tt
seals_unused backup lost (t ∷ ts) s next low =
    let here : IsUnused backup lost t = unused_next backup lost s t.layer t.base t.counter low next.0.counter_is in
    (here, seals_unused backup lost ts (after_sealing t s) next.1 (sealed_low backup lost t.layer t s here low))

-- the events and boots of a life

handled_unused : (tools : Tools) (c : Setting) (backup lost s : NodeState) (task : Task) → AreLow backup lost s
    → AllByRecursion (IsUnused backup lost) (answer tools c s task).seals
handled_unused tools c backup lost s task low =
    let a = answer tools c s task in
    seals_unused backup lost a.seals (before_seals a s) (answer_next tools c s task)
    (accepted_low backup lost a.accepts (shown (applied_all a.edits s))
    (shown_low backup lost (applied_all a.edits s) (changed_low backup lost a.edits s low)))

handled_low : (tools : Tools) (c : Setting) (backup lost s : NodeState) (task : Task) → AreLow backup lost s
    → AreLow backup lost (shown (answered (answer tools c s task) s))
unfolding answered
handled_low tools c backup lost s task low =
    let a = answer tools c s task in
    shown_low backup lost (sealed_all a.seals (accepted_all a.accepts (applied_all a.edits s)))
    (all_sealed_low backup lost a.seals (accepted_all a.accepts (applied_all a.edits s))
    (handled_unused tools c backup lost s task low)
    (accepted_low backup lost a.accepts (applied_all a.edits s) (changed_low backup lost a.edits s low)))

lived_unused : (tools : Tools) (c : Setting) (backup lost : NodeState) (ds : List Deed) (s : NodeState)
    → AreLow backup lost s → EachSeal (IsUnused backup lost) tools c ds s
lived_unused tools c backup lost [] s low = tt
lived_unused tools c backup lost (handles task ∷ ds) s low = (
  handled_unused tools c backup lost s task low,
  lived_unused tools c backup lost ds
      (shown (answered (answer tools c s task) s)) (handled_low tools c backup lost s task low),
)
lived_unused tools c backup lost (boots ∷ ds) s low =
    (tt, lived_unused tools c backup lost ds (after_boot s) (booted_low backup lost s low))

-- a skip that is large enough

above : (by limit lost : ℕ) → IsAbove by limit lost → lost ≤ skipped_limit by limit
above by limit lost a = omega (arith, a.within, a.greatest)

skipped_row : (by active n : ℕ) (o : Option NetKey) (r : NetKey) → o ≡ Some r → n
    ≤ skipped_limit by (counted_from active r) → Found n (option_map booted_net (option_map (skipped_net by active) o))
skipped_row by active n o r e le = subst (λ p. Found n (option_map booted_net (option_map (skipped_net by active) p)))
    (sym e) (le, le)

skipped_low : (by : ℕ) (backup lost : NodeState) → HasUsed by backup lost → AreLow backup lost (skipped by backup)
unfolding skipped after_boot
skipped_low by backup lost used = record {
  aps = (above by backup.aps_limit lost.aps_limit used.aps, above by backup.aps_limit lost.aps_limit used.aps);
  nets = λ key r l here there.
      subst (Found l.limit)
      (sym (find_map (with_key key) booted_net (λ x. refl)
      (map (skipped_net by (stored_limit Nwk backup)) backup.nets) ∙ ap (option_map booted_net)
      (find_map (with_key key) (skipped_net by (stored_limit Nwk backup)) (λ x. refl) backup.nets)))
      (skipped_row by (stored_limit Nwk backup) l.limit (find (with_key key) backup.nets) r here
      (above by (counted_from (stored_limit Nwk backup) r) l.limit (used.nets key r l here there)));
}

pub each_unused : (tools : Tools) (c : Setting) (by : ℕ) (backup lost : NodeState) (deeds : List Deed)
    → HasUsed by backup lost → EachSeal (IsUnused backup lost) tools c deeds (skipped by backup)
each_unused tools c by backup lost deeds used = lived_unused tools c backup lost deeds (skipped by backup)
    (skipped_low by backup lost used)
