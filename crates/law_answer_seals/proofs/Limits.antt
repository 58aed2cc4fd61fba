-- No next counter passes its limit: changes, accepted terms, seals with reserved counters and boots keep it so.
use Rattle.std.proofs.Common.{◌≡◌, ℕ, ◌<◌, ◌≤◌, ◌+◌, Bool, true, false, if◌then◌else◌, List, [], ◌∷◌, ◌++◌, map, find, Option, Some, None, option_map, refl, sym, ap, ◌∙◌, subst, arith, le_refl}
use Rattle.zb_model.specs.Data.{Bytes, Layer, Nwk, Aps, Move, DropNet, Install, Edit, Reserve, Floor, Start, Moved, Term, Task}
use Rattle.zb_model.specs.State.{NetKey, NodeState, same_key, has_net, at_net, of_active, new_net, reserved, started_at, dropped_net, net_floor, net_kept, next_at, booted_net, applied, applied_all, moved, shown, shown_net, sealed_at, after_sealing, after_hearing, after_accepting, after_boot}
use Rattle.zb_model.specs.Tools.{Tools}
use Rattle.zb_model.specs.Rules.{Setting}
use Rattle.zb_model.specs.Answer.{answer, accepted_all, sealed_all}
use Rattle.law_answer_seals.specs.Sealing.{before_seals, limit_under, IsBelow, SealsReserved, RowIsWithin, IsWithinLimits}
use Rattle.law_answer_seals.proofs.Rows.{with_key, find_map}
use Rattle.law_answer_seals.proofs.Along.{found_key}
use Rattle.law_answer_seals.proofs.Room.{answer_reserved}
use Rattle.law_change_fits.proofs.Parts.{same_key_is}

-- no row that is found is past its limit
abbrev AreWithin : List NetKey → Type 0
AreWithin nets = (key : Bytes) → RowIsWithin (find (with_key key) nets)

-- a change of a row that leaves its key, and that its counter is within its limit
record Keeps (f : NetKey → NetKey) : Type 0 where
  key : (r : NetKey) → (f r).key ≡ r.key
  within : (r : NetKey) → r.next ≤ r.limit → (f r).next ≤ (f r).limit

row_left : (f : NetKey → NetKey) → Keeps f → (o : Option NetKey) → RowIsWithin o → RowIsWithin (option_map f o)
row_left f k None h = tt
row_left f k (Some r) h = k.within r h

map_within : (f : NetKey → NetKey) → Keeps f → (nets : List NetKey) → AreWithin nets → AreWithin (map f nets)
map_within f k nets h key =
    subst RowIsWithin (sym (find_map (with_key key) f (λ r. ap (λ x. same_key x key) (k.key r)) nets))
    (row_left f k (find (with_key key) nets) (h key))

keeps_at : (f : NetKey → NetKey) → Keeps f → (other : Bytes) → Keeps (λ (r : NetKey). if same_key r.key other then f r
    else r)
keeps_at f k other =
    record { key = λ r. key_of (same_key r.key other) r; within = λ r h. within_of (same_key r.key other) r h }
  where
    key_of : (b : Bool) (r : NetKey) → (if b then f r else r).key ≡ r.key
    key_of true r = k.key r
    key_of false r = refl

    within_of : (b : Bool) (r : NetKey) → r.next ≤ r.limit → (if b then f r else r).next ≤ (if b then f r else r).limit
    within_of true r h = k.within r h
    within_of false r h = h

at_within : (f : NetKey → NetKey) → Keeps f → (other : Bytes) (nets : List NetKey) → AreWithin nets
    → AreWithin (at_net other f nets)
at_within f k other nets h = map_within (λ (r : NetKey). if same_key r.key other then f r else r) (keeps_at f k other)
    nets h

active_within : (f : NetKey → NetKey) → Keeps f → (active : Option Bytes) (nets : List NetKey) → AreWithin nets
    → AreWithin (of_active f active nets)
active_within f k None nets h = h
active_within f k (Some active) nets h = at_within f k active nets h

one_more : (r : NetKey) → r.next ≤ r.limit → (key : Bytes) (nets : List NetKey)
    → RowIsWithin (find (with_key key) nets) → RowIsWithin (find (with_key key) (nets ++ r ∷ []))
one_more r is key [] h = by_test (same_key r.key key)
  where
    by_test : (b : Bool) → RowIsWithin (if b then Some r else None)
    by_test true = is
    by_test false = tt
one_more r is key (x ∷ xs) h = by_test (same_key x.key key) h (one_more r is key xs)
  where
    by_test : (b : Bool) → RowIsWithin (if b then Some x else find (with_key key) xs)
        → (RowIsWithin (find (with_key key) xs) → RowIsWithin (find (with_key key) (xs ++ r ∷ [])))
        → RowIsWithin (if b then Some x else find (with_key key) (xs ++ r ∷ []))
    by_test true h later = h
    by_test false h later = later h

added_within : (b : Bool) (r : NetKey) → r.next ≤ r.limit → (nets : List NetKey) → AreWithin nets
    → AreWithin (if b then nets else nets ++ r ∷ [])
added_within true r is nets h key = h key
added_within false r is nets h key = one_more r is key nets (h key)

-- changes

moved_nets : (m : Move) (s : NodeState) → AreWithin s.nets → AreWithin (moved m s).nets
moved_nets (DropNet k) s h = at_within dropped_net (record { key = λ r. refl; within = λ r h. h }) k s.nets h
moved_nets (Install k sequence) s h = added_within (has_net k s.nets) (new_net k sequence) (le_refl 0) s.nets h
moved_nets _ s h = h

moved_aps : (m : Move) (s : NodeState) → s.aps_next ≤ s.aps_limit → (moved m s).aps_next ≤ (moved m s).aps_limit
moved_aps (DropNet k) s h = h
moved_aps _ s h = h

pub applied_within : (e : Edit) (s : NodeState) → IsWithinLimits s → IsWithinLimits (applied e s)
unfolding applied
applied_within (Reserve Nwk limit) s w =
    record {
      nets = active_within (reserved limit) (record { key = λ r. refl; within = λ r h. omega (arith, h) })
          s.active s.nets w.nets;
      aps = w.aps;
    }
applied_within (Reserve Aps limit) s w = record { nets = w.nets; aps = omega (arith, w.aps) }
applied_within (Floor Nwk k sender value) s w =
    record {
      nets = at_within (net_floor sender value) (record { key = λ r. refl; within = λ r h. h }) k s.nets
          w.nets;
      aps = w.aps;
    }
applied_within (Floor Aps k sender value) s w = record { nets = w.nets; aps = w.aps }
applied_within (Start k value) s w =
    record {
      nets = at_within (started_at value) (record { key = λ r. refl; within = λ r h. omega (arith, h) }) k
          s.nets w.nets;
      aps = w.aps;
    }
applied_within (Moved m) s w = record { nets = moved_nets m s w.nets; aps = moved_aps m s w.aps }

changed_within : (es : List Edit) (s : NodeState) → IsWithinLimits s → IsWithinLimits (applied_all es s)
unfolding applied_all
changed_within [] s w = w
changed_within (e ∷ es) s w = changed_within es (applied e s) (applied_within e s w)

pub shown_within : (s : NodeState) → IsWithinLimits s → IsWithinLimits (shown s)
unfolding shown
shown_within s w =
    record { nets = map_within shown_net (record { key = λ r. refl; within = λ r h. h }) s.nets w.nets; aps = w.aps }

-- accepted terms

heard_within : (layer : Layer) (k : Bytes) (sender counter : ℕ) (s : NodeState) → IsWithinLimits s
    → IsWithinLimits (after_hearing layer k sender counter s)
unfolding after_hearing
heard_within Nwk k sender counter s w =
    record {
      nets = at_within (net_kept sender (counter + 1)) (record { key = λ r. refl; within = λ r h. h }) k s.nets
          w.nets;
      aps = w.aps;
    }
heard_within Aps k sender counter s w = record { nets = w.nets; aps = w.aps }

accepted_within : (ts : List Term) (s : NodeState) → IsWithinLimits s → IsWithinLimits (accepted_all ts s)
unfolding after_accepting
accepted_within [] s w = w
accepted_within (t ∷ ts) s w = accepted_within ts (after_accepting t s)
    (heard_within t.layer t.base t.source t.counter s w)

-- seals

sealed_row : (counter : ℕ) (base key : Bytes) (nets : List NetKey)
    → IsBelow counter (option_map (λ (r : NetKey). r.limit) (find (with_key base) nets)) → (o : Option NetKey)
    → find (with_key key) nets ≡ o → RowIsWithin o
    → RowIsWithin (option_map (λ (r : NetKey). if same_key r.key base then next_at (counter + 1) r else r) o)
sealed_row counter base key nets below None e h = tt
sealed_row counter base key nets below (Some r) e h = by_test (same_key r.key base) refl
  where
    there : same_key r.key base ≡ true → find (with_key base) nets ≡ Some r
    there is = subst (λ k. find (with_key k) nets ≡ Some r) (sym (found_key key nets r e) ∙ same_key_is r.key base is)
        e

    room : same_key r.key base ≡ true → counter < r.limit
    room is = subst (λ o. IsBelow counter (option_map (λ (x : NetKey). x.limit) o)) (there is) below

    by_test : (b : Bool) → same_key r.key base ≡ b → RowIsWithin (Some (if b then next_at (counter + 1) r else r))
    by_test true is = omega (arith, room is)
    by_test false is = h

sealed_within : (layer : Layer) (t : Term) (s : NodeState) → IsBelow t.counter (limit_under layer t.base s)
    → IsWithinLimits s → IsWithinLimits (sealed_at layer t s)
sealed_within Nwk t s below w = record {
  nets = λ key. subst RowIsWithin
      (sym (find_map (with_key key) at (λ r. key_of (same_key r.key t.base) r key) s.nets))
      (sealed_row t.counter t.base key s.nets below (find (with_key key) s.nets) refl (w.nets key));
  aps = w.aps;
}
  where
    at : NetKey → NetKey
    at r = if same_key r.key t.base then next_at (t.counter + 1) r else r

    key_of : (b : Bool) (r : NetKey) (key : Bytes) → same_key (if b then next_at (t.counter + 1) r else r).key key
        ≡ same_key r.key key
    key_of true r key = refl
    key_of false r key = refl
sealed_within Aps t s below w = record { nets = w.nets; aps = omega (arith, below) }

seals_within : (ts : List Term) (s : NodeState) → SealsReserved s ts → IsWithinLimits s
    → IsWithinLimits (sealed_all ts s)
unfolding after_sealing
seals_within [] s a w = w
seals_within (t ∷ ts) s a w = seals_within ts (after_sealing t s) a.1 (sealed_within t.layer t s a.0 w)

-- boots

pub booted_within : (s : NodeState) → IsWithinLimits (after_boot s)
unfolding after_boot
booted_within s = record {
  nets = λ key. subst RowIsWithin (sym (find_map (with_key key) booted_net (λ r. refl) s.nets))
      (booted_row (find (with_key key) s.nets));
  aps = le_refl s.aps_limit;
}
  where
    booted_row : (o : Option NetKey) → RowIsWithin (option_map booted_net o)
    booted_row None = tt
    booted_row (Some r) = le_refl r.limit

-- the whole answer

pub answered_within : (tools : Tools) (c : Setting) (s : NodeState) (task : Task) → IsWithinLimits s → 1
    ≤ c.me.out_block
    → IsWithinLimits (sealed_all (answer tools c s task).seals (before_seals (answer tools c s task) s))
answered_within tools c s task w block =
    let a = answer tools c s task in
    seals_within a.seals (before_seals (answer tools c s task) s) (answer_reserved tools c s task w block)
    (accepted_within a.accepts (shown (applied_all a.edits s))
    (shown_within (applied_all a.edits s) (changed_within a.edits s w)))

pub ruleset limits_stand = (answered_within, applied_within, shown_within, booted_within)
