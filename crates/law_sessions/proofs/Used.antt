-- Counters that were used: what the centre seals next is above them, and so are the limits that are stored. No event
-- and no boot takes that back.
use Rattle.std.proofs.Common.{◌≡◌, ℕ, ◌<◌, ◌≤◌, ◌+◌, true, map, List, [], ◌∷◌, ◌++◌, Option, Some, None, Ok, Err, option_map, find, refl, sym, ap, ◌∙◌, subst, arith, append_assoc, append-nil, lt_irrefl}
use Rattle.std.proofs.lemmas.Bool.{false≢true}
use Rattle.std.specs.Prelude.{is_some}
use Rattle.std.specs.List.{AllByRecursion}
use Rattle.law_answer_seals.specs.Sealing.{IsBelow, IsNext, IsReserved, IsWithinLimits, SealsNext, SealsReserved, before_seals, limit_under, next_under}
use Rattle.law_answer_seals.proofs.Limits.{answered_within, booted_within, shown_within}
use Rattle.law_answer_seals.proofs.Next.{answer_next}
use Rattle.law_answer_seals.proofs.Room.{answer_reserved}
use Rattle.law_run.proofs.Basics.{find-map}
use Rattle.law_run.proofs.Counters.{ApsCovers, aps-after, on-sealed}
use Rattle.law_run.proofs.Nets.{Closed, Holds, Keeps, KeepsHeard, Mild, On, at_key, on-accepted, on-applied, on-booted, on-map, on-map-found}
use Rattle.law_sessions.specs.Sessions.{AreCountedAsOne, IsUnderKept, NoneTwice, TakeOneCounter}
use Rattle.zb_live.specs.Living.{Found}
use Rattle.zb_model.specs.Answer.{Answer, accepted_all, answer, answered, sealed_all}
use Rattle.zb_model.specs.Data.{Layer, Nwk, Aps, Task, Term, Edit, Reserve, Floor, Start, Moved}
use Rattle.zb_model.specs.Lines.{Changed, Accept, Boot}
use Rattle.zb_model.specs.Readings.{after}
use Rattle.zb_model.specs.Rules.{Setting}
use Rattle.zb_model.specs.State.{NetKey, NodeState, after_accepting, after_boot, after_sealing, applied, applied_all, booted_net, next_at, sealed_at, shown, shown_net, stored_limit}
use Rattle.zb_model.specs.Tools.{Tools}
use Rattle.zb_centre_store.specs.Freshness.{HasUsed, IsAbove}
use Rattle.zb_centre_store.specs.Skipping.{counted_from, skipped, skipped_limit, skipped_net}
use Rattle.zb_stored_tables.proofs.CoreValues.{answered_tables}

-- ---- a counter below that of a row

-- the next counter and the limit of a row are above a counter
abbrev Above : ℕ → NetKey → Type 0
Above c r = (c < r.next) × (c < r.limit)

above_closed : (c : ℕ) → Closed (Above c)
above_closed c = record {
  reserves = λ limit. record { key = λ r. refl; kept = λ r h. (h.0, omega (arith, h.1)) };
  drops = record { key = λ r. refl; kept = λ r h. h };
  floors = λ sender value. record { key = λ r. refl; kept = λ r h. h };
}

above_mild : (c : ℕ) (e : Edit) → Mild (Above c) e
above_mild c (Start key value) = record { key = λ r. refl; kept = λ r h. (omega (arith, h.0), omega (arith, h.1)) }
above_mild c (Reserve layer limit) = tt
above_mild c (Floor layer key sender value) = tt
above_mild c (Moved m) = tt

above_heard : (c : ℕ) → KeepsHeard (Above c)
above_heard c sender kept = record { key = λ r. refl; kept = λ r h. h }

above_booted : (c : ℕ) → Keeps (Above c) booted_net
above_booted c = record { key = λ r. refl; kept = λ r h. (h.1, h.1) }

above_shown : (c : ℕ) → Keeps (Above c) shown_net
above_shown c = record { key = λ r. refl; kept = λ r h. h }

-- ---- a counter that was used

abbrev IsUsedAt : Layer → Term → NodeState → Type 0
IsUsedAt Nwk t s = On (Above t.counter) t.base s.nets
IsUsedAt Aps t s = ApsCovers t.counter s

abbrev pub IsUsed : NodeState → Term → Type 0
IsUsed s t = IsUsedAt t.layer t s

used_applied : (layer : Layer) (t : Term) (e : Edit) (s : NodeState) → IsUsedAt layer t s
    → IsUsedAt layer t (applied e s)
unfolding after
used_applied Nwk t e s h = on-applied (Above t.counter) (above_closed t.counter) t.base e s (above_mild t.counter e) h
used_applied Aps t e s h = aps-after t.counter (Changed 0 0 e) s tt h

used_accepted : (layer : Layer) (t u : Term) (s : NodeState) → IsUsedAt layer t s
    → IsUsedAt layer t (after_accepting u s)
unfolding after
used_accepted Nwk t u s h = on-accepted (Above t.counter) (above_heard t.counter) t.base u s h
used_accepted Aps t u s h = aps-after t.counter (Accept 0 0 u) s tt h

used_booted : (layer : Layer) (t : Term) (s : NodeState) → IsUsedAt layer t s → IsUsedAt layer t (after_boot s)
unfolding after
used_booted Nwk t s h = on-booted (Above t.counter) (above_booted t.counter) t.base s h
used_booted Aps t s h = aps-after t.counter (Boot 0 0) s tt h

used_shown : (layer : Layer) (t : Term) (s : NodeState) → IsUsedAt layer t s → IsUsedAt layer t (shown s)
unfolding shown
used_shown Nwk t s h = on-map (Above t.counter) shown_net (above_shown t.counter) t.base s.nets h
used_shown Aps t s h = h

-- ---- a seal

abbrev Comes : ℕ → NetKey → Type 0
Comes c r = (r.next ≡ c) × (c < r.limit)

row_comes : (c : ℕ) (o : Option NetKey) → option_map (λ (r : NetKey). r.next) o ≡ Some c
    → IsBelow c (option_map (λ (r : NetKey). r.limit) o) → Holds (Comes c) o
unfolding Holds
row_comes c None e below = absurd below
row_comes c (Some r) e below = let same : r.next ≡ c = cc in (same, below)

nwk_comes : (t : Term) (s : NodeState) → next_under Nwk t.base s ≡ Some t.counter
    → IsBelow t.counter (limit_under Nwk t.base s) → On (Comes t.counter) t.base s.nets
nwk_comes t s e below = row_comes t.counter (find (at_key t.base) s.nets) e below

aps_comes : (t : Term) (s : NodeState) → next_under Aps t.base s ≡ Some t.counter → s.aps_next ≡ t.counter
aps_comes t s e = cc

-- what was used stays so
used_sealed_at : (layer at : Layer) (t u : Term) (s : NodeState) → next_under at u.base s ≡ Some u.counter
    → IsBelow u.counter (limit_under at u.base s) → IsUsedAt layer t s → IsUsedAt layer t (sealed_at at u s)
used_sealed_at Nwk Nwk t u s e below h =
    on-sealed (Above t.counter) (Comes u.counter) (next_at (u.counter + 1)) t.base u.base s.nets (λ r. refl)
    (λ r p q. (omega (arith, p.0, q.0), p.1)) h (nwk_comes u s e below)
used_sealed_at Nwk Aps t u s e below h = h
used_sealed_at Aps Nwk t u s e below h = h
used_sealed_at Aps Aps t u s e below h = (omega (arith, h.0, aps_comes u s e), h.1)

-- what is sealed was used from then on
new_used_at : (layer : Layer) (t : Term) (s : NodeState) → next_under layer t.base s ≡ Some t.counter
    → IsBelow t.counter (limit_under layer t.base s) → IsUsedAt layer t (sealed_at layer t s)
new_used_at Nwk t s e below =
    on-map-found (Comes t.counter) (Above t.counter) (next_at (t.counter + 1)) t.base s.nets (λ r. refl)
    (λ r p. (omega arith, p.1)) (nwk_comes t s e below)
new_used_at Aps t s e below = (omega arith, below)

-- and isn't what was used before
holds_both : (P Q : NetKey → Type 0) (o : Option NetKey) → Holds P o → Holds Q o → ((r : NetKey) → P r → Q r → ⊥) → ⊥
unfolding Holds
holds_both P Q None p q k = absurd p
holds_both P Q (Some r) p q k = k r p q

apart_at : (layer : Layer) (t u : Term) (s : NodeState) → IsUsedAt layer t s → next_under layer u.base s
    ≡ Some u.counter → IsBelow u.counter (limit_under layer u.base s) → AreCountedAsOne layer t.base u.base
    → t.counter ≡ u.counter → ⊥
apart_at Nwk t u s h e below key counter =
    holds_both (Above t.counter) (Comes u.counter) (find (at_key u.base) s.nets)
    (subst (λ k. On (Above t.counter) k s.nets) key h) (nwk_comes u s e below)
    (λ r p q. lt_irrefl t.counter (omega (arith, p.0, q.0, counter)))
apart_at Aps t u s h e below key counter = lt_irrefl t.counter (omega (arith, h.0, aps_comes u s e, counter))

apart : (t u : Term) (s : NodeState) → IsUsed s t → IsNext s u → IsReserved s u → TakeOneCounter t u → ⊥
apart t u s h next below same =
    apart_at u.layer t u s (subst (λ (layer : Layer). IsUsedAt layer t s) same.layer h) next.counter_is below
    (subst (λ (layer : Layer). AreCountedAsOne layer t.base u.base) same.layer same.key) same.counter

-- ---- lists of terms

pub all_map : {X : Type 0} (P Q : X → Type 0) → ((x : X) → P x → Q x) → (xs : List X) → AllByRecursion P xs
    → AllByRecursion Q xs
all_map P Q k [] a = tt
all_map P Q k (x ∷ xs) a = (k x a.0, all_map P Q k xs a.1)

all_more : {X : Type 0} (P : X → Type 0) (xs : List X) (x : X) → AllByRecursion P xs → P x
    → AllByRecursion P (xs ++ x ∷ [])
all_more P [] x a p = (p, tt)
all_more P (y ∷ ys) x a p = (a.0, all_more P ys x a.1 p)

none_more : (ts : List Term) (u : Term) → NoneTwice ts → AllByRecursion (λ t. TakeOneCounter t u → ⊥) ts
    → NoneTwice (ts ++ u ∷ [])
none_more [] u a d = (tt, tt)
none_more (t ∷ ts) u a d = (all_more (λ v. TakeOneCounter t v → ⊥) ts u a.0 d.0, none_more ts u a.1 d.1)

-- Terms are used in a state, and no two of them take one counter.
pub record AreUsed (terms : List Term) (s : NodeState) : Type 0 where
  pub used : AllByRecursion (IsUsed s) terms
  pub apart : NoneTwice terms
  pub within : IsWithinLimits s

sealed_used : (ts used : List Term) (s : NodeState) → SealsNext s ts → SealsReserved s ts
    → AllByRecursion (IsUsed s) used → NoneTwice used
    → AllByRecursion (IsUsed (sealed_all ts s)) (used ++ ts) × NoneTwice (used ++ ts)
unfolding after_sealing
sealed_used [] used s next below all none =
    (subst (AllByRecursion (IsUsed s)) (sym (append-nil used)) all, subst NoneTwice (sym (append-nil used)) none)
sealed_used (u ∷ ts) used s next below all none =
    let more = sealed_used ts (used ++ u ∷ []) (after_sealing u s) next.1 below.1
    (all_more (IsUsed (after_sealing u s)) used u
    (all_map (IsUsed s) (IsUsed (after_sealing u s))
    (λ t h. used_sealed_at t.layer u.layer t u s next.0.counter_is below.0 h) used all)
    (new_used_at u.layer u s next.0.counter_is below.0))
    (none_more used u none
    (all_map (IsUsed s) (λ t. TakeOneCounter t u → ⊥) (λ t h. apart t u s h next.0 below.0) used all)) in (
      subst (AllByRecursion (IsUsed (sealed_all ts (after_sealing u s)))) (append_assoc used (u ∷ []) ts) more.0,
      subst NoneTwice (append_assoc used (u ∷ []) ts) more.1,
    )

-- ---- an event

changed_used : (es : List Edit) (s : NodeState) (used : List Term) → AllByRecursion (IsUsed s) used
    → AllByRecursion (IsUsed (applied_all es s)) used
unfolding applied_all
changed_used [] s used all = all
changed_used (e ∷ es) s used all =
    changed_used es (applied e s) used
    (all_map (IsUsed s) (IsUsed (applied e s)) (λ t h. used_applied t.layer t e s h) used all)

accepted_used : (ts : List Term) (s : NodeState) (used : List Term) → AllByRecursion (IsUsed s) used
    → AllByRecursion (IsUsed (accepted_all ts s)) used
accepted_used [] s used all = all
accepted_used (u ∷ ts) s used all = accepted_used ts (after_accepting u s) used
    (all_map (IsUsed s) (IsUsed (after_accepting u s)) (λ t h. used_accepted t.layer t u s h) used all)

-- what tables forget may be forgotten before the seals
shown_before : (a : Answer) (s : NodeState) → sealed_all a.seals (before_seals a s) ≡ shown (answered a s)
unfolding answered applied_all
shown_before a s = answered_tables [] a.accepts a.seals (record a { edits = [] }) (applied_all a.edits s) refl refl
    refl

-- the terms were used in these tables; before there are any, nothing was sealed
abbrev pub IsUsedBy : List Term → Option NodeState → Type 0
IsUsedBy used None = used ≡ []
IsUsedBy used (Some s) = AreUsed used s

-- the terms were used in what is found; where no tables are found, nothing was sealed
abbrev pub IsFoundUsed : List Term → Found → Type 0
IsFoundUsed used (Ok standing) = IsUsedBy used standing
IsFoundUsed used (Err fault) = used ≡ []

pub event_used : (tools : Tools) (c : Setting) (task : Task) (s : NodeState) (used : List Term) → 1 ≤ c.me.out_block
    → AreUsed used s
    → AreUsed (used ++ (answer tools c s task).seals) (shown (answered (answer tools c s task) s))
event_used tools c task s used block u =
    let a = answer tools c s task in
    let made = applied_all a.edits s in
    let all = accepted_used a.accepts (shown made) used
    (all_map (IsUsed made) (IsUsed (shown made)) (λ t h. used_shown t.layer t made h) used
    (changed_used a.edits s used u.used)) in
    let sealed = sealed_used a.seals used (before_seals a s) (answer_next tools c s task)
    (answer_reserved tools c s task u.within block) all u.apart in
    record {
      used = subst (λ (x : NodeState). AllByRecursion (IsUsed x) (used ++ a.seals)) (shown_before a s) sealed.0;
      apart = sealed.1;
      within = subst IsWithinLimits (shown_before a s) (answered_within tools c s task u.within block);
    }

-- ---- a boot

pub boot_used : (s : NodeState) (used : List Term) → AreUsed used s → AreUsed used (shown (after_boot s))
boot_used s used u = record {
  used = all_map (IsUsed (after_boot s)) (IsUsed (shown (after_boot s)))
      (λ t h. used_shown t.layer t (after_boot s) h) used
      (all_map (IsUsed s) (IsUsed (after_boot s)) (λ t h. used_booted t.layer t s h) used u.used);
  apart = u.apart;
  within = shown_within (after_boot s) (booted_within s);
}

-- ---- a restore

row_restored : (by active c : ℕ) (o p : Option NetKey) → is_some o ≡ true → Holds (Above c) p
    → ((r l : NetKey) → o ≡ Some r → p ≡ Some l → IsAbove by (counted_from active r) l.limit)
    → Holds (Above c) (option_map booted_net (option_map (skipped_net by active) o))
unfolding Holds
row_restored by active c None p some h above = absurd (false≢true some)
row_restored by active c (Some r) None some h above = absurd h
row_restored by active c (Some r) (Some l) some h above =
    let a = above r l refl refl in
    let low : c < skipped_limit by (counted_from active r) = omega (arith, h.1, a.within, a.greatest) in
    (low, low)

-- What the lost store used, under a key that the backup has, is below where the counters continue.
pub restored_used : (by : ℕ) (backup lost : NodeState) (layer : Layer) (t : Term) → HasUsed by backup lost
    → IsUnderKept layer t.base backup → IsUsedAt layer t lost → IsUsedAt layer t (skipped by backup)
unfolding skipped after_boot
restored_used by backup lost Nwk t has kept used =
    let active = stored_limit Nwk backup in
    subst (Holds (Above t.counter))
    (sym (find-map (at_key t.base) booted_net (λ r. refl) (map (skipped_net by active) backup.nets) ∙ ap
    (option_map booted_net) (find-map (at_key t.base) (skipped_net by active) (λ r. refl) backup.nets)))
    (row_restored by active t.counter (find (at_key t.base) backup.nets) (find (at_key t.base) lost.nets) kept used
    (λ r l here there. has.nets t.base r l here there))
restored_used by backup lost Aps t has kept used =
    let low : t.counter < skipped_limit by backup.aps_limit = omega (arith, used.1, has.aps.within, has.aps.greatest)
    in
    (low, low)
