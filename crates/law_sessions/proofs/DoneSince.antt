-- What a restored store seals is apart from all that the stores of its life sealed before.
use Rattle.std.proofs.Common.{◌≡◌, inl, inr, ℕ, List, [], ◌∷◌, ◌++◌, Some, None, Ok, Err, refl, sym, ap, ◌∙◌, subst, append_assoc, append-nil}
use Rattle.std.specs.List.{AllByRecursion}
use Rattle.law_sessions.specs.Deeds.{AreDeeds, Deed, Lived, Ran, all_seals, last_left}
use Rattle.law_sessions.specs.Runs.{backup_tables, run_seals}
use Rattle.law_sessions.specs.Sessions.{AreCountedAsOne, IsUnderKept, NoneTwice, TakeOneCounter}
use Rattle.law_sessions.specs.Stores.{AreRestored, BeginsRestored, IsApartAt, IsDrawnOnce, IsUnder, Reaches, Restored, Store, life_seals, restored_seals, store_on}
use Rattle.law_sessions.proofs.Done.{deeds_apart, deeds_form, deeds_used}
use Rattle.law_sessions.proofs.RunLemmas.{restored_used_in, skipped_within}
use Rattle.law_sessions.proofs.SessionLemmas.{found_used, none_found}
use Rattle.law_sessions.proofs.Stamps.{HasForm, all_append, all_two, stamps_apart}
use Rattle.law_sessions.proofs.Used.{AreUsed, IsFoundUsed, IsUsed, all_map, restored_used}
use Rattle.zb_centre_store.specs.Freshness.{HasUsed}
use Rattle.zb_centre_store.specs.Skipping.{skipped}
use Rattle.zb_centre_store.specs.Standing.{found_on}
use Rattle.zb_live.specs.Living.{Found}
use Rattle.zb_model.specs.Claims.{AreApart}
use Rattle.zb_model.specs.Data.{Layer, Nwk, Aps, Term}
use Rattle.zb_model.specs.State.{NodeState}
use Rattle.zb_model_real.specs.Real.{real}

-- no term takes the counter of this one
abbrev pub NoneTakes : Term → List Term → Type 0
NoneTakes t us = AllByRecursion (λ u. TakeOneCounter t u → ⊥) us

-- ---- a term that was used in the tables with which a restored store begins

used_since : (deeds : List Deed) (by : ℕ) (bytes : List ℕ) (t : Term)
    → AreUsed (t ∷ []) (skipped by (backup_tables bytes)) → AreDeeds [] deeds → BeginsRestored by bytes deeds
    → NoneTakes t (all_seals [] deeds)
unfolding found_on
used_since [] by bytes t is are begins = tt
used_since (Lived x ∷ more) by bytes t is are begins = absurd begins
used_since (Ran r ∷ more) by bytes t is ((script, left), are) begins =
    (none_found ((t ∷ run_seals r (Ok None)) ++ all_seals r.left more) (found_on (last_left r.left more))
    (deeds_used r.left more (t ∷ run_seals r (Ok None)) are
    (restored_used_in r by bytes (t ∷ []) is script left begins))).0

one_used : (by : ℕ) (backup : NodeState) (t : Term) → IsUsed (skipped by backup) t → AreUsed (t ∷ []) (skipped by
    backup)
one_used by backup t is = record { used = (is, tt); apart = (tt, tt); within = skipped_within by backup }

-- ---- one term of a store before

unkept_apart : (t : Term) (us : List Term) → t.layer ≡ Nwk → AllByRecursion (λ u. IsUnder t.base u → ⊥) us
    → NoneTakes t us
unkept_apart t us nwk none =
    all_map (λ u. IsUnder t.base u → ⊥) (λ u. TakeOneCounter t u → ⊥)
    (λ u no same. no
    (sym same.layer ∙ nwk, sym (subst (λ (l : Layer). AreCountedAsOne l t.base u.base) nwk same.key)))
    us none

term_apart : (by : ℕ) (bytes : List ℕ) (deeds : List Deed) (lost : NodeState) (t : Term) (layer : Layer)
    → t.layer ≡ layer → AreDeeds [] deeds → BeginsRestored by bytes deeds → HasUsed by (backup_tables bytes) lost
    → IsUsed lost t → IsApartAt layer (backup_tables bytes) (all_seals [] deeds) t → NoneTakes t (all_seals [] deeds)
term_apart by bytes deeds lost t Nwk at are begins has used (inl kept) =
    used_since deeds by bytes t
    (one_used by (backup_tables bytes) t
    (restored_used by (backup_tables bytes) lost t.layer t has
    (subst (λ (l : Layer). IsUnderKept l t.base (backup_tables bytes)) (sym at) kept) used)) are begins
term_apart by bytes deeds lost t Nwk at are begins has used (inr none) = unkept_apart t (all_seals [] deeds) at none
term_apart by bytes deeds lost t Aps at are begins has used once =
    used_since deeds by bytes t
    (one_used by (backup_tables bytes) t
    (restored_used by (backup_tables bytes) lost t.layer t has
    (subst (λ (l : Layer). IsUnderKept l t.base (backup_tables bytes)) (sym at) tt) used)) are begins

-- ---- a store before

store_apart : (by : ℕ) (bytes : List ℕ) (deeds : List Deed) (s : Store) (last : Found) → IsFoundUsed s.seals last
    → AreDeeds [] deeds → BeginsRestored by bytes deeds → Reaches by (backup_tables bytes) last
    → AllByRecursion (IsDrawnOnce (backup_tables bytes) (all_seals [] deeds)) s.seals
    → AllByRecursion (λ t. NoneTakes t (all_seals [] deeds)) s.seals
store_apart by bytes deeds s (Ok (Some lost)) used are begins has once =
    all_two (IsUsed lost) (IsDrawnOnce (backup_tables bytes) (all_seals [] deeds))
    (λ t. NoneTakes t (all_seals [] deeds))
    (λ t is drawn. term_apart by bytes deeds lost t t.layer refl are begins has is drawn) s.seals used.used once
store_apart by bytes deeds s (Ok None) used are begins has once =
    subst (λ ts. AllByRecursion (λ t. NoneTakes t (all_seals [] deeds)) ts) (sym used) tt
store_apart by bytes deeds s (Err fault) used are begins has once =
    subst (λ ts. AllByRecursion (λ t. NoneTakes t (all_seals [] deeds)) ts) (sym used) tt

-- ---- all of them

-- all that the stores sealed
abbrev sealed_before : List Store → List Term
sealed_before [] = []
sealed_before (s ∷ more) = s.seals ++ sealed_before more

abbrev AreAllUsed : List Store → Type 0
AreAllUsed stores = AllByRecursion (λ (s : Store). IsFoundUsed s.seals s.last) stores

stores_apart : (by : ℕ) (bytes : List ℕ) (deeds : List Deed) (stores : List Store) → AreAllUsed stores
    → AreDeeds [] deeds → BeginsRestored by bytes deeds
    → AllByRecursion (λ (s : Store). Reaches by (backup_tables bytes) s.last) stores
    → AllByRecursion
    (λ (s : Store). AllByRecursion (IsDrawnOnce (backup_tables bytes) (all_seals [] deeds)) s.seals) stores
    → AllByRecursion (λ t. NoneTakes t (all_seals [] deeds)) (sealed_before stores)
stores_apart by bytes deeds [] used are begins has once = tt
stores_apart by bytes deeds (s ∷ more) used are begins has once =
    all_append (λ t. NoneTakes t (all_seals [] deeds)) s.seals (sealed_before more)
    (store_apart by bytes deeds s s.last used.0 are begins has.0 once.0)
    (stores_apart by bytes deeds more used.1 are begins has.1 once.1)

-- two lists each without, and none of one list takes a counter of the other
two_lists : (ts us : List Term) → NoneTwice ts → NoneTwice us → AllByRecursion (λ t. NoneTakes t us) ts
    → NoneTwice (ts ++ us)
two_lists [] us one two apart = two
two_lists (t ∷ ts) us one two apart =
    (all_append (λ u. TakeOneCounter t u → ⊥) ts us one.0 apart.0, two_lists ts us one.1 two apart.1)

store_used : (image : List ℕ) (deeds : List Deed) → AreDeeds image deeds
    → IsFoundUsed (all_seals image deeds) (found_on (last_left image deeds))
store_used image deeds are = deeds_used image deeds [] are (found_used image)

before_more : (stores : List Store) (s : Store) → sealed_before (stores ++ s ∷ []) ≡ sealed_before stores ++ s.seals
before_more [] s = append-nil s.seals
before_more (x ∷ stores) s =
    ap (λ ts. x.seals ++ ts) (before_more stores s) ∙ sym (append_assoc x.seals (sealed_before stores) s.seals)

life_apart : (stores : List Store) (more : List Restored) → AreAllUsed stores → NoneTwice (sealed_before stores)
    → AreRestored stores more → NoneTwice (sealed_before stores ++ restored_seals more)
life_apart stores [] used none are = subst NoneTwice (sym (append-nil (sealed_before stores))) none
life_apart stores (r ∷ more) used none (is, are) =
    let here = all_seals [] r.deeds in
    let next = stores ++ store_on [] r.deeds ∷ [] in
    let both : NoneTwice (sealed_before stores ++ here) =
    two_lists (sealed_before stores) here none (deeds_apart [] r.deeds is.deeds)
    (stores_apart r.skip r.backup r.deeds stores used is.deeds is.begins is.reaches is.drawn_once) in
    subst NoneTwice
    (ap (λ ts. ts ++ restored_seals more) (before_more stores (store_on [] r.deeds))
    ∙ append_assoc (sealed_before stores) here (restored_seals more))
    (life_apart next more
    (all_append (λ (s : Store). IsFoundUsed s.seals s.last) stores (store_on [] r.deeds ∷ []) used
    (store_used [] r.deeds is.deeds, tt))
    (subst NoneTwice (sym (before_more stores (store_on [] r.deeds))) both) are)

pub whole_life_apart : (image : List ℕ) (deeds : List Deed) (more : List Restored) → AreDeeds image deeds
    → AreRestored (store_on image deeds ∷ []) more → NoneTwice (life_seals image deeds more)
whole_life_apart image deeds more are restored =
    let first = all_seals image deeds in
    subst NoneTwice (ap (λ ts. ts ++ restored_seals more) (append-nil first))
    (life_apart (store_on image deeds ∷ []) more (store_used image deeds are, tt)
    (subst NoneTwice (sym (append-nil first)) (deeds_apart image deeds are)) restored)

-- ---- nonces

restored_form : (more : List Restored) → AllByRecursion HasForm (restored_seals more)
restored_form [] = tt
restored_form (r ∷ more) = all_append HasForm (all_seals [] r.deeds) (restored_seals more) (deeds_form [] r.deeds)
    (restored_form more)

pub life_nonces_apart : (image : List ℕ) (deeds : List Deed) (more : List Restored) → AreDeeds image deeds
    → AreRestored (store_on image deeds ∷ []) more → AreApart real (life_seals image deeds more)
life_nonces_apart image deeds more are restored =
    stamps_apart real (life_seals image deeds more)
    (all_append HasForm (all_seals image deeds) (restored_seals more) (deeds_form image deeds) (restored_form more))
    (whole_life_apart image deeds more are restored)
