-- Words that represent what lines say also represent one more line, if each part adds what that line says.
use Rattle.zb_model.specs.Data as model
use Rattle.std.proofs.Common.{◌≡◌, ℕ, List, [], ◌∷◌, Bool, true, false, ◌||◌, ◌&&◌, Option, Some, None, ◌⊎◌, inl, inr, refl, ap, sym, ◌∙◌, bytes_eq, nat_eq}
use Rattle.std.specs.List.{list_any}
use Rattle.std.specs.Prelude.{if◌then◌else◌}
use Rattle.zb_base.specs.declared.key.Key.{Key}
use Rattle.zb_model.specs.Data.{Bytes, nobody}
use Rattle.zb_model.specs.Secrets.{carried, holds, holds_some, same_term}
use Rattle.zb_model.specs.Tools.{Tools}
use Rattle.zb_model_real.specs.Terms.{model_term}
use Rattle.zb_seal.specs.declared.term.Term.{Term}
use Rattle.zb_trace_watch.specs.Exposure.{IsSettled, was_removed}
use Rattle.zb_trace_watch.specs.Passing.{has_that}
use Rattle.zb_trace_watch.specs.Sayings.{came_by, passes_on, Grows, Sayings}
use Rattle.zb_trace_watch.specs.Sets.{has, is_carried, is_key, node_has, number_has}
use Rattle.zb_trace_watch.specs.Standing.{Represents, carries, is_that}
use Rattle.zb_trace_watch.specs.Terms.{has_term}
use Rattle.zb_trace_watch.specs.declared.exposure.Exposure.{Exposure}
use Rattle.zb_trace_watch.specs.declared.origins.Origins.{Origins}
use Rattle.zb_trace_watch.specs.declared.passing.Passing.{Passing}
use Rattle.zb_trace_watch.specs.declared.words.EndWords.{EndWords}
use Rattle.zb_trace_watch.proofs.Alike.{bytes_eq_sym, list_any_alike}
use Rattle.zb_trace_watch.proofs.Growth.{and_all, came_more, or_none, passes_by_forged, passes_by_network, passes_nothing}
use Rattle.zb_trace_watch.proofs.Outsiders.{exposed_is_settled, known_is_exposed}

pub record OriginsTake (tools : Tools) (counts : ℕ → Bool) (old new : Origins) (s a : Sayings) : Type 0 where
  pub terms : (t : Term) → has_term new.terms t
      ≡ (has_term old.terms t || list_any (same_term (model_term t)) a.terms)
  pub codes : (n : ℕ) → counts n ≡ true → (k : Bytes) → number_has new.codes n k
      ≡ (number_has old.codes n k || holds (a.codes n) k)
  pub bases : (n : ℕ) → counts n ≡ true → (k : Bytes) → number_has new.bases n k
      ≡ (number_has old.bases n k || holds (a.bases n) k)
  pub carriers : (b k : Bytes) → is_carried new.carriers k b
      ≡ (is_carried old.carriers k b || list_any (carries tools b k) a.terms)
  pub traced : (n : ℕ) → counts n ≡ true → (k : Bytes) → number_has new.traced n k ≡ true
      → (number_has old.traced n k ≡ true) ⊎ (came_by tools s n k ≡ true)
  pub ideal : new.ideal ≡ (old.ideal && a.ideal)

pub record PassingTakes (tools : Tools) (old new : Passing) (a after : Sayings) : Type 0 where
  pub network : (k : Bytes) → has new.network k ≡ (has old.network k || holds a.network k)
  pub forged : (k : Bytes) → has new.forged k
      ≡ (has old.forged k || list_any (λ (t : model.Term). is_that (carried tools t) k) a.forged)
  pub passed_on : new.passed_on ≡ passes_on tools after

pub record ExposureTakes (tools : Tools) (old new : Exposure) (a : Sayings) : Type 0 where
  pub settled : IsSettled old → IsSettled new
  pub carried : (b k : Bytes) → is_carried new.carried b k
      ≡ (is_carried old.carried b k || list_any (carries tools b k) a.terms)
  pub ever : (n : ℕ) → nat_eq n nobody ≡ false → (k : Bytes) → node_has new.ever n k
      ≡ (node_has old.ever n k || holds (a.ever n) k)
  pub removed : (d : ℕ) → was_removed new d ≡ (was_removed old d || list_any (nat_eq d) a.removed)
  pub somebody : list_any (nat_eq nobody) a.removed ≡ false
  pub based : new.based ≡ (old.based && a.based)

both_of : (a b c d : Bool) → a ≡ b → c ≡ d → (a || c) ≡ (b || d)
both_of a b c d e f = rw (e, f) refl

module _ (tools : Tools) (counts : ℕ → Bool) (old new : EndWords) (s a after : Sayings)
    (grows : Grows counts s a after) (stands : Represents tools counts old s)
    (origins : OriginsTake tools counts old.origins new.origins s a)
    (passing : PassingTakes tools old.passing new.passing a after)
    (exposure : ExposureTakes tools old.exposure new.exposure a) where
  carried_new : (b k : Bytes) → is_carried new.exposure.carried b k ≡ list_any (carries tools b k) after.terms
  carried_new b k =
      exposure.carried b k ∙
      (ap (λ (x : Bool). x || list_any (carries tools b k) a.terms) (stands.carried b k) ∙ sym
      (grows.terms (carries tools b k)))

  ever_new : (n : ℕ) → nat_eq n nobody ≡ false → (k : Bytes) → node_has new.exposure.ever n k
      ≡ holds (after.ever n) k
  ever_new n some k =
      exposure.ever n some k ∙
      (ap (λ (x : Bool). x || holds (a.ever n) k) (stands.ever n some k) ∙ sym (grows.ever n some k))

  removed_new : (d : ℕ) → was_removed new.exposure d ≡ list_any (nat_eq d) after.removed
  removed_new d =
      exposure.removed d ∙
      (ap (λ (x : Bool). x || list_any (nat_eq d) a.removed) (stands.removed d) ∙ sym (grows.removed d))

  somebody_new : list_any (nat_eq nobody) after.removed ≡ false
  somebody_new = grows.removed nobody ∙ both_of _ _ _ _ stands.somebody exposure.somebody

  traced_new : (n : ℕ) → counts n ≡ true → (k : Bytes) → number_has new.origins.traced n k ≡ true
      → came_by tools after n k ≡ true
  traced_new n some k it =
      elim (origins.traced n some k it) [
        | inl before ↦ came_more tools counts s a after grows n k some (stands.traced n some k before)
        | inr now ↦ came_more tools counts s a after grows n k some now
      ]

  pub advances : Represents tools counts new after
  advances = record {
    few = grows.few;
    terms =
        λ t. origins.terms t ∙
        (ap (λ (x : Bool). x || list_any (same_term (model_term t)) a.terms) (stands.terms t) ∙ sym
        (grows.terms (same_term (model_term t))));
    carried = carried_new;
    ever = ever_new;
    codes =
        λ n some k. origins.codes n some k ∙
        (ap (λ (x : Bool). x || holds (a.codes n) k) (stands.codes n some k) ∙ sym (grows.codes n some k));
    bases =
        λ n some k. origins.bases n some k ∙
        (ap (λ (x : Bool). x || holds (a.bases n) k) (stands.bases n some k) ∙ sym (grows.bases n some k));
    carriers =
        λ b k. origins.carriers b k ∙
        (ap (λ (x : Bool). x || list_any (carries tools b k) a.terms) (stands.carriers b k) ∙ sym
        (grows.terms (carries tools b k)));
    traced = traced_new;
    removed = removed_new;
    somebody = somebody_new;
    known =
        known_is_exposed tools new.exposure after grows.few carried_new ever_new removed_new somebody_new
        (exposure.settled
        (exposed_is_settled tools old.exposure s stands.few stands.carried stands.ever stands.removed stands.somebody
        stands.known));
    network =
        λ k. passing.network k ∙
        (ap (λ (x : Bool). x || holds a.network k) (stands.network k) ∙ sym (grows.network k));
    forged = λ k.
        passing.forged k ∙
        (ap (λ (x : Bool). x || list_any (λ (t : model.Term). is_that (carried tools t) k) a.forged)
        (stands.forged k) ∙ sym (grows.forged (λ (t : model.Term). is_that (carried tools t) k)));
    passed_on = passing.passed_on;
    ideal = origins.ideal ∙ (ap (λ (x : Bool). x && a.ideal) stands.ideal ∙ sym grows.ideal);
    based = exposure.based ∙ (ap (λ (x : Bool). x && a.based) stands.based ∙ sym grows.based);
  }

-- Parts that don't change

module _ (tools : Tools) (counts : ℕ → Bool) (w : EndWords) (s a after : Sayings) (grows : Grows counts s a after)
    (stands : Represents tools counts w s) where
  pub origins_stay : a.terms ≡ [] → ((n : ℕ) → a.codes n ≡ []) → ((n : ℕ) → a.bases n ≡ []) → a.ideal ≡ true
      → OriginsTake tools counts w.origins w.origins s a
  origins_stay none no_code no_base fine = record {
    terms =
        λ t. sym
        (ap (λ (ts : List model.Term). has_term w.origins.terms t || list_any (same_term (model_term t)) ts) none ∙
        or_none (has_term w.origins.terms t));
    codes =
        λ n some k. sym
        (ap (λ (ks : List Bytes). number_has w.origins.codes n k || holds ks k) (no_code n) ∙ or_none
        (number_has w.origins.codes n k));
    bases =
        λ n some k. sym
        (ap (λ (ks : List Bytes). number_has w.origins.bases n k || holds ks k) (no_base n) ∙ or_none
        (number_has w.origins.bases n k));
    carriers =
        λ b k. sym
        (ap (λ (ts : List model.Term). is_carried w.origins.carriers k b || list_any (carries tools b k) ts) none ∙
        or_none (is_carried w.origins.carriers k b));
    traced = λ n some k it. inl it;
    ideal = sym (ap (λ (x : Bool). w.origins.ideal && x) fine ∙ and_all w.origins.ideal);
  }

  pub passing_stays : a.network ≡ [] → a.forged ≡ [] → PassingTakes tools w.passing w.passing a after
  passing_stays none nothing = record {
    network =
        λ k. sym
        (ap (λ (ks : List Bytes). has w.passing.network k || holds ks k) none ∙ or_none (has w.passing.network k));
    forged =
        λ k. sym
        (ap (λ (ts : List model.Term). has w.passing.forged k
        || list_any (λ (t : model.Term). is_that (carried tools t) k) ts) nothing ∙ or_none (has w.passing.forged k));
    passed_on = stands.passed_on ∙ sym (passes_nothing tools counts s a after grows none nothing);
  }

  pub exposure_stays : a.terms ≡ [] → ((n : ℕ) → a.ever n ≡ []) → a.removed ≡ [] → a.based ≡ true
      → ExposureTakes tools w.exposure w.exposure a
  exposure_stays none no_key nobody_goes fine = record {
    settled = λ settled. settled;
    carried =
        λ b k. sym
        (ap (λ (ts : List model.Term). is_carried w.exposure.carried b k || list_any (carries tools b k) ts) none ∙
        or_none (is_carried w.exposure.carried b k));
    ever = λ n some k. sym
        (ap (λ (ks : List Bytes). node_has w.exposure.ever n k || holds ks k) (no_key n) ∙ or_none
        (node_has w.exposure.ever n k));
    removed =
        λ d. sym
        (ap (λ (ds : List ℕ). was_removed w.exposure d || list_any (nat_eq d) ds) nobody_goes ∙ or_none
        (was_removed w.exposure d));
    somebody = ap (list_any (nat_eq nobody)) nobody_goes;
    based = sym (ap (λ (x : Bool). w.exposure.based && x) fine ∙ and_all w.exposure.based);
  }

  -- One more key of the network, or none.
  holds_one : (keys : List Bytes) (key : Bytes) (b : Bool) → keys ≡ (if b then key ∷ [] else []) → (k : Bytes)
      → holds keys k ≡ (b && bytes_eq k key)
  holds_one keys key true is k = ap (λ (ks : List Bytes). holds ks k) is ∙ or_none (bytes_eq k key)
  holds_one keys key false is k = ap (λ (ks : List Bytes). holds ks k) is

  some_one : (key : Bytes) (o : Option Bytes) → is_that o key ≡ holds_some (key ∷ []) o
  some_one key None = refl
  some_one key (Some k) = bytes_eq_sym key k ∙ sym (or_none (bytes_eq k key))

  pub passing_gains : (new : Passing) (key : Key) (b : Bool) → a.network ≡ (if b then key.0 ∷ [] else [])
      → a.forged ≡ []
      → ((k : Bytes) → has new.network k ≡ (has w.passing.network k || (b && bytes_eq k key.0))) → new.forged
      ≡ w.passing.forged → new.passed_on ≡ (w.passing.passed_on || (b && has w.passing.forged key.0))
      → PassingTakes tools w.passing new a after
  passing_gains new key b is nothing network forged passed = record {
    network = λ k. network k ∙ ap (λ (x : Bool). has w.passing.network k || x)
        (sym (holds_one a.network key.0 b is k));
    forged = λ k.
        ap (λ keys. has keys k) forged
        ∙ sym (ap
        (λ (ts : List model.Term). has w.passing.forged k
        || list_any (λ (t : model.Term). is_that (carried tools t) k) ts) nothing ∙ or_none
        (has w.passing.forged k));
    passed_on = passed ∙ (ap (λ (x : Bool). x || (b && has w.passing.forged key.0)) stands.passed_on ∙ by b is);
  }
    where
      by : (b : Bool) → a.network ≡ (if b then key.0 ∷ [] else [])
          → (passes_on tools s || (b && has w.passing.forged key.0)) ≡ passes_on tools after
      by false is = or_none (passes_on tools s) ∙ sym (passes_nothing tools counts s a after grows is nothing)
      by true is =
          ap (λ (x : Bool). passes_on tools s || x)
          (stands.forged key.0
          ∙ (list_any_alike (λ (t : model.Term). is_that (carried tools t) key.0)
          (λ (t : model.Term). holds_some (key.0 ∷ []) (carried tools t)) (λ t. some_one key.0 (carried tools t))
          s.forged
          ∙ ap (λ (ks : List Bytes). list_any (λ (t : model.Term). holds_some ks (carried tools t)) s.forged)
          (sym is)))
          ∙ sym (passes_by_network tools counts s a after grows nothing)

  -- A forged term carries a key, or none.
  pub passing_hears : (new : Passing) (t : model.Term) (key : Option Key) → a.network ≡ [] → a.forged ≡ t ∷ []
      → ((k : Bytes) → is_key key k ≡ is_that (carried tools t) k)
      → has_that w.passing.network key ≡ holds_some s.network (carried tools t)
      → new.network ≡ w.passing.network → ((k : Bytes) → has new.forged k ≡ (has w.passing.forged k || is_key key k))
      → new.passed_on ≡ (w.passing.passed_on || has_that w.passing.network key)
      → PassingTakes tools w.passing new a after
  passing_hears new t key none is same_key same_test network forged passed = record {
    network = λ k. ap (λ keys. has keys k) network ∙ sym
        (ap (λ (ks : List Bytes). has w.passing.network k || holds ks k) none ∙ or_none (has w.passing.network k));
    forged = λ k.
        forged k
        ∙ ap (λ (x : Bool). has w.passing.forged k || x)
        (same_key k ∙
        (sym (or_none (is_that (carried tools t) k)) ∙ ap
        (λ (ts : List model.Term). list_any (λ (t : model.Term). is_that (carried tools t) k) ts) (sym is)));
    passed_on =
        passed
        ∙ (both_of _ _ _ _ stands.passed_on
        (same_test ∙
        (sym (or_none (holds_some s.network (carried tools t))) ∙ ap
        (λ (ts : List model.Term). list_any (λ (t : model.Term). holds_some s.network (carried tools t)) ts)
        (sym is)))
        ∙ sym (passes_by_forged tools counts s a after grows none));
  }
