-- Removed devices are locked out of the printed lines of a run, as the audit reads them, because they are locked out
-- of the run.
use Rattle.std.proofs.Common.{◌≡◌, ℕ, Bool, true, false, cond, not, ◌||◌, List, [], ◌∷◌, ◌++◌, flat_map, ◌⊎◌, inl, inr, refl, sym, ap, ◌∙◌}
use Rattle.std.specs.List.{AllByRecursion, Any, list_any}
use Rattle.std.proofs.lemmas.List.Folds.{Any-from_list_any, list_any-append}
use Rattle.law_audit_sound.specs.Agreeing.{ReadSame}
use Rattle.law_audit_sound.proofs.Showing.{show_same}
use Rattle.zb_audit_names.specs.Naming.{declared_in}
use Rattle.zb_audit_names.specs.Secrets as read
use Rattle.law_audit_groups.specs.Printing.{printed}
use Rattle.zb_audit_lockout.specs.Before.{before_group, holds_known}
use Rattle.zb_audit_lockout.specs.Lockout as lockout
use Rattle.zb_audit_lockout.specs.Lockout.{admits, is_aps, keeps_out, locked, locked_from, locked_line, locks_out, refuses, refuses_line, sealed_by}
use Rattle.zb_audit_lockout.proofs.Tests.{none_any, not_on}
use Rattle.zb_model.specs.Claims as claims
use Rattle.zb_model.specs.Claims.{Among, Each, HasTerm, HoldsNoneKnown, KeepsOut, LockedFrom, LockedLine, Obtains, Refuses, RefusesLine, is_live_line, seals_of}
use Rattle.zb_model.specs.Data as model
use Rattle.zb_model.specs.Data.{Bytes, Label, Layer, Nwk, Aps, Station, Term}
use Rattle.zb_model.specs.Lines as log
use Rattle.zb_model.specs.Lines.{Line}
use Rattle.zb_model.specs.Secrets.{ever, exposed, forged_in, holds, same_term, well_known}
use Rattle.zb_model.specs.State.{same_key, same_label, same_layer}
use Rattle.zb_model.specs.Tools.{Tools}
use Rattle.zb_model_real.specs.Terms.{layer_of, model_term, term_of}
use Rattle.zb_trace_model.specs.Naming.{IsDeclared, name_of}
use Rattle.zb_trace_model.specs.Said.{called, line_for}
use Rattle.zb_trace_model.proofs.Parts.{term_again}
use Rattle.zb_trace.specs.declared.line.Line.{Line as Printed}
use Rattle.zb_trace.specs.declared.line.Line.TheVariants as line
use Rattle.zb_trace_watch.proofs.Truth.{and_left, and_right, decided, either, or_left, or_right, same_bytes, same_number}

-- ---- lists

pub printed_append : (known : List Station) (h g : List Line) → printed known h ++ printed known g
    ≡ printed known (h ++ g)
printed_append known [] g = refl
printed_append known (m ∷ h) g = ap (λ ls. line_for known m ∷ ls) (printed_append known h g)

pub all_left : {X : Type 0} (P : X → Type 0) (xs ys : List X) → AllByRecursion P (xs ++ ys) → AllByRecursion P xs
all_left P [] ys all = tt
all_left P (x ∷ xs) ys all = (all.0, all_left P xs ys all.1)

pub each_left : (P : List Line → Line → Type 0) (h xs ys : List Line) → Each P h (xs ++ ys) → Each P h xs
each_left P h [] ys all = tt
each_left P h (x ∷ xs) ys all = (all.0, each_left P (h ++ x ∷ []) xs ys all.1)

-- what passes a test that is enough for a claim
any_claim : {X : Type 0} (p : X → Bool) (P : X → Type 0) (xs : List X) → ((x : X) → p x ≡ true → P x) → list_any p xs
    ≡ true → Any P xs
any_claim p P xs enough there = let a = Any-from_list_any p xs there in (a.0, a.1, a.2, a.3, enough a.1 a.4)

among : (keys : List Bytes) (key : Bytes) → holds keys key ≡ true → Among keys key
among keys key there = any_claim (same_key key) (λ (k : Bytes). k ≡ key) keys (λ k is. sym (same_bytes key k is)) there

never : (b : Bool) → (b ≡ true → ⊥) → b ≡ false
never true f = absurd (f refl)
never false f = refl

-- ---- one term and another

layers_same : (a b : Layer) → same_layer a b ≡ true → a ≡ b
layers_same Nwk Nwk is = refl
layers_same Nwk Aps is = cc
layers_same Aps Nwk is = cc
layers_same Aps Aps is = refl

labels_same : (a b : Label) → same_label a b ≡ true → a ≡ b
labels_same model.ForData model.ForData is = refl
labels_same model.ForData model.ForNetwork is = cc
labels_same model.ForData model.ForTransport is = cc
labels_same model.ForData model.ForLoad is = cc
labels_same model.ForNetwork model.ForData is = cc
labels_same model.ForNetwork model.ForNetwork is = refl
labels_same model.ForNetwork model.ForTransport is = cc
labels_same model.ForNetwork model.ForLoad is = cc
labels_same model.ForTransport model.ForData is = cc
labels_same model.ForTransport model.ForNetwork is = cc
labels_same model.ForTransport model.ForTransport is = refl
labels_same model.ForTransport model.ForLoad is = cc
labels_same model.ForLoad model.ForData is = cc
labels_same model.ForLoad model.ForNetwork is = cc
labels_same model.ForLoad model.ForTransport is = cc
labels_same model.ForLoad model.ForLoad is = refl

abbrev termed : Layer → Bytes → Label → ℕ → ℕ → ℕ → Bytes → Bytes → Term
termed layer base label source counter control header content =
    record {
      layer = layer;
      base = base;
      label = label;
      source = source;
      counter = counter;
      control = control;
      header = header;
      content = content;
    }

same_termed : (a b : Term) → a.layer ≡ b.layer → a.base ≡ b.base → a.label ≡ b.label → a.source ≡ b.source → a.counter
    ≡ b.counter → a.control ≡ b.control → a.header ≡ b.header → a.content ≡ b.content → a ≡ b
same_termed a b e0 e1 e2 e3 e4 e5 e6 e7 =
    ap (λ x. termed x a.base a.label a.source a.counter a.control a.header a.content) e0
    ∙ ap (λ x. termed b.layer x a.label a.source a.counter a.control a.header a.content) e1
    ∙ ap (λ x. termed b.layer b.base x a.source a.counter a.control a.header a.content) e2
    ∙ ap (λ x. termed b.layer b.base b.label x a.counter a.control a.header a.content) e3
    ∙ ap (λ x. termed b.layer b.base b.label b.source x a.control a.header a.content) e4
    ∙ ap (λ x. termed b.layer b.base b.label b.source b.counter x a.header a.content) e5
    ∙ ap (λ x. termed b.layer b.base b.label b.source b.counter b.control x a.content) e6
    ∙ ap (λ x. termed b.layer b.base b.label b.source b.counter b.control b.header x) e7

terms_same : (a b : Term) → same_term a b ≡ true → a ≡ b
unfolding same_term
terms_same a b is =
    let p0 = and_right (same_layer a.layer b.layer) _ is in
    let p1 = and_right (same_key a.base b.base) _ p0 in
    let p2 = and_right (same_label a.label b.label) _ p1 in
    let p3 = and_right (Rattle.std.specs.Prelude.nat_eq a.source b.source) _ p2 in
    let p4 = and_right (Rattle.std.specs.Prelude.nat_eq a.counter b.counter) _ p3 in
    let p5 = and_right (Rattle.std.specs.Prelude.nat_eq a.control b.control) _ p4 in
    same_termed a b (layers_same a.layer b.layer (and_left _ _ is)) (same_bytes a.base b.base (and_left _ _ p0))
    (labels_same a.label b.label (and_left _ _ p1)) (same_number a.source b.source (and_left _ _ p2))
    (same_number a.counter b.counter (and_left _ _ p3)) (same_number a.control b.control (and_left _ _ p4))
    (same_bytes a.header b.header (and_left _ _ p5))
    (same_bytes a.content b.content (and_right (Rattle.std.specs.Prelude.bytes_eq a.header b.header) _ p5))

has_term : (terms : List Term) (t : Term) → list_any (same_term t) terms ≡ true → HasTerm terms t
has_term terms t there = any_claim (same_term t) (λ (u : Term). u ≡ t) terms (λ u is. sym (terms_same t u is)) there

-- ---- a window

-- the lines after a window
pub record Behind (u ms : List Line) : Type 0 where
  pub rest : List Line
  pub whole : u ++ rest ≡ ms

behind_one : (b : Bool) (m : Line) (u ms : List Line) → Behind u ms → Behind (cond b [] (m ∷ u)) (m ∷ ms)
behind_one true m u ms more = record { rest = m ∷ ms; whole = refl }
behind_one false m u ms more = record { rest = more.rest; whole = ap (λ ls. m ∷ ls) more.whole }

pub behind : (d : ℕ) (ms : List Line) → Behind (claims.until_live d ms) ms
behind d [] = record { rest = []; whole = refl }
behind d (m ∷ ms) = behind_one (is_live_line d m) m (claims.until_live d ms) ms (behind d ms)

module _ (tools : Tools) (known : List Station) where
  -- ---- no key that is drawn in a window becomes known to its device

  pub keeps_so : (h u : List Line) (d : ℕ) → ReadSame tools known (h ++ u)
      → ((key : Bytes) → Among (flat_map claims.drawn_in u) key → Obtains tools (h ++ u) d key → ⊥)
      → keeps_out tools (printed known h) (printed known u) d ≡ true
  unfolding keeps_out
  keeps_so h u d same out =
      not_on (list_any (holds (read_keys (printed known h ++ printed known u)))
      (flat_map lockout.drawn_in (printed known u)))
      (ap (λ ks. list_any (holds ks) (flat_map lockout.drawn_in (printed known u)))
      (ap read_keys (printed_append known h u) ∙ keys_so)
      ∙ ap (list_any (holds keys)) (show_same tools known u).drawn
      ∙ none_any (holds keys) (flat_map claims.drawn_in u)
      (λ q there. never (holds keys q)
      (λ it. out q (among (flat_map claims.drawn_in u) q there) (inr (among keys q it)))))
    where
      read_keys : List Printed → List Bytes
      read_keys g = read.exposed tools g (well_known ∷ read.ever g d)

      keys : List Bytes
      keys = exposed tools (h ++ u) (well_known ∷ ever (h ++ u) d)

      keys_so : read_keys (printed known (h ++ u)) ≡ keys
      keys_so = same.shows.exposed (well_known ∷ read.ever (printed known (h ++ u)) d) ∙ ap
          (λ ks. exposed tools (h ++ u) (well_known ∷ ks)) (same.holds.ever d)

  -- ---- no line of a window accepts what it must not

  pub accept_at : (h since : List Line) (d event n : ℕ) (t : Term) → IsDeclared known n
      → (t.layer ≡ Nwk → HoldsNoneKnown tools (claims.before_group event (h ++ since)) n
      → HasTerm (flat_map (seals_of d) since) t ⊎ HasTerm (flat_map forged_in (h ++ since)) t → ⊥)
      → before_group (printed known ((h ++ since) ++ log.Accept event n t ∷ []))
      ≡ printed known (claims.before_group event (h ++ since))
      → ReadSame tools known (claims.before_group event (h ++ since)) → ReadSame tools known (h ++ since)
      → refuses_line tools d (printed known h) (printed known since) (line.Accept event (called known n) (term_of t))
      ≡ true
  unfolding refuses_line line_for
  accept_at h since d event n t its refused begins past same = by_layer t.layer refl
    where
      line_is : Printed
      line_is = line.Accept event (called known n) (term_of t)

      knows : List Printed → Bool
      knows g = holds_known tools (before_group (g ++ line_is ∷ [])) (name_of known n)

      evil : List Term
      evil = read.along (sealed_by d) (declared_in (printed known h)) (printed known since)
          ++ flat_map read.forged_in (printed known h ++ printed known since)

      evil_so : evil ≡ flat_map (seals_of d) since ++ flat_map forged_in (h ++ since)
      evil_so =
          ap (λ ts. ts ++ flat_map read.forged_in (printed known h ++ printed known since))
          (same.holds.sealed d h since refl)
          ∙ ap (λ ls. flat_map (seals_of d) since ++ flat_map read.forged_in ls) (printed_append known h since)
          ∙ ap (λ ts. flat_map (seals_of d) since ++ ts) same.shows.forged

      knows_so : knows (printed known h ++ printed known since)
          ≡ holds_known tools (printed known (claims.before_group event (h ++ since))) (name_of known n)
      knows_so =
          ap knows (printed_append known h since)
          ∙ ap (λ ls. holds_known tools (before_group ls) (name_of known n))
          (printed_append known (h ++ since) (log.Accept event n t ∷ []))
          ∙ ap (λ ls. holds_known tools ls (name_of known n)) begins

      found : list_any (same_term t) (flat_map (seals_of d) since ++ flat_map forged_in (h ++ since)) ≡ true
          → HasTerm (flat_map (seals_of d) since) t ⊎ HasTerm (flat_map forged_in (h ++ since)) t
      found there =
          by_part
          (either _ _
          (sym (list_any-append (same_term t) (flat_map (seals_of d) since) (flat_map forged_in (h ++ since))) ∙
          there))
        where
          by_part : (list_any (same_term t) (flat_map (seals_of d) since) ≡ true)
              ⊎ (list_any (same_term t) (flat_map forged_in (h ++ since)) ≡ true)
              → HasTerm (flat_map (seals_of d) since) t ⊎ HasTerm (flat_map forged_in (h ++ since)) t
          by_part (inl it) = inl (has_term (flat_map (seals_of d) since) t it)
          by_part (inr it) = inr (has_term (flat_map forged_in (h ++ since)) t it)

      is_clean : t.layer ≡ Nwk → knows (printed known h ++ printed known since) ≡ false
          → list_any (same_term (model_term (term_of t))) evil ≡ false
      is_clean nwk none =
          ap (λ u. list_any (same_term u) evil) (term_again t) ∙ ap (list_any (same_term t)) evil_so
          ∙ never (list_any (same_term t) (flat_map (seals_of d) since ++ flat_map forged_in (h ++ since)))
          (λ there. refused nwk (past.lives.none_known n its (sym knows_so ∙ none)) (found there))

      by_knowing : t.layer ≡ Nwk → (knows (printed known h ++ printed known since) ≡ true)
          ⊎ (knows (printed known h ++ printed known since) ≡ false)
          → (knows (printed known h ++ printed known since)
          || not (list_any (same_term (model_term (term_of t))) evil)) ≡ true
      by_knowing nwk (inl it) = or_left _ _ it
      by_knowing nwk (inr none) = or_right (knows (printed known h ++ printed known since)) _
          (not_on _ (is_clean nwk none))

      by_layer : (x : Layer) → t.layer ≡ x
          → (is_aps (layer_of t.layer)
          || (knows (printed known h ++ printed known since)
          || not (list_any (same_term (model_term (term_of t))) evil))) ≡ true
      by_layer Aps is =
          ap (λ x. is_aps (layer_of x)
          || (knows (printed known h ++ printed known since)
          || not (list_any (same_term (model_term (term_of t))) evil))) is
      by_layer Nwk is =
          ap (λ x. is_aps (layer_of x)
          || (knows (printed known h ++ printed known since)
          || not (list_any (same_term (model_term (term_of t))) evil))) is
          ∙ by_knowing is (decided (knows (printed known h ++ printed known since)))
