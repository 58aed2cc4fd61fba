-- Seals that are forgotten, and those that are kept.
use Rattle.std.proofs.Common.{◌≡◌, ◌⊎◌, ◌<◌, ℕ, arith, List, [], ◌∷◌, length, take, drop, Bool, true, false, ◌||◌, ◌&&◌, inl, inr, refl, ap, ap₂, sym, ◌∙◌, nat_eq, cond, Some}
use Rattle.std.specs.List.{list_any}
use Rattle.std.specs.BTreeMap.{is_at}
use Rattle.std.specs.Map.{lookup}
use Rattle.std.specs.Ordering.{is_eq}
use Rattle.std.specs.declared.cmp.Ordering.{Ordering}
use Rattle.std.specs.declared.cmp.Ordering.TheVariants.{Less, Equal, Greater}
use Rattle.std.specs.Prelude.{nat_le, nat_lt}
use Rattle.std.proofs.lemmas.Bool.{le-leb}
use Rattle.std.proofs.lemmas.List.{take-append-drop}
use Rattle.std.proofs.lemmas.List.Folds.{list_any-append}
use Rattle.zb_audit_names.specs.Naming.{declared_in}
use Rattle.zb_audit_names.specs.Secrets.{along}
use Rattle.zb_audit_lockout.specs.Bags.{items_at, items_of}
use Rattle.zb_audit_lockout.specs.declared.bags.Bags.{Bags}
use Rattle.zb_audit_lockout.specs.Lockout.{sealed_by}
use Rattle.zb_audit_lockout.specs.Reading.{late_by, open_at, opened_by, seals_of, some_late, term_cmp}
use Rattle.zb_audit_lockout.specs.Standing.{Forgets, IsEvidence, IsReach, IsWindow}
use Rattle.zb_audit_lockout.specs.Windows.{Claim}
use Rattle.zb_audit_lockout.specs.declared.evidence.Evidence.{Evidence}
use Rattle.zb_audit_lockout.specs.declared.evidence.LateSeal.{LateSeal}
use Rattle.zb_audit_lockout.specs.declared.reach.Reach.{Reach}
use Rattle.zb_audit_lockout.specs.declared.windows.Windows.{Windows}
use Rattle.zb_audit_lockout.proofs.Reaching.{IsOpened, opened_one, was_opened}
use Rattle.zb_audit_lockout.proofs.Tests.{or_none}
use Rattle.zb_audit_lockout.proofs.Verdicts.{late_open}
use Rattle.zb_audit_lockout.proofs.Windowing.{each_both, each_map}
use Rattle.zb_model.specs.Secrets.{same_term}
use Rattle.zb_model.specs.Tools.{Tools}
use Rattle.zb_model_real.specs.Terms.{model_term}
use Rattle.zb_seal.specs.contracts.term.TermOrd.TheImpl.Laws as term_laws
use Rattle.zb_seal.specs.declared.term.Term.{Term}
use Rattle.zb_trace.specs.declared.line.Line.{Line}
use Rattle.zb_trace_watch.specs.Terms.{has_term}
use Rattle.zb_trace_watch.specs.declared.terms.Terms.{Terms}
use Rattle.zb_trace_watch.proofs.Truth.{decided, not_both, or_left, or_right}

abbrev is_seal : ℕ → ℕ → LateSeal → Bool
is_seal d number s = nat_eq d s.device.0 && nat_le number s.number

parted : (test : LateSeal → Bool) (seals : List LateSeal) (count : ℕ) → list_any test seals
    ≡ (list_any test (take count seals) || list_any test (drop count seals))
parted test seals count = ap (list_any test) (sym (take-append-drop count seals)) ∙ list_any-append test
    (take count seals) (drop count seals)

-- A test of the seals from some place on is one of all seals.
pub any_behind : (test : LateSeal → Bool) (seals : List LateSeal) (count : ℕ) → list_any test (drop count seals)
    ≡ true → list_any test seals ≡ true
any_behind test seals count there = parted test seals count ∙ or_right (list_any test (take count seals)) _ there

front_has : (w : Windows) (seals : List LateSeal) (count d number : ℕ) → some_late w (drop count seals) ≡ false
    → opened_by (open_at w d) number ≡ true
    → list_any (is_seal d number) (take count seals) ≡ list_any (is_seal d number) seals
front_has w seals count d number behind opened =
    sym (parted (is_seal d number) seals count ∙
    (ap (λ (b : Bool). list_any (is_seal d number) (take count seals) || b)
    (off (decided (list_any (is_seal d number) (drop count seals)))) ∙ or_none _))
  where
    off : (list_any (is_seal d number) (drop count seals) ≡ true)
        ⊎ (list_any (is_seal d number) (drop count seals) ≡ false) → list_any (is_seal d number) (drop count seals)
        ≡ false
    off (inr is) = is
    off (inl there) =
        let it : IsOpened (open_at w d) number = was_opened (open_at w d) number opened in
        absurd (not_both (some_late w (drop count seals))
        (late_open w d it.opened number (drop count seals) it.is it.early there) behind)

lookup_alike : {K X : Type 0} (p q : K → Bool) → ((x : K) → p x ≡ q x) → (es : List (K × X)) → lookup p es
    ≡ lookup q es
lookup_alike p q same [] = refl
lookup_alike p q same (e ∷ es) = ap₂ (λ b rest. cond b (Some e.1) rest) (same e.0) (lookup_alike p q same es)

equal : (o : Ordering) → is_eq o ≡ true → o ≡ Equal
equal Less h = cc
equal Equal h = refl
equal Greater h = cc

alike_items : (bags : Bags Term LateSeal) (term o : Term) → is_eq (term_cmp term o) ≡ true → items_at term_cmp bags o
    ≡ items_at term_cmp bags term
alike_items bags term o is =
    ap items_of
    (lookup_alike (is_at (term_cmp o)) (is_at (term_cmp term))
    (λ x. ap is_eq (sym (term_laws.total-law.congr term o x (equal (term_cmp term o) is)))) bags.bags.entries)

-- The first seals of a term are kept. After them none is late.
module _ (w : Windows) (old new : Evidence) (term : Term) (count : ℕ) (forged : new.forged ≡ old.forged)
    (kept : (test : LateSeal → Bool) (o : Term) → is_eq (term_cmp term o) ≡ true
    → list_any test (items_at term_cmp new.sealed o)
    ≡ list_any test (take count (items_at term_cmp old.sealed term)))
    (others : (test : LateSeal → Bool) (o : Term) → is_eq (term_cmp term o) ≡ false
    → list_any test (items_at term_cmp new.sealed o) ≡ list_any test (items_at term_cmp old.sealed o))
    (behind : some_late w (drop count (seals_of old term)) ≡ false) where
  same : (test : LateSeal → Bool) (o : Term) → is_eq (term_cmp term o) ≡ true
      → list_any test (items_at term_cmp old.sealed o) ≡ list_any test (items_at term_cmp old.sealed term)
  same test o is = ap (list_any test) (alike_items old.sealed term o is)

  kept_at : (t : Term) (d number : ℕ) → (is_eq (term_cmp term t) ≡ true) ⊎ (is_eq (term_cmp term t) ≡ false)
      → opened_by (open_at w d) number ≡ true → late_by new d number t ≡ late_by old d number t
  kept_at t d number (inl is) opened =
      kept (is_seal d number) t is ∙
      (front_has w (seals_of old term) count d number behind opened ∙ sym (same (is_seal d number) t is))
  kept_at t d number (inr is) opened = others (is_seal d number) t is

  fewer_at : (t : Term) (d number : ℕ) → (is_eq (term_cmp term t) ≡ true) ⊎ (is_eq (term_cmp term t) ≡ false)
      → late_by new d number t ≡ true → late_by old d number t ≡ true
  fewer_at t d number (inl is) there =
      same (is_seal d number) t is ∙
      (parted (is_seal d number) (seals_of old term) count ∙ or_left _ _
      (sym (kept (is_seal d number) t is) ∙ there))
  fewer_at t d number (inr is) there = sym (others (is_seal d number) t is) ∙ there

  pub forgets : Forgets w old new
  forgets = record {
    forged = forged;
    kept = λ t d number opened. kept_at t d number (decided (is_eq (term_cmp term t))) opened;
    fewer = λ t d number there. fewer_at t d number (decided (is_eq (term_cmp term t))) there;
  }

abbrev Sealed : Evidence → Claim
Sealed x a d b = (t : Term) → late_by x d (length a) t
    ≡ list_any (same_term (model_term t)) (along (sealed_by d) (declared_in a) b)

pub evidence_kept : (tools : Tools) (r : Reach) (old new : Evidence) (h : List Line) → IsReach tools r h
    → IsEvidence old h → Forgets r.windows old new → IsEvidence new h
evidence_kept tools r old new h reach ev it = record {
  forged = λ t. ap (λ (f : Terms). has_term f t) it.forged ∙ ev.forged t;
  sealed =
      each_map (λ a d b. IsWindow r h a d b × Sealed old a d b) (Sealed new)
      (λ a d b both t. it.kept t d (length a)
      (opened_one (open_at r.windows d) (length a) both.0.found.opened both.0.found.found both.0.found.early) ∙
      both.1 t) [] h
      (each_both (IsWindow r h) (Sealed old) [] h reach.windows ev.sealed);
  early = λ t d number there. ev.early t d number (it.fewer t d number there);
}

pub above_none : (n : ℕ) → 0 < n → nat_lt 0 n ≡ true
above_none n some = le-leb 1 n (omega (arith, some))
