-- The windows after one more line, and whether lockout holds with it.
use Rattle.std.proofs.Common.{◌≡◌, ◌⊎◌, ℕ, ◌+◌, ◌<◌, ◌≤◌, List, [], ◌∷◌, ◌++◌, length, Bool, true, false, not, ◌||◌, Some, inl, inr, refl, arith, ap, sym, ◌∙◌, subst, bytes_eq, append_assoc, length-append}
use Rattle.std.specs.List.{list_any, flat_map}
use Rattle.std.specs.Prelude.{nat_le}
use Rattle.std.proofs.lemmas.Bool.{le-leb, leb-true}
use Rattle.zb_audit_names.specs.Naming.{declared_in}
use Rattle.zb_audit_names.specs.Secrets.{along, ever, exposed, forged_in, terms_of}
use Rattle.zb_audit_lockout.specs.Lockout.{admits, drawn_in, keeps_out, refuses_line, sealed_by}
use Rattle.zb_audit_lockout.specs.Reading.{early_of, late_by, number_of, open_at}
use Rattle.zb_audit_lockout.specs.Standing.{IsEvidence, IsReach, IsSafe, IsUnsafe, IsWindow, goes_on}
use Rattle.zb_audit_lockout.specs.Spreading.{has_key}
use Rattle.zb_audit_lockout.specs.Windows.{Claim, EachAt, EachWindow, SomeWindow}
use Rattle.zb_audit_lockout.specs.declared.evidence.Evidence.{Evidence}
use Rattle.zb_audit_lockout.specs.declared.reach.Reach.{Reach}
use Rattle.zb_audit_lockout.specs.declared.windows.Windows.{Windows}
use Rattle.zb_audit_lockout.proofs.Duality.{closed, closed_any, closed_from, covers, least}
use Rattle.zb_audit_lockout.proofs.Growing.{along_more, declared_append, forged_more}
use Rattle.zb_audit_lockout.proofs.Tests.{any_at, none_any, not_off, not_on, off_left}
use Rattle.zb_audit_lockout.proofs.Windowing.{each_both, each_map, each_more, each_some, some_map, some_more}
use Rattle.zb_model.specs.Data.{Bytes, Station}
use Rattle.zb_model.specs.Secrets.{holds, same_term, well_known}
use Rattle.zb_model.specs.Tools.{Tools}
use Rattle.zb_model_real.specs.Terms.{model_term}
use Rattle.zb_seal.specs.declared.term.Term as program
use Rattle.zb_trace.specs.declared.line.Line.{Line}
use Rattle.zb_trace.specs.declared.line.Line.TheVariants as line
use Rattle.zb_trace_watch.specs.Sets.{is_carried, node_has}
use Rattle.zb_trace_watch.specs.Standing.{carries}
use Rattle.zb_trace_watch.specs.Terms.{has_term}
use Rattle.zb_trace_watch.proofs.Truth.{both, decided}

pub longer : (h : List Line) (l : Line) → length (h ++ l ∷ []) ≡ length h + 1
longer h l = length-append h (l ∷ [])

pub moved_whole : (h : List Line) (l : Line) (a b : List Line) → a ++ b ≡ h → a ++ (b ++ l ∷ []) ≡ h ++ l ∷ []
moved_whole h l a b whole = sym (append_assoc a b (l ∷ [])) ∙ ap (λ (g : List Line). g ++ l ∷ []) whole

-- These lines draw exactly the keys whose number is at least that one.
abbrev pub IsDrawn : Reach → ℕ → List Line → Type 0
IsDrawn r number b = (k : Bytes) → holds (flat_map drawn_in b) k ≡ nat_le number (number_of r.drawn k)

-- If the windows don't change.
module _ (tools : Tools) (old new : Reach) (h : List Line) (l : Line) (reach : IsReach tools old h)
    (windows : new.windows ≡ old.windows)
    (drawn : (r : ℕ) (b : List Line) → r ≤ old.windows.last → IsDrawn old r b → IsDrawn new r (b ++ l ∷ []))
    (held : (d : ℕ) (k : Bytes) → node_has new.held d k ≡ holds (ever (h ++ l ∷ []) d) k)
    (carried : (b k : Bytes) → is_carried new.leads b k ≡ list_any (carries tools b k) (terms_of (h ++ l ∷ [])))
    (early : (k : Bytes) → number_of new.drawn k ≤ old.windows.last)
    (not_admits : (d : ℕ) → admits d l ≡ false) (no_removal : (Q : Claim) → EachAt Q h l []) where
  moves : (a : List Line) (d : ℕ) (b : List Line) → IsWindow old h a d b → admits d l ≡ false
      → IsWindow new (h ++ l ∷ []) a d (b ++ l ∷ [])
  moves a d b w adm = record {
    whole = moved_whole h l a b w.whole;
    found =
        record {
          opened = w.found.opened;
          found = ap (λ (x : Windows). open_at x d) windows ∙ w.found.found;
          early = w.found.early;
        };
    low = subst (λ (x : Windows). length a ≤ x.last) (sym windows) w.low;
    drawn = drawn (length a) b w.low w.drawn;
  }

  pub ahead : EachWindow (λ a d b. admits d l ≡ false → IsWindow new (h ++ l ∷ []) a d (b ++ l ∷ [])) [] h
  ahead = each_map (IsWindow old h) (λ a d b. admits d l ≡ false → IsWindow new (h ++ l ∷ []) a d (b ++ l ∷ [])) moves
      [] h reach.windows

  pub open_before : (d number : ℕ) → open_at new.windows d ≡ Some number
      → SomeWindow (λ a e b. (e ≡ d) × (length a ≡ number)) [] h
  open_before d number found = reach.opened d number (ap (λ (x : Windows). open_at x d) (sym windows) ∙ found)

  pub reach_on : IsReach tools new (h ++ l ∷ [])
  reach_on = record {
    windows = each_more (IsWindow old h) (IsWindow new (h ++ l ∷ [])) l moves [] h reach.windows
        (no_removal (IsWindow new (h ++ l ∷ [])));
    opened = λ d number found.
        some_more (λ a e b. (e ≡ d) × (length a ≡ number)) (λ a e b. (e ≡ d) × (length a ≡ number)) l
        (λ a e b it. (not_admits e, it)) [] h (open_before d number found);
    below = λ d number found. subst (λ (x : Windows). number ≤ x.last) (sym windows)
        (reach.below d number (ap (λ (x : Windows). open_at x d) (sym windows) ∙ found));
    held = held;
    carried = carried;
    early = λ k. subst (λ (x : Windows). number_of new.drawn k ≤ x.last) (sym windows) (early k);
    small = subst (λ (x : Windows). x.last < 4294967296) (sym windows) reach.small;
    last = (let same : new.windows.last ≡ old.windows.last = ap (λ (x : Windows). x.last) windows in let le :
        old.windows.last ≤ length h = reach.last in let more = longer h l in omega arith);
  }

-- What comes out for a device follows from what is spread, and from what is known to come out.
module _ (tools : Tools) (new : Reach) (h : List Line) (reach : IsReach tools new h) where
  abbrev drawn_out : ℕ → List Line → Bool
  drawn_out d b = list_any (holds (exposed tools h (well_known ∷ ever h d))) (flat_map drawn_in b)

  has_is : (d : ℕ) (k : Bytes) → has_key new.held d k ≡ holds (well_known ∷ ever h d) k
  has_is d k = ap (λ (x : Bool). bytes_eq k well_known || x) (reach.held d k)

  module _ (safe : IsSafe new) (a : List Line) (d : ℕ) (b : List Line) (w : IsWindow new h a d b) where
    -- The keys that come out for a device that was removed as early.
    abbrev out : Bytes → Bool
    out k = nat_le 4294967296 (number_of new.spread.keys k + length a)

    starts : (k : Bytes) → holds (well_known ∷ ever h d) k ≡ true → out k ≡ true
    starts k there =
        let low : early_of new.spread d ≤ number_of new.spread.keys k = safe.spread.has d k (has_is d k ∙ there) in
        let it : 4294967296 ≤ early_of new.spread d + w.found.opened = safe.opened d w.found.opened w.found.found in
        let le : w.found.opened ≤ length a = w.found.early in
        le-leb 4294967296 (number_of new.spread.keys k + length a) (omega arith)

    leads_on : (base key : Bytes) → out base ≡ true → list_any (carries tools base key) (terms_of h) ≡ true → out key
        ≡ true
    leads_on base key there carried =
        let it : 4294967296 ≤ number_of new.spread.keys base + length a =
        leb-true 4294967296 (number_of new.spread.keys base + length a) there in
        let low : number_of new.spread.keys base ≤ number_of new.spread.keys key =
        safe.spread.carried base key (reach.carried base key ∙ carried) in
        le-leb 4294967296 (number_of new.spread.keys key + length a) (omega arith)

    none_out : (q : Bytes) → holds (flat_map drawn_in b) q ≡ true
        → holds (exposed tools h (well_known ∷ ever h d)) q ≡ false
    none_out q there = by (decided (holds (exposed tools h (well_known ∷ ever h d)) q))
      where
        by : (holds (exposed tools h (well_known ∷ ever h d)) q ≡ true)
            ⊎ (holds (exposed tools h (well_known ∷ ever h d)) q ≡ false)
            → holds (exposed tools h (well_known ∷ ever h d)) q ≡ false
        by (inr it) = it
        by (inl it) =
            let since : length a ≤ number_of new.drawn q =
            leb-true (length a) (number_of new.drawn q) (sym (w.drawn q) ∙ there) in
            let early : 4294967296 ≤ number_of new.spread.keys q + length a =
            leb-true 4294967296 (number_of new.spread.keys q + length a)
            (least tools h (well_known ∷ ever h d) out starts (closed_from tools out (terms_of h) leads_on) q it) in
            let low : length a ≤ new.windows.last = w.low in
            let small : new.windows.last < 4294967296 = reach.small in
            elim (safe.below q) [
              | inl none ↦ (let zero_at : number_of new.spread.keys q ≡ 0 = none in absurd (omega arith))
              | inr below ↦
                  (let before : number_of new.spread.keys q + number_of new.drawn q < 4294967296 = below in absurd
                  (omega arith))
            ]

    keeps_in : keeps_out tools a b d ≡ true
    unfolding keeps_out
    keeps_in =
        subst (λ (g : List Line).
        not (list_any (holds (exposed tools g (well_known ∷ ever g d))) (flat_map drawn_in b)) ≡ true) (sym w.whole)
        (not_on (drawn_out d b)
        (none_any (holds (exposed tools h (well_known ∷ ever h d))) (flat_map drawn_in b) none_out))

  lets_out : (u : IsUnsafe new) (a b : List Line) → IsWindow new h a u.device b → length a ≡ u.number
      → keeps_out tools a b u.device ≡ false
  unfolding keeps_out
  lets_out u a b w is =
      subst (λ (g : List Line).
      not (list_any (holds (exposed tools g (well_known ∷ ever g u.device))) (flat_map drawn_in b)) ≡ false)
      (sym w.whole)
      (not_off (drawn_out u.device b)
      (any_at (holds (exposed tools h (well_known ∷ ever h u.device))) u.key (flat_map drawn_in b)
      (w.drawn u.key ∙ le-leb (length a) (number_of new.drawn u.key)
      (let le : u.number ≤ number_of new.drawn u.key = u.late in omega arith))
      (u.shown (holds (exposed tools h (well_known ∷ ever h u.device)))
      (record {
        has = λ k there. covers tools h (well_known ∷ ever h u.device) k (sym (has_is u.device k) ∙ there);
        carried = λ base key there edge. closed_any tools (holds (exposed tools h (well_known ∷ ever h u.device))) base
            key (terms_of h) (closed tools h (well_known ∷ ever h u.device)) there
            (sym (reach.carried base key) ∙ edge);
      }))))

module _ (tools : Tools) (new : Reach) (h : List Line) (l : Line) (reach : IsReach tools new (h ++ l ∷ []))
    (ahead : EachWindow (λ a d b. admits d l ≡ false → IsWindow new (h ++ l ∷ []) a d (b ++ l ∷ [])) [] h) where
  pub stays_so : IsSafe new → EachWindow (λ a d b. refuses_line tools d a b l ≡ true) [] h
      → EachWindow (λ a d b. admits d l ≡ false → goes_on tools a d b l ≡ true) [] h
  stays_so safe refused =
      each_map (λ a d b. (admits d l ≡ false → IsWindow new (h ++ l ∷ []) a d (b ++ l ∷ []))
      × (refuses_line tools d a b l ≡ true)) (λ a d b. admits d l ≡ false → goes_on tools a d b l ≡ true)
      (λ a d b it adm. both _ _ (keeps_in tools new (h ++ l ∷ []) reach safe a d (b ++ l ∷ []) (it.0 adm)) it.1) [] h
      (each_both (λ a d b. admits d l ≡ false → IsWindow new (h ++ l ∷ []) a d (b ++ l ∷ []))
      (λ a d b. refuses_line tools d a b l ≡ true) [] h ahead refused)

  pub all_refused : ((a : List Line) (d : ℕ) (b : List Line) → refuses_line tools d a b l ≡ true)
      → EachWindow (λ a d b. refuses_line tools d a b l ≡ true) [] h
  all_refused refused =
      each_map (λ a d b. admits d l ≡ false → IsWindow new (h ++ l ∷ []) a d (b ++ l ∷ []))
      (λ a d b. refuses_line tools d a b l ≡ true) (λ a d b w. refused a d b) [] h ahead

  pub fails_so : (u : IsUnsafe new) → ((d : ℕ) → admits d l ≡ false)
      → SomeWindow (λ a d b. (d ≡ u.device) × (length a ≡ u.number)) [] h
      → SomeWindow (λ a d b. (admits d l ≡ false) × (goes_on tools a d b l ≡ false)) [] h
  fails_so u not_admits some =
      some_map (λ a d b. (admits d l ≡ false → IsWindow new (h ++ l ∷ []) a d (b ++ l ∷ []))
      × ((d ≡ u.device) × (length a ≡ u.number))) (λ a d b. (admits d l ≡ false) × (goes_on tools a d b l ≡ false))
      (λ a d b it. (
        not_admits d,
        off_left _ _
            (ap (λ (x : ℕ). keeps_out tools a (b ++ l ∷ []) x) it.1.0
            ∙ lets_out tools new (h ++ l ∷ []) reach u a (b ++ l ∷ [])
            (subst (λ (x : ℕ). IsWindow new (h ++ l ∷ []) a x (b ++ l ∷ [])) it.1.0 (it.0 (not_admits d))) it.1.1),
      )) [] h
      (each_some (λ a d b. admits d l ≡ false → IsWindow new (h ++ l ∷ []) a d (b ++ l ∷ []))
      (λ a d b. (d ≡ u.device) × (length a ≡ u.number)) [] h ahead some)

-- The evidence after one more line.
module _ (tools : Tools) (r : Reach) (old new : Evidence) (h : List Line) (l : Line) (reach : IsReach tools r h)
    (e : IsEvidence old h)
    (forged : (t : program.Term) → has_term new.forged t
    ≡ (has_term old.forged t || list_any (same_term (model_term t)) (forged_in l)))
    (sealed : (a : List Line) (d : ℕ) (b : List Line) → IsWindow r h a d b → (t : program.Term)
    → late_by new d (length a) t
    ≡ (late_by old d (length a) t || list_any (same_term (model_term t)) (sealed_by d (declared_in h) l)))
    (early : (t : program.Term) (d number : ℕ) → late_by new d number t ≡ true → number ≤ length h) where
  abbrev Sealed : Evidence → Claim
  Sealed x a d b = (t : program.Term) → late_by x d (length a) t
      ≡ list_any (same_term (model_term t)) (along (sealed_by d) (declared_in a) b)

  sealed_moves : (a : List Line) (d : ℕ) (b : List Line) → IsWindow r h a d b × Sealed old a d b → admits d l ≡ false
      → Sealed new a d (b ++ l ∷ [])
  sealed_moves a d b it adm t =
      sealed a d b it.0 t
      ∙ (ap (λ (x : Bool). x || list_any (same_term (model_term t)) (sealed_by d (declared_in h) l)) (it.1 t)
      ∙ (ap (λ (known : List Station). list_any (same_term (model_term t)) (along (sealed_by d) (declared_in a) b)
      || list_any (same_term (model_term t)) (sealed_by d known l))
      (sym (declared_append a b ∙ ap declared_in it.0.whole))
      ∙ sym (along_more (sealed_by d) (same_term (model_term t)) (declared_in a) b l)))

  sealed_begins : (m : Line) → EachAt (Sealed new) h m []
  sealed_begins (line.Removed event device) =
      λ stays t. none t (late_by new device.0 (length (h ++ line.Removed event device ∷ [])) t) refl
    where
      none : (t : program.Term) (b : Bool) → late_by new device.0 (length (h ++ line.Removed event device ∷ [])) t ≡ b
          → b ≡ false
      none t false is = refl
      none t true is =
          let le : length (h ++ line.Removed event device ∷ []) ≤ length h =
          early t device.0 (length (h ++ line.Removed event device ∷ [])) is in
          let more = longer h (line.Removed event device) in
          absurd (omega arith)
  sealed_begins _ = tt

  pub evidence_on : IsEvidence new (h ++ l ∷ [])
  evidence_on = record {
    forged =
        λ t. forged t ∙
        (ap (λ (x : Bool). x || list_any (same_term (model_term t)) (forged_in l)) (e.forged t) ∙ sym
        (forged_more (same_term (model_term t)) h l));
    sealed =
        each_more (λ a d b. IsWindow r h a d b × Sealed old a d b) (Sealed new) l sealed_moves [] h
        (each_both (IsWindow r h) (Sealed old) [] h reach.windows e.sealed) (sealed_begins l);
    early = λ t d number there. let le : number ≤ length h = early t d number there in let more =
        longer h l in omega arith;
  }
