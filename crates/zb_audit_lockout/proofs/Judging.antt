-- Whether lockout holds with one more line, by the kind of the line.
use Rattle.std.proofs.Common.{◌≡◌, ℕ, ◌≤◌, List, [], ◌∷◌, ◌++◌, length, Bool, true, false, ◌||◌, ◌&&◌, Option, Some, None, refl, arith, ap, sym, ◌∙◌, subst, bytes_eq}
use Rattle.std.specs.List.{list_any, flat_map}
use Rattle.std.specs.Prelude.{if◌then◌else◌, nat_le}
use Rattle.std.proofs.lemmas.Bool.{le-leb}
use Rattle.zb_base.specs.declared.address.Eui.{Eui}
use Rattle.zb_base.specs.declared.key.Key.{Key}
use Rattle.zb_audit_names.specs.Naming.{declared_in}
use Rattle.zb_audit_names.specs.Secrets.{ever, forged_in, held_by, terms_in, terms_of}
use Rattle.zb_audit_lockout.specs.Lockout.{admits, drawn_in, refuses_line, sealed_by}
use Rattle.zb_audit_lockout.specs.Reading.{late_by, number_of}
use Rattle.zb_audit_lockout.specs.Standing.{Carries, CarriesSome, Draws, CameToHold, IsEvidence, IsJudged, IsReach, IsReady, IsSafe, IsWindow, Tells}
use Rattle.zb_audit_lockout.specs.Windows.{Claim, EachAt, EachWindow}
use Rattle.zb_audit_lockout.specs.declared.evidence.Evidence.{Evidence}
use Rattle.zb_audit_lockout.specs.declared.numbers.Numbers.{Numbers}
use Rattle.zb_audit_lockout.specs.declared.lockout.Lockout.{Lockout}
use Rattle.zb_audit_lockout.specs.declared.reach.Reach.{Reach}
use Rattle.zb_audit_lockout.proofs.Growing.{drawn_more, ever_more, terms_more}
use Rattle.zb_audit_lockout.proofs.Stepping.{IsDrawn, ahead, all_refused, evidence_on, fails_so, open_before, reach_on, stays_so}
use Rattle.zb_audit_lockout.proofs.Telling.{nothing_tells}
use Rattle.zb_audit_lockout.proofs.Tests.{or_none}
use Rattle.zb_model.specs.Data.{Bytes, Station, Term}
use Rattle.zb_model.specs.Secrets.{holds, same_term}
use Rattle.zb_model.specs.Tools.{Tools}
use Rattle.zb_model_real.specs.Terms.{model_term}
use Rattle.zb_seal.specs.declared.term.Term as program
use Rattle.zb_trace.specs.declared.line.Line.{Line}
use Rattle.zb_trace.specs.declared.line.Line.TheVariants as line
use Rattle.zb_trace_watch.specs.Sets.{is_carried, node_has}
use Rattle.zb_trace_watch.specs.Standing.{FindKeys, bytes_of, carries, is_that}
use Rattle.zb_trace_watch.specs.Terms.{has_term}
use Rattle.zb_trace_watch.specs.declared.holdings.Holdings.{Holdings}
use Rattle.zb_trace_watch.proofs.Effects.{carried_is}
use Rattle.zb_trace_watch.proofs.Truth.{or_left, or_right}
use Rattle.zb_seal.specs.Carrying.{carried}

-- What no line of some kinds says.
pub record IsPlain (l : Line) : Type 0 where
  pub admits : (d : ℕ) → admits d l ≡ false
  pub refused : (tools : Tools) (d : ℕ) (a b : List Line) → refuses_line tools d a b l ≡ true

-- Nothing is sealed or forged.
pub record IsUnsealed (l : Line) : Type 0 where
  pub terms : terms_in l ≡ []
  pub forged : forged_in l ≡ []
  pub sealed : (d : ℕ) (known : List Station) → sealed_by d known l ≡ []

pub evidence_same : (tools : Tools) (r : Reach) (e : Evidence) (h : List Line) (l : Line) → IsReach tools r h
    → IsEvidence e h → forged_in l ≡ [] → ((d : ℕ) (known : List Station) → sealed_by d known l ≡ [])
    → IsEvidence e (h ++ l ∷ [])
evidence_same tools r e h l reach ev no_forged no_sealed =
    evidence_on tools r e e h l reach ev
    (λ t. sym
    (ap (λ (ts : List Term). has_term e.forged t || list_any (same_term (model_term t)) ts) no_forged ∙ or_none _))
    (λ a d b w t. sym
    (ap (λ (ts : List Term). late_by e d (length a) t || list_any (same_term (model_term t)) ts)
    (no_sealed d (declared_in h)) ∙ or_none _))
    ev.early

-- A line that doesn't change the windows, and isn't an accept line.
module _ (tools : Tools) (old new : Lockout) (h : List Line) (l : Line) (reach : IsReach tools old.reach h)
    (safe : IsSafe old.reach) (stays : Bool) (tells : Tells old.reach new.reach stays)
    (evidence : IsEvidence new.evidence (h ++ l ∷ [])) (plain : IsPlain l) (no_removal : (Q : Claim) → EachAt Q h l [])
    (windows : new.reach.windows ≡ old.reach.windows)
    (drawn : (r : ℕ) (b : List Line) → r ≤ old.reach.windows.last → IsDrawn old.reach r b
    → IsDrawn new.reach r (b ++ l ∷ []))
    (held : (d : ℕ) (k : Bytes) → node_has new.reach.held d k ≡ holds (ever (h ++ l ∷ []) d) k)
    (carried_so : (b k : Bytes) → is_carried new.reach.leads b k
    ≡ list_any (carries tools b k) (terms_of (h ++ l ∷ [])))
    (early : (k : Bytes) → number_of new.reach.drawn k ≤ old.reach.windows.last) where
  on : IsReach tools new.reach (h ++ l ∷ [])
  on = reach_on tools old.reach new.reach h l reach windows drawn held carried_so early plain.admits no_removal

  front : EachWindow (λ a d b. admits d l ≡ false → IsWindow new.reach (h ++ l ∷ []) a d (b ++ l ∷ [])) [] h
  front = ahead tools old.reach new.reach h l reach windows drawn held carried_so early plain.admits no_removal

  pub judged : IsJudged tools new h l stays
  judged = record {
    reach = on;
    evidence = evidence;
    safe = λ stay. tells.safe safe stay;
    holds = λ stay. stays_so tools new.reach h l on front (tells.safe safe stay)
        (all_refused tools new.reach h l on front (λ a d b. plain.refused tools d a b));
    fails = λ out.
        let u = tells.out out in
        fails_so tools new.reach h l on front u plain.admits
        (open_before tools old.reach new.reach h l reach windows drawn held carried_so early plain.admits
        no_removal u.device u.number u.found);
  }

-- Nothing is drawn, and nothing is carried.
pub drawn_same : (old new : Reach) (l : Line) (r : ℕ) (b : List Line) → drawn_in l ≡ [] → new.drawn ≡ old.drawn
    → IsDrawn old r b → IsDrawn new r (b ++ l ∷ [])
drawn_same old new l r b none same drawn k =
    drawn_more b l k
    ∙ (ap (λ (ks : List Bytes). holds (flat_map drawn_in b) k || holds ks k) none
    ∙ (or_none _ ∙ (drawn k ∙ ap (λ (n : Numbers). nat_le r (number_of n k)) (sym same))))

pub early_same : (old new : Reach) → new.drawn ≡ old.drawn → ((k : Bytes) → number_of old.drawn k ≤ old.windows.last)
    → (k : Bytes) → number_of new.drawn k ≤ old.windows.last
early_same old new same early k = subst (λ (n : Numbers). number_of n k ≤ old.windows.last) (sym same) (early k)

pub held_same : (tools : Tools) (r new : Reach) (h : List Line) (l : Line) → IsReach tools r h → new.held ≡ r.held
    → ((d : ℕ) → held_by d (declared_in h) l ≡ []) → (d : ℕ) (k : Bytes) → node_has new.held d k
    ≡ holds (ever (h ++ l ∷ []) d) k
held_same tools r new h l reach same none d k =
    ap (λ (x : Holdings Eui). node_has x d k) same
    ∙ (reach.held d k ∙ sym
    (ever_more h l d k ∙ (ap (λ (ks : List Bytes). holds (ever h d) k || holds ks k) (none d) ∙ or_none _)))

pub carried_same : (tools : Tools) (r new : Reach) (h : List Line) (l : Line) → IsReach tools r h → new.leads
    ≡ r.leads → terms_in l ≡ []
    → (b k : Bytes) → is_carried new.leads b k ≡ list_any (carries tools b k) (terms_of (h ++ l ∷ []))
carried_same tools r new h l reach same none b k =
    ap (λ (x : Holdings Key). is_carried x b k) same
    ∙ (reach.carried b k ∙ sym
    (terms_more (carries tools b k) h l ∙
    (ap (λ (ts : List Term). list_any (carries tools b k) (terms_of h) || list_any (carries tools b k) ts) none ∙
    or_none _)))

-- Devices get a key.
pub held_judged : (tools : Tools) (names : List Bytes) (old new : Lockout) (h : List Line) (l : Line) (stays : Bool)
    (more : ℕ → Bytes → Bool) → IsReady tools names old h l → CameToHold old.reach new.reach more
    → Tells old.reach new.reach stays → new.evidence ≡ old.evidence → IsPlain l → IsUnsealed l → drawn_in l ≡ []
    → ((Q : Claim) → EachAt Q h l [])
    → ((d : ℕ) (k : Bytes) → more d k ≡ holds (held_by d (declared_in h) l) k) → IsJudged tools new h l stays
held_judged tools names old new h l stays more ready hold tells evidence plain unsealed undrawn no_removal more_is =
    judged tools old new h l ready.reach ready.safe stays tells
    (subst (λ (e : Evidence). IsEvidence e (h ++ l ∷ [])) (sym evidence)
    (evidence_same tools old.reach old.evidence h l ready.reach ready.evidence unsealed.forged unsealed.sealed))
    plain no_removal hold.windows
    (λ r b le drawn. drawn_same old.reach new.reach l r b undrawn hold.drawn drawn)
    (λ d k. hold.held d k ∙
    (ap (λ (x : Bool). x || more d k) (ready.reach.held d k) ∙
    (ap (λ (x : Bool). holds (ever h d) k || x) (more_is d k) ∙ sym (ever_more h l d k))))
    (carried_same tools old.reach new.reach h l ready.reach hold.leads unsealed.terms)
    (early_same old.reach new.reach hold.drawn ready.reach.early)

-- A line that says nothing about any of this.
pub record IsQuiet (l : Line) : Type 1 where
  pub plain : IsPlain l
  pub unsealed : IsUnsealed l
  pub undrawn : drawn_in l ≡ []
  pub unheld : (d : ℕ) (known : List Station) → held_by d known l ≡ []
  pub no_removal : (Q : Claim) (h : List Line) → EachAt Q h l []

pub quiet_judged : (tools : Tools) (names : List Bytes) (s : Lockout) (h : List Line) (l : Line)
    → IsReady tools names s h l → IsQuiet l → IsJudged tools s h l true
quiet_judged tools names s h l ready quiet =
    held_judged tools names s s h l true (λ d k. false) ready
    (record { windows = refl; leads = refl; drawn = refl; held = λ d k. sym (or_none _) })
    (nothing_tells s.reach) refl quiet.plain quiet.unsealed quiet.undrawn (λ Q. quiet.no_removal Q h)
    (λ d k. sym (ap (λ (ks : List Bytes). holds ks k) (quiet.unheld d (declared_in h))))

-- A key is drawn.
abbrev drawing : ℕ → Key → Line
drawing event key = line.Draw event key

pub drawn_judged : (tools : Tools) (names : List Bytes) (old new : Lockout) (h : List Line) (event : ℕ) (key : Key)
    (stays : Bool) → IsReady tools names old h (line.Draw event key)
    → Draws old.reach new.reach key → Tells old.reach new.reach stays → new.evidence
    ≡ old.evidence → IsJudged tools new h (line.Draw event key) stays
unfolding refuses_line
drawn_judged tools names old new h event key stays ready one tells evidence =
    judged tools old new h (drawing event key) ready.reach ready.safe stays tells
    (subst (λ (e : Evidence). IsEvidence e (h ++ (drawing event key) ∷ [])) (sym evidence)
    (evidence_same tools old.reach old.evidence h (drawing event key) ready.reach ready.evidence refl
    (λ d known. refl)))
    (record { admits = λ d. refl; refused = λ ts d a b. refl }) (λ Q. tt) one.windows
    (λ r b le drawn k. drawn_more b (drawing event key) k ∙ here r b le drawn k (bytes_eq k key.0) refl)
    (held_same tools old.reach new.reach h (drawing event key) ready.reach one.held (λ e. refl))
    (carried_same tools old.reach new.reach h (drawing event key) ready.reach one.leads refl)
    (λ k. low k (bytes_eq k key.0) refl)
  where
    here : (r : ℕ) (b : List Line) → r ≤ old.reach.windows.last → IsDrawn old.reach r b → (k : Bytes) (same : Bool)
        → bytes_eq k key.0 ≡ same
        → (holds (flat_map drawn_in b) k || (bytes_eq k key.0 || false)) ≡ nat_le r (number_of new.reach.drawn k)
    here r b le drawn k true is =
        let number : number_of new.reach.drawn k ≡ old.reach.windows.last =
        one.drawn k ∙ ap (λ (x : Bool). if x then old.reach.windows.last else number_of old.reach.drawn k) is in
        or_right (holds (flat_map drawn_in b) k) _ (or_left _ _ is)
        ∙ sym (le-leb r (number_of new.reach.drawn k) (omega (arith, number, le)))
    here r b le drawn k false is =
        ap (λ (x : Bool). holds (flat_map drawn_in b) k || (x || false)) is
        ∙ (or_none _
        ∙ (drawn k
        ∙ ap (nat_le r)
        (sym (one.drawn k ∙ ap (λ (x : Bool). if x then old.reach.windows.last else number_of old.reach.drawn k) is))))

    low : (k : Bytes) (same : Bool) → bytes_eq k key.0 ≡ same → number_of new.reach.drawn k ≤ old.reach.windows.last
    low k true is =
        let number : number_of new.reach.drawn k ≡ old.reach.windows.last =
        one.drawn k ∙ ap (λ (x : Bool). if x then old.reach.windows.last else number_of old.reach.drawn k) is in
        omega (arith, number)
    low k false is =
        let number : number_of new.reach.drawn k ≡ number_of old.reach.drawn k =
        one.drawn k ∙ ap (λ (x : Bool). if x then old.reach.windows.last else number_of old.reach.drawn k) is in
        let before : number_of old.reach.drawn k ≤ old.reach.windows.last = ready.reach.early k in
        omega (arith, number, before)

-- A term carries a key, or none.
module _ (tools : Tools) (names : List Bytes) (old new : Lockout) (h : List Line) (l : Line) (t : program.Term)
    (stays : Bool) (find : FindKeys tools) (ready : IsReady tools names old h l)
    (terms : terms_in l ≡ model_term t ∷ []) (tells : Tells old.reach new.reach stays)
    (evidence : IsEvidence new.evidence (h ++ l ∷ [])) (plain : IsPlain l)
    (no_removal : (Q : Claim) → EachAt Q h l []) (undrawn : drawn_in l ≡ [])
    (unheld : (d : ℕ) (known : List Station) → held_by d known l ≡ []) where
  carries_now : (k b : Bytes) → list_any (carries tools b k) (terms_of (h ++ l ∷ []))
      ≡ (list_any (carries tools b k) (terms_of h) || carries tools b k (model_term t))
  carries_now k b =
      terms_more (carries tools b k) h l ∙ ap (λ (x : Bool). list_any (carries tools b k) (terms_of h) || x)
      (ap (λ (ts : List Term). list_any (carries tools b k) ts) terms ∙ or_none _)

  carries_so : (k b : Bytes) (o : Option Key) → carried t ≡ o → carries tools b k (model_term t)
      ≡ (bytes_eq b t.base.0 && is_that (bytes_of o) k)
  carries_so k b o is = ap (λ (q : Option Bytes). bytes_eq b t.base.0 && is_that q k)
      (carried_is tools find t ∙ ap bytes_of is)

  never : (b : Bool) → (b && false) ≡ false
  never true = refl
  never false = refl

  pub nothing_judged : carried t ≡ None → new.reach ≡ old.reach → IsJudged tools new h l stays
  nothing_judged is same =
      judged tools old new h l ready.reach ready.safe stays tells evidence plain no_removal
      (ap (λ (r : Reach). r.windows) same)
      (λ r b le drawn. drawn_same old.reach new.reach l r b undrawn (ap (λ (x : Reach). x.drawn) same) drawn)
      (held_same tools old.reach new.reach h l ready.reach (ap (λ (x : Reach). x.held) same)
      (λ e. unheld e (declared_in h)))
      (λ b k. ap (λ (x : Reach). is_carried x.leads b k) same
      ∙ (ready.reach.carried b k
      ∙ sym (carries_now k b ∙
      (ap (λ (x : Bool). list_any (carries tools b k) (terms_of h) || x)
      (carries_so k b None is ∙ never (bytes_eq b t.base.0)) ∙ or_none _))))
      (early_same old.reach new.reach (ap (λ (x : Reach). x.drawn) same) ready.reach.early)

  pub key_judged : (key : Key) → carried t ≡ Some key → Carries old.reach new.reach t.base key
      → IsJudged tools new h l stays
  key_judged key is c =
      judged tools old new h l ready.reach ready.safe stays tells evidence plain no_removal c.windows
      (λ r b le drawn. drawn_same old.reach new.reach l r b undrawn c.drawn drawn)
      (held_same tools old.reach new.reach h l ready.reach c.held (λ e. unheld e (declared_in h)))
      (λ b k. c.leads b k ∙
      (rw (ready.reach.carried b k)
      (ap (λ (x : Bool). list_any (carries tools b k) (terms_of h) || x) (sym (carries_so k b (Some key) is)) ∙ sym
      (carries_now k b))))
      (early_same old.reach new.reach c.drawn ready.reach.early)

  pub term_judged : (o : Option Key) → carried t ≡ o → CarriesSome old.reach new.reach t.base o
      → IsJudged tools new h l stays
  term_judged None is same = nothing_judged is same
  term_judged (Some key) is c = key_judged key is c
