-- An audit checks lines as it checks the plain ones.
use Rattle.std.proofs.Common.{◌≡◌, ℕ, Bool, not, ◌&&◌, List, [], ◌∷◌, ◌++◌, Option, Some, None, refl, sym, ap, ◌∙◌}
use Rattle.zb_audit.specs.Confirming.{RowState, Absent, confirmed, is_confirmable, row_becomes, row_from, row_in, stands_for}
use Rattle.zb_audit.specs.Ending.{accept_count, accepts_in, ends_from, ends_well, front, greater_event, greatest_event, ill_ended, is_no_end, refusals_in, refuse_count, seal_count, seals_in, sums_up}
use Rattle.zb_audit.specs.Failing.{failing, failing_from}
use Rattle.zb_audit.specs.Faults.{first_fault}
use Rattle.zb_audit.specs.Nonces.{is_fresh, seals_alike}
use Rattle.zb_audit.specs.Taking.{bars, is_later}
use Rattle.zb_base.specs.declared.address.Eui.{Eui}
use Rattle.zb_audit_names.specs.Groups.{event_of}
use Rattle.zb_audit_names.specs.Naming.{declares}
use Rattle.zb_audit_names.specs.Secrets.{ideal, private}
use Rattle.zb_model.specs.Data.{Bytes, Station}
use Rattle.zb_model.specs.Tools.{Tools}
use Rattle.zb_seal.specs.declared.term.Term.{Term}
use Rattle.zb_trace.specs.declared.line.Line.{Line}
use Rattle.zb_trace.specs.declared.line.Line.TheVariants as line
use Rattle.law_audit_text.proofs.Counting.{event_plain, uncounted_plain}
use Rattle.law_audit_text.proofs.Knowing.{declared_plain, declares_plain, ideal_plain, private_plain}
use Rattle.law_audit_text.proofs.Locking.{unlocked_plain}
use Rattle.law_audit_text.specs.Plain.{plain, plains}
use Rattle.law_audit_text.proofs.Spoken.{same_plains}
use Rattle.law_audit_text.proofs.Plain.{plains_snoc, plains_length, any_plain, fold_plain}
use Rattle.law_audit_text.specs.Alike.{AreJudgedAlike, HaveSameWords}

-- ---- bad lines

from_plain : (test : List Line → Line → Bool) → ((h : List Line) (l : Line) → test (plains h) (plain l) ≡ test h l)
    → (h ls : List Line) → failing_from test (plains h) (plains ls) ≡ failing_from test h ls
unfolding failing_from
from_plain test each h [] = refl
from_plain test each h (l ∷ ls) =
    rw (each h l, plains_length h, plains_snoc h l, from_plain test each (h ++ l ∷ []) ls) refl

failing_plain : (test : List Line → Line → Bool) → ((h : List Line) (l : Line) → test (plains h) (plain l) ≡ test h l)
    → (lines : List Line) → failing test (plains lines) ≡ failing test lines
unfolding failing
failing_plain test each lines = from_plain test each [] lines

alike_line : (t : Term) (l : Line) → seals_alike t (plain l) ≡ seals_alike t l
alike_line t (line.Seal event node u) = refl
alike_line t _ = refl

fresh_plain : (h : List Line) (l : Line) → is_fresh (plains h) (plain l) ≡ is_fresh h l
unfolding is_fresh
fresh_plain h (line.Seal event node t) = ap not (any_plain (seals_alike t) (alike_line t) h)
fresh_plain h _ = refl

bars_line : (name : Bytes) (t : Term) (l : Line) → bars name t (plain l) ≡ bars name t l
unfolding bars
bars_line name t (line.Accept event node u) = refl
bars_line name t _ = refl

later_plain : (h : List Line) (l : Line) → is_later (plains h) (plain l) ≡ is_later h l
unfolding is_later
later_plain h (line.Accept event node t) = ap not (any_plain (bars node.bytes t) (bars_line node.bytes t) h)
later_plain h _ = refl

-- ---- confirmed keys

becomes_plain : (partner : ℕ) (key : Bytes) (known : List Station) (s : RowState) (l : Line)
    → row_becomes partner key known s (plain l) ≡ row_becomes partner key known s l
becomes_plain partner key known s (line.Row event node p k a) = refl
becomes_plain partner key known s (line.DropLink event node p k) = refl
becomes_plain partner key known s (line.Commit event node) = refl
becomes_plain partner key known s _ = refl

row_from_plain : (partner : ℕ) (key : Bytes) (known : List Station) (s : RowState) (h : List Line)
    → row_from partner key known s (plains h) ≡ row_from partner key known s h
unfolding row_from
row_from_plain partner key known s [] = refl
row_from_plain partner key known s (l ∷ h) =
    ap (λ k. row_from partner key k (row_becomes partner key known s (plain l)) (plains h)) (declares_plain known l)
    ∙ (ap (λ r. row_from partner key (declares known l) r (plains h)) (becomes_plain partner key known s l) ∙
    row_from_plain partner key (declares known l) (row_becomes partner key known s l) h)

row_plain : (h : List Line) (partner : ℕ) (key : Bytes) → row_in (plains h) partner key ≡ row_in h partner key
unfolding row_in
row_plain h partner key = row_from_plain partner key [] Absent h

stands_plain : (h : List Line) (name base : Bytes) (device : Option Eui) → stands_for (plains h) name base device
    ≡ stands_for h name base device
stands_plain h name base None = refl
stands_plain h name base (Some device) = rw (declared_plain h, row_plain h device.0 base) refl

confirmable_plain : (h : List Line) (l : Line) → is_confirmable (plains h) (plain l) ≡ is_confirmable h l
unfolding is_confirmable
confirmable_plain h (line.Seal event node t) = stands_plain h node.bytes t.base.0 (confirmed t)
confirmable_plain h _ = refl

-- ---- the end line

seal_line : (n : ℕ) (l : Line) → seal_count n (plain l) ≡ seal_count n l
seal_line n (line.Seal event node t) = refl
seal_line n _ = refl

accept_line : (n : ℕ) (l : Line) → accept_count n (plain l) ≡ accept_count n l
accept_line n (line.Accept event node t) = refl
accept_line n _ = refl

refuse_line : (n : ℕ) (l : Line) → refuse_count n (plain l) ≡ refuse_count n l
refuse_line n (line.Refuse event node r) = refl
refuse_line n _ = refl

seals_plain : (h : List Line) → seals_in (plains h) ≡ seals_in h
unfolding seals_in
seals_plain h = fold_plain seal_count seal_line 0 h

accepts_plain : (h : List Line) → accepts_in (plains h) ≡ accepts_in h
unfolding accepts_in
accepts_plain h = fold_plain accept_count accept_line 0 h

refusals_plain : (h : List Line) → refusals_in (plains h) ≡ refusals_in h
unfolding refusals_in
refusals_plain h = fold_plain refuse_count refuse_line 0 h

greatest_plain : (h : List Line) → greatest_event (plains h) ≡ greatest_event h
unfolding greatest_event
greatest_plain h = fold_plain (λ (n : ℕ) (l : Line). greater_event n (event_of l))
    (λ n l. ap (greater_event n) (event_plain l)) 0 h

sums_plain : (tools : Tools) (h : List Line) (l : Line) → sums_up tools (plains h) (plain l) ≡ sums_up tools h l
unfolding sums_up
sums_plain tools h (line.End events seals accepts refusals is_ideal is_private) =
    rw (
      greatest_plain h,
      seals_plain h,
      accepts_plain h,
      refusals_plain h,
      ideal_plain tools h,
      private_plain tools h,
    ) refl
sums_plain tools h _ = refl

no_end_plain : (h : List Line) (l : Line) → is_no_end (plains h) (plain l) ≡ is_no_end h l
no_end_plain h (line.End events seals accepts refusals is_ideal is_private) = refl
no_end_plain h _ = refl

front_plain : (lines : List Line) → front (plains lines) ≡ plains (front lines)
front_plain [] = refl
front_plain (l ∷ []) = refl
front_plain (l ∷ m ∷ ls) = ap (λ xs. plain l ∷ xs) (front_plain (m ∷ ls))

ends_from_plain : (tools : Tools) (h ls : List Line) → ends_from tools (plains h) (plains ls) ≡ ends_from tools h ls
unfolding ends_from
ends_from_plain tools h [] = refl
ends_from_plain tools h (l ∷ []) = sums_plain tools h l
ends_from_plain tools h (l ∷ m ∷ ls) = ap (λ g. ends_from tools g (plains (m ∷ ls))) (plains_snoc h l) ∙
    ends_from_plain tools (h ++ l ∷ []) (m ∷ ls)

ill_plain : (tools : Tools) (lines : List Line) → ill_ended tools (plains lines) ≡ ill_ended tools lines
unfolding ill_ended ends_well
ill_plain tools lines =
    rw (
      front_plain lines,
      failing_plain is_no_end no_end_plain (front lines),
      ends_from_plain tools [] lines,
      plains_length lines,
    ) refl

-- ---- the first bad line

fault_plain : (tools : Tools) (lines : List Line) → first_fault tools (plains lines) ≡ first_fault tools lines
unfolding first_fault
fault_plain tools lines =
    rw (
      failing_plain is_fresh fresh_plain lines,
      failing_plain is_later later_plain lines,
      failing_plain is_confirmable confirmable_plain lines,
      uncounted_plain lines,
      unlocked_plain tools lines,
      ill_plain tools lines,
    ) refl

-- what is the same for lines and their plain ones is the same for lines with the same words
by_plain : {A : Type 0} (reads : List Line → A) → ((lines : List Line) → reads (plains lines) ≡ reads lines)
    → (lines others : List Line) → plains lines ≡ plains others → reads lines ≡ reads others
by_plain reads each lines others same = sym (each lines) ∙ (ap reads same ∙ each others)

locked_plain : (tools : Tools) (lines : List Line) → (ideal tools (plains lines) && private tools (plains lines))
    ≡ (ideal tools lines && private tools lines)
locked_plain tools lines = rw (ideal_plain tools lines, private_plain tools lines) refl

pub judged_alike : (tools : Tools) (lines others : List Line) → HaveSameWords lines others
    → AreJudgedAlike tools lines others
judged_alike tools lines others same =
    let one = same_plains lines others same in
    record {
      fault = by_plain (first_fault tools) (fault_plain tools) lines others one;
      seals = by_plain seals_in seals_plain lines others one;
      accepts = by_plain accepts_in accepts_plain lines others one;
      locked = by_plain (λ ls. ideal tools ls && private tools ls) (locked_plain tools) lines others one;
    }
