-- Transcripts that are audited as their lines are taken off a text.
use Rattle.std.proofs.Common.{◌≡◌, ◌∙◌, ℕ, ◌+◌, List, [], ◌∷◌, ◌++◌, length, refl, sym, ap, subst, append_assoc, append-nil, length-append, Result, Ok, Err, arith}
use Rattle.zb_audit.proofs.ClaimsHold.{claims_hold}
use Rattle.zb_audit.specs.Auditing.{Stands}
use Rattle.zb_audit.specs.Faults.{IsAnswer}
use Rattle.zb_audit.specs.declared.auditor.Auditor.{Auditor}
use Rattle.zb_audit.specs.declared.fault.AuditFault.{AuditFault}
use Rattle.zb_audit.specs.declared.fault.AuditFault.TheVariants.{Broken}
use Rattle.zb_audit.specs.declared.fault.Verdict.{Verdict}
use Rattle.zb_model.specs.Data.{Bytes}
use Rattle.zb_model.specs.Tools.{Tools}
use Rattle.zb_model_real.specs.Real.{real}
use Rattle.zb_trace.specs.Text.{AllProper, IsProper, text, texts}
use Rattle.zb_trace.specs.declared.line.Line.{Line}
use Rattle.zb_trace_watch.proofs.Starting.{readers_find}
use Rattle.zb_trace_watch.specs.Standing.{FindKeys}
use Rattle.zb_command.specs.Auditing.{IsAudited, IsBrokenText, IsSoundText, IsTranscript}

texts_more : (h : List Line) (l : Line) → texts (h ++ l ∷ []) ≡ texts h ++ text l
texts_more [] l = append-nil (text l)
texts_more (x ∷ h) l = ap (λ t. text x ++ t) (texts_more h l) ∙ sym (append_assoc (text x) (texts h) (text l))

proper_more : (h : List Line) (l : Line) → AllProper h → IsProper l → AllProper (h ++ l ∷ [])
proper_more [] l all proper = (proper, tt)
proper_more (x ∷ h) l all proper = (all.0, proper_more h l all.1 proper)

-- nothing is taken yet
pub begun : (bytes : Bytes) (a : Auditor) → Stands real a [] → IsAudited bytes bytes 0 a
begun bytes a stands = record {
  lines = [];
  proper = tt;
  parts = refl;
  count_is = refl;
  stands = stands;
}

-- one line more
pub taken : (bytes rest after : Bytes) (count : ℕ) (a b : Auditor) (l : Line) → IsAudited bytes rest count a
    → IsProper l → rest ≡ text l ++ after
    → ((tools : Tools) (h : List Line) → FindKeys tools → Stands tools a h → Stands tools b (h ++ l ∷ []))
    → IsAudited bytes after (count + 1) b
taken bytes rest after count a b l s proper cut goes = record {
  lines = s.lines ++ l ∷ [];
  proper = proper_more s.lines l s.proper proper;
  parts =
      s.parts ∙
      (ap (λ r. texts s.lines ++ r) cut ∙
      (sym (append_assoc (texts s.lines) (text l) after) ∙ ap (λ t. t ++ after) (sym (texts_more s.lines l))));
  count_is = ap (λ n. n + 1) s.count_is ∙ sym (length-append s.lines (l ∷ []));
  stands = goes real s.lines readers_find s.stands;
}

-- nothing is left
pub whole : (bytes rest : Bytes) (count : ℕ) (a : Auditor) (s : IsAudited bytes rest count a) → rest ≡ []
    → IsTranscript bytes s.lines
whole bytes rest count a s none = record {
  proper = s.proper;
  text = s.parts ∙ (ap (λ r. texts s.lines ++ r) none ∙ append-nil (texts s.lines));
}

empty_of : (xs : Bytes) → length xs ≡ 0 → xs ≡ []
empty_of [] none = refl
empty_of (x ∷ xs) none = absurd (omega (arith, none))

pub sound_of : (bytes rest : Bytes) (count : ℕ) (a : Auditor) (s : IsAudited bytes rest count a)
    (r : Result Verdict AuditFault) (v : Verdict) → r ≡ Ok v
    → IsAnswer real s.lines r → length rest ≡ 0 → IsSoundText bytes v
sound_of bytes rest count a s r v is answer none =
    let sound = subst (λ (x : Result Verdict AuditFault). IsAnswer real s.lines x) is answer in
    record {
      lines = s.lines;
      transcript = whole bytes rest count a s (empty_of rest none);
      sound = sound;
      claims = claims_hold real v s.lines sound;
    }

pub broken_of : (bytes rest : Bytes) (count : ℕ) (a : Auditor) (s : IsAudited bytes rest count a)
    (r : Result Verdict AuditFault) (f : AuditFault) (line clause : ℕ)
    → r ≡ Err f → f ≡ Broken line clause → IsAnswer real s.lines r → length rest ≡ 0 → IsBrokenText bytes line clause
broken_of bytes rest count a s r f line clause is fault answer none =
    let at : IsAnswer real s.lines (Err (Broken line clause)) =
    subst (λ (x : Result Verdict AuditFault). IsAnswer real s.lines x) (is ∙ ap Err fault) answer in
    record {
      lines = s.lines;
      transcript = whole bytes rest count a s (empty_of rest none);
      fault = at;
    }
