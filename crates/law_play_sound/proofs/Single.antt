-- Of any text an audit may say one thing alone.
use Rattle.std.proofs.Common.{◌≡◌, ℕ, suc, ◌+◌, List, [], ◌∷◌, ◌++◌, length, Some, refl, sym, ap, ◌∙◌, append_assoc}
use Rattle.zb_audit.specs.Faults.{first_fault}
use Rattle.zb_audit.specs.declared.fault.BadLine.{BadLine}
use Rattle.zb_audit.specs.declared.fault.Verdict.{Verdict}
use Rattle.law_audit_text.specs.Alike.{AreJudgedAlike}
use Rattle.zb_model.specs.Data.{Bytes}
use Rattle.zb_model_real.specs.Real.{real}
use Rattle.zb_trace.specs.Text.{AllProper, IsProper, text, texts}
use Rattle.zb_trace.specs.declared.line.Line.{Line}
use Rattle.zb_trace_read.proofs.Taking.{one_front, one_text}
use Rattle.zb_trace_read.specs.Faults.{IsFirstBad}
use Rattle.zb_command.specs.Auditing.{IsBrokenText, IsSoundText, IsTranscript}
use Rattle.law_play_sound.specs.Single.{HasOneAnswer}
use Rattle.law_play_sound.proofs.Played.{JudgesWords, no_fault, none_bad, same_verdict}

-- lines of one text are judged alike
alike : JudgesWords → (bytes : Bytes) (ls ms : List Line) → IsTranscript bytes ls → IsTranscript bytes ms
    → AreJudgedAlike real ls ms
alike judges bytes ls ms a b = judges real ls ms (one_text ls ms a.proper b.proper (sym a.text ∙ b.text))

one_verdict : JudgesWords → (bytes : Bytes) (v w : Verdict) → IsSoundText bytes v → IsSoundText bytes w → v ≡ w
one_verdict judges bytes v w a b =
    let same = alike judges bytes a.lines b.lines a.transcript b.transcript in
    same_verdict v w (a.sound.seals ∙ (same.seals ∙ sym b.sound.seals))
    (a.sound.accepts ∙ (same.accepts ∙ sym b.sound.accepts)) (a.sound.locked ∙ (same.locked ∙ sym b.sound.locked))

abbrev line_of : BadLine → ℕ
line_of bad = bad.line

abbrev claim_of : BadLine → ℕ
claim_of bad = bad.clause

some_bad : (a b : BadLine) → Some a ≡ Some b → a ≡ b
some_bad a b e = cc

one_fault : JudgesWords → (bytes : Bytes) (line clause other claim : ℕ) → IsBrokenText bytes line clause
    → IsBrokenText bytes other claim → (line ≡ other) × (clause ≡ claim)
one_fault judges bytes line clause other claim a b =
    let same = alike judges bytes a.lines b.lines a.transcript b.transcript in
    let both = some_bad (record { line = line; clause = clause }) (record { line = other; clause = claim })
    (sym a.fault ∙ (same.fault ∙ b.fault)) in
    (ap line_of both, ap claim_of both)

sound_unbroken : JudgesWords → (bytes : Bytes) (v : Verdict) (line clause : ℕ) → IsSoundText bytes v
    → IsBrokenText bytes line clause → ⊥
sound_unbroken judges bytes v line clause a b =
    let same = alike judges bytes a.lines b.lines a.transcript b.transcript in
    no_fault (record { line = line; clause = clause }) (first_fault real b.lines) b.fault
    (sym same.fault ∙ a.sound.whole)

-- where two parts of one text are cut before what begins with no line, as many lines were cut off
as_many : (xs ys : List Line) (r s : List ℕ) → AllProper xs → AllProper ys
    → ((l : Line) (more : List ℕ) → IsProper l → r ≡ text l ++ more → ⊥)
    → ((l : Line) (more : List ℕ) → IsProper l → s ≡ text l ++ more → ⊥)
    → texts xs ++ r ≡ texts ys ++ s → length xs ≡ length ys
as_many [] [] r s px py br bs e = refl
as_many [] (y ∷ ys) r s px py br bs e = absurd (br y (texts ys ++ s) py.0 (e ∙ append_assoc (text y) (texts ys) s))
as_many (x ∷ xs) [] r s px py br bs e = absurd (bs x (texts xs ++ r) px.0 (sym e ∙ append_assoc (text x) (texts xs) r))
as_many (x ∷ xs) (y ∷ ys) r s px py br bs e =
    let rest = one_front x y (texts xs ++ r) (texts ys ++ s) px.0 py.0
    (sym (append_assoc (text x) (texts xs) r) ∙ (e ∙ append_assoc (text y) (texts ys) s)) in
    ap suc (as_many xs ys r s px.1 py.1 br bs rest.1)

one_bad : (bytes : Bytes) (line other : ℕ) → IsFirstBad bytes line → IsFirstBad bytes other → line ≡ other
one_bad bytes line other a b =
    a.place ∙
    (ap (λ n. n + 1)
    (as_many a.before b.before a.rest b.rest a.proper b.proper a.bad b.bad (sym a.parts ∙ b.parts)) ∙ sym b.place)

pub one_answer : JudgesWords → (bytes : Bytes) → HasOneAnswer bytes
one_answer judges bytes = record {
  verdict = one_verdict judges bytes;
  fault = one_fault judges bytes;
  bad = one_bad bytes;
  sound_or_broken = sound_unbroken judges bytes;
  sound_or_bad = λ v line sound bad. none_bad bytes sound.lines sound.transcript line bad;
  broken_or_bad = λ line clause other broken bad. none_bad bytes broken.lines broken.transcript other bad;
}
