-- The text of a run is that of a sound transcript, whatever lines it is read as.
use Rattle.std.proofs.Common.{◌≡◌, ◌≢◌, ◌<◌, ◌≤◌, ℕ, Bool, true, false, cond, ◌&&◌, List, [], ◌∷◌, ◌++◌, length, nat_lt, Option, Some, None, Result, Ok, Err, refl, sym, ap, ◌∙◌, subst, append_assoc, arith, lt_irrefl}
use Rattle.std.specs.Io.KnownBytes.{Appends}
use Rattle.zb_audit.proofs.ClaimsHold.{claims_hold}
use Rattle.zb_audit.specs.Ending.{accepts_in, seals_in}
use Rattle.zb_audit.specs.Faults as audit
use Rattle.zb_audit.specs.Faults.{first_fault}
use Rattle.zb_audit.specs.declared.fault.BadLine.{BadLine}
use Rattle.zb_audit.specs.declared.fault.Verdict.{Verdict}
use Rattle.law_audit_text.specs.Alike.{AreJudgedAlike, HaveSameWords}
use Rattle.zb_base.specs.Outside.{AppendsFront}
use Rattle.zb_audit_names.specs.Secrets.{ideal, private}
use Rattle.zb_model.specs.Data.{Bytes}
use Rattle.zb_model.specs.Play.{Schedule}
use Rattle.zb_model.specs.Transcript.{end_line}
use Rattle.zb_model.specs.Tools.{Tools}
use Rattle.zb_model_real.specs.Real.{real}
use Rattle.law_schedules.specs.Schedules.{schedule_of}
use Rattle.zb_player.specs.Runs.{transcript_text}
use Rattle.law_run_text.specs.Back.{ReadsBack, text_of_run}
use Rattle.zb_sched.specs.Schedules as sched
use Rattle.zb_sched.specs.Reading.{schedule_in}
use Rattle.zb_sched.specs.Valid.{IsSchedule}
use Rattle.zb_sched.specs.declared.error.SchedError.{SchedError}
use Rattle.law_audit_sound.specs.Sound as runs
use Rattle.law_audit_sound.specs.Sound.{lines_of, verdict, verdict_of}
use Rattle.zb_trace.specs.Text.{Word, AllProper, IsProper, line_of, spelled, text, texts, trailing, words}
use Rattle.zb_trace.specs.declared.line.Line.{Line}
use Rattle.zb_trace_read.proofs.Taking.{one_front}
use Rattle.zb_trace_read.specs.Faults.{IsFirstBad}
use Rattle.zb_command.specs.Answers.{Answer, Exceeds, Writes, play_answer}
use Rattle.zb_command.specs.Auditing.{Audits, IsBrokenText, IsSoundText, IsTranscript, sound_line}
use Rattle.zb_command.specs.declared.status.Status.{Status}
use Rattle.zb_command.specs.declared.status.Status.TheVariants as status
use Rattle.law_play_sound.specs.Played.{EndsSound, IsPlayedSound, IsPlayedText, SaysAsEnd, last_line}
use Rattle.zb_base.specs.Limits.{longest_input}

-- ---- what is to be written

abbrev some : Answer → Option Answer
some answer = Some answer

one_output : (a b : Bytes) → some (Writes a) ≡ some (Writes b) → a ≡ b
one_output a b e = cc e

abbrev IsOf : Result sched.Schedule SchedError → Bytes → Type 0
IsOf r output = (p : sched.Schedule) × (r ≡ Ok p) × (transcript_text p ≡ output)

plan_of : (r : Result sched.Schedule SchedError) (b : Bool) (output : Bytes) → some (cond b Exceeds (play_answer r))
    ≡ some (Writes output) → IsOf r output
plan_of r true output e = absurd (cc)
plan_of (Ok p) false output e = (p, refl, one_output (transcript_text p) output e)
plan_of (Err x) false output e = absurd (cc)

-- ---- lines of a text

no_end : (front back more : List ℕ) → (front ++ (back ++ 10 ∷ [])) ++ more ≡ [] → ⊥
no_end [] [] more e = cc e
no_end [] (b ∷ back) more e = cc e
no_end (b ∷ front) back more e = cc e

pub no_text : (l : Line) (more : List ℕ) → text l ++ more ≡ [] → ⊥
unfolding text
no_text l more e = no_line (words l) e
  where
    no_line : (ws : List Word) → line_of ws ++ more ≡ [] → ⊥
    no_line [] e = cc e
    no_line (word ∷ ws) e = no_end (spelled word) (trailing ws) more e

-- Where a text is that of proper lines, no line of it is bad.
all_good : (before : List Line) (rest : List ℕ) (ls : List Line) → AllProper before → AllProper ls → rest ≢ []
    → ((l : Line) (more : List ℕ) → IsProper l → rest ≡ text l ++ more → ⊥)
    → texts before ++ rest ≡ texts ls → ⊥
all_good [] rest [] proper all some bad e = some e
all_good [] rest (l ∷ ls) proper all some bad e = bad l (texts ls) all.0 e
all_good (b ∷ before) rest [] proper all some bad e =
    no_text b (texts before ++ rest) (sym (append_assoc (text b) (texts before) rest) ∙ e)
all_good (b ∷ before) rest (l ∷ ls) proper all some bad e =
    all_good before rest ls proper.1 all.1 some bad
    (one_front b l (texts before ++ rest) (texts ls) proper.0 all.0
    (sym (append_assoc (text b) (texts before) rest) ∙ e)).1

-- ---- a text all of whose readings are judged alike

pub no_fault : (bad : BadLine) (found : Option BadLine) → found ≡ Some bad → found ≡ None → ⊥
no_fault bad found some none = cc (some, none)

pub same_verdict : (v x : Verdict) → v.seals ≡ x.seals → v.accepts ≡ x.accepts → v.locked ≡ x.locked → v ≡ x
same_verdict v x seals accepts locked =
    ap (λ n. verdict n v.accepts v.locked) seals ∙
    (ap (λ n. verdict x.seals n v.locked) accepts ∙ ap (λ b. verdict x.seals x.accepts b) locked)

module _ (tools : Tools) (output : Bytes) (lines : List Line) (v : Verdict) (is : IsTranscript output lines)
    (sound : audit.IsSound tools v lines)
    (alike : (ls : List Line) → IsTranscript output ls → AreJudgedAlike tools ls lines) where
  one_verdict : (other : Verdict) (ls : List Line) → IsTranscript output ls → audit.IsSound tools other ls → other ≡ v
  one_verdict other ls of_text sound_on =
      let same = alike ls of_text in
      same_verdict other v (sound_on.seals ∙ (same.seals ∙ sym sound.seals))
      (sound_on.accepts ∙ (same.accepts ∙ sym sound.accepts)) (sound_on.locked ∙ (same.locked ∙ sym sound.locked))

  none_broken : (ls : List Line) (line clause : ℕ) → IsTranscript output ls → first_fault tools ls
      ≡ Some (record { line = line; clause = clause }) → ⊥
  none_broken ls line clause of_text broken = no_fault (record { line = line; clause = clause })
      (first_fault tools ls) broken ((alike ls of_text).fault ∙ sound.whole)

pub none_bad : (output : Bytes) (lines : List Line) → IsTranscript output lines → (line : ℕ) → IsFirstBad output line
    → ⊥
none_bad output lines is line bad = all_good bad.before bad.rest lines bad.proper is.proper bad.some bad.bad
    (sym bad.parts ∙ is.text)

-- ---- how an audit ends

module _ (output : Bytes) (v : Verdict) (only : (other : Verdict) → IsSoundText output other → other ≡ v)
    (all_lines : (line : ℕ) → IsFirstBad output line → ⊥)
    (unbroken : (line clause : ℕ) → IsBrokenText output line clause → ⊥) (short : length output ≤ longest_input)
    (before after : Option Bytes) (old new : ℕ) where
  ends_sound : (s : Status) → Audits s (Some output) before after old new → EndsSound v s before after
  ends_sound status.Ok a = subst (λ x. Appends before after (sound_line x)) (only a.1.0 a.1.1) a.1.2
  ends_sound status.Usage a = absurd a
  ends_sound status.ReadFault a = tt
  ends_sound status.WriteFault a = subst (λ x. AppendsFront before after (sound_line x)) (only a.0.1.0 a.0.1.1) a.0.1.2
  ends_sound (status.Refused line c) a = absurd (all_lines line a.0.1)
  ends_sound status.NoMemory a = tt
  ends_sound status.DiskFault a = absurd a
  ends_sound status.NoStore a = absurd a
  ends_sound (status.TooLong limit) a = let long : longest_input < length output =
      a.1 in absurd (lt_irrefl (length output) (omega (arith, short, long)))
  ends_sound (status.Broken line clause) a = absurd (unbroken line clause a.0.1)
  ends_sound (status.BadStore at) a = absurd a
  ends_sound status.Worn a = absurd a

-- ---- a run

says_end : (w : Schedule) → SaysAsEnd (verdict_of w) (last_line w)
unfolding end_line
says_end w = (refl, refl, refl)

verdict_sound : (w : Schedule) → runs.IsSound w → audit.IsSound real (verdict_of w) (lines_of w)
verdict_sound w sound =
    let lines = lines_of w in
    let v = verdict (seals_in lines) (accepts_in lines) (ideal real lines && private real lines) in
    let on_lines : audit.IsSound real v lines =
    record { whole = sound.whole; seals = refl; accepts = refl; locked = refl } in
    subst (λ x. audit.IsSound real x lines) (sound.answer (Ok v) on_lines) on_lines

abbrev pub JudgesWords : Type 0
JudgesWords = (tools : Tools) (lines others : List Line) → HaveSameWords lines others
    → AreJudgedAlike tools lines others

judged : JudgesWords → (w : Schedule) (output : Bytes) → ReadsBack w → text_of_run w ≡ output → (ls : List Line)
    → IsTranscript output ls → AreJudgedAlike real ls (lines_of w)
judged judges w output back same ls is =
    judges real ls (lines_of w) (back.only ls is.proper (sym is.text ∙ sym same)).printed_so

is_text : (w : Schedule) (output : Bytes) → ReadsBack w → text_of_run w ≡ output → IsTranscript output (lines_of w)
is_text w output back same = record { proper = back.proper; text = sym (back.text ∙ same) }

of_plan : (p : sched.Schedule) (input output : Bytes) (w : Schedule) → w ≡ schedule_of p → JudgesWords
    → runs.IsSound w → ReadsBack w → schedule_in input ≡ Ok p → text_of_run w ≡ output
    → IsPlayedSound input output
of_plan p input output w w_is judges sound back reads same =
    record {
      schedule = p;
      reads = reads;
      verdict = verdict_of w;
      says = subst (λ x. SaysAsEnd (verdict_of w) (last_line x)) w_is (says_end w);
      sound = record {
        lines = lines_of w;
        transcript = is_text w output back same;
        sound = verdict_sound w sound;
        claims = claims_hold real (verdict_of w) (lines_of w) (verdict_sound w sound);
      };
      only = only;
      all_lines = all_lines;
      unbroken = unbroken;
      ends = λ short s before after old new ended. ends_sound output (verdict_of w) only all_lines unbroken short
          before after old new s ended;
    }
  where
    only : (other : Verdict) → IsSoundText output other → other ≡ verdict_of w
    only other is =
        one_verdict real output (lines_of w) (verdict_of w) (is_text w output back same) (verdict_sound w sound)
        (judged judges w output back same) other is.lines is.transcript is.sound

    all_lines : (line : ℕ) → IsFirstBad output line → ⊥
    all_lines = none_bad output (lines_of w) (is_text w output back same)

    unbroken : (line clause : ℕ) → IsBrokenText output line clause → ⊥
    unbroken line clause broken =
        none_broken real output (lines_of w) (verdict_of w) (is_text w output back same) (verdict_sound w sound)
        (judged judges w output back same) broken.lines line clause broken.transcript broken.fault

pub played_sound : (input : Bytes) → ((p : sched.Schedule) → schedule_in input ≡ Ok p → IsSchedule p)
    → ((p : sched.Schedule) → IsSchedule p → runs.IsSound (schedule_of p))
    → ((p : sched.Schedule) → IsSchedule p → ReadsBack (schedule_of p)) → JudgesWords → (output : Bytes)
    → IsPlayedText input output → IsPlayedSound input output
played_sound input valid sound back judges output is =
    by_plan (plan_of (schedule_in input) (nat_lt longest_input (length input)) output is)
  where
    by_plan : IsOf (schedule_in input) output → IsPlayedSound input output
    by_plan (p, reads, same) =
        of_plan p input output (schedule_of p) refl judges (sound p (valid p reads)) (back p (valid p reads)) reads
        same
