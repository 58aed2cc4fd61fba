-- All claims of the audit, for a run.
use Rattle.std.proofs.Common.{◌≡◌, ℕ, List, [], Option, None, ap, ◌∙◌}
use Rattle.zb_audit.specs.Confirming.{is_confirmable}
use Rattle.zb_audit.specs.Ending.{ill_ended}
use Rattle.zb_audit.specs.Failing.{failing, head}
use Rattle.zb_audit.specs.Faults.{by, first_fault, sooner, unlocked}
use Rattle.zb_audit.specs.Nonces.{is_fresh}
use Rattle.zb_audit.specs.Taking.{is_later}
use Rattle.law_audit_sound.proofs.Fresher.{keeps_first}
use Rattle.law_audit_sound.proofs.Later.{keeps_second}
use Rattle.law_audit_sound.proofs.Confirmable.{keeps_third}
use Rattle.law_audit_sound.proofs.Runs.{keeps_fourth}
use Rattle.law_audit_sound.proofs.Endings.{keeps_sixth}
use Rattle.law_audit_sound.proofs.Fifth.{keeps_fifth}
use Rattle.law_audit_sound.proofs.Run.{run_read_same}
use Rattle.zb_model.specs.Transcript.{transcript}
use Rattle.law_run.proofs.Basics.{append-nil'}
use Rattle.law_run.specs.Commanding.{ShowsKeys}
use Rattle.zb_model_real.specs.Real.{real}
use Rattle.law_real_nodes.proofs.Euis.{different}
use Rattle.law_real_nodes.proofs.Opening.{opens_as_judged, opens_real}
use Rattle.law_schedules.specs.Schedules.{schedule_of}
use Rattle.law_schedules.proofs.Holding.{premises}
use Rattle.zb_audit_counters.specs.Counting.{first_of, first_uncounted, uncounted}
use Rattle.zb_sched.specs.Schedules.{Schedule}
use Rattle.zb_sched.specs.Valid.{IsSchedule}
use Rattle.law_audit_sound.specs.Sound.{IsSound, lines_of}
use Rattle.law_audit_sound.proofs.Named.{are_named}
use Rattle.law_audit_sound.proofs.Verdicts.{answered}
use Rattle.zb_trace.specs.declared.line.Line.{Line}

-- ---- the first bad line

none_bad : (lines : List Line) → failing is_fresh lines ≡ [] → failing is_later lines ≡ []
    → failing is_confirmable lines ≡ [] → uncounted lines ≡ [] → unlocked real lines ≡ None → ill_ended real lines ≡ []
    → first_fault real lines ≡ None
unfolding first_fault first_uncounted
none_bad lines first second third fourth fifth sixth =
    let last = by 6 (head (ill_ended real lines)) in
    let locks = sooner (by 5 (unlocked real lines)) last in
    let counts = sooner (by 4 (first_of (uncounted lines))) locks in
    ap (λ (ns : List ℕ). sooner (by 1 (head ns))
    (sooner (by 2 (head (failing is_later lines))) (sooner (by 3 (head (failing is_confirmable lines))) counts)))
    first
    ∙ (ap (λ (ns : List ℕ). sooner (by 2 (head ns)) (sooner (by 3 (head (failing is_confirmable lines))) counts))
    second
    ∙ (ap (λ (ns : List ℕ). sooner (by 3 (head ns)) counts) third
    ∙ (ap (λ (ns : List ℕ). sooner (by 4 (first_of ns)) locks) fourth
    ∙ (ap (λ (o : Option ℕ). sooner (by 5 o) last) fifth ∙ ap (λ (ns : List ℕ). by 6 (head ns)) sixth))))

pub sound : ShowsKeys real → (p : Schedule) → IsSchedule p → IsSound (schedule_of p)
sound shows p is =
    let w = schedule_of p in
    let met = premises p is in
    let differ = different p is in
    let fits = are_named p is in
    let whole : first_fault real (lines_of w) ≡ None =
    none_bad (lines_of w) (keeps_first w met.schedule)
    (keeps_second real opens_real w met.schedule met.one_centre fits) (keeps_third w met differ fits)
    (keeps_fourth real opens_real opens_as_judged w met.schedule differ met.one_centre fits)
    (keeps_fifth real opens_real opens_as_judged shows w met.schedule differ met.one_centre met.keys fits)
    (keeps_sixth real opens_as_judged w met.schedule differ met.one_centre fits) in
    record {
      whole = whole;
      answer =
          answered w
          (run_read_same real opens_as_judged w met.schedule differ met.one_centre fits (transcript real w) []
          (append-nil' (transcript real w))).words whole;
    }
