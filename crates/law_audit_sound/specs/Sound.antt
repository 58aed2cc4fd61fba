-- What an audit returns for the lines of a run.
use Rattle.std.specs.Prelude.{◌≡◌, ℕ, Bool, ◌&&◌, List, fold, None, Result, Ok, Err, ⊤}
use Rattle.zb_audit.specs.Faults.{IsAnswer, first_fault}
use Rattle.zb_audit.specs.declared.fault.AuditFault.{AuditFault}
use Rattle.zb_audit.specs.declared.fault.AuditFault.TheVariants.{Broken, NoMemory}
use Rattle.zb_audit.specs.declared.fault.Verdict.{Verdict}
use Rattle.law_audit_groups.specs.Printing.{printed}
use Rattle.zb_model.specs.Play.{Schedule, stations}
use Rattle.zb_model.specs.Secrets.{ideal, private}
use Rattle.zb_model.specs.Transcript.{accept_count, run_lines, seal_count, transcript}
use Rattle.zb_model_real.specs.Real.{real}
use Rattle.zb_trace.specs.declared.line.Line.{Line}

-- the lines of a run with real frames, as they are printed
abbrev pub lines_of : Schedule → List Line
lines_of w = printed (stations w) (transcript real w)

abbrev pub verdict : ℕ → ℕ → Bool → Verdict
verdict seals accepts locked = record { seals = seals; accepts = accepts; locked = locked }

-- The verdict on a run: the seals and accepts that its end line counts, and whether its two words hold.
abbrev pub verdict_of : Schedule → Verdict
verdict_of w =
    let run = run_lines real w in
    verdict (fold seal_count 0 run) (fold accept_count 0 run) (ideal real run && private real run)

-- an audit's answer is this verdict, unless it runs out of memory
abbrev pub IsVerdict : Schedule → Result Verdict AuditFault → Type 0
IsVerdict w (Ok v) = v ≡ verdict_of w
IsVerdict w (Err (Broken line clause)) = ⊥
IsVerdict w (Err NoMemory) = ⊤

-- No line of the run breaks a claim, so an audit of its lines returns the verdict on it.
pub record IsSound (w : Schedule) : Type 0 where
  pub whole : first_fault real (lines_of w) ≡ None
  pub answer : (result : Result Verdict AuditFault) → IsAnswer real (lines_of w) result → IsVerdict w result
