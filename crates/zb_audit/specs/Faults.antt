-- Which line is the first bad one, and which claim it breaks.
use Rattle.std.specs.Prelude.{◌≡◌, ℕ, ◌&&◌, if◌then◌else◌, List, nat_le, Option, Some, None, Result, Ok, Err}
use Rattle.zb_audit.specs.Confirming.{is_confirmable}
use Rattle.zb_audit.specs.Ending.{accepts_in, ill_ended, seals_in}
use Rattle.zb_audit.specs.Failing.{failing, head}
use Rattle.zb_audit.specs.Nonces.{is_fresh}
use Rattle.zb_audit.specs.Taking.{is_later}
use Rattle.zb_audit.specs.declared.fault.AuditFault.{AuditFault}
use Rattle.zb_audit.specs.declared.fault.AuditFault.TheVariants.{Broken, NoMemory}
use Rattle.zb_audit.specs.declared.fault.BadLine.{BadLine}
use Rattle.zb_audit.specs.declared.fault.Verdict.{Verdict}
use Rattle.zb_audit_names.specs.Secrets.{ideal, private}
use Rattle.zb_audit_lockout.specs.Lockout.{first_unlocked}
use Rattle.zb_model.specs.Tools.{Tools}
use Rattle.zb_audit_counters.specs.Counting.{first_uncounted}
use Rattle.zb_trace.specs.declared.line.Line.{Line}

-- The first line at which lockout fails. It is checked only if what was accepted came from earlier terms, and
-- outsiders forged with no more than they may know.
unfoldable pub unlocked : Tools → List Line → Option ℕ
unlocked tools lines = if ideal tools lines && private tools lines then first_unlocked tools lines else None

-- The first line that breaks a claim.
abbrev pub by : ℕ → Option ℕ → Option BadLine
by clause None = None
by clause (Some number) = Some (record { line = number; clause = clause })

-- The fault at the earlier line. At one line, the fault of the claim with the smaller number, which is the first
-- argument.
abbrev pub sooner : Option BadLine → Option BadLine → Option BadLine
sooner None later = later
sooner (Some bad) None = Some bad
sooner (Some bad) (Some other) = if nat_le bad.line other.line then Some bad else Some other

-- The first bad line, and the first claim that it breaks.
unfoldable pub first_fault : Tools → List Line → Option BadLine
first_fault tools lines =
    sooner (by 1 (head (failing is_fresh lines)))
    (sooner (by 2 (head (failing is_later lines)))
    (sooner (by 3 (head (failing is_confirmable lines)))
    (sooner (by 4 (first_uncounted lines))
    (sooner (by 5 (unlocked tools lines))
    (by 6 (head (ill_ended tools lines)))))))

-- The verdict on lines if none of them is bad.
pub record IsSound (tools : Tools) (v : Verdict) (lines : List Line) : Type 0 where
  pub whole : first_fault tools lines ≡ None
  pub seals : v.seals ≡ seals_in lines
  pub accepts : v.accepts ≡ accepts_in lines
  pub locked : v.locked ≡ (ideal tools lines && private tools lines)

-- What an audit returns: the verdict exactly if no line is bad, else the first fault.
abbrev pub IsAnswer : Tools → List Line → Result Verdict AuditFault → Type 0
IsAnswer tools lines (Ok v) = IsSound tools v lines
IsAnswer tools lines (Err (Broken line clause)) = first_fault tools lines
    ≡ Some (record { line = line; clause = clause })
IsAnswer tools lines (Err NoMemory) = Unit {0}
