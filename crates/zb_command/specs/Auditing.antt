-- How `audit` ends.
use Rattle.std.specs.Prelude.{◌≡◌, ℕ, Bool, true, false, ◌<◌, ◌≤◌, ◌∷◌, [], ◌++◌, length, List, codes, decimal, Option, Some, IfSome}
use Rattle.std.specs.Io.KnownBytes.{Appends, Keeps}
use Rattle.zb_audit.specs.Auditing.{Stands}
use Rattle.zb_audit.specs.Claims.{Keeps as KeepsClaims}
use Rattle.zb_audit.specs.Faults.{IsSound, first_fault}
use Rattle.zb_audit.specs.declared.auditor.Auditor.{Auditor}
use Rattle.zb_audit.specs.declared.fault.Verdict.{Verdict}
use Rattle.zb_base.specs.Outside.{AppendsFront, Rose}
use Rattle.zb_model.specs.Data.{Bytes}
use Rattle.zb_model_real.specs.Real.{real}
use Rattle.zb_text.specs.Words.{then}
use Rattle.zb_trace.specs.Text.{AllProper, texts}
use Rattle.zb_trace.specs.declared.line.Line.{Line}
use Rattle.zb_trace_read.specs.Faults.{IsFirstBad}
use Rattle.zb_command.specs.declared.audit.TextFault.{TextFault}
use Rattle.zb_command.specs.declared.audit.TextFault.TheVariants as fault
use Rattle.zb_command.specs.declared.status.Cause.TheVariants as cause
use Rattle.zb_command.specs.declared.status.Status.{Status}
use Rattle.zb_command.specs.declared.status.Status.TheVariants as status
use Rattle.zb_base.specs.Limits.{longest_input}

-- The bytes are the text of these lines.
pub record IsTranscript (bytes : Bytes) (lines : List Line) : Type 0 where
  pub proper : AllProper lines
  pub text : bytes ≡ texts lines

-- This number of lines was taken off the bytes, this rest is left, and the auditor is as it is after these lines.
pub record IsAudited (bytes rest : Bytes) (count : ℕ) (a : Auditor) : Type 0 where
  pub lines : List Line
  pub proper : AllProper lines
  pub parts : bytes ≡ texts lines ++ rest
  pub count_is : count ≡ length lines
  pub stands : Stands real a lines

-- They are that of lines on which this is the verdict, and of which the claims hold. No seal comes twice under one key
-- and nonce, no counter is accepted twice, only stored keys are confirmed, and removed devices are locked out where
-- the verdict says so.
pub record IsSoundText (bytes : Bytes) (v : Verdict) : Type 0 where
  pub lines : List Line
  pub transcript : IsTranscript bytes lines
  pub sound : IsSound real v lines
  pub claims : KeepsClaims real v lines

-- They are that of lines of which this one is the first bad one, and breaks that claim first.
pub record IsBrokenText (bytes : Bytes) (line clause : ℕ) : Type 0 where
  pub lines : List Line
  pub transcript : IsTranscript bytes lines
  pub fault : first_fault real lines ≡ Some (record { line = line; clause = clause })

-- Why bytes aren't the text of a sound transcript.
abbrev pub IsTextFault : Bytes → TextFault → Type 0
IsTextFault bytes (fault.Syntax line) = IsFirstBad bytes line
IsTextFault bytes (fault.Broken line clause) = IsBrokenText bytes line clause
IsTextFault bytes fault.NoMemory = Unit {0}

abbrev pub lock_word : Bool → Bytes
lock_word true = codes "locked"
lock_word false = codes "open"

-- `sound SEALS ACCEPTS WORD`
abbrev pub sound_line : Verdict → Bytes
sound_line v = codes "sound" ++ then (decimal v.seals) ++ then (decimal v.accepts) ++ then (lock_word v.locked) ++ 10
    ∷ []

-- how the writing of a line ends
abbrev pub IsTold : Status → Bytes → Option Bytes → Option Bytes → ℕ → ℕ → Type 0
IsTold status.Ok line before after old new = Appends before after line
IsTold status.WriteFault line before after old new = AppendsFront before after line × Rose old new
IsTold status.NoMemory line before after old new = Keeps before after
IsTold s line before after old new = ⊥

abbrev pub IsVerdictOn : Bytes → (Bytes → Type 0) → Type 0
IsVerdictOn input told = (length input ≤ longest_input) × ((v : Verdict) × IsSoundText input v × told (sound_line v))

-- A fault is told of inputs that aren't too long alone.
abbrev pub IsFaultIn : Bytes → Type 0 → Type 0
IsFaultIn input fault = (length input ≤ longest_input) × fault

-- What each status says of the bytes that the source had to come, where these are known, and of what was written.
abbrev pub Audits : Status → Option Bytes → Option Bytes → Option Bytes → ℕ → ℕ → Type 0
Audits status.Ok rest before after old new = IfSome rest (λ input. IsVerdictOn input (Appends before after))
Audits status.Usage rest before after old new = ⊥
Audits status.ReadFault rest before after old new = Keeps before after
Audits status.WriteFault rest before after old new =
    IfSome rest (λ input. IsVerdictOn input (AppendsFront before after)) × Rose old new
Audits (status.Refused line c) rest before after old new =
    IfSome rest (λ input. IsFaultIn input (IsFirstBad input line)) × (c ≡ cause.Syntax) × Keeps before after
Audits status.NoMemory rest before after old new = Keeps before after
Audits status.DiskFault rest before after old new = ⊥
Audits status.NoStore rest before after old new = ⊥
Audits (status.TooLong limit) rest before after old new = (limit ≡ longest_input)
    × IfSome rest (λ input. longest_input < length input) × Keeps before after
Audits (status.Broken line clause) rest before after old new =
    IfSome rest (λ input. IsFaultIn input (IsBrokenText input line clause)) × Keeps before after
Audits (status.BadStore at) rest before after old new = ⊥
Audits status.Worn rest before after old new = ⊥
