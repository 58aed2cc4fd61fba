-- Which lines an auditor represents.
use Rattle.std.specs.Prelude.{◌≡◌, ℕ, ◌+◌, true, ◌&&◌, List, [], ◌∷◌, ◌++◌, length}
use Rattle.zb_audit.specs.Standing.{AreConfirmed, AreNonces, AreTaken, Ends}
use Rattle.zb_audit.specs.declared.auditor.Auditor.{Auditor}
use Rattle.zb_audit_names.specs.Naming.{declared_in, names_in}
use Rattle.zb_audit_names.specs.Secrets.{ideal, private}
use Rattle.zb_audit_names.specs.Standing as directory
use Rattle.zb_audit_names.specs.Standing.{IsSpeaker}
use Rattle.zb_audit_names.specs.declared.node.Who.{Who}
use Rattle.zb_audit.specs.Words.{WordsStand}
use Rattle.zb_audit_lockout.specs.Standing as lockout
use Rattle.zb_audit_lockout.specs.declared.lockout.Lockout.{Lockout}
use Rattle.zb_trace_watch.specs.Standing.{FindKeys}
use Rattle.zb_model.specs.Data.{Bytes}
use Rattle.zb_model.specs.Tools.{Tools}
use Rattle.zb_audit_counters.specs.Recounting.{Recounts}
use Rattle.zb_trace.specs.declared.line.Line.{Line}

-- The parts that depend on the places of names in this list.
pub record StandAt (tools : Tools) (names : List Bytes) (a : Auditor) (h : List Line) : Type 0 where
  pub words : WordsStand tools names a.words h
  pub taking : AreTaken names a.taking h
  pub recount : Recounts names a.recount h
  -- Lockout is checked as long as both words hold.
  pub lockout : (ideal tools h && private tools h) ≡ true → lockout.Stands tools names a.lockout h

-- The names may be those of any longer list of lines.
pub record Stands (tools : Tools) (a : Auditor) (h : List Line) : Type 0 where
  pub number : a.number ≡ length h
  pub directory : directory.Stands a.directory (names_in h) (declared_in h)
  pub at : (later : List Line) → StandAt tools (names_in (h ++ later)) a h
  pub nonces : AreNonces a.nonces h
  pub confirming : AreConfirmed a.confirming h
  pub ending : Ends tools a.ending h

-- Lockout after one more line represents that line too.
abbrev pub LocksOn : Lockout → Lockout → ℕ → Line → Who → Type 0
LocksOn old new number l who =
    (tools : Tools) (names : List Bytes) (h : List Line) → FindKeys tools → number ≡ length h + 1
    → IsSpeaker who names (declared_in h) l
    → lockout.Stands tools names old h → lockout.Stands tools names new (h ++ l ∷ [])
