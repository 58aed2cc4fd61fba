-- What `audit` may say of a text: one thing alone.
use Rattle.std.specs.Prelude.{◌≡◌, ℕ}
use Rattle.zb_audit.specs.declared.fault.Verdict.{Verdict}
use Rattle.zb_model.specs.Data.{Bytes}
use Rattle.zb_trace_read.specs.Faults.{IsFirstBad}
use Rattle.zb_command.specs.Auditing.{IsBrokenText, IsSoundText}

-- No two of these hold of one text, and none holds in two ways:
-- - it is that of a sound transcript, with a verdict
-- - it is broken at a line, by a claim
-- - a line of it is the first that is no line of a transcript
pub record HasOneAnswer (text : Bytes) : Type 0 where
  pub verdict : (v w : Verdict) → IsSoundText text v → IsSoundText text w → v ≡ w
  pub fault : (line clause other claim : ℕ) → IsBrokenText text line clause → IsBrokenText text other claim
      → (line ≡ other) × (clause ≡ claim)
  pub bad : (line other : ℕ) → IsFirstBad text line → IsFirstBad text other → line ≡ other
  pub sound_or_broken : (v : Verdict) (line clause : ℕ) → IsSoundText text v → IsBrokenText text line clause → ⊥
  pub sound_or_bad : (v : Verdict) (line : ℕ) → IsSoundText text v → IsFirstBad text line → ⊥
  pub broken_or_bad : (line clause other : ℕ) → IsBrokenText text line clause → IsFirstBad text other → ⊥
