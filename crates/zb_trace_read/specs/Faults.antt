-- Where a text isn't a transcript.
use Rattle.std.specs.Prelude.{◌≡◌, ◌≢◌, ◌+◌, ℕ, List, [], ◌++◌, length}
use Rattle.zb_base.specs.declared.fault.OrMemory.{OrMemory}
use Rattle.zb_base.specs.declared.fault.OrMemory.TheVariants as error
use Rattle.zb_trace.specs.declared.line.Line.{Line}
use Rattle.zb_trace.specs.Text.{text, texts, IsProper, AllProper}
use Rattle.zb_trace_read.specs.declared.fault.TraceError.{TraceError}

-- The text begins with the lines before that number. What comes after them isn't empty, and doesn't begin with the
-- text of a line.
pub record IsFirstBad (bytes : List ℕ) (number : ℕ) : Type 0 where
  pub before : List Line
  pub rest : List ℕ
  pub proper : AllProper before
  pub parts : bytes ≡ texts before ++ rest
  pub place : number ≡ length before + 1
  pub some : rest ≢ []
  pub bad : (l : Line) (more : List ℕ) → IsProper l → rest ≡ text l ++ more → ⊥

abbrev pub IsTraceFault : List ℕ → OrMemory TraceError → Type 0
IsTraceFault bytes (error.Fault e) = IsFirstBad bytes e.line
IsTraceFault bytes error.NoMemory = Unit {0}

-- Memory ran out, and there is no other fault.
abbrev pub IsNoMemory : OrMemory TraceError → Type 0
IsNoMemory (error.Fault e) = ⊥
IsNoMemory error.NoMemory = Unit {0}
