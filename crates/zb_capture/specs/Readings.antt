-- Captures whose text comes in parts.
use Rattle.std.specs.Prelude.{◌≡◌, ℕ, ◌+◌, ◌≤◌, List, length, Result, Ok, Err}
use Rattle.std.specs.Str.Lines.{lines}
use Rattle.zb_base.specs.declared.fault.OrMemory.{OrMemory}
use Rattle.zb_base.specs.declared.fault.OrMemory.TheVariants as error
use Rattle.zb_capture.specs.declared.capture.Capture.{Capture}
use Rattle.zb_capture.specs.declared.fault.CaptureError.{CaptureError}
use Rattle.zb_capture.specs.Grammar.{empty, with_lines}

-- How many lines were read, and what they give.
pub record Reading : Type 0 where
  pub lines : ℕ
  pub capture : Capture

abbrev pub no_lines : Reading
no_lines = record { lines = 0; capture = empty }

-- What further lines give after those that were read.
abbrev pub with_more : Reading → List (List ℕ) → Result Capture CaptureError
with_more r more = with_lines (r.lines + 1) r.capture more

-- Further lines lead from one reading to another.
pub record Lead (old : Reading) (more : List (List ℕ)) (new : Reading) : Type 0 where
  pub gives : with_more old more ≡ Ok new.capture
  pub count : new.lines ≡ old.lines + length more

-- A text was read after the lines before it, or has a fault. If memory runs out, this says nothing.
abbrev pub AreRead : Result (Unit {0}) (OrMemory CaptureError) → Reading → Reading → List ℕ → Type 0
AreRead (Ok done) old new text = Lead old (lines text) new
AreRead (Err (error.Fault fault)) old new text = with_more old (lines text) ≡ Err fault
AreRead (Err error.NoMemory) old new text = Unit {0}

-- What the lines of a text give by themselves.
pub record IsAlone (text : List ℕ) (reading : Reading) : Type 0 where
  pub lead : Lead no_lines (lines text) reading
  pub count : reading.lines ≤ length text

-- A text was read by itself, or has a fault. If memory runs out, this says nothing.
abbrev pub IsReadAlone : Result Reading (OrMemory CaptureError) → List ℕ → Type 0
IsReadAlone (Ok reading) text = IsAlone text reading
IsReadAlone (Err (error.Fault fault)) text = with_more no_lines (lines text) ≡ Err fault
IsReadAlone (Err error.NoMemory) text = Unit {0}
