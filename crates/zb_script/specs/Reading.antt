-- A script, read line by line up to the first bad line.
use Rattle.std.specs.Prelude.{◌≡◌, ℕ, ◌+◌, List, [], ◌∷◌, if◌then◌else◌, Option, Some, None, Result, Ok, Err, ⊤}
use Rattle.std.specs.Str.Lines.{lines}
use Rattle.zb_base.specs.declared.fault.OrMemory.{OrMemory}
use Rattle.zb_base.specs.declared.fault.OrMemory.TheVariants.{Fault, NoMemory}
use Rattle.zb_script.specs.Grammar.{meaning_of}
use Rattle.zb_script.specs.Judge.{after_sentence, has_centre}
use Rattle.zb_script.specs.Said.{Sentence}
use Rattle.zb_script.specs.Scripts.{Script}
use Rattle.zb_script.specs.Views.{script_of}
use Rattle.zb_script.specs.declared.error.ScriptCause.{ScriptCause}
use Rattle.zb_script.specs.declared.error.ScriptCause.TheVariants.{Syntax, NoCentre}
use Rattle.zb_script.specs.declared.error.ScriptError.{ScriptError}
use Rattle.zb_script.specs.declared.script.Script.{Script as Read}

-- After what a line means; a line that means nothing is a fault of syntax.
abbrev pub after_meaning : ℕ → Script → Option Sentence → Result Script ScriptCause
after_meaning line s None = Err Syntax
after_meaning line s (Some sentence) = after_sentence line s sentence

abbrev pub after_line : ℕ → Script → List ℕ → Result Script ScriptCause
after_line number s line = after_meaning number s (meaning_of line)

-- Goes on after a line of that number, or stops at its cause.
abbrev pub numbered : ℕ → Result Script ScriptCause → (Script → Result Script ScriptError) → Result Script ScriptError
numbered number (Err cause) go_on = Err (record { line = number; cause = cause })
numbered number (Ok s) go_on = go_on s

-- The script of the lines from the one of that number on. Without a centre, the fault is after the last line.
abbrev pub reads : ℕ → Script → List (List ℕ) → Result Script ScriptError
reads number s [] = if has_centre s then Ok s else Err (record { line = number; cause = NoCentre })
reads number s (line ∷ more) = numbered number (after_line number s line) (λ next. reads (number + 1) next more)

-- Nothing yet.
abbrev pub start : Script
start = record { stations = []; out_block = 0; in_block = 0; steps = [] }

-- The script that a text is, or its first bad line and the first cause of that.
abbrev pub script_in : List ℕ → Result Script ScriptError
script_in text = reads 1 start (lines text)

-- A call answered what a line does, or lacked memory.
abbrev pub Steps : Result Unit (OrMemory ScriptCause) → Script → Result Script ScriptCause → Type 0
Steps (Ok done) after expected = expected ≡ Ok after
Steps (Err (Fault cause)) after expected = expected ≡ Err cause
Steps (Err NoMemory) after expected = ⊤

-- A call answered what a text is, or lacked memory.
abbrev pub ReadsScript : Result Read (OrMemory ScriptError) → Result Script ScriptError → Type 0
ReadsScript (Ok script) expected = expected ≡ Ok (script_of script)
ReadsScript (Err (Fault fault)) expected = expected ≡ Err fault
ReadsScript (Err NoMemory) expected = ⊤
