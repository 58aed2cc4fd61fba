-- The text of the lines of an event: all of them, or those without a key.
use Rattle.std.specs.Prelude.{ℕ, ◌≡◌, ◌++◌, filter, not, Bool, true, List}
use Rattle.zb_live.specs.declared.line.Log.{Log}
use Rattle.zb_live.specs.declared.line.Log.TheVariants.{All, NoKeys}
use Rattle.zb_model.specs.Answer.{Answer}
use Rattle.zb_model.specs.Data.{Bytes, Station}
use Rattle.zb_model.specs.Lines.{Line}
use Rattle.zb_model.specs.Play.{stored_lines, told_lines}
use Rattle.zb_trace_model.specs.AnswerLines.{has_key}
use Rattle.zb_trace_model.specs.Said.{text_of}

-- whether lines with a key, or those without one, are printed
abbrev pub is_written : Log → Bool → Bool
is_written All secret = true
is_written NoKeys secret = not secret

abbrev pub is_shown : Log → Line → Bool
is_shown log m = is_written log (has_key m)

-- the text of those lines that are shown, with the names of these nodes
unfoldable pub shown_text : Log → List Station → List Line → Bytes
shown_text log known lines = text_of known (filter (is_shown log) lines)

-- these lines were printed after what was on a page
abbrev pub Prints : Log → List Station → List Line → List ℕ → List ℕ → Type 0
Prints log known lines before after = after ≡ before ++ shown_text log known lines

-- The lines of an event with this answer: what was stored, and then what goes out. The event and the frame that is
-- sent have these numbers.
unfoldable pub event_lines : ℕ → ℕ → ℕ → Answer → List Line
event_lines event n frame a = stored_lines event n a ++ told_lines event n frame a
