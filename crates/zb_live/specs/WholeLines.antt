-- The whole lines of a text: those that have their line feed. What comes after the last one is no line yet.
use Rattle.std.specs.Prelude.{ℕ, ◌==◌, ◌++◌, if◌then◌else◌, List, [], ◌∷◌}
use Rattle.std.specs.Str.Lines.{strip_carriage_return}

-- those of the rest of a text, of whose first line this much was read
abbrev pub whole_from : List ℕ → List ℕ → List (List ℕ)
whole_from line [] = []
whole_from line (byte ∷ bytes) =
    if byte == 10 then strip_carriage_return line ∷ whole_from [] bytes
    else whole_from (line ++ byte ∷ []) bytes

-- A line has neither its line feed nor a carriage return before it.
unfoldable pub whole_lines : List ℕ → List (List ℕ)
whole_lines text = whole_from [] text

-- a line has at most 1,048,576 bytes before its line feed
abbrev pub longest_line : ℕ
longest_line = 1048576
