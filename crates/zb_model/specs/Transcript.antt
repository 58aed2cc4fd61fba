-- The transcript of a schedule: its start lines, the group of each event, and the end line.
use Rattle.std.specs.Prelude.{ℕ, ◌+◌, List, [], ◌∷◌, ◌++◌, length, fold}
use Rattle.zb_model.specs.Lines.{Line, Accept, Refuse, Seal, End}
use Rattle.zb_model.specs.Tools.{Tools}
use Rattle.zb_model.specs.Play.{Schedule, start, groups}
use Rattle.zb_model.specs.Secrets.{ideal, private}

abbrev pub seal_count : ℕ → Line → ℕ
seal_count n (Seal e node t) = n + 1
seal_count n _ = n

abbrev pub accept_count : ℕ → Line → ℕ
accept_count n (Accept e node t) = n + 1
accept_count n _ = n

abbrev pub refuse_count : ℕ → Line → ℕ
refuse_count n (Refuse e node place reason) = n + 1
refuse_count n _ = n

-- counts of the events and of three kinds of lines, and the two words
unfoldable pub end_line : Tools → ℕ → List Line → Line
end_line tools events lines =
    End events (fold seal_count 0 lines) (fold accept_count 0 lines) (fold refuse_count 0 lines) (ideal tools lines)
    (private tools lines)

-- the lines of all events
unfoldable pub run_lines : Tools → Schedule → List Line
run_lines tools w = start w ++ groups tools w (start w) [] 1 w.events

unfoldable pub transcript : Tools → Schedule → List Line
transcript tools w = run_lines tools w ++ end_line tools (length w.events) (run_lines tools w) ∷ []
