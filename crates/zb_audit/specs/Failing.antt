-- The numbers of bad lines, from 1, in order.
use Rattle.std.specs.Prelude.{ℕ, ◌+◌, Bool, if◌then◌else◌, List, [], ◌∷◌, ◌++◌, length, Option, Some, None}
use Rattle.zb_trace.specs.declared.line.Line.{Line}

-- The numbers of the lines that fail a test. The test sees the line and those before it.
unfoldable pub failing_from : (List Line → Line → Bool) → List Line → List Line → List ℕ
failing_from test h [] = []
failing_from test h (l ∷ ls) = (if test h l then [] else (length h + 1) ∷ []) ++ failing_from test (h ++ l ∷ []) ls

unfoldable pub failing : (List Line → Line → Bool) → List Line → List ℕ
failing test lines = failing_from test [] lines

abbrev pub head : {A : Type 0} → List A → Option A
head [] = None
head (x ∷ xs) = Some x
