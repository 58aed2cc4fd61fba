-- The sixth claim: the last line is an end line that sums up the others, and no other line is an end line.
use Rattle.std.specs.Prelude.{ℕ, ◌+◌, max, Bool, true, false, not, ◌&&◌, if◌then◌else◌, List, [], ◌∷◌, ◌++◌, length, fold, nat_eq, nat_le, Option, Some, None}
use Rattle.zb_audit.specs.Failing.{failing}
use Rattle.zb_audit_names.specs.Groups.{event_of}
use Rattle.zb_audit_names.specs.Secrets.{ideal, private}
use Rattle.zb_model.specs.Tools.{Tools}
use Rattle.zb_trace.specs.declared.line.Line.{Line}
use Rattle.zb_trace.specs.declared.line.Line.TheVariants as line

-- How many seal, accept and refuse lines there are, and the greatest number of an event.
abbrev pub seal_count : ℕ → Line → ℕ
seal_count n (line.Seal event node t) = n + 1
seal_count n _ = n

unfoldable pub seals_in : List Line → ℕ
seals_in h = fold seal_count 0 h

abbrev pub accept_count : ℕ → Line → ℕ
accept_count n (line.Accept event node t) = n + 1
accept_count n _ = n

unfoldable pub accepts_in : List Line → ℕ
accepts_in h = fold accept_count 0 h

abbrev pub refuse_count : ℕ → Line → ℕ
refuse_count n (line.Refuse event node r) = n + 1
refuse_count n _ = n

unfoldable pub refusals_in : List Line → ℕ
refusals_in h = fold refuse_count 0 h

abbrev pub greater_event : ℕ → Option ℕ → ℕ
greater_event n None = n
greater_event n (Some event) = max n event

unfoldable pub greatest_event : List Line → ℕ
greatest_event h = fold (λ n l. greater_event n (event_of l)) 0 h

abbrev pub agree : Bool → Bool → Bool
agree true b = b
agree false b = not b

-- Whether a line is an end line that sums up the lines before it.
unfoldable pub sums_up : Tools → List Line → Line → Bool
sums_up tools h (line.End events seals accepts refusals is_ideal is_private) =
    (nat_le (greatest_event h) events
    && (nat_eq (seals_in h) seals && (nat_eq (accepts_in h) accepts && nat_eq (refusals_in h) refusals)))
    && (agree (ideal tools h) is_ideal && agree (private tools h) is_private)
sums_up tools h _ = false

-- Whether a line isn't an end line.
abbrev pub is_no_end : List Line → Line → Bool
is_no_end h (line.End events seals accepts refusals is_ideal is_private) = false
is_no_end h _ = true

-- All lines but the last one.
abbrev pub front : List Line → List Line
front [] = []
front (l ∷ []) = []
front (l ∷ m ∷ ls) = l ∷ front (m ∷ ls)

-- Whether the last line is an end line that sums up.
unfoldable pub ends_from : Tools → List Line → List Line → Bool
ends_from tools h [] = false
ends_from tools h (l ∷ []) = sums_up tools h l
ends_from tools h (l ∷ m ∷ ls) = ends_from tools (h ++ l ∷ []) (m ∷ ls)

unfoldable pub ends_well : Tools → List Line → Bool
ends_well tools lines = ends_from tools [] lines

-- The numbers of the lines that break the sixth claim: each end line before the last line, and the last line if it
-- isn't an end line that sums up. If there is no line, 1.
unfoldable pub ill_ended : Tools → List Line → List ℕ
ill_ended tools lines = failing is_no_end (front lines)
    ++ (if ends_well tools lines then [] else max (length lines) 1 ∷ [])
