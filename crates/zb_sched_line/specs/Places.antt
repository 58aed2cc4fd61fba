-- Events that are read into a place.
use Rattle.std.specs.Prelude.{List, ℕ, Option, Some, None, if◌then◌else◌}
use Rattle.std.specs.Option.{option_map}
use Rattle.zb_text.specs.Words.{words, first_of}
use Rattle.zb_sched_line.specs.Grammar.{◌>>=◌, is_quiet, own_event}
use Rattle.zb_sched_line.specs.Said.{Event}

-- What was read into a place, where something was.
abbrev pub read_into : {X : Type 0} → Option Unit → X → Option X
read_into result place = option_map (λ _. place) result

-- The event of one node that a line is.
abbrev pub own_event_of : List ℕ → Option Event
own_event_of line =
    if is_quiet line then None
    else do
      first ← first_of (words (Some line))
      own_event first.0 first.1
