-- What the program's unfinished schedule represents.
use Rattle.std.specs.Prelude.{◌≡◌, ℕ, List, map, Bool, true, false, Option, None, find, Result, Ok, Err, ⊤}
use Rattle.std.specs.Option.{option_map}
use Rattle.zb_base.specs.declared.fault.OrMemory.{OrMemory}
use Rattle.zb_base.specs.declared.fault.OrMemory.TheVariants.{Fault, NoMemory}
use Rattle.zb_base.specs.declared.node.Role.{Role}
use Rattle.zb_sched_line.specs.Places.{own_event_of}
use Rattle.zb_sched_line.specs.Said.{Bytes}
use Rattle.zb_sched_line.specs.Views.{event_of}
use Rattle.zb_sched_line.specs.declared.event.Event.{Event}
use Rattle.zb_sched.specs.Judge.{Seat, Seen, has_name, is_key, link_of}
use Rattle.zb_sched.specs.Reading.{after_line}
use Rattle.zb_sched.specs.Schedules.{node_of}
use Rattle.zb_sched.specs.Valid.{Pairwise}
use Rattle.zb_sched.specs.declared.entry.Entry.{Entry}
use Rattle.zb_sched.specs.declared.error.SchedCause.{SchedCause}

abbrev pub seat_of : Entry → Seat
seat_of entry =
    record { node = node_of entry.node; nwk_declared = entry.nwk_declared; aps_declared = entry.aps_declared }

-- The schedule so far, from its entries, the keys of its supply and its events.
abbrev pub seen_so_far : List Entry → List Bytes → List Event → Seen
seen_so_far entries draws events = record { seats = map seat_of entries; draws = draws; events = map event_of events }

-- The link key beside a node is that of its install code.
abbrev pub IsLinked : Entry → Type 0
IsLinked entry = option_map (λ key. key.0) entry.link ≡ link_of (node_of entry.node)

-- Whether that key is the link key beside a node.
abbrev pub is_linked : Bytes → Entry → Bool
is_linked key entry = is_key key (option_map (λ link. link.0) entry.link)

-- No two nodes have one name.
abbrev pub AreNamedApart : List Seat → Type 0
AreNamedApart seats = Pairwise (λ a b. a ≡ b → ⊥) (map (λ seat. seat.node.name) seats)

-- The part of the node of a name.
abbrev pub role_among : Bytes → List Entry → Option Role
role_among name entries = option_map (λ entry. entry.node.peer.role)
    (find (λ entry. has_name name (seat_of entry)) entries)

-- A call took a line where it is an event of one node, answered why that may not stand there, or lacked memory. Where
-- it answered false, the line is no such event, and nothing was taken.
abbrev pub TakesOwn : Result Bool (OrMemory SchedCause) → Seen → Seen → List ℕ → Type 0
TakesOwn (Ok true) before after line = after_line before line ≡ Ok after
TakesOwn (Ok false) before after line = (own_event_of line ≡ None) × (after ≡ before)
TakesOwn (Err (Fault cause)) before after line = after_line before line ≡ Err cause
TakesOwn (Err NoMemory) before after line = ⊤
