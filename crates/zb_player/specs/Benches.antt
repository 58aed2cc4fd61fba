-- What a bench is asked in a run, and the disks that it puts under the nodes.
use Rattle.std.specs.Prelude.{◌≡◌, ℕ, ◌+◌, ◌≤◌, if◌then◌else◌, nat_eq, List, [], ◌∷◌, ◌++◌, length, slice_set, Option, Some, None, ⊤}
use Rattle.zb_disk.specs.Memory.{Medium}
use Rattle.zb_model.specs.Data.{Station}
use Rattle.zb_player_events.specs.Acts.{seat_for}
use Rattle.zb_player_events.specs.Seats.{AreSeats}
use Rattle.zb_player_events.specs.declared.seats.Seat.{Seat}
use Rattle.zb_player_events.specs.declared.seats.Seats.{Seats}
use Rattle.zb_model.specs.Play.{stations}
use Rattle.law_schedules.specs.Schedules.{schedule_of}
use Rattle.zb_sched.specs.Schedules as sched
use Rattle.zb_sched_line.specs.Said.{Event}

-- the most nodes whose places a bench is asked about
abbrev pub most_seats : ℕ
most_seats = 256

-- ---- what it is asked

-- the number of an event, and the place of its node
pub record Question : Type 0 where
  pub event : ℕ
  pub place : ℕ

-- An event of a node is one question, and one of the outside none.
abbrev pub question_at : ℕ → Option Seat → List Question
question_at number None = []
question_at number (Some seat) = record { event = number; place = seat.place } ∷ []

-- those of events, of which the first has that number
unfoldable pub questions : List Station → ℕ → List Event → List Question
questions known number [] = []
questions known number (e ∷ es) = question_at number (seat_for known e) ++ questions known (number + 1) es

-- Where a bench tells what it was asked, these questions were added.
abbrev pub Asks : Option (List Question) → Option (List Question) → List Question → Type 0
Asks (Some old) (Some new') more = new' ≡ old ++ more
Asks None None more = ⊤
Asks _ _ more = ⊥

-- the same for each way to see at most `most_seats` nodes in these seats
abbrev pub AsksFor : Seats → ℕ → List Event → Option (List Question) → Option (List Question) → Type 0
AsksFor seats number events before after =
    (known : List Station) → AreSeats seats known → length known ≤ most_seats
    → Asks before after (questions known number events)

-- those of a schedule's run
abbrev pub AsksAll : sched.Schedule → Option (List Question) → Option (List Question) → Type 0
AsksAll p before after = Asks before after (questions (stations (schedule_of p)) 1 p.events)

-- ---- what it gives

-- the disks with another one at that place, if there is one
abbrev pub put_at : ℕ → List Medium → Option Medium → List Medium
put_at place disks None = disks
put_at place disks (Some m) = slice_set disks place m

abbrev pub under_at : (ℕ → ℕ → Option Medium) → ℕ → List Medium → Option Seat → List Medium
under_at gives number disks None = disks
under_at gives number disks (Some seat) = put_at seat.place disks (gives number seat.place)

-- the disk that is given before an event: none before one of the outside
abbrev pub given_at : (ℕ → ℕ → Option Medium) → ℕ → Option Seat → Option Medium
given_at gives number None = None
given_at gives number (Some seat) = gives number seat.place

abbrev pub given_for : (ℕ → ℕ → Option Medium) → List Station → ℕ → Event → Option Medium
given_for gives known number e = given_at gives number (seat_for known e)

-- Where a bench tells what it gave before each event, this is what it gave before the event of that number.
abbrev pub Gave : Option (ℕ → Option Medium) → Option (ℕ → Option Medium) → ℕ → Option Medium → Type 0
Gave (Some old) (Some new') number given = (k : ℕ) → new' k ≡ (if nat_eq k number then given else old k)
Gave None None number given = ⊤
Gave _ _ number given = ⊥

-- Before an event of the outside it isn't asked.
abbrev pub GaveAt : Option (ℕ → Option Medium) → Option (ℕ → Option Medium) → ℕ → (ℕ → ℕ → Option Medium)
    → Option Seat → Type 0
GaveAt old new' number gives None = new' ≡ old
GaveAt old new' number gives (Some seat) = Gave old new' number (gives number seat.place)

-- the same for each way to see at most `most_seats` nodes in these seats
abbrev pub GaveFor : Seats → ℕ → Event → (ℕ → ℕ → Option Medium) → Option (ℕ → Option Medium)
    → Option (ℕ → Option Medium) → Type 0
GaveFor seats number e gives before after =
    (known : List Station) → AreSeats seats known → length known ≤ most_seats
    → GaveAt before after number gives (seat_for known e)

-- The disks over which an event is answered: under its node is the one that the bench gives, if it gives one.
abbrev pub under : (ℕ → ℕ → Option Medium) → List Station → ℕ → Event → List Medium → List Medium
under gives known number e disks = under_at gives number disks (seat_for known e)
