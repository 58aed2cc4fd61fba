-- Where nodes stand in the order of their declarations.
use Rattle.std.specs.Prelude.{◌≡◌, ℕ, ◌+◌, Bool, if◌then◌else◌, bytes_eq, List, [], ◌∷◌, Option, Some, None}
use Rattle.std.specs.HashMap.{HashMap, get}
use Rattle.arrayvec.specs.ArrayString.{ArrayString}
use Rattle.zb_model.specs.Data.{Bytes, Station}
use Rattle.zb_model.specs.State.{is_centre}
use Rattle.zb_player_events.specs.declared.seats.Seat.{Seat}
use Rattle.zb_player_events.specs.declared.seats.Seats.{Seats}

abbrev pub same_name : ArrayString → ArrayString → Bool
same_name a b = bytes_eq a.bytes b.bytes

abbrev pub seat_in : {S : Type 0} → HashMap ArrayString Seat S → ArrayString → Option Seat
seat_in by_name name = get same_name by_name name

abbrev pub has_name : Bytes → Station → Bool
has_name name p = bytes_eq p.name name

abbrev pub is_the_centre : Station → Bool
is_the_centre p = is_centre p.role

-- The seat of the first node of which this holds; the nodes stand from that place on.
abbrev pub first_seat : (Station → Bool) → ℕ → List Station → Option Seat
first_seat test place [] = None
first_seat test place (p ∷ ps) =
    if test p then Some (record { place = place; eui = record { 0 = p.eui } }) else first_seat test (place + 1) ps

-- The seats of these nodes, by name, and that of the centre.
pub record AreSeats (seats : Seats) (known : List Station) : Type 0 where
  pub named : (name : ArrayString) → seat_in seats.by_name name ≡ first_seat (has_name name.bytes) 0 known
  pub centre : seats.centre ≡ first_seat is_the_centre 0 known
