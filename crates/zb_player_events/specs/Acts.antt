-- What the events of a schedule are to the nodes, in the model's words.
use Rattle.std.specs.Prelude.{◌≡◌, ℕ, List, Option, Some, None, is_some, true, ⊤}
use Rattle.zb_model.specs.Data as model
use Rattle.zb_model.specs.Data.{Bytes, Station}
use Rattle.zb_model.specs.Play as play
use Rattle.zb_player_node.specs.Events.{task_of}
use Rattle.zb_player_events.specs.Seats.{first_seat, has_name, is_the_centre}
use Rattle.zb_player_events.specs.declared.acts.Act.{Act}
use Rattle.zb_player_events.specs.declared.acts.Act.TheVariants.{Own, Roll, Deliver, Reset, Boot, Dump, Stop, Fail, Outside}
use Rattle.zb_player_events.specs.declared.seats.Seat.{Seat}
use Rattle.zb_sched_line.specs.Said as said
use Rattle.zb_sched_line.specs.Said.{Event}

-- what it is to the node of this EUI; none where it is of no node
abbrev pub act_for : ℕ → Act → Option play.Event
act_for n (Own what) = Some (play.Own n (task_of what))
act_for n Roll = Some (play.RollOver n)
act_for n (Deliver frame) = Some (play.Deliver frame n)
act_for n Reset = Some (play.Reset n)
act_for n Boot = Some (play.PowerOn n)
act_for n Dump = Some (play.ShowRecord n)
act_for n (Stop calls torn) = Some (play.ArmStop n calls torn.items)
act_for n (Fail call) = Some (play.ArmFail n call)
act_for n Outside = None

-- the node's own event is this task
abbrev pub IsOwn : Act → model.Task → Type 0
IsOwn act task = (n : ℕ) → act_for n act ≡ Some (play.Own n task)

-- a node of that name is declared
abbrev pub IsNamed : List Station → Bytes → Type 0
IsNamed known name = is_some (first_seat (has_name name) 0 known) ≡ true

abbrev pub seat_named : Bytes → List Station → Option Seat
seat_named name known = first_seat (has_name name) 0 known

-- The seat of an event's node; none where it is the outside's.
abbrev pub seat_for : List Station → Event → Option Seat
seat_for known (said.Says name to bytes) = seat_named name known
seat_for known (said.Delivers frame name) = seat_named name known
seat_for known (said.Ticks name) = seat_named name known
seat_for known (said.Knocks name) = seat_named name known
seat_for known (said.Rejoins name) = seat_named name known
seat_for known (said.Adopts parent name rejoin) = seat_named parent known
seat_for known (said.Asks name partner) = seat_named name known
seat_for known (said.Tells name partner bytes) = seat_named name known
seat_for known (said.Resets name) = seat_named name known
seat_for known (said.Boots name) = seat_named name known
seat_for known (said.Dumps name) = seat_named name known
seat_for known (said.Stops name calls torn) = seat_named name known
seat_for known (said.Fails name call) = seat_named name known
seat_for known (said.Provisions name code) = first_seat is_the_centre 0 known
seat_for known (said.Repeats name) = first_seat is_the_centre 0 known
seat_for known said.Rolls = first_seat is_the_centre 0 known
seat_for known said.Switches = first_seat is_the_centre 0 known
seat_for known (said.Removes name parent) = first_seat is_the_centre 0 known
seat_for known (said.Shares name partner) = first_seat is_the_centre 0 known
seat_for known (said.Injects bytes) = None
seat_for known (said.ForgesNet to from source key sequence counter content) = None
seat_for known (said.ForgesBoth to from source key sequence counter label base aps_counter command) = None
seat_for known (said.ForgesOpen to from source label base aps_counter command) = None

-- Other nodes that an event names are declared.
abbrev pub HasNames : List Station → Event → Type 0
HasNames known (said.Adopts parent name rejoin) = IsNamed known name
HasNames known (said.Asks name partner) = IsNamed known partner
HasNames known (said.Tells name partner bytes) = IsNamed known partner
HasNames known (said.Provisions name code) = IsNamed known name
HasNames known (said.Repeats name) = IsNamed known name
HasNames known (said.Removes name parent) = IsNamed known name × IsNamed known parent
HasNames known (said.Shares name partner) = IsNamed known name × IsNamed known partner
HasNames known _ = ⊤
