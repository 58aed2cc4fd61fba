-- What one line does to the part of a schedule that stands before it, or why it may not stand there. The causes are
-- tried in the order in which they stand here.
use Rattle.std.specs.Prelude.{ℕ, ◌==◌, ◌&&◌, ◌||◌, not, nat_le, List, [], ◌∷◌, ◌++◌, length, codes, bytes_eq, find, Bool, true, false, if◌then◌else◌, Option, Some, None, is_some, Result, Ok, Err}
use Rattle.std.specs.List.{list_any}
use Rattle.std.specs.Option.{option_map}
use Rattle.zb_base.specs.declared.label.Layer.{Layer}
use Rattle.zb_base.specs.declared.label.Layer.TheVariants.{Nwk, Aps}
use Rattle.zb_base.specs.declared.node.Role.{Role}
use Rattle.zb_base.specs.declared.node.Role.TheVariants.{Centre, Router, Device}
use Rattle.zb_install.specs.Code.{code_key}
use Rattle.zb_sched_line.specs.Said.{Bytes, Event, Says, Delivers, Ticks, Knocks, Rejoins, Adopts, Provisions, Repeats, Rolls, Switches, Removes, Resets, Boots, Dumps, Stops, Fails, Injects, ForgesNet, ForgesBoth, ForgesOpen, Asks, Shares, Tells, Sentence, Quiet, Introduces, Codes, Holds, Starts, Draws, Misprovisions, Happens}
use Rattle.zb_sched.specs.Schedules.{Node}
use Rattle.zb_sched.specs.declared.error.SchedCause.{SchedCause}
use Rattle.zb_sched.specs.declared.error.SchedCause.TheVariants.{Syntax, DuplicateNode, DuplicateCode, DrawRepeated, UnknownNode, BadCode, Block, TooMany}
use Rattle.zb_base.specs.Limits.{most_out_block, most_in_block, most_events, most_nodes}

-- A node so far, and whether its counters were declared (a declared 0 is as good as none, but stands once).
pub record Seat : Type 0 where
  pub node : Node
  pub nwk_declared : Bool
  pub aps_declared : Bool

-- A schedule so far.
pub record Seen : Type 0 where
  pub seats : List Seat
  pub draws : List Bytes
  pub events : List Event

-- ---- questions

abbrev pub has_name : Bytes → Seat → Bool
has_name name seat = bytes_eq seat.node.name name

-- The part of the node of that name.
abbrev pub role_named : Bytes → List Seat → Option Role
role_named name seats = option_map (λ seat. seat.node.role) (find (λ seat. has_name name seat) seats)

-- A declared router or device.
abbrev pub is_joiner : Option Role → Bool
is_joiner None = false
is_joiner (Some Centre) = false
is_joiner (Some Router) = true
is_joiner (Some Device) = true

-- A declared parent of joining nodes: the centre or a router.
abbrev pub is_parent : Option Role → Bool
is_parent None = false
is_parent (Some Centre) = true
is_parent (Some Router) = true
is_parent (Some Device) = false

-- The well-known link key (05-3474-21, 4.7): ASCII ZigBeeAlliance09.
abbrev pub well_known : Bytes
well_known = codes "ZigBeeAlliance09"

-- Whether an optional key is that key.
abbrev pub is_key : Bytes → Option Bytes → Bool
is_key key None = false
is_key key (Some other) = bytes_eq other key

-- The link key of a node's install code, and the network key that it holds.
abbrev pub link_of : Node → Option Bytes
link_of node = option_map code_key node.code

abbrev pub network_of : Node → Option Bytes
network_of node = option_map (λ held. held.0) node.network

abbrev pub is_link : Bytes → List Seat → Bool
is_link key seats = list_any (λ seat. is_key key (link_of seat.node)) seats

abbrev pub is_link_of_other : Bytes → Bytes → List Seat → Bool
is_link_of_other key name seats = list_any (λ seat. is_key key (link_of seat.node) && not (has_name name seat)) seats

abbrev pub is_network : Bytes → List Seat → Bool
is_network key seats = list_any (λ seat. is_key key (network_of seat.node)) seats

abbrev pub is_drawn : Bytes → List Bytes → Bool
is_drawn key draws = list_any (λ draw. bytes_eq draw key) draws

-- ---- changes

-- The node of that name, changed.
abbrev pub changed : Bytes → (Seat → Seat) → List Seat → List Seat
changed name change [] = []
changed name change (seat ∷ seats) = if has_name name seat then change seat ∷ seats
    else seat ∷ changed name change seats

abbrev pub coded : Bytes → Seat → Seat
coded code seat = record seat { node = record seat.node { code = Some code } }

abbrev pub holding : Bytes → ℕ → Seat → Seat
holding key sequence seat = record seat { node = record seat.node { network = Some (key, sequence) } }

abbrev pub starting : Layer → ℕ → Seat → Seat
starting Nwk limit seat =
    record { node = record seat.node { start_nwk = limit }; nwk_declared = true; aps_declared = seat.aps_declared }
starting Aps limit seat =
    record { node = record seat.node { start_aps = limit }; nwk_declared = seat.nwk_declared; aps_declared = true }

-- ---- declarations, of which none stands after an event

abbrev pub has_begun : Seen → Bool
has_begun seen = not (length seen.events == 0)

-- A name, an EUI or a short address is taken. A second centre has the first one's short address.
abbrev pub is_taken : Bytes → ℕ → ℕ → Seat → Bool
is_taken name eui short seat = has_name name seat || seat.node.eui == eui || seat.node.short == short

-- The ranges of the blocks of counters: 1 to 65,536 outgoing and 1 to 1,024 incoming ones.
abbrev pub are_blocks : ℕ → ℕ → Bool
are_blocks out_block in_block = nat_le 1 out_block && nat_le out_block most_out_block && nat_le 1 in_block
    && nat_le in_block most_in_block

abbrev pub new_seat : Bytes → Role → ℕ → ℕ → ℕ → ℕ → Seat
new_seat name role eui short out_block in_block = record {
  node = record {
    name = name;
    role = role;
    eui = eui;
    short = short;
    out_block = out_block;
    in_block = in_block;
    code = None;
    network = None;
    start_nwk = 0;
    start_aps = 0;
  };
  nwk_declared = false;
  aps_declared = false;
}

abbrev pub after_node : Seen → Bytes → Role → ℕ → ℕ → ℕ → ℕ → Result Seen SchedCause
after_node seen name role eui short out_block in_block =
    if has_begun seen then Err Syntax
    else if list_any (λ seat. is_taken name eui short seat) seen.seats then Err DuplicateNode
    else if not (are_blocks out_block in_block) then Err Block
    else if nat_le most_nodes (length seen.seats) then Err TooMany
    else Ok (record seen { seats = seen.seats ++ new_seat name role eui short out_block in_block ∷ [] })

abbrev pub has_code : Bytes → List Seat → Bool
has_code name seats = list_any (λ seat. has_name name seat && is_some seat.node.code) seats

-- A link key that no install code of that node may have beside what stands before.
abbrev pub clashes : Bytes → Bytes → Seen → Bool
clashes key name seen = is_link_of_other key name seen.seats || is_network key seen.seats || is_drawn key seen.draws
    || bytes_eq key well_known

abbrev pub after_code_bytes : Seen → Bytes → Option Bytes → Result Seen SchedCause
after_code_bytes seen name None = Err BadCode
after_code_bytes seen name (Some code) =
    if clashes (code_key code) name seen then Err DuplicateCode
    else if not (is_joiner (role_named name seen.seats)) then Err UnknownNode
    else Ok (record seen { seats = changed name (λ seat. coded code seat) seen.seats })

abbrev pub after_code : Seen → Bytes → Option Bytes → Result Seen SchedCause
after_code seen name code =
    if has_begun seen then Err Syntax
    else if has_code name seen.seats then Err DuplicateNode
    else after_code_bytes seen name code

abbrev pub has_network : Bytes → List Seat → Bool
has_network name seats = list_any (λ seat. has_name name seat && is_some seat.node.network) seats

abbrev pub after_netkey : Seen → Bytes → Bytes → ℕ → Result Seen SchedCause
after_netkey seen name key sequence =
    if has_begun seen then Err Syntax
    else if has_network name seen.seats then Err DuplicateNode
    else if is_link key seen.seats || is_drawn key seen.draws || bytes_eq key well_known then Err DrawRepeated
    else if not (is_some (role_named name seen.seats)) then Err UnknownNode
    else Ok (record seen { seats = changed name (λ seat. holding key sequence seat) seen.seats })

abbrev pub is_declared : Layer → Seat → Bool
is_declared Nwk seat = seat.nwk_declared
is_declared Aps seat = seat.aps_declared

abbrev pub has_counter : Bytes → Layer → List Seat → Bool
has_counter name layer seats = list_any (λ seat. has_name name seat && is_declared layer seat) seats

abbrev pub after_counter : Seen → Bytes → Layer → ℕ → Result Seen SchedCause
after_counter seen name layer limit =
    if has_begun seen then Err Syntax
    else if has_counter name layer seen.seats then Err DuplicateNode
    else if not (is_some (role_named name seen.seats)) then Err UnknownNode
    else Ok (record seen { seats = changed name (λ seat. starting layer limit seat) seen.seats })

abbrev pub after_draw : Seen → Bytes → Result Seen SchedCause
after_draw seen key =
    if has_begun seen then Err Syntax
    else if is_drawn key seen.draws || is_network key seen.seats || is_link key seen.seats || bytes_eq key well_known
    then Err DrawRepeated
    else Ok (record seen { draws = seen.draws ++ key ∷ [] })

-- ---- events

-- Two router or devices that differ.
abbrev pub are_partners : Bytes → Bytes → List Seat → Bool
are_partners name partner seats = not (bytes_eq name partner) && is_joiner (role_named name seats)
    && is_joiner (role_named partner seats)

-- A router or device, and a parent other than itself.
abbrev pub are_child_and_parent : Bytes → Bytes → List Seat → Bool
are_child_and_parent name parent seats = not (bytes_eq name parent) && is_joiner (role_named name seats)
    && is_parent (role_named parent seats)

-- Whether the nodes that an event names are declared and have a part that it allows.
abbrev pub has_its_nodes : Event → List Seat → Bool
has_its_nodes (Says name to bytes) seats = is_some (role_named name seats)
has_its_nodes (Delivers frame name) seats = is_some (role_named name seats)
has_its_nodes (Ticks name) seats = is_some (role_named name seats)
has_its_nodes (Knocks name) seats = is_joiner (role_named name seats)
has_its_nodes (Rejoins name) seats = is_joiner (role_named name seats)
has_its_nodes (Adopts parent name rejoin) seats = are_child_and_parent name parent seats
has_its_nodes (Provisions name code) seats = is_joiner (role_named name seats)
has_its_nodes (Repeats name) seats = is_joiner (role_named name seats)
has_its_nodes Rolls seats = true
has_its_nodes Switches seats = true
has_its_nodes (Removes name parent) seats = are_child_and_parent name parent seats
has_its_nodes (Resets name) seats = is_some (role_named name seats)
has_its_nodes (Boots name) seats = is_some (role_named name seats)
has_its_nodes (Dumps name) seats = is_some (role_named name seats)
has_its_nodes (Stops name calls torn) seats = is_some (role_named name seats)
has_its_nodes (Fails name call) seats = is_some (role_named name seats)
has_its_nodes (Injects bytes) seats = true
has_its_nodes (ForgesNet to from source key sequence counter content) seats = true
has_its_nodes (ForgesBoth to from source key sequence counter label base aps_counter command) seats = true
has_its_nodes (ForgesOpen to from source label base aps_counter command) seats = true
has_its_nodes (Asks name partner) seats = are_partners name partner seats
has_its_nodes (Shares name partner) seats = are_partners name partner seats
has_its_nodes (Tells name partner bytes) seats = are_partners name partner seats

-- The link key of a provision clashes.
abbrev pub provision_clashes : Event → Seen → Bool
provision_clashes (Provisions name code) seen = clashes (code_key code) name seen
provision_clashes _ seen = false

abbrev pub after_event : Seen → Event → Result Seen SchedCause
after_event seen event =
    if provision_clashes event seen then Err DuplicateCode
    else if not (has_its_nodes event seen.seats) then Err UnknownNode
    else if nat_le most_events (length seen.events) then Err TooMany
    else Ok (record seen { events = seen.events ++ event ∷ [] })

-- ---- lines

abbrev pub after_sentence : Seen → Sentence → Result Seen SchedCause
after_sentence seen Quiet = Ok seen
after_sentence seen (Introduces name role eui short out_block in_block) =
    after_node seen name role eui short out_block in_block
after_sentence seen (Codes name code) = after_code seen name code
after_sentence seen (Holds name key sequence) = after_netkey seen name key sequence
after_sentence seen (Starts name layer limit) = after_counter seen name layer limit
after_sentence seen (Draws key) = after_draw seen key
after_sentence seen (Misprovisions name) = Err BadCode
after_sentence seen (Happens event) = after_event seen event
