-- The state of one node: what it keeps over a reset, and also the next counters and the floors in memory. This file
-- has everything that a line of a transcript does to it. Each change is safe by itself: limits and floors never fall,
-- and a key that has a row gets no second one. If a change fits the state (`Fits`), it does exactly what it says.
use Rattle.std.specs.Prelude.{ℕ, ◌+◌, min, max, Bool, true, false, not, if◌then◌else◌, ◌&&◌, ◌||◌, List, [], ◌∷◌, ◌++◌, map, filter, find, reverse, Option, Some, None, nat_eq, nat_lt, bytes_eq}
use Rattle.std.specs.List.{list_any}
use Rattle.zb_model.specs.Data.{Bytes, Role, Centre, Router, Device, Layer, Nwk, Aps, Label, ForData, ForNetwork, ForTransport, ForLoad, State, Fresh, Knocked, Joined, Gone, Attribute, Provisional, Unverified, Verified, Term, Move, Draw, DropNet, DropLink, Install, Active, Row, Pair, Became, Live, Removed, Roll, Told, Untold, Edit, Reserve, Floor, Start, Moved}

-- The greatest counter. A frame with it is never sealed nor accepted.
abbrev pub greatest_counter : ℕ
greatest_counter = 4294967295

-- What a row keeps of one sender: its frames below `kept` are stale; `stored` is what a reset leaves of it.
pub record SenderFloor : Type 0 where
  pub sender : ℕ
  pub kept : ℕ
  pub stored : ℕ

-- A network key. It is started if it was ever active. Its outgoing NWK counter continues from `next`, and is stored up
-- to `limit`. Its floors are of the senders heard under it, by ascending EUI. A dropped row keeps its floors here, but
-- nothing reads them.
pub record NetKey : Type 0 where
  pub key : Bytes
  pub sequence : ℕ
  pub live : Bool
  pub started : Bool
  pub limit : ℕ
  pub next : ℕ
  pub floors : List SenderFloor

-- A link key shared with a partner. `code`: it is from an install code. `told`: at the centre, the partner was sent
-- the new network key. Its floor stays when it is dropped, because the key may be used again.
pub record LinkKey : Type 0 where
  pub partner : ℕ
  pub key : Bytes
  pub attribute : Attribute
  pub live : Bool
  pub code : Bool
  pub told : Bool
  pub kept : ℕ
  pub stored : ℕ

-- At the centre: the key that it gave two devices for use with each other. `first` is the smaller EUI.
pub record PairKey : Type 0 where
  pub first : ℕ
  pub second : ℕ
  pub key : Bytes

-- `declared` is the NWK counter from which the first active network key starts. `active` is the key of the active
-- row. Rows are only added, revived or dropped, and keep their order.
pub record NodeState : Type 0 where
  pub role : Role
  pub state : State
  pub declared : ℕ
  pub aps_limit : ℕ
  pub aps_next : ℕ
  pub sending : Bool
  pub nets : List NetKey
  pub active : Option Bytes
  pub links : List LinkKey
  pub pairs : List PairKey

-- A node before its first line.
abbrev pub new_node : Role → NodeState
new_node role =
    record {
      role = role;
      state = Fresh;
      declared = 0;
      aps_limit = 0;
      aps_next = 0;
      sending = false;
      nets = [];
      active = None;
      links = [];
      pairs = [];
    }

-- Tests

abbrev pub same_key : Bytes → Bytes → Bool
same_key a b = bytes_eq a b

-- whether a key is that of the active row
abbrev pub is_active_key : Option Bytes → Bytes → Bool
is_active_key None key = false
is_active_key (Some active) key = same_key active key

abbrev pub same_layer : Layer → Layer → Bool
same_layer Nwk Nwk = true
same_layer Aps Aps = true
same_layer _ _ = false

abbrev pub same_label : Label → Label → Bool
same_label ForData ForData = true
same_label ForNetwork ForNetwork = true
same_label ForTransport ForTransport = true
same_label ForLoad ForLoad = true
same_label _ _ = false

abbrev pub is_centre : Role → Bool
is_centre Centre = true
is_centre Router = false
is_centre Device = false

abbrev pub is_provisional : Attribute → Bool
is_provisional Provisional = true
is_provisional Unverified = false
is_provisional Verified = false

abbrev pub is_unverified : Attribute → Bool
is_unverified Provisional = false
is_unverified Unverified = true
is_unverified Verified = false

abbrev pub is_verified : Attribute → Bool
is_verified Provisional = false
is_verified Unverified = false
is_verified Verified = true

abbrev pub has_net : Bytes → List NetKey → Bool
has_net key nets = list_any (λ (r : NetKey). same_key r.key key) nets

abbrev pub is_link : ℕ → Bytes → LinkKey → Bool
is_link partner key r = nat_eq r.partner partner && same_key r.key key

abbrev pub has_link : ℕ → Bytes → List LinkKey → Bool
has_link partner key links = list_any (is_link partner key) links

abbrev pub is_live_of : ℕ → LinkKey → Bool
is_live_of partner r = r.live && nat_eq r.partner partner

abbrev pub names_two : ℕ → ℕ → PairKey → Bool
names_two a b p = nat_eq p.first (min a b) && nat_eq p.second (max a b)

abbrev pub names : ℕ → PairKey → Bool
names d p = nat_eq p.first d || nat_eq p.second d

-- The questions that rules ask of the rows

-- the network row of that key
abbrev pub net_of : Bytes → NodeState → Option NetKey
net_of key s = find (λ (r : NetKey). same_key r.key key) s.nets

abbrev pub net_of_active : Option Bytes → NodeState → Option NetKey
net_of_active None s = None
net_of_active (Some key) s = net_of key s

unfoldable pub active_row : NodeState → Option NetKey
active_row s = net_of_active s.active s

-- The network rows that a node may use: its live ones, but none if a router or device has left, or knocks and so waits
-- for the network key.
abbrev pub may_use : NodeState → Bool
may_use s = state_may_use s.state
  where
    state_may_use : State → Bool
    state_may_use Fresh = is_centre s.role
    state_may_use Knocked = is_centre s.role
    state_may_use Gone = is_centre s.role
    state_may_use _ = true

abbrev pub live_nets : NodeState → List NetKey
live_nets s = filter (λ (r : NetKey). r.live) s.nets

unfoldable pub usable_nets : NodeState → List NetKey
usable_nets s = if may_use s then live_nets s else []

-- the active row, if it may be used
unfoldable pub usable_active : NodeState → Option NetKey
usable_active s = if may_use s then active_row s else None

abbrev pub last_where : {X : Type 0} → (X → Bool) → List X → Option X
last_where test xs = find test (reverse xs)

-- the live network row of the greatest place
unfoldable pub newest : NodeState → Option NetKey
newest s = last_where (λ (r : NetKey). r.live) s.nets

-- the newest usable, and the newest live, network row of that sequence
unfoldable pub usable_of : NodeState → ℕ → Option NetKey
usable_of s sequence = last_where (λ (r : NetKey). nat_eq r.sequence sequence) (usable_nets s)

unfoldable pub live_of : NodeState → ℕ → Option NetKey
live_of s sequence = last_where (λ (r : NetKey). r.live && nat_eq r.sequence sequence) s.nets

-- The current link row of a partner: its live row that isn't unverified. The offered one: its live unverified row.
unfoldable pub current : NodeState → ℕ → Option LinkKey
current s partner = find (λ (r : LinkKey). is_live_of partner r && not (is_unverified r.attribute)) s.links

unfoldable pub offered : NodeState → ℕ → Option LinkKey
offered s partner = find (λ (r : LinkKey). is_live_of partner r && is_unverified r.attribute) s.links

-- A device is live at the centre if the centre has a live row for it.
unfoldable pub is_live : NodeState → ℕ → Bool
is_live s partner = list_any (is_live_of partner) s.links

unfoldable pub is_known : NodeState → ℕ → Bool
is_known s partner = list_any (λ (r : LinkKey). nat_eq r.partner partner) s.links

unfoldable pub is_told : NodeState → ℕ → Bool
is_told s partner = list_any (λ (r : LinkKey). is_live_of partner r && r.told) s.links

-- the row of the node's own install code: the first one of the centre that comes from a code
unfoldable pub code_row : NodeState → ℕ → Option LinkKey
code_row s centre = find (λ (r : LinkKey). nat_eq r.partner centre && r.code) s.links

-- another partner's row, live or dropped, with that key
unfoldable pub other_user : NodeState → ℕ → Bytes → Option LinkKey
other_user s partner key = find (λ (r : LinkKey). same_key r.key key && not (nat_eq r.partner partner)) s.links

unfoldable pub pair_of : NodeState → ℕ → ℕ → Option PairKey
pair_of s a b = find (names_two a b) s.pairs

-- the outgoing NWK counter: that of the active row, or the declared start while no row is active
abbrev pub next_of : ℕ → Option NetKey → ℕ
next_of declared None = declared
next_of declared (Some r) = r.next

abbrev pub limit_of : ℕ → Option NetKey → ℕ
limit_of declared None = declared
limit_of declared (Some r) = r.limit

unfoldable pub next_counter : Layer → NodeState → ℕ
next_counter Nwk s = next_of s.declared (active_row s)
next_counter Aps s = s.aps_next

unfoldable pub stored_limit : Layer → NodeState → ℕ
stored_limit Nwk s = limit_of s.declared (active_row s)
stored_limit Aps s = s.aps_limit

-- the floor of a sender: 0 and 0 if none was stored
abbrev pub floor_of_sender : ℕ → Option SenderFloor → SenderFloor
floor_of_sender sender None = record { sender = sender; kept = 0; stored = 0 }
floor_of_sender sender (Some f) = f

unfoldable pub sender_floor : ℕ → NetKey → SenderFloor
sender_floor sender r = floor_of_sender sender (find (λ (f : SenderFloor). nat_eq f.sender sender) r.floors)

-- What changes do

abbrev pub at_net : Bytes → (NetKey → NetKey) → List NetKey → List NetKey
at_net key f nets = map (λ (r : NetKey). if same_key r.key key then f r else r) nets

abbrev pub at_link : ℕ → Bytes → (LinkKey → LinkKey) → List LinkKey → List LinkKey
at_link partner key f links = map (λ (r : LinkKey). if is_link partner key r then f r else r) links

abbrev pub of_active : (NetKey → NetKey) → Option Bytes → List NetKey → List NetKey
of_active f None nets = nets
of_active f (Some key) nets = at_net key f nets

abbrev pub new_net : Bytes → ℕ → NetKey
new_net key sequence =
    record { key = key; sequence = sequence; live = true; started = false; limit = 0; next = 0; floors = [] }

-- A limit is never lowered, nor is it more than the greatest counter; a row that reserves counts as started.
abbrev pub reserved : ℕ → NetKey → NetKey
reserved limit r = record r { started = true; limit = max r.limit (min limit greatest_counter) }

-- The first counter of a key that becomes active.
abbrev pub started_at : ℕ → NetKey → NetKey
started_at value r =
    record r {
      started = true;
      limit = max r.limit (min value greatest_counter);
      next = max r.next (min value greatest_counter);
    }

abbrev pub dropped_net : NetKey → NetKey
dropped_net r = record r { live = false }

abbrev pub dropped_link : LinkKey → LinkKey
dropped_link r = record r { live = false; told = false }

-- A floor is stored: the senders are in the order of their EUIs.
abbrev pub floor_stored : ℕ → ℕ → List SenderFloor → List SenderFloor
floor_stored sender value [] = record { sender = sender; kept = 0; stored = value } ∷ []
floor_stored sender value (f ∷ fs) =
    if nat_lt sender f.sender then record { sender = sender; kept = 0; stored = value } ∷ f ∷ fs
    else (if nat_eq sender f.sender then record f { stored = max f.stored value } ∷ fs
    else f ∷ floor_stored sender value fs)

abbrev pub net_floor : ℕ → ℕ → NetKey → NetKey
net_floor sender value r = record r { floors = floor_stored sender value r.floors }

abbrev pub link_floor : ℕ → LinkKey → LinkKey
link_floor value r = record r { stored = max r.stored value }

abbrev pub told_as : Bool → LinkKey → LinkKey
told_as told r = record r { told = told }

-- A link key is new, revived or gets another attribute. Whether its partner was told stays as it is.
abbrev pub revived : Attribute → Bool → LinkKey → LinkKey
revived attribute told r =
    record r { attribute = attribute; live = true; code = r.code || is_provisional attribute; told = told }

abbrev pub new_link : ℕ → Bytes → Attribute → Bool → LinkKey
new_link partner key attribute told =
    record {
      partner = partner;
      key = key;
      attribute = attribute;
      live = true;
      code = is_provisional attribute;
      told = told;
      kept = 0;
      stored = 0;
    }

abbrev pub with_link : ℕ → Bytes → Attribute → Bool → List LinkKey → List LinkKey
with_link partner key attribute told links =
    if has_link partner key links then at_link partner key (revived attribute told) links
    else links ++ new_link partner key attribute told ∷ []

abbrev pub with_told : ℕ → Bool → List LinkKey → List LinkKey
with_told partner told links = map (λ (r : LinkKey). if is_live_of partner r then told_as told r else r) links

abbrev pub with_pair : ℕ → ℕ → Bytes → List PairKey → List PairKey
with_pair first second key pairs =
    if list_any (names_two first second) pairs then pairs
    else pairs ++ record { first = first; second = second; key = key } ∷ []

abbrev pub moved : Move → NodeState → NodeState
moved (Draw key) s = s
moved (DropNet key) s = record s { nets = at_net key dropped_net s.nets }
moved (DropLink partner key) s = record s { links = at_link partner key dropped_link s.links }
moved (Install key sequence) s = record s {
  nets = if has_net key s.nets then s.nets
      else s.nets ++ new_net key sequence ∷ [];
}
moved (Active key) s = record s { active = Some key }
moved (Row partner key attribute) s = record s { links = with_link partner key attribute (is_told s partner) s.links }
moved (Pair first second key) s = record s { pairs = with_pair first second key s.pairs }
moved (Became state) s = record s { state = state }
moved (Live device) s = record s { links = with_told device false s.links }
moved (Removed device) s = record s { pairs = filter (λ (p : PairKey). not (names device p)) s.pairs }
moved (Roll sending) s = record s {
  sending = sending;
  links = if sending then map (told_as false) s.links
      else s.links;
}
moved (Told device) s = record s { links = with_told device true s.links }
moved (Untold device) s = record s { links = with_told device false s.links }

unfoldable pub applied : Edit → NodeState → NodeState
applied (Reserve Nwk limit) s = record s { nets = of_active (reserved limit) s.active s.nets }
applied (Reserve Aps limit) s = record s { aps_limit = max s.aps_limit (min limit greatest_counter) }
applied (Floor Nwk key sender value) s = record s { nets = at_net key (net_floor sender value) s.nets }
applied (Floor Aps key sender value) s = record s { links = at_link sender key (link_floor value) s.links }
applied (Start key value) s = record s { nets = at_net key (started_at value) s.nets }
applied (Moved move) s = moved move s

-- several changes, in their order
unfoldable pub applied_all : List Edit → NodeState → NodeState
applied_all [] s = s
applied_all (e ∷ es) s = applied_all es (applied e s)

-- What seals, accepted frames and a boot do

abbrev pub next_at : ℕ → NetKey → NetKey
next_at next r = record r { next = next }

-- a term was sealed: the counter continues from it
abbrev pub sealed_at : Layer → Term → NodeState → NodeState
sealed_at Nwk t s = record s { nets = at_net t.base (next_at (t.counter + 1)) s.nets }
sealed_at Aps t s = record s { aps_next = t.counter + 1 }

unfoldable pub after_sealing : Term → NodeState → NodeState
after_sealing t s = sealed_at t.layer t s

-- the next counter of the layer is used
unfoldable pub after_counting : Layer → NodeState → NodeState
after_counting Nwk s = record s { nets = of_active (λ r. next_at (r.next + 1) r) s.active s.nets }
after_counting Aps s = record s { aps_next = s.aps_next + 1 }

abbrev pub floor_kept : ℕ → ℕ → List SenderFloor → List SenderFloor
floor_kept sender kept floors = map (λ (f : SenderFloor). if nat_eq f.sender sender then record f { kept = kept }
    else f) floors

abbrev pub net_kept : ℕ → ℕ → NetKey → NetKey
net_kept sender kept r = record r { floors = floor_kept sender kept r.floors }

abbrev pub link_kept : ℕ → LinkKey → LinkKey
link_kept kept r = record r { kept = kept }

-- a sender's counter was accepted under a key of the layer
unfoldable pub after_hearing : Layer → Bytes → ℕ → ℕ → NodeState → NodeState
after_hearing Nwk key sender counter s = record s { nets = at_net key (net_kept sender (counter + 1)) s.nets }
after_hearing Aps key sender counter s = record s { links = at_link sender key (link_kept (counter + 1)) s.links }

unfoldable pub after_accepting : Term → NodeState → NodeState
after_accepting t s = after_hearing t.layer t.base t.source t.counter s

-- After a boot the counters continue from their limits, and the floors are those that were stored.
abbrev pub booted_floor : SenderFloor → SenderFloor
booted_floor f = record f { kept = f.stored }

abbrev pub booted_net : NetKey → NetKey
booted_net r = record r { next = r.limit; floors = map booted_floor r.floors }

abbrev pub booted_link : LinkKey → LinkKey
booted_link r = record r { kept = r.stored }

unfoldable pub after_boot : NodeState → NodeState
after_boot s = record s { aps_next = s.aps_limit; nets = map booted_net s.nets; links = map booted_link s.links }

-- What a node's tables show of its state: they leave out the floors of a dropped network key, which nothing reads.
abbrev pub shown_net : NetKey → NetKey
shown_net r = record r { floors = if r.live then r.floors else [] }

unfoldable pub shown : NodeState → NodeState
shown s = record s { nets = map shown_net s.nets }

-- The start: what a node holds before the first event

abbrev pub given_net : ℕ → Bytes → ℕ → NetKey
given_net declared key sequence = record (new_net key sequence) { started = true; limit = declared; next = declared }

-- a network key held from the start is active, and a router or device that has one is joined
unfoldable pub with_given_net : Bytes → ℕ → NodeState → NodeState
with_given_net key sequence s = record s {
  nets = if has_net key s.nets then s.nets else s.nets ++ given_net s.declared key sequence ∷ [];
  active = Some key;
  state = if is_centre s.role then Fresh else Joined;
}

-- the link key of an install code
unfoldable pub with_given_link : ℕ → Bytes → NodeState → NodeState
with_given_link partner key s = record s { links = with_link partner key Provisional false s.links }

abbrev pub declared_at : ℕ → NetKey → NetKey
declared_at value r = if r.started then record r { limit = max r.limit value; next = max r.next value } else r

-- the stored outgoing limit at the start
unfoldable pub with_declared : Layer → ℕ → NodeState → NodeState
with_declared Nwk value s = record s { declared = value; nets = map (declared_at value) s.nets }
with_declared Aps value s = record s { aps_limit = max s.aps_limit value; aps_next = max s.aps_next value }
