-- How a rule of the policy is written: a chain of refusals, in the order in which they are tried, and then one effect,
-- which is the changes that it makes and what it sends.
use Rattle.std.specs.Prelude.{ℕ, Bool, true, false, not, if◌then◌else◌, ◌&&◌, ◌||◌, List, [], ◌∷◌, map, filter, find, length, Option, Some, None, nat_eq, nat_le, is_some}
use Rattle.std.specs.List.{list_any}
use Rattle.zb_model.specs.Data.{Bytes, Role, Router, Layer, Nwk, Aps, State, Knocked, Joined, Offered, Confirmed, Rejoining, Label, Station, Term, Move, DropNet, DropLink, Place, Reason, Command, nobody}
use Rattle.zb_model.specs.State.{greatest_counter, NetKey, LinkKey, NodeState, same_key, is_centre, is_live_of, has_net, next_counter, live_nets, is_active_key}
use Rattle.zb_model.specs.Fits.{most_nets, most_links, most_pairs}

-- What a node sends.
pub data Body : Type 0 where
  -- application data, not sealed at APS
  Saying : (bytes : Bytes) → Body
  -- an APS command that isn't sealed
  Clear : (control : ℕ) (command : Command) → Body
  -- an APS command that is sealed under a link key
  Secret : (label : Label) (key : Bytes) (command : Command) → Body
  -- an APS command that is sealed inside a Tunnel to a device
  Tunnelled : (device : ℕ) (key : Bytes) (command : Command) → Body
  -- application data under a key of two devices
  Telling : (key : Bytes) (bytes : Bytes) → Body
  -- a Leave
  Leaving : Body
  -- the frame of a Tunnel
  Relayed : (bytes : Bytes) → Body

pub record Sending : Type 0 where
  pub to : ℕ
  pub secured : Bool
  pub body : Body

pub data Outcome : Type 0 where
  Stop : (reason : Reason) → Outcome
  Does : (moves : List Move) (sending : Option Sending) → Outcome

-- The result of an event: the accepted terms, NWK before APS, and an outcome; a refusal is shown at `place`.
pub record Plan : Type 0 where
  pub accepts : List Term
  pub place : Place
  pub outcome : Outcome

-- What a node knows of the network: itself, and the declared nodes.
pub record Setting : Type 0 where
  pub me : Station
  pub stations : List Station

-- The steps of a rule: refused if the test holds; refused unless it holds; refused if nothing is there; one of two.
unfoldable pub refuse_if : Bool → Reason → Outcome → Outcome
refuse_if bad reason rest = if bad then Stop reason else rest

abbrev pub refuse_unless : Bool → Reason → Outcome → Outcome
refuse_unless good reason rest = refuse_if (not good) reason rest

unfoldable pub found_or : {A : Type 0} → Option A → Reason → (A → Outcome) → Outcome
found_or None reason rest = Stop reason
found_or (Some a) reason rest = rest a

unfoldable pub choose : Bool → Outcome → Outcome → Outcome
choose test yes_ no_ = if test then yes_ else no_

abbrev pub sends : ℕ → Bool → Body → Option Sending
sends to secured body = Some (record { to = to; secured = secured; body = body })

-- Who is declared

abbrev pub is_router : Role → Bool
is_router Router = true
is_router _ = false

unfoldable pub station_of : List Station → ℕ → Option Station
station_of stations eui = find (λ (p : Station). nat_eq p.eui eui) stations

unfoldable pub station_at : List Station → ℕ → Option Station
station_at stations short = find (λ (p : Station). nat_eq p.short short) stations

-- The EUI or short address that is used if a node isn't declared: no node has it. It decides nothing in a run: each
-- schedule has a centre, and the rules send to declared nodes.
abbrev pub eui_or : ℕ → Option Station → ℕ
eui_or other None = other
eui_or other (Some p) = p.eui

abbrev pub short_or : ℕ → Option Station → ℕ
short_or other None = other
short_or other (Some p) = p.short

unfoldable pub centre_of : List Station → ℕ
centre_of stations = eui_or nobody (find (λ (p : Station). is_centre p.role) stations)

-- the declared short address of a declared node
unfoldable pub short_of : Setting → ℕ → ℕ
short_of c eui = short_or 0xffff (station_of c.stations eui)

abbrev pub is_declared : Setting → ℕ → Bool
is_declared c eui = is_some (station_of c.stations eui)

abbrev pub acts_as_router : Setting → ℕ → Bool
acts_as_router c eui = is_some (find (λ (p : Station). nat_eq p.eui eui && is_router p.role) c.stations)

abbrev pub from_centre : Setting → ℕ → Bool
from_centre c source = nat_eq source (centre_of c.stations)

-- Tests on the state

-- the counter of the layer is at its end
unfoldable pub spent : Layer → NodeState → Bool
spent layer s = nat_le greatest_counter (next_counter layer s)

unfoldable pub both_spent : NodeState → Bool
both_spent s = spent Nwk s || spent Aps s

abbrev pub in_rejoining : State → Bool
in_rejoining Rejoining = true
in_rejoining _ = false

abbrev pub in_confirmed : State → Bool
in_confirmed Confirmed = true
in_confirmed _ = false

abbrev pub has_joined : State → Bool
has_joined Joined = true
has_joined Offered = true
has_joined Confirmed = true
has_joined _ = false

-- a network key that is installed now becomes active at once
abbrev pub waits_for_key : State → Bool
waits_for_key Knocked = true
waits_for_key Rejoining = true
waits_for_key _ = false

abbrev pub nets_full : NodeState → Bool
nets_full s = nat_le most_nets (length s.nets)

abbrev pub links_full : NodeState → Bool
links_full s = nat_le (most_links s.role) (length s.links)

abbrev pub pairs_full : NodeState → Bool
pairs_full s = nat_le most_pairs (length s.pairs)

-- The next key of the supply, unless a row of the node has it already. That test decides nothing in a run: no row of
-- the centre has a key that is still to be drawn.
abbrev pub unless_held : NodeState → Option Bytes → Option Bytes
unless_held s None = None
unless_held s (Some key) = if has_net key s.nets || list_any (λ (r : LinkKey). same_key r.key key) s.links then None
    else Some key

-- Changes that several rules make

abbrev pub drop_link : LinkKey → Move
drop_link r = DropLink r.partner r.key

-- every live row of a partner is dropped
unfoldable pub drop_partner : NodeState → ℕ → List Move
drop_partner s partner = map drop_link (filter (is_live_of partner) s.links)

-- every live row of a partner but that with the key
unfoldable pub drop_others : NodeState → ℕ → Bytes → List Move
drop_others s partner key =
    map drop_link (filter (λ (r : LinkKey). is_live_of partner r && not (same_key r.key key)) s.links)

abbrev pub drop_row : Option LinkKey → List Move
drop_row None = []
drop_row (Some r) = drop_link r ∷ []

-- At most two network keys are live: before a third is added, the one that isn't active is dropped, or the first of
-- them if none is active.
abbrev pub first_drop : List NetKey → List Move
first_drop [] = []
first_drop (r ∷ rs) = DropNet r.key ∷ []

unfoldable pub drop_old : NodeState → List Move
drop_old s = if nat_le 2 (length (live_nets s))
    then first_drop (filter (λ (r : NetKey). not (is_active_key s.active r.key)) (live_nets s)) else []
