-- What lines say of a node's rows, of its state of joining and of a rollover, without tables and counters. The last
-- line of the node about each thing decides.
use Rattle.std.specs.Prelude.{ℕ, Bool, true, false, if◌then◌else◌, ◌&&◌, List, [], ◌∷◌, ◌++◌, fold, find, map, Option, Some, None, nat_eq, option_map, unwrap_or}
use Rattle.std.specs.List.{list_any}
use Rattle.zb_model.specs.Data.{Attribute, Became, Bytes, Device, DropLink, DropNet, Fresh, Install, Joined, Live, Moved, Provisional, Role, Roll, Row, State, Told, Untold}
use Rattle.zb_model.specs.Lines.{Changed, Declared, GivenLink, GivenNet, Line}
use Rattle.zb_model.specs.Readings.{speaker}
use Rattle.zb_model.specs.State.{LinkKey, NetKey, NodeState, is_centre, is_link, same_key}
use Rattle.law_run_readings.specs.LastLines.{last_said}

-- what a node's own lines say, one after the other: lines of other nodes say nothing about it
abbrev pub said_own : {A : Type 0} → (Line → A → A) → A → List Line → ℕ → A
said_own says first h n = fold (λ found l. if nat_eq (speaker l) n then says l found else found) first h

-- whether the node sends a new network key around: by the last `roll` line
abbrev pub rolls : Line → Bool → Bool
rolls (Changed e n (Moved (Roll sending))) found = sending
rolls _ found = found

-- the network keys, in the order of their first lines
abbrev pub with_key : Bytes → List Bytes → List Bytes
with_key key keys = if list_any (λ k. same_key k key) keys then keys else keys ++ key ∷ []

abbrev pub names_key : Line → List Bytes → List Bytes
names_key (GivenNet n key sequence) found = with_key key found
names_key (Changed e n (Moved (Install key sequence))) found = with_key key found
names_key _ found = found

-- Whether a network key is live, if it has a row: from the first line that gives it until a drop of it. A dropped key
-- that is given again stays dropped.
abbrev pub first_given : Option Bool → Option Bool
first_given None = Some true
first_given (Some live) = Some live

abbrev pub net_says : Bytes → Line → Option Bool → Option Bool
net_says key (GivenNet n k sequence) found = if same_key key k then first_given found else found
net_says key (Changed e n (Moved (Install k sequence))) found = if same_key key k then first_given found else found
net_says key (Changed e n (Moved (DropNet k))) found = if same_key key k
    then option_map (λ (live : Bool). false) found else found
net_says key _ found = found

-- A link row, if there is one. Its attribute is that of the last line that gives the row; a code's is provisional. It
-- is live unless it was dropped since.
pub record LinkSaid : Type 0 where
  pub attribute : Attribute
  pub live : Bool

abbrev pub given_as : Attribute → Option LinkSaid
given_as attribute = Some (record { attribute = attribute; live = true })

abbrev pub dropped_said : LinkSaid → LinkSaid
dropped_said x = record x { live = false }

abbrev pub is_row : ℕ → Bytes → ℕ → Bytes → Bool
is_row partner key p k = nat_eq partner p && same_key key k

abbrev pub link_says : ℕ → Bytes → Line → Option LinkSaid → Option LinkSaid
link_says partner key (GivenLink n p k) found = if is_row partner key p k then given_as Provisional else found
link_says partner key (Changed e n (Moved (Row p k attribute))) found = if is_row partner key p k
    then given_as attribute else found
link_says partner key (Changed e n (Moved (DropLink p k))) found = if is_row partner key p k
    then option_map dropped_said found else found
link_says partner key _ found = found

-- the partners and keys of the link rows, in the order of their first lines
abbrev pub with_row : ℕ → Bytes → List (ℕ × Bytes) → List (ℕ × Bytes)
with_row partner key rows = if list_any (λ (r : ℕ × Bytes). nat_eq r.0 partner && same_key r.1 key) rows
    then rows else rows ++ (partner, key) ∷ []

abbrev pub names_row : Line → List (ℕ × Bytes) → List (ℕ × Bytes)
names_row (GivenLink n p k) found = with_row p k found
names_row (Changed e n (Moved (Row p k attribute))) found = with_row p k found
names_row _ found = found

-- A device is live if one of its rows is.
abbrev pub is_live_row : Option LinkSaid → Bool
is_live_row None = false
is_live_row (Some x) = x.live

unfoldable pub live : List Line → ℕ → ℕ → Bool
live h n device = list_any (λ (r : ℕ × Bytes). is_live_row (said_own (link_says r.0 r.1) None h n)
    && nat_eq r.0 device) (said_own names_row [] h n)

-- Whether a device was told of a rollover: by the last of the device's `told`, `untold` and `live` lines and of the
-- `roll` lines with which a rollover begins.
abbrev pub tells : ℕ → Line → Bool → Bool
tells device (Changed e n (Moved (Told d))) found = if nat_eq d device then true else found
tells device (Changed e n (Moved (Untold d))) found = if nat_eq d device then false else found
tells device (Changed e n (Moved (Live d))) found = if nat_eq d device then false else found
tells device (Changed e n (Moved (Roll sending))) found = if sending then false else found
tells device _ found = found

unfoldable pub told : List Line → ℕ → ℕ → Bool
told h n device = said_own (tells device) false h n

-- Whether the centre told a live device, and whether a link row is marked as told: a dropped one isn't.
unfoldable pub told_live : List Line → ℕ → ℕ → Bool
told_live h n device = live h n device && told h n device

unfoldable pub told_row : List Line → ℕ → ℕ → Bytes → Option Bool
told_row h n partner key = option_map (λ (x : LinkSaid). x.live && told h n partner)
    (said_own (link_says partner key) None h n)

-- the role, by the line that declares the node
abbrev pub role_in : Line → Option Role
role_in (Declared p) = Some p.role
role_in _ = None

unfoldable pub role : List Line → ℕ → Role
role h n = unwrap_or (last_said n role_in h) Device

-- The state of joining: that of the last `state` line. If there is none, a router or device that was given a network
-- key has joined, and any other node is fresh.
abbrev pub state_in : Role → Line → Option State
state_in r (GivenNet n key sequence) = Some (if is_centre r then Fresh else Joined)
state_in r (Changed e n (Moved (Became state))) = Some state
state_in r _ = None

unfoldable pub joining : List Line → ℕ → State
joining h n = unwrap_or (last_said n (state_in (role h n)) h) Fresh

-- the same of a state

abbrev pub keys_of : NodeState → List Bytes
keys_of s = map (λ (r : NetKey). r.key) s.nets

abbrev pub net_of_state : Bytes → NodeState → Option Bool
net_of_state key s = option_map (λ (r : NetKey). r.live) (find (λ (r : NetKey). same_key r.key key) s.nets)

abbrev pub link_said : LinkKey → LinkSaid
link_said r = record { attribute = r.attribute; live = r.live }

abbrev pub link_of_state : ℕ → Bytes → NodeState → Option LinkSaid
link_of_state partner key s = option_map link_said (find (is_link partner key) s.links)

abbrev pub rows_of : NodeState → List (ℕ × Bytes)
rows_of s = map (λ (r : LinkKey). (r.partner, r.key)) s.links

abbrev pub told_of_state : ℕ → Bytes → NodeState → Option Bool
told_of_state partner key s = option_map (λ (r : LinkKey). r.told) (find (is_link partner key) s.links)
