-- The counters, reserves, floors and starts of a whole run, as one relation between a schedule and lines. The policy
-- determines the rest of each line; the two together determine every line.
use Rattle.std.specs.Prelude.{ℕ, ◌≡◌, ◌+◌, min, Bool, false, if◌then◌else◌, ◌&&◌, List, [], ◌∷◌, ◌++◌, Some, nat_eq, nat_le, flat_map, ⊤}
use Rattle.std.specs.List.{AllByRecursion, list_any}
use Rattle.zb_model.specs.Data.{Bytes, Layer, Nwk, Aps, Active, Reserve, Floor, Start, Moved}
use Rattle.zb_model.specs.Lines.{Line, GivenNet, Changed, Accept, Seal}
use Rattle.zb_model.specs.State.{greatest_counter, NodeState, same_key, next_counter, stored_limit, same_layer}
use Rattle.zb_model.specs.Tools.{Tools}
use Rattle.zb_model.specs.Answer.{Counting, half, stored_floor}
use Rattle.zb_model.specs.Readings.{state_of}
use Rattle.zb_model.specs.Play.{Schedule, Event, Step, Disk, start, setting_of, step_by}

-- Seals

-- A seal line has the next counter at its layer; at NWK its base key is the active one. Here and below, `h` are the
-- lines before the group.
abbrev pub IsActive : Layer → Bytes → NodeState → Type 0
IsActive Nwk base s = s.active ≡ Some base
IsActive Aps base s = ⊤

abbrev pub TakesCounter : List Line → Line → Type 0
TakesCounter h (Seal e n t) = (t.counter ≡ next_counter t.layer (state_of h n))
    × IsActive t.layer t.base (state_of h n)
TakesCounter h _ = ⊤

-- Reserves

-- The reserve line of a layer that a seal line calls for: if the next counter is the limit, one outgoing block above
-- the counter, or the greatest counter.
abbrev pub block_reserved : Schedule → NodeState → ℕ → Layer → ℕ
block_reserved w s n layer = min (next_counter layer s + (setting_of w n).me.out_block) greatest_counter

abbrev pub reserve_line : Schedule → NodeState → ℕ → ℕ → Layer → List Line
reserve_line w s e n layer =
    if nat_eq (next_counter layer s) (stored_limit layer s)
    then Changed e n (Reserve layer (block_reserved w s n layer)) ∷ [] else []

abbrev pub reserve_called : Schedule → List Line → Layer → Line → List Line
reserve_called w h layer (Seal e n t) = if same_layer t.layer layer then reserve_line w (state_of h n) e n layer
    else []
reserve_called w h layer _ = []

-- the reserve lines of a layer
abbrev pub reserve_there : Layer → Line → List Line
reserve_there layer (Changed e n (Reserve l limit)) = if same_layer l layer then Changed e n (Reserve l limit) ∷ []
    else []
reserve_there layer _ = []

-- Floors

-- The floor line that an accept line calls for: if its counter isn't below the stored floor, one incoming block above
-- the counter, or the greatest counter.
abbrev pub floor_called : Schedule → List Line → Line → List Line
floor_called w h (Accept e n t) =
    if nat_le (stored_floor t (state_of h n)) t.counter
    then Changed e n (Floor t.layer t.base t.source (min (t.counter + (setting_of w n).me.in_block) greatest_counter))
    ∷ [] else []
floor_called w h _ = []

abbrev pub floor_there : Line → List Line
floor_there (Changed e n (Floor layer base source value)) = Changed e n (Floor layer base source value) ∷ []
floor_there _ = []

-- Starts

-- A network key of a node has started after its `given` line or its first `start` line.
abbrev pub starts_key : ℕ → Bytes → Line → Bool
starts_key n key (GivenNet m k sequence) = nat_eq m n && same_key k key
starts_key n key (Changed e m (Start k value)) = nat_eq m n && same_key k key
starts_key n key _ = false

unfoldable pub has_started : List Line → ℕ → Bytes → Bool
has_started h n key = list_any (starts_key n key) h

-- The start line that an `active` line calls for: if the key hasn't started, at 0 if the node's next counter has
-- reached half of the range, otherwise at the next counter.
abbrev pub start_value : NodeState → ℕ
start_value s = if nat_le half (next_counter Nwk s) then 0 else next_counter Nwk s

abbrev pub start_called : List Line → Line → List Line
start_called h (Changed e n (Moved (Active key))) = if has_started h n key then []
    else Changed e n (Start key (start_value (state_of h n))) ∷ []
start_called h _ = []

abbrev pub start_there : Line → List Line
start_there (Changed e n (Start key value)) = Changed e n (Start key value) ∷ []
start_there _ = []

-- Each counter of a group is the next, and its reserve, floor and start lines are exactly those that its other lines
-- call for.
pub record IsCounted (w : Schedule) (h group : List Line) : Type 0 where
  pub seals : AllByRecursion (TakesCounter h) group
  pub reserves : (layer : Layer) → flat_map (reserve_there layer) group ≡ flat_map (reserve_called w h layer) group
  pub floors : flat_map floor_there group ≡ flat_map (floor_called w h) group
  pub starts : flat_map start_there group ≡ flat_map (start_called h) group

-- The result of an event, with some counters; and its result if no stop or failure of a disk were armed.
abbrev pub answered_with : Tools → Schedule → List Line → List Disk → ℕ → Event → Counting → Step
answered_with tools w h disks number event k = step_by tools (λ c s p. k) w h disks number event

abbrev pub whole_group : Tools → Schedule → List Line → ℕ → Event → Counting → List Line
whole_group tools w h number event k = (answered_with tools w h [] number event k).lines

-- Each group is counted, or is what a stop or failure leaves of a counted group.
abbrev pub CountedFrom : Tools → Schedule → List Line → List Disk → ℕ → List Event → List Line → Type 0
CountedFrom tools w h disks number [] rest = rest ≡ []
CountedFrom tools w h disks number (event ∷ events) rest =
    (k : Counting) × (more : List Line) × (rest ≡ (answered_with tools w h disks number event k).lines ++ more)
    × IsCounted w h (whole_group tools w h number event k)
    × CountedFrom tools w (h ++ (answered_with tools w h disks number event k).lines)
    (answered_with tools w h disks number event k).disks (number + 1) events more

-- Between the start lines and the last line, the group of each event is counted.
abbrev pub Counted : Tools → Schedule → List Line → Type 0
Counted tools w lines =
    (groups : List Line) × (last : Line) × (lines ≡ (start w ++ groups) ++ last ∷ [])
    × CountedFrom tools w (start w) [] 1 w.events groups
