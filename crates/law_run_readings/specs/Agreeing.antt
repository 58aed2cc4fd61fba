-- The lines of whole groups say of a node what its state says.
use Rattle.std.specs.Prelude.{ℕ, ◌≡◌, ◌+◌, true, false, Option, None, Some, List, [], ◌∷◌, ◌++◌, find}
use Rattle.zb_model.specs.Data.{Bytes, Layer, Nwk, Aps}
use Rattle.zb_model.specs.Lines.{Line}
use Rattle.zb_model.specs.State.{LinkKey, NetKey, NodeState, is_link, is_live, is_told, net_of, next_counter, sender_floor, stored_limit}
use Rattle.zb_model.specs.Fits.{net_stored, link_stored}
use Rattle.zb_model.specs.Play.{Schedule, Event, Disk, start, step}
use Rattle.zb_model.specs.Schedules.{Names}
use Rattle.zb_model.specs.Tools.{Tools}
use Rattle.zb_model.specs.Readings.{is_up, state_of}
use Rattle.law_run_readings.specs.LastLines.{active, flat, kept, limit, next, stored}
use Rattle.law_run_readings.specs.RowLines.{joining, keys_of, link_of_state, link_says, live, names_key, names_row, net_of_state, net_says, role, rolls, rows_of, said_own, told_live, told_of_state, told_row}

-- the stored floor of a sender under a key of the layer
abbrev pub floor_at : Layer → Bytes → ℕ → NodeState → ℕ
floor_at Nwk key sender s = net_stored sender (net_of key s)
floor_at Aps key sender s = link_stored (find (is_link sender key) s.links)

-- the floor in memory of a sender under a key of the layer
abbrev pub net_memory : ℕ → Option NetKey → ℕ
net_memory sender None = 0
net_memory sender (Some r) = (sender_floor sender r).kept

abbrev pub link_memory : Option LinkKey → ℕ
link_memory None = 0
link_memory (Some r) = r.kept

abbrev pub memory_at : Layer → Bytes → ℕ → NodeState → ℕ
memory_at Nwk key sender s = net_memory sender (net_of key s)
memory_at Aps key sender s = link_memory (find (is_link sender key) s.links)

-- What the lines of these groups say of a node is what its state says. About the next counters and the floors in
-- memory, we claim this only for a node with power. If a stop or failure cut a group after its reserves and floors, a
-- node without power has a memory that its boot discards.
pub record Agrees (before : List (List Line)) (n : ℕ) : Type 0 where
  pub active_is : active (flat before) n ≡ (state_of (flat before) n).active
  pub limits : (layer : Layer) → limit before n layer ≡ stored_limit layer (state_of (flat before) n)
  pub nexts : is_up (flat before) n ≡ true → (layer : Layer) → next before n layer
      ≡ next_counter layer (state_of (flat before) n)
  pub floors : (layer : Layer) (key : Bytes) (sender : ℕ) → stored (flat before) n layer key sender
      ≡ floor_at layer key sender (state_of (flat before) n)
  pub memory : is_up (flat before) n ≡ true → (layer : Layer) (key : Bytes) (sender : ℕ)
      → kept (flat before) n layer key sender ≡ memory_at layer key sender (state_of (flat before) n)
  -- the network keys in their order, and whether each is live
  pub networks : said_own names_key [] (flat before) n ≡ keys_of (state_of (flat before) n)
  pub network : (key : Bytes) → said_own (net_says key) None (flat before) n
      ≡ net_of_state key (state_of (flat before) n)
  -- the link rows in their order, and the attribute of each and whether it is live
  pub rows : said_own names_row [] (flat before) n ≡ rows_of (state_of (flat before) n)
  pub row : (partner : ℕ) (key : Bytes) → said_own (link_says partner key) None (flat before) n
      ≡ link_of_state partner key (state_of (flat before) n)
  pub lives : (device : ℕ) → live (flat before) n device ≡ is_live (state_of (flat before) n) device
  -- which devices the centre told of a rollover, and the rows that say so
  pub told : (device : ℕ) → told_live (flat before) n device ≡ is_told (state_of (flat before) n) device
  pub told_rows : (partner : ℕ) (key : Bytes) → told_row (flat before) n partner key
      ≡ told_of_state partner key (state_of (flat before) n)
  pub role_is : role (flat before) n ≡ (state_of (flat before) n).role
  pub state_is : joining (flat before) n ≡ (state_of (flat before) n).state
  pub rolling : said_own rolls false (flat before) n ≡ (state_of (flat before) n).sending

abbrev pub AllAgree : Schedule → List (List Line) → Type 0
AllAgree w before = (n : ℕ) → Names w n → Agrees before n

-- before each of these events and after the last one, for each declared node
abbrev pub AgreeFrom : Tools → Schedule → List (List Line) → List Disk → ℕ → List Event → Type 0
AgreeFrom tools w before disks number [] = AllAgree w before
AgreeFrom tools w before disks number (event ∷ events) =
    let g = step tools w (flat before) disks number event in
    AllAgree w before × AgreeFrom tools w (before ++ g.lines ∷ []) g.disks (number + 1) events

-- Whole groups of a run say what the states of its nodes say: the start lines, and those together with the groups of
-- the first events, for each number of them.
abbrev pub RunAgrees : Tools → Schedule → Type 0
RunAgrees tools w = AgreeFrom tools w (start w ∷ []) [] 1 w.events
