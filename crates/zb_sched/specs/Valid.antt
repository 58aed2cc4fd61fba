-- What every schedule keeps: nodes, addresses and keys that are apart, values in their ranges, events of known nodes.
use Rattle.std.specs.Prelude.{◌≡◌, ℕ, ◌≤◌, List, [], ◌∷◌, length, map, true, false, Option, Some, None, IfSome, ⊤}
use Rattle.std.specs.List.{AllByRecursion, list_any}
use Rattle.zb_install.specs.Code.{code_key}
use Rattle.zb_sched_line.specs.Fits.{FitsEvent, FitsSentence, IsCode, IsKey}
use Rattle.zb_sched_line.specs.Grammar.{greatest}
use Rattle.zb_sched_line.specs.Said.{Bytes, Event, Introduces}
use Rattle.zb_sched.specs.Judge.{Seat, Seen, are_blocks, has_its_nodes, link_of, network_of, provision_clashes, well_known}
use Rattle.zb_sched.specs.Schedules.{Node, Schedule}
use Rattle.zb_sched.specs.Reading.{is_centre}
use Rattle.zb_base.specs.Limits.{most_events, most_nodes}

-- Each two items of a list, in their order.
abbrev pub Pairwise : {X : Type 0} → (X → X → Type 0) → List X → Type 0
Pairwise R [] = ⊤
Pairwise R (x ∷ xs) = AllByRecursion (R x) xs × Pairwise R xs

-- Two optional keys are not the same key.
abbrev pub Differ : Option Bytes → Option Bytes → Type 0
Differ None other = ⊤
Differ (Some key) None = ⊤
Differ (Some key) (Some other) = key ≡ other → ⊥

-- Names, addresses and link keys of two nodes differ.
abbrev pub Apart : Node → Node → Type 0
Apart m n = (m.name ≡ n.name → ⊥) × (m.eui ≡ n.eui → ⊥) × (m.short ≡ n.short → ⊥) × Differ (link_of m) (link_of n)

-- The link key of one node is not the network key of another, nor its own.
abbrev pub KeysApart : Node → Node → Type 0
KeysApart m n = Differ (link_of m) (network_of n)

-- An install code stands on a router or device, and its link key isn't the well-known one.
abbrev pub FitsNodeCode : Node → Bytes → Type 0
FitsNodeCode m code = IsCode code × (is_centre m.role ≡ false) × (code_key code ≡ well_known → ⊥)

abbrev pub FitsNetwork : Bytes × ℕ → Type 0
FitsNetwork held = IsKey held.0 × (held.1 ≤ 255) × (held.0 ≡ well_known → ⊥)

-- One node is in its ranges.
abbrev pub FitsNode : Node → Type 0
FitsNode m =
    FitsSentence (Introduces m.name m.role m.eui m.short m.out_block m.in_block)
    × (are_blocks m.out_block m.in_block ≡ true)
    × IfSome m.code (λ code. FitsNodeCode m code) × IfSome m.network FitsNetwork × (m.start_nwk ≤ greatest)
    × (m.start_aps ≤ greatest)

-- A key of the supply is no key that a node has from the start, nor the well-known one.
abbrev pub IsNewKey : List Node → Bytes → Type 0
IsNewKey nodes draw =
    IsKey draw × (draw ≡ well_known → ⊥)
    × AllByRecursion (λ m. Differ (Some draw) (link_of m) × Differ (Some draw) (network_of m)) nodes

-- The nodes as the judge of lines sees them.
abbrev pub seated : Node → Seat
seated node = record { node = node; nwk_declared = false; aps_declared = false }

abbrev pub seen_of : Schedule → Seen
seen_of p = record { seats = map seated p.nodes; draws = p.draws; events = [] }

-- An event is in its ranges, and its nodes are declared with parts that it allows. An install code that it brings
-- gives a link key that isn't another node's, a network key, one of the supply or the well-known one.
abbrev pub FitsSchedule : Schedule → Event → Type 0
FitsSchedule p event = FitsEvent event × (has_its_nodes event (map seated p.nodes) ≡ true)
    × (provision_clashes event (seen_of p) ≡ false)

-- A schedule but for its centre.
pub record IsSoFar (p : Schedule) : Type 0 where
  pub few_nodes : length p.nodes ≤ most_nodes
  pub nodes : AllByRecursion FitsNode p.nodes
  pub apart : Pairwise Apart p.nodes
  pub keys : AllByRecursion (λ m. AllByRecursion (λ n. KeysApart m n) p.nodes) p.nodes
  pub draws : AllByRecursion (IsNewKey p.nodes) p.draws
  pub draws_apart : Pairwise (λ a b. a ≡ b → ⊥) p.draws
  pub few_events : length p.events ≤ most_events
  pub events : AllByRecursion (FitsSchedule p) p.events

-- A schedule: it has a centre too, and no second one, since the short address of each is 0.
pub record IsSchedule (p : Schedule) : Type 0 where
  pub so_far : IsSoFar p
  pub centre : list_any (λ m. is_centre m.role) p.nodes ≡ true
