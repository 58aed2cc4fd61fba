-- Claims that stay true during a run, in a form that a loop over its events carries.
use Rattle.std.specs.Prelude.{ℕ, ◌≡◌, ◌<◌, ◌+◌, true, Bool, List, [], ◌∷◌, ◌++◌, nat_eq, ⊤}
use Rattle.zb_model.specs.Data.{Nwk, Aps, Station}
use Rattle.zb_model.specs.Lines.{Line, Declared}
use Rattle.zb_model.specs.Tools.{Tools}
use Rattle.zb_model.specs.State.{NodeState}
use Rattle.zb_model.specs.Fits.{all_apart, keeps_rules}
use Rattle.zb_model.specs.Rules.{Setting, centre_of}
use Rattle.zb_model.specs.Readings.{state_of}
use Rattle.law_run.specs.Events.{BeforeEach}
use Rattle.zb_model.specs.Play.{Schedule, Node, Event, Own, RollOver, Deliver, Reset, PowerOn, ShowRecord, ArmStop, ArmFail, Disk, setting_of, stations, net_line, link_line, limit_line, start, step}

-- What is carried along: it is true at the start; before an event it implies the claim, and it is true after that
-- event.
pub record IsCarried (tools : Tools) (w : Schedule) (Q : Event → Type 0) (I : List Line → List Disk → ℕ → Type 0)
    (P : List Line → Event → Type 0) : Type 0 where
  pub begins : I (start w) [] 1
  pub gives : (h : List Line) (disks : List Disk) (number : ℕ) (event : Event) → Q event → I h disks number → P h event
  pub goes_on : (h : List Line) (disks : List Disk) (number : ℕ) (event : Event) → Q event → I h disks number
      → I (h ++ (step tools w h disks number event).lines) (step tools w h disks number event).disks (number + 1)

-- a claim on the node of an event, if it has one
abbrev pub OfNode : (ℕ → Type 0) → Event → Type 0
OfNode P (Own n task) = P n
OfNode P (RollOver n) = P n
OfNode P (Deliver frame n) = P n
OfNode P (Reset n) = P n
OfNode P (PowerOn n) = P n
OfNode P (ShowRecord n) = P n
OfNode P (ArmStop n calls torn) = P n
OfNode P (ArmFail n call) = P n
OfNode P _ = ⊤

-- a claim on the node of each event, in its state before the event
abbrev pub NodesAllAlong : (NodeState → Setting → ℕ → Type 0) → Tools → Schedule → Type 0
NodesAllAlong P tools w = BeforeEach (λ h event. OfNode (λ n. P (state_of h n) (setting_of w n) n) event) tools w
    (start w) [] 1 w.events

-- no two nodes of the schedule have the same EUI
unfoldable pub euis_differ : Schedule → Bool
euis_differ w = all_apart (λ (a b : Station). nat_eq a.eui b.eui) (stations w)

-- A node is as it was declared, with its own EUI and role, and its blocks aren't empty.
pub record IsAsDeclared (s : NodeState) (c : Setting) (n : ℕ) : Type 0 where
  pub mine : c.me.eui ≡ n
  pub role : s.role ≡ c.me.role
  pub out_block : 0 < c.me.out_block
  pub in_block : 0 < c.me.in_block

-- A state keeps the rules for records.
abbrev pub IsRuled : NodeState → Setting → ℕ → Type 0
IsRuled s c n = keeps_rules s ≡ true

-- the start lines of one node, in the order in which a run has them
abbrev pub own_start : ℕ → Node → List Line
own_start centre m =
    Declared m.station
    ∷ (net_line m.station.eui m.network ++ (link_line centre m.station.eui m.code
    ++ (limit_line m.station.eui Nwk m.start_nwk ++ limit_line m.station.eui Aps m.start_aps)))

-- Of all start lines of a run, only the node's own say what it is.
abbrev pub StartsAlone : Schedule → Node → Type 0
StartsAlone w m = state_of (start w) m.station.eui ≡ state_of (own_start (centre_of (stations w)) m) m.station.eui
