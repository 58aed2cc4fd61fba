-- Before each event of a run no filler decides.
use Rattle.std.proofs.Common.{ℕ, ◌+◌, List, [], ◌∷◌, ◌++◌}
use Rattle.zb_model.specs.Lines.{Line}
use Rattle.zb_model.specs.Tools.{Tools}
use Rattle.zb_model.specs.Readings.{state_of}
use Rattle.zb_model.specs.Play.{Schedule, Event, Own, RollOver, Deliver, Reset, PowerOn, ShowRecord, ArmStop, ArmFail, Disk, setting_of, step, start}
use Rattle.law_run.specs.Events.{BeforeEach}
use Rattle.law_run_lookups.specs.Granted.{Granted, HasNewest, HasRoom}
use Rattle.law_tables_suffice.specs.Along.{OfNode, NodesAllAlong}
use Rattle.law_real_nodes.specs.Refusing.{NoFillerDecides}
use Rattle.law_real_nodes.proofs.Refusing.{none-decides}

three : (P Q R S : List Line → Event → Type 0)
    → ((h : List Line) (event : Event) → P h event → Q h event → R h event → S h event)
    → (tools : Tools) (w : Schedule) (h : List Line) (disks : List Disk) (number : ℕ) (events : List Event)
    → BeforeEach P tools w h disks number events → BeforeEach Q tools w h disks number events
    → BeforeEach R tools w h disks number events → BeforeEach S tools w h disks number events
three P Q R S k tools w h disks number [] a b c = tt
three P Q R S k tools w h disks number (event ∷ events) a b c = (
  k h event a.0 b.0 c.0,
  three P Q R S k tools w (h ++ (step tools w h disks number event).lines)
      (step tools w h disks number event).disks (number + 1) events a.1 b.1 c.1,
)

of-node : (P Q : ℕ → Type 0) → ((n : ℕ) → P n → Q n) → (event : Event) → OfNode P event → OfNode Q event
of-node P Q k (Own n task) a = k n a
of-node P Q k (RollOver n) a = k n a
of-node P Q k (Deliver frame n) a = k n a
of-node P Q k (Reset n) a = k n a
of-node P Q k (PowerOn n) a = k n a
of-node P Q k (ShowRecord n) a = k n a
of-node P Q k (ArmStop n calls torn) a = k n a
of-node P Q k (ArmFail n call) a = k n a
of-node P Q k _ a = tt

pub none-along : (tools : Tools) (w : Schedule)
    → BeforeEach (λ h event. (n : ℕ) → Granted w h n) tools w (start w) [] 1 w.events
    → BeforeEach (λ h event. (n : ℕ) → HasRoom w h n) tools w (start w) [] 1 w.events
    → NodesAllAlong HasNewest tools w
    → BeforeEach (λ h event. OfNode (λ n. NoFillerDecides tools w h n) event) tools w (start w) [] 1 w.events
none-along tools w granted room newest =
    three (λ h event. (n : ℕ) → Granted w h n) (λ h event. (n : ℕ) → HasRoom w h n)
    (λ h event. OfNode (λ n. HasNewest (state_of h n) (setting_of w n) n) event)
    (λ h event. OfNode (λ n. NoFillerDecides tools w h n) event)
    (λ h event g r a. of-node (λ n. HasNewest (state_of h n) (setting_of w n) n) (λ n. NoFillerDecides tools w h n)
    (λ n has. none-decides tools w h n (g n) (r n) has) event a)
    tools w (start w) [] 1 w.events granted room newest
