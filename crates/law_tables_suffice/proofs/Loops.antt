-- What each step keeps is true during the whole run.
use Rattle.std.proofs.Common.{ℕ, ◌+◌, List, [], ◌∷◌, ◌++◌}
use Rattle.std.specs.List.{AllByRecursion}
use Rattle.zb_model.specs.Lines.{Line}
use Rattle.zb_model.specs.Tools.{Tools}
use Rattle.zb_model.specs.Play.{Schedule, Event, Disk, start, step}
use Rattle.law_run.specs.Events.{BeforeEach}
use Rattle.law_tables_suffice.specs.Along.{IsCarried}

along : (tools : Tools) (w : Schedule) (Q : Event → Type 0) (I : List Line → List Disk → ℕ → Type 0)
    (P : List Line → Event → Type 0) → IsCarried tools w Q I P
    → (h : List Line) (disks : List Disk) (number : ℕ) (events : List Event) → AllByRecursion Q events
    → I h disks number → BeforeEach P tools w h disks number events
along tools w Q I P k h disks number [] all now = tt
along tools w Q I P k h disks number (event ∷ events) all now = (
  k.gives h disks number event all.0 now,
  along tools w Q I P k (h ++ (step tools w h disks number event).lines) (step tools w h disks number event).disks
      (number + 1) events all.1 (k.goes_on h disks number event all.0 now),
)

pub all_along : (tools : Tools) (w : Schedule) (Q : Event → Type 0) (I : List Line → List Disk → ℕ → Type 0)
    (P : List Line → Event → Type 0) → IsCarried tools w Q I P → AllByRecursion Q w.events
    → BeforeEach P tools w (start w) [] 1 w.events
all_along tools w Q I P k all = along tools w Q I P k (start w) [] 1 w.events all k.begins
