-- Claims before each event of a run.
use Rattle.std.specs.Prelude.{ℕ, ◌+◌, List, [], ◌∷◌, ◌++◌, ⊤}
use Rattle.zb_model.specs.Lines.{Line}
use Rattle.zb_model.specs.Tools.{Tools}
use Rattle.zb_model.specs.Play.{Schedule, Event, Disk, step}

-- A claim on each event and the lines before it.
abbrev pub BeforeEach : (List Line → Event → Type 0) → Tools → Schedule → List Line → List Disk → ℕ → List Event
    → Type 0
BeforeEach P tools w h disks number [] = ⊤
BeforeEach P tools w h disks number (event ∷ events) =
    P h event × BeforeEach P tools w (h ++ (step tools w h disks number event).lines)
    (step tools w h disks number event).disks (number + 1) events
