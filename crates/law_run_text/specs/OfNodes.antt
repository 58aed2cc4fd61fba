-- Lines of a run are of nodes that its schedule declares, or of no node.
use Rattle.std.specs.Prelude.{◌≡◌, Bool, true, List, ⊤}
use Rattle.std.specs.List.{AllByRecursion}
use Rattle.zb_model.specs.Data.{Station}
use Rattle.zb_model.specs.Lines.{Line, Declared}
use Rattle.zb_model.specs.Play.{Schedule, stations}
use Rattle.zb_model.specs.Tools.{Tools}
use Rattle.zb_model.specs.Transcript.{transcript}
use Rattle.zb_trace_model.specs.Said.{IsOfNodes}

-- one of these: it passes each test that all of them pass
abbrev pub IsOneOf : List Station → Station → Type 0
IsOneOf known p = (test : Station → Bool) → AllByRecursion (λ q. test q ≡ true) known → test p ≡ true

abbrev pub DeclaresOne : List Station → Line → Type 0
DeclaresOne known (Declared p) = IsOneOf known p
DeclaresOne known _ = ⊤

-- a line is of one of these nodes or of no node, and a node that it declares is one of them
abbrev pub IsOfSchedule : List Station → Line → Type 0
IsOfSchedule known l = IsOfNodes known l × DeclaresOne known l

abbrev pub AreOfNodes : Tools → Schedule → Type 0
AreOfNodes tools w = AllByRecursion (IsOfSchedule (stations w)) (transcript tools w)
