-- The task of the centre that an event of a session is.
use Rattle.std.specs.Prelude.{◌≡◌, List, Result, Ok, Err}
use Rattle.zb_centre_store.specs.Events.{NodeEvent, task_of}
use Rattle.zb_live.specs.declared.cause.Cause.{Cause}
use Rattle.zb_live.specs.declared.cause.Cause.TheVariants.{UnknownNode, BadCode}
use Rattle.zb_model.specs.Data.{Task}
use Rattle.zb_script.specs.Judge.{device_named, parent_named}
use Rattle.zb_script.specs.Resolving.{SaidTask, resolved}
use Rattle.zb_script.specs.Scripts.{Station}
use Rattle.zb_script.specs.Unresolved.{Unresolved}
use Rattle.zb_script.specs.Unresolved.TheVariants as unresolved

abbrev pub cause_for : Unresolved → Cause
cause_for unresolved.UnknownNode = UnknownNode
cause_for unresolved.BadCode = BadCode

abbrev pub caused : Result Task Unresolved → Result Task Cause
caused (Ok task) = Ok task
caused (Err why) = Err (cause_for why)

-- The task, where these nodes are declared; or why there is none.
abbrev pub task_for : List Station → SaidTask → Result Task Cause
task_for nodes said = caused (resolved (λ name. device_named name nodes) (λ name. parent_named name nodes) said)

-- A call answered the event of the centre that is this task, or why there is none.
abbrev pub IsEventFor : Result NodeEvent Cause → Result Task Cause → Type 0
IsEventFor (Ok event) expected = expected ≡ Ok (task_of event)
IsEventFor (Err cause) expected = expected ≡ Err cause
