-- What the names and the code of an event that a line says resolve to.
use Rattle.std.specs.Prelude.{ℕ, ◌≡◌, bytes_eq, if◌then◌else◌, Option, Some, None, Result, Ok, Err}
use Rattle.arrayvec.specs.ArrayString.{ArrayString}
use Rattle.zb_base.specs.declared.address.Eui.{Eui}
use Rattle.zb_event.specs.Events.{NodeEvent, task, task_of}
use Rattle.zb_event.specs.declared.event.Event.{Event}
use Rattle.zb_event.specs.declared.resolving.Unresolved.{Unresolved}
use Rattle.zb_event.specs.declared.resolving.Unresolved.TheVariants.{UnknownNode, BadCode}
use Rattle.zb_install.specs.Code.{code_key}
use Rattle.zb_model.specs.Data.{Bytes, TaskOf, Task, SayTo, TellTo, DoKnock, DoRejoin, DoTimer, AskFor, HasChild, DoProvision, DoRemove, DoRoll, DoSwitch, DoAgain, DoShare, Received}

-- what a line says: names are bytes, and there is no code if the bytes of the line are none
abbrev pub SaidTask : Type 0
SaidTask = TaskOf Bytes (Option Bytes)

abbrev pub said_of : Event ArrayString (Option Bytes) → SaidTask
said_of event = task (λ (name : ArrayString). name.bytes) (λ (code : Option Bytes). code) event

-- continues with the EUI of a node, if it is declared and has the role that is asked for
abbrev pub with_node : Option ℕ → (ℕ → Result Task Unresolved) → Result Task Unresolved
with_node None go_on = Err UnknownNode
with_node (Some eui) go_on = go_on eui

abbrev pub provided : Option Bytes → ℕ → Result Task Unresolved
provided None device = Err BadCode
provided (Some code) device = Ok (DoProvision device (code_key code))

-- two nodes: a parent or a partner is another node than the device
abbrev pub with_two : (Bytes → Option ℕ) → (Bytes → Option ℕ) → Bytes → Bytes → (ℕ → ℕ → Task)
    → Result Task Unresolved
with_two first second name other task =
    if bytes_eq name other then Err UnknownNode
    else with_node (first name) (λ n. with_node (second other) (λ m. Ok (task n m)))

-- The event by how routers and devices are found, and by how the centre and routers are; or why there is none.
abbrev pub resolved : (Bytes → Option ℕ) → (Bytes → Option ℕ) → SaidTask → Result Task Unresolved
resolved device parent (SayTo to bytes) = Ok (SayTo to bytes)
resolved device parent (TellTo partner bytes) = with_node (device partner) (λ n. Ok (TellTo n bytes))
resolved device parent (AskFor partner) = with_node (device partner) (λ n. Ok (AskFor n))
resolved device parent DoKnock = Ok DoKnock
resolved device parent DoRejoin = Ok DoRejoin
resolved device parent DoTimer = Ok DoTimer
resolved device parent (HasChild name rejoin) = with_node (device name) (λ n. Ok (HasChild n rejoin))
resolved device parent (DoProvision name code) = with_node (device name) (provided code)
resolved device parent (DoRemove name via) = with_two device parent name via (λ n m. DoRemove n m)
resolved device parent (DoRoll draw) = Ok (DoRoll draw)
resolved device parent DoSwitch = Ok DoSwitch
resolved device parent (DoAgain name) = with_node (device name) (λ n. Ok (DoAgain n))
resolved device parent (DoShare name partner) = with_two device device name partner (λ n m. DoShare n m)
resolved device parent (Received bytes draw) = Ok (Received bytes draw)

-- A call resolved an event to this task, or found why there is none.
abbrev pub Resolves : Result NodeEvent Unresolved → Result Task Unresolved → Type 0
Resolves (Ok event) expected = expected ≡ Ok (task_of event)
Resolves (Err why) expected = expected ≡ Err why

-- A call returned the EUI of a node, or that it isn't declared.
abbrev pub IsFound : Result Eui Unresolved → Option ℕ → Type 0
IsFound (Ok eui) found = found ≡ Some eui.0
IsFound (Err why) found = (found ≡ None) × (why ≡ UnknownNode)
