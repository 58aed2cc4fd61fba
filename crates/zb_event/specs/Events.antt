-- The task of the policy that an event represents.
use Rattle.std.specs.Prelude.{◌≡◌, ℕ, Option, option_map}
use Rattle.arrayvec.specs.ArrayVec.{ArrayVec}
use Rattle.zb_base.specs.declared.address.Eui.{Eui}
use Rattle.zb_base.specs.declared.key.Key.{Key}
use Rattle.zb_event.specs.declared.event.Event.{Event}
use Rattle.zb_event.specs.declared.event.Event.TheVariants.{Say, Tell, Ask, Knock, Rejoin, Timer, Child, Provision, Remove, Roll, Switch, Again, Share, Deliver}
use Rattle.zb_model.specs.Data.{TaskOf, Task, SayTo, TellTo, DoKnock, DoRejoin, DoTimer, AskFor, HasChild, DoProvision, DoRemove, DoRoll, DoSwitch, DoAgain, DoShare, Received}

abbrev pub NodeEvent : Type 0
NodeEvent = Event Eui Key

-- by what the name of a node means, and what admits one
abbrev pub task : {N K M L : Type 0} → (N → M) → (K → L) → Event N K → TaskOf M L
task name admits (Say to bytes) = SayTo to.0 bytes.items
task name admits (Tell partner bytes) = TellTo (name partner) bytes.items
task name admits (Ask partner) = AskFor (name partner)
task name admits Knock = DoKnock
task name admits Rejoin = DoRejoin
task name admits Timer = DoTimer
task name admits (Child device rejoin) = HasChild (name device) rejoin
task name admits (Provision device key) = DoProvision (name device) (admits key)
task name admits (Remove device via) = DoRemove (name device) (name via)
task name admits (Roll draw) = DoRoll (option_map (λ (k : Key). k.0) draw)
task name admits Switch = DoSwitch
task name admits (Again device) = DoAgain (name device)
task name admits (Share device partner) = DoShare (name device) (name partner)
task name admits (Deliver bytes draw) = Received bytes.items (option_map (λ (k : Key). k.0) draw)

abbrev pub task_of : NodeEvent → Task
task_of event = task (λ (e : Eui). e.0) (λ (k : Key). k.0) event

-- an event of the node's own, not a delivery
abbrev pub IsOwn : NodeEvent → Type 0
IsOwn event = (bytes : ArrayVec ℕ) (draw : Option Key) → event ≡ Deliver bytes draw → ⊥
