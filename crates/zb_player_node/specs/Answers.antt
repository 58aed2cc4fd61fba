-- What a node's calls leave, in the model's words.
use Rattle.std.specs.Prelude.{ℕ, ◌≡◌, ◌+◌, ◌<◌, ◌&&◌, ◌⊎◌, length, true, false, if◌then◌else◌, List, [], Option, Some, None, Result, Ok, Err, is_some, ⊤}
use Rattle.std.specs.List.{concat}
use Rattle.arrayvec.specs.declared.array_vec.ArrayVec.{ArrayVec}
use Rattle.zb_base.specs.Outside.{risen}
use Rattle.zb_base.specs.declared.fault.OrMemory.{OrMemory}
use Rattle.zb_base.specs.declared.fault.OrMemory.TheVariants.{Fault, NoMemory}
use Rattle.zb_base.specs.declared.node.Config.{Config}
use Rattle.zb_core.specs.CorePlans.{CorePlan, IsCoreAfter}
use Rattle.zb_disk.specs.Memory.{Medium, memory_view}
use Rattle.zb_armed_host.specs.Arms.{IsUnarmed, armed_of, arms_stand, calls_after, fallen_calls}
use Rattle.zb_armed_host.specs.Driven.{IsUp, WasHandled, HasFallen, IsDown, WasBooted, HasFallenAtBoot, HasEnded, IsRecordOf, fall_of}
use Rattle.zb_armed_host.specs.declared.arms.Arms.TheVariants.{Unarmed}
use Rattle.zb_armed_host.specs.declared.fall.Cut.{Cut as CutEvent}
use Rattle.zb_armed_host.specs.declared.fall.Fall.{Fall}
use Rattle.zb_armed_host.specs.declared.fall.Fallen.{Fallen}
use Rattle.zb_host.specs.Hosts.{Hosted, Restoring}
use Rattle.zb_model.specs.Answer.{Answer, answer}
use Rattle.zb_model.specs.Data.{Role}
use Rattle.zb_model.specs.Data as model
use Rattle.zb_model.specs.Play.{Armed, BootCalls, falls, stands, new_disk}
use Rattle.zb_model.specs.Rules.{Setting}
use Rattle.zb_model.specs.State.{NodeState, after_boot, shown}
use Rattle.zb_model_real.specs.Real.{real}
use Rattle.law_run_steps.specs.Conditions.{Condition, calls_by, after_whole, after_cut, after_power_on, after_cut_boot}
use Rattle.zb_setting.specs.Settings.{setting_for}
use Rattle.zb_player_node.specs.Nodes.{IsIn, IsStored, words_for}
use Rattle.zb_player_node.specs.Values.{NodeValue, Running, running}
use Rattle.zb_player_node.specs.declared.machine.Machine.{Machine}
use Rattle.zb_player_node.specs.declared.node.Handled.{Handled}
use Rattle.zb_player_node.specs.declared.node.Handled.TheVariants.{Whole, Cut}
use Rattle.zb_node_types.specs.Changes.{edits}
use Rattle.zb_node_types.specs.declared.change.Change.{Change}
use Rattle.zb_plan.specs.Answers.{IsAnswer}
use Rattle.zb_store.specs.Layout.{Standing}
use Rattle.zb_store.specs.Store.{IsHeld}
use Rattle.zb_stored_tables.specs.Cores.{CoreValue, IsBooted}
use Rattle.zb_stored_tables.specs.Stored.{IsStorable}
use Rattle.zb_base.specs.Sizes.{late_generation}

-- ---- of a node

-- An event was handled: nothing falls on it, it gave this answer, and the node is in the condition after it. All
-- device calls of its commit were made.
pub record WasAnswered (a : Answer) (x : Condition) (number : ℕ) (p : CorePlan) (old : Medium) (node : NodeValue)
    (m : Medium) : Type 0 where
  pub missed : falls x.disk.armed (calls_by x.commits a.edits) ≡ false
  pub answer_is : IsAnswer p a
  pub leaves : IsIn (after_whole a x) (number + 1) node m
  pub calls : m.calls ≡ calls_after old.calls (calls_by x.commits a.edits)

-- An event was cut: what was armed falls on its commit. Its changes are stored where the model says that they stand.
-- The device calls up to the refused one were made.
pub record WasCut (a : Answer) (x : Condition) (number : ℕ) (stored : List Change) (fall : Fall) (old : Medium)
    (node : NodeValue) (m : Medium) : Type 0 where
  pub fell : falls x.disk.armed (calls_by x.commits a.edits) ≡ true
  pub stored_are : edits stored ≡ (if stands x.disk.armed (calls_by x.commits a.edits) then a.edits else [])
  pub fall_is : fall ≡ fall_of x.disk.armed
  pub leaves : IsIn (after_cut a x) (number + 1) node m
  pub calls : m.calls ≡ risen old.calls (fallen_calls x.disk.armed)

-- What became of an event of a node, by what is told of it: nothing where it is down.
abbrev pub HasHandled : model.Task → NodeValue → Medium → Option Handled → CorePlan → NodeValue → Medium → Type 0
HasHandled task old m None p new m' = (old.machine ≡ None) × (new ≡ old) × (m' ≡ m)
HasHandled task old m (Some Whole) p new m' = (x : Condition) (number : ℕ) → IsIn x number old m
    → number < late_generation
    → WasAnswered (answer real x.setting x.state task) x number p m new m'
HasHandled task old m (Some (Cut fall)) p new m' = (x : Condition) (number : ℕ) → IsIn x number old m
    → number < late_generation
    → WasCut (answer real x.setting x.state task) x number p.changes.items fall m new m'

-- A node was booted: nothing falls on its boot, and it is up.
pub record IsUpAgain (x : Condition) (number : ℕ) (old : Medium) (node : NodeValue) (m : Medium) : Type 0 where
  pub missed : falls x.disk.armed (BootCalls x.disk.both_open) ≡ false
  pub leaves : IsIn (after_power_on x) (number + 1) node m
  pub calls : m.calls ≡ calls_after old.calls (BootCalls x.disk.both_open)

-- Its boot was cut: it is still down.
pub record IsStillDown (x : Condition) (number : ℕ) (fall : Fall) (old : Medium) (node : NodeValue) (m : Medium) :
    Type 0 where
  pub fell : falls x.disk.armed (BootCalls x.disk.both_open) ≡ true
  pub fall_is : fall ≡ fall_of x.disk.armed
  pub leaves : IsIn (after_cut_boot x) (number + 1) node m
  pub calls : m.calls ≡ risen old.calls (fallen_calls x.disk.armed)

-- what became of the boot of a node that was down
abbrev pub HasBooted : NodeValue → Medium → Option Fall → NodeValue → Medium → Type 0
HasBooted old m None new m' = (x : Condition) (number : ℕ) → IsIn x number old m → x.up ≡ false
    → IsUpAgain x number m new m'
HasBooted old m (Some fall) new m' = (x : Condition) (number : ℕ) → IsIn x number old m → x.up ≡ false
    → IsStillDown x number fall m new m'

-- ---- of a node over any disk

-- How an event was cut. What was armed stays where it didn't fall, and then no change is reported as stored.
pub record WasCutOn (old : NodeValue) (m : Medium) (fall : Fall) (stored : List Change) (new : NodeValue)
    (m' : Medium) : Type 0 where
  pub fallen : Fallen
  pub ended : HasEnded (armed_of old.arms) m fallen m'
  pub fall_is : fall ≡ fallen.fall
  pub arms : new.arms ≡ (if fallen.fired then Unarmed else old.arms)
  pub none : (fallen.fired && arms_stand (armed_of old.arms)) ≡ false → stored ≡ []

-- what became of an event: what is armed stays too where it was handled
abbrev pub HasHandledOn : NodeValue → Medium → Option Handled → List Change → NodeValue → Medium → Type 0
HasHandledOn old m None stored new m' = (new ≡ old) × (m' ≡ m)
HasHandledOn old m (Some Whole) stored new m' = new.arms ≡ old.arms
HasHandledOn old m (Some (Cut fall)) stored new m' = WasCutOn old m fall stored new m'

-- How a boot was cut: likewise.
pub record WasCutAtBoot (old : NodeValue) (m : Medium) (fall : Fall) (new : NodeValue) (m' : Medium) : Type 0 where
  pub fallen : Fallen
  pub ended : HasEnded (armed_of old.arms) m fallen m'
  pub fall_is : fall ≡ fallen.fall
  pub node_is : new ≡ record old { arms = if fallen.fired then Unarmed else old.arms }

abbrev pub HasBootedOn : NodeValue → Medium → Option Fall → NodeValue → Medium → Type 0
HasBootedOn old m None new m' = new.arms ≡ old.arms
HasBootedOn old m (Some fall) new m' = WasCutAtBoot old m fall new m'

-- the bytes of a dump: the record of what stands, and none where none is shown
abbrev pub IsDump : Restoring → Medium → List ℕ → Type 0
IsDump restored m bytes = ((bytes ≡ []) × IsRecordOf restored m None [])
    ⊎ IsRecordOf restored m (Some (length bytes)) bytes

-- ---- of a node at the start

-- the condition of a node at the start: it is up, and made no commit
abbrev pub start_condition : Setting → NodeState → Condition
start_condition setting state = record { setting = setting; state = state; commits = 0; up = true; disk = new_disk }

-- a node at the start: it is in that condition before the first event, and its boot made one device call
pub record IsStarted (setting : Setting) (state : NodeState) (old : Medium) (node : NodeValue) (m : Medium) : Type 0
  where
    pub is : IsIn (start_condition setting state) 1 node m
    pub calls : m.calls ≡ risen old.calls 1

-- A state at the start, over a disk that holds its record: a boot leaves that state as it is.
pub record CanStart (setting : Setting) (state : NodeState) (s : Standing) (config : Config) (m : Medium) : Type 0
  where
    pub setting_is : setting_for config ≡ setting
    pub stored : IsStored setting.me.role state 0 0 s
    pub booted : after_boot (shown state) ≡ shown state
    pub held : IsHeld s (memory_view m)
    pub unarmed : IsUnarmed m

-- ---- of a host

-- A plan of a host's core for a task. It is the policy's answer to the task, its changes can be stored, and the core
-- is the one after it.
pub record IsPlanFor (role : Role) (task : model.Task) (before : CoreValue) (p : CorePlan) (after : CoreValue) : Type
    0 where
  pub answer_is : IsAnswer p (answer real before.setting before.tables task)
  pub storable : IsStorable role before.tables p.changes.items
  pub after_is : IsCoreAfter before p after

abbrev pub Changes : Type 0
Changes = ArrayVec Change 16 (Unit {0})

-- these are the changes of a plan for the event
abbrev pub HasCut : Role → model.Task → Hosted CoreValue → List Change → Hosted CoreValue → Type 0
HasCut role task before changes after = (p : CorePlan) × IsPlanFor role task before.core p after.core
    × (changes ≡ p.changes.items)

-- What an event of a host gave: its plan, and what is left of the host and its disk.
abbrev pub HasGiven : Role → model.Task → Armed → Hosted CoreValue → Medium → CorePlan → Result (Unit {0}) CutEvent
    → Hosted CoreValue → Medium → Type 0
HasGiven role task a before old p (Ok u) after new = IsPlanFor role task before.core p after.core
    × ((s : Standing) → IsUp (words_for role) s a before old
    → WasHandled (words_for role) s a before old p.changes.items after new)
HasGiven role task a before old p (Err cut) after new = HasCut role task before p.changes.items after
    × ((s : Standing) → IsUp (words_for role) s a before old
    → HasFallen (words_for role) s a before old p.changes.items cut.fallen after new)

-- what a boot made: a host with the core of what stands, or nothing
abbrev pub HasMade : Role → Config → Armed → Medium → Result Running (OrMemory Fallen) → Medium → Type 0
HasMade role config a old (Ok r) new = (r.role ≡ role) × (is_some r.host.store ≡ true)
    × ((s : Standing) (w : List ℕ) → IsDown (words_for role) s w a old
    → IsBooted role config s.content (concat s.payloads) r.host.core × WasBooted (words_for role) s w a old r.host new)
HasMade role config a old (Err (Fault fallen)) new =
    ((s : Standing) (w : List ℕ) → IsDown (words_for role) s w a old → HasFallenAtBoot s a old fallen new)
    × HasEnded a old fallen new
HasMade role config a old (Err NoMemory) new = ⊤

-- the host that a boot made, of whichever role
abbrev pub made : Result Machine (OrMemory Fallen) → Result Running (OrMemory Fallen)
made (Ok machine) = Ok (running machine)
made (Err fault) = Err fault
