-- What the calls for a centre's store leave of the disk, and of what stands on it.
use Rattle.std.specs.Prelude.{ℕ, ◌≡◌, ◌≢◌, ◌⊎◌, Bool, true, false, List, [], Option, Some, None, Result, Ok, Err, IfOk, IfErr, OnOk, IsTrue, is_some, option_map, ⊤}
use Rattle.std.specs.List.{concat}
use Rattle.zb_base.specs.Outside.{Rose, Unrisen}
use Rattle.zb_centre_store.specs.Standing.{CanBeServed, IsUp, IsWornOut, Stands, StandsAsEither, found_on, found_tables}
use Rattle.zb_centre_store.specs.declared.fault.AdminFault.{AdminFault}
use Rattle.zb_centre_store.specs.declared.fault.AdminFault.TheVariants.{Disk, NoStore, BadStore, Worn, Write, NoMemory}
use Rattle.zb_core.specs.CorePlans.{CorePlan}
use Rattle.zb_disk.specs.View.{Telling, View, IsStill, LeavesOnly}
use Rattle.zb_host.specs.Hosts.{Hosted, IsWorn}
use Rattle.zb_model.specs.Answer.{answer, answered}
use Rattle.zb_model.specs.Data.{Centre, Task, Received}
use Rattle.zb_model.specs.Rules.{Setting}
use Rattle.zb_model.specs.State.{NodeState, shown}
use Rattle.zb_model_real.specs.Real.{real}
use Rattle.zb_plan.specs.Answers.{IsAnswer}
use Rattle.zb_record.specs.Ranges.{fits_widths}
use Rattle.zb_store.specs.Layout.{Standing, stands}
use Rattle.zb_store.specs.Store.{AllWhole, WasThere}
use Rattle.zb_stored_tables.specs.Cores.{CoreValue}
use Rattle.zb_stored_tables.specs.Stored.{state_given}

-- ---- the store is booted, judged, laid out; the disk's count of faults stands wherever `Disk` isn't answered

abbrev pub IsBootFault : Telling → View → View → AdminFault → Type 0
IsBootFault tells old new Disk = Rose old.faults new.faults
IsBootFault tells old new NoStore = IsTrue tells.content → stands old.seen ≡ None
IsBootFault tells old new (BadStore at) = IsTrue tells.content → (z : Standing) × (stands old.seen ≡ Some z)
    × (found_tables (state_given Centre z.content (concat z.payloads)) ≡ Err (BadStore at))
IsBootFault tells old new Worn = ⊥
IsBootFault tells old new Write = ⊥
IsBootFault tells old new NoMemory = Unrisen old.faults new.faults

-- the record and the entries that stand give these tables
abbrev pub HasFound : View → NodeState → Type 0
HasFound v s = (z : Standing) × (stands v.seen ≡ Some z) × (state_given Centre z.content (concat z.payloads) ≡ Ok s)
    × (fits_widths s ≡ true)

pub record HasBooted (tells : Telling) (c : Setting) (old : View) (result : Result (Hosted CoreValue) AdminFault)
    (new : View) : Type 0 where
  pub found : IfOk result (λ centre. IsTrue tells.content → HasFound old centre.core.tables)
  pub up : IfOk result (λ centre. IsTrue tells.content → AllWhole old → IsUp c centre.core.tables centre new)
  pub store : IfOk result (λ centre. is_some centre.store ≡ true)
  pub moments : AllWhole old → IsTrue tells.content → LeavesOnly old new (WasThere old)
  pub faults : IfErr result (IsBootFault tells old new)
  pub unrisen : result ≢ Err Disk → Unrisen old.faults new.faults

-- the tables of the centre, if one is up
abbrev pub tables_in : Option (Hosted CoreValue) → Option NodeState
tables_in centre = option_map (λ (h : Hosted CoreValue). h.core.tables) centre

-- a centre that is up has this setting
abbrev pub HasSetting : Setting → Option (Hosted CoreValue) → Type 0
HasSetting c None = ⊤
HasSetting c (Some centre) = centre.core.setting ≡ c

-- a centre that is up has its store
abbrev pub HasStore : Option (Hosted CoreValue) → Type 0
HasStore None = ⊤
HasStore (Some centre) = is_some centre.store ≡ true

abbrev pub IsJudgeFault : Telling → View → View → AdminFault → Type 0
IsJudgeFault tells old new Disk = Rose old.faults new.faults
IsJudgeFault tells old new NoStore = IsTrue tells.content → found_on old.seen ≡ Err NoStore
IsJudgeFault tells old new (BadStore at) = IsTrue tells.content → found_on old.seen ≡ Err (BadStore at)
IsJudgeFault tells old new Worn = ⊥
IsJudgeFault tells old new Write = ⊥
IsJudgeFault tells old new NoMemory = Unrisen old.faults new.faults

-- While a store is opened, an image represents the same as some image before. It is empty only if the disk was empty.
abbrev pub WasThereOrEmpty : View → List ℕ → Type 0
WasThereOrEmpty old image = ((old.seen ≡ []) × (image ≡ [])) ⊎ WasThere old image

pub record IsJudged (tells : Telling) (c : Setting) (old : View)
    (result : Result (Option (Hosted CoreValue)) AdminFault) (new : View) : Type 0 where
  pub found : IfOk result (λ centre. IsTrue tells.content → found_on old.seen ≡ Ok (tables_in centre))
  pub stands_so : IfOk result
      (λ centre. IsTrue tells.content → CanBeServed old → Stands c (tables_in centre) centre new)
  -- an empty disk is left as it was
  pub empty : IfOk result (λ centre. is_some centre ≡ false → IsStill old new)
  pub store : IfOk result HasStore
  pub moments : CanBeServed old → IsTrue tells.content → LeavesOnly old new (WasThereOrEmpty old)
  pub faults : IfErr result (IsJudgeFault tells old new)
  pub unrisen : result ≢ Err Disk → Unrisen old.faults new.faults

-- A disk that tells its content represents the record that was just written.
abbrev pub IsLayOutFault : Telling → View → View → AdminFault → Type 0
IsLayOutFault tells old new Disk = Rose old.faults new.faults
IsLayOutFault tells old new NoStore = IsTrue tells.content → ⊥
IsLayOutFault tells old new (BadStore at) = IsTrue tells.content → ⊥
IsLayOutFault tells old new Worn = ⊥
IsLayOutFault tells old new Write = ⊥
IsLayOutFault tells old new NoMemory = Unrisen old.faults new.faults

-- a store was made with the record of these tables, and the centre booted from it
pub record HasLaidOut (tells : Telling) (c : Setting) (s : NodeState) (old : View)
    (result : Result (Hosted CoreValue) AdminFault) (new : View) : Type 0 where
  pub up : IfOk result (λ centre. IsTrue tells.content → IsUp c s centre new)
  pub store : IfOk result (λ centre. is_some centre.store ≡ true)
  pub faults : IfErr result (IsLayOutFault tells old new)
  pub unrisen : result ≢ Err Disk → Unrisen old.faults new.faults

-- ---- an event of the centre

-- an event of the centre's own, and no frame that was delivered
abbrev pub is_own : Task → Bool
is_own (Received bytes draw) = false
is_own _ = true

-- the tables after an event
abbrev pub tables_after : Setting → Task → NodeState → NodeState
tables_after c task s = shown (answered (answer real c s task) s)

abbrev pub IsEventFault : Telling → Setting → View → View → Hosted CoreValue → AdminFault → Type 0
IsEventFault tells c old new centre Disk = Rose old.faults new.faults
IsEventFault tells c old new centre NoStore = ⊥
IsEventFault tells c old new centre (BadStore at) = ⊥
IsEventFault tells c old new centre Worn = IsTrue tells.content → (s : NodeState) → IsUp c s centre old
    → (z : Standing) × (stands new.seen ≡ Some z) × IsWornOut z
IsEventFault tells c old new centre Write = ⊥
IsEventFault tells c old new centre NoMemory = ⊥

pub record HasHandled (tells : Telling) (c : Setting) (task : Task) (before : Hosted CoreValue) (old : View)
    (result : Result CorePlan AdminFault) (after : Hosted CoreValue) (new : View) : Type 0 where
  -- what is handed out is the policy's answer
  pub told : IfOk result (λ plan. (s : NodeState) → IsUp c s before old → IsAnswer plan (answer real c s task))
  -- over any disk, one that tells nothing too, it is the answer to what the core has, and the core is the one after it
  pub follows : IfOk result (λ plan. (s : NodeState) → before.core ≡ record { setting = c; tables = s }
      → IsAnswer plan (answer real c s task) × (after.core ≡ record { setting = c; tables = tables_after c task s }))
  pub up : OnOk result
      (IsTrue tells.content → (s : NodeState) → IsUp c s before old → IsUp c (tables_after c task s) after new)
  pub store : OnOk result (is_some after.store ≡ true)
  pub moments : IsTrue tells.content → (s : NodeState) → IsUp c s before old
      → LeavesOnly old new (StandsAsEither (Some s) (Some (tables_after c task s)))
  -- a refused event of its own leaves the disk and the tables as they were
  pub spared : IfOk result (λ plan. is_own task ≡ true → is_some plan.out.refused ≡ true → IsStill old new
      × (after.core ≡ before.core))
  pub faults : IfErr result (IsEventFault tells c old new before)
  -- over any disk it is worn only where the host is at its last generation, and the policy's answer to what the core
  -- has has changes
  pub worn : IfErr result (λ fault. fault ≡ Worn → IsWorn before
      × ((s : NodeState) → before.core ≡ record { setting = c; tables = s } → (answer real c s task).edits ≢ []))

-- ---- memory

-- there was no memory left
abbrev pub IsShort : {T : Type 0} → Result T AdminFault → Type 0
IsShort result = IfErr result (λ fault. fault ≡ NoMemory)
