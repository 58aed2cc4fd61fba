-- What serving a script does to the disk and to the output, command by command, and what follows of it.
use Rattle.std.specs.Prelude.{ℕ, ◌≡◌, ◌≢◌, ◌⊎◌, List, [], ◌∷◌, Option, Some, Result, Ok, Err, IfErr, OnOk, OnErr, IsTrue}
use Rattle.std.specs.Io.KnownBytes.{Appends}
use Rattle.zb_centre_store.specs.declared.fault.AdminFault.{AdminFault}
use Rattle.zb_centre_store.specs.declared.fault.AdminFault.TheVariants.{Disk, NoStore, BadStore, Worn, Write, NoMemory}
use Rattle.zb_centre_store.specs.Calls.{WasThereOrEmpty}
use Rattle.zb_admin.specs.Commands.{IsBetween, lays_out}
use Rattle.zb_admin.specs.Following.{WritesAll, WritesFront, WritesWorn}
pub use Rattle.zb_centre_store.specs.Outside.{Outside, outside}
use Rattle.zb_admin.specs.Moments.{IsOfRun, IsRun, IsWornAt, text_after}
use Rattle.zb_admin.specs.Served.{HasChanges, IsRefusal, done, served, served_text}
use Rattle.zb_centre_store.specs.Standing.{CanBeServed, IsWornOut, Stands, StandsAs, found_on}
use Rattle.zb_base.specs.Outside.{AppendsFront, Rose, Unrisen}
use Rattle.zb_disk.specs.View.{View, IsStill, LeavesOnly}
use Rattle.zb_host.specs.Hosts.{Hosted}
use Rattle.zb_model.specs.Rules.{Setting}
use Rattle.zb_model.specs.State.{NodeState}
use Rattle.zb_setting.specs.Settings.{setting_for}
use Rattle.zb_script.specs.declared.script.Script.{Script}
use Rattle.zb_script.specs.declared.script.Step.{Step}
use Rattle.zb_store.specs.Layout.{Standing, stands}
use Rattle.zb_stored_tables.specs.Cores.{CoreValue}
use Rattle.zb_text.specs.Pages.{page}

abbrev pub Ended : Type 0
Ended = Result (Unit {0}) AdminFault

-- ---- command by command

-- The calls of the disk for one command went through: what stands after it stands in every image.
pub record IsStored (c : Setting) (step : Step) (standing : Option NodeState) (old new : View) : Type 0 where
  pub between : IsBetween (lays_out step.order standing) standing (done c step standing).after old new
  pub after : (image : List ℕ) → new.images image → StandsAs (done c step standing).after image
  -- a refused command leaves the disk as it was, and what stands
  pub spared : IsRefusal (done c step standing) → IsStill old new × ((done c step standing).after ≡ standing)

-- The script ends at this command. Either it failed before its lines were written, as worn only where it had something
-- to store. Or the output failed, and a prefix of them was written.
abbrev pub EndsAt : {D W : Type 0} → Outside D W → Setting → Step → Option NodeState → AdminFault → D → W → D → W
    → Type 0
EndsAt x c step standing fault old before new after =
    (IsBetween (lays_out step.order standing) standing (done c step standing).after (x.state old) (x.state new)
    × (after ≡ before) × (fault ≡ Worn → HasChanges c step standing))
    ⊎ (IsStored c step standing (x.state old) (x.state new)
    × AppendsFront (x.taken before) (x.taken after) (page (done c step standing).lines) × (fault ≡ Write))

-- The commands are served in their order. For each one the disk is called first, while nothing is written. Once what
-- stands after it is stored, its lines are written, while the disk stays as it is. Then comes the next one.
abbrev pub Runs : {D W : Type 0} → Outside D W → Setting → List Step → Option NodeState → D → W → Ended → D → W
    → Type 0
Runs x c [] standing old before result new after = (result ≡ Ok tt) × (new ≡ old) × (after ≡ before)
Runs {D} {W} x c (step ∷ steps) standing old before result new after =
    ((fault : AdminFault) × (result ≡ Err fault) × EndsAt x c step standing fault old before new after)
    ⊎ ((disk : D) × (sink : W) × IsStored c step standing (x.state old) (x.state disk)
    × Appends (x.taken before) (x.taken sink) (page (done c step standing).lines)
    × Runs x c steps (done c step standing).after disk sink result new after)

-- A command was served, and what stands after it; or the script ends at it.
pub record HasServed {D W : Type 0} (x : Outside D W) (c : Setting) (step : Step) (standing : Option NodeState)
    (old : D) (before : W) (result : Ended) (centre : Option (Hosted CoreValue)) (new : D) (after : W) : Type 0 where
  pub stored : OnOk result (IsStored c step standing (x.state old) (x.state new))
  pub stands_so : OnOk result (Stands c (done c step standing).after centre (x.state new))
  pub lines : OnOk result (Appends (x.taken before) (x.taken after) (page (done c step standing).lines))
  pub cut : IfErr result (λ fault. EndsAt x c step standing fault old before new after)

-- When each fault of commands comes, once the store was judged. Where the output failed or memory is short the disk's
-- count of faults stands.
abbrev pub IsServiceFault : {D W : Type 0} → Outside D W → Setting → Option (Hosted CoreValue) → D → W → D → W
    → AdminFault → Type 0
IsServiceFault x c centre old before new after Disk = Rose (x.state old).faults (x.state new).faults
IsServiceFault x c centre old before new after NoStore = IsTrue x.tells.content → ⊥
IsServiceFault x c centre old before new after (BadStore at) = IsTrue x.tells.content → ⊥
IsServiceFault x c centre old before new after Worn = IsTrue x.tells.content → (b : Option NodeState)
    → Stands c b centre (x.state old)
    → (z : Standing) × (stands (x.state new).seen ≡ Some z) × IsWornOut z
IsServiceFault x c centre old before new after Write = Rose (x.faults before) (x.faults after)
    × Unrisen (x.state old).faults (x.state new).faults
IsServiceFault x c centre old before new after NoMemory = Unrisen (x.state old).faults (x.state new).faults

-- ---- the whole script

-- The store was judged and opened, and then the commands were served. While it is opened, an image is empty or
-- represents the same as some image before.
abbrev pub IsServed : {D W : Type 0} → Outside D W → Setting → List Step → Option NodeState → D → W → Ended → D → W
    → Type 0
IsServed {D} x c steps standing old before result new after =
    (disk : D) × LeavesOnly (x.state old) (x.state disk) (WasThereOrEmpty (x.state old))
    × ((image : List ℕ) → (x.state disk).images image → StandsAs standing image)
    × Runs x c steps standing disk before result new after

-- or it couldn't be opened
abbrev pub IsUnopened : {D W : Type 0} → Outside D W → D → W → Ended → D → W → Type 0
IsUnopened x old before result new after =
    ((fault : AdminFault) × (result ≡ Err fault))
    × LeavesOnly (x.state old) (x.state new) (WasThereOrEmpty (x.state old)) × (after ≡ before)

-- The store is empty, or a centre's record stands in it.
abbrev pub IsFound : {D W : Type 0} → Outside D W → D → Type 0
IsFound x old = (standing : Option NodeState) × (found_on (x.state old).seen ≡ Ok standing)

-- The store that was served to some command has to have a whole record written, and has no further generation.
abbrev pub IsWornOver : {D W : Type 0} → Outside D W → D → D → Type 0
IsWornOver x old new = CanBeServed (x.state old) → (z : Standing) × (stands (x.state new).seen ≡ Some z) × IsWornOut z

-- A command of the script had something to store: the policy's answer to it, in the state after the commands before
-- it, has changes.
abbrev pub IsWornIn : {D W : Type 0} → Outside D W → Script → D → Type 0
IsWornIn x script old = CanBeServed (x.state old) → (standing : Option NodeState) → found_on (x.state old).seen
    ≡ Ok standing → IsWornAt (setting_for script.config) script.steps standing

-- When each fault comes. The two of a store that is no centre's come before anything is written, and the store is
-- judged good before a command finds it worn or a line can't be written. Where the output failed or memory is short
-- the disk's count of faults stands.
abbrev pub IsAdminFault : {D W : Type 0} → Outside D W → D → W → D → W → AdminFault → Type 0
IsAdminFault x old before new after Disk = Rose (x.state old).faults (x.state new).faults
IsAdminFault x old before new after NoStore = IsTrue x.tells.content → (found_on (x.state old).seen ≡ Err NoStore)
    × (after ≡ before)
IsAdminFault x old before new after (BadStore at) = IsTrue x.tells.content
    → (found_on (x.state old).seen ≡ Err (BadStore at)) × (after ≡ before)
IsAdminFault x old before new after Worn = IsTrue x.tells.content → IsFound x old × IsWornOver x old new
IsAdminFault x old before new after Write = Rose (x.faults before) (x.faults after)
    × (IsTrue x.tells.content → IsFound x old) × Unrisen (x.state old).faults (x.state new).faults
IsAdminFault x old before new after NoMemory = Unrisen (x.state old).faults (x.state new).faults

-- A script was served.
pub record Serves {D W : Type 0} (x : Outside D W) (script : Script) (old : D) (before : W) (result : Ended) (new : D)
    (after : W) : Type 0 where
  -- a store that is no centre's is refused
  pub found : OnOk result
      (IsTrue x.tells.content → (standing : Option NodeState) × (found_on (x.state old).seen ≡ Ok standing))
  -- at Ok all lines were written, and every image represents the last record
  pub whole : OnOk result (IsTrue x.tells.content → CanBeServed (x.state old) → (standing : Option NodeState)
      → found_on (x.state old).seen ≡ Ok standing
      → Appends (x.taken before) (x.taken after) (served_text (setting_for script.config) script.steps standing))
  pub last : OnOk result (IsTrue x.tells.content → CanBeServed (x.state old) → (standing : Option NodeState)
      → found_on (x.state old).seen ≡ Ok standing
      → (image : List ℕ) → (x.state new).images image
      → StandsAs (served (setting_for script.config) script.steps standing).after image)
  -- at a fault a prefix of them was
  pub front : OnErr result (IsTrue x.tells.content → CanBeServed (x.state old) → (standing : Option NodeState)
      → found_on (x.state old).seen ≡ Ok standing
      → AppendsFront (x.taken before) (x.taken after) (served_text (setting_for script.config) script.steps standing))
  -- command by command: what stands after a command is stored before its lines are written
  pub run : IsTrue x.tells.content → CanBeServed (x.state old) → (standing : Option NodeState)
      → found_on (x.state old).seen ≡ Ok standing
      → IsUnopened x old before result new after ⊎ IsServed x (setting_for script.config) script.steps standing old
      before result new after
  -- at every moment of the whole script: each image represents what stands after some first commands, and each command
  -- is among them of whose lines a byte was written
  pub moments : IsTrue x.tells.content → CanBeServed (x.state old) → (standing : Option NodeState)
      → found_on (x.state old).seen ≡ Ok standing
      → IsRun x (setting_for script.config) script.steps standing old before new after
  -- where a store stands at first, that is so of all images at all moments of the call
  pub all : IsTrue x.tells.content → CanBeServed (x.state old) → (s : NodeState) → found_on (x.state old).seen
      ≡ Ok (Some s)
      → LeavesOnly (x.state old) (x.state new) (IsOfRun x (setting_for script.config) script.steps (Some s) old)
  -- Over any store: at Ok the lines of the commands under the script's setting were written, going on from some tables
  -- or none. At a fault a prefix of such lines was.
  pub told : OnOk result ((standing : Option NodeState)
      × WritesAll (setting_for script.config) script.steps standing (x.taken before) (x.taken after))
  pub told_front : OnErr result ((standing : Option NodeState)
      × WritesFront (setting_for script.config) script.steps standing (x.taken before) (x.taken after))
  -- when each fault comes
  pub faults : IfErr result (IsAdminFault x old before new after)
  -- It is worn only at a command that had something to store: the policy's answer to it, in the state after the
  -- commands before it, has changes. What these write was written.
  pub worn : IfErr result (λ fault. fault ≡ Worn → IsTrue x.tells.content → CanBeServed (x.state old)
      → (standing : Option NodeState) → found_on (x.state old).seen ≡ Ok standing
      → (at : IsWornAt (setting_for script.config) script.steps standing)
      × Appends (x.taken before) (x.taken after)
      (text_after (setting_for script.config) script.steps standing at.commands))
  -- over any store, going on from some tables
  pub told_worn : IfErr result (λ fault. fault ≡ Worn → (standing : Option NodeState)
      × WritesWorn (setting_for script.config) script.steps standing (x.taken before) (x.taken after))
  -- a fault of the store is reported as nothing else: its count of faults stands at each other answer
  pub unrisen : result ≢ Err Disk → Unrisen (x.state old).faults (x.state new).faults
