-- What a call of a node's host leaves of the host and of the disk, in the model's words.
use Rattle.std.specs.Prelude.{ℕ, ◌≡◌, ◌≢◌, ◌<◌, ◌==◌, ◌⊎◌, get_or, take, Option, Some, None, List, [], ◌∷◌, Bool, true, false, if◌then◌else◌}
use Rattle.std.specs.List.{concat}
use Rattle.zb_base.specs.Outside.{risen}
use Rattle.zb_base.specs.declared.fault.OrMemory.{OrMemory}
use Rattle.zb_base.specs.declared.fault.OrMemory.TheVariants.{Fault, NoMemory as Lacking}
use Rattle.zb_node_types.specs.declared.change.Change.{Change}
use Rattle.zb_node_types.specs.declared.fault.KeyError.{KeyError}
use Rattle.zb_disk.specs.View.{Only}
use Rattle.zb_disk.specs.Memory.{Medium, is_stopped, off_after, memory_tells, memory_view}
use Rattle.zb_store.specs.Layout.{Standing, IsWhole, stands as stands_on}
use Rattle.zb_store.specs.Steps.{calls_then}
use Rattle.zb_store.specs.Store.{both_gates_open}
use Rattle.zb_store.specs.declared.fault.StoreFault.{StoreFault}
use Rattle.zb_store.specs.declared.fault.StoreFault.TheVariants as store
use Rattle.zb_host.specs.declared.fault.RecordFault.{RecordFault}
use Rattle.zb_host.specs.Plans.{Restored, gives, bad}
use Rattle.zb_host.specs.Hosts.{Restoring, Gives, Hosted, IsCurrent, writes_whole, next_standing}
use Rattle.zb_host.specs.Calls.{Words, words_of}
use Rattle.zb_model.specs.Play.{Armed, NotArmed, StopAfter, FailAt, Calls, NoCalls, BootCalls, falls, stands, leaves_both}
use Rattle.zb_armed_host.specs.declared.fall.Fall.{Fall}
use Rattle.zb_armed_host.specs.declared.fall.Fall.TheVariants.{Stopped, Failed}
use Rattle.zb_armed_host.specs.declared.fall.Fallen.{Fallen}
use Rattle.zb_armed_host.specs.Arms.{IsArming, IsUnarmed, arming_on, falls_within, commit_of, calls_after, fallen_calls}
use Rattle.zb_base.specs.Sizes.{last_generation}

-- what the laws on calls have of a core, over a disk in memory
abbrev pub memory_words : {C : Type 0} → Restoring → (C → List ℕ) → (List Change → List ℕ) → Words C Medium
memory_words restored recorded payload = words_of memory_tells memory_view restored recorded payload

-- how a call ended, by whether the disk was off before it and is off after it: stopped where it went off on it
abbrev pub fall_seen : Bool → Bool → Fall
fall_seen true is_off = Failed
fall_seen false true = Stopped
fall_seen false false = Failed

-- How a call of a host ended that went wrong, on any disk. `made` writes and syncs were made, as the disk counts them.
-- It is stopped where the disk went off on one of them, and what was armed fired where it falls on one of them. The
-- power is back.
pub record HasEnded (a : Armed) (old : Medium) (fallen : Fallen) (new : Medium) : Type 0 where
  pub made : ℕ
  pub calls : new.calls ≡ calls_then old.calls made
  pub fall : fallen.fall ≡ fall_seen (is_stopped old.arming) (off_after (arming_on a old.arming) made)
  pub fired : fallen.fired ≡ falls_within a (is_stopped old.arming) made
  pub on : is_stopped new.arming ≡ false

-- how a call ends on which this falls
abbrev pub fall_of : Armed → Fall
fall_of NotArmed = Failed
fall_of (StopAfter calls torn) = Stopped
fall_of (FailAt call) = Failed

-- The power is on, and nothing is armed. What the disk reads is its one image, is whole and represents this.
pub record IsAtRest (s : Standing) (m : Medium) : Type 0 where
  pub only : Only m.bytes (memory_view m).images
  pub whole : IsWhole s m.bytes
  pub unarmed : IsUnarmed m

-- The device calls of an event with these changes: none without changes, else those of a commit.
abbrev pub calls_in : Bool → List Change → Calls
calls_in whole [] = NoCalls
calls_in whole (e ∷ es) = commit_of whole

-- what stands after an event with these changes: the same without changes, else what the commit leaves
abbrev pub standing_after : Bool → Standing → List ℕ → List ℕ → List Change → Standing
standing_after whole s content payload [] = s
standing_after whole s content payload (e ∷ es) = next_standing whole s content payload

abbrev pub next_of : {C : Type 0} → Words C Medium → Standing → Hosted C → List Change → Hosted C → Standing
next_of words s before changes after = standing_after (writes_whole before) s (words.recorded after.core)
    (words.payload changes) changes

-- A host that is up over a disk on which nothing is armed, and what is to be armed. The store isn't at its last
-- generation.
pub record IsUp {C : Type 0} (words : Words C Medium) (s : Standing) (a : Armed) (host : Hosted C) (m : Medium) : Type
    0 where
  pub current : IsCurrent words.restored words.recorded s host (memory_view m)
  pub unarmed : IsUnarmed m
  pub arming : IsArming a
  pub lasting : s.generation < last_generation

-- An event on which nothing fell: the host is up, its changes stand, and the disk counts the device calls of the
-- event.
pub record WasHandled {C : Type 0} (words : Words C Medium) (s : Standing) (a : Armed) (before : Hosted C)
    (old : Medium) (changes : List Change) (after : Hosted C) (new : Medium) : Type 0 where
  pub missed : falls a (calls_in (writes_whole before) changes) ≡ false
  pub current : IsCurrent words.restored words.recorded (next_of words s before changes after) after (memory_view new)
  pub calls : new.calls ≡ calls_after old.calls (calls_in (writes_whole before) changes)
  pub unarmed : IsUnarmed new
  -- after a commit the next one is an entry, unless no entry more fits
  pub entry_next : before.whole ≡ false → after.whole ≡ false

-- An event on whose commit it fell. The host is down and the disk at rest; what stands is as the model says, and so is
-- whether the gates of both slots are open.
pub record HasFallen {C : Type 0} (words : Words C Medium) (s : Standing) (a : Armed) (before : Hosted C)
    (old : Medium) (changes : List Change) (fallen : Fallen) (after : Hosted C) (new : Medium) : Type 0 where
  pub some : changes ≢ []
  pub fell : falls a (calls_in (writes_whole before) changes) ≡ true
  pub is : fallen.fall ≡ fall_of a
  pub fired : fallen.fired ≡ true
  pub gives_it : Gives words.restored (next_of words s before changes after) (words.recorded after.core)
  pub rest : IsAtRest (if stands a (calls_in (writes_whole before) changes) then next_of words s before changes after
      else s) new
  pub gates : both_gates_open new.bytes ≡ leaves_both a (calls_in (writes_whole before) changes)
  pub calls : new.calls ≡ risen old.calls (fallen_calls a)

-- why a boot failed
abbrev pub boot_cause : OrMemory RecordFault → Fallen → OrMemory Fallen
boot_cause (Fault fault) fallen = Fault fallen
boot_cause Lacking fallen = Lacking

-- A node that is down over a disk at rest, which represents the core of this record, and what is to be armed.
pub record IsDown {C : Type 0} (words : Words C Medium) (s : Standing) (w : List ℕ) (a : Armed) (m : Medium) : Type 0
  where
    pub rest : IsAtRest s m
    pub gives_it : Gives words.restored s w
    pub arming : IsArming a

-- A boot on which nothing fell: the host is up with the core of that record, and one slot alone stands open.
pub record WasBooted {C : Type 0} (words : Words C Medium) (s : Standing) (w : List ℕ) (a : Armed) (old : Medium)
    (host : Hosted C) (new : Medium) : Type 0 where
  pub missed : falls a (BootCalls (both_gates_open old.bytes)) ≡ false
  pub current : IsCurrent words.restored words.recorded s host (memory_view new)
  pub recorded : words.recorded host.core ≡ w
  -- the next commit writes the whole record where what stands is of the first version
  pub whole : host.whole ≡ (get_or s.content 0 0 == 1)
  pub calls : new.calls ≡ calls_after old.calls (BootCalls (both_gates_open old.bytes))
  pub unarmed : IsUnarmed new

-- A boot on which it fell: what stood stands, and the model says whether the gates of both slots are still open.
pub record HasFallenAtBoot (s : Standing) (a : Armed) (old : Medium) (fallen : Fallen) (new : Medium) : Type 0 where
  pub fell : falls a (BootCalls (both_gates_open old.bytes)) ≡ true
  pub is : fallen.fall ≡ fall_of a
  pub fired : fallen.fired ≡ true
  pub rest : IsAtRest s new
  pub gates : both_gates_open new.bytes ≡ leaves_both a (BootCalls (both_gates_open old.bytes))
  pub calls : new.calls ≡ risen old.calls (fallen_calls a)

-- the record is shown: the first `len` bytes of the room are its bytes
abbrev pub IsShown : Option ℕ → List ℕ → List ℕ → Type 0
IsShown None room w = ⊥
IsShown (Some len) room w = take len room ≡ w

-- what is shown is the record of the core that these bytes give, and nothing where they give none
abbrev pub IsRecordIn : Restored → Option ℕ → List ℕ → Type 0
IsRecordIn given None room = (at : ℕ) × (given ≡ bad at)
IsRecordIn given (Some len) room = given ≡ gives (take len room)

-- the same of what stands, and nothing where nothing does
abbrev pub IsRecordOn : Restoring → Option Standing → Option ℕ → List ℕ → Type 0
IsRecordOn restored None None room = Unit {0}
IsRecordOn restored None (Some len) room = ⊥
IsRecordOn restored (Some s) shown room = IsRecordIn (restored s.content (concat s.payloads)) shown room

-- the same of a disk: nothing is shown too where it is off
abbrev pub IsRecordOf : Restoring → Medium → Option ℕ → List ℕ → Type 0
IsRecordOf restored m None room = (is_stopped m.arming ≡ true) ⊎ IsRecordOn restored (stands_on m.bytes) None room
IsRecordOf restored m (Some len) room = IsRecordOn restored (stands_on m.bytes) (Some len) room

-- whether a call of a store, or of a core, lacked memory
abbrev pub lacks_memory : StoreFault → Bool
lacks_memory store.Disk = false
lacks_memory store.NoRecord = false
lacks_memory (store.TooLarge len) = false
lacks_memory store.NoMemory = true
lacks_memory store.Worn = false

abbrev pub core_lacks_memory : OrMemory KeyError → Bool
core_lacks_memory (Fault fault) = false
core_lacks_memory Lacking = true
