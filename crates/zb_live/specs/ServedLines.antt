-- A line of a session that is served: it was taken, and then what it writes was written; or the session ends at it.
use Rattle.std.specs.Prelude.{ℕ, ◌≡◌, ◌⊎◌, List, Option, None, Result, Ok, OnOk, OnErr}
use Rattle.std.specs.Io.KnownBytes.{Appends}
use Rattle.zb_base.specs.Outside.{AppendsFront, Rose}
use Rattle.zb_centre_store.specs.Outside.{Outside}
use Rattle.zb_centre_store.specs.declared.fault.AdminFault.TheVariants as store
use Rattle.zb_disk.specs.View.{IsStill, LeavesOnly}
use Rattle.zb_live.specs.Alive.{CrashLeaves, LeavesEither, IsAlive, IsLineFault, living_of}
use Rattle.zb_live.specs.Grammar.{meaning_of}
use Rattle.zb_live.specs.Living.{Done, Found, done}
use Rattle.zb_live.specs.declared.session.Session.{Session}
use Rattle.zb_live.specs.declared.fault.LiveFault.{LiveFault}
use Rattle.zb_live.specs.declared.fault.LiveFault.TheVariants.{Read, TooLong, Write, Disk, NoStore, BadStore, Worn, NoMemory}
use Rattle.zb_model.specs.Data.{Bytes}
use Rattle.zb_model.specs.State.{NodeState}

pub record HasServedLine {D W : Type 0} (x : Outside D W) (found : Found) (session : Session) (d : Done) (old : D)
    (before : W) (result : Result (Unit {0}) LiveFault) (next : Session) (new : D) (after : W) : Type 0 where
  pub alive : OnOk result (IsAlive found next (x.state new))
  pub after_it : OnOk result (living_of next ≡ d.after)
  pub between : LeavesOnly (x.state old) (x.state new)
      (LeavesEither (x.state old) (living_of session).tables d.after.tables)
  pub lines : OnOk result (Appends (x.taken before) (x.taken after) d.text)
  -- nothing was written, or a prefix of what the line writes was, once every image holds the session after it
  pub cut : OnErr result ((after ≡ before)
      ⊎ (AppendsFront (x.taken before) (x.taken after) d.text
      × ((image : List ℕ) → (x.state new).images image → CrashLeaves (x.state new) d.after.tables image)
      × (d.after.tables ≡ None → IsStill (x.state old) (x.state new))))

-- Over any store, one that tells nothing too, what a line writes was written, and the session is the one after it.
-- Where it opens the session, some tables are found in the store, or none.
abbrev pub HasWritten : Bytes → Session → Option Bytes → Session → Option Bytes → Type 0
HasWritten line session before next after =
    (found : Option NodeState) × Appends before after (done (Ok found) line (living_of session)).text
    × (living_of next ≡ (done (Ok found) line (living_of session)).after)

-- or a prefix of it was
abbrev pub HasWrittenFront : Bytes → Session → Option Bytes → Option Bytes → Type 0
HasWrittenFront line session before after =
    (found : Option NodeState) × AppendsFront before after (done (Ok found) line (living_of session)).text

-- When each fault comes. Where the store fails, or memory is short, nothing is written.
abbrev pub IsServeFault : {D W : Type 0} → Outside D W → Bytes → Session → D → W → D → W → LiveFault → Type 0
IsServeFault x line session old before new after Read = ⊥
IsServeFault x line session old before new after TooLong = ⊥
IsServeFault x line session old before new after Write = Rose (x.faults before) (x.faults after)
IsServeFault x line session old before new after Disk = (after ≡ before)
    × IsLineFault x.tells (meaning_of line) session (x.state old) (x.state new) store.Disk
IsServeFault x line session old before new after NoStore = (after ≡ before)
    × IsLineFault x.tells (meaning_of line) session (x.state old) (x.state new) store.NoStore
IsServeFault x line session old before new after (BadStore at) = (after ≡ before)
    × IsLineFault x.tells (meaning_of line) session (x.state old) (x.state new) (store.BadStore at)
IsServeFault x line session old before new after Worn = (after ≡ before)
    × IsLineFault x.tells (meaning_of line) session (x.state old) (x.state new) store.Worn
IsServeFault x line session old before new after NoMemory = (after ≡ before)
    × IsLineFault x.tells (meaning_of line) session (x.state old) (x.state new) store.NoMemory
