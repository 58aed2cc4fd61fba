-- What the calls for one command leave of the disk and of what stands on it.
use Rattle.std.specs.Prelude.{ℕ, ◌≡◌, ◌++◌, Bool, true, false, List, Option, Some, None, Result, OnOk, IsTrue, option_map}
use Rattle.arrayvec.specs.ArrayVec.{ArrayVec}
use Rattle.zb_admin.specs.Served.{Done, IsRefusal}
use Rattle.zb_base.specs.Outside.{Rose, Unrisen}
use Rattle.zb_centre_store.specs.Standing.{IsWornOut, Stands, StandsAsEither}
use Rattle.zb_centre_store.specs.declared.fault.AdminFault.{AdminFault}
use Rattle.zb_centre_store.specs.declared.fault.AdminFault.TheVariants.{Disk, NoStore, BadStore, Worn, Write, NoMemory}
use Rattle.zb_disk.specs.View.{Telling, View, IsStill, LeavesOnly}
use Rattle.zb_host.specs.Hosts.{Hosted}
use Rattle.zb_model.specs.Data.{Bytes}
use Rattle.zb_model.specs.Rules.{Setting}
use Rattle.zb_model.specs.State.{NodeState}
use Rattle.zb_script.specs.declared.script.Order.{Order}
use Rattle.zb_script.specs.declared.script.Order.TheVariants.{Init, Restore}
use Rattle.zb_store.specs.Layout.{Standing, stands}
use Rattle.zb_stored_tables.specs.Cores.{CoreValue}
use Rattle.zb_text.specs.Pages.{page}

-- the bytes of a frame
abbrev pub items_of : Option (ArrayVec ℕ) → Option Bytes
items_of frame = option_map (λ (f : ArrayVec ℕ). f.items) frame

-- ---- one command

-- whether a command makes a new store
abbrev pub lays_out : Order → Option NodeState → Bool
lays_out (Init key) None = true
lays_out (Restore by bytes) None = true
lays_out _ _ = false

-- At each moment of a command, one that is cut too, an image represents what stood before it or what stands after it.
-- Of the moments inside a command that makes a new store nothing is said.
abbrev pub IsBetween : Bool → Option NodeState → Option NodeState → View → View → Type 0
IsBetween lays before after old new = lays ≡ false → LeavesOnly old new (StandsAsEither before after)

-- A command was carried out, and its lines stand on the page after what stood there; or it failed.
pub record IsCarriedOut (c : Setting) (lays : Bool) (before : Option NodeState) (d : Done) (old : View)
    (front : List ℕ) (result : Result (Unit {0}) AdminFault) (centre : Option (Hosted CoreValue)) (new : View)
    (text : List ℕ) : Type 0 where
  pub after : OnOk result (Stands c d.after centre new)
  pub lines : OnOk result (text ≡ front ++ page d.lines)
  pub between : IsBetween lays before d.after old new
  -- a refused command leaves the disk as it was, and what stands
  pub spared : OnOk result (IsRefusal d → IsStill old new × (d.after ≡ before))

-- It lacks memory, and the disk's count of faults stands; or the disk failed, or the generations are used up.
abbrev pub IsCommandFault : Telling → View → Option (Hosted CoreValue) → View → AdminFault → Type 0
IsCommandFault tells old centre new Disk = Rose old.faults new.faults
IsCommandFault tells old centre new NoStore = IsTrue tells.content → ⊥
IsCommandFault tells old centre new (BadStore at) = IsTrue tells.content → ⊥
IsCommandFault tells old centre new Worn = IsTrue tells.content → (c : Setting) (before : Option NodeState)
    → Stands c before centre old → (z : Standing) × (stands new.seen ≡ Some z) × IsWornOut z
IsCommandFault tells old centre new Write = ⊥
IsCommandFault tells old centre new NoMemory = Unrisen old.faults new.faults
