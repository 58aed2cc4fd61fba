-- What stands on the disk of a centre's store, and the centre's host over it.
use Rattle.std.specs.Prelude.{ℕ, ◌≡◌, ◌⊎◌, true, if◌then◌else◌, List, [], ◌∷◌, get_or, length, Option, Some, None, Result, Ok, Err}
use Rattle.std.specs.List.{concat}
use Rattle.zb_centre_store.specs.declared.fault.AdminFault.{AdminFault}
use Rattle.zb_centre_store.specs.declared.fault.AdminFault.TheVariants.{Disk, NoStore, BadStore, Worn, NoMemory}
use Rattle.zb_disk.specs.View.{View}
use Rattle.zb_host.specs.Hosts.{Hosted, IsCurrent, StandsFor}
use Rattle.zb_base.specs.declared.fault.OrMemory.{OrMemory}
use Rattle.zb_base.specs.declared.fault.OrMemory.TheVariants as memory
use Rattle.zb_host.specs.declared.fault.RecordFault.{RecordFault}
use Rattle.zb_host.specs.declared.fault.RecordFault.TheVariants as why
use Rattle.zb_model.specs.Data.{Centre}
use Rattle.zb_model.specs.Record.{record_of}
use Rattle.zb_model.specs.Rules.{Setting}
use Rattle.zb_model.specs.State.{NodeState}
use Rattle.zb_record.specs.Ranges.{fits_widths}
use Rattle.zb_store.specs.Layout.{Standing, stands}
use Rattle.zb_base.specs.Sizes.{entries_room, last_generation}
use Rattle.zb_store.specs.Store.{AllWhole}
use Rattle.zb_stored_tables.specs.Cores.{CoreValue}
use Rattle.zb_stored_tables.specs.Stored.{restored, state_given}

-- ---- what is found before the first command

-- The tables that a record and its entries give, or the place of the first fault. A law's list may have numbers that
-- are no bytes and so give values that no record has; from bytes every value fits.
abbrev pub found_tables : Result NodeState ℕ → Result (Option NodeState) AdminFault
found_tables (Ok s) = if fits_widths s then Ok (Some s) else Err (BadStore 0)
found_tables (Err at) = Err (BadStore at)

abbrev pub found_store : Option Standing → Result (Option NodeState) AdminFault
found_store None = Err NoStore
found_store (Some s) = found_tables (state_given Centre s.content (concat s.payloads))

-- An empty disk has no store. On another one a slot stands open, whose record and entries are those of a centre: with
-- those tables it boots.
unfoldable pub found_on : List ℕ → Result (Option NodeState) AdminFault
found_on [] = Ok None
found_on (byte ∷ bytes) = found_store (stands (byte ∷ bytes))

-- ---- what a crash leaves

-- An image is empty where nothing stands; else it is whole and represents the record of these tables.
abbrev pub StandsAs : Option NodeState → List ℕ → Type 0
StandsAs None image = image ≡ []
StandsAs (Some s) image = StandsFor (restored Centre) (record_of s) image

abbrev pub StandsAsEither : Option NodeState → Option NodeState → List ℕ → Type 0
StandsAsEither old new image = StandsAs old image ⊎ StandsAs new image

pub record IsEmpty (v : View) : Type 0 where
  pub seen : v.seen ≡ []
  pub images : (image : List ℕ) → v.images image → image ≡ []

-- A disk that can be served: it is empty, or every image is whole.
abbrev pub CanBeServed : View → Type 0
CanBeServed v = IsEmpty v ⊎ AllWhole v

-- ---- the centre's host

abbrev pub recorded : CoreValue → List ℕ
recorded core = record_of core.tables

-- The centre is up with this setting and these tables, and every image represents their record. Its next commit writes
-- the whole record only where what stands is of the first version, or where no entry more fits.
pub record IsUp (c : Setting) (s : NodeState) (centre : Hosted CoreValue) (v : View) : Type 0 where
  pub core : centre.core ≡ record { setting = c; tables = s }
  pub standing : Standing
  pub current : IsCurrent (restored Centre) recorded standing centre v
  pub first : centre.whole ≡ true → get_or standing.content 0 0 ≡ 1

-- the centre is up where a store stands, and else the disk is empty
abbrev pub Stands : Setting → Option NodeState → Option (Hosted CoreValue) → View → Type 0
Stands c None None v = IsEmpty v
Stands c None (Some centre) v = ⊥
Stands c (Some s) None v = ⊥
Stands c (Some s) (Some centre) v = IsUp c s centre v

-- ---- faults

abbrev pub fault_of : OrMemory RecordFault → AdminFault
fault_of (memory.Fault why.Disk) = Disk
fault_of (memory.Fault why.NoRecord) = NoStore
fault_of (memory.Fault (why.BadRecord at)) = BadStore at
fault_of (memory.Fault why.Worn) = Worn
fault_of memory.NoMemory = NoMemory

-- A commit has to write the whole record, and there is no further generation.
pub record IsWornOut (s : Standing) : Type 0 where
  pub last : s.generation ≡ last_generation
  pub whole : (get_or s.content 0 0 ≡ 1) ⊎ (length s.payloads ≡ entries_room)
