-- The lines of a session over the bytes of a store: what comes of them.
use Rattle.std.specs.Prelude.{ℕ, ◌≡◌, ◌++◌, List, Some, Result, Ok, Err, ⊤}
use Rattle.tc_c_centre.specs.Buffers.{Made}
use Rattle.tc_c_centre.specs.Outside.{Written}
use Rattle.tc_c_centre.specs.Stores.{IsSound, in_memory, unwritten}
use Rattle.tc_c_centre.specs.declared.fault.CallFault.{CallFault}
use Rattle.tc_c_centre.specs.declared.fault.CallFault.TheVariants.{Usage, Short, Refused, NoMemory, NoStore, TooLong, BadStore, Worn}
use Rattle.zb_centre_store.specs.Standing.{found_on}
use Rattle.zb_centre_store.specs.declared.fault.AdminFault.TheVariants as store
use Rattle.zb_disk.specs.Memory.{Medium, fresh as disk_of, memory_view}
use Rattle.zb_live.specs.Alive.{CrashLeaves}
use Rattle.zb_live.specs.Living.{fresh, served}
use Rattle.zb_live.specs.Feeding.{BeginsLong}
use Rattle.zb_live.specs.Moments.{Input, input_of}
use Rattle.zb_live.specs.Serving.{Ended, Lives}
use Rattle.zb_live.specs.WholeLines.{whole_lines}
use Rattle.zb_live.specs.declared.fault.LiveFault.TheVariants as live

-- The lines were served over a store in memory, from the store's bytes on, to this end.
pub record EndsLines (text old : List ℕ) (ended : Ended) (new : Medium) (answer : Written) : Type 0 where
  pub rest : Input
  pub lives : Lives in_memory (input_of (Some text) 0 0) (disk_of old) unwritten ended rest new answer

-- All were served: the new bytes are what the store in memory reads, the answer is what was written.
pub record ServesLines (text old : List ℕ) (made : Made) : Type 0 where
  pub disk : Medium
  pub page : Written
  pub ends : EndsLines text old (Ok tt) disk page
  pub store_is : made.store ≡ disk.bytes
  pub answer_is : made.answer ≡ page.text
  -- the answer is what the whole lines write
  pub says : IsSound old → made.answer ≡ (served (found_on old) (whole_lines text) fresh).text
  -- the new bytes hold the session after them
  pub holds : IsSound old → CrashLeaves (memory_view (disk_of old))
      (served (found_on old) (whole_lines text) fresh).after.tables made.store

-- what comes of the lines, or why nothing does
abbrev pub IsOfLines : List ℕ → List ℕ → Result Made CallFault → Type 0
IsOfLines text old (Ok made) = ServesLines text old made
IsOfLines text old (Err Usage) = ⊥
IsOfLines text old (Err (Short needed)) = ⊥
IsOfLines text old (Err (Refused line cause)) = ⊥
IsOfLines text old (Err NoMemory) = ⊤
IsOfLines text old (Err NoStore) = found_on old ≡ Err store.NoStore
IsOfLines text old (Err TooLong) = (front back : List ℕ) × (text ≡ front ++ back) × BeginsLong back
IsOfLines text old (Err (BadStore at)) = found_on old ≡ Err (store.BadStore at)
IsOfLines text old (Err Worn) = (disk : Medium) × (page : Written) × EndsLines text old (Err live.Worn) disk page

-- What a call makes of lines that ended so. A store in memory doesn't fail, nor do lines in memory, and the answer
-- fails where memory is short.
abbrev pub made_of_lines : Ended → Medium → Written → Result Made CallFault
made_of_lines (Ok tt) disk page = Ok (record { store = disk.bytes; answer = page.text })
made_of_lines (Err live.Read) disk page = Err NoMemory
made_of_lines (Err live.TooLong) disk page = Err TooLong
made_of_lines (Err live.Write) disk page = Err NoMemory
made_of_lines (Err live.Disk) disk page = Err NoMemory
made_of_lines (Err live.NoStore) disk page = Err NoStore
made_of_lines (Err (live.BadStore at)) disk page = Err (BadStore at)
made_of_lines (Err live.Worn) disk page = Err Worn
made_of_lines (Err live.NoMemory) disk page = Err NoMemory
