-- A script over the bytes of a store: what comes of it.
use Rattle.std.specs.Prelude.{ℕ, ◌≡◌, ◌≤◌, ◌<◌, List, length, Option, Result, Ok, Err, ⊤}
use Rattle.tc_c_centre.specs.Buffers.{Made}
use Rattle.tc_c_centre.specs.Outside.{Written}
use Rattle.tc_c_centre.specs.Stores.{IsSound, in_memory, unwritten}
use Rattle.tc_c_centre.specs.declared.fault.CallFault.{CallFault}
use Rattle.tc_c_centre.specs.declared.fault.CallFault.TheVariants.{Usage, Short, Refused, NoMemory, NoStore, TooLong, BadStore, Worn}
use Rattle.zb_admin.specs.Served.{served, served_text}
use Rattle.zb_admin.specs.Serving.{Ended, Serves}
use Rattle.zb_centre_store.specs.Standing.{StandsAs, found_on}
use Rattle.zb_centre_store.specs.declared.fault.AdminFault.TheVariants as store
use Rattle.zb_disk.specs.Memory.{Medium, fresh}
use Rattle.zb_model.specs.State.{NodeState}
use Rattle.zb_script.specs.Reading.{script_in}
use Rattle.zb_script.specs.Views.{script_of}
use Rattle.zb_script.specs.declared.error.ScriptCause.{ScriptCause}
use Rattle.zb_script.specs.declared.error.ScriptCause.TheVariants.{Syntax, DuplicateNode, Block, UnknownNode, BadCode, Backup, TooMany, NoCentre}
use Rattle.zb_script.specs.declared.error.ScriptError.{ScriptError}
use Rattle.zb_script.specs.declared.script.Script.{Script}
use Rattle.zb_setting.specs.Settings.{setting_for}

-- a script has at most this number of bytes, as for `tc admin`
abbrev pub longest_script : ℕ
longest_script = 16777216

abbrev pub cause_number : ScriptCause → ℕ
cause_number Syntax = 1
cause_number DuplicateNode = 2
cause_number Block = 3
cause_number UnknownNode = 4
cause_number BadCode = 5
cause_number Backup = 6
cause_number TooMany = 7
cause_number NoCentre = 8

-- The text is a script, which was served over a store in memory, from the store's bytes on, to this end.
pub record EndsScript (text old : List ℕ) (ended : Ended) (new : Medium) (answer : Written) : Type 0 where
  pub script : Script
  pub short : length text ≤ longest_script
  pub reads : script_in text ≡ Ok (script_of script)
  pub serves : Serves in_memory script (fresh old) unwritten ended new answer

-- It was served to its end: the new bytes are what the store in memory reads, the answer is what was written.
pub record ServesScript (text old : List ℕ) (made : Made) : Type 0 where
  pub disk : Medium
  pub page : Written
  pub ends : EndsScript text old (Ok tt) disk page
  pub store_is : made.store ≡ disk.bytes
  pub answer_is : made.answer ≡ page.text
  -- the store holds a centre's record, or is empty
  pub standing : Option NodeState
  pub found : found_on old ≡ Ok standing
  -- the answer is the text of the commands
  pub says : IsSound old
      → made.answer ≡ served_text (setting_for ends.script.config) ends.script.steps standing
  -- the new bytes are the store after them
  pub stands_so : IsSound old
      → StandsAs (served (setting_for ends.script.config) ends.script.steps standing).after made.store

-- the text is a script
pub record IsScriptText (text : List ℕ) : Type 0 where
  pub script : Script
  pub short : length text ≤ longest_script
  pub reads : script_in text ≡ Ok (script_of script)

-- the text is no script: its first bad line, and the number of that line's first cause
pub record IsNoScript (text : List ℕ) (line cause : ℕ) : Type 0 where
  pub error : ScriptError
  pub short : length text ≤ longest_script
  pub reads : script_in text ≡ Err error
  pub line_is : line ≡ error.line
  pub cause_is : cause ≡ cause_number error.cause

-- what comes of a script, or why nothing does
abbrev pub IsOfScript : List ℕ → List ℕ → Result Made CallFault → Type 0
IsOfScript text old (Ok made) = ServesScript text old made
IsOfScript text old (Err Usage) = ⊥
IsOfScript text old (Err (Short needed)) = ⊥
IsOfScript text old (Err (Refused line cause)) = IsNoScript text line cause
IsOfScript text old (Err NoMemory) = ⊤
IsOfScript text old (Err NoStore) = IsScriptText text × (found_on old ≡ Err store.NoStore)
IsOfScript text old (Err TooLong) = longest_script < length text
IsOfScript text old (Err (BadStore at)) = IsScriptText text × (found_on old ≡ Err (store.BadStore at))
IsOfScript text old (Err Worn) = (disk : Medium) × (page : Written) × EndsScript text old (Err store.Worn) disk page

-- What a call makes of a script that ended so. A store in memory doesn't fail, and the answer fails where memory is
-- short.
abbrev pub made_of_script : Ended → Medium → Written → Result Made CallFault
made_of_script (Ok tt) disk page = Ok (record { store = disk.bytes; answer = page.text })
made_of_script (Err store.Disk) disk page = Err NoMemory
made_of_script (Err store.NoStore) disk page = Err NoStore
made_of_script (Err (store.BadStore at)) disk page = Err (BadStore at)
made_of_script (Err store.Worn) disk page = Err Worn
made_of_script (Err store.Write) disk page = Err NoMemory
made_of_script (Err store.NoMemory) disk page = Err NoMemory
