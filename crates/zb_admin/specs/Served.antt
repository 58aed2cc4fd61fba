-- What a script's commands write, and what stands after them. What stands is the tables of the centre, with their
-- counters in memory; or nothing, where the disk is empty.
use Rattle.std.specs.Prelude.{ℕ, ◌≡◌, ◌≢◌, List, [], ◌∷◌, ◌++◌, codes, Option, Some, None}
use Rattle.zb_centre_store.specs.Rows.{listed}
use Rattle.zb_admin.specs.Texts.{ok_line, refuse_line, send_line, reason_text}
use Rattle.zb_backup.specs.Format.{backup_text}
use Rattle.zb_centre_store.specs.Makings.{first_tables, tables_of}
use Rattle.zb_install.specs.Code.{code_key}
use Rattle.zb_model.specs.Answer.{answer, answered}
use Rattle.zb_model.specs.Data.{Bytes, Edit, Task, DoProvision, DoRemove, Reason}
use Rattle.zb_model.specs.Rules.{Setting}
use Rattle.zb_model.specs.State.{NodeState, shown}
use Rattle.zb_model_real.specs.Real.{real}
use Rattle.zb_record.specs.Records.{record_read}
use Rattle.zb_script.specs.declared.script.Order.{Order}
use Rattle.zb_script.specs.declared.script.Order.TheVariants.{Init, Provision, Remove, List as Lists, Backup, Restore}
use Rattle.zb_script.specs.declared.script.Step.{Step}
use Rattle.zb_centre_store.specs.Skipping.{skipped}
use Rattle.zb_text.specs.Pages.{page}

-- the lines of a command, and what stands after it
pub record Done : Type 0 where
  pub lines : List Bytes
  pub after : Option NodeState

abbrev pub refused : ℕ → Bytes → Option NodeState → Done
refused number why standing = record { lines = refuse_line number why ∷ []; after = standing }

-- its line is a refusal
abbrev pub IsRefusal : Done → Type 0
IsRefusal d = (number : ℕ) × (why : Bytes) × (d.lines ≡ refuse_line number why ∷ [])

abbrev pub does : ℕ → List Bytes → NodeState → Done
does number lines tables = record { lines = lines ++ ok_line number ∷ []; after = Some tables }

-- ---- an event of the centre

abbrev pub sent_lines : Option Bytes → List Bytes
sent_lines None = []
sent_lines (Some frame) = send_line frame ∷ []

abbrev pub outcome_lines : ℕ → Option Reason → Option Bytes → List Bytes
outcome_lines number (Some reason) frame = refuse_line number (reason_text reason) ∷ []
outcome_lines number None frame = sent_lines frame ++ ok_line number ∷ []

-- The policy's answer to it, with the counters that the centre has. A refusal changes nothing.
abbrev pub handled : Setting → ℕ → Task → NodeState → Done
handled c number task s = let a =
    answer real c s task in
    record { lines = outcome_lines number a.refusal a.frame; after = Some (shown (answered a s)) }

-- ---- a command, where a store stands and where none does

abbrev pub on_store : Setting → ℕ → Order → NodeState → Done
on_store c number (Init key) s = refused number (codes "exists") (Some s)
on_store c number (Provision device code) s = handled c number (DoProvision device.0 (code_key code)) s
on_store c number (Remove device via) s = handled c number (DoRemove device.0 via.0) s
on_store c number Lists s = does number (listed s) s
on_store c number Backup s = does number (backup_text s ∷ []) s
on_store c number (Restore by bytes) s = refused number (codes "exists") (Some s)

abbrev pub on_empty : ℕ → Order → Done
on_empty number (Init key) = does number [] (first_tables key.0)
on_empty number (Restore by bytes) = does number [] (skipped by (tables_of (record_read bytes)))
on_empty number _ = refused number (codes "empty") None

unfoldable pub done : Setting → Step → Option NodeState → Done
done c step (Some s) = on_store c step.line step.order s
done c step None = on_empty step.line step.order

-- ---- what a command has to store, where a store stands

-- the changes of the policy's answer
abbrev pub changes_for : Setting → Order → NodeState → List Edit
changes_for c (Init key) s = []
changes_for c (Provision device code) s = (answer real c s (DoProvision device.0 (code_key code))).edits
changes_for c (Remove device via) s = (answer real c s (DoRemove device.0 via.0)).edits
changes_for c Lists s = []
changes_for c Backup s = []
changes_for c (Restore by bytes) s = []

-- A store stands, and there are some.
abbrev pub HasChanges : Setting → Step → Option NodeState → Type 0
HasChanges c step None = ⊥
HasChanges c step (Some s) = changes_for c step.order s ≢ []

-- ---- all commands, one after the other

abbrev pub served : Setting → List Step → Option NodeState → Done
served c [] standing = record { lines = []; after = standing }
served c (step ∷ steps) standing =
    let first = done c step standing in
    let rest = served c steps first.after in
    record { lines = first.lines ++ rest.lines; after = rest.after }

-- all that is written
abbrev pub served_text : Setting → List Step → Option NodeState → Bytes
served_text c steps standing = page (served c steps standing).lines
