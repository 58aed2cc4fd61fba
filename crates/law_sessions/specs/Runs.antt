-- All runs of `admin` on one store, one after the other, each cut at any moment or not. What a run finds in the store,
-- which of its commands are stored, and what the centre seals in them.
use Rattle.std.specs.Prelude.{ℕ, ◌≡◌, ◌≤◌, ◌++◌, List, [], ◌∷◌, take, Option, Some, None, Result, Ok, Err, ⊤}
use Rattle.zb_admin.specs.Served.{done, served}
use Rattle.zb_centre_store.specs.Makings.{tables_of}
use Rattle.zb_centre_store.specs.Standing.{StandsAs, found_on}
use Rattle.zb_centre_store.specs.declared.fault.AdminFault.{AdminFault}
use Rattle.zb_install.specs.Code.{code_key}
use Rattle.zb_model.specs.Answer.{answer}
use Rattle.zb_model.specs.Data.{Term, DoProvision, DoRemove}
use Rattle.zb_model.specs.Rules.{Setting}
use Rattle.zb_model.specs.State.{NodeState}
use Rattle.zb_model_real.specs.Real.{real}
use Rattle.zb_record.specs.Records.{record_read}
use Rattle.zb_script.specs.Scripts.{IsScript}
use Rattle.zb_script.specs.declared.script.Order.{Order}
use Rattle.zb_script.specs.declared.script.Order.TheVariants.{Init, Provision, Remove, List as Lists, Backup, Restore}
use Rattle.zb_script.specs.declared.script.Script.{Script}
use Rattle.zb_script.specs.declared.script.Step.{Step}
use Rattle.zb_setting.specs.Settings.{setting_for}
use Rattle.zb_stored_tables.specs.Stored.{IsKept}

-- ---- what is sealed

-- If there is a store, `provision` and `remove` seal what the policy's answer seals. No other command seals.
abbrev pub order_seals : Setting → Order → NodeState → List Term
order_seals c (Init key) s = []
order_seals c (Provision device code) s = (answer real c s (DoProvision device.0 (code_key code))).seals
order_seals c (Remove device via) s = (answer real c s (DoRemove device.0 via.0)).seals
order_seals c Lists s = []
order_seals c Backup s = []
order_seals c (Restore by bytes) s = []

abbrev pub step_seals : Setting → Step → Option NodeState → List Term
step_seals c step None = []
step_seals c step (Some s) = order_seals c step.order s

-- what commands seal, one after the other
abbrev pub steps_seal : Setting → List Step → Option NodeState → List Term
steps_seal c [] standing = []
steps_seal c (step ∷ steps) standing = step_seals c step standing ++ steps_seal c steps (done c step standing).after

-- ---- runs on a disk

-- A run with how many of its commands are stored, the first ones, and the image that its end, or a crash at any moment
-- of it, left of the disk.
pub record Run : Type 0 where
  pub script : Script
  pub stored : ℕ
  pub left : List ℕ

abbrev pub setting_of : Run → Setting
setting_of r = setting_for r.script.config

abbrev pub commands_of : Run → List Step
commands_of r = take r.stored r.script.steps

-- the tables after these commands, over what the run found
abbrev pub after_run : Run → Option NodeState → Option NodeState
after_run r standing = (served (setting_of r) (commands_of r) standing).after

-- The image holds the tables, or nothing if there are none. Tables of a centre keep the rules for records and
-- the widths of a record.
abbrev pub KeepsTables : Option NodeState → List ℕ → Type 0
KeepsTables None image = image ≡ []
KeepsTables (Some s) image = IsKept s × StandsAs (Some s) image

abbrev pub Found : Type 0
Found = Result (Option NodeState) AdminFault

-- What a run leaves, by what it found. A store that is no centre's stays so.
abbrev pub IsLeft : Run → Found → Type 0
IsLeft r (Ok standing) = KeepsTables (after_run r standing) r.left
IsLeft r (Err fault) = found_on r.left ≡ Err fault

-- each run begins on the image that the one before left
abbrev pub AreRuns : List ℕ → List Run → Type 0
AreRuns image [] = ⊤
AreRuns image (r ∷ more) = IsScript r.script × IsLeft r (found_on image) × AreRuns r.left more

-- what a run seals
abbrev pub run_seals : Run → Found → List Term
run_seals r (Ok standing) = steps_seal (setting_of r) (commands_of r) standing
run_seals r (Err fault) = []

-- what all of them seal
abbrev pub sealed_on : List ℕ → List Run → List Term
sealed_on image [] = []
sealed_on image (r ∷ more) = run_seals r (found_on image) ++ sealed_on r.left more

-- the image that the last of them left
abbrev pub left_by_all : List ℕ → List Run → List ℕ
left_by_all image [] = image
left_by_all image (r ∷ more) = left_by_all r.left more

-- ---- a restore

-- The first of these runs, on an empty disk, begins with a stored `restore` of this backup, which raises the limits by
-- so much.
abbrev pub Restores : ℕ → List ℕ → List Run → Type 0
Restores by bytes [] = ⊤
Restores by bytes (r ∷ more) = (line : ℕ) × (steps : List Step) × (1 ≤ r.stored)
    × (r.script.steps ≡ record { line = line; order = Restore by bytes } ∷ steps)

-- the tables of a backup
abbrev pub backup_tables : List ℕ → NodeState
backup_tables bytes = tables_of (record_read bytes)
