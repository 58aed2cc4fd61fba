-- What a run of a program leaves on a disk that had one image at first.
use Rattle.std.specs.Prelude.{ℕ, ◌≡◌, List, [], ◌∷◌, Some}
use Rattle.law_sessions.specs.Runs.{AreRuns}
use Rattle.law_sessions.specs.Sessions.{AreKept, AreSessions}
use Rattle.zb_admin.specs.Moments.{standing_after}
use Rattle.zb_disk.specs.View.{Only, View}
use Rattle.zb_model.specs.Data.{Bytes}
use Rattle.zb_model.specs.State.{NodeState}
use Rattle.zb_script.specs.declared.script.Script.{Script}
use Rattle.zb_setting.specs.Settings.{setting_for}

-- the disk reads these bytes, and they are its one image
pub record IsOnly (image : List ℕ) (v : View) : Type 0 where
  pub seen : v.seen ≡ image
  pub only : Only image v.images

-- an image that a session of some lines left, which began on this image
pub record IsOfSession (image left : List ℕ) : Type 0 where
  pub lines : List Bytes
  pub is_session : AreSessions image (record { lines = lines; left = left } ∷ [])

-- an image that a run of `admin` with some first commands of a script left, which began on this image
pub record IsOfRun (image : List ℕ) (script : Script) (left : List ℕ) : Type 0 where
  pub stored : ℕ
  pub is_run : AreRuns image (record { script = script; stored = stored; left = left } ∷ [])

-- After any first commands over these tables, the tables keep the rules for records and the widths of a record.
abbrev pub AreKeptAlong : Script → NodeState → Type 0
AreKeptAlong script s = (n : ℕ) → AreKept (standing_after (setting_for script.config) script.steps (Some s) n)
