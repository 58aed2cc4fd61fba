-- The condition of a node after the lines so far: its setting, its state, how many commits it made, whether it has
-- power, and what is armed on its disk. Then its condition after an event.
use Rattle.std.specs.Prelude.{ℕ, ◌+◌, Bool, true, false, if◌then◌else◌, List, [], ◌∷◌}
use Rattle.zb_model.specs.Answer.{Answer, answered}
use Rattle.zb_model.specs.Data.{Edit}
use Rattle.zb_model.specs.Lines.{Line}
use Rattle.zb_model.specs.Play.{Schedule, Disk, DiskState, Armed, NotArmed, Calls, NoCalls, BootCalls, commit_calls, disk_of, stands, leaves_both, setting_of}
use Rattle.zb_model.specs.Readings.{commits_of, is_up, state_of}
use Rattle.zb_model.specs.Rules.{Setting}
use Rattle.zb_model.specs.State.{NodeState, after_boot, applied_all}

pub record Condition : Type 0 where
  pub setting : Setting
  pub state : NodeState
  pub commits : ℕ
  pub up : Bool
  pub disk : DiskState

-- the condition of the node of this EUI after these lines, with these disks
abbrev pub condition_of : Schedule → List Line → List Disk → ℕ → Condition
condition_of w h ds n =
    record {
      setting = setting_of w n;
      state = state_of h n;
      commits = commits_of h n;
      up = is_up h n;
      disk = disk_of ds n;
    }

-- the device calls of an event with these changes, after that number of commits
abbrev pub calls_by : ℕ → List Edit → Calls
calls_by commits [] = NoCalls
calls_by commits (e ∷ es) = commit_calls commits

-- how many commits there are after these changes are stored
abbrev pub commits_with : ℕ → List Edit → ℕ
commits_with commits [] = commits
commits_with commits (e ∷ es) = commits + 1

-- nothing is armed any more, and the gates of both slots are open or not
abbrev pub disk_left : Bool → DiskState
disk_left both = record { armed = NotArmed; both_open = both }

-- after an event with this answer
abbrev pub after_whole : Answer → Condition → Condition
after_whole a x = record x { state = answered a x.state; commits = commits_with x.commits a.edits }

-- The changes are stored.
abbrev pub after_storing : List Edit → Condition → Condition
after_storing es x = record x { state = applied_all es x.state; commits = commits_with x.commits es }

-- The disk stopped or failed at a call: the node has no power.
abbrev pub after_fall : Bool → Condition → Condition
after_fall both x = record x { up = false; disk = disk_left both }

-- after an event whose commit was hit by an armed stop or failure: its changes are stored or not
abbrev pub after_cut : Answer → Condition → Condition
after_cut a x =
    let calls = calls_by x.commits a.edits in
    if stands x.disk.armed calls then after_fall (leaves_both x.disk.armed calls) (after_storing a.edits x)
    else after_fall (leaves_both x.disk.armed calls) x

abbrev pub after_reset : Condition → Condition
after_reset x = record x { up = false }

-- after a boot, and after a boot that was hit by an armed stop or failure
abbrev pub after_power_on : Condition → Condition
after_power_on x =
    record x { up = true; state = after_boot x.state; disk = record { armed = x.disk.armed; both_open = false } }

abbrev pub after_cut_boot : Condition → Condition
after_cut_boot x = record x { disk = disk_left (leaves_both x.disk.armed (BootCalls x.disk.both_open)) }

-- after this was armed instead of what was armed before
abbrev pub after_arming : Armed → Condition → Condition
after_arming a x = record x { disk = record { armed = a; both_open = x.disk.both_open } }
