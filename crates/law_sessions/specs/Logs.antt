-- The log of a hub: the tasks that its centre has in all sessions on a store, and the lines that it writes of them.
use Rattle.std.specs.Prelude.{ℕ, ◌≡◌, ◌++◌, true, is_some, flat_map, List, [], ◌∷◌, Option, Some, None, Result, Ok, Err, ⊤}
use Rattle.law_run.specs.Commanding.{OneCentre}
use Rattle.law_run_counters.specs.Counted.{Counted}
use Rattle.law_sessions.specs.Hubs.{hub_events}
use Rattle.law_sessions.specs.Sessions.{Session, left_by}
use Rattle.zb_centre_store.specs.Standing.{found_on}
use Rattle.zb_live.specs.Events.{task_for}
use Rattle.zb_live.specs.Living.{Found, Living, answer_to, done, fresh, next, served, setting_of}
use Rattle.zb_live.specs.Shown.{event_lines}
use Rattle.zb_live.specs.Grammar.{meaning_of}
use Rattle.zb_live.specs.Said.{Sentence, Happens}
use Rattle.zb_live.specs.declared.cause.Cause.{Cause}
use Rattle.zb_model.specs.Claims.{Confirms, Fresh, Lawful, Once}
use Rattle.zb_model.specs.Data.{Bytes, Task}
use Rattle.zb_model.specs.Lines.{Line, Boot, DownReset}
use Rattle.zb_model.specs.Play as play
use Rattle.zb_model.specs.Play.{Schedule, start}
use Rattle.zb_model.specs.Readings.{state_of}
use Rattle.zb_model.specs.Rules.{Setting}
use Rattle.zb_model.specs.Schedules.{Names}
use Rattle.zb_model.specs.State.{NodeState, after_boot, shown}
use Rattle.zb_model.specs.Transcript.{transcript}
use Rattle.zb_model_real.specs.Real.{real}
use Rattle.zb_script.specs.Scripts.{Script}

-- ---- a line

-- the task of an event; one that is refused for a name has none
abbrev pub task_in : Result Task Cause → List Task
task_in (Ok task) = task ∷ []
task_in (Err cause) = []

-- of all lines those of events represent tasks
abbrev pub sentence_tasks : Script → Sentence → List Task
sentence_tasks network (Happens event) = task_in (task_for network.stations event)
sentence_tasks network _ = []

-- none does before the session is open, nor one that means nothing
abbrev pub meaning_tasks : Script → Option NodeState → Option Sentence → List Task
meaning_tasks network None said = []
meaning_tasks network (Some s) None = []
meaning_tasks network (Some s) (Some sentence) = sentence_tasks network sentence

-- the task that the next line represents, if it does
unfoldable pub line_tasks : Bytes → Living → List Task
line_tasks line v = meaning_tasks v.network v.tables (meaning_of line)

-- The lines of a task, as the session numbers them. Their text is what `event_text` writes, with `log all`.
abbrev pub task_writes : Living → NodeState → Task → List Line
task_writes v s task = event_lines (next v.events) (setting_of v.network).me.eui (next v.frames) (answer_to v s task)

abbrev pub writes_in : Living → Option NodeState → List Task → List Line
writes_in v None tasks = []
writes_in v (Some s) tasks = flat_map (task_writes v s) tasks

-- the lines of the task of the next line
unfoldable pub line_writes : Bytes → Living → List Line
line_writes line v = writes_in v v.tables (line_tasks line v)

-- ---- the lines of a session, one after the other

abbrev pub lines_tasks : Found → List Bytes → Living → List Task
lines_tasks found [] v = []
lines_tasks found (line ∷ more) v = line_tasks line v ++ lines_tasks found more (done found line v).after

abbrev pub lines_write : Found → List Bytes → Living → List Line
lines_write found [] v = []
lines_write found (line ∷ more) v = line_writes line v ++ lines_write found more (done found line v).after

-- ---- sessions

-- where a session was opened, its tasks
abbrev pub opened_tasks : Option NodeState → List Task → List (List Task)
opened_tasks None tasks = []
opened_tasks (Some s) tasks = tasks ∷ []

-- and the reset and the boot of the centre, and its lines
abbrev pub opened_lines : ℕ → Option NodeState → List Line → List Line
opened_lines n None lines = []
opened_lines n (Some s) lines = DownReset 0 n ∷ Boot 0 n ∷ lines

-- the tasks of each session that was opened, a session being the list of its lines that are stored
abbrev pub hub_tasks : Found → List (List Bytes) → List (List Task)
hub_tasks found [] = []
hub_tasks found (lines ∷ more) =
    opened_tasks (served found lines fresh).after.tables (lines_tasks found lines fresh)
    ++ hub_tasks (left_by found lines) more

-- The log of all sessions on a store, of a centre with this EUI.
abbrev pub hub_log : ℕ → Found → List (List Bytes) → List Line
hub_log n found [] = []
hub_log n found (lines ∷ more) =
    opened_lines n (served found lines fresh).after.tables (lines_write found lines fresh)
    ++ hub_log n (left_by found lines) more

-- the log of sessions on one disk, each of which begins on the image that the one before left
abbrev pub log_on : ℕ → List ℕ → List Session → List Line
log_on n image [] = []
log_on n image (x ∷ more) =
    opened_lines n (served (found_on image) x.lines fresh).after.tables
    (lines_write (found_on image) x.lines fresh)
    ++ log_on n x.left more

-- ---- the run

-- the header of a session that was opened gives this setting
abbrev pub HasSetting : Setting → Living → Type 0
HasSetting c v = is_some v.tables ≡ true → setting_of v.network ≡ c

abbrev pub AllHaveSetting : Setting → Found → List (List Bytes) → Type 0
AllHaveSetting c found [] = ⊤
AllHaveSetting c found (lines ∷ more) =
    HasSetting c (served found lines fresh).after × AllHaveSetting c (left_by found lines) more

-- The hub is the node of this EUI in a schedule. Its events are those of the hub, and its store held at first what the
-- node has at the start. The header of each session that was opened is that of the schedule's nodes.
pub record IsHubOf (w : Schedule) (n : ℕ) (found : Found) (sessions : List (List Bytes)) : Type 0 where
  pub named : Names w n
  pub events : w.events ≡ hub_events n (hub_tasks found sessions)
  pub found_so : found ≡ Ok (Some (shown (after_boot (state_of (start w) n))))
  pub headers : AllHaveSetting (play.setting_of w n) found sessions

-- What holds of the run of a hub: each group answers its event by the policy, with the counters that it must have. No
-- two seals have one key and nonce, and no counter of a sender is accepted twice under one key. Where the schedule has
-- one centre, only stored keys are confirmed.
pub record HubHolds (w : Schedule) : Type 0 where
  pub lawful : Lawful real w (transcript real w)
  pub counted : Counted real w (transcript real w)
  pub fresh : Fresh real (transcript real w)
  pub once : Once (transcript real w)
  pub confirms : OneCentre w → Confirms real (transcript real w)
