-- A session: what there is of it between two lines, and what a line does to it and writes.
use Rattle.std.specs.Prelude.{ℕ, ◌≡◌, ◌≢◌, ◌+◌, ◌++◌, min, if◌then◌else◌, is_some, map, List, [], ◌∷◌, Option, Some, None, Result, Ok, Err}
use Rattle.zb_centre_store.specs.Calls.{tables_after}
use Rattle.zb_centre_store.specs.declared.fault.AdminFault.{AdminFault}
use Rattle.zb_live.specs.Events.{task_for}
use Rattle.zb_live.specs.Shown.{event_lines, shown_text}
use Rattle.zb_live.specs.Answers.{ok_text, refused_text}
use Rattle.zb_live.specs.Grammar.{meaning_of}
use Rattle.zb_live.specs.Questions.{question_text}
use Rattle.zb_live.specs.Said.{Sentence, Quiet, Founds, Introduces, Logs, Opens, Happens, Asks}
use Rattle.zb_live.specs.declared.cause.Cause.{Cause}
use Rattle.zb_live.specs.declared.cause.Cause.TheVariants as cause
use Rattle.zb_live.specs.declared.line.Log.{Log}
use Rattle.zb_live.specs.declared.line.Log.TheVariants.{All}
use Rattle.zb_model.specs.Answer.{Answer, answer}
use Rattle.zb_model.specs.Data.{Bytes, Station, Task}
use Rattle.zb_model.specs.Play.{no_station}
use Rattle.zb_model.specs.Rules.{Setting}
use Rattle.zb_model.specs.State.{NodeState}
use Rattle.zb_model_real.specs.Real.{real}
use Rattle.zb_node_types.specs.Changes.{model_role}
use Rattle.zb_script.specs.Resolving.{SaidTask}
use Rattle.zb_script.specs.Judge.{after_centre, after_peer, has_centre}
use Rattle.zb_script.specs.Reading.{start}
use Rattle.zb_script.specs.Scripts as script
use Rattle.zb_script.specs.Scripts.{Script}
use Rattle.zb_script.specs.declared.error.ScriptCause.{ScriptCause}
use Rattle.zb_script.specs.declared.error.ScriptCause.TheVariants.{Syntax, DuplicateNode, Block, UnknownNode, BadCode, Backup, TooMany, NoCentre}
use Rattle.zb_base.specs.Limits.{greatest_count}

-- ---- the header

-- a node of the header as the policy knows it, with blocks of these sizes
abbrev pub station : ℕ → ℕ → script.Station → Station
station out_block in_block p =
    record {
      name = p.name;
      eui = p.eui;
      short = p.short;
      role = model_role p.role;
      out_block = out_block;
      in_block = in_block;
    }

-- the centre is the first node
abbrev pub first_station : ℕ → ℕ → List script.Station → Station
first_station out_block in_block [] = no_station
first_station out_block in_block (p ∷ more) = station out_block in_block p

unfoldable pub setting_of : Script → Setting
setting_of network = record {
  me = first_station network.out_block network.in_block network.stations;
  stations = map (station 0 0) network.stations;
}

-- why a line of the network isn't carried out; the other causes aren't of lines of the network
abbrev pub cause_of : ScriptCause → Cause
cause_of Syntax = cause.Syntax
cause_of DuplicateNode = cause.DuplicateNode
cause_of Block = cause.Block
cause_of UnknownNode = cause.UnknownNode
cause_of BadCode = cause.BadCode
cause_of Backup = cause.Syntax
cause_of TooMany = cause.TooMany
cause_of NoCentre = cause.NoCentre

-- ---- a session

-- A session so far: how many lines came, which lines of events are written, the network as far as it is declared, and
-- the tables of the centre once it is open. Then how many events the centre had, and how many frames it sent.
pub record Living : Type 0 where
  pub lines : ℕ
  pub log : Log
  pub network : Script
  pub tables : Option NodeState
  pub events : ℕ
  pub frames : ℕ

abbrev pub fresh : Living
fresh = record { lines = 0; log = All; network = start; tables = None; events = 0; frames = 0 }

-- the next number; numbers stop at 2^32 - 1
abbrev pub next : ℕ → ℕ
next n = min (n + 1) greatest_count

-- what is in the store at first: the tables, nothing if the disk is empty, or why it isn't a store of a centre
abbrev pub Found : Type 0
Found = Result (Option NodeState) AdminFault

-- what a line writes, and the session after it
pub record Done : Type 0 where
  pub text : Bytes
  pub after : Living

abbrev pub says_nothing : Living → Done
says_nothing v = record { text = []; after = v }

abbrev pub refused : ℕ → Cause → Living → Done
refused number cause v = record { text = refused_text number cause; after = v }

abbrev pub confirmed : ℕ → Living → Done
confirmed number v = record { text = ok_text number; after = v }

-- ---- before the session is open

abbrev pub declared : ℕ → Living → Result Script ScriptCause → Done
declared number v (Ok network) = confirmed number (record v { network = network })
declared number v (Err cause) = refused number (cause_of cause) v

-- where the store is no store of a centre the session ends
abbrev pub opened : ℕ → Found → Living → Done
opened number (Ok (Some tables)) v = confirmed number (record v { tables = Some tables })
opened number (Ok None) v = refused number cause.Empty v
opened number (Err fault) v = says_nothing v

abbrev pub on_header : ℕ → Found → Sentence → Living → Done
on_header number found Quiet v = says_nothing v
on_header number found (Founds name eui out_block in_block) v =
    declared number v (after_centre v.network name eui out_block in_block)
on_header number found (Introduces name role eui short) v =
    declared number v (after_peer v.network name role eui short)
on_header number found (Logs log) v = confirmed number (record v { log = log })
on_header number found Opens v = if has_centre v.network then opened number found v
    else refused number cause.NoCentre v
on_header number found (Happens event) v = refused number cause.Closed v
on_header number found (Asks question) v = refused number cause.Closed v

-- ---- once it is open

-- the policy's answer to a task
abbrev pub answer_to : Living → NodeState → Task → Answer
answer_to v s task = answer real (setting_of v.network) s task

-- the session after an event of the centre
abbrev pub after_event : Living → NodeState → Task → Living
after_event v s task = record {
  lines = v.lines;
  log = v.log;
  network = v.network;
  tables = Some (tables_after (setting_of v.network) task s);
  events = next v.events;
  frames = if is_some (answer_to v s task).frame then next v.frames else v.frames;
}

-- what it writes: the lines of the policy's answer, as a transcript has them
abbrev pub event_text : Living → NodeState → Task → Bytes
event_text v s task =
    let c = setting_of v.network in
    shown_text v.log c.stations (event_lines (next v.events) c.me.eui (next v.frames) (answer_to v s task))

abbrev pub happened : ℕ → Living → NodeState → Result Task Cause → Done
happened number v s (Ok task) = record { text = event_text v s task ++ ok_text number; after = after_event v s task }
happened number v s (Err cause) = refused number cause v

abbrev pub on_open : ℕ → NodeState → Sentence → Living → Done
on_open number s Quiet v = says_nothing v
on_open number s (Founds name eui out_block in_block) v = refused number cause.Opened v
on_open number s (Introduces name role eui short) v = refused number cause.Opened v
on_open number s (Logs log) v = refused number cause.Opened v
on_open number s Opens v = refused number cause.Opened v
on_open number s (Happens event) v = happened number v s (task_for v.network.stations event)
on_open number s (Asks question) v = record { text = question_text question s ++ ok_text number; after = v }

-- ---- a line

abbrev pub on_stage : ℕ → Found → Option NodeState → Sentence → Living → Done
on_stage number found None sentence v = on_header number found sentence v
on_stage number found (Some s) sentence v = on_open number s sentence v

abbrev pub on_meaning : ℕ → Found → Option Sentence → Living → Done
on_meaning number found None v = refused number cause.Syntax v
on_meaning number found (Some sentence) v = on_stage number found v.tables sentence v

-- a line more
abbrev pub counted : Living → Living
counted v = record v { lines = next v.lines }

-- what the next line does
unfoldable pub done : Found → Bytes → Living → Done
done found line v = on_meaning (next v.lines) found (meaning_of line) (counted v)

-- ---- lines, one after the other

-- what they write, and the session after them
abbrev pub served : Found → List Bytes → Living → Done
served found [] v = says_nothing v
served found (line ∷ more) v =
    let d = done found line v in
    let rest = served found more d.after in
    record { text = d.text ++ rest.text; after = rest.after }

-- A line has something to store: it is an event of an open session, and the policy's answer to it has changes.
pub record HasChanges (says : Option Sentence) (v : Living) : Type 0 where
  pub event : SaidTask
  pub is_event : says ≡ Some (Happens event)
  pub found : NodeState
  pub is_open : v.tables ≡ Some found
  pub task : Task
  pub is_task : task_for v.network.stations event ≡ Ok task
  pub changes : (answer_to v found task).edits ≢ []
