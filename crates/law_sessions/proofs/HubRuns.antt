-- What the groups of a hub's events are: the lines of the policy's answers, from what the tables show.
use Rattle.std.proofs.Common.{◌≡◌, ℕ, ◌+◌, true, false, List, [], ◌∷◌, ◌++◌, refl, sym, ap, ◌∙◌, subst, append_assoc}
use Rattle.law_answer_storable.specs.Storing.{OpensAsJudged}
use Rattle.law_sessions.specs.Hubs.{hub_events, task_events, tasks_events, without_numbers}
use Rattle.law_sessions.proofs.PlainLines.{both_parts, plain_lines, plain_whole}
use Rattle.law_run_steps.specs.Conditions.{Condition, calls_by}
use Rattle.law_run_steps.proofs.Answered.{is-answered}
use Rattle.law_run_steps.proofs.Others.{boot-down, booted, injected, own-up, reset-up}
use Rattle.law_run_steps.proofs.Spared.{spared}
use Rattle.law_run_steps.proofs.Starts.{group-first, start-power}
use Rattle.law_tables_suffice.proofs.Answered.{answered_same, boot_same, twice_same}
use Rattle.law_tables_suffice.proofs.Answers.{answer_same}
use Rattle.law_tables_suffice.proofs.LiveKeys.{accepts_live}
use Rattle.law_tables_suffice.proofs.States.{read_differ}
use Rattle.zb_model.specs.Answer.{answer, answered}
use Rattle.zb_model.specs.Data.{Bytes, Task, SayTo, TellTo, DoKnock, DoRejoin, DoTimer, AskFor, HasChild, DoProvision, DoRemove, DoRoll, DoSwitch, DoAgain, DoShare, Received}
use Rattle.zb_model.specs.Lines.{Line, Boot, DownReset}
use Rattle.zb_model.specs.Play.{BootCalls, Disk, DiskState, Event, Own, Reset, PowerOn, InjectBytes, Schedule, Step, disk_of, falls, groups, new_disk, setting_of, start, step}
use Rattle.zb_model.specs.Readings.{commits_of, is_up, state_of}
use Rattle.zb_model.specs.Rules.{Setting}
use Rattle.zb_model.specs.State.{NodeState, after_boot, shown}
use Rattle.zb_model.specs.Tools.{Tools}

-- ---- what a hub's tasks write

-- the tables after a task
abbrev pub next_tables : Tools → Setting → NodeState → Task → NodeState
next_tables tools c s task = shown (answered (answer tools c s task) s)

abbrev pub tables_after_all : Tools → Setting → NodeState → List Task → NodeState
tables_after_all tools c s [] = s
tables_after_all tools c s (task ∷ more) = tables_after_all tools c (next_tables tools c s task) more

-- the lines of the tasks of a session, without numbers
abbrev pub tasks_lines : Tools → Setting → ℕ → NodeState → List Task → List Line
tasks_lines tools c n s [] = []
tasks_lines tools c n s (task ∷ more) = plain_lines n (answer tools c s task)
    ++ tasks_lines tools c n (next_tables tools c s task) more

-- what the next session begins with
abbrev pub again : NodeState → NodeState
again s = shown (after_boot s)

-- the lines of sessions, without numbers
abbrev pub hub_lines : Tools → Setting → ℕ → NodeState → List (List Task) → List Line
hub_lines tools c n s [] = []
hub_lines tools c n s (tasks ∷ more) =
    DownReset 0 n ∷ Boot 0 n ∷ tasks_lines tools c n (again s) tasks
    ++ hub_lines tools c n (tables_after_all tools c (again s) tasks) more

-- ---- the node between two events

pub record IsReady (n : ℕ) (s : NodeState) (h : List Line) (ds : List Disk) : Type 0 where
  pub up : is_up h n ≡ true
  pub disk : disk_of ds n ≡ new_disk
  pub tables : shown (state_of h n) ≡ s

-- from every place of this kind these events give these lines
abbrev pub Leads : Tools → Schedule → ℕ → NodeState → List Event → List Line → Type 0
Leads tools w n s events lines = (h : List Line) (ds : List Disk) (number : ℕ) → IsReady n s h ds
    → without_numbers (groups tools w h ds number events) ≡ lines

-- the first event gives some lines, and the others come after it
first_then : (tools : Tools) (w : Schedule) (h : List Line) (ds : List Disk) (number : ℕ) (event : Event)
    (events : List Event) (us vs : List Line) → without_numbers (step tools w h ds number event).lines ≡ us
    → without_numbers (groups tools w (h ++ (step tools w h ds number event).lines)
    (step tools w h ds number event).disks (number + 1) events) ≡ vs
    → without_numbers (groups tools w h ds number (event ∷ events)) ≡ us ++ vs
first_then tools w h ds number event events us vs p q =
    ap without_numbers (group-first tools w h ds number event events)
    ∙ both_parts (step tools w h ds number event).lines
    (groups tools w (h ++ (step tools w h ds number event).lines) (step tools w h ds number event).disks (number + 1)
    events) us vs p q

-- ---- a task

own_leads : (tools : Tools) → OpensAsJudged tools → (w : Schedule) (n : ℕ) (s : NodeState) (task : Task)
    (events : List Event) (lines : List Line)
    → Leads tools w n (next_tables tools (setting_of w n) s task) events lines
    → Leads tools w n s (Own n task ∷ events) (plain_lines n (answer tools (setting_of w n) s task) ++ lines)
own_leads tools opens w n s task events lines more h ds number is =
    let c = setting_of w n in
    let a = answer tools c (state_of h n) task in
    let g = step tools w h ds number (Own n task) in
    let same : a ≡ answer tools c s task = sym (answer_same tools c (state_of h n) task
    (accepts_live tools opens c (state_of h n) (read_differ h n) task)) ∙ ap (λ t. answer tools c t task) is.tables in
    let comes = (is-answered w h ds number n a g (own-up tools w h ds number n task is.up)).whole
    (ap (λ (d : DiskState). falls d.armed (calls_by (commits_of h n) a.edits)) is.disk) in
    first_then tools w h ds number (Own n task) events (plain_lines n (answer tools c s task)) lines
    (ap without_numbers comes.lines ∙ plain_whole h number n a ∙ ap (plain_lines n) same)
    (more (h ++ g.lines) g.disks (number + 1)
    (record {
      up = ap (λ (x : Condition). x.up) comes.condition ∙ is.up;
      disk = ap (λ (x : Condition). x.disk) comes.condition ∙ is.disk;
      tables = ap (λ (x : Condition). shown x.state) comes.condition ∙ sym (answered_same a (state_of h n))
          ∙ ap (λ t. shown (answered a t)) is.tables ∙ ap (λ b. shown (answered b s)) same;
    }))

-- a frame from outside gives no line of the node's own
outside_leads : (tools : Tools) (w : Schedule) (n : ℕ) (s : NodeState) (bytes : Bytes) (events : List Event)
    (lines : List Line) → Leads tools w n s events lines → Leads tools w n s (InjectBytes bytes ∷ events) lines
outside_leads tools w n s bytes events lines more h ds number is =
    let g = step tools w h ds number (InjectBytes bytes) in
    let kept = spared tools w h ds number (InjectBytes bytes) n refl in
    first_then tools w h ds number (InjectBytes bytes) events [] lines
    (ap (λ (x : Step). without_numbers x.lines) (injected tools w h ds number bytes))
    (more (h ++ g.lines) g.disks (number + 1)
    (record {
      up = ap (λ (x : Condition). x.up) kept ∙ is.up;
      disk = ap (λ (x : Condition). x.disk) kept ∙ is.disk;
      tables = ap (λ (x : Condition). shown x.state) kept ∙ is.tables;
    }))

task_leads : (tools : Tools) → OpensAsJudged tools → (w : Schedule) (n : ℕ) (s : NodeState) (task : Task)
    (events : List Event) (lines : List Line)
    → Leads tools w n (next_tables tools (setting_of w n) s task) events lines
    → Leads tools w n s (task_events n task ++ events) (plain_lines n (answer tools (setting_of w n) s task) ++ lines)
task_leads tools opens w n s (Received bytes draw) events lines more =
    outside_leads tools w n s bytes (Own n (Received bytes draw) ∷ events)
    (plain_lines n (answer tools (setting_of w n) s (Received bytes draw)) ++ lines)
    (own_leads tools opens w n s (Received bytes draw) events lines more)
task_leads tools opens w n s (SayTo to bytes) events lines more =
    own_leads tools opens w n s (SayTo to bytes) events lines more
task_leads tools opens w n s (TellTo partner bytes) events lines more =
    own_leads tools opens w n s (TellTo partner bytes) events lines more
task_leads tools opens w n s DoKnock events lines more = own_leads tools opens w n s DoKnock events lines more
task_leads tools opens w n s DoRejoin events lines more = own_leads tools opens w n s DoRejoin events lines more
task_leads tools opens w n s DoTimer events lines more = own_leads tools opens w n s DoTimer events lines more
task_leads tools opens w n s (AskFor partner) events lines more =
    own_leads tools opens w n s (AskFor partner) events lines more
task_leads tools opens w n s (HasChild child rejoin) events lines more =
    own_leads tools opens w n s (HasChild child rejoin) events lines more
task_leads tools opens w n s (DoProvision device key) events lines more =
    own_leads tools opens w n s (DoProvision device key) events lines more
task_leads tools opens w n s (DoRemove device via) events lines more =
    own_leads tools opens w n s (DoRemove device via) events lines more
task_leads tools opens w n s (DoRoll draw) events lines more =
    own_leads tools opens w n s (DoRoll draw) events lines more
task_leads tools opens w n s DoSwitch events lines more = own_leads tools opens w n s DoSwitch events lines more
task_leads tools opens w n s (DoAgain device) events lines more =
    own_leads tools opens w n s (DoAgain device) events lines more
task_leads tools opens w n s (DoShare device partner) events lines more =
    own_leads tools opens w n s (DoShare device partner) events lines more

tasks_lead : (tools : Tools) → OpensAsJudged tools → (w : Schedule) (n : ℕ) (s : NodeState) (tasks : List Task)
    (events : List Event) (lines : List Line)
    → Leads tools w n (tables_after_all tools (setting_of w n) s tasks) events lines
    → Leads tools w n s (tasks_events n tasks ++ events) (tasks_lines tools (setting_of w n) n s tasks ++ lines)
tasks_lead tools opens w n s [] events lines more = more
tasks_lead tools opens w n s (task ∷ tasks) events lines more =
    let c = setting_of w n in
    let t = next_tables tools c s task in
    subst (λ l. Leads tools w n s l (tasks_lines tools c n s (task ∷ tasks) ++ lines))
    (sym (append_assoc (task_events n task) (tasks_events n tasks) events))
    (subst (λ l. Leads tools w n s (task_events n task ++ (tasks_events n tasks ++ events)) l)
    (sym (append_assoc (plain_lines n (answer tools c s task)) (tasks_lines tools c n t tasks) lines))
    (task_leads tools opens w n s task (tasks_events n tasks ++ events) (tasks_lines tools c n t tasks ++ lines)
    (tasks_lead tools opens w n t tasks events lines more)))

-- ---- a session's start

boot_leads : (tools : Tools) (w : Schedule) (n : ℕ) (s : NodeState) (events : List Event) (lines : List Line)
    → Leads tools w n (again s) events lines → (h : List Line) (ds : List Disk) (number : ℕ) → is_up h n ≡ false
    → disk_of ds n ≡ new_disk → shown (state_of h n) ≡ s
    → without_numbers (groups tools w h ds number (PowerOn n ∷ events)) ≡ Boot 0 n ∷ lines
boot_leads tools w n s events lines more h ds number down disk tables =
    let g = step tools w h ds number (PowerOn n) in
    let comes = (booted w h ds number n g (boot-down tools w h ds number n down) down).whole
    (ap (λ (d : DiskState). falls d.armed (BootCalls d.both_open)) disk) in
    first_then tools w h ds number (PowerOn n) events (Boot 0 n ∷ []) lines (ap without_numbers comes.lines)
    (more (h ++ g.lines) g.disks (number + 1)
    (record {
      up = ap (λ (x : Condition). x.up) comes.condition;
      disk = ap (λ (x : Condition). x.disk) comes.condition
          ∙ ap (λ (d : DiskState). record { armed = d.armed; both_open = false }) disk;
      tables = ap (λ (x : Condition). shown x.state) comes.condition ∙ sym (twice_same (after_boot (state_of h n)))
          ∙ ap shown (sym (boot_same (state_of h n))) ∙ ap (λ t. shown (after_boot t)) tables;
    }))

restart_leads : (tools : Tools) (w : Schedule) (n : ℕ) (s : NodeState) (events : List Event) (lines : List Line)
    → Leads tools w n (again s) events lines
    → Leads tools w n s (Reset n ∷ PowerOn n ∷ events) (DownReset 0 n ∷ Boot 0 n ∷ lines)
restart_leads tools w n s events lines more h ds number is =
    let g = step tools w h ds number (Reset n) in
    let comes = reset-up tools w h ds number n is.up in
    first_then tools w h ds number (Reset n) (PowerOn n ∷ events) (DownReset 0 n ∷ []) (Boot 0 n ∷ lines)
    (ap without_numbers comes.lines)
    (boot_leads tools w n s events lines more (h ++ g.lines) g.disks (number + 1)
    (ap (λ (x : Condition). x.up) comes.condition) (ap (λ (x : Condition). x.disk) comes.condition ∙ is.disk)
    (ap (λ (x : Condition). shown x.state) comes.condition ∙ is.tables))

-- ---- all sessions

hub_leads : (tools : Tools) → OpensAsJudged tools → (w : Schedule) (n : ℕ) (s : NodeState) (all : List (List Task))
    → Leads tools w n s (hub_events n all) (hub_lines tools (setting_of w n) n s all)
unfolding groups
hub_leads tools opens w n s [] = λ h ds number is. refl
hub_leads tools opens w n s (tasks ∷ more) =
    let c = setting_of w n in
    let t = tables_after_all tools c (again s) tasks in
    restart_leads tools w n s (tasks_events n tasks ++ hub_events n more)
    (tasks_lines tools c n (again s) tasks ++ hub_lines tools c n t more)
    (tasks_lead tools opens w n (again s) tasks (hub_events n more) (hub_lines tools c n t more)
    (hub_leads tools opens w n t more))

-- what a hub's events give from the start
pub hub_runs : (tools : Tools) → OpensAsJudged tools → (w : Schedule) (n : ℕ) (all : List (List Task))
    → without_numbers (groups tools w (start w) [] 1 (hub_events n all))
    ≡ hub_lines tools (setting_of w n) n (shown (state_of (start w) n)) all
unfolding disk_of
hub_runs tools opens w n all = hub_leads tools opens w n (shown (state_of (start w) n)) all (start w) [] 1
    (record { up = start-power w n; disk = refl; tables = refl })
