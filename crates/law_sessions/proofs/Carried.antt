-- What each event of a hub keeps holds of all its lines, as that no two seals have one key and nonce.
use Rattle.std.proofs.Common.{◌≡◌, ℕ, ◌+◌, true, false, List, [], ◌∷◌, ◌++◌, length, refl, sym, ap, ◌∙◌, subst, append_assoc}
use Rattle.law_sessions.specs.Hubs.{hub_events, task_events, tasks_events}
use Rattle.law_run.proofs.Counters.{LineFits}
use Rattle.law_run.proofs.FreshLines.{Inv, inv-lines}
use Rattle.law_run.proofs.GroupSeals.{group-fits}
use Rattle.law_run.proofs.Runs.{Me, me-of, start-inv}
use Rattle.law_run_steps.specs.Conditions.{Condition, calls_by}
use Rattle.law_run_steps.specs.Steps.{whole_lines}
use Rattle.law_run_steps.proofs.Answered.{is-answered}
use Rattle.law_run_steps.proofs.Others.{boot-down, booted, injected, own-up, reset-up}
use Rattle.law_run_steps.proofs.Spared.{spared}
use Rattle.law_run_steps.proofs.Starts.{run-ends, run-goes-on, start-power}
use Rattle.zb_model.specs.Answer.{Answer, answer, plan_of}
use Rattle.zb_model.specs.Claims.{Each, Fresh}
use Rattle.zb_model.specs.Data.{Bytes, Task, SayTo, TellTo, DoKnock, DoRejoin, DoTimer, AskFor, HasChild, DoProvision, DoRemove, DoRoll, DoSwitch, DoAgain, DoShare, Received}
use Rattle.zb_model.specs.Lines.{Line, Boot, DownReset, Inject}
use Rattle.zb_model.specs.Play.{BootCalls, Disk, DiskState, Event, Own, Reset, PowerOn, InjectBytes, Schedule, Step, disk_of, falls, group_of, groups, new_disk, setting_of, start, step, stored_lines}
use Rattle.zb_model.specs.Readings.{air, commits_of, is_up, state_of}
use Rattle.zb_model.specs.Schedules.{IsSchedule, Names}
use Rattle.zb_model.specs.Tools.{Tools}
use Rattle.zb_model.specs.Transcript.{end_line, run_lines, transcript}

-- the lines so far keep P over what each event of a hub adds
pub record IsCarried (tools : Tools) (w : Schedule) (n : ℕ) (P : List Line → Type 0) : Type 0 where
  pub answers : (h : List Line) (number : ℕ) (task : Task) → P h
      → P (h ++ whole_lines h number n (answer tools (setting_of w n) (state_of h n) task))
  pub injects : (h : List Line) (number frame : ℕ) (bytes : Bytes) → P h → P (h ++ Inject number frame bytes ∷ [])
  pub resets : (h : List Line) (number : ℕ) → P h → P (h ++ DownReset number n ∷ [])
  pub boots : (h : List Line) (number : ℕ) → P h → P (h ++ Boot number n ∷ [])

-- the node has power, and nothing is armed on its disk
record IsUp (n : ℕ) (h : List Line) (ds : List Disk) : Type 0 where
  pub up : is_up h n ≡ true
  pub disk : disk_of ds n ≡ new_disk

abbrev Carries : Tools → Schedule → ℕ → (List Line → Type 0) → List Event → Type 0
Carries tools w n P events = (h : List Line) (ds : List Disk) (number : ℕ) → IsUp n h ds → P h
    → P (h ++ groups tools w h ds number events)

own_carries : (tools : Tools) (w : Schedule) (n : ℕ) (P : List Line → Type 0) → IsCarried tools w n P → (task : Task)
    (events : List Event) → Carries tools w n P events → Carries tools w n P (Own n task ∷ events)
own_carries tools w n P k task events more h ds number is p =
    let a = answer tools (setting_of w n) (state_of h n) task in
    let g = step tools w h ds number (Own n task) in
    let comes = (is-answered w h ds number n a g (own-up tools w h ds number n task is.up)).whole
    (ap (λ (d : DiskState). falls d.armed (calls_by (commits_of h n) a.edits)) is.disk) in
    subst P (sym (run-goes-on tools w h ds number (Own n task) events))
    (more (h ++ g.lines) g.disks (number + 1)
    (record {
      up = ap (λ (x : Condition). x.up) comes.condition ∙ is.up;
      disk = ap (λ (x : Condition). x.disk) comes.condition ∙ is.disk;
    })
    (subst (λ l. P (h ++ l)) (sym comes.lines) (k.answers h number task p)))

outside_carries : (tools : Tools) (w : Schedule) (n : ℕ) (P : List Line → Type 0) → IsCarried tools w n P
    → (bytes : Bytes) (events : List Event) → Carries tools w n P events
    → Carries tools w n P (InjectBytes bytes ∷ events)
outside_carries tools w n P k bytes events more h ds number is p =
    let g = step tools w h ds number (InjectBytes bytes) in
    let kept = spared tools w h ds number (InjectBytes bytes) n refl in
    subst P (sym (run-goes-on tools w h ds number (InjectBytes bytes) events))
    (more (h ++ g.lines) g.disks (number + 1)
    (record {
      up = ap (λ (x : Condition). x.up) kept ∙ is.up;
      disk = ap (λ (x : Condition). x.disk) kept ∙ is.disk;
    })
    (subst (λ (x : Step). P (h ++ x.lines)) (sym (injected tools w h ds number bytes))
    (k.injects h number (length (air h) + 1) bytes p)))

task_carries : (tools : Tools) (w : Schedule) (n : ℕ) (P : List Line → Type 0) → IsCarried tools w n P → (task : Task)
    (events : List Event) → Carries tools w n P events → Carries tools w n P (task_events n task ++ events)
task_carries tools w n P k (Received bytes draw) events more =
    outside_carries tools w n P k bytes (Own n (Received bytes draw) ∷ events)
    (own_carries tools w n P k (Received bytes draw) events more)
task_carries tools w n P k (SayTo to bytes) events more = own_carries tools w n P k (SayTo to bytes) events more
task_carries tools w n P k (TellTo partner bytes) events more =
    own_carries tools w n P k (TellTo partner bytes) events more
task_carries tools w n P k DoKnock events more = own_carries tools w n P k DoKnock events more
task_carries tools w n P k DoRejoin events more = own_carries tools w n P k DoRejoin events more
task_carries tools w n P k DoTimer events more = own_carries tools w n P k DoTimer events more
task_carries tools w n P k (AskFor partner) events more = own_carries tools w n P k (AskFor partner) events more
task_carries tools w n P k (HasChild child rejoin) events more =
    own_carries tools w n P k (HasChild child rejoin) events more
task_carries tools w n P k (DoProvision device key) events more =
    own_carries tools w n P k (DoProvision device key) events more
task_carries tools w n P k (DoRemove device via) events more =
    own_carries tools w n P k (DoRemove device via) events more
task_carries tools w n P k (DoRoll draw) events more = own_carries tools w n P k (DoRoll draw) events more
task_carries tools w n P k DoSwitch events more = own_carries tools w n P k DoSwitch events more
task_carries tools w n P k (DoAgain device) events more = own_carries tools w n P k (DoAgain device) events more
task_carries tools w n P k (DoShare device partner) events more =
    own_carries tools w n P k (DoShare device partner) events more

tasks_carry : (tools : Tools) (w : Schedule) (n : ℕ) (P : List Line → Type 0) → IsCarried tools w n P
    → (tasks : List Task) (events : List Event) → Carries tools w n P events
    → Carries tools w n P (tasks_events n tasks ++ events)
tasks_carry tools w n P k [] events more = more
tasks_carry tools w n P k (task ∷ tasks) events more =
    subst (Carries tools w n P) (sym (append_assoc (task_events n task) (tasks_events n tasks) events))
    (task_carries tools w n P k task (tasks_events n tasks ++ events) (tasks_carry tools w n P k tasks events more))

boot_carries : (tools : Tools) (w : Schedule) (n : ℕ) (P : List Line → Type 0) → IsCarried tools w n P
    → (events : List Event) → Carries tools w n P events → (h : List Line) (ds : List Disk) (number : ℕ)
    → is_up h n ≡ false → disk_of ds n ≡ new_disk → P h
    → P (h ++ groups tools w h ds number (PowerOn n ∷ events))
boot_carries tools w n P k events more h ds number down disk p =
    let g = step tools w h ds number (PowerOn n) in
    let comes = (booted w h ds number n g (boot-down tools w h ds number n down) down).whole
    (ap (λ (d : DiskState). falls d.armed (BootCalls d.both_open)) disk) in
    subst P (sym (run-goes-on tools w h ds number (PowerOn n) events))
    (more (h ++ g.lines) g.disks (number + 1)
    (record {
      up = ap (λ (x : Condition). x.up) comes.condition;
      disk = ap (λ (x : Condition). x.disk) comes.condition
          ∙ ap (λ (d : DiskState). record { armed = d.armed; both_open = false }) disk;
    })
    (subst (λ l. P (h ++ l)) (sym comes.lines) (k.boots h number p)))

restart_carries : (tools : Tools) (w : Schedule) (n : ℕ) (P : List Line → Type 0) → IsCarried tools w n P
    → (events : List Event) → Carries tools w n P events → Carries tools w n P (Reset n ∷ PowerOn n ∷ events)
restart_carries tools w n P k events more h ds number is p =
    let g = step tools w h ds number (Reset n) in
    let comes = reset-up tools w h ds number n is.up in
    subst P (sym (run-goes-on tools w h ds number (Reset n) (PowerOn n ∷ events)))
    (boot_carries tools w n P k events more (h ++ g.lines) g.disks (number + 1)
    (ap (λ (x : Condition). x.up) comes.condition) (ap (λ (x : Condition). x.disk) comes.condition ∙ is.disk)
    (subst (λ l. P (h ++ l)) (sym comes.lines) (k.resets h number p)))

hub_carries : (tools : Tools) (w : Schedule) (n : ℕ) (P : List Line → Type 0) → IsCarried tools w n P
    → (all : List (List Task)) → Carries tools w n P (hub_events n all)
hub_carries tools w n P k [] = λ h ds number is p. subst P (sym (run-ends tools w h ds number)) p
hub_carries tools w n P k (tasks ∷ more) =
    restart_carries tools w n P k (tasks_events n tasks ++ hub_events n more)
    (tasks_carry tools w n P k tasks (hub_events n more) (hub_carries tools w n P k more))

-- of all lines of a hub's run
pub run_carries : (tools : Tools) (w : Schedule) (n : ℕ) (P : List Line → Type 0) → IsCarried tools w n P
    → (all : List (List Task)) → w.events ≡ hub_events n all → P (start w) → P (run_lines tools w)
unfolding run_lines disk_of
run_carries tools w n P k all same p =
    subst (λ es. P (start w ++ groups tools w (start w) [] 1 es)) (sym same)
    (hub_carries tools w n P k all (start w) [] 1 (record { up = start-power w n; disk = refl }) p)

-- ---- seals

-- the node's part of a schedule without events
pub own_setting : (w : Schedule) (n : ℕ) → IsSchedule (record w { events = [] }) → Names w n → Me (setting_of w n) n
unfolding setting_of
own_setting w n is named = me-of (record w { events = [] }) is n named

pub group_is : (h : List Line) (number n : ℕ) (a : Answer) → group_of h number n a ≡ whole_lines h number n a
unfolding group_of stored_lines
group_is h number n a = refl

seals_carried : (tools : Tools) (w : Schedule) (n : ℕ) → Me (setting_of w n) n → IsCarried tools w n (Inv tools)
unfolding answer
seals_carried tools w n me = record {
  answers = λ h number task i. inv-lines tools h
      (whole_lines h number n (answer tools (setting_of w n) (state_of h n) task))
      (subst (Each LineFits h) (group_is h number n (answer tools (setting_of w n) (state_of h n) task))
      (group-fits tools (setting_of w n) h h number n (plan_of tools (setting_of w n) (state_of h n) task) me.mine
      me.eui me.out_block (i.commanded n))) i;
  injects = λ h number frame bytes i. inv-lines tools h (Inject number frame bytes ∷ []) (tt, tt) i;
  resets = λ h number i. inv-lines tools h (DownReset number n ∷ []) (tt, tt) i;
  boots = λ h number i. inv-lines tools h (Boot number n ∷ []) (tt, tt) i;
}

pub hub_fresh : (tools : Tools) (w : Schedule) (n : ℕ) (all : List (List Task)) → w.events ≡ hub_events n all
    → IsSchedule (record w { events = [] }) → Names w n → Fresh tools (transcript tools w)
unfolding transcript end_line
hub_fresh tools w n all same is named =
    (inv-lines tools (run_lines tools w) (end_line tools (length w.events) (run_lines tools w) ∷ []) (tt, tt)
    (run_carries tools w n (Inv tools) (seals_carried tools w n (own_setting w n is named)) all same
    (start-inv tools w))).apart
