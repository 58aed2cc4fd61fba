-- Each event of a run: its group is counted, and a counted group is the run's.
use Rattle.std.proofs.Common.{◌≡◌, ℕ, ◌+◌, Bool, true, false, cond, ◌||◌, List, [], ◌∷◌, ◌++◌, map, find, length, Option, Some, None, nat_eq, flat_map, refl, sym, ap, ◌∙◌, subst, append_assoc}
use Rattle.std.specs.List.{AllByRecursion}
use Rattle.zb_model.specs.Data.{Bytes, Layer, Nwk, Aps, Term, Edit, Place, Reason, Down, NoFrame, WrongState, Task, Received, DoRoll}
use Rattle.zb_model.specs.Lines.{Line, Declared, GivenNet, GivenLink, Counter, Changed, Accept, Seal, Forge, Send, DownReset, Boot}
use Rattle.zb_model.specs.State.{NetKey, NodeState, has_net, given_net, same_key, declared_at, with_given_net, with_given_link, with_declared}
use Rattle.zb_model.specs.Tools.{Tools}
use Rattle.zb_model.specs.Rules.{Outcome, Stop, Does, Plan, centre_of}
use Rattle.zb_model.specs.Answer.{Answer, Counting, row_is_started, answer_by, sending_of, plan_of, counting_of}
use Rattle.zb_model.specs.Readings.{state_of, after, speaker, is_up, air}
use Rattle.zb_model.specs.Play.{Schedule, Node, Event, Own, RollOver, Deliver, Reset, PowerOn, ShowRecord, ArmStop, ArmFail, InjectBytes, ForgeNet, ForgeNetAps, ForgeOpen, Step, Disk, Armed, NotArmed, StopAfter, FailAt, Calls, BootCalls, stations, setting_of, net_line, link_line, limit_line, start, disk_of, with_disk, falls, stands, calls_for, leaves_both, commit_lines, refuse_lines, send_lines, stored_lines, told_lines, group_of, cut_of, fallen_line, answer_step, boot_step, refused_step, task_step, deliver_step, frame_at, supply, forged_net, forged_both, forged_open, step_by, step}
use Rattle.zb_model.specs.Claims.{Each}
use Rattle.law_run.specs.Opening.{Opens}
use Rattle.law_run.proofs.Basics.{append-nil', state-snoc, each-append}
use Rattle.law_run.proofs.Nets.{at_key}
use Rattle.law_run.proofs.FreshLines.{all-append, heard-keeps}
use Rattle.law_run.proofs.Sound.{sound}
use Rattle.law_run.proofs.Judged.{plan-accepts}
use Rattle.law_run_counters.specs.Counted.{IsCounted, answered_with, whole_group, has_started}
use Rattle.law_run_counters.proofs.Shown.{Shown, Fits, plan-fits}
use Rattle.law_run_counters.proofs.Same.{group-counted, answer-same}
use Rattle.law_run_counters.proofs.Started.{started, declared-row, StartFits, LineStarts, Bridged, bridged-lines, Quiet, quiet-lines, edit-lines, edits-start, ActiveStarted, grown-new, has-map}
use Rattle.law_run_counters.proofs.ActiveRows.{AllActive, moves-fit, active-step, one-active}

-- What the rules keep of an outcome

shown-fits : (s : NodeState) (o : Outcome) → Fits s o → Shown (sending_of o)
shown-fits s (Stop reason) f = tt
shown-fits s (Does moves send) f = f.1

-- Lines without a seal, an accepted term or a change are counted

either-counted : (w : Schedule) (h : List Line) (b : Bool) (x y : Step) → IsCounted w h x.lines
    → IsCounted w h y.lines → IsCounted w h (cond b x y).lines
either-counted w h true x y p q = p
either-counted w h false x y p q = q

refused-counted : (w : Schedule) (h : List Line) (disks : List Disk) (number n : ℕ) (reason : Reason)
    → IsCounted w h (refused_step disks number n reason).lines
refused-counted w h disks number n reason =
    record { seals = (tt, tt); reserves = λ layer. refl; floors = refl; starts = refl }

-- A task of a node

taken : Tools → Schedule → List Line → ℕ → Task → Counting
taken tools w h n task = counting_of (setting_of w n) (state_of h n)
    (plan_of tools (setting_of w n) (state_of h n) task)

no_counters : Counting
no_counters = record { counter = λ layer. 0; reserve = λ layer. None; floor = λ layer. None; start = None }

whole-of : (h : List Line) (number n : ℕ) (a : Answer) → (answer_step h [] number n a).lines ≡ group_of h number n a
unfolding disk_of
whole-of h number n a = refl

task-counted : (tools : Tools) → Opens tools → (w : Schedule) (h : List Line) (number n : ℕ) (task : Task) → Bridged h
    → IsCounted w h (task_step tools (λ c s p. taken tools w h n task) w h [] number n task).lines
unfolding task_step taken
task-counted tools opens w h number n task bridged =
    either-counted w h (is_up h n)
    (answer_step h [] number n
    (answer_by tools (setting_of w n) (state_of h n) (counting_of (setting_of w n) (state_of h n) p) p))
    (refused_step [] number n Down)
    (subst (λ ls. IsCounted w h ls)
    (sym (whole-of h number n
    (answer_by tools (setting_of w n) (state_of h n) (counting_of (setting_of w n) (state_of h n) p) p)))
    (group-counted tools w h number n p (bridged n)
    (plan-accepts tools opens (setting_of w n) (state_of h n) (sound h n) task)
    (moves-fit (state_of h n) p.outcome (plan-fits tools (setting_of w n) (state_of h n) task))))
    (refused-counted w h [] number n Down)
  where
    p : Plan
    p = plan_of tools (setting_of w n) (state_of h n) task

deliver_counts : Tools → Schedule → List Line → ℕ → Option Bytes → Counting
deliver_counts tools w h n None = no_counters
deliver_counts tools w h n (Some bytes) = taken tools w h n (Received bytes (supply w h))

deliver-counted : (tools : Tools) → Opens tools → (w : Schedule) (h : List Line) (number n : ℕ) (o : Option Bytes)
    → Bridged h → IsCounted w h (deliver_step tools (λ c s p. deliver_counts tools w h n o) w h [] number n o).lines
unfolding deliver_counts
deliver-counted tools opens w h number n None bridged = refused-counted w h [] number n (cond (is_up h n) NoFrame Down)
deliver-counted tools opens w h number n (Some bytes) bridged =
    task-counted tools opens w h number n (Received bytes (supply w h)) bridged

pub counts_of : Tools → Schedule → List Line → Event → Counting
counts_of tools w h (Own n task) = taken tools w h n task
counts_of tools w h (RollOver n) = taken tools w h n (DoRoll (supply w h))
counts_of tools w h (Deliver frame n) = deliver_counts tools w h n (frame_at h frame)
counts_of tools w h _ = no_counters

nothing : (w : Schedule) (h : List Line) → IsCounted w h []
nothing w h = record { seals = tt; reserves = λ layer. refl; floors = refl; starts = refl }

one-forged : (w : Schedule) (h : List Line) (number : ℕ) (t : Term) (frame : ℕ) (bytes : Bytes)
    → IsCounted w h (Forge number t ∷ Send number None frame bytes ∷ [])
one-forged w h number t frame bytes =
    record { seals = (tt, (tt, tt)); reserves = λ layer. refl; floors = refl; starts = refl }

two-forged : (w : Schedule) (h : List Line) (number : ℕ) (t u : Term) (frame : ℕ) (bytes : Bytes)
    → IsCounted w h (Forge number t ∷ Forge number u ∷ Send number None frame bytes ∷ [])
two-forged w h number t u frame bytes =
    record { seals = (tt, (tt, (tt, tt))); reserves = λ layer. refl; floors = refl; starts = refl }

boot-counted : (w : Schedule) (h : List Line) (number n : ℕ) → IsCounted w h (boot_step [] number n).lines
unfolding disk_of
boot-counted w h number n = record { seals = (tt, tt); reserves = λ layer. refl; floors = refl; starts = refl }

pub event-counted : (tools : Tools) → Opens tools → (w : Schedule) (h : List Line) (number : ℕ) (event : Event)
    → Bridged h → IsCounted w h (whole_group tools w h number event (counts_of tools w h event))
unfolding step_by forged_net forged_both forged_open counts_of
event-counted tools opens w h number (Own n task) bridged = task-counted tools opens w h number n task bridged
event-counted tools opens w h number (RollOver n) bridged =
    task-counted tools opens w h number n (DoRoll (supply w h)) bridged
event-counted tools opens w h number (Deliver frame n) bridged = deliver-counted tools opens w h number n
    (frame_at h frame) bridged
event-counted tools opens w h number (Reset n) bridged =
    either-counted w h (is_up h n) (record { lines = DownReset number n ∷ []; disks = [] })
    (refused_step [] number n Down)
    (record { seals = (tt, tt); reserves = λ layer. refl; floors = refl; starts = refl })
    (refused-counted w h [] number n Down)
event-counted tools opens w h number (PowerOn n) bridged =
    either-counted w h (is_up h n) (refused_step [] number n WrongState) (boot_step [] number n)
    (refused-counted w h [] number n WrongState) (boot-counted w h number n)
event-counted tools opens w h number (ShowRecord n) bridged =
    record { seals = (tt, tt); reserves = λ layer. refl; floors = refl; starts = refl }
event-counted tools opens w h number (ArmStop n calls torn) bridged = nothing w h
event-counted tools opens w h number (ArmFail n call) bridged = nothing w h
event-counted tools opens w h number (InjectBytes bytes) bridged =
    record { seals = (tt, tt); reserves = λ layer. refl; floors = refl; starts = refl }
event-counted tools opens w h number (ForgeNet to from source key sequence counter content) bridged =
    one-forged w h number _ _ _
event-counted tools opens w h number (ForgeNetAps to from source key sequence counter label base aps_counter command)
    bridged = two-forged w h number _ _ _ _
event-counted tools opens w h number (ForgeOpen to from source label base aps_counter command) bridged =
    one-forged w h number _ _ _

-- the group that the transcript has is that with these counters
pub step-is : (tools : Tools) (w : Schedule) (h : List Line) (disks : List Disk) (number : ℕ) (event : Event)
    → answered_with tools w h disks number event (counts_of tools w h event) ≡ step tools w h disks number event
unfolding step step_by task_step counts_of taken counting_of deliver_counts
step-is tools w h disks number (Own n task) = refl
step-is tools w h disks number (RollOver n) = refl
step-is tools w h disks number (Deliver frame n) = deliver-is tools w h disks number n (frame_at h frame)
  where
    deliver-is : (tools : Tools) (w : Schedule) (h : List Line) (disks : List Disk) (number n : ℕ) (o : Option Bytes)
        → deliver_step tools (λ c s p. deliver_counts tools w h n o) w h disks number n o
        ≡ deliver_step tools counting_of w h disks number n o
    deliver-is tools w h disks number n None = refl
    deliver-is tools w h disks number n (Some bytes) = refl
step-is tools w h disks number (Reset n) = refl
step-is tools w h disks number (PowerOn n) = refl
step-is tools w h disks number (ShowRecord n) = refl
step-is tools w h disks number (ArmStop n calls torn) = refl
step-is tools w h disks number (ArmFail n call) = refl
step-is tools w h disks number (InjectBytes bytes) = refl
step-is tools w h disks number (ForgeNet to from source key sequence counter content) = refl
step-is tools w h disks number (ForgeNetAps to from source key sequence counter label base aps_counter command) = refl
step-is tools w h disks number (ForgeOpen to from source label base aps_counter command) = refl

-- With any counters for which the group is counted, it is the same

by-up : (w : Schedule) (h : List Line) (disks : List Disk) (number n : ℕ) (a b : Answer) (r q : Step) (up : Bool)
    → (IsCounted w h (group_of h number n a) → a ≡ b) → IsCounted w h (cond up (answer_step h [] number n a) q).lines
    → cond up (answer_step h disks number n a) r ≡ cond up (answer_step h disks number n b) r
by-up w h disks number n a b r q true k i = ap (λ x. answer_step h disks number n x)
    (k (subst (λ ls. IsCounted w h ls) (whole-of h number n a) i))
by-up w h disks number n a b r q false k i = refl

task-same : (tools : Tools) → Opens tools → (w : Schedule) (h : List Line) (disks : List Disk) (number n : ℕ)
    (task : Task) (k : Counting) → Bridged h → IsCounted w h (task_step tools (λ c s p. k) w h [] number n task).lines
    → task_step tools (λ c s p. k) w h disks number n task ≡ task_step tools counting_of w h disks number n task
unfolding task_step
task-same tools opens w h disks number n task k bridged i =
    by-up w h disks number n (answer_by tools (setting_of w n) (state_of h n) k p)
    (answer_by tools (setting_of w n) (state_of h n) (counting_of (setting_of w n) (state_of h n) p) p)
    (refused_step disks number n Down) (refused_step [] number n Down) (is_up h n)
    (λ c. answer-same tools w h number n k p (bridged n)
    (plan-accepts tools opens (setting_of w n) (state_of h n) (sound h n) task)
    (moves-fit (state_of h n) p.outcome fits) (shown-fits (state_of h n) p.outcome fits) c) i
  where
    p : Plan
    p = plan_of tools (setting_of w n) (state_of h n) task

    fits : Fits (state_of h n) (plan_of tools (setting_of w n) (state_of h n) task).outcome
    fits = plan-fits tools (setting_of w n) (state_of h n) task

deliver-same : (tools : Tools) → Opens tools → (w : Schedule) (h : List Line) (disks : List Disk) (number n : ℕ)
    (o : Option Bytes) (k : Counting) → Bridged h
    → IsCounted w h (deliver_step tools (λ c s p. k) w h [] number n o).lines
    → deliver_step tools (λ c s p. k) w h disks number n o ≡ deliver_step tools counting_of w h disks number n o
deliver-same tools opens w h disks number n None k bridged i = refl
deliver-same tools opens w h disks number n (Some bytes) k bridged i = task-same tools opens w h disks number n
    (Received bytes (supply w h)) k bridged i

pub event-same : (tools : Tools) → Opens tools → (w : Schedule) (h : List Line) (disks : List Disk) (number : ℕ)
    (event : Event) (k : Counting) → Bridged h → IsCounted w h (whole_group tools w h number event k)
    → answered_with tools w h disks number event k ≡ step tools w h disks number event
unfolding step step_by
event-same tools opens w h disks number (Own n task) k bridged i = task-same tools opens w h disks number n task k
    bridged i
event-same tools opens w h disks number (RollOver n) k bridged i = task-same tools opens w h disks number n
    (DoRoll (supply w h)) k bridged i
event-same tools opens w h disks number (Deliver frame n) k bridged i = deliver-same tools opens w h disks number n
    (frame_at h frame) k bridged i
event-same tools opens w h disks number (Reset n) k bridged i = refl
event-same tools opens w h disks number (PowerOn n) k bridged i = refl
event-same tools opens w h disks number (ShowRecord n) k bridged i = refl
event-same tools opens w h disks number (ArmStop n calls torn) k bridged i = refl
event-same tools opens w h disks number (ArmFail n call) k bridged i = refl
event-same tools opens w h disks number (InjectBytes bytes) k bridged i = refl
event-same tools opens w h disks number (ForgeNet to from source key sequence counter content) k bridged i = refl
event-same tools opens w h disks number
    (ForgeNetAps to from source key sequence counter label base aps_counter command) k bridged i = refl
event-same tools opens w h disks number (ForgeOpen to from source label base aps_counter command) k bridged i = refl

-- What lines say of started keys stays true through an event

commit-quiet : (number n : ℕ) (es : List Edit) → AllByRecursion Quiet (commit_lines number n es)
unfolding Quiet
commit-quiet number n [] = tt
commit-quiet number n (e ∷ es) = (tt, tt)

accepts-quiet : (number n : ℕ) (ts : List Term) → AllByRecursion Quiet (map (Accept number n) ts)
unfolding Quiet
accepts-quiet number n [] = tt
accepts-quiet number n (t ∷ ts) = (tt, accepts-quiet number n ts)

refuse-quiet : (number n : ℕ) (place : Place) (r : Option Reason)
    → AllByRecursion Quiet (refuse_lines number n place r)
unfolding Quiet
refuse-quiet number n place None = tt
refuse-quiet number n place (Some r) = (tt, tt)

seals-quiet : (number n : ℕ) (ts : List Term) → AllByRecursion Quiet (map (Seal number n) ts)
unfolding Quiet
seals-quiet number n [] = tt
seals-quiet number n (t ∷ ts) = (tt, seals-quiet number n ts)

send-quiet : (number : ℕ) (n : Option ℕ) (frame : ℕ) (b : Option Bytes)
    → AllByRecursion Quiet (send_lines number n frame b)
unfolding Quiet
send-quiet number n frame None = tt
send-quiet number n frame (Some b) = (tt, tt)

told-quiet : (number n frame : ℕ) (a : Answer) → AllByRecursion Quiet (told_lines number n frame a)
unfolding told_lines
told-quiet number n frame a =
    all-append Quiet (map (Accept number n) a.accepts) _ (accepts-quiet number n a.accepts)
    (all-append Quiet (refuse_lines number n a.place a.refusal) _ (refuse-quiet number n a.place a.refusal)
    (all-append Quiet (map (Seal number n) a.seals) _ (seals-quiet number n a.seals)
    (send-quiet number (Some n) frame a.frame)))

fallen-quiet : (armed : Armed) (number n : ℕ) → AllByRecursion Quiet (fallen_line armed number n)
unfolding Quiet
fallen-quiet NotArmed number n = tt
fallen-quiet (StopAfter calls torn) number n = (tt, tt)
fallen-quiet (FailAt call) number n = (tt, tt)

abbrev Go : List Line → List Line → Type 0
Go h ls = Each LineStarts h ls

either-goes : (h : List Line) (b : Bool) (x y : Step) → Go h x.lines → Go h y.lines → Go h (cond b x y).lines
either-goes h true x y p q = p
either-goes h false x y p q = q

some-goes : (h : List Line) (b : Bool) (ls : List Line) → Go h ls → Go h (cond b ls [])
some-goes h true ls g = g
some-goes h false ls g = tt

answer-edits : (tools : Tools) (w : Schedule) (h : List Line) (number n : ℕ) (task : Task)
    → ActiveStarted (state_of h n)
    → Go h (map (Changed number n)
    (answer_by tools (setting_of w n) (state_of h n) (taken tools w h n task)
    (plan_of tools (setting_of w n) (state_of h n) task)).edits)
unfolding answer_by taken counting_of
answer-edits tools w h number n task active =
    edit-lines number n h _
    (edits-start number n (state_of h n) _ (plan_of tools (setting_of w n) (state_of h n) task) active
    (moves-fit (state_of h n) (plan_of tools (setting_of w n) (state_of h n) task).outcome
    (plan-fits tools (setting_of w n) (state_of h n) task)))

stored-goes : (h : List Line) (number n : ℕ) (a : Answer) → Go h (map (Changed number n) a.edits)
    → Go h (stored_lines number n a)
unfolding stored_lines
stored-goes h number n a g = each-append LineStarts h (map (Changed number n) a.edits) (commit_lines number n a.edits)
    g (quiet-lines (h ++ map (Changed number n) a.edits) (commit_lines number n a.edits)
    (commit-quiet number n a.edits))

group-goes : (h : List Line) (number n : ℕ) (a : Answer) → Go h (map (Changed number n) a.edits)
    → Go h (group_of h number n a)
unfolding group_of
group-goes h number n a g = each-append LineStarts h (stored_lines number n a)
    (told_lines number n (length (air h) + 1) a) (stored-goes h number n a g)
    (quiet-lines (h ++ stored_lines number n a) (told_lines number n (length (air h) + 1) a)
    (told-quiet number n (length (air h) + 1) a))

cut-goes : (h : List Line) (armed : Armed) (calls : Calls) (number n : ℕ) (a : Answer)
    → Go h (map (Changed number n) a.edits) → Go h (cut_of armed calls number n a)
unfolding cut_of
cut-goes h armed calls number n a g =
    each-append LineStarts h (cond (stands armed calls) (stored_lines number n a) []) (fallen_line armed number n)
    (some-goes h (stands armed calls) (stored_lines number n a) (stored-goes h number n a g))
    (quiet-lines (h ++ cond (stands armed calls) (stored_lines number n a) []) (fallen_line armed number n)
    (fallen-quiet armed number n))

answer-goes : (h : List Line) (disks : List Disk) (number n : ℕ) (a : Answer) → Go h (map (Changed number n) a.edits)
    → Go h (answer_step h disks number n a).lines
answer-goes h disks number n a g =
    either-goes h (falls (disk_of disks n).armed (calls_for h n a.edits))
    (record {
      lines = cut_of (disk_of disks n).armed (calls_for h n a.edits) number n a;
      disks =
          with_disk disks n
          (record { armed = NotArmed; both_open = leaves_both (disk_of disks n).armed (calls_for h n a.edits) });
    })
    (record { lines = group_of h number n a; disks = disks })
    (cut-goes h (disk_of disks n).armed (calls_for h n a.edits) number n a g) (group-goes h number n a g)

refused-goes : (h : List Line) (disks : List Disk) (number n : ℕ) (reason : Reason)
    → Go h (refused_step disks number n reason).lines
unfolding StartFits
refused-goes h disks number n reason = (tt, tt)

task-goes : (tools : Tools) (w : Schedule) (h : List Line) (disks : List Disk) (number n : ℕ) (task : Task)
    → ActiveStarted (state_of h n) → Go h (task_step tools counting_of w h disks number n task).lines
unfolding task_step taken
task-goes tools w h disks number n task active =
    either-goes h (is_up h n)
    (answer_step h disks number n
    (answer_by tools (setting_of w n) (state_of h n)
    (counting_of (setting_of w n) (state_of h n) (plan_of tools (setting_of w n) (state_of h n) task))
    (plan_of tools (setting_of w n) (state_of h n) task))) (refused_step disks number n Down)
    (answer-goes h disks number n
    (answer_by tools (setting_of w n) (state_of h n)
    (counting_of (setting_of w n) (state_of h n) (plan_of tools (setting_of w n) (state_of h n) task))
    (plan_of tools (setting_of w n) (state_of h n) task)) (answer-edits tools w h number n task active))
    (refused-goes h disks number n Down)

deliver-goes : (tools : Tools) (w : Schedule) (h : List Line) (disks : List Disk) (number n : ℕ) (o : Option Bytes)
    → ActiveStarted (state_of h n) → Go h (deliver_step tools counting_of w h disks number n o).lines
deliver-goes tools w h disks number n None active = refused-goes h disks number n (cond (is_up h n) NoFrame Down)
deliver-goes tools w h disks number n (Some bytes) active =
    task-goes tools w h disks number n (Received bytes (supply w h)) active

boot-goes : (h : List Line) (disks : List Disk) (number n : ℕ) → Go h (boot_step disks number n).lines
unfolding Quiet
boot-goes h disks number n =
    either-goes h (falls (disk_of disks n).armed (BootCalls (disk_of disks n).both_open))
    (record {
      lines = fallen_line (disk_of disks n).armed number n;
      disks =
          with_disk disks n
          (record {
            armed = NotArmed;
            both_open = leaves_both (disk_of disks n).armed (BootCalls (disk_of disks n).both_open);
          });
    })
    (record {
      lines = Boot number n
          ∷ [];
      disks = with_disk disks n (record { armed = (disk_of disks n).armed; both_open = false });
    })
    (quiet-lines h (fallen_line (disk_of disks n).armed number n) (fallen-quiet (disk_of disks n).armed number n))
    (quiet-lines h (Boot number n ∷ []) (tt, tt))

event-goes : (tools : Tools) (w : Schedule) (h : List Line) (disks : List Disk) (number : ℕ) (event : Event)
    → AllActive h → Go h (step tools w h disks number event).lines
unfolding step step_by forged_net forged_both forged_open StartFits
event-goes tools w h disks number (Own n task) active = task-goes tools w h disks number n task (active n)
event-goes tools w h disks number (RollOver n) active = task-goes tools w h disks number n (DoRoll (supply w h))
    (active n)
event-goes tools w h disks number (Deliver frame n) active = deliver-goes tools w h disks number n (frame_at h frame)
    (active n)
event-goes tools w h disks number (Reset n) active =
    either-goes h (is_up h n) (record { lines = DownReset number n ∷ []; disks = disks })
    (refused_step disks number n Down) (tt, tt) (tt, tt)
event-goes tools w h disks number (PowerOn n) active =
    either-goes h (is_up h n) (refused_step disks number n WrongState) (boot_step disks number n) (tt, tt)
    (boot-goes h disks number n)
event-goes tools w h disks number (ShowRecord n) active = (tt, tt)
event-goes tools w h disks number (ArmStop n calls torn) active = tt
event-goes tools w h disks number (ArmFail n call) active = tt
event-goes tools w h disks number (InjectBytes bytes) active = (tt, tt)
event-goes tools w h disks number (ForgeNet to from source key sequence counter content) active = (tt, (tt, tt))
event-goes tools w h disks number (ForgeNetAps to from source key sequence counter label base aps_counter command)
    active = (tt, (tt, (tt, tt)))
event-goes tools w h disks number (ForgeOpen to from source label base aps_counter command) active = (tt, (tt, tt))

-- what lines say of started keys, and each active row has started
pub record Grounded (h : List Line) : Type 0 where
  pub bridged : Bridged h
  pub active : AllActive h

pub event-grounded : (tools : Tools) (w : Schedule) (h : List Line) (disks : List Disk) (number : ℕ) (event : Event)
    → Grounded h → Grounded (h ++ (step tools w h disks number event).lines)
event-grounded tools w h disks number event g = record {
  bridged = bridged-lines h (step tools w h disks number event).lines
      (event-goes tools w h disks number event g.active) g.bridged;
  active = active-step tools w h disks number event g.active;
}

-- The start lines

unfoldable pub IsStart : Line → Type 0
IsStart (Declared p) = Unit {0}
IsStart (GivenNet n k q) = Unit {0}
IsStart (GivenLink n p k) = Unit {0}
IsStart (Counter n layer v) = Unit {0}
IsStart _ = ⊥

abbrev AllStarted : List NetKey → Type 0
AllStarted nets = AllByRecursion (λ (r : NetKey). r.started ≡ true) nets

has-started : (nets : List NetKey) → AllStarted nets → (k : Bytes) → has_net k nets ≡ true → started k nets ≡ true
has-started [] a k h = h
has-started (r ∷ rs) a k h = by-test (same_key r.key k) h (has-started rs a.1 k)
  where
    by-test : (b : Bool) → (b || has_net k rs) ≡ true → (has_net k rs ≡ true → started k rs ≡ true)
        → row_is_started (cond b (Some r) (find (at_key k) rs)) ≡ true
    by-test true h f = a.0
    by-test false h f = f h

grow-started : (b : Bool) (x : NetKey) (nets : List NetKey) → x.started ≡ true → AllStarted nets
    → AllStarted (cond b nets (nets ++ x ∷ []))
grow-started true x nets e a = a
grow-started false x nets e a = all-append (λ (r : NetKey). r.started ≡ true) nets (x ∷ []) a (e, tt)

map-started : (f : NetKey → NetKey) → ((r : NetKey) → (f r).started ≡ r.started) → (nets : List NetKey)
    → AllStarted nets → AllStarted (map f nets)
map-started f s [] a = tt
map-started f s (r ∷ rs) a = (s r ∙ a.0, map-started f s rs a.1)

start-after : (l : Line) (s : NodeState) → IsStart l → AllStarted s.nets → AllStarted (after l s).nets
unfolding after with_given_net with_given_link with_declared IsStart
start-after (Declared p) s i a = a
start-after (GivenNet n k q) s i a = grow-started (has_net k s.nets) (given_net s.declared k q) s.nets refl a
start-after (GivenLink n p k) s i a = a
start-after (Counter n Nwk v) s i a = map-started (declared_at v) (declared-row v).start s.nets a
start-after (Counter n Aps v) s i a = a
start-after _ s i a = absurd i

start-fits : (h : List Line) (l : Line) → IsStart l → ((n : ℕ) → AllStarted (state_of h n).nets) → LineStarts h l
unfolding speaker StartFits IsStart
start-fits h (GivenNet n k q) i j = λ e. has-started (state_of h n).nets (j n) k e
start-fits h (Declared p) i j = tt
start-fits h (GivenLink n p k) i j = tt
start-fits h (Counter n layer v) i j = tt
start-fits h _ i j = absurd i

starts-fit : (h ls : List Line) → AllByRecursion IsStart ls → ((n : ℕ) → AllStarted (state_of h n).nets) → Go h ls
starts-fit h [] a j = tt
starts-fit h (l ∷ ls) a j = (
  start-fits h l a.0 j,
  starts-fit (h ++ l ∷ []) ls a.1
      (λ n. subst (λ s. AllStarted s.nets) (sym (state-snoc h l n))
      (heard-keeps (λ s. AllStarted s.nets) n l (state_of h n) (λ e. start-after l (state_of h n) a.0 (j n)) (j n))),
)

stations-are : (ps : List Rattle.zb_model.specs.Data.Station) → AllByRecursion IsStart (map Declared ps)
unfolding IsStart
stations-are [] = tt
stations-are (p ∷ ps) = (tt, stations-are ps)

flat-are : {X : Type 0} (f : X → List Line) → ((x : X) → AllByRecursion IsStart (f x)) → (xs : List X)
    → AllByRecursion IsStart (flat_map f xs)
flat-are f k [] = tt
flat-are f k (x ∷ xs) = all-append IsStart (f x) (flat_map f xs) (k x) (flat-are f k xs)

net-are : (n : ℕ) (o : Option (Bytes × ℕ)) → AllByRecursion IsStart (net_line n o)
unfolding IsStart
net-are n None = tt
net-are n (Some g) = (tt, tt)

link-are : (c n : ℕ) (o : Option Bytes) → AllByRecursion IsStart (link_line c n o)
unfolding IsStart
link-are c n None = tt
link-are c n (Some k) = (tt, tt)

limit-are : (n : ℕ) (layer : Layer) (v : ℕ) (b : Bool) → AllByRecursion IsStart (cond b [] (Counter n layer v ∷ []))
unfolding IsStart
limit-are n layer v true = tt
limit-are n layer v false = (tt, tt)

pub start-are : (w : Schedule) → AllByRecursion IsStart (start w)
unfolding start
start-are w =
    all-append IsStart (map Declared (stations w)) _ (stations-are (stations w))
    (all-append IsStart (flat_map (λ (m : Node). net_line m.station.eui m.network) w.nodes) _
    (flat-are (λ (m : Node). net_line m.station.eui m.network) (λ m. net-are m.station.eui m.network) w.nodes)
    (all-append IsStart (flat_map (λ (m : Node). link_line (centre_of (stations w)) m.station.eui m.code) w.nodes) _
    (flat-are (λ (m : Node). link_line (centre_of (stations w)) m.station.eui m.code)
    (λ m. link-are (centre_of (stations w)) m.station.eui m.code) w.nodes)
    (flat-are (λ (m : Node). limit_line m.station.eui Nwk m.start_nwk ++ limit_line m.station.eui Aps m.start_aps)
    (λ m. all-append IsStart (limit_line m.station.eui Nwk m.start_nwk) (limit_line m.station.eui Aps m.start_aps)
    (limit-are m.station.eui Nwk m.start_nwk (nat_eq m.start_nwk 0))
    (limit-are m.station.eui Aps m.start_aps (nat_eq m.start_aps 0))) w.nodes)))

no-rows : (n : ℕ) → AllStarted (state_of [] n).nets
unfolding state_of
no-rows n = tt

no-lines : Bridged []
unfolding state_of has_started
no-lines n key = refl

-- each active key has a row

abbrev StartState : NodeState → Type 0
StartState s = AllStarted s.nets × ((a : Bytes) → s.active ≡ Some a → has_net a s.nets ≡ true)

start-row : (l : Line) (s : NodeState) → IsStart l → StartState s → StartState (after l s)
unfolding after with_given_net with_given_link with_declared IsStart
start-row (Declared p) s i a = a
start-row (GivenNet n k q) s i a = (
  grow-started (has_net k s.nets) (given_net s.declared k q) s.nets refl a.0,
  λ j e. subst (λ x. has_net x (cond (has_net k s.nets) s.nets (s.nets ++ given_net s.declared k q ∷ [])) ≡ true)
      (one-active k j e) (grown-new (has_net k s.nets) (given_net s.declared k q) s.nets refl),
)
start-row (GivenLink n p k) s i a = a
start-row (Counter n Nwk v) s i a = (
  map-started (declared_at v) (declared-row v).start s.nets a.0,
  λ j e. has-map (declared_at v) (declared-row v).key j s.nets ∙ a.1 j e,
)
start-row (Counter n Aps v) s i a = a
start-row _ s i a = absurd i

start-rows : (h ls : List Line) → AllByRecursion IsStart ls → ((n : ℕ) → StartState (state_of h n)) → (n : ℕ)
    → StartState (state_of (h ++ ls) n)
start-rows h [] a j n = subst (λ x. StartState (state_of x n)) (sym (append-nil' h)) (j n)
start-rows h (l ∷ ls) a j n =
    subst (λ x. StartState (state_of x n)) (append_assoc h (l ∷ []) ls)
    (start-rows (h ++ l ∷ []) ls a.1
    (λ m. subst StartState (sym (state-snoc h l m))
    (heard-keeps StartState m l (state_of h m) (λ e. start-row l (state_of h m) a.0 (j m)) (j m))) n)

no-state : (n : ℕ) → StartState (state_of [] n)
unfolding state_of
no-state n = (tt, λ a e. absurd (no-active a e))
  where
    is-none : Option Bytes → Type 0
    is-none None = Unit {0}
    is-none (Some a) = ⊥

    no-active : (a : Bytes) → None ≡ Some a → ⊥
    no-active a e = subst is-none e tt

start-active : (w : Schedule) → AllActive (start w)
start-active w n a e = has-started (state_of (start w) n).nets (start-rows [] (start w) (start-are w) no-state n).0 a
    ((start-rows [] (start w) (start-are w) no-state n).1 a e)

start-bridged : (w : Schedule) → Bridged (start w)
start-bridged w = bridged-lines [] (start w) (starts-fit [] (start w) (start-are w) no-rows) no-lines

pub start-grounded : (w : Schedule) → Grounded (start w)
start-grounded w = record { bridged = start-bridged w; active = start-active w }
