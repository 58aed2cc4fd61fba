-- What is true of every node's state before each event of a run: a claim on states that answers, accepted terms,
-- seals and boots keep.
use Rattle.std.proofs.Common.{◌≡◌, ℕ, ◌+◌, ◌⊎◌, Bool, true, false, cond, List, [], ◌∷◌, ◌++◌, map, length, Option, Some, None, nat_eq, refl, sym, ap, ◌∙◌, subst, append_assoc, eqb-true, inl, inr}
use Rattle.std.specs.List.{AllByRecursion}
use Rattle.zb_model.specs.Data.{Bytes, Term, Edit, Place, Reason, Down, NoFrame, WrongState, Task, Received, DoRoll}
use Rattle.zb_model.specs.Lines.{Line, Changed, Accept, Seal, DownReset, Boot}
use Rattle.zb_model.specs.State.{NodeState, applied_all, after_accepting, after_sealing, after_boot}
use Rattle.zb_model.specs.Tools.{Tools}
use Rattle.zb_model.specs.Answer.{Answer, answer_by, plan_of, counting_of}
use Rattle.zb_model.specs.Readings.{state_of, heard_line, after, speaker, is_up, air}
use Rattle.zb_model.specs.Play.{Schedule, Event, Own, RollOver, Deliver, Reset, PowerOn, ShowRecord, ArmStop, ArmFail, InjectBytes, ForgeNet, ForgeNetAps, ForgeOpen, Step, Disk, Armed, NotArmed, StopAfter, FailAt, Calls, BootCalls, setting_of, disk_of, with_disk, falls, stands, calls_for, leaves_both, commit_lines, refuse_lines, send_lines, stored_lines, told_lines, group_of, cut_of, fallen_line, answer_step, boot_step, refused_step, task_step, deliver_step, frame_at, supply, forged_net, forged_both, forged_open, step_by, step}
use Rattle.law_run.specs.Events.{BeforeEach}
use Rattle.law_run.proofs.Basics.{append-nil', state-snoc}
use Rattle.law_run.proofs.FreshLines.{all-append}
use Rattle.law_run.proofs.Groups.{lines-keep}
use Rattle.law_run.proofs.GroupSeals.{stored-state}

-- the answer of a node to a task, after the lines
abbrev pub answer_to : Tools → Schedule → List Line → ℕ → Task → Answer
answer_to tools w h n task = answer_by tools (setting_of w n) (state_of h n)
    (counting_of (setting_of w n) (state_of h n) (plan_of tools (setting_of w n) (state_of h n) task))
    (plan_of tools (setting_of w n) (state_of h n) task)

-- the tasks that events give a node: its own event, a rollover with the next key of the supply, a frame with that key
abbrev pub TaskOf : (Event → Type 0) → Schedule → List Line → ℕ → Task → Type 0
TaskOf E w h n task =
    E (Own n task)
    ⊎ ((E (RollOver n) × (task ≡ DoRoll (supply w h)))
    ⊎ ((frame : ℕ) × (bytes : Bytes) × E (Deliver frame n) × (task ≡ Received bytes (supply w h))))

abbrev pub AllKeep : (List Line → ℕ → NodeState → Type 0) → List Line → Type 0
AllKeep P h = (m : ℕ) → P h m (state_of h m)

pub record IsKept (tools : Tools) (w : Schedule) (E : Event → Type 0) (P : List Line → ℕ → NodeState → Type 0) : Type
    0 where
  pub more : (h ls : List Line) (n : ℕ) (s : NodeState) → P h n s → P (h ++ ls) n s
  pub answers : (h : List Line) (number n : ℕ) (task : Task) → TaskOf E w h n task → AllKeep P h
      → P (h ++ stored_lines number n (answer_to tools w h n task)) n
      (applied_all (answer_to tools w h n task).edits (state_of h n))
  pub accepts : (h : List Line) (n : ℕ) (t : Term) (s : NodeState) → P h n s → P h n (after_accepting t s)
  pub seals : (h : List Line) (n : ℕ) (t : Term) (s : NodeState) → P h n s → P h n (after_sealing t s)
  pub boots : (h : List Line) (n : ℕ) (s : NodeState) → P h n s → P h n (after_boot s)

-- the state of another node

abbrev IsOther : ℕ → Line → Type 0
IsOther m l = nat_eq (speaker l) m ≡ false

pub other-state : (m : ℕ) (h ls : List Line) → AllByRecursion (IsOther m) ls → state_of (h ++ ls) m ≡ state_of h m
unfolding heard_line
other-state m h [] a = ap (λ x. state_of x m) (append-nil' h)
other-state m h (l ∷ ls) a =
    ap (λ x. state_of x m) (sym (append_assoc h (l ∷ []) ls)) ∙ other-state m (h ++ l ∷ []) ls a.1
    ∙ state-snoc h l m ∙ ap (λ b. cond b (after l (state_of h m)) (state_of h m)) a.0

changes-other : (number n m : ℕ) (es : List Edit) → nat_eq n m ≡ false
    → AllByRecursion (IsOther m) (map (Changed number n) es)
unfolding speaker
changes-other number n m [] e = tt
changes-other number n m (x ∷ es) e = (e, changes-other number n m es e)

commit-other : (number n m : ℕ) (es : List Edit) → nat_eq n m ≡ false
    → AllByRecursion (IsOther m) (commit_lines number n es)
unfolding speaker
commit-other number n m [] e = tt
commit-other number n m (x ∷ es) e = (e, tt)

pub stored-other : (number n m : ℕ) (a : Answer) → nat_eq n m ≡ false
    → AllByRecursion (IsOther m) (stored_lines number n a)
unfolding stored_lines
stored-other number n m a e = all-append (IsOther m) (map (Changed number n) a.edits) (commit_lines number n a.edits)
    (changes-other number n m a.edits e) (commit-other number n m a.edits e)

-- lines that keep a claim on states

abbrev LineKeeps : (NodeState → Type 0) → Line → Type 0
LineKeeps Φ l = (s : NodeState) → Φ s → Φ (after l s)

accepts-keep : (Φ : NodeState → Type 0) → ((t : Term) (s : NodeState) → Φ s → Φ (after_accepting t s))
    → (number n : ℕ) (ts : List Term) → AllByRecursion (LineKeeps Φ) (map (Accept number n) ts)
unfolding after
accepts-keep Φ k number n [] = tt
accepts-keep Φ k number n (t ∷ ts) = (k t, accepts-keep Φ k number n ts)

seals-keep : (Φ : NodeState → Type 0) → ((t : Term) (s : NodeState) → Φ s → Φ (after_sealing t s))
    → (number n : ℕ) (ts : List Term) → AllByRecursion (LineKeeps Φ) (map (Seal number n) ts)
unfolding after
seals-keep Φ k number n [] = tt
seals-keep Φ k number n (t ∷ ts) = (k t, seals-keep Φ k number n ts)

refuse-keep : (Φ : NodeState → Type 0) (number n : ℕ) (place : Place) (o : Option Reason)
    → AllByRecursion (LineKeeps Φ) (refuse_lines number n place o)
unfolding after
refuse-keep Φ number n place None = tt
refuse-keep Φ number n place (Some r) = (λ s p. p, tt)

send-keep : (Φ : NodeState → Type 0) (number : ℕ) (n : Option ℕ) (frame : ℕ) (o : Option Bytes)
    → AllByRecursion (LineKeeps Φ) (send_lines number n frame o)
unfolding after
send-keep Φ number n frame None = tt
send-keep Φ number n frame (Some b) = (λ s p. p, tt)

fallen-keep : (Φ : NodeState → Type 0) (armed : Armed) (number n : ℕ)
    → AllByRecursion (LineKeeps Φ) (fallen_line armed number n)
unfolding after
fallen-keep Φ NotArmed number n = tt
fallen-keep Φ (StopAfter calls torn) number n = (λ s p. p, tt)
fallen-keep Φ (FailAt call) number n = (λ s p. p, tt)

told-keep : (Φ : NodeState → Type 0) → ((t : Term) (s : NodeState) → Φ s → Φ (after_accepting t s))
    → ((t : Term) (s : NodeState) → Φ s → Φ (after_sealing t s)) → (number n frame : ℕ) (a : Answer)
    → AllByRecursion (LineKeeps Φ) (told_lines number n frame a)
unfolding told_lines
told-keep Φ j k number n frame a =
    all-append (LineKeeps Φ) (map (Accept number n) a.accepts) _ (accepts-keep Φ j number n a.accepts)
    (all-append (LineKeeps Φ) (refuse_lines number n a.place a.refusal) _ (refuse-keep Φ number n a.place a.refusal)
    (all-append (LineKeeps Φ) (map (Seal number n) a.seals) _ (seals-keep Φ k number n a.seals)
    (send-keep Φ number (Some n) frame a.frame)))

-- The lines of a step

-- after lines that keep each claim
behind : (P : List Line → ℕ → NodeState → Type 0)
    → ((h ls : List Line) (n : ℕ) (s : NodeState) → P h n s → P (h ++ ls) n s) → (h ls : List Line)
    → ((m : ℕ) → AllByRecursion (LineKeeps (P (h ++ ls) m)) ls) → AllKeep P h → AllKeep P (h ++ ls)
behind P more h ls k all m = lines-keep (P (h ++ ls) m) m h ls (k m) (more h ls m (state_of h m) (all m))

stored-kept : (tools : Tools) (w : Schedule) (E : Event → Type 0) (P : List Line → ℕ → NodeState → Type 0)
    → IsKept tools w E P → (h : List Line) (number n : ℕ) (task : Task) → TaskOf E w h n task → AllKeep P h
    → AllKeep P (h ++ stored_lines number n (answer_to tools w h n task))
stored-kept tools w E P k h number n task is all m = by-test (nat_eq n m) refl
  where
    ls : List Line
    ls = stored_lines number n (answer_to tools w h n task)

    own : P (h ++ ls) n (state_of (h ++ ls) n)
    own = subst (λ s. P (h ++ ls) n s) (sym (stored-state h number n (answer_to tools w h n task)))
        (k.answers h number n task is all)

    by-test : (b : Bool) → nat_eq n m ≡ b → P (h ++ ls) m (state_of (h ++ ls) m)
    by-test true e = subst (λ j. P (h ++ ls) j (state_of (h ++ ls) j)) (eqb-true n m e) own
    by-test false e =
        subst (λ s. P (h ++ ls) m s)
        (sym (other-state m h ls (stored-other number n m (answer_to tools w h n task) e)))
        (k.more h ls m (state_of h m) (all m))

group-kept : (tools : Tools) (w : Schedule) (E : Event → Type 0) (P : List Line → ℕ → NodeState → Type 0)
    → IsKept tools w E P → (h : List Line) (number n : ℕ) (task : Task) → TaskOf E w h n task → AllKeep P h
    → AllKeep P (h ++ group_of h number n (answer_to tools w h n task))
unfolding group_of
group-kept tools w E P k h number n task is all =
    subst (AllKeep P) (append_assoc h stored told)
    (behind P k.more (h ++ stored) told
    (λ m. told-keep (P ((h ++ stored) ++ told) m) (λ t s. k.accepts ((h ++ stored) ++ told) m t s)
    (λ t s. k.seals ((h ++ stored) ++ told) m t s) number n (length (air h) + 1) (answer_to tools w h n task))
    (stored-kept tools w E P k h number n task is all))
  where
    stored : List Line
    stored = stored_lines number n (answer_to tools w h n task)

    told : List Line
    told = told_lines number n (length (air h) + 1) (answer_to tools w h n task)

fallen-kept : (tools : Tools) (w : Schedule) (E : Event → Type 0) (P : List Line → ℕ → NodeState → Type 0)
    → IsKept tools w E P → (h : List Line) (armed : Armed) (number n : ℕ) → AllKeep P h
    → AllKeep P (h ++ fallen_line armed number n)
fallen-kept tools w E P k h armed number n all = behind P k.more h (fallen_line armed number n)
    (λ m. fallen-keep (P (h ++ fallen_line armed number n) m) armed number n) all

cut-kept : (tools : Tools) (w : Schedule) (E : Event → Type 0) (P : List Line → ℕ → NodeState → Type 0)
    → IsKept tools w E P → (h : List Line) (armed : Armed) (calls : Calls) (number n : ℕ) (task : Task)
    → TaskOf E w h n task → AllKeep P h → AllKeep P (h ++ cut_of armed calls number n (answer_to tools w h n task))
unfolding cut_of
cut-kept tools w E P k h armed calls number n task is all =
    subst (AllKeep P) (append_assoc h some (fallen_line armed number n))
    (fallen-kept tools w E P k (h ++ some) armed number n (by-test (stands armed calls)))
  where
    some : List Line
    some = cond (stands armed calls) (stored_lines number n (answer_to tools w h n task)) []

    by-test : (b : Bool) → AllKeep P (h ++ cond b (stored_lines number n (answer_to tools w h n task)) [])
    by-test true = stored-kept tools w E P k h number n task is all
    by-test false = subst (AllKeep P) (sym (append-nil' h)) all

either : (Q : List Line → Type 0) (h : List Line) (b : Bool) (x y : Step) → Q (h ++ x.lines) → Q (h ++ y.lines)
    → Q (h ++ (cond b x y).lines)
either Q h true x y p q = p
either Q h false x y p q = q

-- lines that change no state
quiet : (P : List Line → ℕ → NodeState → Type 0)
    → ((h ls : List Line) (n : ℕ) (s : NodeState) → P h n s → P (h ++ ls) n s) → (h ls : List Line)
    → AllByRecursion (λ l. (s : NodeState) → after l s ≡ s) ls → AllKeep P h → AllKeep P (h ++ ls)
quiet P more h ls a all = behind P more h ls (λ m. each (P (h ++ ls) m) ls a) all
  where
    each : (Φ : NodeState → Type 0) (xs : List Line) → AllByRecursion (λ l. (s : NodeState) → after l s ≡ s) xs
        → AllByRecursion (LineKeeps Φ) xs
    each Φ [] a = tt
    each Φ (x ∷ xs) a = (λ s p. subst Φ (sym (a.0 s)) p, each Φ xs a.1)

refused-kept : (P : List Line → ℕ → NodeState → Type 0)
    → ((h ls : List Line) (n : ℕ) (s : NodeState) → P h n s → P (h ++ ls) n s)
    → (h : List Line) (disks : List Disk) (number n : ℕ) (reason : Reason) → AllKeep P h
    → AllKeep P (h ++ (refused_step disks number n reason).lines)
unfolding after
refused-kept P more h disks number n reason all = quiet P more h (refused_step disks number n reason).lines
    (λ s. refl, tt) all

answer-kept : (tools : Tools) (w : Schedule) (E : Event → Type 0) (P : List Line → ℕ → NodeState → Type 0)
    → IsKept tools w E P → (h : List Line) (disks : List Disk) (number n : ℕ) (task : Task) → TaskOf E w h n task
    → AllKeep P h
    → AllKeep P (h ++ (answer_step h disks number n (answer_to tools w h n task)).lines)
answer-kept tools w E P k h disks number n task is all =
    either (AllKeep P) h (falls (disk_of disks n).armed calls)
    (record {
      lines = cut_of (disk_of disks n).armed calls number n (answer_to tools w h n task);
      disks = with_disk disks n (record { armed = NotArmed; both_open = leaves_both (disk_of disks n).armed calls });
    })
    (record { lines = group_of h number n (answer_to tools w h n task); disks = disks })
    (cut-kept tools w E P k h (disk_of disks n).armed calls number n task is all)
    (group-kept tools w E P k h number n task is all)
  where
    calls : Calls
    calls = calls_for h n (answer_to tools w h n task).edits

task-kept : (tools : Tools) (w : Schedule) (E : Event → Type 0) (P : List Line → ℕ → NodeState → Type 0)
    → IsKept tools w E P → (h : List Line) (disks : List Disk) (number n : ℕ) (task : Task) → TaskOf E w h n task
    → AllKeep P h
    → AllKeep P (h ++ (task_step tools counting_of w h disks number n task).lines)
unfolding task_step
task-kept tools w E P k h disks number n task is all =
    either (AllKeep P) h (is_up h n) (answer_step h disks number n (answer_to tools w h n task))
    (refused_step disks number n Down)
    (answer-kept tools w E P k h disks number n task is all) (refused-kept P k.more h disks number n Down all)

deliver-kept : (tools : Tools) (w : Schedule) (E : Event → Type 0) (P : List Line → ℕ → NodeState → Type 0)
    → IsKept tools w E P → (h : List Line) (disks : List Disk) (number frame n : ℕ) (o : Option Bytes)
    → E (Deliver frame n) → AllKeep P h
    → AllKeep P (h ++ (deliver_step tools counting_of w h disks number n o).lines)
deliver-kept tools w E P k h disks number frame n None e all =
    refused-kept P k.more h disks number n (cond (is_up h n) NoFrame Down) all
deliver-kept tools w E P k h disks number frame n (Some bytes) e all = task-kept tools w E P k h disks number n
    (Received bytes (supply w h)) (inr (inr (frame, bytes, e, refl))) all

boot-kept : (tools : Tools) (w : Schedule) (E : Event → Type 0) (P : List Line → ℕ → NodeState → Type 0)
    → IsKept tools w E P → (h : List Line) (disks : List Disk) (number n : ℕ) → AllKeep P h
    → AllKeep P (h ++ (boot_step disks number n).lines)
unfolding after
boot-kept tools w E P k h disks number n all =
    either (AllKeep P) h (falls (disk_of disks n).armed (BootCalls (disk_of disks n).both_open))
    (record {
      lines = fallen_line (disk_of disks n).armed number n;
      disks =
          with_disk disks n
          (record {
            armed = NotArmed;
            both_open = leaves_both (disk_of disks n).armed (BootCalls (disk_of disks n).both_open);
          });
    })
    (record {
      lines = Boot number n
          ∷ [];
      disks = with_disk disks n (record { armed = (disk_of disks n).armed; both_open = false });
    })
    (fallen-kept tools w E P k h (disk_of disks n).armed number n all)
    (behind P k.more h (Boot number n ∷ []) (λ m. (λ s p. k.boots (h ++ Boot number n ∷ []) m s p, tt)) all)

pub step-kept : (tools : Tools) (w : Schedule) (E : Event → Type 0) (P : List Line → ℕ → NodeState → Type 0)
    → IsKept tools w E P → (h : List Line) (disks : List Disk) (number : ℕ) (event : Event) → E event → AllKeep P h
    → AllKeep P (h ++ (step tools w h disks number event).lines)
unfolding step step_by forged_net forged_both forged_open after
step-kept tools w E P k h disks number (Own n task) e all = task-kept tools w E P k h disks number n task (inl e) all
step-kept tools w E P k h disks number (RollOver n) e all = task-kept tools w E P k h disks number n
    (DoRoll (supply w h)) (inr (inl (e, refl))) all
step-kept tools w E P k h disks number (Deliver frame n) e all = deliver-kept tools w E P k h disks number frame n
    (frame_at h frame) e all
step-kept tools w E P k h disks number (Reset n) e all =
    either (AllKeep P) h (is_up h n) (record { lines = DownReset number n ∷ []; disks = disks })
    (refused_step disks number n Down)
    (quiet P k.more h (DownReset number n ∷ []) (λ s. refl, tt) all) (refused-kept P k.more h disks number n Down all)
step-kept tools w E P k h disks number (PowerOn n) e all =
    either (AllKeep P) h (is_up h n) (refused_step disks number n WrongState) (boot_step disks number n)
    (refused-kept P k.more h disks number n WrongState all) (boot-kept tools w E P k h disks number n all)
step-kept tools w E P k h disks number (ShowRecord n) e all = quiet P k.more h _ (λ s. refl, tt) all
step-kept tools w E P k h disks number (ArmStop n calls torn) e all = quiet P k.more h [] tt all
step-kept tools w E P k h disks number (ArmFail n call) e all = quiet P k.more h [] tt all
step-kept tools w E P k h disks number (InjectBytes bytes) e all = quiet P k.more h _ (λ s. refl, tt) all
step-kept tools w E P k h disks number (ForgeNet to from source key sequence counter content) e all =
    quiet P k.more h _ (λ s. refl, (λ s. refl, tt)) all
step-kept tools w E P k h disks number
    (ForgeNetAps to from source key sequence counter label base aps_counter command) e all =
    quiet P k.more h _ (λ s. refl, (λ s. refl, (λ s. refl, tt))) all
step-kept tools w E P k h disks number (ForgeOpen to from source label base aps_counter command) e all =
    quiet P k.more h _ (λ s. refl, (λ s. refl, tt)) all

-- so the claim is true before each event
pub kept-before : (tools : Tools) (w : Schedule) (E : Event → Type 0) (P : List Line → ℕ → NodeState → Type 0)
    → IsKept tools w E P → (h : List Line) (disks : List Disk) (number : ℕ) (events : List Event)
    → AllByRecursion E events → AllKeep P h
    → BeforeEach (λ x event. E event × AllKeep P x) tools w h disks number events
kept-before tools w E P k h disks number [] a all = tt
kept-before tools w E P k h disks number (event ∷ events) a all = (
  (a.0, all),
  kept-before tools w E P k (h ++ (step tools w h disks number event).lines)
      (step tools w h disks number event).disks (number + 1) events a.1
      (step-kept tools w E P k h disks number event a.0 all),
)
