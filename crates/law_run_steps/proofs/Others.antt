-- The results of the other steps of a node, and which step each event is.
use Rattle.std.proofs.Common.{◌≡◌, ℕ, ◌+◌, Bool, true, false, cond, List, [], ◌∷◌, ◌++◌, length, Option, Some, None, nat_eq, refl, sym, ap, ◌∙◌, subst}
use Rattle.zb_model.specs.Data.{Bytes, Label, Term, AtEvent, Reason, Down, NoFrame, WrongState, Task, Received, DoRoll}
use Rattle.zb_model.specs.Lines.{Line, Refuse, DownReset, Boot, Dump}
use Rattle.zb_model.specs.Record.{record_of}
use Rattle.zb_model.specs.State.{after_boot}
use Rattle.zb_model.specs.Tools.{Tools}
use Rattle.zb_model.specs.Frames.{plain_frame, secured_frame, nwk_header, nwk_term, aps_term, sealed_command}
use Rattle.zb_model.specs.Answer.{answer, counting_of}
use Rattle.zb_model.specs.Readings.{speaker, after, heard_line, state_of, is_up, commits_of, air}
use Rattle.zb_model.specs.Play.{Schedule, Own, RollOver, Deliver, Reset, PowerOn, ShowRecord, ArmStop, ArmFail, InjectBytes, ForgeNet, ForgeNetAps, ForgeOpen, Step, Disk, DiskState, Armed, StopAfter, FailAt, BootCalls, disk_of, with_disk, setting_of, falls, leaves_both, fallen_line, answer_step, boot_step, refused_step, task_step, deliver_step, frame_at, supply, forged_control, forged_net, forged_both, forged_open, step_by, step}
use Rattle.law_run.proofs.Basics.{append-nil', state-append}
use Rattle.law_run_steps.specs.Conditions.{Condition, condition_of, disk_left, after_reset, after_power_on, after_cut_boot, after_arming}
use Rattle.law_run_steps.specs.Steps.{ComesTo, IsBooted, outside_step, forging}
use Rattle.law_run_steps.proofs.Disks.{nat_eq-refl, cond-same, own-disk}
use Rattle.law_run_steps.proofs.Spared.{Spares, spared-by, power-append, commits-append, same-condition}
use Rattle.law_run_steps.proofs.Answered.{at-true, at-false, fall-behind}

-- Lines that leave their node as it is

refuse-spares : (m : ℕ) (x : Condition) (number n : ℕ) (reason : Reason) → Spares m x (Refuse number n AtEvent reason)
unfolding heard_line speaker after
refuse-spares m x number n reason =
    record { state = cond-same (nat_eq n m) x.state; power = cond-same (nat_eq n m) x.up; commits = refl }

dump-spares : (m : ℕ) (x : Condition) (number n : ℕ) (bytes : Bytes) → Spares m x (Dump number n bytes)
unfolding heard_line speaker after
dump-spares m x number n bytes =
    record { state = cond-same (nat_eq n m) x.state; power = cond-same (nat_eq n m) x.up; commits = refl }

pub refused : (w : Schedule) (h : List Line) (ds : List Disk) (number n : ℕ) (reason : Reason) (g : Step) → g
    ≡ refused_step ds number n reason → ComesTo w h n g (Refuse number n AtEvent reason ∷ []) (condition_of w h ds n)
refused w h ds number n reason g e =
    subst (λ (y : Step). ComesTo w h n y (Refuse number n AtEvent reason ∷ []) (condition_of w h ds n)) (sym e)
    (record {
      lines = refl;
      condition = spared-by w h (Refuse number n AtEvent reason ∷ []) ds ds n
          (refuse-spares n (condition_of w h ds n) number n reason, tt) refl;
    })

pub dumped : (tools : Tools) (w : Schedule) (h : List Line) (ds : List Disk) (number n : ℕ)
    → ComesTo w h n (step tools w h ds number (ShowRecord n)) (Dump number n (record_of (state_of h n)) ∷ [])
    (condition_of w h ds n)
unfolding step step_by
dumped tools w h ds number n = record {
  lines = refl;
  condition = spared-by w h (Dump number n (record_of (state_of h n)) ∷ []) ds ds n
      (dump-spares n (condition_of w h ds n) number n (record_of (state_of h n)), tt) refl;
}

-- What is armed

armed-condition : (w : Schedule) (h : List Line) (ds : List Disk) (n : ℕ) (a : Armed)
    → condition_of w (h ++ []) (with_disk ds n (record { armed = a; both_open = (disk_of ds n).both_open })) n
    ≡ after_arming a (condition_of w h ds n)
armed-condition w h ds n a =
    same-condition (setting_of w n) (state_of (h ++ []) n) (state_of h n) (commits_of (h ++ []) n) (commits_of h n)
    (is_up (h ++ []) n) (is_up h n) (disk_of (with_disk ds n d) n) d
    (ap (λ z. state_of z n) (append-nil' h)) (ap (λ z. commits_of z n) (append-nil' h))
    (ap (λ z. is_up z n) (append-nil' h)) (own-disk ds n d)
  where
    d : DiskState
    d = record { armed = a; both_open = (disk_of ds n).both_open }

pub stop-armed : (tools : Tools) (w : Schedule) (h : List Line) (ds : List Disk) (number n calls : ℕ) (torn : Bytes)
    → ComesTo w h n (step tools w h ds number (ArmStop n calls torn)) []
    (after_arming (StopAfter calls torn) (condition_of w h ds n))
unfolding step step_by
stop-armed tools w h ds number n calls torn =
    record { lines = refl; condition = armed-condition w h ds n (StopAfter calls torn) }

pub failure-armed : (tools : Tools) (w : Schedule) (h : List Line) (ds : List Disk) (number n call : ℕ)
    → ComesTo w h n (step tools w h ds number (ArmFail n call)) [] (after_arming (FailAt call) (condition_of w h ds n))
unfolding step step_by
failure-armed tools w h ds number n call = record { lines = refl; condition = armed-condition w h ds n (FailAt call) }

-- Power off and on

reset-condition : (w : Schedule) (h : List Line) (ds : List Disk) (number n : ℕ)
    → condition_of w (h ++ DownReset number n ∷ []) ds n ≡ after_reset (condition_of w h ds n)
unfolding heard_line speaker after
reset-condition w h ds number n =
    same-condition (setting_of w n) (state_of (h ++ ls) n) (state_of h n) (commits_of (h ++ ls) n) (commits_of h n)
    (is_up (h ++ ls) n) false (disk_of ds n) (disk_of ds n)
    (state-append h ls n ∙ cond-same (nat_eq n n) (state_of h n)) (commits-append h ls n)
    (power-append h ls n ∙ ap (λ b. cond b false (is_up h n)) (nat_eq-refl n)) refl
  where
    ls : List Line
    ls = DownReset number n ∷ []

boot-condition : (w : Schedule) (h : List Line) (ds : List Disk) (number n : ℕ)
    → condition_of w (h ++ Boot number n ∷ [])
    (with_disk ds n (record { armed = (disk_of ds n).armed; both_open = false })) n
    ≡ after_power_on (condition_of w h ds n)
unfolding heard_line speaker after
boot-condition w h ds number n =
    same-condition (setting_of w n) (state_of (h ++ ls) n) (after_boot (state_of h n)) (commits_of (h ++ ls) n)
    (commits_of h n) (is_up (h ++ ls) n) true (disk_of (with_disk ds n d) n) d
    (state-append h ls n ∙ ap (λ b. cond b (after_boot (state_of h n)) (state_of h n)) (nat_eq-refl n))
    (commits-append h ls n) (power-append h ls n ∙ ap (λ b. cond b true (is_up h n)) (nat_eq-refl n))
    (own-disk ds n d)
  where
    ls : List Line
    ls = Boot number n ∷ []

    d : DiskState
    d = record { armed = (disk_of ds n).armed; both_open = false }

cut-boot-condition : (w : Schedule) (h : List Line) (ds : List Disk) (number n : ℕ) (both : Bool) → is_up h n ≡ false
    → falls (disk_of ds n).armed (BootCalls (disk_of ds n).both_open) ≡ true
    → condition_of w (h ++ fallen_line (disk_of ds n).armed number n) (with_disk ds n (disk_left both)) n
    ≡ record {
      setting = setting_of w n;
      state = state_of h n;
      commits = commits_of h n;
      up = is_up h n;
      disk = disk_left both;
    }
cut-boot-condition w h ds number n both down p =
    fall-behind w h [] ds number n (disk_of ds n).armed (BootCalls (disk_of ds n).both_open) (disk_left both)
    (state_of h n) (commits_of h n) p (ap (λ z. state_of z n) (append-nil' h))
    (ap (λ z. commits_of z n) (append-nil' h))
    ∙ same-condition (setting_of w n) (state_of h n) (state_of h n) (commits_of h n) (commits_of h n) false
    (is_up h n) (disk_left both) (disk_left both) refl refl (sym down) refl

pub booted : (w : Schedule) (h : List Line) (ds : List Disk) (number n : ℕ) (g : Step) → g ≡ boot_step ds number n
    → is_up h n ≡ false → IsBooted w h number n (condition_of w h ds n) g
booted w h ds number n g e down = record {
  whole = λ p. subst (λ (y : Step). ComesTo w h n y (Boot number n ∷ []) (after_power_on (condition_of w h ds n)))
      (sym (e ∙ at-false (falls armed (BootCalls both)) cut whole p))
      (record { lines = refl; condition = boot-condition w h ds number n });
  cut = λ p. subst
      (λ (y : Step). ComesTo w h n y (fallen_line armed number n) (after_cut_boot (condition_of w h ds n)))
      (sym (e ∙ at-true (falls armed (BootCalls both)) cut whole p))
      (record
      { lines = refl; condition = cut-boot-condition w h ds number n (leaves_both armed (BootCalls both)) down p });
}
  where
    armed : Armed
    armed = (disk_of ds n).armed

    both : Bool
    both = (disk_of ds n).both_open

    cut : Step
    cut = record {
      lines = fallen_line armed number n;
      disks = with_disk ds n (disk_left (leaves_both armed (BootCalls both)));
    }

    whole : Step
    whole = record { lines = Boot number n ∷ []; disks = with_disk ds n (record { armed = armed; both_open = false }) }

-- Which step an event is

pub reset-up : (tools : Tools) (w : Schedule) (h : List Line) (ds : List Disk) (number n : ℕ) → is_up h n ≡ true
    → ComesTo w h n (step tools w h ds number (Reset n)) (DownReset number n ∷ [])
    (after_reset (condition_of w h ds n))
unfolding step step_by
reset-up tools w h ds number n up =
    subst (λ (y : Step). ComesTo w h n y (DownReset number n ∷ []) (after_reset (condition_of w h ds n)))
    (sym (at-true (is_up h n) (record { lines = DownReset number n ∷ []; disks = ds })
    (refused_step ds number n Down) up))
    (record { lines = refl; condition = reset-condition w h ds number n })

pub reset-down : (tools : Tools) (w : Schedule) (h : List Line) (ds : List Disk) (number n : ℕ) → is_up h n ≡ false
    → step tools w h ds number (Reset n) ≡ refused_step ds number n Down
unfolding step step_by
reset-down tools w h ds number n = at-false (is_up h n) (record { lines = DownReset number n ∷ []; disks = ds })
    (refused_step ds number n Down)

pub boot-up : (tools : Tools) (w : Schedule) (h : List Line) (ds : List Disk) (number n : ℕ) → is_up h n ≡ true
    → step tools w h ds number (PowerOn n) ≡ refused_step ds number n WrongState
unfolding step step_by
boot-up tools w h ds number n = at-true (is_up h n) (refused_step ds number n WrongState) (boot_step ds number n)

pub boot-down : (tools : Tools) (w : Schedule) (h : List Line) (ds : List Disk) (number n : ℕ) → is_up h n ≡ false
    → step tools w h ds number (PowerOn n) ≡ boot_step ds number n
unfolding step step_by
boot-down tools w h ds number n = at-false (is_up h n) (refused_step ds number n WrongState) (boot_step ds number n)

task-up : (tools : Tools) (w : Schedule) (h : List Line) (ds : List Disk) (number n : ℕ) (task : Task) → is_up h n
    ≡ true → task_step tools counting_of w h ds number n task
    ≡ answer_step h ds number n (answer tools (setting_of w n) (state_of h n) task)
unfolding task_step answer
task-up tools w h ds number n task =
    at-true (is_up h n) (answer_step h ds number n (answer tools (setting_of w n) (state_of h n) task))
    (refused_step ds number n Down)

task-down : (tools : Tools) (w : Schedule) (h : List Line) (ds : List Disk) (number n : ℕ) (task : Task) → is_up h n
    ≡ false → task_step tools counting_of w h ds number n task ≡ refused_step ds number n Down
unfolding task_step answer
task-down tools w h ds number n task =
    at-false (is_up h n) (answer_step h ds number n (answer tools (setting_of w n) (state_of h n) task))
    (refused_step ds number n Down)

pub own-up : (tools : Tools) (w : Schedule) (h : List Line) (ds : List Disk) (number n : ℕ) (task : Task) → is_up h n
    ≡ true → step tools w h ds number (Own n task)
    ≡ answer_step h ds number n (answer tools (setting_of w n) (state_of h n) task)
unfolding step step_by
own-up tools w h ds number n task = task-up tools w h ds number n task

pub own-down : (tools : Tools) (w : Schedule) (h : List Line) (ds : List Disk) (number n : ℕ) (task : Task)
    → is_up h n ≡ false → step tools w h ds number (Own n task) ≡ refused_step ds number n Down
unfolding step step_by
own-down tools w h ds number n task = task-down tools w h ds number n task

pub roll-up : (tools : Tools) (w : Schedule) (h : List Line) (ds : List Disk) (number n : ℕ) → is_up h n ≡ true
    → step tools w h ds number (RollOver n)
    ≡ answer_step h ds number n (answer tools (setting_of w n) (state_of h n) (DoRoll (supply w h)))
unfolding step step_by
roll-up tools w h ds number n = task-up tools w h ds number n (DoRoll (supply w h))

pub roll-down : (tools : Tools) (w : Schedule) (h : List Line) (ds : List Disk) (number n : ℕ) → is_up h n ≡ false
    → step tools w h ds number (RollOver n) ≡ refused_step ds number n Down
unfolding step step_by
roll-down tools w h ds number n = task-down tools w h ds number n (DoRoll (supply w h))

pub frame-up : (tools : Tools) (w : Schedule) (h : List Line) (ds : List Disk) (number frame n : ℕ) (bytes : Bytes)
    → is_up h n ≡ true → frame_at h frame ≡ Some bytes
    → step tools w h ds number (Deliver frame n)
    ≡ answer_step h ds number n (answer tools (setting_of w n) (state_of h n) (Received bytes (supply w h)))
unfolding step step_by
frame-up tools w h ds number frame n bytes up found = ap (λ o. deliver_step tools counting_of w h ds number n o) found
    ∙ task-up tools w h ds number n (Received bytes (supply w h)) up

pub frame-none : (tools : Tools) (w : Schedule) (h : List Line) (ds : List Disk) (number frame n : ℕ) → is_up h n
    ≡ true → frame_at h frame ≡ None → step tools w h ds number (Deliver frame n) ≡ refused_step ds number n NoFrame
unfolding step step_by
frame-none tools w h ds number frame n up found = ap (λ o. deliver_step tools counting_of w h ds number n o) found ∙
    ap (λ b. refused_step ds number n (cond b NoFrame Down)) up

deliver-down : (tools : Tools) (w : Schedule) (h : List Line) (ds : List Disk) (number n : ℕ) (o : Option Bytes)
    → is_up h n ≡ false → deliver_step tools counting_of w h ds number n o ≡ refused_step ds number n Down
deliver-down tools w h ds number n None down = ap (λ b. refused_step ds number n (cond b NoFrame Down)) down
deliver-down tools w h ds number n (Some bytes) down = task-down tools w h ds number n (Received bytes (supply w h))
    down

pub frame-down : (tools : Tools) (w : Schedule) (h : List Line) (ds : List Disk) (number frame n : ℕ) → is_up h n
    ≡ false → step tools w h ds number (Deliver frame n) ≡ refused_step ds number n Down
unfolding step step_by
frame-down tools w h ds number frame n = deliver-down tools w h ds number n (frame_at h frame)

-- The outside

pub injected : (tools : Tools) (w : Schedule) (h : List Line) (ds : List Disk) (number : ℕ) (bytes : Bytes)
    → step tools w h ds number (InjectBytes bytes)
    ≡ outside_step ds (Rattle.zb_model.specs.Lines.Inject number (length (air h) + 1) bytes ∷ [])
unfolding step step_by
injected tools w h ds number bytes = refl

pub net-forged : (tools : Tools) (w : Schedule) (h : List Line) (ds : List Disk)
    (number to from source sequence counter : ℕ) (key content : Bytes) (t : Term) → t
    ≡ nwk_term (forged_control tools content) to from source key sequence counter content
    → step tools w h ds number (ForgeNet to from source key sequence counter content)
    ≡ outside_step ds (forging h number (t ∷ []) (tools.wire t))
unfolding step step_by forged_net
net-forged tools w h ds number to from source sequence counter key content t e =
    ap (λ (z : Term). outside_step ds (forging h number (z ∷ []) (tools.wire z))) (sym e)

pub both-forged : (tools : Tools) (w : Schedule) (h : List Line) (ds : List Disk)
    (number to from source sequence counter aps_counter : ℕ) (label : Label) (key base command : Bytes)
    (inner t : Term)
    → inner ≡ aps_term sealed_command label base source aps_counter command → t
    ≡ nwk_term secured_frame to from source key sequence counter (tools.wire inner)
    → step tools w h ds number (ForgeNetAps to from source key sequence counter label base aps_counter command)
    ≡ outside_step ds (forging h number (inner ∷ t ∷ []) (tools.wire t))
unfolding step step_by forged_both
both-forged tools w h ds number to from source sequence counter aps_counter label key base command inner t e f =
    ap (λ (i : Term). outside_step ds
    (forging h number (i ∷ nwk_term secured_frame to from source key sequence counter (tools.wire i) ∷ [])
    (tools.wire (nwk_term secured_frame to from source key sequence counter (tools.wire i))))) (sym e)
    ∙ ap (λ (z : Term). outside_step ds (forging h number (inner ∷ z ∷ []) (tools.wire z))) (sym f)

pub open-forged : (tools : Tools) (w : Schedule) (h : List Line) (ds : List Disk)
    (number to from source aps_counter : ℕ) (label : Label) (base command : Bytes) (inner : Term) → inner
    ≡ aps_term sealed_command label base source aps_counter command
    → step tools w h ds number (ForgeOpen to from source label base aps_counter command)
    ≡ outside_step ds (forging h number (inner ∷ []) (nwk_header plain_frame to from 0 ++ tools.wire inner))
unfolding step step_by forged_open
open-forged tools w h ds number to from source aps_counter label base command inner e =
    ap (λ (z : Term). outside_step ds (forging h number (z ∷ []) (nwk_header plain_frame to from 0 ++ tools.wire z)))
    (sym e)
