-- The lines of each event say of each node what its state says.
use Rattle.std.proofs.Common.{◌≡◌, ℕ, ◌+◌, Bool, true, false, cond, List, [], ◌∷◌, ◌++◌, map, length, Option, Some, None, nat_eq, refl, sym, ap, ◌∙◌, subst, eqb-true}
use Rattle.std.specs.List.{AllByRecursion}
use Rattle.zb_model.specs.Data.{Bytes, Term, Edit, Place, Reason, Down, WrongState, Task, Received, DoRoll}
use Rattle.zb_model.specs.Lines.{Line, Changed, Accept, Seal, DownReset, Boot}
use Rattle.zb_model.specs.State.{is_active_key}
use Rattle.zb_model.specs.Tools.{Tools}
use Rattle.zb_model.specs.Answer.{Answer, answer, answer_by, counting_of, plan_of}
use Rattle.zb_model.specs.Fits.{keeps_rules}
use Rattle.zb_model.specs.Readings.{state_of, is_up, air}
use Rattle.zb_model.specs.Claims.{Each}
use Rattle.zb_model.specs.Schedules.{IsSchedule, NamesNode}
use Rattle.zb_model.specs.Play.{Schedule, Event, Own, RollOver, Deliver, Reset, PowerOn, ShowRecord, ArmStop, ArmFail, InjectBytes, ForgeNet, ForgeNetAps, ForgeOpen, Step, Disk, Armed, NotArmed, StopAfter, FailAt, Calls, BootCalls, setting_of, disk_of, with_disk, falls, stands, calls_for, leaves_both, commit_lines, refuse_lines, send_lines, stored_lines, told_lines, group_of, cut_of, fallen_line, answer_step, boot_step, refused_step, task_step, deliver_step, frame_at, supply, forged_net, forged_both, forged_open, step_by, step}
use Rattle.law_run.proofs.Basics.{append-nil'}
use Rattle.law_run.proofs.Counters.{LineFits}
use Rattle.law_run.proofs.EventStates.{answer_to}
use Rattle.law_run.proofs.FreshLines.{all-append, Inv}
use Rattle.law_run.proofs.Judged.{plan-accepts}
use Rattle.law_run.proofs.OnceGroups.{group-accepts}
use Rattle.law_run.proofs.OnceLines.{AcceptFits}
use Rattle.law_run.specs.Opening.{Opens}
use Rattle.law_run.proofs.Runs.{step-fits}
use Rattle.law_run.proofs.Sound.{sound}
use Rattle.law_run_counters.specs.Floors.{FloorOf}
use Rattle.law_run_counters.proofs.Floors.{answer-floors}
use Rattle.law_run_counters.proofs.Shown.{plan-fits}
use Rattle.law_run_counters.proofs.ActiveRows.{moves-fit}
use Rattle.law_run_counters.proofs.Started.{ActiveStarted}
use Rattle.law_tables_suffice.specs.Along.{OfNode, IsAsDeclared}
use Rattle.law_answer_storable.specs.Storing.{OpensAsJudged}
use Rattle.law_answer_storable.proofs.Answers.{all_stored}
use Rattle.law_run_readings.specs.LastLines.{active, flat}
use Rattle.law_run_readings.proofs.Edits.{FitEdits, answer_fits}
use Rattle.law_run_readings.proofs.ToldEdits.{TellAll, answer_tells}
use Rattle.law_run_readings.proofs.Lines.{RecallsAt, was_active, FitsChanges, NoChange, unchanged, changes_append, own_changes, others_changes, lines_more, group_more}

-- ---- lines without a change

pub commit_plain : (number n : ℕ) (es : List Edit) → AllByRecursion NoChange (commit_lines number n es)
unfolding NoChange
commit_plain number n [] = tt
commit_plain number n (e ∷ es) = (tt, tt)

accepts_plain : (number n : ℕ) (ts : List Term) → AllByRecursion NoChange (map (Accept number n) ts)
unfolding NoChange
accepts_plain number n [] = tt
accepts_plain number n (t ∷ ts) = (tt, accepts_plain number n ts)

seals_plain : (number n : ℕ) (ts : List Term) → AllByRecursion NoChange (map (Seal number n) ts)
unfolding NoChange
seals_plain number n [] = tt
seals_plain number n (t ∷ ts) = (tt, seals_plain number n ts)

refuse_plain : (number n : ℕ) (place : Place) (o : Option Reason)
    → AllByRecursion NoChange (refuse_lines number n place o)
unfolding NoChange
refuse_plain number n place None = tt
refuse_plain number n place (Some r) = (tt, tt)

send_plain : (number : ℕ) (n : Option ℕ) (frame : ℕ) (o : Option Bytes)
    → AllByRecursion NoChange (send_lines number n frame o)
unfolding NoChange
send_plain number n frame None = tt
send_plain number n frame (Some b) = (tt, tt)

pub told_plain : (number n frame : ℕ) (a : Answer) → AllByRecursion NoChange (told_lines number n frame a)
unfolding told_lines
told_plain number n frame a =
    all-append NoChange (map (Accept number n) a.accepts) _ (accepts_plain number n a.accepts)
    (all-append NoChange (refuse_lines number n a.place a.refusal) _ (refuse_plain number n a.place a.refusal)
    (all-append NoChange (map (Seal number n) a.seals) _ (seals_plain number n a.seals)
    (send_plain number (Some n) frame a.frame)))

fallen_plain : (armed : Armed) (number n : ℕ) → AllByRecursion NoChange (fallen_line armed number n)
unfolding NoChange
fallen_plain NotArmed number n = tt
fallen_plain (StopAfter calls torn) number n = (tt, tt)
fallen_plain (FailAt call) number n = (tt, tt)

-- ---- the lines of an answer

changed : (before : List (List Line)) (number n m : ℕ) (es : List Edit)
    → FitEdits (was_active before n) es (state_of (flat before ++ []) n)
    → TellAll number n es (state_of (flat before ++ []) n) → FitsChanges before m [] (map (Changed number n) es)
changed before number n m es fits tell = by_node (nat_eq n m) refl
  where
    by_node : (b : Bool) → nat_eq n m ≡ b → FitsChanges before m [] (map (Changed number n) es)
    by_node true e = subst (λ k. FitsChanges before k [] (map (Changed number n) es)) (eqb-true n m e)
        (own_changes before number n [] es fits tell)
    by_node false e = others_changes before number n m [] es e

stored_changes : (before : List (List Line)) (number n m : ℕ) (a : Answer)
    → FitEdits (was_active before n) a.edits (state_of (flat before ++ []) n)
    → TellAll number n a.edits (state_of (flat before ++ []) n) → FitsChanges before m [] (stored_lines number n a)
unfolding stored_lines
stored_changes before number n m a fits tell =
    changes_append before m [] (map (Changed number n) a.edits) (commit_lines number n a.edits)
    (changed before number n m a.edits fits tell)
    (unchanged before m (map (Changed number n) a.edits) (commit_lines number n a.edits)
    (commit_plain number n a.edits))

pub group_changes : (before : List (List Line)) (h0 : List Line) (number n m : ℕ) (a : Answer)
    → FitEdits (was_active before n) a.edits (state_of (flat before ++ []) n)
    → TellAll number n a.edits (state_of (flat before ++ []) n) → FitsChanges before m [] (group_of h0 number n a)
unfolding group_of
group_changes before h0 number n m a fits tell =
    changes_append before m [] (stored_lines number n a) (told_lines number n (length (air h0) + 1) a)
    (stored_changes before number n m a fits tell)
    (unchanged before m (stored_lines number n a) (told_lines number n (length (air h0) + 1) a)
    (told_plain number n (length (air h0) + 1) a))

cut_changes : (before : List (List Line)) (armed : Armed) (calls : Calls) (number n m : ℕ) (a : Answer)
    → FitEdits (was_active before n) a.edits (state_of (flat before ++ []) n)
    → TellAll number n a.edits (state_of (flat before ++ []) n)
    → FitsChanges before m [] (cut_of armed calls number n a)
unfolding cut_of
cut_changes before armed calls number n m a fits tell =
    changes_append before m [] some (fallen_line armed number n) (by_test (stands armed calls))
    (unchanged before m some (fallen_line armed number n) (fallen_plain armed number n))
  where
    some : List Line
    some = cond (stands armed calls) (stored_lines number n a) []

    by_test : (b : Bool) → FitsChanges before m [] (cond b (stored_lines number n a) [])
    by_test true = stored_changes before number n m a fits tell
    by_test false = tt

-- ---- events

either : (before : List (List Line)) (m : ℕ) (b : Bool) (x y : Step) → FitsChanges before m [] x.lines
    → FitsChanges before m [] y.lines → FitsChanges before m [] (cond b x y).lines
either before m true x y p q = p
either before m false x y p q = q

refused_changes : (before : List (List Line)) (m : ℕ) (disks : List Disk) (number n : ℕ) (reason : Reason)
    → FitsChanges before m [] (refused_step disks number n reason).lines
unfolding NoChange
refused_changes before m disks number n reason = unchanged before m [] (refused_step disks number n reason).lines
    (tt, tt)

-- The changes of an answer fit the state and tell of devices as they must. Its group accepts what isn't below the
-- floors, and stores each floor for an accepted counter.
pub record AnswerFits (tools : Tools) (w : Schedule) (before : List (List Line)) (n : ℕ) (task : Task) : Type 0 where
  pub edits : FitEdits (was_active before n) (answer_to tools w (flat before) n task).edits
      (state_of (flat before ++ []) n)
  pub tells : (number : ℕ) → TellAll number n (answer_to tools w (flat before) n task).edits
      (state_of (flat before ++ []) n)
  pub takes : (number : ℕ)
      → Each AcceptFits (flat before) (group_of (flat before) number n (answer_to tools w (flat before) n task))
  pub floors : AllByRecursion
      (FloorOf (setting_of w n).me.in_block (answer_to tools w (flat before) n task).accepts)
      (answer_to tools w (flat before) n task).edits

abbrev pub AnswersFit : Tools → Schedule → List (List Line) → ℕ → Type 0
AnswersFit tools w before n = (task : Task) → AnswerFits tools w before n task

answer_changes : (tools : Tools) (w : Schedule) (before : List (List Line)) (m : ℕ) (disks : List Disk) (number n : ℕ)
    (task : Task) → AnswersFit tools w before n
    → FitsChanges before m [] (answer_step (flat before) disks number n (answer_to tools w (flat before) n task)).lines
answer_changes tools w before m disks number n task fits =
    either before m (falls (disk_of disks n).armed calls)
    (record {
      lines = cut_of (disk_of disks n).armed calls number n a;
      disks = with_disk disks n (record { armed = NotArmed; both_open = leaves_both (disk_of disks n).armed calls });
    })
    (record { lines = group_of (flat before) number n a; disks = disks })
    (cut_changes before (disk_of disks n).armed calls number n m a (fits task).edits
    ((fits task).tells number))
    (group_changes before (flat before) number n m a (fits task).edits ((fits task).tells number))
  where
    a : Answer
    a = answer_to tools w (flat before) n task

    calls : Calls
    calls = calls_for (flat before) n a.edits

task_changes : (tools : Tools) (w : Schedule) (before : List (List Line)) (m : ℕ) (disks : List Disk) (number n : ℕ)
    (task : Task) → AnswersFit tools w before n
    → FitsChanges before m [] (task_step tools counting_of w (flat before) disks number n task).lines
unfolding task_step
task_changes tools w before m disks number n task fits =
    either before m (is_up (flat before) n)
    (answer_step (flat before) disks number n (answer_to tools w (flat before) n task))
    (refused_step disks number n Down)
    (answer_changes tools w before m disks number n task fits) (refused_changes before m disks number n Down)

deliver_changes : (tools : Tools) (w : Schedule) (before : List (List Line)) (m : ℕ) (disks : List Disk)
    (number n : ℕ) (o : Option Bytes) → AnswersFit tools w before n
    → FitsChanges before m [] (deliver_step tools counting_of w (flat before) disks number n o).lines
unfolding NoChange
deliver_changes tools w before m disks number n None fits =
    unchanged before m [] (deliver_step tools counting_of w (flat before) disks number n None).lines (tt, tt)
deliver_changes tools w before m disks number n (Some bytes) fits = task_changes tools w before m disks number n
    (Received bytes (supply w (flat before))) fits

boot_changes : (before : List (List Line)) (m : ℕ) (disks : List Disk) (number n : ℕ)
    → FitsChanges before m [] (boot_step disks number n).lines
unfolding NoChange
boot_changes before m disks number n =
    either before m (falls (disk_of disks n).armed (BootCalls (disk_of disks n).both_open))
    (record {
      lines = fallen_line (disk_of disks n).armed number n;
      disks =
          with_disk disks n
          (record {
            armed = NotArmed;
            both_open = leaves_both (disk_of disks n).armed (BootCalls (disk_of disks n).both_open);
          });
    })
    (record {
      lines = Boot number n
          ∷ [];
      disks = with_disk disks n (record { armed = (disk_of disks n).armed; both_open = false });
    })
    (unchanged before m [] (fallen_line (disk_of disks n).armed number n)
    (fallen_plain (disk_of disks n).armed number n)) (unchanged before m [] (Boot number n ∷ []) (tt, tt))

pub event_changes : (tools : Tools) (w : Schedule) (before : List (List Line)) (m : ℕ) (disks : List Disk)
    (number : ℕ) (event : Event) → OfNode (AnswersFit tools w before) event
    → FitsChanges before m [] (step tools w (flat before) disks number event).lines
unfolding step step_by forged_net forged_both forged_open NoChange
event_changes tools w before m disks number (Own n task) fits = task_changes tools w before m disks number n task fits
event_changes tools w before m disks number (RollOver n) fits = task_changes tools w before m disks number n
    (DoRoll (supply w (flat before))) fits
event_changes tools w before m disks number (Deliver frame n) fits = deliver_changes tools w before m disks number n
    (frame_at (flat before) frame) fits
event_changes tools w before m disks number (Reset n) fits =
    either before m (is_up (flat before) n) (record { lines = DownReset number n ∷ []; disks = disks })
    (refused_step disks number n Down)
    (unchanged before m [] (DownReset number n ∷ []) (tt, tt)) (refused_changes before m disks number n Down)
event_changes tools w before m disks number (PowerOn n) fits =
    either before m (is_up (flat before) n) (refused_step disks number n WrongState) (boot_step disks number n)
    (refused_changes before m disks number n WrongState) (boot_changes before m disks number n)
event_changes tools w before m disks number (ShowRecord n) fits = (λ e. (tt, tt), tt)
event_changes tools w before m disks number (ArmStop n calls torn) fits = tt
event_changes tools w before m disks number (ArmFail n call) fits = tt
event_changes tools w before m disks number (InjectBytes bytes) fits = (λ e. (tt, tt), tt)
event_changes tools w before m disks number (ForgeNet to from source key sequence counter content) fits =
    (λ e. (tt, tt), (λ e. (tt, tt), tt))
event_changes tools w before m disks number
    (ForgeNetAps to from source key sequence counter label base aps_counter command) fits =
    (λ e. (tt, tt), (λ e. (tt, tt), (λ e. (tt, tt), tt)))
event_changes tools w before m disks number (ForgeOpen to from source label base aps_counter command) fits =
    (λ e. (tt, tt), (λ e. (tt, tt), tt))

-- ---- the answers of an event's node fit

-- the node of an event, before it
pub record IsReady (w : Schedule) (h : List Line) (n : ℕ) : Type 0 where
  pub ruled : keeps_rules (state_of h n) ≡ true
  pub declared : IsAsDeclared (state_of h n) (setting_of w n) n

pub active_said : (before : List (List Line)) (n : ℕ) → RecallsAt before [] n → active (flat before) n
    ≡ (state_of (flat before) n).active
unfolding active
active_said before n is =
    ap (λ x. active x n) (sym (append-nil' (flat before))) ∙ sym is.active ∙ ap (λ x. (state_of x n).active)
    (append-nil' (flat before))

changes_fit : (tools : Tools) → OpensAsJudged tools → (w : Schedule) (before : List (List Line)) (n : ℕ)
    → IsReady w (flat before) n → ActiveStarted (state_of (flat before) n) → RecallsAt before [] n → (task : Task)
    → FitEdits (was_active before n) (answer_to tools w (flat before) n task).edits (state_of (flat before ++ []) n)
unfolding answer answer_by
changes_fit tools opens w before n ready started is task =
    let s = state_of (flat before) n in
    let p = plan_of tools (setting_of w n) s task in
    subst (λ x. FitEdits (was_active before n) (answer_to tools w (flat before) n task).edits x)
    (ap (λ x. state_of x n) (sym (append-nil' (flat before))))
    (answer_fits (was_active before n) (setting_of w n) s p
    (λ key. ap (λ o. is_active_key o key) (active_said before n is)) started (sound (flat before) n)
    (moves-fit s p.outcome (plan-fits tools (setting_of w n) s task))
    (all_stored tools opens (setting_of w n) s task ready.ruled ready.declared.role ready.declared.in_block))

floors_fit : (tools : Tools) → Opens tools → (w : Schedule) (h : List Line) (n : ℕ) (task : Task)
    → AllByRecursion (FloorOf (setting_of w n).me.in_block (answer_to tools w h n task).accepts)
    (answer_to tools w h n task).edits
unfolding answer
floors_fit tools opens w h n task = answer-floors tools opens (setting_of w n) h n task

tells_fit : (tools : Tools) → Opens tools → (w : Schedule) (h : List Line) (n : ℕ) (task : Task)
    → (state_of h n).role ≡ (setting_of w n).me.role → (number : ℕ)
    → TellAll number n (answer_to tools w h n task).edits (state_of h n)
unfolding answer
tells_fit tools opens w h n task role number =
    answer_tells tools opens (setting_of w n) (state_of h n) task (sound h n) role number n

pub answers_fit : (tools : Tools) → Opens tools → OpensAsJudged tools → (w : Schedule) (before : List (List Line))
    (n : ℕ) → IsReady w (flat before) n → ActiveStarted (state_of (flat before) n) → RecallsAt before [] n
    → AnswersFit tools w before n
answers_fit tools opens judged w before n ready started is task =
    let s = state_of (flat before) n in
    record {
      edits = changes_fit tools judged w before n ready started is task;
      tells = λ number.
          subst (λ x. TellAll number n (answer_to tools w (flat before) n task).edits x)
          (ap (λ x. state_of x n) (sym (append-nil' (flat before))))
          (tells_fit tools opens w (flat before) n task ready.declared.role number);
      takes = λ number. group-accepts tools (setting_of w n) (flat before) (flat before) number n
          (plan_of tools (setting_of w n) s task) ready.declared.in_block
          (plan-accepts tools opens (setting_of w n) s (sound (flat before) n) task);
      floors = floors_fit tools opens w (flat before) n task;
    }

-- ---- one more step

pub step_recalls : (tools : Tools) (w : Schedule) → IsSchedule w → (before : List (List Line)) (disks : List Disk)
    (number : ℕ) (event : Event) → NamesNode w event → Inv tools (flat before)
    → OfNode (AnswersFit tools w before) event
    → (m : ℕ) → RecallsAt before [] m
    → RecallsAt (before ++ (step tools w (flat before) disks number event).lines ∷ []) [] m
step_recalls tools w i before disks number event named inv fits m is =
    let ls = (step tools w (flat before) disks number event).lines in
    group_more before ls m
    (lines_more before [] ls m (event_changes tools w before m disks number event fits)
    (subst (λ x. Each LineFits x ls) (sym (append-nil' (flat before)))
    (step-fits tools w i (flat before) disks number event named inv.commanded)) is)
