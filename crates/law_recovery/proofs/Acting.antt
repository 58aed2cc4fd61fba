-- One event of a run and the state of a node, whatever power it has and whatever is armed on its disk: its answer is
-- stored, whole or cut, or the node is as it was.
use Rattle.std.proofs.Common.{◌≡◌, ℕ, ◌+◌, ◌++◌, ◌≤◌, Bool, true, false, Option, Some, None, nat_eq, refl, sym, ap, ◌∙◌, subst, eqb-true}
use Rattle.std.proofs.lemmas.Bool.{false≢true}
use Rattle.zb_model.specs.Answer.{Answer, answer, answered}
use Rattle.zb_model.specs.Data.{Bytes, Down, NoFrame, WrongState, Reason, Task, Received, DoRoll}
use Rattle.zb_model.specs.Play.{Schedule, Event, Own, RollOver, Deliver, Reset, PowerOn, ShowRecord, ArmStop, ArmFail, Step, answer_step, refused_step, frame_at, leaves_both, setting_of, stands, step, supply}
use Rattle.zb_model.specs.Readings.{is_up, state_of}
use Rattle.zb_model.specs.Rules.{Setting}
use Rattle.zb_model.specs.State.{NodeState, after_boot, applied_all}
use Rattle.zb_model.specs.Tools.{Tools}
use Rattle.law_answer_storable.specs.Storing.{OpensAsJudged}
use Rattle.law_answer_storable.proofs.Answers.{kept_stored}
use Rattle.law_recovery.specs.Meeting.{IsSteady}
use Rattle.law_recovery.proofs.Baring.{bare}
use Rattle.law_recovery.proofs.Steady.{steady_after}
use Rattle.law_recovery.specs.Answering.{after_task}
use Rattle.law_recovery.specs.Fronts.{Front, after_event}
use Rattle.law_recovery.proofs.Exchanged.{left-by}
use Rattle.law_run.proofs.StoredFits.{rules_same}
use Rattle.law_run_steps.specs.Conditions.{Condition, condition_of, calls_by, after_fall, after_storing}
use Rattle.law_run_steps.specs.Steps.{falls_at_boot, falls_on, is_of}
use Rattle.law_run_steps.proofs.Answered.{at-false, at-true, is-answered}
use Rattle.law_run_steps.proofs.Others.{boot-down, boot-up, booted, dumped, failure-armed, frame-down, frame-none, frame-up, own-down, own-up, refused, reset-down, reset-up, roll-down, roll-up, stop-armed}
use Rattle.law_recovery.specs.Stops.{IsUnanswered, is_stored, stored_by}
use Rattle.law_recovery.proofs.Stopping.{booted_bare, stored_bare}

-- ---- a state keeps the rules and its role

same_role : (s u : NodeState) → bare s ≡ bare u → s.role ≡ u.role
unfolding bare
same_role s u e = ap (λ (x : NodeState). x.role) e

steady_stored : (tools : Tools) → OpensAsJudged tools → (c : Setting) (s : NodeState) (task : Task) → 1 ≤ c.me.in_block
    → IsSteady c s → IsSteady c (applied_all (answer tools c s task).edits s)
unfolding after_task
steady_stored tools opens c s task block i =
    let a = answer tools c s task in
    record {
      rules = kept_stored tools opens c s task i.rules i.role block;
      role = same_role (applied_all a.edits s) (answered a s) (stored_bare a s)
          ∙ (steady_after tools opens c s task block i).role;
    }

steady_booted : (c : Setting) (s : NodeState) → IsSteady c s → IsSteady c (after_boot s)
steady_booted c s i =
    record { rules = rules_same s ∙ i.rules; role = same_role (after_boot s) s (booted_bare s) ∙ i.role }

-- ---- an event that a node answers, if it has power

pub record Acted (tools : Tools) (w : Schedule) (x y : Front) (n : ℕ) (task : Task) : Type 0 where
  pub stored : is_stored w x n (answer tools (setting_of w n) (state_of x.lines n) task) ≡ true
      → bare (state_of y.lines n) ≡ bare (after_task tools (setting_of w n) (state_of x.lines n) task)
  pub lost : is_stored w x n (answer tools (setting_of w n) (state_of x.lines n) task) ≡ false
      → bare (state_of y.lines n) ≡ bare (state_of x.lines n)
  pub steady : OpensAsJudged tools → 1 ≤ (setting_of w n).me.in_block
      → IsSteady (setting_of w n) (state_of x.lines n) → IsSteady (setting_of w n) (state_of y.lines n)

pub acted_on : (tools : Tools) (w : Schedule) (x : Front) (n : ℕ) (task : Task) (event : Event)
    → (is_up x.lines n ≡ true
    → step tools w x.lines x.disks x.number event
    ≡ answer_step x.lines x.disks x.number n (answer tools (setting_of w n) (state_of x.lines n) task))
    → (is_up x.lines n ≡ false → step tools w x.lines x.disks x.number event ≡ refused_step x.disks x.number n Down)
    → Acted tools w x (after_event tools w x event) n task
unfolding after_event after_task
acted_on tools w x n task event up down = by_power (is_up x.lines n) refl
  where
    a : Answer
    a = answer tools (setting_of w n) (state_of x.lines n) task

    k : Condition
    k = condition_of w x.lines x.disks n

    g : Step
    g = step tools w x.lines x.disks x.number event

    y : Front
    y = record { lines = x.lines ++ g.lines; disks = g.disks; number = x.number + 1 }

    stand : Bool
    stand = stands k.disk.armed (calls_by k.commits a.edits)

    both : Bool
    both = leaves_both k.disk.armed (calls_by k.commits a.edits)

    as_it_was : state_of y.lines n ≡ state_of x.lines n → is_stored w x n a ≡ false → Acted tools w x y n task
    as_it_was e lost = record {
      stored = λ is. absurd (false≢true (sym lost ∙ is));
      lost = λ is. ap bare e;
      steady = λ opens block i. subst (IsSteady (setting_of w n)) (sym e) i;
    }

    as_whole : state_of y.lines n ≡ answered a (state_of x.lines n) → is_stored w x n a ≡ true
        → Acted tools w x y n task
    as_whole e so = record {
      stored = λ is. ap bare e;
      lost = λ is. absurd (false≢true (sym is ∙ so));
      steady = λ opens block i. subst (IsSteady (setting_of w n)) (sym e)
          (steady_after tools opens (setting_of w n) (state_of x.lines n) task block i);
    }

    as_stored : state_of y.lines n ≡ applied_all a.edits (state_of x.lines n) → is_stored w x n a ≡ true
        → Acted tools w x y n task
    as_stored e so = record {
      stored = λ is. ap bare e ∙ stored_bare a (state_of x.lines n);
      lost = λ is. absurd (false≢true (sym is ∙ so));
      steady = λ opens block i. subst (IsSteady (setting_of w n)) (sym e)
          (steady_stored tools opens (setting_of w n) (state_of x.lines n) task block i);
    }

    by_stand : (b : Bool) → stand ≡ b → is_up x.lines n ≡ true → falls_on a k ≡ true → Acted tools w x y n task
    by_stand true s p f =
        let to = (is-answered w x.lines x.disks x.number n a g (up p)).cut f in
        as_stored
        (ap (λ (z : Condition). z.state) to.condition
        ∙ ap (λ (z : Condition). z.state)
        (at-true stand (after_fall both (after_storing a.edits k)) (after_fall both k) s))
        (ap (λ b. stored_by b (falls_on a k) stand) p ∙ ap (λ b. stored_by true b stand) f ∙ s)
    by_stand false s p f =
        let to = (is-answered w x.lines x.disks x.number n a g (up p)).cut f in
        as_it_was
        (ap (λ (z : Condition). z.state) to.condition
        ∙ ap (λ (z : Condition). z.state)
        (at-false stand (after_fall both (after_storing a.edits k)) (after_fall both k) s))
        (ap (λ b. stored_by b (falls_on a k) stand) p ∙ ap (λ b. stored_by true b stand) f ∙ s)

    by_fall : (b : Bool) → falls_on a k ≡ b → is_up x.lines n ≡ true → Acted tools w x y n task
    by_fall true f p = by_stand stand refl p f
    by_fall false f p =
        let to = (is-answered w x.lines x.disks x.number n a g (up p)).whole f in
        as_whole (ap (λ (z : Condition). z.state) to.condition)
        (ap (λ b. stored_by b (falls_on a k) stand) p ∙ ap (λ b. stored_by true b stand) f)

    by_power : (b : Bool) → is_up x.lines n ≡ b → Acted tools w x y n task
    by_power true p = by_fall (falls_on a k) refl p
    by_power false p =
        let to = refused w x.lines x.disks x.number n Down g (down p) in
        as_it_was (ap (λ (z : Condition). z.state) to.condition) (ap (λ b. stored_by b (falls_on a k) stand) p)

-- ---- an event that leaves a node at its stage

pub record Kept (w : Schedule) (x y : Front) (n : ℕ) : Type 0 where
  pub same : bare (state_of y.lines n) ≡ bare (state_of x.lines n)
  pub steady : IsSteady (setting_of w n) (state_of x.lines n) → IsSteady (setting_of w n) (state_of y.lines n)

kept_same : (w : Schedule) (x y : Front) (n : ℕ) → state_of y.lines n ≡ state_of x.lines n → Kept w x y n
kept_same w x y n e = record { same = ap bare e; steady = λ i. subst (IsSteady (setting_of w n)) (sym e) i }

kept_booted : (w : Schedule) (x y : Front) (n : ℕ) → state_of y.lines n ≡ after_boot (state_of x.lines n)
    → Kept w x y n
kept_booted w x y n e = record {
  same = ap bare e ∙ booted_bare (state_of x.lines n);
  steady = λ i. subst (IsSteady (setting_of w n)) (sym e) (steady_booted (setting_of w n) (state_of x.lines n) i);
}

pub other_kept : (tools : Tools) (w : Schedule) (x : Front) (n : ℕ) (event : Event) → is_of n event ≡ false
    → Kept w x (after_event tools w x event) n
other_kept tools w x n event other =
    kept_same w x (after_event tools w x event) n (left-by tools w x n event other).state

-- of the node of an event, or of another one
of_node : (P : ℕ → Type 0) (n m : ℕ) → (nat_eq n m ≡ false → P m) → P n → P m
of_node P n m other own = by_test (nat_eq n m) refl
  where
    by_test : (b : Bool) → nat_eq n m ≡ b → P m
    by_test true e = subst P (eqb-true n m e) own
    by_test false e = other e

refused_kept : (tools : Tools) (w : Schedule) (x : Front) (n : ℕ) (event : Event) (reason : Reason)
    → step tools w x.lines x.disks x.number event ≡ refused_step x.disks x.number n reason
    → Kept w x (after_event tools w x event) n
unfolding after_event
refused_kept tools w x n event reason is =
    let g : Step = step tools w x.lines x.disks x.number event in
    kept_same w x (record { lines = x.lines ++ g.lines; disks = g.disks; number = x.number + 1 }) n
    (ap (λ (z : Condition). z.state) (refused w x.lines x.disks x.number n reason g is).condition)

reset_kept : (tools : Tools) (w : Schedule) (x : Front) (n : ℕ) → Kept w x (after_event tools w x (Reset n)) n
unfolding after_event
reset_kept tools w x n = by_power (is_up x.lines n) refl
  where
    by_power : (b : Bool) → is_up x.lines n ≡ b → Kept w x (after_event tools w x (Reset n)) n
    by_power true p =
        let g : Step = step tools w x.lines x.disks x.number (Reset n) in
        kept_same w x (record { lines = x.lines ++ g.lines; disks = g.disks; number = x.number + 1 }) n
        (ap (λ (z : Condition). z.state) (reset-up tools w x.lines x.disks x.number n p).condition)
    by_power false p =
        refused_kept tools w x n (Reset n) Down (reset-down tools w x.lines x.disks x.number n p)

boot_kept : (tools : Tools) (w : Schedule) (x : Front) (n : ℕ) → Kept w x (after_event tools w x (PowerOn n)) n
unfolding after_event
boot_kept tools w x n = by_power (is_up x.lines n) refl
  where
    k : Condition
    k = condition_of w x.lines x.disks n

    by_fall : (b : Bool) → falls_at_boot k ≡ b → is_up x.lines n ≡ false
        → Kept w x (after_event tools w x (PowerOn n)) n
    by_fall true f p =
        let g : Step = step tools w x.lines x.disks x.number (PowerOn n) in
        let is = booted w x.lines x.disks x.number n g (boot-down tools w x.lines x.disks x.number n p) p in
        kept_same w x (record { lines = x.lines ++ g.lines; disks = g.disks; number = x.number + 1 }) n
        (ap (λ (z : Condition). z.state) (is.cut f).condition)
    by_fall false f p =
        let g : Step = step tools w x.lines x.disks x.number (PowerOn n) in
        let is = booted w x.lines x.disks x.number n g (boot-down tools w x.lines x.disks x.number n p) p in
        kept_booted w x (record { lines = x.lines ++ g.lines; disks = g.disks; number = x.number + 1 }) n
        (ap (λ (z : Condition). z.state) (is.whole f).condition)

    by_power : (b : Bool) → is_up x.lines n ≡ b → Kept w x (after_event tools w x (PowerOn n)) n
    by_power true p =
        refused_kept tools w x n (PowerOn n) WrongState (boot-up tools w x.lines x.disks x.number n p)
    by_power false p = by_fall (falls_at_boot k) refl p

-- a dump, and the arming of a disk
quiet_kept : (tools : Tools) (w : Schedule) (x : Front) (n : ℕ) (event : Event)
    → state_of (x.lines ++ (step tools w x.lines x.disks x.number event).lines) n ≡ state_of x.lines n
    → Kept w x (after_event tools w x event) n
unfolding after_event
quiet_kept tools w x n event e =
    let g : Step = step tools w x.lines x.disks x.number event in
    kept_same w x (record { lines = x.lines ++ g.lines; disks = g.disks; number = x.number + 1 }) n e

dump_kept : (tools : Tools) (w : Schedule) (x : Front) (n : ℕ) → Kept w x (after_event tools w x (ShowRecord n)) n
dump_kept tools w x n = quiet_kept tools w x n (ShowRecord n)
    (ap (λ (z : Condition). z.state) (dumped tools w x.lines x.disks x.number n).condition)

stop_kept : (tools : Tools) (w : Schedule) (x : Front) (n calls : ℕ) (torn : Bytes)
    → Kept w x (after_event tools w x (ArmStop n calls torn)) n
stop_kept tools w x n calls torn = quiet_kept tools w x n (ArmStop n calls torn)
    (ap (λ (z : Condition). z.state) (stop-armed tools w x.lines x.disks x.number n calls torn).condition)

failure_kept : (tools : Tools) (w : Schedule) (x : Front) (n call : ℕ)
    → Kept w x (after_event tools w x (ArmFail n call)) n
failure_kept tools w x n call = quiet_kept tools w x n (ArmFail n call)
    (ap (λ (z : Condition). z.state) (failure-armed tools w x.lines x.disks x.number n call).condition)

pub unanswered_kept : (tools : Tools) (w : Schedule) (x : Front) (event : Event) (m : ℕ) → IsUnanswered x event
    → Kept w x (after_event tools w x event) m
unanswered_kept tools w x (Own n task) m down =
    of_node (Kept w x (after_event tools w x (Own n task))) n m (other_kept tools w x m (Own n task))
    (refused_kept tools w x n (Own n task) Down (own-down tools w x.lines x.disks x.number n task down))
unanswered_kept tools w x (RollOver n) m down =
    of_node (Kept w x (after_event tools w x (RollOver n))) n m (other_kept tools w x m (RollOver n))
    (refused_kept tools w x n (RollOver n) Down (roll-down tools w x.lines x.disks x.number n down))
unanswered_kept tools w x (Deliver frame n) m down =
    of_node (Kept w x (after_event tools w x (Deliver frame n))) n m (other_kept tools w x m (Deliver frame n))
    (refused_kept tools w x n (Deliver frame n) Down (frame-down tools w x.lines x.disks x.number frame n down))
unanswered_kept tools w x (Reset n) m any =
    of_node (Kept w x (after_event tools w x (Reset n))) n m (other_kept tools w x m (Reset n))
    (reset_kept tools w x n)
unanswered_kept tools w x (PowerOn n) m any =
    of_node (Kept w x (after_event tools w x (PowerOn n))) n m (other_kept tools w x m (PowerOn n))
    (boot_kept tools w x n)
unanswered_kept tools w x (ShowRecord n) m any =
    of_node (Kept w x (after_event tools w x (ShowRecord n))) n m (other_kept tools w x m (ShowRecord n))
    (dump_kept tools w x n)
unanswered_kept tools w x (ArmStop n calls torn) m any =
    of_node (Kept w x (after_event tools w x (ArmStop n calls torn))) n m
    (other_kept tools w x m (ArmStop n calls torn)) (stop_kept tools w x n calls torn)
unanswered_kept tools w x (ArmFail n call) m any =
    of_node (Kept w x (after_event tools w x (ArmFail n call))) n m (other_kept tools w x m (ArmFail n call))
    (failure_kept tools w x n call)
unanswered_kept tools w x event m any = other_kept tools w x m event refl

-- ---- every event leaves every node steady

abbrev Steadies : Schedule → Front → Front → ℕ → Type 0
Steadies w x y m = 1 ≤ (setting_of w m).me.in_block → IsSteady (setting_of w m) (state_of x.lines m)
    → IsSteady (setting_of w m) (state_of y.lines m)

other_steady : (tools : Tools) (w : Schedule) (x : Front) (m : ℕ) (event : Event) → is_of m event ≡ false
    → Steadies w x (after_event tools w x event) m
other_steady tools w x m event other block i = (other_kept tools w x m event other).steady i

frame_steady : (tools : Tools) → OpensAsJudged tools → (w : Schedule) (x : Front) (frame n : ℕ)
    → Steadies w x (after_event tools w x (Deliver frame n)) n
frame_steady tools opens w x frame n = by_frame (frame_at x.lines frame) refl
  where
    by_power : (b : Bool) → is_up x.lines n ≡ b → frame_at x.lines frame ≡ None
        → Steadies w x (after_event tools w x (Deliver frame n)) n
    by_power true p e = λ block i.
        (refused_kept tools w x n (Deliver frame n) NoFrame
        (frame-none tools w x.lines x.disks x.number frame n p e)).steady i
    by_power false p e = λ block i.
        (refused_kept tools w x n (Deliver frame n) Down
        (frame-down tools w x.lines x.disks x.number frame n p)).steady i

    by_frame : (o : Option Bytes) → frame_at x.lines frame ≡ o
        → Steadies w x (after_event tools w x (Deliver frame n)) n
    by_frame None e = by_power (is_up x.lines n) refl e
    by_frame (Some bytes) e = λ block i.
        (acted_on tools w x n (Received bytes (supply w x.lines)) (Deliver frame n)
        (λ up. frame-up tools w x.lines x.disks x.number frame n bytes up e)
        (frame-down tools w x.lines x.disks x.number frame n)).steady opens block i

pub steady_event : (tools : Tools) → OpensAsJudged tools → (w : Schedule) (x : Front) (event : Event) (m : ℕ)
    → Steadies w x (after_event tools w x event) m
steady_event tools opens w x (Own n task) m =
    of_node (Steadies w x (after_event tools w x (Own n task))) n m (other_steady tools w x m (Own n task))
    (λ block i.
    (acted_on tools w x n task (Own n task) (own-up tools w x.lines x.disks x.number n task)
    (own-down tools w x.lines x.disks x.number n task)).steady opens block i)
steady_event tools opens w x (RollOver n) m =
    of_node (Steadies w x (after_event tools w x (RollOver n))) n m (other_steady tools w x m (RollOver n))
    (λ block i.
    (acted_on tools w x n (DoRoll (supply w x.lines)) (RollOver n) (roll-up tools w x.lines x.disks x.number n)
    (roll-down tools w x.lines x.disks x.number n)).steady opens block i)
steady_event tools opens w x (Deliver frame n) m =
    of_node (Steadies w x (after_event tools w x (Deliver frame n))) n m (other_steady tools w x m (Deliver frame n))
    (frame_steady tools opens w x frame n)
steady_event tools opens w x (Reset n) m = λ block i.
    (unanswered_kept tools w x (Reset n) m tt).steady i
steady_event tools opens w x (PowerOn n) m = λ block i.
    (unanswered_kept tools w x (PowerOn n) m tt).steady i
steady_event tools opens w x (ShowRecord n) m = λ block i.
    (unanswered_kept tools w x (ShowRecord n) m tt).steady i
steady_event tools opens w x (ArmStop n calls torn) m = λ block i.
    (unanswered_kept tools w x (ArmStop n calls torn) m tt).steady i
steady_event tools opens w x (ArmFail n call) m = λ block i.
    (unanswered_kept tools w x (ArmFail n call) m tt).steady i
steady_event tools opens w x event m = λ block i.
    other_steady tools w x m event refl block i
