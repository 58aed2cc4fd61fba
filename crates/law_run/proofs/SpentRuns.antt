-- The groups of events: a node that answers counter-spent has no counter left.
use Rattle.std.proofs.Common.{◌≡◌, ℕ, ◌≤◌, ◌+◌, ◌⊎◌, Bool, true, false, cond, List, [], ◌∷◌, ◌++◌, map, filter, length, Option, Some, None, option_map, option_to_list, find, flat_map, refl, sym, ap, ◌∙◌, subst, leb-true, inl, inr}
use Rattle.std.specs.List.{AllByRecursion}
use Rattle.zb_model.specs.Data.{Bytes, Layer, Nwk, Aps, Term, Edit, Reserve, Floor, Start, Moved, Place, Reason, CounterSpent, Down, WrongState, Task, Received, DoRoll}
use Rattle.zb_model.specs.Lines.{Line, Counter, Changed, Accept, Refuse, Seal, Boot, DownReset}
use Rattle.zb_model.specs.State.{greatest_counter, NetKey, NodeState, same_key, at_net, of_active, net_of_active, active_row, next_of, next_counter, reserved, net_floor, net_kept, applied, after_hearing, after_accepting}
use Rattle.zb_model.specs.Tools.{Tools}
use Rattle.zb_model.specs.Rules.{Setting, Plan, Outcome, Stop, Does, spent}
use Rattle.zb_model.specs.Answer.{Answer, Counting, answer_by, plan_of, counting_of, edits_of, reserve_edit, floor_edit, move_edits, changes, moves_of}
use Rattle.zb_model.specs.Readings.{state_of, after, is_up, air}
use Rattle.zb_model.specs.Play.{Schedule, Event, Own, RollOver, Deliver, Reset, PowerOn, ShowRecord, ArmStop, ArmFail, InjectBytes, ForgeNet, ForgeNetAps, ForgeOpen, Step, Disk, Armed, NotArmed, StopAfter, FailAt, Calls, BootCalls, setting_of, disk_of, with_disk, falls, stands, calls_for, leaves_both, commit_lines, refuse_lines, send_lines, stored_lines, told_lines, group_of, cut_of, fallen_line, answer_step, boot_step, refused_step, answer_counted, task_step, deliver_step, frame_at, supply, forged_net, forged_both, forged_open, step_by, step, groups}
use Rattle.zb_model.specs.Claims.{Each}
use Rattle.law_run.proofs.Basics.{each-append, find-map}
use Rattle.law_run.proofs.FreshLines.{all-append}
use Rattle.law_run.proofs.Groups.{lines-keep}
use Rattle.law_run.proofs.SpentRules.{IsSpent, Fits, plan-fits}

-- the next counter has reached the greatest, at one of the layers
abbrev pub ReachesEnd : NodeState → Type 0
ReachesEnd s = (greatest_counter ≤ next_counter Nwk s) ⊎ (greatest_counter ≤ next_counter Aps s)

-- A line of a group: no limit at the start, and no refusal for a spent counter that isn't at its end.
abbrev pub GroupLine : List Line → Line → Type 0
GroupLine h (Refuse e n place CounterSpent) = ReachesEnd (state_of h n)
GroupLine h (Counter n layer v) = ⊥
GroupLine h _ = Unit {0}

-- Counters that stay

next-map : (f : NetKey → NetKey) → ((r : NetKey) → (f r).next ≡ r.next) → (d : ℕ) (o : Option NetKey)
    → next_of d (option_map f o) ≡ next_of d o
next-map f n d None = refl
next-map f n d (Some r) = n r

find-at : (f : NetKey → NetKey) → ((r : NetKey) → (f r).key ≡ r.key) → ((r : NetKey) → (f r).next ≡ r.next)
    → (key : Bytes) (d : ℕ) (k : Bytes) (nets : List NetKey)
    → next_of d (find (λ (r : NetKey). same_key r.key k) (at_net key f nets))
    ≡ next_of d (find (λ (r : NetKey). same_key r.key k) nets)
find-at f same n key d k nets =
    ap (λ o. next_of d o)
    (find-map (λ (r : NetKey). same_key r.key k) (λ r. cond (same_key r.key key) (f r) r)
    (λ r. by-key (same_key r.key key) r) nets)
    ∙ next-map (λ r. cond (same_key r.key key) (f r) r) (λ r. by-next (same_key r.key key) r) d
    (find (λ (r : NetKey). same_key r.key k) nets)
  where
    by-key : (b : Bool) (r : NetKey) → same_key (cond b (f r) r).key k ≡ same_key r.key k
    by-key true r = ap (λ x. same_key x k) (same r)
    by-key false r = refl

    by-next : (b : Bool) (r : NetKey) → (cond b (f r) r).next ≡ r.next
    by-next true r = n r
    by-next false r = refl

-- the counter of the active row
active-next : (f : NetKey → NetKey) → ((r : NetKey) → (f r).key ≡ r.key) → ((r : NetKey) → (f r).next ≡ r.next)
    → (key : Bytes) (o : Option Bytes) (s : NodeState)
    → next_of s.declared (net_of_active o (record s { nets = at_net key f s.nets }))
    ≡ next_of s.declared (net_of_active o s)
active-next f same n key None s = refl
active-next f same n key (Some k) s = find-at f same n key s.declared k s.nets

reserve-next : (v : ℕ) (a o : Option Bytes) (s : NodeState)
    → next_of s.declared (net_of_active o (record s { nets = of_active (reserved v) a s.nets }))
    ≡ next_of s.declared (net_of_active o s)
reserve-next v None None s = refl
reserve-next v None (Some k) s = refl
reserve-next v (Some key) o s = active-next (reserved v) (λ r. refl) (λ r. refl) key o s

same-active : (o : Option Bytes) (s t : NodeState) → t.nets ≡ s.nets → next_of s.declared (net_of_active o t)
    ≡ next_of s.declared (net_of_active o s)
same-active None s t e = refl
same-active (Some k) s t e = ap (λ ns. next_of s.declared (find (λ (r : NetKey). same_key r.key k) ns)) e

-- a reserve or a floor
abbrev Mild : Edit → Type 0
Mild (Start k v) = ⊥
Mild (Moved m) = ⊥
Mild _ = Unit {0}

mild-same : (e : Edit) → Mild e → (layer : Layer) (s : NodeState) → next_counter layer (applied e s)
    ≡ next_counter layer s
unfolding next_counter applied active_row
mild-same (Reserve Nwk v) m Nwk s = reserve-next v s.active s.active s
mild-same (Reserve Nwk v) m Aps s = refl
mild-same (Reserve Aps v) m Nwk s = same-active s.active s (applied (Reserve Aps v) s) refl
mild-same (Reserve Aps v) m Aps s = refl
mild-same (Floor Nwk k p v) m Nwk s = active-next (net_floor p v) (λ r. refl) (λ r. refl) k s.active s
mild-same (Floor Nwk k p v) m Aps s = refl
mild-same (Floor Aps k p v) m Nwk s = same-active s.active s (applied (Floor Aps k p v) s) refl
mild-same (Floor Aps k p v) m Aps s = refl
mild-same (Start k v) m layer s = absurd m
mild-same (Moved x) m layer s = absurd m

heard-same : (of : Layer) (k : Bytes) (sender counter : ℕ) (layer : Layer) (s : NodeState)
    → next_counter layer (after_hearing of k sender counter s) ≡ next_counter layer s
unfolding next_counter after_hearing active_row
heard-same Nwk k sender counter Nwk s = active-next (net_kept sender (counter + 1)) (λ r. refl) (λ r. refl) k s.active
    s
heard-same Nwk k sender counter Aps s = refl
heard-same Aps k sender counter Nwk s = same-active s.active s (after_hearing Aps k sender counter s) refl
heard-same Aps k sender counter Aps s = refl

ends : (s t : NodeState) → ((layer : Layer) → next_counter layer t ≡ next_counter layer s) → ReachesEnd s
    → ReachesEnd t
ends s t same (inl e) = inl (subst (λ n. greatest_counter ≤ n) (sym (same Nwk)) e)
ends s t same (inr e) = inr (subst (λ n. greatest_counter ≤ n) (sym (same Aps)) e)

abbrev KeepsEnd : Line → Type 0
KeepsEnd l = (s : NodeState) → ReachesEnd s → ReachesEnd (after l s)

changes-keep : (number n : ℕ) (es : List Edit) → AllByRecursion Mild es
    → AllByRecursion KeepsEnd (map (Changed number n) es)
unfolding after
changes-keep number n [] a = tt
changes-keep number n (e ∷ es) a =
    (λ s. ends s (applied e s) (λ layer. mild-same e a.0 layer s), changes-keep number n es a.1)

commit-keeps : (number n : ℕ) (es : List Edit) → AllByRecursion KeepsEnd (commit_lines number n es)
unfolding after
commit-keeps number n [] = tt
commit-keeps number n (e ∷ es) = (λ s k. k, tt)

accepts-keep : (number n : ℕ) (ts : List Term) → AllByRecursion KeepsEnd (map (Accept number n) ts)
unfolding after after_accepting
accepts-keep number n [] = tt
accepts-keep number n (t ∷ ts) = (
  λ s. ends s (after_hearing t.layer t.base t.source t.counter s)
      (λ layer. heard-same t.layer t.base t.source t.counter layer s),
  accepts-keep number n ts,
)

-- the changes of a refused answer

reserve-mild : (layer : Layer) (o : Option ℕ) → AllByRecursion Mild (option_to_list (option_map (Reserve layer) o))
reserve-mild layer None = tt
reserve-mild layer (Some v) = (tt, tt)

floor-mild : (t : Term) (o : Option ℕ)
    → AllByRecursion Mild (option_to_list (option_map (Floor t.layer t.base t.source) o))
floor-mild t None = tt
floor-mild t (Some v) = (tt, tt)

floors-mild : (k : Counting) (ts : List Term) → AllByRecursion Mild (flat_map (floor_edit k) ts)
floors-mild k [] = tt
floors-mild k (t ∷ ts) = all-append Mild (floor_edit k t) (flat_map (floor_edit k) ts)
    (floor-mild t (k.floor t.layer)) (floors-mild k ts)

refused-edits : (s : NodeState) (k : Counting) (p : Plan) → moves_of p.outcome ≡ []
    → AllByRecursion Mild (edits_of s k p)
unfolding edits_of
refused-edits s k p e =
    subst (λ ms. AllByRecursion Mild
    ((reserve_edit k Nwk ++ reserve_edit k Aps)
    ++ (flat_map (floor_edit k) p.accepts ++ flat_map (move_edits k) (filter (changes s) ms)))) (sym e)
    (all-append Mild (reserve_edit k Nwk ++ reserve_edit k Aps) (flat_map (floor_edit k) p.accepts ++ [])
    (all-append Mild (reserve_edit k Nwk) (reserve_edit k Aps) (reserve-mild Nwk (k.reserve Nwk))
    (reserve-mild Aps (k.reserve Aps)))
    (all-append Mild (flat_map (floor_edit k) p.accepts) [] (floors-mild k p.accepts) tt))

-- Lines without a refusal, and none of the start

unfoldable NoRefusal : Line → Type 0
NoRefusal (Refuse e n place reason) = ⊥
NoRefusal (Counter n layer v) = ⊥
NoRefusal _ = Unit {0}

plain-line : (h : List Line) (l : Line) → NoRefusal l → GroupLine h l
unfolding NoRefusal
plain-line h (Refuse e n place reason) k = absurd k
plain-line h (Counter n layer v) k = absurd k
plain-line h _ k = tt

plain : (h ls : List Line) → AllByRecursion NoRefusal ls → Each GroupLine h ls
plain h [] a = tt
plain h (l ∷ ls) a = (plain-line h l a.0, plain (h ++ l ∷ []) ls a.1)

changes-plain : (number n : ℕ) (es : List Edit) → AllByRecursion NoRefusal (map (Changed number n) es)
unfolding NoRefusal
changes-plain number n [] = tt
changes-plain number n (e ∷ es) = (tt, changes-plain number n es)

commit-plain : (number n : ℕ) (es : List Edit) → AllByRecursion NoRefusal (commit_lines number n es)
unfolding NoRefusal
commit-plain number n [] = tt
commit-plain number n (e ∷ es) = (tt, tt)

stored-plain : (number n : ℕ) (a : Answer) → AllByRecursion NoRefusal (stored_lines number n a)
unfolding stored_lines
stored-plain number n a = all-append NoRefusal (map (Changed number n) a.edits) (commit_lines number n a.edits)
    (changes-plain number n a.edits) (commit-plain number n a.edits)

accepts-plain : (number n : ℕ) (ts : List Term) → AllByRecursion NoRefusal (map (Accept number n) ts)
unfolding NoRefusal
accepts-plain number n [] = tt
accepts-plain number n (t ∷ ts) = (tt, accepts-plain number n ts)

seals-plain : (number n : ℕ) (ts : List Term) → AllByRecursion NoRefusal (map (Seal number n) ts)
unfolding NoRefusal
seals-plain number n [] = tt
seals-plain number n (t ∷ ts) = (tt, seals-plain number n ts)

send-plain : (number : ℕ) (n : Option ℕ) (frame : ℕ) (bytes : Option Bytes)
    → AllByRecursion NoRefusal (send_lines number n frame bytes)
unfolding NoRefusal
send-plain number n frame None = tt
send-plain number n frame (Some b) = (tt, tt)

fallen-plain : (armed : Armed) (number n : ℕ) → AllByRecursion NoRefusal (fallen_line armed number n)
unfolding NoRefusal
fallen-plain NotArmed number n = tt
fallen-plain (StopAfter calls torn) number n = (tt, tt)
fallen-plain (FailAt call) number n = (tt, tt)

cut-plain : (armed : Armed) (calls : Calls) (number n : ℕ) (a : Answer)
    → AllByRecursion NoRefusal (cut_of armed calls number n a)
unfolding cut_of
cut-plain armed calls number n a = all-append NoRefusal (cond (stands armed calls) (stored_lines number n a) [])
    (fallen_line armed number n) (by-test (stands armed calls)) (fallen-plain armed number n)
  where
    by-test : (b : Bool) → AllByRecursion NoRefusal (cond b (stored_lines number n a) [])
    by-test true = stored-plain number n a
    by-test false = tt

-- A group

reached : (s : NodeState) → IsSpent s → ReachesEnd s
unfolding spent
reached s (inl e) = inl (leb-true greatest_counter (next_counter Nwk s) e)
reached s (inr e) = inr (leb-true greatest_counter (next_counter Aps s) e)

stop-line : (number n : ℕ) (h0 h : List Line) (place : Place) (reason : Reason)
    → Rattle.law_run.proofs.SpentRules.ReasonFits (state_of h0 n) reason
    → (ReachesEnd (state_of h0 n) → ReachesEnd (state_of h n)) → GroupLine h (Refuse number n place reason)
stop-line number n h0 h place CounterSpent f k = k (reached (state_of h0 n) f)
stop-line number n h0 h place _ f k = tt

refusal-spent : (tools : Tools) (c : Setting) (number n : ℕ) (h : List Line) (kk : Counting) (p : Plan) (a : Answer)
    (o : Outcome) → p.outcome ≡ o → a.edits ≡ edits_of (state_of h n) kk p → Fits (state_of h n) o
    → Each GroupLine ((h ++ stored_lines number n a) ++ map (Accept number n) p.accepts)
    (refuse_lines number n p.place (Rattle.zb_model.specs.Answer.reason_of o))
unfolding stored_lines
refusal-spent tools c number n h kk p a (Does moves sending) e same f = tt
refusal-spent tools c number n h kk p a (Stop reason) e same f =
    (stop-line number n h ((h ++ stored) ++ map (Accept number n) p.accepts) p.place reason f keep, tt)
  where
    stored : List Line
    stored = map (Changed number n) a.edits ++ commit_lines number n a.edits

    mild : AllByRecursion Mild a.edits
    mild = subst (λ es. AllByRecursion Mild es) (sym same) (refused-edits (state_of h n) kk p (ap moves_of e))

    keep : ReachesEnd (state_of h n) → ReachesEnd (state_of ((h ++ stored) ++ map (Accept number n) p.accepts) n)
    keep k = lines-keep ReachesEnd n (h ++ stored) (map (Accept number n) p.accepts) (accepts-keep number n p.accepts)
        (lines-keep ReachesEnd n h stored
        (all-append KeepsEnd (map (Changed number n) a.edits) (commit_lines number n a.edits)
        (changes-keep number n a.edits mild) (commit-keeps number n a.edits)) k)

group-spent : (tools : Tools) (c : Setting) (h h0 : List Line) (number n : ℕ) (p : Plan)
    → Fits (state_of h n) p.outcome
    → Each GroupLine h (group_of h0 number n (answer_by tools c (state_of h n) (counting_of c (state_of h n) p) p))
unfolding group_of told_lines answer_by
group-spent tools c h h0 number n p f =
    each-append GroupLine h stored (accepts ++ (refusal ++ (seals ++ send))) (plain h stored (stored-plain number n a))
    (each-append GroupLine (h ++ stored) accepts (refusal ++ (seals ++ send))
    (plain (h ++ stored) accepts (accepts-plain number n p.accepts))
    (each-append GroupLine ((h ++ stored) ++ accepts) refusal (seals ++ send)
    (refusal-spent tools c number n h (counting_of c (state_of h n) p) p a p.outcome refl refl f)
    (plain (((h ++ stored) ++ accepts) ++ refusal) (seals ++ send)
    (all-append NoRefusal seals send (seals-plain number n a.seals)
    (send-plain number (Some n) (length (air h0) + 1) a.frame)))))
  where
    a : Answer
    a = answer_by tools c (state_of h n) (counting_of c (state_of h n) p) p

    stored : List Line
    stored = stored_lines number n a

    accepts : List Line
    accepts = map (Accept number n) p.accepts

    refusal : List Line
    refusal = refuse_lines number n a.place a.refusal

    seals : List Line
    seals = map (Seal number n) a.seals

    send : List Line
    send = send_lines number (Some n) (length (air h0) + 1) a.frame

-- A step

either : (P : List Line → Type 0) (b : Bool) (u v : Step) → P u.lines → P v.lines → P (cond b u v).lines
either P true u v p q = p
either P false u v p q = q

answer-spent : (tools : Tools) (c : Setting) (h : List Line) (disks : List Disk) (number n : ℕ) (p : Plan)
    → Fits (state_of h n) p.outcome
    → Each GroupLine h
    (answer_step h disks number n (answer_by tools c (state_of h n) (counting_of c (state_of h n) p) p)).lines
answer-spent tools c h disks number n p f =
    either (Each GroupLine h) (falls (disk_of disks n).armed (calls_for h n a.edits)) cut whole
    (plain h cut.lines (cut-plain (disk_of disks n).armed (calls_for h n a.edits) number n a))
    (group-spent tools c h h number n p f)
  where
    a : Answer
    a = answer_by tools c (state_of h n) (counting_of c (state_of h n) p) p

    cut : Step
    cut = record {
      lines = cut_of (disk_of disks n).armed (calls_for h n a.edits) number n a;
      disks =
          with_disk disks n
          (record { armed = NotArmed; both_open = leaves_both (disk_of disks n).armed (calls_for h n a.edits) });
    }

    whole : Step
    whole = record { lines = group_of h number n a; disks = disks }

task-spent : (tools : Tools) (w : Schedule) (h : List Line) (disks : List Disk) (number n : ℕ) (task : Task)
    → Each GroupLine h (task_step tools counting_of w h disks number n task).lines
unfolding task_step
task-spent tools w h disks number n task =
    either (Each GroupLine h) (is_up h n)
    (answer_step h disks number n
    (answer_counted tools counting_of (setting_of w n) (state_of h n)
    (plan_of tools (setting_of w n) (state_of h n) task))) (refused_step disks number n Down)
    (answer-spent tools (setting_of w n) h disks number n (plan_of tools (setting_of w n) (state_of h n) task)
    (plan-fits tools (setting_of w n) (state_of h n) task)) (tt, tt)

by-power : (h : List Line) (number n : ℕ) (b : Bool)
    → GroupLine h (Refuse number n Place.AtEvent (cond b Reason.NoFrame Down))
by-power h number n true = tt
by-power h number n false = tt

deliver-spent : (tools : Tools) (w : Schedule) (h : List Line) (disks : List Disk) (number n : ℕ) (o : Option Bytes)
    → Each GroupLine h (deliver_step tools counting_of w h disks number n o).lines
deliver-spent tools w h disks number n None = (by-power h number n (is_up h n), tt)
deliver-spent tools w h disks number n (Some bytes) = task-spent tools w h disks number n (Received bytes (supply w h))

boot-spent : (h : List Line) (disks : List Disk) (number n : ℕ) → Each GroupLine h (boot_step disks number n).lines
boot-spent h disks number n =
    either (Each GroupLine h) (falls (disk_of disks n).armed (BootCalls (disk_of disks n).both_open))
    (record {
      lines = fallen_line (disk_of disks n).armed number n;
      disks =
          with_disk disks n
          (record {
            armed = NotArmed;
            both_open = leaves_both (disk_of disks n).armed (BootCalls (disk_of disks n).both_open);
          });
    })
    (record {
      lines = Boot number n
          ∷ [];
      disks = with_disk disks n (record { armed = (disk_of disks n).armed; both_open = false });
    })
    (plain h (fallen_line (disk_of disks n).armed number n) (fallen-plain (disk_of disks n).armed number n)) (tt, tt)

step-spent : (tools : Tools) (w : Schedule) (h : List Line) (disks : List Disk) (number : ℕ) (event : Event)
    → Each GroupLine h (step tools w h disks number event).lines
unfolding step step_by forged_net forged_both forged_open
step-spent tools w h disks number (Own n task) = task-spent tools w h disks number n task
step-spent tools w h disks number (RollOver n) = task-spent tools w h disks number n (DoRoll (supply w h))
step-spent tools w h disks number (Deliver frame n) = deliver-spent tools w h disks number n (frame_at h frame)
step-spent tools w h disks number (Reset n) =
    either (Each GroupLine h) (is_up h n) (record { lines = DownReset number n ∷ []; disks = disks })
    (refused_step disks number n Down) (tt, tt) (tt, tt)
step-spent tools w h disks number (PowerOn n) =
    either (Each GroupLine h) (is_up h n) (refused_step disks number n WrongState) (boot_step disks number n) (tt, tt)
    (boot-spent h disks number n)
step-spent tools w h disks number (ShowRecord n) = (tt, tt)
step-spent tools w h disks number (ArmStop n calls torn) = tt
step-spent tools w h disks number (ArmFail n call) = tt
step-spent tools w h disks number (InjectBytes bytes) = (tt, tt)
step-spent tools w h disks number (ForgeNet to from source key sequence counter content) = (tt, (tt, tt))
step-spent tools w h disks number (ForgeNetAps to from source key sequence counter label base aps_counter command) =
    (tt, (tt, (tt, tt)))
step-spent tools w h disks number (ForgeOpen to from source label base aps_counter command) = (tt, (tt, tt))

pub groups-spent : (tools : Tools) (w : Schedule) (h : List Line) (disks : List Disk) (number : ℕ)
    (events : List Event) → Each GroupLine h (groups tools w h disks number events)
unfolding groups
groups-spent tools w h disks number [] = tt
groups-spent tools w h disks number (event ∷ events) =
    each-append GroupLine h (step tools w h disks number event).lines
    (groups tools w (h ++ (step tools w h disks number event).lines) (step tools w h disks number event).disks
    (number + 1) events)
    (step-spent tools w h disks number event)
    (groups-spent tools w (h ++ (step tools w h disks number event).lines)
    (step tools w h disks number event).disks (number + 1) events)
