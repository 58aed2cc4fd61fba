-- Whole runs: a node that holds no key known outside doesn't accept what outsiders sealed or forged.
use Rattle.std.proofs.Common.{◌≡◌, ℕ, ◌<◌, ◌≤◌, ◌+◌, Bool, true, false, cond, not, List, [], ◌∷◌, ◌++◌, map, filter, length, Option, Some, None, nat_eq, flat_map, refl, sym, ap, ◌∙◌, subst, arith, append_assoc, ◌⊎◌, inl, inr, ⊎_elim, ne_eqb, eq-eqb}
use Rattle.std.proofs.lemmas.Bool.{and_parts}
use Rattle.std.specs.List.{AllByRecursion}
use Rattle.zb_model.specs.Data.{Bytes, Layer, Nwk, Aps, Station, Term, Task, Received, DoRoll, Edit, Place, Reason, Down, NoFrame, WrongState}
use Rattle.zb_model.specs.Lines.{Line, Declared, GivenNet, GivenLink, Counter, Changed, Commit, Accept, Refuse, Seal, Forge, Send, Stopped, DownReset, DownDisk, Boot}
use Rattle.zb_model.specs.State.{NetKey, live_nets}
use Rattle.zb_model.specs.Tools.{Tools}
use Rattle.zb_model.specs.Rules.{Plan, centre_of}
use Rattle.zb_model.specs.Answer.{Answer, answer_by, plan_of, counting_of}
use Rattle.zb_model.specs.Readings.{state_of, is_up, air}
use Rattle.zb_model.specs.Play.{Schedule, Node, Event, Own, RollOver, Deliver, Reset, PowerOn, ShowRecord, ArmStop, ArmFail, InjectBytes, ForgeNet, ForgeNetAps, ForgeOpen, Step, Disk, Armed, NotArmed, StopAfter, FailAt, Calls, stations, setting_of, net_line, link_line, limit_line, start, disk_of, with_disk, falls, stands, calls_for, leaves_both, BootCalls, commit_lines, refuse_lines, send_lines, stored_lines, told_lines, group_of, cut_of, fallen_line, answer_step, boot_step, refused_step, answer_counted, task_step, deliver_step, frame_at, supply, forged_net, forged_both, forged_open, step_by, step, groups}
use Rattle.zb_model.specs.Schedules.{NamesNode, IsSchedule}
use Rattle.zb_model.specs.Secrets.{holds, exposed, outside, each_line, based_line, private, passes_on, forged_in}
use Rattle.zb_model.specs.Transcript.{run_lines, transcript, end_line}
use Rattle.zb_model.specs.Claims.{Each, Among, HoldsNoneKnown, before_group, event_of}
use Rattle.law_run.specs.Opening.{Opens}
use Rattle.law_run.specs.Lockout.{RefusesOutsiders}
use Rattle.law_run.proofs.Basics.{each-append, append-nil', flat_map-append}
use Rattle.law_run.proofs.Counters.{LineFits}
use Rattle.law_run.proofs.FreshLines.{all-append, all-map, Inv, inv-lines}
use Rattle.law_run.proofs.Runs.{step-fits, start-inv}
use Rattle.law_run.proofs.Judged.{In, all-in, LiveAt, AcceptsFit, plan-accepts}
use Rattle.law_run.proofs.Sound.{sound}
use Rattle.law_run.proofs.Exposed.{holds-among}
use Rattle.law_run.proofs.Outsiders.{late, late-append, removals, Known, Bad, NotDeclared, Based, bad-lines, based-each, NoOutsider, refuses-outsiders}

-- Each line of a step has its number, and declares nothing

pub record Tagged (number : ℕ) (l : Line) : Type 0 where
  pub event : event_of l ≡ number
  pub nothing : NotDeclared l

tag : (number : ℕ) (l : Line) → event_of l ≡ number → NotDeclared l → Tagged number l
tag number l e n = record { event = e; nothing = n }

changes-tagged : (number n : ℕ) (es : List Edit) → AllByRecursion (Tagged number) (map (Changed number n) es)
unfolding NotDeclared
changes-tagged number n [] = tt
changes-tagged number n (e ∷ es) = (tag number (Changed number n e) refl tt, changes-tagged number n es)

commit-tagged : (number n : ℕ) (es : List Edit) → AllByRecursion (Tagged number) (commit_lines number n es)
unfolding NotDeclared
commit-tagged number n [] = tt
commit-tagged number n (e ∷ es) = (tag number (Commit number n) refl tt, tt)

stored-tagged : (number n : ℕ) (a : Answer) → AllByRecursion (Tagged number) (stored_lines number n a)
unfolding stored_lines
stored-tagged number n a = all-append (Tagged number) (map (Changed number n) a.edits) (commit_lines number n a.edits)
    (changes-tagged number n a.edits) (commit-tagged number n a.edits)

accepts-tagged : (number n : ℕ) (ts : List Term) → AllByRecursion (Tagged number) (map (Accept number n) ts)
unfolding NotDeclared
accepts-tagged number n [] = tt
accepts-tagged number n (t ∷ ts) = (tag number (Accept number n t) refl tt, accepts-tagged number n ts)

refuse-tagged : (number n : ℕ) (place : Place) (r : Option Reason)
    → AllByRecursion (Tagged number) (refuse_lines number n place r)
unfolding NotDeclared
refuse-tagged number n place None = tt
refuse-tagged number n place (Some r) = (tag number (Refuse number n place r) refl tt, tt)

seals-tagged : (number n : ℕ) (ts : List Term) → AllByRecursion (Tagged number) (map (Seal number n) ts)
unfolding NotDeclared
seals-tagged number n [] = tt
seals-tagged number n (t ∷ ts) = (tag number (Seal number n t) refl tt, seals-tagged number n ts)

send-tagged : (number : ℕ) (n : Option ℕ) (frame : ℕ) (bytes : Option Bytes)
    → AllByRecursion (Tagged number) (send_lines number n frame bytes)
unfolding NotDeclared
send-tagged number n frame None = tt
send-tagged number n frame (Some b) = (tag number (Send number n frame b) refl tt, tt)

group-tagged : (h0 : List Line) (number n : ℕ) (a : Answer) → AllByRecursion (Tagged number) (group_of h0 number n a)
unfolding group_of told_lines
group-tagged h0 number n a =
    all-append (Tagged number) (stored_lines number n a)
    (map (Accept number n) a.accepts
    ++ (refuse_lines number n a.place a.refusal
    ++ (map (Seal number n) a.seals ++ send_lines number (Some n) (length (air h0) + 1) a.frame)))
    (stored-tagged number n a)
    (all-append (Tagged number) (map (Accept number n) a.accepts)
    (refuse_lines number n a.place a.refusal
    ++ (map (Seal number n) a.seals ++ send_lines number (Some n) (length (air h0) + 1) a.frame))
    (accepts-tagged number n a.accepts)
    (all-append (Tagged number) (refuse_lines number n a.place a.refusal)
    (map (Seal number n) a.seals ++ send_lines number (Some n) (length (air h0) + 1) a.frame)
    (refuse-tagged number n a.place a.refusal)
    (all-append (Tagged number) (map (Seal number n) a.seals)
    (send_lines number (Some n) (length (air h0) + 1) a.frame) (seals-tagged number n a.seals)
    (send-tagged number (Some n) (length (air h0) + 1) a.frame))))

fallen-tagged : (armed : Armed) (number n : ℕ) → AllByRecursion (Tagged number) (fallen_line armed number n)
unfolding NotDeclared
fallen-tagged NotArmed number n = tt
fallen-tagged (StopAfter calls torn) number n = (tag number (Stopped number n) refl tt, tt)
fallen-tagged (FailAt call) number n = (tag number (DownDisk number n) refl tt, tt)

cut-part : (b : Bool) (number n : ℕ) (a : Answer)
    → AllByRecursion (Tagged number) (cond b (stored_lines number n a) [])
cut-part true number n a = stored-tagged number n a
cut-part false number n a = tt

cut-tagged : (armed : Armed) (calls : Calls) (number n : ℕ) (a : Answer)
    → AllByRecursion (Tagged number) (cut_of armed calls number n a)
unfolding cut_of
cut-tagged armed calls number n a =
    all-append (Tagged number) (cond (stands armed calls) (stored_lines number n a) []) (fallen_line armed number n)
    (cut-part (stands armed calls) number n a) (fallen-tagged armed number n)

either : (P : List Line → Type 0) (b : Bool) (x y : Step) → P x.lines → P y.lines → P (cond b x y).lines
either P true x y p q = p
either P false x y p q = q

abbrev pub AllTagged : ℕ → List Line → Type 0
AllTagged number ls = AllByRecursion (Tagged number) ls

cut_step : List Line → List Disk → ℕ → ℕ → Answer → Step
cut_step h disks number n a =
    record {
      lines = cut_of (disk_of disks n).armed (calls_for h n a.edits) number n a;
      disks =
          with_disk disks n
          (record { armed = NotArmed; both_open = leaves_both (disk_of disks n).armed (calls_for h n a.edits) });
    }

answer-tagged : (h : List Line) (disks : List Disk) (number n : ℕ) (a : Answer)
    → AllTagged number (answer_step h disks number n a).lines
unfolding cut_step
answer-tagged h disks number n a =
    either (AllTagged number) (falls (disk_of disks n).armed (calls_for h n a.edits)) (cut_step h disks number n a)
    (record { lines = group_of h number n a; disks = disks })
    (cut-tagged (disk_of disks n).armed (calls_for h n a.edits) number n a) (group-tagged h number n a)

refused-tagged : (disks : List Disk) (number n : ℕ) (reason : Reason)
    → AllTagged number (refused_step disks number n reason).lines
unfolding NotDeclared
refused-tagged disks number n reason = (tag number (Refuse number n Place.AtEvent reason) refl tt, tt)

task-tagged : (tools : Tools) (w : Schedule) (h : List Line) (disks : List Disk) (number n : ℕ) (task : Task)
    → AllTagged number (task_step tools counting_of w h disks number n task).lines
unfolding task_step
task-tagged tools w h disks number n task =
    either (AllTagged number) (is_up h n)
    (answer_step h disks number n
    (answer_counted tools counting_of (setting_of w n) (state_of h n)
    (plan_of tools (setting_of w n) (state_of h n) task))) (refused_step disks number n Down)
    (answer-tagged h disks number n
    (answer_counted tools counting_of (setting_of w n) (state_of h n)
    (plan_of tools (setting_of w n) (state_of h n) task))) (refused-tagged disks number n Down)

deliver-tagged : (tools : Tools) (w : Schedule) (h : List Line) (disks : List Disk) (number n : ℕ) (o : Option Bytes)
    → AllTagged number (deliver_step tools counting_of w h disks number n o).lines
deliver-tagged tools w h disks number n None = refused-tagged disks number n (cond (is_up h n) NoFrame Down)
deliver-tagged tools w h disks number n (Some bytes) =
    task-tagged tools w h disks number n (Received bytes (supply w h))

pub step-tagged : (tools : Tools) (w : Schedule) (h : List Line) (disks : List Disk) (number : ℕ) (event : Event)
    → AllTagged number (step tools w h disks number event).lines
unfolding step step_by forged_net forged_both forged_open NotDeclared
step-tagged tools w h disks number (Own n task) = task-tagged tools w h disks number n task
step-tagged tools w h disks number (RollOver n) = task-tagged tools w h disks number n (DoRoll (supply w h))
step-tagged tools w h disks number (Deliver frame n) = deliver-tagged tools w h disks number n (frame_at h frame)
step-tagged tools w h disks number (Reset n) =
    either (AllTagged number) (is_up h n) (record { lines = DownReset number n ∷ []; disks = disks })
    (refused_step disks number n Down) (tag number (DownReset number n) refl tt, tt)
    (refused-tagged disks number n Down)
step-tagged tools w h disks number (PowerOn n) =
    either (AllTagged number) (is_up h n) (refused_step disks number n WrongState) (boot_step disks number n)
    (refused-tagged disks number n WrongState)
    (either (AllTagged number) (falls (disk_of disks n).armed (BootCalls (disk_of disks n).both_open))
    (record {
      lines = fallen_line (disk_of disks n).armed number n;
      disks =
          with_disk disks n
          (record {
            armed = NotArmed;
            both_open = leaves_both (disk_of disks n).armed (BootCalls (disk_of disks n).both_open);
          });
    })
    (record {
      lines = Boot number n
          ∷ [];
      disks = with_disk disks n (record { armed = (disk_of disks n).armed; both_open = false });
    })
    (fallen-tagged (disk_of disks n).armed number n) (tag number (Boot number n) refl tt, tt))
step-tagged tools w h disks number (ShowRecord n) = (tag number _ refl tt, tt)
step-tagged tools w h disks number (ArmStop n calls torn) = tt
step-tagged tools w h disks number (ArmFail n call) = tt
step-tagged tools w h disks number (InjectBytes bytes) = (tag number _ refl tt, tt)
step-tagged tools w h disks number (ForgeNet to from source key sequence counter content) =
    (tag number _ refl tt, (tag number _ refl tt, tt))
step-tagged tools w h disks number (ForgeNetAps to from source key sequence counter label base aps_counter command) =
    (tag number _ refl tt, (tag number _ refl tt, (tag number _ refl tt, tt)))
step-tagged tools w h disks number (ForgeOpen to from source label base aps_counter command) =
    (tag number _ refl tt, (tag number _ refl tt, tt))

-- The lines before a group

abbrev pub Earlier : ℕ → Line → Type 0
Earlier number l = event_of l < number

pub filter-append : (test : Line → Bool) (xs ys : List Line) → filter test (xs ++ ys) ≡ filter test xs
    ++ filter test ys
filter-append test [] ys = refl
filter-append test (x ∷ xs) ys = by-test (test x) (filter-append test xs ys)
  where
    by-test : (b : Bool) → filter test (xs ++ ys) ≡ filter test xs ++ filter test ys
        → cond b (x ∷ filter test (xs ++ ys)) (filter test (xs ++ ys)) ≡ cond b (x ∷ filter test xs) (filter test xs)
        ++ filter test ys
    by-test true e = ap (λ l. x ∷ l) e
    by-test false e = e

filter-all : (number : ℕ) (h : List Line) → AllByRecursion (Earlier number) h
    → filter (λ l. not (nat_eq (event_of l) number)) h ≡ h
filter-all number [] a = refl
filter-all number (l ∷ ls) a =
    ap (λ b. cond (not b) (l ∷ filter (λ l. not (nat_eq (event_of l) number)) ls)
    (filter (λ l. not (nat_eq (event_of l) number)) ls))
    (ne_eqb (event_of l) number (λ e. Rattle.std.proofs.Common.lt_irrefl number (subst (λ m. m < number) e a.0)))
    ∙ ap (λ x. l ∷ x) (filter-all number ls a.1)

filter-none : (number : ℕ) (g : List Line) → AllByRecursion (Tagged number) g
    → filter (λ l. not (nat_eq (event_of l) number)) g ≡ []
filter-none number [] a = refl
filter-none number (l ∷ ls) a =
    ap (λ b. cond (not b) (l ∷ filter (λ l. not (nat_eq (event_of l) number)) ls)
    (filter (λ l. not (nat_eq (event_of l) number)) ls)) (eq-eqb (event_of l) number a.0.event) ∙ filter-none
    number ls a.1

before-is : (number : ℕ) (h g : List Line) → AllByRecursion (Earlier number) h → AllByRecursion (Tagged number) g
    → before_group number (h ++ g) ≡ h
unfolding before_group
before-is number h g a b =
    filter-append (λ l. not (nat_eq (event_of l) number)) h g
    ∙ ap (λ x. x ++ filter (λ l. not (nat_eq (event_of l) number)) g) (filter-all number h a)
    ∙ ap (λ x. h ++ x) (filter-none number g b)
    ∙ append-nil' h

-- lines without a seal or a forged term
unfoldable pub Quiet : Line → Type 0
Quiet (Seal e n t) = ⊥
Quiet (Forge e t) = ⊥
Quiet _ = Unit {0}

quiet-late : (gone : List ℕ) (g : List Line) → AllByRecursion Quiet g → late gone g ≡ []
unfolding Quiet
quiet-late gone [] a = refl
quiet-late gone (Seal e n t ∷ ls) a = absurd a.0
quiet-late gone (l ∷ ls) a = quiet-late (gone ++ Rattle.zb_model.specs.Secrets.removed_in l) ls a.1

quiet-forges : (g : List Line) → AllByRecursion Quiet g → flat_map forged_in g ≡ []
unfolding Quiet
quiet-forges [] a = refl
quiet-forges (Forge e t ∷ ls) a = absurd a.0
quiet-forges (l ∷ ls) a = quiet-forges ls a.1

changes-quiet : (number n : ℕ) (es : List Edit) → AllByRecursion Quiet (map (Changed number n) es)
unfolding Quiet
changes-quiet number n [] = tt
changes-quiet number n (e ∷ es) = (tt, changes-quiet number n es)

commit-quiet : (number n : ℕ) (es : List Edit) → AllByRecursion Quiet (commit_lines number n es)
unfolding Quiet
commit-quiet number n [] = tt
commit-quiet number n (e ∷ es) = (tt, tt)

stored-quiet : (number n : ℕ) (a : Answer) → AllByRecursion Quiet (stored_lines number n a)
unfolding stored_lines
stored-quiet number n a = all-append Quiet (map (Changed number n) a.edits) (commit_lines number n a.edits)
    (changes-quiet number n a.edits) (commit-quiet number n a.edits)

-- The claim on an accept line after quiet lines of its group

live-known : (tools : Tools) (h : List Line) (n : ℕ) (t : Term) → LiveAt Nwk t (state_of h n)
    → HoldsNoneKnown tools h n → holds (exposed tools h (outside h)) t.base ≡ true → ⊥
unfolding LiveAt
live-known tools h n t live none e =
    all-in (λ (r : NetKey). Among (exposed tools h (outside h)) r.key → ⊥) (live_nets (state_of h n)) none live.0
    live.1 (subst (λ k. Among (exposed tools h (outside h)) k) (sym live.2)
    (holds-among (exposed tools h (outside h)) t.base e))

accept-safe : (tools : Tools) (h g : List Line) (number n : ℕ) (t : Term) → AllByRecursion (Earlier number) h
    → Bad tools h → AllByRecursion (Tagged number) g → AllByRecursion Quiet g → LiveAt Nwk t (state_of h n)
    → NoOutsider tools (h ++ g) (Accept number n t)
accept-safe tools h g number n t earlier bad tagged quiet live = λ layer none from.
    live-known tools h n t live (subst (λ x. HoldsNoneKnown tools x n) (before-is number h g earlier tagged) none)
    (⊎_elim
    (λ a. all-in (Known tools h) (late [] h) bad.seals t
    (subst (In t)
    (late-append [] h g ∙ ap (λ x. late [] h ++ x) (quiet-late (removals h) g quiet) ∙ append-nil' (late [] h)) a)
    layer)
    (λ a. all-in (Known tools h) (flat_map forged_in h) bad.forges t
    (subst (In t)
    (flat_map-append forged_in h g ∙ ap (λ x. flat_map forged_in h ++ x) (quiet-forges g quiet) ∙ append-nil'
    (flat_map forged_in h)) a) layer) from)

IsAps : Layer → Type 0
IsAps Aps = Unit {0}
IsAps Nwk = ⊥

aps-safe : (tools : Tools) (h : List Line) (number n : ℕ) (t : Term) → t.layer ≡ Aps
    → NoOutsider tools h (Accept number n t)
unfolding IsAps
aps-safe tools h number n t e = λ layer none from. absurd (subst IsAps (sym e ∙ layer) tt)

unfoldable pub NoAccept : Line → Type 0
NoAccept (Accept e n t) = ⊥
NoAccept _ = Unit {0}

no-accept-safe : (tools : Tools) (h : List Line) (l : Line) → NoAccept l → NoOutsider tools h l
unfolding NoAccept
no-accept-safe tools h (Accept e n t) k = absurd k
no-accept-safe tools h l k = tt

plain : (tools : Tools) (h ls : List Line) → AllByRecursion NoAccept ls → Each (NoOutsider tools) h ls
plain tools h [] a = tt
plain tools h (l ∷ ls) a = (no-accept-safe tools h l a.0, plain tools (h ++ l ∷ []) ls a.1)

changes-plain : (number n : ℕ) (es : List Edit) → AllByRecursion NoAccept (map (Changed number n) es)
unfolding NoAccept
changes-plain number n [] = tt
changes-plain number n (e ∷ es) = (tt, changes-plain number n es)

commit-plain : (number n : ℕ) (es : List Edit) → AllByRecursion NoAccept (commit_lines number n es)
unfolding NoAccept
commit-plain number n [] = tt
commit-plain number n (e ∷ es) = (tt, tt)

refuse-plain : (number n : ℕ) (place : Place) (r : Option Reason)
    → AllByRecursion NoAccept (refuse_lines number n place r)
unfolding NoAccept
refuse-plain number n place None = tt
refuse-plain number n place (Some r) = (tt, tt)

seals-plain : (number n : ℕ) (ts : List Term) → AllByRecursion NoAccept (map (Seal number n) ts)
unfolding NoAccept
seals-plain number n [] = tt
seals-plain number n (t ∷ ts) = (tt, seals-plain number n ts)

send-plain : (number : ℕ) (n : Option ℕ) (frame : ℕ) (bytes : Option Bytes)
    → AllByRecursion NoAccept (send_lines number n frame bytes)
unfolding NoAccept
send-plain number n frame None = tt
send-plain number n frame (Some b) = (tt, tt)

stored-plain : (number n : ℕ) (a : Answer) → AllByRecursion NoAccept (stored_lines number n a)
unfolding stored_lines
stored-plain number n a = all-append NoAccept (map (Changed number n) a.edits) (commit_lines number n a.edits)
    (changes-plain number n a.edits) (commit-plain number n a.edits)

rest-plain : (number n : ℕ) (frame : ℕ) (a : Answer)
    → AllByRecursion NoAccept
    (refuse_lines number n a.place a.refusal
    ++ (map (Seal number n) a.seals ++ send_lines number (Some n) frame a.frame))
rest-plain number n frame a =
    all-append NoAccept (refuse_lines number n a.place a.refusal)
    (map (Seal number n) a.seals ++ send_lines number (Some n) frame a.frame)
    (refuse-plain number n a.place a.refusal)
    (all-append NoAccept (map (Seal number n) a.seals) (send_lines number (Some n) frame a.frame)
    (seals-plain number n a.seals) (send-plain number (Some n) frame a.frame))

-- the accept lines of a group
accepts-safe : (tools : Tools) (h g : List Line) (number n : ℕ) (ts : List Term) → AllByRecursion (Earlier number) h
    → Bad tools h → AllByRecursion (Tagged number) g → AllByRecursion Quiet g → AcceptsFit (state_of h n) ts
    → Each (NoOutsider tools) (h ++ g) (map (Accept number n) ts)
accepts-safe tools h g number n [] earlier bad tagged quiet f = tt
accepts-safe tools h g number n (t ∷ []) earlier bad tagged quiet f = (
  ⊎_elim (λ j. accept-safe tools h g number n t earlier bad tagged quiet j.live)
      (λ j. aps-safe tools (h ++ g) number n t j.at) f,
  tt,
)
accepts-safe tools h g number n (t ∷ u ∷ []) earlier bad tagged quiet f = (
  accept-safe tools h g number n t earlier bad tagged quiet f.0.live,
  (aps-safe tools ((h ++ g) ++ Accept number n t ∷ []) number n u f.1.at, tt),
)
accepts-safe tools h g number n (t ∷ u ∷ v ∷ ts) earlier bad tagged quiet f = absurd f

group-safe : (tools : Tools) (h h0 : List Line) (number n : ℕ) (a : Answer) → AllByRecursion (Earlier number) h
    → Bad tools h → AcceptsFit (state_of h n) a.accepts → Each (NoOutsider tools) h (group_of h0 number n a)
unfolding group_of told_lines
group-safe tools h h0 number n a earlier bad f =
    each-append (NoOutsider tools) h (stored_lines number n a) (map (Accept number n) a.accepts ++ rest)
    (plain tools h (stored_lines number n a) (stored-plain number n a))
    (each-append (NoOutsider tools) (h ++ stored_lines number n a) (map (Accept number n) a.accepts) rest
    (accepts-safe tools h (stored_lines number n a) number n a.accepts earlier bad (stored-tagged number n a)
    (stored-quiet number n a) f)
    (plain tools ((h ++ stored_lines number n a) ++ map (Accept number n) a.accepts) rest
    (rest-plain number n (length (air h0) + 1) a)))
  where
    rest : List Line
    rest = refuse_lines number n a.place a.refusal
        ++ (map (Seal number n) a.seals ++ send_lines number (Some n) (length (air h0) + 1) a.frame)

fallen-plain : (armed : Armed) (number n : ℕ) → AllByRecursion NoAccept (fallen_line armed number n)
unfolding NoAccept
fallen-plain NotArmed number n = tt
fallen-plain (StopAfter calls torn) number n = (tt, tt)
fallen-plain (FailAt call) number n = (tt, tt)

cut-plain-part : (b : Bool) (number n : ℕ) (a : Answer) → AllByRecursion NoAccept (cond b (stored_lines number n a) [])
cut-plain-part true number n a = stored-plain number n a
cut-plain-part false number n a = tt

cut-plain : (armed : Armed) (calls : Calls) (number n : ℕ) (a : Answer)
    → AllByRecursion NoAccept (cut_of armed calls number n a)
unfolding cut_of
cut-plain armed calls number n a = all-append NoAccept (cond (stands armed calls) (stored_lines number n a) [])
    (fallen_line armed number n) (cut-plain-part (stands armed calls) number n a) (fallen-plain armed number n)

abbrev Safe : Tools → List Line → List Line → Type 0
Safe tools h ls = Each (NoOutsider tools) h ls

answer-safe : (tools : Tools) (h : List Line) (disks : List Disk) (number n : ℕ) (a : Answer)
    → AllByRecursion (Earlier number) h → Bad tools h → AcceptsFit (state_of h n) a.accepts
    → Safe tools h (answer_step h disks number n a).lines
unfolding cut_step
answer-safe tools h disks number n a earlier bad f =
    either (Safe tools h) (falls (disk_of disks n).armed (calls_for h n a.edits)) (cut_step h disks number n a)
    (record { lines = group_of h number n a; disks = disks })
    (plain tools h (cut_of (disk_of disks n).armed (calls_for h n a.edits) number n a)
    (cut-plain (disk_of disks n).armed (calls_for h n a.edits) number n a))
    (group-safe tools h h number n a earlier bad f)

task-safe : (tools : Tools) → Opens tools → (w : Schedule) (h : List Line) (disks : List Disk) (number n : ℕ)
    (task : Task) → AllByRecursion (Earlier number) h → Bad tools h
    → Safe tools h (task_step tools counting_of w h disks number n task).lines
unfolding task_step answer_by
task-safe tools opens w h disks number n task earlier bad =
    either (Safe tools h) (is_up h n)
    (answer_step h disks number n (answer_counted tools counting_of (setting_of w n) (state_of h n) p))
    (refused_step disks number n Down)
    (answer-safe tools h disks number n (answer_counted tools counting_of (setting_of w n) (state_of h n) p) earlier
    bad (plan-accepts tools opens (setting_of w n) (state_of h n) (sound h n) task)) (tt, tt)
  where
    p : Plan
    p = plan_of tools (setting_of w n) (state_of h n) task

deliver-safe : (tools : Tools) → Opens tools → (w : Schedule) (h : List Line) (disks : List Disk) (number n : ℕ)
    (o : Option Bytes) → AllByRecursion (Earlier number) h → Bad tools h
    → Safe tools h (deliver_step tools counting_of w h disks number n o).lines
deliver-safe tools opens w h disks number n None earlier bad = (tt, tt)
deliver-safe tools opens w h disks number n (Some bytes) earlier bad = task-safe tools opens w h disks number n
    (Received bytes (supply w h)) earlier bad

step-safe : (tools : Tools) → Opens tools → (w : Schedule) (h : List Line) (disks : List Disk) (number : ℕ)
    (event : Event) → AllByRecursion (Earlier number) h → Bad tools h
    → Safe tools h (step tools w h disks number event).lines
unfolding step step_by forged_net forged_both forged_open
step-safe tools opens w h disks number (Own n task) e b = task-safe tools opens w h disks number n task e b
step-safe tools opens w h disks number (RollOver n) e b = task-safe tools opens w h disks number n
    (DoRoll (supply w h)) e b
step-safe tools opens w h disks number (Deliver frame n) e b = deliver-safe tools opens w h disks number n
    (frame_at h frame) e b
step-safe tools opens w h disks number (Reset n) e b =
    either (Safe tools h) (is_up h n) (record { lines = DownReset number n ∷ []; disks = disks })
    (refused_step disks number n Down) (tt, tt) (tt, tt)
step-safe tools opens w h disks number (PowerOn n) e b =
    either (Safe tools h) (is_up h n) (refused_step disks number n WrongState) (boot_step disks number n) (tt, tt)
    (either (Safe tools h) (falls (disk_of disks n).armed (BootCalls (disk_of disks n).both_open))
    (record {
      lines = fallen_line (disk_of disks n).armed number n;
      disks =
          with_disk disks n
          (record {
            armed = NotArmed;
            both_open = leaves_both (disk_of disks n).armed (BootCalls (disk_of disks n).both_open);
          });
    })
    (record {
      lines = Boot number n
          ∷ [];
      disks = with_disk disks n (record { armed = (disk_of disks n).armed; both_open = false });
    })
    (plain tools h (fallen_line (disk_of disks n).armed number n) (fallen-plain (disk_of disks n).armed number n))
    (tt, tt))
step-safe tools opens w h disks number (ShowRecord n) e b = (tt, tt)
step-safe tools opens w h disks number (ArmStop n calls torn) e b = tt
step-safe tools opens w h disks number (ArmFail n call) e b = tt
step-safe tools opens w h disks number (InjectBytes bytes) e b = (tt, tt)
step-safe tools opens w h disks number (ForgeNet to from source key sequence counter content) e b = (tt, (tt, tt))
step-safe tools opens w h disks number
    (ForgeNetAps to from source key sequence counter label base aps_counter command) e b = (tt, (tt, (tt, tt)))
step-safe tools opens w h disks number (ForgeOpen to from source label base aps_counter command) e b = (tt, (tt, tt))

-- All groups

pub each-split : (P : List Line → Line → Type 0) (h xs ys : List Line) → Each P h (xs ++ ys) → Each P h xs
    × Each P (h ++ xs) ys
each-split P h [] ys q = (tt, subst (λ x. Each P x ys) (sym (append-nil' h)) q)
each-split P h (x ∷ xs) ys q = (
  (q.0, (each-split P (h ++ x ∷ []) xs ys q.1).0),
  subst (λ z. Each P z ys) (append_assoc h (x ∷ []) xs)
      (each-split P (h ++ x ∷ []) xs ys q.1).1,
)

later-number : (number : ℕ) (h : List Line) → AllByRecursion (Earlier number) h
    → AllByRecursion (Earlier (number + 1)) h
later-number number h a = all-map (Earlier number) (Earlier (number + 1)) (λ l e. omega (arith, e)) h a

tagged-earlier : (number : ℕ) (g : List Line) → AllTagged number g → AllByRecursion (Earlier (number + 1)) g
tagged-earlier number g a = all-map (Tagged number) (Earlier (number + 1)) (λ l t. omega (arith, t.event)) g a

pub undeclared : (number : ℕ) (g : List Line) → AllTagged number g → AllByRecursion NotDeclared g
undeclared number g a = all-map (Tagged number) NotDeclared (λ l t. t.nothing) g a

groups-safe : (tools : Tools) → Opens tools → (w : Schedule) → IsSchedule w
    → (h : List Line) (disks : List Disk) (number : ℕ) (events : List Event) → AllByRecursion (NamesNode w) events
    → Inv tools h → AllByRecursion (Earlier number) h → Bad tools h
    → Each (Based tools) h (groups tools w h disks number events) → Safe tools h (groups tools w h disks number events)
unfolding groups
groups-safe tools opens w i h disks number [] named inv earlier bad based = tt
groups-safe tools opens w i h disks number (event ∷ events) named inv earlier bad based =
    each-append (NoOutsider tools) h g rest (step-safe tools opens w h disks number event earlier bad)
    (groups-safe tools opens w i (h ++ g) (step tools w h disks number event).disks (number + 1) events named.1
    (inv-lines tools h g fits inv)
    (all-append (Earlier (number + 1)) h g (later-number number h earlier) (tagged-earlier number g tagged))
    (bad-lines tools h g (undeclared number g tagged) fits (each-split (Based tools) h g rest based).0 bad)
    (each-split (Based tools) h g rest based).1)
  where
    g : List Line
    g = (step tools w h disks number event).lines

    rest : List Line
    rest = groups tools w (h ++ g) (step tools w h disks number event).disks (number + 1) events

    tagged : AllTagged number g
    tagged = step-tagged tools w h disks number event

    fits : Each LineFits h g
    fits = step-fits tools w i h disks number event named.0 inv.commanded

-- The start: lines of no event, without seals, forged or accepted terms

unfoldable pub Beginning : Line → Type 0
Beginning (Declared p) = Unit {0}
Beginning (GivenNet n key q) = Unit {0}
Beginning (GivenLink n p key) = Unit {0}
Beginning (Counter n layer v) = Unit {0}
Beginning _ = ⊥

pub start-begins : (w : Schedule) → AllByRecursion Beginning (start w)
unfolding start Beginning
start-begins w =
    all-append Beginning (map Declared (stations w)) (nets ++ (links ++ limits)) (declared (stations w))
    (all-append Beginning nets (links ++ limits)
    (flat (λ (m : Node). net_line m.station.eui m.network) (λ m. net m.station.eui m.network) w.nodes)
    (all-append Beginning links limits
    (flat (λ (m : Node). link_line (centre_of (stations w)) m.station.eui m.code)
    (λ m. link (centre_of (stations w)) m.station.eui m.code) w.nodes)
    (flat (λ (m : Node). limit_line m.station.eui Nwk m.start_nwk ++ limit_line m.station.eui Aps m.start_aps)
    (λ m. all-append Beginning (limit_line m.station.eui Nwk m.start_nwk) (limit_line m.station.eui Aps m.start_aps)
    (limit m.station.eui Nwk m.start_nwk (nat_eq m.start_nwk 0))
    (limit m.station.eui Aps m.start_aps (nat_eq m.start_aps 0))) w.nodes)))
  where
    nets : List Line
    nets = flat_map (λ (m : Node). net_line m.station.eui m.network) w.nodes

    links : List Line
    links = flat_map (λ (m : Node). link_line (centre_of (stations w)) m.station.eui m.code) w.nodes

    limits : List Line
    limits =
        flat_map (λ (m : Node). limit_line m.station.eui Nwk m.start_nwk ++ limit_line m.station.eui Aps m.start_aps)
        w.nodes

    declared : (ps : List Station) → AllByRecursion Beginning (map Declared ps)
    declared [] = tt
    declared (p ∷ ps) = (tt, declared ps)

    flat : (f : Node → List Line) → ((x : Node) → AllByRecursion Beginning (f x)) → (xs : List Node)
        → AllByRecursion Beginning (flat_map f xs)
    flat f k [] = tt
    flat f k (x ∷ xs) = all-append Beginning (f x) (flat_map f xs) (k x) (flat f k xs)

    net : (n : ℕ) (o : Option (Bytes × ℕ)) → AllByRecursion Beginning (net_line n o)
    net n None = tt
    net n (Some g) = (tt, tt)

    link : (c n : ℕ) (o : Option Bytes) → AllByRecursion Beginning (link_line c n o)
    link c n None = tt
    link c n (Some key) = (tt, tt)

    limit : (n : ℕ) (layer : Layer) (v : ℕ) (b : Bool) → AllByRecursion Beginning (cond b [] (Counter n layer v ∷ []))
    limit n layer v true = tt
    limit n layer v false = (tt, tt)

begins-earlier : (l : Line) → Beginning l → Earlier 1 l
unfolding Beginning
begins-earlier (Declared p) b = omega arith
begins-earlier (GivenNet n key q) b = omega arith
begins-earlier (GivenLink n p key) b = omega arith
begins-earlier (Counter n layer v) b = omega arith
begins-earlier _ b = absurd b

begins-quiet : (l : Line) → Beginning l → Quiet l
unfolding Beginning Quiet
begins-quiet (Declared p) b = tt
begins-quiet (GivenNet n key q) b = tt
begins-quiet (GivenLink n p key) b = tt
begins-quiet (Counter n layer v) b = tt
begins-quiet _ b = absurd b

begins-plain : (l : Line) → Beginning l → NoAccept l
unfolding Beginning NoAccept
begins-plain (Declared p) b = tt
begins-plain (GivenNet n key q) b = tt
begins-plain (GivenLink n p key) b = tt
begins-plain (Counter n layer v) b = tt
begins-plain _ b = absurd b

start-bad : (tools : Tools) (w : Schedule) → Bad tools (start w)
start-bad tools w = record {
  seals = subst (λ ts. AllByRecursion (Known tools (start w)) ts) (sym (quiet-late [] (start w) quiet)) tt;
  forges = subst (λ ts. AllByRecursion (Known tools (start w)) ts) (sym (quiet-forges (start w) quiet)) tt;
}
  where
    quiet : AllByRecursion Quiet (start w)
    quiet = all-map Beginning Quiet begins-quiet (start w) (start-begins w)

-- The law

run-safe : (tools : Tools) → Opens tools → (w : Schedule) → IsSchedule w → Each (Based tools) [] (run_lines tools w)
    → Safe tools [] (run_lines tools w)
unfolding run_lines
run-safe tools opens w i based =
    each-append (NoOutsider tools) [] (start w) (groups tools w (start w) [] 1 w.events)
    (plain tools [] (start w) (all-map Beginning NoAccept begins-plain (start w) (start-begins w)))
    (groups-safe tools opens w i (start w) [] 1 w.events i.events (start-inv tools w)
    (all-map Beginning (Earlier 1) begins-earlier (start w) (start-begins w)) (start-bad tools w)
    (each-split (Based tools) [] (start w) (groups tools w (start w) [] 1 w.events) based).1)

private-based : (tools : Tools) (lines : List Line) → private tools lines ≡ true → Each (Based tools) [] lines
unfolding private
private-based tools lines e =
    based-each tools [] lines (and_parts (each_line (based_line tools) [] lines) (not (passes_on tools lines)) e).0

pub outsiders-refused : (tools : Tools) → Opens tools → (w : Schedule) → IsSchedule w
    → private tools (run_lines tools w) ≡ true → RefusesOutsiders tools [] (transcript tools w)
unfolding transcript end_line
outsiders-refused tools opens w i e =
    refuses-outsiders tools [] (run_lines tools w ++ end_line tools (length w.events) (run_lines tools w) ∷ [])
    (each-append (NoOutsider tools) [] (run_lines tools w) (end_line tools (length w.events) (run_lines tools w) ∷ [])
    (run-safe tools opens w i (private-based tools (run_lines tools w) e)) (tt, tt))
