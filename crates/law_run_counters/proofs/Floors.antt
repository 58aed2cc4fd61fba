-- Each floor line of a run is followed by the accept line for which it is stored, or by the stop or failure that cut
-- its event.
use Rattle.std.proofs.Common.{◌≡◌, ℕ, suc, zero-lt-suc, suc-le-suc, ◌+◌, min, Bool, true, false, cond, List, [], ◌∷◌, ◌++◌, map, filter, length, Option, Some, None, option_map, option_to_list, nat_le, flat_map, refl, sym, subst, arith, append_assoc}
use Rattle.std.proofs.lemmas.Bool.{false≢true}
use Rattle.std.specs.List.{AllByRecursion, Any}
use Rattle.zb_model.specs.Data.{Bytes, Layer, Nwk, Aps, Term, Move, Active, Edit, Reserve, Floor, Place, Reason, Down, WrongState, Task, Received, DoRoll}
use Rattle.zb_model.specs.Lines.{Line, Declared, GivenNet, GivenLink, Counter, Changed, Accept, Seal, Stopped, DownReset, DownDisk, Boot}
use Rattle.zb_model.specs.State.{greatest_counter, NodeState}
use Rattle.zb_model.specs.Tools.{Tools}
use Rattle.zb_model.specs.Rules.{Plan, Setting}
use Rattle.zb_model.specs.Answer.{Answer, Counting, answer_by, plan_of, counting_of, edits_of, reserve_edit, floor_edit, start_edit, move_edits, changes, moves_of, stored_floor, floor_for, answer}
use Rattle.zb_model.specs.Readings.{state_of, is_up, air}
use Rattle.zb_model.specs.Play.{Schedule, Event, Own, RollOver, Deliver, Reset, PowerOn, ShowRecord, ArmStop, ArmFail, InjectBytes, ForgeNet, ForgeNetAps, ForgeOpen, Step, Disk, Armed, NotArmed, StopAfter, FailAt, Calls, BootCalls, setting_of, start, disk_of, with_disk, falls, stands, calls_for, leaves_both, commit_lines, refuse_lines, send_lines, stored_lines, told_lines, group_of, cut_of, fallen_line, answer_step, boot_step, refused_step, task_step, deliver_step, frame_at, supply, forged_net, forged_both, forged_open, step_by, step, groups}
use Rattle.zb_model.specs.Transcript.{run_lines, transcript, end_line}
use Rattle.law_run.specs.Opening.{Opens}
use Rattle.law_run.proofs.FreshLines.{all-append, all-map}
use Rattle.law_run.proofs.Judged.{AcceptsFit, plan-accepts}
use Rattle.law_run.proofs.Sound.{sound}
use Rattle.law_run_counters.specs.Floors.{IsFor, FloorLine, FloorsAreFor, IsOfTerm, FloorOf}
use Rattle.law_run_counters.proofs.Calls.{floor_list, own_floors, floors-own}
use Rattle.law_run_counters.proofs.Events.{IsStart, start-are}

-- Lines before others

any-first : {X : Type 0} (P : X → Type 0) (x : X) (xs : List X) → P x → Any P (x ∷ xs)
any-first P x xs p = (0, x, zero-lt-suc (length xs), refl, p)

any-later : {X : Type 0} (P : X → Type 0) (x : X) (xs : List X) → Any P xs → Any P (x ∷ xs)
any-later P x xs a = (suc a.0, a.1, suc-le-suc a.2, a.3, a.4)

any-behind : {X : Type 0} (P : X → Type 0) (ys rest : List X) → Any P rest → Any P (ys ++ rest)
any-behind P [] rest a = a
any-behind P (y ∷ ys) rest a = any-later P y (ys ++ rest) (any-behind P ys rest a)

behind : (w : Schedule) (l : Line) (ys rest : List Line) → FloorLine w l rest → FloorLine w l (ys ++ rest)
behind w (Changed e n (Floor layer base source value)) ys rest a = any-behind (IsFor w e n layer base source value) ys
    rest a
behind w _ ys rest a = tt

before : (w : Schedule) (xs rest : List Line) → AllByRecursion (λ l. FloorLine w l rest) xs → FloorsAreFor w rest
    → FloorsAreFor w (xs ++ rest)
before w [] rest a b = b
before w (x ∷ xs) rest a b = (behind w x xs rest a.0, before w xs rest a.1 b)

-- Lines that aren't floors

unfoldable NoFloor : Line → Type 0
NoFloor (Changed e n (Floor layer base source value)) = ⊥
NoFloor _ = Unit {0}

plain-line : (w : Schedule) (rest : List Line) (l : Line) → NoFloor l → FloorLine w l rest
unfolding NoFloor
plain-line w rest (Changed e n (Floor layer base source value)) k = absurd k
plain-line w rest _ k = tt

plain : (w : Schedule) (xs rest : List Line) → AllByRecursion NoFloor xs → FloorsAreFor w rest
    → FloorsAreFor w (xs ++ rest)
plain w xs rest a b = before w xs rest (all-map NoFloor (λ l. FloorLine w l rest) (plain-line w rest) xs a) b

accepts-plain : (number n : ℕ) (ts : List Term) → AllByRecursion NoFloor (map (Accept number n) ts)
unfolding NoFloor
accepts-plain number n [] = tt
accepts-plain number n (t ∷ ts) = (tt, accepts-plain number n ts)

refuse-plain : (number n : ℕ) (place : Place) (r : Option Reason)
    → AllByRecursion NoFloor (refuse_lines number n place r)
unfolding NoFloor
refuse-plain number n place None = tt
refuse-plain number n place (Some r) = (tt, tt)

seals-plain : (number n : ℕ) (ts : List Term) → AllByRecursion NoFloor (map (Seal number n) ts)
unfolding NoFloor
seals-plain number n [] = tt
seals-plain number n (t ∷ ts) = (tt, seals-plain number n ts)

send-plain : (number : ℕ) (n : Option ℕ) (frame : ℕ) (b : Option Bytes)
    → AllByRecursion NoFloor (send_lines number n frame b)
unfolding NoFloor
send-plain number n frame None = tt
send-plain number n frame (Some b) = (tt, tt)

fallen-plain : (armed : Armed) (number n : ℕ) → AllByRecursion NoFloor (fallen_line armed number n)
unfolding NoFloor
fallen-plain NotArmed number n = tt
fallen-plain (StopAfter calls torn) number n = (tt, tt)
fallen-plain (FailAt call) number n = (tt, tt)

starts-plain : (l : Line) → IsStart l → NoFloor l
unfolding IsStart NoFloor
starts-plain (Declared p) b = tt
starts-plain (GivenNet n key q) b = tt
starts-plain (GivenLink n p key) b = tt
starts-plain (Counter n layer v) b = tt
starts-plain _ b = absurd b

-- The changes of an answer

abbrev EditIsFor : Schedule → ℕ → ℕ → List Line → Edit → Type 0
EditIsFor w number n rest e = FloorLine w (Changed number n e) rest

change-lines : (w : Schedule) (number n : ℕ) (rest : List Line) (es : List Edit)
    → AllByRecursion (EditIsFor w number n rest) es
    → AllByRecursion (λ l. FloorLine w l rest) (map (Changed number n) es)
change-lines w number n rest [] a = tt
change-lines w number n rest (e ∷ es) a = (a.0, change-lines w number n rest es a.1)

commit-line : (w : Schedule) (number n : ℕ) (rest : List Line) (es : List Edit)
    → AllByRecursion (λ l. FloorLine w l rest) (commit_lines number n es)
commit-line w number n rest [] = tt
commit-line w number n rest (e ∷ es) = (tt, tt)

stored : (w : Schedule) (number n : ℕ) (rest : List Line) (a : Answer)
    → AllByRecursion (EditIsFor w number n rest) a.edits
    → AllByRecursion (λ l. FloorLine w l rest) (stored_lines number n a)
unfolding stored_lines
stored w number n rest a k = all-append (λ l. FloorLine w l rest) (map (Changed number n) a.edits)
    (commit_lines number n a.edits) (change-lines w number n rest a.edits k) (commit-line w number n rest a.edits)

reserve-edits : (w : Schedule) (number n : ℕ) (rest : List Line) (layer : Layer) (o : Option ℕ)
    → AllByRecursion (EditIsFor w number n rest) (option_to_list (option_map (Reserve layer) o))
reserve-edits w number n rest layer None = tt
reserve-edits w number n rest layer (Some v) = (tt, tt)

start-edits : (w : Schedule) (number n : ℕ) (rest : List Line) (key : Bytes) (o : Option ℕ)
    → AllByRecursion (EditIsFor w number n rest) (start_edit key o)
start-edits w number n rest key None = tt
start-edits w number n rest key (Some v) = (tt, tt)

one-move : (w : Schedule) (number n : ℕ) (rest : List Line) (k : Counting) (m : Move)
    → AllByRecursion (EditIsFor w number n rest) (move_edits k m)
one-move w number n rest k (Active key) = (tt, start-edits w number n rest key k.start)
one-move w number n rest k _ = (tt, tt)

all-moves : (w : Schedule) (number n : ℕ) (rest : List Line) (k : Counting) (ms : List Move)
    → AllByRecursion (EditIsFor w number n rest) (flat_map (move_edits k) ms)
all-moves w number n rest k [] = tt
all-moves w number n rest k (m ∷ ms) = all-append (EditIsFor w number n rest) (move_edits k m)
    (flat_map (move_edits k) ms) (one-move w number n rest k m) (all-moves w number n rest k ms)

-- each term's own floor, before the accept lines of all
own-floor : (w : Schedule) (number n : ℕ) (rest : List Line) (t : Term) (b : Bool)
    → AllByRecursion (EditIsFor w number n (Accept number n t ∷ rest))
    (floor_list t (cond b (Some (min (t.counter + (setting_of w n).me.in_block) greatest_counter)) None))
own-floor w number n rest t false = tt
own-floor w number n rest t true = (
  any-first
      (IsFor w number n t.layer t.base t.source (min (t.counter + (setting_of w n).me.in_block) greatest_counter))
      (Accept number n t) rest (refl, refl, refl, refl, refl, omega arith),
  tt,
)

own : (w : Schedule) (number n : ℕ) (s : NodeState) (rest : List Line) (ts : List Term)
    → AllByRecursion (EditIsFor w number n (map (Accept number n) ts ++ rest)) (own_floors (setting_of w n) s ts)
own w number n s rest [] = tt
own w number n s rest (t ∷ ts) =
    all-append (EditIsFor w number n (Accept number n t ∷ (map (Accept number n) ts ++ rest)))
    (floor_list t (floor_for (setting_of w n) s t)) (own_floors (setting_of w n) s ts)
    (own-floor w number n (map (Accept number n) ts ++ rest) t (nat_le (stored_floor t s) t.counter))
    (all-map (EditIsFor w number n (map (Accept number n) ts ++ rest))
    (EditIsFor w number n (Accept number n t ∷ (map (Accept number n) ts ++ rest)))
    (λ e k. behind w (Changed number n e) (Accept number n t ∷ []) (map (Accept number n) ts ++ rest) k)
    (own_floors (setting_of w n) s ts) (own w number n s rest ts))

all-edits : (w : Schedule) (number n : ℕ) (s : NodeState) (p : Plan) (rest : List Line) → AcceptsFit s p.accepts
    → AllByRecursion (EditIsFor w number n (map (Accept number n) p.accepts ++ rest))
    (edits_of s (counting_of (setting_of w n) s p) p)
unfolding edits_of counting_of
all-edits w number n s p rest f =
    all-append E (reserve_edit k Nwk ++ reserve_edit k Aps)
    (flat_map (floor_edit k) p.accepts ++ flat_map (move_edits k) (filter (changes s) (moves_of p.outcome)))
    (all-append E (reserve_edit k Nwk) (reserve_edit k Aps) (reserve-edits w number n later Nwk (k.reserve Nwk))
    (reserve-edits w number n later Aps (k.reserve Aps)))
    (all-append E (flat_map (floor_edit k) p.accepts)
    (flat_map (move_edits k) (filter (changes s) (moves_of p.outcome)))
    (subst (λ es. AllByRecursion E es) (sym (floors-own (setting_of w n) s s p.accepts f))
    (own w number n s rest p.accepts))
    (all-moves w number n later k (filter (changes s) (moves_of p.outcome))))
  where
    k : Counting
    k = counting_of (setting_of w n) s p

    later : List Line
    later = map (Accept number n) p.accepts ++ rest

    E : Edit → Type 0
    E = EditIsFor w number n later

-- A group

whole : (tools : Tools) (w : Schedule) (h : List Line) (number n : ℕ) (p : Plan) (more : List Line)
    → AcceptsFit (state_of h n) p.accepts → FloorsAreFor w more
    → FloorsAreFor w
    (group_of h number n
    (answer_by tools (setting_of w n) (state_of h n) (counting_of (setting_of w n) (state_of h n) p) p) ++ more)
unfolding group_of told_lines answer_by
whole tools w h number n p more f g =
    subst (λ ls. FloorsAreFor w ls) (sym (append_assoc (stored_lines number n a) (accepts ++ tail) more))
    (subst (λ ls. FloorsAreFor w (stored_lines number n a ++ ls)) (sym (append_assoc accepts tail more))
    (before w (stored_lines number n a) (accepts ++ (tail ++ more))
    (stored w number n (accepts ++ (tail ++ more)) a (all-edits w number n (state_of h n) p (tail ++ more) f))
    (plain w accepts (tail ++ more) (accepts-plain number n p.accepts)
    (plain w tail more
    (all-append NoFloor (refuse_lines number n a.place a.refusal) _ (refuse-plain number n a.place a.refusal)
    (all-append NoFloor (map (Seal number n) a.seals) _ (seals-plain number n a.seals)
    (send-plain number (Some n) (length (air h) + 1) a.frame))) g))))
  where
    a : Answer
    a = answer_by tools (setting_of w n) (state_of h n) (counting_of (setting_of w n) (state_of h n) p) p

    accepts : List Line
    accepts = map (Accept number n) p.accepts

    tail : List Line
    tail = refuse_lines number n a.place a.refusal
        ++ (map (Seal number n) a.seals ++ send_lines number (Some n) (length (air h) + 1) a.frame)

-- a group that is cut

abbrev AllFor : Schedule → ℕ → ℕ → List Line → Type 0
AllFor w number n rest = (layer : Layer) (base : Bytes) (source value : ℕ)
    → Any (IsFor w number n layer base source value) rest

any-edit : (w : Schedule) (number n : ℕ) (rest : List Line) → AllFor w number n rest → (e : Edit)
    → EditIsFor w number n rest e
any-edit w number n rest k (Floor layer base source value) = k layer base source value
any-edit w number n rest k _ = tt

any-edits : (w : Schedule) (number n : ℕ) (rest : List Line) → AllFor w number n rest → (es : List Edit)
    → AllByRecursion (EditIsFor w number n rest) es
any-edits w number n rest k [] = tt
any-edits w number n rest k (e ∷ es) = (any-edit w number n rest k e, any-edits w number n rest k es)

some-stored : (w : Schedule) (number n : ℕ) (rest : List Line) (a : Answer) → AllFor w number n rest → (b : Bool)
    → AllByRecursion (λ l. FloorLine w l rest) (cond b (stored_lines number n a) [])
some-stored w number n rest a k true = stored w number n rest a (any-edits w number n rest k a.edits)
some-stored w number n rest a k false = tt

fallen : (w : Schedule) (armed : Armed) (calls : Calls) (number n : ℕ) (more : List Line) → falls armed calls ≡ true
    → AllFor w number n (fallen_line armed number n ++ more)
fallen w NotArmed calls number n more e = absurd (false≢true e)
fallen w (StopAfter count torn) calls number n more e =
    λ layer base source value. any-first (IsFor w number n layer base source value) (Stopped number n) more
    (refl, refl)
fallen w (FailAt call) calls number n more e =
    λ layer base source value. any-first (IsFor w number n layer base source value) (DownDisk number n) more
    (refl, refl)

cut : (w : Schedule) (armed : Armed) (calls : Calls) (number n : ℕ) (a : Answer) (more : List Line)
    → falls armed calls ≡ true → FloorsAreFor w more → FloorsAreFor w (cut_of armed calls number n a ++ more)
unfolding cut_of
cut w armed calls number n a more e g =
    subst (λ ls. FloorsAreFor w ls)
    (sym (append_assoc (cond (stands armed calls) (stored_lines number n a) []) (fallen_line armed number n) more))
    (before w (cond (stands armed calls) (stored_lines number n a) []) (fallen_line armed number n ++ more)
    (some-stored w number n (fallen_line armed number n ++ more) a (fallen w armed calls number n more e)
    (stands armed calls))
    (plain w (fallen_line armed number n) more (fallen-plain armed number n) g))

-- A step

by-test : (w : Schedule) (more : List Line) (b : Bool) (x y : Step) → (b ≡ true → FloorsAreFor w (x.lines ++ more))
    → FloorsAreFor w (y.lines ++ more) → FloorsAreFor w ((cond b x y).lines ++ more)
by-test w more true x y p q = p refl
by-test w more false x y p q = q

of-task : (tools : Tools) → Opens tools → (w : Schedule) (h : List Line) (disks : List Disk) (number n : ℕ)
    (task : Task) (more : List Line) → FloorsAreFor w more
    → FloorsAreFor w ((task_step tools counting_of w h disks number n task).lines ++ more)
unfolding task_step
of-task tools opens w h disks number n task more g =
    by-test w more (is_up h n) (answer_step h disks number n a) (refused_step disks number n Down)
    (λ up. by-test w more (falls armed calls)
    (record {
      lines = cut_of armed calls number n a;
      disks = with_disk disks n (record { armed = NotArmed; both_open = leaves_both armed calls });
    })
    (record { lines = group_of h number n a; disks = disks })
    (λ e. cut w armed calls number n a more e g)
    (whole tools w h number n p more (plan-accepts tools opens (setting_of w n) (state_of h n) (sound h n) task)
    g))
    (tt, g)
  where
    p : Plan
    p = plan_of tools (setting_of w n) (state_of h n) task

    a : Answer
    a = answer_by tools (setting_of w n) (state_of h n) (counting_of (setting_of w n) (state_of h n) p) p

    armed : Armed
    armed = (disk_of disks n).armed

    calls : Calls
    calls = calls_for h n a.edits

of-frame : (tools : Tools) → Opens tools → (w : Schedule) (h : List Line) (disks : List Disk) (number n : ℕ)
    (o : Option Bytes) (more : List Line) → FloorsAreFor w more
    → FloorsAreFor w ((deliver_step tools counting_of w h disks number n o).lines ++ more)
of-frame tools opens w h disks number n None more g = (tt, g)
of-frame tools opens w h disks number n (Some bytes) more g =
    of-task tools opens w h disks number n (Received bytes (supply w h)) more g

of-boot : (w : Schedule) (disks : List Disk) (number n : ℕ) (more : List Line) → FloorsAreFor w more
    → FloorsAreFor w ((boot_step disks number n).lines ++ more)
of-boot w disks number n more g =
    by-test w more (falls (disk_of disks n).armed (BootCalls (disk_of disks n).both_open))
    (record {
      lines = fallen_line (disk_of disks n).armed number n;
      disks =
          with_disk disks n
          (record {
            armed = NotArmed;
            both_open = leaves_both (disk_of disks n).armed (BootCalls (disk_of disks n).both_open);
          });
    })
    (record {
      lines = Boot number n
          ∷ [];
      disks = with_disk disks n (record { armed = (disk_of disks n).armed; both_open = false });
    })
    (λ e. plain w (fallen_line (disk_of disks n).armed number n) more (fallen-plain (disk_of disks n).armed number n)
    g) (tt, g)

of-step : (tools : Tools) → Opens tools → (w : Schedule) (h : List Line) (disks : List Disk) (number : ℕ)
    (event : Event) (more : List Line) → FloorsAreFor w more
    → FloorsAreFor w ((step tools w h disks number event).lines ++ more)
unfolding step step_by forged_net forged_both forged_open
of-step tools opens w h disks number (Own n task) more g = of-task tools opens w h disks number n task more g
of-step tools opens w h disks number (RollOver n) more g =
    of-task tools opens w h disks number n (DoRoll (supply w h)) more g
of-step tools opens w h disks number (Deliver frame n) more g =
    of-frame tools opens w h disks number n (frame_at h frame) more g
of-step tools opens w h disks number (Reset n) more g =
    by-test w more (is_up h n) (record { lines = DownReset number n ∷ []; disks = disks })
    (refused_step disks number n Down) (λ e. (tt, g)) (tt, g)
of-step tools opens w h disks number (PowerOn n) more g =
    by-test w more (is_up h n) (refused_step disks number n WrongState) (boot_step disks number n) (λ e. (tt, g))
    (of-boot w disks number n more g)
of-step tools opens w h disks number (ShowRecord n) more g = (tt, g)
of-step tools opens w h disks number (ArmStop n calls torn) more g = g
of-step tools opens w h disks number (ArmFail n call) more g = g
of-step tools opens w h disks number (InjectBytes bytes) more g = (tt, g)
of-step tools opens w h disks number (ForgeNet to from source key sequence counter content) more g = (tt, (tt, g))
of-step tools opens w h disks number (ForgeNetAps to from source key sequence counter label base aps_counter command)
    more g = (tt, (tt, (tt, g)))
of-step tools opens w h disks number (ForgeOpen to from source label base aps_counter command) more g = (tt, (tt, g))

of-groups : (tools : Tools) → Opens tools → (w : Schedule) (h : List Line) (disks : List Disk) (number : ℕ)
    (events : List Event) (more : List Line) → FloorsAreFor w more
    → FloorsAreFor w (groups tools w h disks number events ++ more)
unfolding groups
of-groups tools opens w h disks number [] more g = g
of-groups tools opens w h disks number (event ∷ events) more g =
    subst (λ ls. FloorsAreFor w ls) (sym (append_assoc s.lines later more))
    (of-step tools opens w h disks number event (later ++ more)
    (of-groups tools opens w (h ++ s.lines) s.disks (number + 1) events more g))
  where
    s : Step
    s = step tools w h disks number event

    later : List Line
    later = groups tools w (h ++ s.lines) s.disks (number + 1) events

pub floors-are-for : (tools : Tools) → Opens tools → (w : Schedule) → FloorsAreFor w (transcript tools w)
unfolding transcript run_lines end_line
floors-are-for tools opens w =
    subst (λ ls. FloorsAreFor w ls) (sym (append_assoc (start w) gs (last ∷ [])))
    (plain w (start w) (gs ++ last ∷ []) (all-map IsStart NoFloor starts-plain (start w) (start-are w))
    (of-groups tools opens w (start w) [] 1 w.events (last ∷ []) (tt, tt)))
  where
    gs : List Line
    gs = groups tools w (start w) [] 1 w.events

    last : Line
    last = end_line tools (length w.events) (start w ++ gs)

-- The floors of an answer

later-of : (block : ℕ) (t : Term) (ts : List Term) (e : Edit) → FloorOf block ts e → FloorOf block (t ∷ ts) e
later-of block t ts (Floor layer base source value) a = any-later (IsOfTerm block layer base source value) t ts a
later-of block t ts _ a = tt

reserve-of : (block : ℕ) (ts : List Term) (layer : Layer) (o : Option ℕ)
    → AllByRecursion (FloorOf block ts) (option_to_list (option_map (Reserve layer) o))
reserve-of block ts layer None = tt
reserve-of block ts layer (Some v) = (tt, tt)

start-of : (block : ℕ) (ts : List Term) (key : Bytes) (o : Option ℕ)
    → AllByRecursion (FloorOf block ts) (start_edit key o)
start-of block ts key None = tt
start-of block ts key (Some v) = (tt, tt)

move-of : (block : ℕ) (ts : List Term) (k : Counting) (m : Move) → AllByRecursion (FloorOf block ts) (move_edits k m)
move-of block ts k (Active key) = (tt, start-of block ts key k.start)
move-of block ts k _ = (tt, tt)

moves-of : (block : ℕ) (ts : List Term) (k : Counting) (ms : List Move)
    → AllByRecursion (FloorOf block ts) (flat_map (move_edits k) ms)
moves-of block ts k [] = tt
moves-of block ts k (m ∷ ms) = all-append (FloorOf block ts) (move_edits k m) (flat_map (move_edits k) ms)
    (move-of block ts k m) (moves-of block ts k ms)

floor-of : (block : ℕ) (t : Term) (ts : List Term) (b : Bool)
    → AllByRecursion (FloorOf block (t ∷ ts))
    (floor_list t (cond b (Some (min (t.counter + block) greatest_counter)) None))
floor-of block t ts false = tt
floor-of block t ts true = (
  any-first (IsOfTerm block t.layer t.base t.source (min (t.counter + block) greatest_counter)) t ts
      (refl, refl, refl, omega arith),
  tt,
)

floors-of : (c : Setting) (s : NodeState) (ts : List Term)
    → AllByRecursion (FloorOf c.me.in_block ts) (own_floors c s ts)
floors-of c s [] = tt
floors-of c s (t ∷ ts) =
    all-append (FloorOf c.me.in_block (t ∷ ts)) (floor_list t (floor_for c s t)) (own_floors c s ts)
    (floor-of c.me.in_block t ts (nat_le (stored_floor t s) t.counter))
    (all-map (FloorOf c.me.in_block ts) (FloorOf c.me.in_block (t ∷ ts)) (later-of c.me.in_block t ts)
    (own_floors c s ts) (floors-of c s ts))

plan-floors : (c : Setting) (s : NodeState) (p : Plan) → AcceptsFit s p.accepts
    → AllByRecursion (FloorOf c.me.in_block p.accepts) (edits_of s (counting_of c s p) p)
unfolding edits_of counting_of
plan-floors c s p f =
    all-append E (reserve_edit k Nwk ++ reserve_edit k Aps)
    (flat_map (floor_edit k) p.accepts ++ flat_map (move_edits k) (filter (changes s) (moves_of p.outcome)))
    (all-append E (reserve_edit k Nwk) (reserve_edit k Aps) (reserve-of c.me.in_block p.accepts Nwk (k.reserve Nwk))
    (reserve-of c.me.in_block p.accepts Aps (k.reserve Aps)))
    (all-append E (flat_map (floor_edit k) p.accepts)
    (flat_map (move_edits k) (filter (changes s) (moves_of p.outcome)))
    (subst (λ es. AllByRecursion E es) (sym (floors-own c s s p.accepts f)) (floors-of c s p.accepts))
    (moves-of c.me.in_block p.accepts k (filter (changes s) (moves_of p.outcome))))
  where
    k : Counting
    k = counting_of c s p

    E : Edit → Type 0
    E = FloorOf c.me.in_block p.accepts

pub answer-floors : (tools : Tools) → Opens tools → (c : Setting) (h : List Line) (n : ℕ) (task : Task)
    → AllByRecursion (FloorOf c.me.in_block (answer tools c (state_of h n) task).accepts)
    (answer tools c (state_of h n) task).edits
unfolding answer answer_by
answer-floors tools opens c h n task = plan-floors c (state_of h n) (plan_of tools c (state_of h n) task)
    (plan-accepts tools opens c (state_of h n) (sound h n) task)
