-- An event's turn: what it is in each case, what it keeps, and that it is the model's step in the condition that the
-- lines give.
use Rattle.std.proofs.Common.{◌≡◌, ℕ, Bool, true, false, if◌then◌else◌, List, [], ◌∷◌, Option, Some, None, nat_eq, eqb-true, arith, refl, sym, ap, ◌∙◌, subst}
use Rattle.std.proofs.lemmas.Bool.{false≢true}
use Rattle.std.proofs.lemmas.Bool.Decides.{nat_tests}
use Rattle.law_run_steps.proofs.Answered.{is-answered}
use Rattle.law_run_steps.proofs.Disks.{nat_eq-refl}
use Rattle.law_run_steps.proofs.Others.{boot-down, boot-up, booted, dumped, failure-armed, own-down, own-up, refused, reset-down, reset-up, stop-armed}
use Rattle.law_run_steps.specs.Conditions.{Condition, after_cut, after_cut_boot, after_fall, after_power_on, after_reset, after_storing, after_whole, calls_by, condition_of}
use Rattle.law_run_steps.specs.Steps.{ComesTo, IsAnswered, IsBooted, cut_lines, falls_at_boot, falls_on, is_of, whole_lines}
use Rattle.law_run_steps.specs.Turns.{Turn, answer_turn, boot_turn, deliver_turn, event_turn, refused_turn, task_turn, turn}
use Rattle.zb_model.specs.Answer.{Answer, answer, counting_of}
use Rattle.zb_model.specs.Data as model
use Rattle.zb_model.specs.Data.{Bytes, Edit, DoRoll, Down, NoFrame, Received, Task, WrongState}
use Rattle.zb_model.specs.Lines.{Line, Boot, DownReset}
use Rattle.zb_model.specs.Play as play
use Rattle.zb_model.specs.Play.{Disk, Event, PowerOn, Reset, Schedule, Step, answer_step, boot_step, deliver_step, fallen_line, frame_at, leaves_both, setting_of, stands, step, step_by, supply, task_step}
use Rattle.zb_model.specs.Readings.{is_up, state_of}
use Rattle.zb_model.specs.Rules.{Setting}
use Rattle.zb_model.specs.Tools.{Tools}

-- ---- what a turn is

pub task_down : (tools : Tools) (h : List Line) (x : Condition) (number n : ℕ) (task : model.Task) → x.up ≡ false
    → task_turn tools h x number n task ≡ refused_turn x number n Down
unfolding task_turn
task_down tools h x number n task off =
    ap (λ (b : Bool). if b then answer_turn h x number n (answer tools x.setting x.state task)
    else refused_turn x number n Down) off

pub task_up : (tools : Tools) (h : List Line) (x : Condition) (number n : ℕ) (task : model.Task) → x.up ≡ true
    → task_turn tools h x number n task ≡ answer_turn h x number n (answer tools x.setting x.state task)
unfolding task_turn
task_up tools h x number n task on =
    ap (λ (b : Bool). if b then answer_turn h x number n (answer tools x.setting x.state task)
    else refused_turn x number n Down) on

pub answer_whole : (h : List Line) (x : Condition) (number n : ℕ) (a : Answer) → falls_on a x ≡ false
    → answer_turn h x number n a ≡ turn (whole_lines h number n a) (after_whole a x)
unfolding answer_turn
answer_whole h x number n a missed =
    ap (λ (b : Bool). if b then turn (cut_lines x number n a) (after_cut a x)
    else turn (whole_lines h number n a) (after_whole a x)) missed

pub answer_cut : (h : List Line) (x : Condition) (number n : ℕ) (a : Answer) → falls_on a x ≡ true
    → answer_turn h x number n a ≡ turn (cut_lines x number n a) (after_cut a x)
unfolding answer_turn
answer_cut h x number n a fell =
    ap (λ (b : Bool). if b then turn (cut_lines x number n a) (after_cut a x)
    else turn (whole_lines h number n a) (after_whole a x)) fell

pub boot_whole : (x : Condition) (number n : ℕ) → falls_at_boot x ≡ false
    → boot_turn x number n ≡ turn (Boot number n ∷ []) (after_power_on x)
unfolding boot_turn
boot_whole x number n missed =
    ap (λ (b : Bool). if b then turn (fallen_line x.disk.armed number n) (after_cut_boot x)
    else turn (Boot number n ∷ []) (after_power_on x)) missed

pub boot_cut : (x : Condition) (number n : ℕ) → falls_at_boot x ≡ true
    → boot_turn x number n ≡ turn (fallen_line x.disk.armed number n) (after_cut_boot x)
unfolding boot_turn
boot_cut x number n fell =
    ap (λ (b : Bool). if b then turn (fallen_line x.disk.armed number n) (after_cut_boot x)
    else turn (Boot number n ∷ []) (after_power_on x)) fell

pub reset_by : (tools : Tools) (w : Schedule) (h : List Line) (x : Condition) (number n : ℕ) (b : Bool) → x.up ≡ b
    → event_turn tools w h x number (Reset n) ≡ (if b then turn (DownReset number n ∷ []) (after_reset x)
    else refused_turn x number n Down)
unfolding event_turn
reset_by tools w h x number n b e =
    ap (λ (up : Bool). if up then turn (DownReset number n ∷ []) (after_reset x) else refused_turn x number n Down) e

pub boot_by : (tools : Tools) (w : Schedule) (h : List Line) (x : Condition) (number n : ℕ) (b : Bool) → x.up ≡ b
    → event_turn tools w h x number (PowerOn n) ≡ (if b then refused_turn x number n WrongState
    else boot_turn x number n)
unfolding event_turn
boot_by tools w h x number n b e =
    ap (λ (up : Bool). if up then refused_turn x number n WrongState else boot_turn x number n) e

-- ---- the setting stays

if_setting : (b : Bool) (t u : Turn) (c : Setting) → t.left.setting ≡ c → u.left.setting ≡ c
    → (if b then t else u).left.setting ≡ c
if_setting true t u c first second = first
if_setting false t u c first second = second

cut_setting : (b both : Bool) (es : List Edit) (x : Condition)
    → (if b then after_fall both (after_storing es x) else after_fall both x).setting ≡ x.setting
cut_setting true both es x = refl
cut_setting false both es x = refl

answer_setting : (h : List Line) (x : Condition) (number n : ℕ) (a : Answer)
    → (answer_turn h x number n a).left.setting ≡ x.setting
unfolding answer_turn
answer_setting h x number n a =
    let calls = calls_by x.commits a.edits in
    if_setting (falls_on a x)
    (turn (cut_lines x number n a) (after_cut a x))
    (turn (whole_lines h number n a) (after_whole a x)) x.setting
    (cut_setting (stands x.disk.armed calls) (leaves_both x.disk.armed calls) a.edits x) refl

task_setting : (tools : Tools) (h : List Line) (x : Condition) (number n : ℕ) (task : Task)
    → (task_turn tools h x number n task).left.setting ≡ x.setting
unfolding task_turn
task_setting tools h x number n task =
    if_setting x.up (answer_turn h x number n (answer tools x.setting x.state task)) (refused_turn x number n Down)
    x.setting (answer_setting h x number n (answer tools x.setting x.state task)) refl

deliver_setting : (tools : Tools) (w : Schedule) (h : List Line) (x : Condition) (number n : ℕ) (found : Option Bytes)
    → (deliver_turn tools w h x number n found).left.setting ≡ x.setting
deliver_setting tools w h x number n None = refl
deliver_setting tools w h x number n (Some bytes) = task_setting tools h x number n (Received bytes (supply w h))

boot_setting : (x : Condition) (number n : ℕ) → (boot_turn x number n).left.setting ≡ x.setting
unfolding boot_turn
boot_setting x number n =
    if_setting (falls_at_boot x)
    (turn (fallen_line x.disk.armed number n) (after_cut_boot x))
    (turn (Boot number n ∷ []) (after_power_on x))
    x.setting refl refl

pub left_setting : (tools : Tools) (w : Schedule) (h : List Line) (x : Condition) (number : ℕ) (event : Event)
    → (event_turn tools w h x number event).left.setting ≡ x.setting
unfolding event_turn
left_setting tools w h x number (play.Own n task) = task_setting tools h x number n task
left_setting tools w h x number (play.RollOver n) = task_setting tools h x number n (DoRoll (supply w h))
left_setting tools w h x number (play.Deliver frame n) = deliver_setting tools w h x number n (frame_at h frame)
left_setting tools w h x number (play.Reset n) =
    if_setting x.up
    (turn (DownReset number n ∷ [])
    (after_reset x)) (refused_turn x number n Down) x.setting refl refl
left_setting tools w h x number (play.PowerOn n) =
    if_setting x.up (refused_turn x number n WrongState) (boot_turn x number n) x.setting refl
    (boot_setting x number n)
left_setting tools w h x number (play.ShowRecord n) = refl
left_setting tools w h x number (play.ArmStop n calls torn) = refl
left_setting tools w h x number (play.ArmFail n call) = refl
left_setting tools w h x number (play.InjectBytes bytes) = refl
left_setting tools w h x number (play.ForgeNet to from source key sequence counter content) = refl
left_setting tools w h x number (play.ForgeNetAps to from source key sequence counter label base aps_counter
    command) = refl
left_setting tools w h x number (play.ForgeOpen to from source label base aps_counter command) = refl

-- ---- the step of an event is its turn

-- The step is this turn.
abbrev pub Comes : Schedule → List Line → ℕ → Step → Turn → Type 0
Comes w h n g t = ComesTo w h n g t.lines t.left

comes_as : (w : Schedule) (h lines : List Line) (n : ℕ) (g : Step) (y : Condition) (t : Turn) → t ≡ turn lines y
    → ComesTo w h n g lines y → Comes w h n g t
comes_as w h lines n g y t same comes = subst (λ (u : Turn). Comes w h n g u) (sym same) comes

answer_comes : (w : Schedule) (h : List Line) (ds : List Disk) (number n : ℕ) (a : Answer) (g : Step)
    → g ≡ answer_step h ds number n a → Comes w h n g (answer_turn h (condition_of w h ds n) number n a)
answer_comes w h ds number n a g e = by_fall (falls_on a x) refl
  where
    x : Condition
    x = condition_of w h ds n

    is : IsAnswered w h number n a x g
    is = is-answered w h ds number n a g e

    by_fall : (b : Bool) → falls_on a x ≡ b → Comes w h n g (answer_turn h x number n a)
    by_fall true fell =
        comes_as w h (cut_lines x number n a) n g (after_cut a x) (answer_turn h x number n a)
        (answer_cut h x number n a fell) (is.cut fell)
    by_fall false missed =
        comes_as w h (whole_lines h number n a) n g (after_whole a x) (answer_turn h x number n a)
        (answer_whole h x number n a missed) (is.whole missed)

own_is : (tools : Tools) (w : Schedule) (h : List Line) (ds : List Disk) (number n : ℕ) (task : Task)
    → step tools w h ds number (play.Own n task) ≡ task_step tools counting_of w h ds number n task
unfolding step step_by
own_is tools w h ds number n task = refl

task_comes : (tools : Tools) (w : Schedule) (h : List Line) (ds : List Disk) (number n : ℕ) (task : Task)
    → Comes w h n (task_step tools counting_of w h ds number n task)
    (task_turn tools h (condition_of w h ds n) number n task)
task_comes tools w h ds number n task = by_power (is_up h n) refl
  where
    x : Condition
    x = condition_of w h ds n

    g : Step
    g = task_step tools counting_of w h ds number n task

    a : Answer
    a = answer tools (setting_of w n) (state_of h n) task

    by_power : (b : Bool) → is_up h n ≡ b → Comes w h n g (task_turn tools h x number n task)
    by_power true up =
        subst (λ (t : Turn). Comes w h n g t) (sym (task_up tools h x number n task up))
        (answer_comes w h ds number n a g (sym (own_is tools w h ds number n task) ∙ own-up tools w h ds number n
        task up))
    by_power false down =
        subst (λ (t : Turn). Comes w h n g t) (sym (task_down tools h x number n task down))
        (refused w h ds number n Down g
        (sym (own_is tools w h ds number n task) ∙ own-down tools w h ds number n task down))

deliver_comes : (tools : Tools) (w : Schedule) (h : List Line) (ds : List Disk) (number n : ℕ) (found : Option Bytes)
    → Comes w h n (deliver_step tools counting_of w h ds number n found)
    (deliver_turn tools w h (condition_of w h ds n) number n found)
deliver_comes tools w h ds number n None =
    refused w h ds number n (if is_up h n then NoFrame else Down)
    (deliver_step tools counting_of w h ds number n None) refl
deliver_comes tools w h ds number n (Some bytes) = task_comes tools w h ds number n (Received bytes (supply w h))

boot_comes : (w : Schedule) (h : List Line) (ds : List Disk) (number n : ℕ) (g : Step) → g ≡ boot_step ds number n
    → is_up h n ≡ false → Comes w h n g (boot_turn (condition_of w h ds n) number n)
boot_comes w h ds number n g e down = by_fall (falls_at_boot x) refl
  where
    x : Condition
    x = condition_of w h ds n

    is : IsBooted w h number n x g
    is = booted w h ds number n g e down

    by_fall : (b : Bool) → falls_at_boot x ≡ b → Comes w h n g (boot_turn x number n)
    by_fall true fell =
        comes_as w h (fallen_line x.disk.armed number n) n g (after_cut_boot x) (boot_turn x number n)
        (boot_cut x number n fell) (is.cut fell)
    by_fall false missed =
        comes_as w h (Boot number n ∷ []) n g (after_power_on x) (boot_turn x number n)
        (boot_whole x number n missed) (is.whole missed)

reset_comes : (tools : Tools) (w : Schedule) (h : List Line) (ds : List Disk) (number n : ℕ)
    → Comes w h n (step tools w h ds number (play.Reset n))
    (event_turn tools w h (condition_of w h ds n) number (play.Reset n))
reset_comes tools w h ds number n = by_power (is_up h n) refl
  where
    x : Condition
    x = condition_of w h ds n

    g : Step
    g = step tools w h ds number (play.Reset n)

    by_power : (b : Bool) → is_up h n ≡ b → Comes w h n g (event_turn tools w h x number (play.Reset n))
    by_power true up =
        subst (λ (t : Turn). Comes w h n g t) (sym (reset_by tools w h x number n true up)) (reset-up tools w h ds
        number n
        up)
    by_power false down =
        subst (λ (t : Turn). Comes w h n g t) (sym (reset_by tools w h x number n false down))
        (refused w h ds number n Down g (reset-down tools w h ds number n down))

power_comes : (tools : Tools) (w : Schedule) (h : List Line) (ds : List Disk) (number n : ℕ)
    → Comes w h n (step tools w h ds number (play.PowerOn n))
    (event_turn tools w h (condition_of w h ds n) number (play.PowerOn n))
power_comes tools w h ds number n = by_power (is_up h n) refl
  where
    x : Condition
    x = condition_of w h ds n

    g : Step
    g = step tools w h ds number (play.PowerOn n)

    by_power : (b : Bool) → is_up h n ≡ b → Comes w h n g (event_turn tools w h x number (play.PowerOn n))
    by_power true up =
        subst (λ (t : Turn). Comes w h n g t) (sym (boot_by tools w h x number n true up))
        (refused w h ds number n WrongState g (boot-up tools w h ds number n up))
    by_power false down =
        subst (λ (t : Turn). Comes w h n g t) (sym (boot_by tools w h x number n false down))
        (boot_comes w h ds number n g (boot-down tools w h ds number n down) down)

-- an event of the node n, by what it is
abbrev pub StepComes : Tools → Schedule → List Line → List Disk → ℕ → ℕ → Event → Type 0
StepComes tools w h ds number n event =
    Comes w h n (step tools w h ds number event) (event_turn tools w h (condition_of w h ds n) number event)

own_comes : (tools : Tools) (w : Schedule) (h : List Line) (ds : List Disk) (number n : ℕ) (task : Task)
    → StepComes tools w h ds number n (play.Own n task)
unfolding step step_by event_turn
own_comes tools w h ds number n task = task_comes tools w h ds number n task

roll_comes : (tools : Tools) (w : Schedule) (h : List Line) (ds : List Disk) (number n : ℕ)
    → StepComes tools w h ds number n (play.RollOver n)
unfolding step step_by event_turn
roll_comes tools w h ds number n = task_comes tools w h ds number n (DoRoll (supply w h))

frame_comes : (tools : Tools) (w : Schedule) (h : List Line) (ds : List Disk) (number frame n : ℕ)
    → StepComes tools w h ds number n (play.Deliver frame n)
unfolding step step_by event_turn
frame_comes tools w h ds number frame n = deliver_comes tools w h ds number n (frame_at h frame)

dump_comes : (tools : Tools) (w : Schedule) (h : List Line) (ds : List Disk) (number n : ℕ)
    → StepComes tools w h ds number n (play.ShowRecord n)
unfolding event_turn
dump_comes tools w h ds number n = dumped tools w h ds number n

stop_comes : (tools : Tools) (w : Schedule) (h : List Line) (ds : List Disk) (number n calls : ℕ) (torn : Bytes)
    → StepComes tools w h ds number n (play.ArmStop n calls torn)
unfolding event_turn
stop_comes tools w h ds number n calls torn = stop-armed tools w h ds number n calls torn

failure_comes : (tools : Tools) (w : Schedule) (h : List Line) (ds : List Disk) (number n call : ℕ)
    → StepComes tools w h ds number n (play.ArmFail n call)
unfolding event_turn
failure_comes tools w h ds number n call = failure-armed tools w h ds number n call

pub step_comes : (tools : Tools) (w : Schedule) (h : List Line) (ds : List Disk) (number n : ℕ) (event : Event)
    → is_of n event ≡ true → StepComes tools w h ds number n event
step_comes tools w h ds number n (play.Own m task) is =
    subst (λ k. StepComes tools w h ds number n (play.Own k task)) (sym (eqb-true m n is)) (own_comes tools w h ds
    number n task)
step_comes tools w h ds number n (play.RollOver m) is =
    subst (λ k. StepComes tools w h ds number n (play.RollOver k)) (sym (eqb-true m n is)) (roll_comes tools w h ds
    number n)
step_comes tools w h ds number n (play.Deliver frame m) is =
    subst (λ k. StepComes tools w h ds number n (play.Deliver frame k)) (sym (eqb-true m n is))
    (frame_comes tools w h ds number frame n)
step_comes tools w h ds number n (play.Reset m) is =
    subst (λ k. StepComes tools w h ds number n (play.Reset k)) (sym (eqb-true m n is)) (reset_comes tools w h ds
    number n)
step_comes tools w h ds number n (play.PowerOn m) is =
    subst (λ k. StepComes tools w h ds number n (play.PowerOn k)) (sym (eqb-true m n is)) (power_comes tools w h ds
    number n)
step_comes tools w h ds number n (play.ShowRecord m) is =
    subst (λ k. StepComes tools w h ds number n (play.ShowRecord k)) (sym (eqb-true m n is)) (dump_comes tools w h
    ds number n)
step_comes tools w h ds number n (play.ArmStop m calls torn) is =
    subst (λ k. StepComes tools w h ds number n (play.ArmStop k calls torn)) (sym (eqb-true m n is))
    (stop_comes tools w h ds number n calls torn)
step_comes tools w h ds number n (play.ArmFail m call) is =
    subst (λ k. StepComes tools w h ds number n (play.ArmFail k call)) (sym (eqb-true m n is))
    (failure_comes tools w h ds number n call)
step_comes tools w h ds number n (play.InjectBytes bytes) is = absurd (false≢true is)
step_comes tools w h ds number n (play.ForgeNet to from source key sequence counter content) is = absurd (false≢true
    is)
step_comes tools w h ds number n (play.ForgeNetAps to from source key sequence counter label base aps_counter
    command) is =
    absurd (false≢true is)
step_comes tools w h ds number n (play.ForgeOpen to from source label base aps_counter command) is = absurd
    (false≢true is)

-- an event of one node is not of another
other_eqb : (m n q : ℕ) → nat_eq m n ≡ true → nat_eq q n ≡ false → nat_eq m q ≡ false
other_eqb m n q same other = grind (arith, nat_tests, same, other)

pub other_node : (n q : ℕ) (event : Event) → is_of n event ≡ true → nat_eq q n ≡ false → is_of q event ≡ false
other_node n q (play.Own m task) is other = other_eqb m n q is other
other_node n q (play.RollOver m) is other = other_eqb m n q is other
other_node n q (play.Deliver frame m) is other = other_eqb m n q is other
other_node n q (play.Reset m) is other = other_eqb m n q is other
other_node n q (play.PowerOn m) is other = other_eqb m n q is other
other_node n q (play.ShowRecord m) is other = other_eqb m n q is other
other_node n q (play.ArmStop m calls torn) is other = other_eqb m n q is other
other_node n q (play.ArmFail m call) is other = other_eqb m n q is other
other_node n q (play.InjectBytes bytes) is other = refl
other_node n q (play.ForgeNet to from source key sequence counter content) is other = refl
other_node n q (play.ForgeNetAps to from source key sequence counter label base aps_counter command) is other = refl
other_node n q (play.ForgeOpen to from source label base aps_counter command) is other = refl

-- ---- an event of the outside

not_none : (n : ℕ) → nat_eq n n ≡ false → ⊥
not_none n e = false≢true (sym e ∙ nat_eq-refl n)

-- It reads no disk, and leaves them.
pub record IsOutside (tools : Tools) (w : Schedule) (h : List Line) (ds : List Disk) (number : ℕ) (event : Event) :
    Type 0 where
  pub lines : (step tools w h [] number event).lines ≡ (step tools w h ds number event).lines
  pub disks : (step tools w h ds number event).disks ≡ ds

pub outside_step : (tools : Tools) (w : Schedule) (h : List Line) (ds : List Disk) (number : ℕ) (event : Event)
    → ((q : ℕ) → is_of q event ≡ false) → IsOutside tools w h ds number event
unfolding step step_by
outside_step tools w h ds number (play.Own n task) none = absurd (not_none n (none n))
outside_step tools w h ds number (play.RollOver n) none = absurd (not_none n (none n))
outside_step tools w h ds number (play.Deliver frame n) none = absurd (not_none n (none n))
outside_step tools w h ds number (play.Reset n) none = absurd (not_none n (none n))
outside_step tools w h ds number (play.PowerOn n) none = absurd (not_none n (none n))
outside_step tools w h ds number (play.ShowRecord n) none = absurd (not_none n (none n))
outside_step tools w h ds number (play.ArmStop n calls torn) none = absurd (not_none n (none n))
outside_step tools w h ds number (play.ArmFail n call) none = absurd (not_none n (none n))
outside_step tools w h ds number (play.InjectBytes bytes) none = record { lines = refl; disks = refl }
outside_step tools w h ds number (play.ForgeNet to from source key sequence counter content) none =
    record { lines = refl; disks = refl }
outside_step tools w h ds number
    (play.ForgeNetAps to from source key sequence counter label base aps_counter command) none =
    record { lines = refl; disks = refl }
outside_step tools w h ds number (play.ForgeOpen to from source label base aps_counter command) none =
    record { lines = refl; disks = refl }
