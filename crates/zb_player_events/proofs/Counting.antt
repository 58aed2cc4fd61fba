-- How many device calls an event of a node makes.
use Rattle.std.proofs.Common.{◌≡◌, ℕ, zero, suc, ◌+◌, ◌≤◌, Bool, true, false, cond, List, Option, Some, None, option_map, is_some, Result, Ok, Err, OnOk, refl, sym, ap, ◌∙◌, subst, arith}
use Rattle.std.proofs.lemmas.Bool.{false≢true}
use Rattle.zb_base.specs.Outside.{risen}
use Rattle.zb_base.specs.declared.key.Key.{Key}
use Rattle.zb_disk.specs.Memory.{Medium}
use Rattle.zb_armed_host.specs.Arms.{IsArming, calls_after, fallen_calls}
use Rattle.zb_armed_host.specs.declared.fall.Fall.{Fall}
use Rattle.zb_player_events.proofs.Going.{power_of}
use Rattle.zb_player_events.specs.Told.{Before, Calls, counted_on}
use Rattle.zb_player_events.specs.declared.ledger.Ledger.{Ledger}
use Rattle.zb_core.specs.CorePlans.{CorePlan}
use Rattle.zb_model.specs.Answer.{answer}
use Rattle.zb_model.specs.Data as model
use Rattle.zb_model.specs.Lines.{Line}
use Rattle.zb_model.specs.Play as play
use Rattle.zb_model.specs.Play.{Armed, NotArmed, StopAfter, FailAt, NoCalls, EntryCalls, RecordCalls, BootCalls, PowerOn, Schedule, count_of, falls, frame_at, supply}
use Rattle.zb_model_real.specs.Real.{real}
use Rattle.zb_player_events.specs.Calls.{event_calls, fallen_call, frame_calls, made_of, task_calls}
use Rattle.law_run_steps.specs.Conditions.{Condition, calls_by}
use Rattle.zb_player_node.specs.Answers.{HasBooted, HasHandled}
use Rattle.zb_player_node.specs.Values.{NodeValue}
use Rattle.zb_player_node.specs.declared.node.Handled.{Handled}
use Rattle.zb_player_node.specs.declared.node.Handled.TheVariants.{Whole, Cut}

pub ok_so : {T E : Type 0} (r : Result T E) (P : Type 0) → P → OnOk r P
ok_so (Ok x) P p = p
ok_so (Err e) P p = tt

-- ---- counts

all_counted : (count : ℕ) (calls : play.Calls) → calls_after count calls ≡ counted_on count (count_of calls)
all_counted count NoCalls = refl
all_counted count EntryCalls = refl
all_counted count RecordCalls = refl
all_counted count (BootCalls true) = refl
all_counted count (BootCalls false) = refl

-- nothing falls on them
whole_made : (armed : Armed) (calls : play.Calls) → falls armed calls ≡ false → made_of armed calls ≡ count_of calls
unfolding made_of
whole_made armed calls e = ap (λ b. cond b (fallen_call armed) (count_of calls)) e

pub whole_counted : (armed : Armed) (calls : play.Calls) (old new : ℕ) → falls armed calls ≡ false → new
    ≡ calls_after old calls → new ≡ counted_on old (made_of armed calls)
whole_counted armed calls old new e is = is ∙ all_counted old calls ∙ ap (counted_on old)
    (sym (whole_made armed calls e))

-- what is armed falls on one of them
some_counted : (count : ℕ) (made : ℕ) → 1 ≤ made → risen count made ≡ counted_on count made
some_counted count zero one = absurd (omega (arith, one))
some_counted count (suc made) one = refl

fallen_counted : (count : ℕ) (armed : Armed) (calls : play.Calls) → falls armed calls ≡ true → IsArming armed
    → risen count (fallen_calls armed) ≡ counted_on count (fallen_call armed)
fallen_counted count NotArmed calls e arming = absurd (false≢true e)
fallen_counted count (StopAfter k torn) calls e arming = some_counted count (k + 1) (omega arith)
fallen_counted count (FailAt k) calls e arming = some_counted count k arming

cut_made : (armed : Armed) (calls : play.Calls) → falls armed calls ≡ true → made_of armed calls ≡ fallen_call armed
unfolding made_of
cut_made armed calls e = ap (λ b. cond b (fallen_call armed) (count_of calls)) e

pub cut_counted : (armed : Armed) (calls : play.Calls) (old new : ℕ) → falls armed calls ≡ true → IsArming armed → new
    ≡ risen old (fallen_calls armed) → new ≡ counted_on old (made_of armed calls)
cut_counted armed calls old new e arming is = is ∙ fallen_counted old armed calls e arming ∙ ap (counted_on old)
    (sym (cut_made armed calls e))

-- ---- tasks

while_up : (b : Bool) (made old new : ℕ) → b ≡ true → new ≡ counted_on old made → new ≡ counted_on old (cond b made 0)
while_up b made old new up is = is ∙ ap (λ x. counted_on old (cond x made 0)) (sym up)

while_down : (b : Bool) (made old : ℕ) → b ≡ false → old ≡ counted_on old (cond b made 0)
while_down b made old down = ap (λ x. counted_on old (cond x made 0)) (sym down)

pub down_calls : (w : Schedule) (h : List Line) (x : Condition) (latest n : ℕ) (task : model.Task) (k : Ledger)
    (node : NodeValue) (m : Medium) → Before w h x latest n k node m → false ≡ is_some node.machine
    → Calls (task_calls real x task) m m
down_calls w h x latest n task k node m before off =
    while_down (x.up) (made_of x.disk.armed (calls_by x.commits (answer real x.setting x.state task).edits))
    m.calls (power_of w h x latest n k node m false before off)

pub whole_calls : (w : Schedule) (h : List Line) (x : Condition) (latest n : ℕ) (task : model.Task)
    (result : Option Handled) (p : CorePlan) (k : Ledger)
    (node after : NodeValue) (m m' : Medium) → Before w h x latest n k node m → true ≡ is_some node.machine
    → result ≡ Some Whole
    → HasHandled task node m result p after m' → Calls (task_calls real x task) m m'
whole_calls w h x latest n task result p k node after m m' before on made handled =
    let calls = calls_by x.commits (answer real x.setting x.state task).edits in
    let how : HasHandled task node m (Some Whole) p after m' =
    subst (λ (r : Option Handled). HasHandled task node m r p after m') made handled in
    let was = how x latest before.is_in before.few in
    while_up (x.up) (made_of x.disk.armed calls) m.calls m'.calls
    (power_of w h x latest n k node m true before on)
    (whole_counted x.disk.armed calls m.calls m'.calls was.missed was.calls)

pub cut_calls : (w : Schedule) (h : List Line) (x : Condition) (latest n : ℕ) (task : model.Task)
    (result : Option Handled) (p : CorePlan) (fall : Fall) (k : Ledger)
    (node after : NodeValue) (m m' : Medium) → Before w h x latest n k node m → true ≡ is_some node.machine
    → result ≡ Some (Cut fall)
    → HasHandled task node m result p after m' → Calls (task_calls real x task) m m'
cut_calls w h x latest n task result p fall k node after m m' before on made handled =
    let calls = calls_by x.commits (answer real x.setting x.state task).edits in
    let how : HasHandled task node m (Some (Cut fall)) p after m' =
    subst (λ (r : Option Handled). HasHandled task node m r p after m') made handled in
    let was = how x latest before.is_in before.few in
    while_up (x.up) (made_of x.disk.armed calls) m.calls m'.calls
    (power_of w h x latest n k node m true before on)
    (cut_counted x.disk.armed calls m.calls m'.calls was.fell before.is_in.arming was.calls)

-- ---- boots

pub no_boot_calls : (w : Schedule) (h : List Line) (x : Condition) (latest n : ℕ) (k : Ledger) (node : NodeValue)
    (m : Medium) → Before w h x latest n k node m → true ≡ is_some node.machine
    → Calls (event_calls real w h x (PowerOn n)) m m
unfolding event_calls
no_boot_calls w h x latest n k node m before on =
    ap (λ b. counted_on m.calls (cond b 0 (made_of x.disk.armed (BootCalls x.disk.both_open))))
    (sym (power_of w h x latest n k node m true before on))

at_boot : (b : Bool) (made old new : ℕ) → b ≡ false → new ≡ counted_on old made → new ≡ counted_on old (cond b 0 made)
at_boot b made old new down is = is ∙ ap (λ x. counted_on old (cond x 0 made)) (sym down)

pub boot_calls : (w : Schedule) (h : List Line) (x : Condition) (latest n : ℕ) (result : Option Fall) (k : Ledger)
    (node after : NodeValue) (m m' : Medium) → Before w h x latest n k node m → false ≡ is_some node.machine
    → result ≡ None → HasBooted node m result after m'
    → Calls (event_calls real w h x (PowerOn n)) m m'
unfolding event_calls
boot_calls w h x latest n result k node after m m' before off made booting =
    let down = power_of w h x latest n k node m false before off in
    let how : HasBooted node m None after m' = subst (λ (r : Option Fall). HasBooted node m r after m') made booting in
    let was = how x latest before.is_in down in
    at_boot (x.up) (made_of x.disk.armed (BootCalls x.disk.both_open)) m.calls m'.calls down
    (whole_counted x.disk.armed (BootCalls x.disk.both_open) m.calls m'.calls was.missed was.calls)

pub cut_boot_calls : (w : Schedule) (h : List Line) (x : Condition) (latest n : ℕ) (result : Option Fall)
    (fall : Fall) (k : Ledger) (node after : NodeValue) (m m' : Medium) → Before w h x latest n k node m
    → false ≡ is_some node.machine → result ≡ Some fall → HasBooted node m result after m'
    → Calls (event_calls real w h x (PowerOn n)) m m'
unfolding event_calls
cut_boot_calls w h x latest n result fall k node after m m' before off made booting =
    let down = power_of w h x latest n k node m false before off in
    let how : HasBooted node m (Some fall) after m' = subst (λ (r : Option Fall). HasBooted node m r after m') made
    booting in
    let was = how x latest before.is_in down in
    at_boot (x.up) (made_of x.disk.armed (BootCalls x.disk.both_open)) m.calls m'.calls down
    (cut_counted x.disk.armed (BootCalls x.disk.both_open) m.calls m'.calls was.fell before.is_in.arming was.calls)

-- ---- the event that it is

pub by_event_calls : (w : Schedule) (h : List Line) (x : Condition) (this event : play.Event) (old new : Medium)
    → this ≡ event
    → Calls (event_calls real w h x this) old new → Calls (event_calls real w h x event) old new
by_event_calls w h x this event old new same made =
    subst (λ (e : play.Event). Calls (event_calls real w h x e) old new) same made

-- an event that makes none
pub none_called : (w : Schedule) (h : List Line) (x : Condition) (this event : play.Event) (old new : Medium)
    → event_calls real w h x this ≡ 0 → this ≡ event → Calls 0 old new → Calls (event_calls real w h x event) old new
none_called w h x this event old new none same is = by_event_calls w h x this event old new same
    (is ∙ ap (counted_on old.calls) (sym none))

pub own_calls : (w : Schedule) (h : List Line) (x : Condition) (n : ℕ) (task : model.Task) (event : play.Event)
    (old new : Medium) → play.Own n task ≡ event → Calls (task_calls real x task) old new
    → Calls (event_calls real w h x event) old new
unfolding event_calls
own_calls w h x n task event old new same calls = by_event_calls w h x (play.Own n task) event old new same calls

pub roll_calls : (w : Schedule) (h : List Line) (x : Condition) (n : ℕ) (draw : Option Key) (event : play.Event)
    (old new : Medium) → play.RollOver n ≡ event → option_map (λ (key : Key). key.0) draw ≡ supply w h
    → Calls (task_calls real x (model.DoRoll (option_map (λ (key : Key). key.0) draw))) old new
    → Calls (event_calls real w h x event) old new
unfolding event_calls
roll_calls w h x n draw event old new same is calls =
    by_event_calls w h x (play.RollOver n) event old new same
    (subst (λ (d : Option model.Bytes). Calls (task_calls real x (model.DoRoll d)) old new) is calls)

pub deliver_calls : (w : Schedule) (h : List Line) (x : Condition) (n frame : ℕ) (event : play.Event)
    (old new : Medium) → play.Deliver frame n ≡ event
    → Calls (frame_calls real x (supply w h) (frame_at h frame)) old new
    → Calls (event_calls real w h x event) old new
unfolding event_calls
deliver_calls w h x n frame event old new same calls = by_event_calls w h x
    (play.Deliver frame n) event old new same calls

pub reset_none : (w : Schedule) (h : List Line) (x : Condition) (n : ℕ) → event_calls real w h x (play.Reset n) ≡ 0
unfolding event_calls
reset_none w h x n = refl

pub dump_none : (w : Schedule) (h : List Line) (x : Condition) (n : ℕ) → event_calls real w h x (play.ShowRecord n) ≡ 0
unfolding event_calls
dump_none w h x n = refl

pub stop_none : (w : Schedule) (h : List Line) (x : Condition) (n calls : ℕ) (torn : model.Bytes)
    → event_calls real w h x (play.ArmStop n calls torn) ≡ 0
unfolding event_calls
stop_none w h x n calls torn = refl

pub failure_none : (w : Schedule) (h : List Line) (x : Condition) (n call : ℕ)
    → event_calls real w h x (play.ArmFail n call) ≡ 0
unfolding event_calls
failure_none w h x n call = refl
