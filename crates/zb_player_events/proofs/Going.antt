-- What each kind of event of a node comes to: its lines are told, and the node is in the condition that its turn
-- leaves.
use Rattle.std.proofs.Common.{◌≡◌, ℕ, ◌+◌, ◌-◌, Bool, true, false, if◌then◌else◌, List, [], ◌∷◌, ◌++◌, map, length, Option, Some, None, option_map, is_some, nat_eq, slice_get, sym, ap, ◌∙◌, subst}
use Rattle.std.specs.List.{list_any}
use Rattle.arrayvec.specs.ArrayString.{ArrayString}
use Rattle.zb_base.specs.declared.key.Key.{Key}
use Rattle.zb_disk.specs.Memory.{Medium}
use Rattle.zb_armed_host.specs.declared.fall.Fall.{Fall}
use Rattle.zb_player_events.proofs.SeatLemmas.{same_some}
use Rattle.zb_player_events.proofs.Adding.{adds_then, next_number, told_adds}
use Rattle.zb_player_events.proofs.Telling.{are_of_centre, fallen_is, kept_lines, none_kept, out_is}
use Rattle.zb_model.specs.Schedules.{CountsCalls}
use Rattle.zb_player_events.specs.Acts.{act_for}
use Rattle.zb_player_events.specs.Told.{Adds, Before, Goes, IsTold, fall_line}
use Rattle.zb_player_events.specs.declared.acts.Act.{Act}
use Rattle.zb_player_events.specs.declared.ledger.Ledger.{Ledger}
use Rattle.zb_core.specs.CorePlans.{CorePlan}
use Rattle.zb_model.specs.Answer.{Answer, answer}
use Rattle.zb_model.specs.Data as model
use Rattle.zb_model.specs.Data.{AtEvent, Bytes, Down, Edit, NoFrame, Reason, WrongState}
use Rattle.zb_model.specs.Lines.{Line, Boot, DownReset, Dump, Refuse}
use Rattle.zb_model.specs.Play as play
use Rattle.zb_model.specs.Play.{Event, FailAt, Own, PowerOn, Reset, Schedule, ShowRecord, ArmStop, ArmFail, StopAfter, fallen_line, frame_at, setting_of, stands, stations, supply, told_lines}
use Rattle.zb_model.specs.Record.{record_of}
use Rattle.zb_model.specs.Rules.{Setting}
use Rattle.zb_model.specs.State.{is_centre}
use Rattle.zb_model_real.specs.Real.{real}
use Rattle.law_run_steps.proofs.Centre.{none-of-others}
use Rattle.law_run_steps.specs.Conditions.{Condition, after_arming, after_cut, after_cut_boot, after_power_on, after_reset, after_whole, calls_by}
use Rattle.law_run_steps.specs.Steps.{cut_lines, is_of_the_centre, whole_lines}
use Rattle.law_run_steps.proofs.Turns.{answer_cut, answer_whole, boot_by, boot_cut, boot_whole, reset_by, task_down, task_up}
use Rattle.law_run_steps.specs.Turns.{Turn, deliver_turn, event_turn, refused_turn, task_turn, turn}
use Rattle.zb_player_node.proofs.Conditions.{in_later, power_is}
use Rattle.zb_player_node.specs.Answers.{Changes, HasBooted, HasHandled}
use Rattle.zb_player_node.specs.Nodes.{IsIn}
use Rattle.zb_player_node.specs.Values.{NodeValue}
use Rattle.zb_player_node.specs.declared.node.Handled.{Handled}
use Rattle.zb_player_node.specs.declared.node.Handled.TheVariants.{Whole, Cut}
use Rattle.zb_node_types.specs.Changes.{edits}
use Rattle.zb_trace_model.specs.Naming.{IsCalled}
use Rattle.zb_player_scribe.specs.Turns.{none_told}
use Rattle.zb_player_scribe.specs.Kept.{Tells}
use Rattle.zb_plan.specs.Answers.{IsAnswer}
use Rattle.zb_trace_model.specs.AnswerLines.{AreOfCentre, answer_lines, lines_of_edits, outcome_lines}
use Rattle.zb_text.specs.Fields.{is_name}

-- where the turn is this one
goes_as : (w : Schedule) (t : Turn) (h lines : List Line) (latest : ℕ) (old new : Ledger) (node : NodeValue)
    (m : Medium) (x : Condition) → t ≡ turn lines x → Adds w h lines old new → IsIn x (latest + 1) node m
    → Goes w t h latest old new node m
goes_as w t h lines latest old new node m x same adds is =
    subst (λ (u : Turn). Goes w u h latest old new node m) (sym same) (record { adds = adds; is_in = is })

-- the name that a node has is that of the schedule's node
pub named_as : (w : Schedule) (n : ℕ) (name own : ArrayString) → name ≡ own → IsCalled (stations w) n own.bytes
    → IsCalled (stations w) n name.bytes
named_as w n name own e called = subst (λ (q : ArrayString). IsCalled (stations w) n q.bytes) (sym e) called

-- ---- power

pub power_of : (w : Schedule) (h : List Line) (x : Condition) (latest n : ℕ) (k : Ledger) (node : NodeValue)
    (m : Medium) (b : Bool) → Before w h x latest n k node m → b ≡ is_some node.machine → x.up ≡ b
power_of w h x latest n k node m b before e =
    sym (e ∙ power_is x.up x before.is_in.standing node.machine m before.is_in.powered)

-- ---- refusals

pub refusal_goes : (w : Schedule) (t : Turn) (h : List Line) (x : Condition) (latest number n : ℕ) (why : Reason)
    (old new : Ledger) (node : NodeValue) (m : Medium) → t ≡ refused_turn x number n why
    → Before w h x latest n old node m → Adds w h (Refuse number n AtEvent why ∷ []) old new
    → Goes w t h latest old new node m
refusal_goes w t h x latest number n why old new node m is before adds =
    goes_as w t h (Refuse number n AtEvent why ∷ []) latest old new node m x is adds
    (in_later x latest node m before.is_in)

-- ---- tasks

pub own_goes : (w : Schedule) (h : List Line) (x : Condition) (latest number n : ℕ) (task : model.Task)
    (old new : Ledger) (node : NodeValue) (m : Medium)
    → Goes w (task_turn real h x number n task) h latest old new node m
    → Goes w (event_turn real w h x number (Own n task)) h latest old new node m
unfolding event_turn
own_goes w h x latest number n task old new node m goes = goes

pub roll_goes : (w : Schedule) (h : List Line) (x : Condition) (latest number n : ℕ) (old new : Ledger)
    (node : NodeValue) (m : Medium)
    → Goes w (task_turn real h x number n (model.DoRoll (supply w h))) h latest old new node m
    → Goes w (event_turn real w h x number (play.RollOver n)) h latest old new node m
unfolding event_turn
roll_goes w h x latest number n old new node m goes = goes

pub frame_goes : (w : Schedule) (h : List Line) (x : Condition) (latest number frame n : ℕ) (old new : Ledger)
    (node : NodeValue) (m : Medium)
    → Goes w (deliver_turn real w h x number n (frame_at h frame)) h latest old new node m
    → Goes w (event_turn real w h x number (play.Deliver frame n)) h latest old new node m
unfolding event_turn
frame_goes w h x latest number frame n old new node m goes = goes

pub down_goes : (w : Schedule) (h : List Line) (x : Condition) (latest number n : ℕ) (task : model.Task)
    (old new : Ledger) (node : NodeValue) (m : Medium) → Before w h x latest n old node m
    → false ≡ is_some node.machine
    → Adds w h (Refuse number n AtEvent Down ∷ []) old new
    → Goes w (task_turn real h x number n task) h latest old new node m
down_goes w h x latest number n task old new node m before off adds =
    refusal_goes w (task_turn real h x number n task) h x latest number n Down old new node m
    (task_down real h x number n task (power_of w h x latest n old node m false before off)) before adds

-- the changes of a node that isn't the centre are none of the centre's
centre_here : (w : Schedule) (h : List Line) (x : Condition) (latest n : ℕ) (k : Ledger) (node : NodeValue)
    (m : Medium) → Before w h x latest n k node m → is_centre x.setting.me.role ≡ true
    → is_centre (setting_of w n).me.role ≡ true
centre_here w h x latest n k node m before is =
    ap (λ (c : Setting). is_centre c.me.role) (sym before.setting) ∙ is

-- the changes that were told of a node of this name
abbrev pub TellsChanges : Schedule → ℕ → ArrayString → Changes → Ledger → Ledger → Type 0
TellsChanges w number name changes old new =
    (n : ℕ) → IsCalled (stations w) n name.bytes → AreOfCentre (stations w) n changes.items
    → Tells (stations w) (lines_of_edits number n (edits changes.items)) old.transcript.scribe old.transcript.page
    new.transcript.scribe new.transcript.page

-- its answer, whose frame has that number
abbrev pub TellsAnswer : Schedule → ℕ → ℕ → ArrayString → CorePlan → Ledger → Ledger → Type 0
TellsAnswer w number frame name p old new =
    (n : ℕ) → IsCalled (stations w) n name.bytes → (true ≡ true → is_name name.bytes ≡ true)
    → AreOfCentre (stations w) n p.changes.items
    → Tells (stations w) (answer_lines number n frame p) old.transcript.scribe old.transcript.page
    new.transcript.scribe new.transcript.page

-- and the line of its fall, whatever the lines before it
abbrev pub TellsFall : Schedule → ℕ → ArrayString → Fall → Ledger → Ledger → Type 0
TellsFall w number name fall between new = (h : List Line) (n : ℕ) → IsTold w h between
    → IsCalled (stations w) n name.bytes → Adds w h (fall_line fall number n ∷ []) between new

whole_adds : (w : Schedule) (h : List Line) (number n frame : ℕ) (a : Answer) (p : CorePlan) (old new : Ledger)
    → IsTold w h old → frame ≡ length old.transcript.scribe.air + 1 → IsAnswer p a
    → Tells (stations w) (answer_lines number n frame p) old.transcript.scribe old.transcript.page
    new.transcript.scribe new.transcript.page → Adds w h (whole_lines h number n a) old new
whole_adds w h number n frame a p old new told numbered is tells =
    told_adds w h (whole_lines h number n a) old new
    (subst (λ (ls : List Line). Tells (stations w) ls old.transcript.scribe old.transcript.page new.transcript.scribe
    new.transcript.page)
    (ap (λ (es : List Edit). lines_of_edits number n es ++ outcome_lines number n frame p.out) is.changes
    ∙ ap (λ (ls : List Line). lines_of_edits number n a.edits ++ ls)
    (out_is number n frame p a is ∙ ap (λ (k : ℕ). told_lines number n k a)
    (next_number w h old frame told numbered))) tells) told

pub whole_goes : (w : Schedule) (h : List Line) (x : Condition) (latest number n : ℕ) (task : model.Task)
    (frame : ℕ) (name : ArrayString) (result : Option Handled) (p : CorePlan) (old new : Ledger)
    (node after : NodeValue) (m m' : Medium) → Before w h x latest n old node m → true ≡ is_some node.machine
    → name ≡ node.peer.name → result ≡ Some Whole
    → HasHandled task node m result p after m' → frame ≡ length old.transcript.scribe.air + 1
    → TellsAnswer w number frame name p old new
    → Goes w (task_turn real h x number n task) h latest old new after m'
whole_goes w h x latest number n task frame name result p old new node after m m' before on named made handled
    numbered answered =
    let a = answer real x.setting x.state task in
    let how : HasHandled task node m (Some Whole) p after m' =
    subst (λ (r : Option Handled). HasHandled task node m r p after m') made handled in
    let was = how x latest before.is_in before.few in
    let called : IsCalled (stations w) n name.bytes = subst (λ (q : ArrayString). IsCalled (stations w) n q.bytes)
    (sym named) before.seat.called in
    let spelled : is_name name.bytes ≡ true = subst (λ (q : ArrayString). is_name q.bytes ≡ true) (sym named)
    before.seat.spelled in
    let own : AreOfCentre (stations w) n p.changes.items = are_of_centre (stations w) n p.changes.items
    (is_centre x.setting.me.role)
    (λ there. before.seat.centre (centre_here w h x latest n old node m before there))
    (λ other. ap (list_any is_of_the_centre) was.answer_is.changes ∙ none-of-others real x.setting x.state task
    other) in
    goes_as w (task_turn real h x number n task) h (whole_lines h number n a) latest old new after m'
    (after_whole a x)
    (task_up real h x number n task (power_of w h x latest n old node m true before on)
    ∙ answer_whole h x number n a was.missed)
    (whole_adds w h number n frame a p old new before.told numbered was.answer_is
    (answered n called (λ _. spelled) own))
    was.leaves

pub cut_goes : (w : Schedule) (h : List Line) (x : Condition) (latest number n : ℕ) (task : model.Task)
    (name : ArrayString) (result : Option Handled) (p : CorePlan) (fall : Fall) (old between new : Ledger)
    (node after : NodeValue) (m m' : Medium) → Before w h x latest n old node m → true ≡ is_some node.machine
    → name ≡ node.peer.name → result ≡ Some (Cut fall)
    → HasHandled task node m result p after m' → TellsChanges w number name p.changes old between
    → TellsFall w number name fall between new
    → Goes w (task_turn real h x number n task) h latest old new after m'
cut_goes w h x latest number n task name result p fall old between new node after m m' before on named made
    handled stored fallen =
    let a = answer real x.setting x.state task in
    let b = stands x.disk.armed (calls_by x.commits a.edits) in
    let some : List Line = if b then lines_of_edits number n a.edits else [] in
    let how : HasHandled task node m (Some (Cut fall)) p after m' =
    subst (λ (r : Option Handled). HasHandled task node m r p after m') made handled in
    let was = how x latest before.is_in before.few in
    let called : IsCalled (stations w) n name.bytes = subst (λ (q : ArrayString). IsCalled (stations w) n q.bytes)
    (sym named) before.seat.called in
    let own : AreOfCentre (stations w) n p.changes.items = are_of_centre (stations w) n p.changes.items
    (is_centre x.setting.me.role)
    (λ there. before.seat.centre (centre_here w h x latest n old node m before there))
    (λ other. none_kept b a.edits (edits p.changes.items) was.stored_are
    (none-of-others real x.setting x.state task other)) in
    let one : Adds w h some old between =
    told_adds w h some old between
    (subst (λ (ls : List Line). Tells (stations w) ls old.transcript.scribe old.transcript.page
    between.transcript.scribe between.transcript.page)
    (kept_lines number n b a.edits (edits p.changes.items) was.stored_are) (stored n called own)) before.told in
    let last : Adds w (h ++ some) (fallen_line x.disk.armed number n) between new =
    subst (λ (ls : List Line). Adds w (h ++ some) ls between new)
    (sym (fallen_is number n x.disk.armed (calls_by x.commits a.edits) fall was.fell was.fall_is))
    (fallen (h ++ some) n one.told called) in
    goes_as w (task_turn real h x number n task) h (cut_lines x number n a) latest old new after m'
    (after_cut a x)
    (task_up real h x number n task (power_of w h x latest n old node m true before on)
    ∙ answer_cut h x number n a was.fell)
    (adds_then w h some (fallen_line x.disk.armed number n) old between new one last) was.leaves

-- ---- frames

pub draw_is : (w : Schedule) (h : List Line) (k : Ledger) (keys : List Key) (draw : Option Key) → IsTold w h k
    → map (λ (key : Key). key.0) keys ≡ w.draws
    → option_map (λ (key : Key). key.0) draw ≡ slice_get (map (λ (key : Key). key.0) keys) k.transcript.scribe.used
    → option_map (λ (key : Key). key.0) draw ≡ supply w h
unfolding supply
draw_is w h k keys draw told same e =
    e ∙ (ap (λ (bs : List Bytes). slice_get bs k.transcript.scribe.used) same ∙ ap (λ (i : ℕ). slice_get w.draws i)
    told.kept.used)

pub frame_is : (w : Schedule) (h : List Line) (k : Ledger) (number : ℕ) (found : Option Bytes) → IsTold w h k → found
    ≡ (if nat_eq number 0 then None else slice_get k.transcript.scribe.air (number - 1)) → frame_at h number ≡ found
frame_is w h k number found told e =
    sym (e ∙ ap (λ (fs : List Bytes). if nat_eq number 0 then None else slice_get fs (number - 1)) told.kept.air)

pub missed_goes : (w : Schedule) (h : List Line) (x : Condition) (latest number n : ℕ) (b : Bool) (old new : Ledger)
    (node : NodeValue) (m : Medium) → Before w h x latest n old node m → b ≡ is_some node.machine
    → Adds w h (Refuse number n AtEvent (if b then NoFrame else Down) ∷ []) old new
    → Goes w (deliver_turn real w h x number n None) h latest old new node m
missed_goes w h x latest number n b old new node m before is adds =
    refusal_goes w (deliver_turn real w h x number n None) h x latest number n (if b then NoFrame else Down)
    old new node m
    (ap (λ (up : Bool). refused_turn x number n (if up then NoFrame else Down))
    (power_of w h x latest n old node m b before is)) before adds

-- ---- power off and on

pub reset_goes : (w : Schedule) (h : List Line) (x : Condition) (latest number n : ℕ) (old new : Ledger)
    (node after : NodeValue) (m m' : Medium) → Before w h x latest n old node m → true ≡ is_some node.machine
    → Adds w h (DownReset number n ∷ []) old new
    → ((y : Condition) (k : ℕ) → IsIn y k node m → y.up ≡ true → IsIn (after_reset y) (k + 1) after m')
    → Goes w (event_turn real w h x number (Reset n)) h latest old new after m'
reset_goes w h x latest number n old new node after m m' before on adds leaves =
    let up = power_of w h x latest n old node m true before on in
    goes_as w (event_turn real w h x number (Reset n)) h (DownReset number n ∷ []) latest old new after m'
    (after_reset x) (reset_by real w h x number n true up) adds (leaves x latest before.is_in up)

pub no_reset_goes : (w : Schedule) (h : List Line) (x : Condition) (latest number n : ℕ) (old new : Ledger)
    (node : NodeValue) (m : Medium) → Before w h x latest n old node m → false ≡ is_some node.machine
    → Adds w h (Refuse number n AtEvent Down ∷ []) old new
    → Goes w (event_turn real w h x number (Reset n)) h latest old new node m
no_reset_goes w h x latest number n old new node m before off adds =
    refusal_goes w (event_turn real w h x number (Reset n)) h x latest number n Down old new node m
    (reset_by real w h x number n false (power_of w h x latest n old node m false before off)) before adds

pub no_boot_goes : (w : Schedule) (h : List Line) (x : Condition) (latest number n : ℕ) (old new : Ledger)
    (node : NodeValue) (m : Medium) → Before w h x latest n old node m → true ≡ is_some node.machine
    → Adds w h (Refuse number n AtEvent WrongState ∷ []) old new
    → Goes w (event_turn real w h x number (PowerOn n)) h latest old new node m
no_boot_goes w h x latest number n old new node m before on adds =
    refusal_goes w (event_turn real w h x number (PowerOn n)) h x latest number n WrongState old new node m
    (boot_by real w h x number n true (power_of w h x latest n old node m true before on)) before adds

pub boot_goes : (w : Schedule) (h : List Line) (x : Condition) (latest number n : ℕ) (result : Option Fall)
    (old new : Ledger) (node after : NodeValue) (m m' : Medium) → Before w h x latest n old node m → false
    ≡ is_some node.machine
    → result ≡ None → HasBooted node m result after m' → Adds w h (Boot number n ∷ []) old new
    → Goes w (event_turn real w h x number (PowerOn n)) h latest old new after m'
boot_goes w h x latest number n result old new node after m m' before off made booting adds =
    let down = power_of w h x latest n old node m false before off in
    let how : HasBooted node m None after m' = subst (λ (r : Option Fall). HasBooted node m r after m') made booting in
    let was = how x latest before.is_in down in
    goes_as w (event_turn real w h x number (PowerOn n)) h (Boot number n ∷ []) latest old new after m'
    (after_power_on x) (boot_by real w h x number n false down ∙ boot_whole x number n was.missed) adds was.leaves

pub cut_boot_goes : (w : Schedule) (h : List Line) (x : Condition) (latest number n : ℕ) (result : Option Fall)
    (fall : Fall) (old new : Ledger) (node after : NodeValue) (m m' : Medium) → Before w h x latest n old node m
    → false ≡ is_some node.machine → result ≡ Some fall → HasBooted node m result after m'
    → Adds w h (fall_line fall number n ∷ []) old new
    → Goes w (event_turn real w h x number (PowerOn n)) h latest old new after m'
cut_boot_goes w h x latest number n result fall old new node after m m' before off made booting adds =
    let down = power_of w h x latest n old node m false before off in
    let how : HasBooted node m (Some fall) after m' = subst (λ (r : Option Fall). HasBooted node m r after m') made
    booting in
    let was = how x latest before.is_in down in
    goes_as w (event_turn real w h x number (PowerOn n)) h (fallen_line x.disk.armed number n) latest old new after m'
    (after_cut_boot x) (boot_by real w h x number n false down ∙ boot_cut x number n was.fell)
    (subst (λ (ls : List Line). Adds w h ls old new)
    (sym (fallen_is number n x.disk.armed (play.BootCalls x.disk.both_open) fall was.fell was.fall_is)) adds)
    was.leaves

-- ---- a dump, and what is armed

pub dump_goes : (w : Schedule) (h : List Line) (x : Condition) (latest number n : ℕ) (bytes : List ℕ)
    (old new : Ledger) (node : NodeValue) (m m' : Medium) → Before w h x latest n old node m
    → ((y : Condition) (k : ℕ) → IsIn y k node m → (bytes ≡ record_of y.state) × IsIn y (k + 1) node m')
    → Adds w h (Dump number n bytes ∷ []) old new
    → Goes w (event_turn real w h x number (ShowRecord n)) h latest old new node m'
unfolding event_turn
dump_goes w h x latest number n bytes old new node m m' before shows adds =
    let is = shows x latest before.is_in in
    record { adds = subst (λ (bs : List ℕ). Adds w h (Dump number n bs ∷ []) old new) is.0 adds; is_in = is.1 }

pub stop_goes : (w : Schedule) (h : List Line) (x : Condition) (latest number n calls : ℕ) (torn : Bytes) (k : Ledger)
    (node after : NodeValue) (m : Medium) → Before w h x latest n k node m
    → ((y : Condition) (i : ℕ) (m' : Medium) → IsIn y i node m' → IsIn (after_arming (StopAfter calls torn) y) (i + 1)
    after m') → Goes w (event_turn real w h x number (ArmStop n calls torn)) h latest k k after m
unfolding event_turn
stop_goes w h x latest number n calls torn k node after m before leaves = record {
  adds = told_adds w h [] k k (none_told (stations w) k.transcript.scribe k.transcript.page) before.told;
  is_in = leaves x latest m before.is_in;
}

pub failure_goes : (w : Schedule) (h : List Line) (x : Condition) (latest number n call : ℕ) (k : Ledger)
    (node after : NodeValue) (m : Medium) → Before w h x latest n k node m
    → ((y : Condition) (i : ℕ) (m' : Medium) → IsIn y i node m' → IsIn (after_arming (FailAt call) y) (i + 1) after
    m') → Goes w (event_turn real w h x number (ArmFail n call)) h latest k k after m
unfolding event_turn
failure_goes w h x latest number n call k node after m before leaves = record {
  adds = told_adds w h [] k k (none_told (stations w) k.transcript.scribe k.transcript.page) before.told;
  is_in = leaves x latest m before.is_in;
}

-- ---- which event it is

pub event_is : (n : ℕ) (act made : Act) (this event : Event) → act ≡ made → act_for n made ≡ Some this → act_for n act
    ≡ Some event → this ≡ event
event_is n act made this event is one other = same_some this event (sym one ∙ (ap (act_for n) (sym is) ∙ other))

pub by_event : (w : Schedule) (h : List Line) (x : Condition) (latest number n : ℕ) (this event : Event)
    (old new : Ledger) (node : NodeValue) (m : Medium) → this ≡ event
    → (CountsCalls this → Goes w (event_turn real w h x number this) h latest old new node m)
    → CountsCalls event → Goes w (event_turn real w h x number event) h latest old new node m
by_event w h x latest number n this event old new node m same goes =
    subst (λ (e : Event). CountsCalls e → Goes w (event_turn real w h x number e) h latest old new
    node m) same goes
