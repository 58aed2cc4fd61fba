-- The device calls of a run, event by event.
use Rattle.std.proofs.Common.{◌≡◌, ℕ, zero, suc, ◌+◌, ◌<◌, ◌≤◌, true, false, cond, List, [], ◌∷◌, ◌++◌, length, map, take, get_or, Option, Some, refl, sym, ap, ◌∙◌, subst, arith, add-one, append_assoc, append-nil}
use Rattle.std.proofs.Math.ListN.{set}
use Rattle.std.proofs.Math.Seq.{take-length}
use Rattle.std.proofs.lemmas.List.{length-map}
use Rattle.std.specs.List.{AllByRecursion}
use Rattle.zb_base.specs.Outside.{risen}
use Rattle.zb_base.specs.declared.key.Key.{Key}
use Rattle.zb_disk.specs.Memory.{Medium}
use Rattle.zb_player_events.proofs.FewCalls.{few_in_run}
use Rattle.zb_player_events.specs.Acts.{act_for}
use Rattle.zb_player_events.specs.Calls.{calls_of, event_calls, run_calls}
use Rattle.zb_player_events.specs.Told.{Before, Calls, counted_on}
use Rattle.zb_player_events.specs.declared.acts.Act.{Act}
use Rattle.zb_player_events.specs.declared.acts.Act.TheVariants as act
use Rattle.zb_player_events.specs.declared.ledger.Ledger.{Ledger}
use Rattle.zb_model.specs.Data.{Station}
use Rattle.zb_model.specs.Lines.{Line}
use Rattle.zb_model.specs.Schedules.{CountsCalls}
use Rattle.zb_model.specs.Play as play
use Rattle.zb_model.specs.Play.{Disk, Event, Schedule, groups, start, stations, step}
use Rattle.law_run.proofs.Basics.{nat_eq-refl}
use Rattle.zb_model_real.specs.Real.{real}
use Rattle.law_schedules.specs.Schedules.{event_for, schedule_of, stations_for}
use Rattle.law_run_steps.specs.Conditions.{Condition, condition_of}
use Rattle.law_run_steps.specs.Steps.{is_of}
use Rattle.zb_player_events.specs.Nodes.{NodeValue, task_of}
use Rattle.zb_player.specs.Playing.{AreCalled, AreCalledBy, FitsRun, IsEventAt, RunStands}
use Rattle.zb_player.specs.Runs.{AreMade, Answers, HaveMade, IsPlayed, acts_of, disks_after, lines_of}
use Rattle.zb_player.specs.declared.run.Run.{Run}
use Rattle.zb_player.proofs.Goings.{before_here}
use Rattle.zb_player.proofs.Looping.{mapped_at}
use Rattle.zb_player.proofs.Named.{of_others}
use Rattle.zb_player.proofs.RunSteps.{fits_at}
use Rattle.zb_player.proofs.Seating.{euis_differ}
use Rattle.zb_player.proofs.Stand.{EuisDiffer, as_many}
use Rattle.zb_sched.specs.Schedules as sched
use Rattle.zb_sched.specs.Valid.{IsSchedule}
use Rattle.zb_sched_line.specs.Said as said
use Rattle.zb_sched_line.specs.Views.{event_of}
use Rattle.zb_sched_line.specs.declared.event.Event.{Event as CodeEvent}

-- ---- counts

risen_some : (c k : ℕ) → 1 ≤ k → counted_on c k ≡ risen c k
risen_some c zero one = absurd (omega (arith, one))
risen_some c (suc k) one = refl

counted_more : (c a b : ℕ) → counted_on (counted_on c a) b ≡ counted_on c (a + b)
counted_more c zero b = let same : b ≡ zero + b = omega arith in ap (counted_on c) same
counted_more c (suc a) zero = let same : suc a ≡ suc a + zero = omega arith in ap (counted_on c) same
counted_more c (suc a) (suc b) =
    let sum : risen (risen c (suc a)) (suc b) ≡ risen c (suc a + suc b) = omega arith in
    sum ∙ sym (risen_some c (suc a + suc b) (omega arith))

-- ---- the disks of all nodes

pub same_called : (f g : ℕ → ℕ) (qs : List Station) (ms ms' : List Medium) → ((n : ℕ) → f n ≡ g n)
    → AreCalled f qs ms ms' → AreCalled g qs ms ms'
same_called f g [] [] [] same all = tt
same_called f g [] [] (x ∷ xs) same all = absurd all
same_called f g [] (m ∷ ms) ms' same all = absurd all
same_called f g (q ∷ qs) [] ms' same all = absurd all
same_called f g (q ∷ qs) (m ∷ ms) [] same all = absurd all
same_called f g (q ∷ qs) (m ∷ ms) (x ∷ xs) same all =
    (all.0 ∙ ap (counted_on m.calls) (same q.eui), same_called f g qs ms xs same all.1)

pub then_called : (f g : ℕ → ℕ) (qs : List Station) (a b c : List Medium) → AreCalled f qs a b → AreCalled g qs b c
    → AreCalled (λ n. f n + g n) qs a c
then_called f g [] [] [] [] first second = tt
then_called f g [] [] [] (z ∷ zs) first second = absurd second
then_called f g [] [] (y ∷ ys) c first second = absurd first
then_called f g [] (x ∷ xs) b c first second = absurd first
then_called f g (q ∷ qs) [] b c first second = absurd first
then_called f g (q ∷ qs) (x ∷ xs) [] c first second = absurd first
then_called f g (q ∷ qs) (x ∷ xs) (y ∷ ys) [] first second = absurd second
then_called f g (q ∷ qs) (x ∷ xs) (y ∷ ys) (z ∷ zs) first second = (
  second.0 ∙ ap (λ n. counted_on n (g q.eui)) first.0 ∙ counted_more x.calls (f q.eui) (g q.eui),
  then_called f g qs xs ys zs first.1 second.1,
)

-- none makes a call
pub none_called : (f : ℕ → ℕ) (qs : List Station) (ms : List Medium) → length ms ≡ length qs
    → AllByRecursion (λ (q : Station). f q.eui ≡ 0) qs → AreCalled f qs ms ms
none_called f [] [] many none = tt
none_called f [] (m ∷ ms) many none = absurd (omega (arith, many))
none_called f (q ∷ qs) [] many none = absurd (omega (arith, many))
none_called f (q ∷ qs) (m ∷ ms) many none =
    (ap (counted_on m.calls) (sym none.0), none_called f qs ms (omega (arith, many)) none.1)

-- the node at a place alone does
pub one_called : (f : ℕ → ℕ) (qs : List Station) (ms : List Medium) (i : ℕ) (d : Station) (x m' : Medium) → i
    < length qs → length ms ≡ length qs → EuisDiffer qs
    → ((n : ℕ) → (n ≡ (get_or qs i d).eui → ⊥) → f n ≡ 0) → Calls (f (get_or qs i d).eui) (get_or ms i x) m'
    → AreCalled f qs ms (set ms i m')
one_called f [] ms i d x m' bound many apart none made = absurd (omega arith)
one_called f (q ∷ qs) [] i d x m' bound many apart none made = absurd (omega (arith, many))
one_called f (q ∷ qs) (m ∷ ms) zero d x m' bound many apart none made =
    (made, none_called f qs ms (omega (arith, many)) (others qs apart.0))
  where
    others : (ps : List Station) → AllByRecursion (λ (p : Station). q.eui ≡ p.eui → ⊥) ps
        → AllByRecursion (λ (p : Station). f p.eui ≡ 0) ps
    others [] differ = tt
    others (p ∷ ps) differ = (none p.eui (λ e. differ.0 (sym e)), others ps differ.1)
one_called f (q ∷ qs) (m ∷ ms) (suc i) d x m' bound many apart none made = (
  ap (counted_on m.calls) (sym (none q.eui (differs_at qs i (omega arith) apart.0))),
  one_called f qs ms i d x m' (omega arith) (omega (arith, many)) apart.1 none made,
)
  where
    differs_at : (ps : List Station) (i : ℕ) → i < length ps → AllByRecursion (λ (p : Station). q.eui ≡ p.eui → ⊥) ps
        → q.eui ≡ (get_or ps i d).eui → ⊥
    differs_at [] i bound differ same = absurd (omega arith)
    differs_at (p ∷ ps) zero bound differ same = differ.0 same
    differs_at (p ∷ ps) (suc i) bound differ same = differs_at ps i (omega arith) differ.1 same

-- ---- one event

own_event : (n : ℕ) (a : Act) (event : play.Event) → act_for n a ≡ Some event → is_of n event ≡ true
own_event n (act.Own task) event e = let same : play.Own n (task_of task) ≡ event =
    cc in subst (λ (x : play.Event). is_of n x ≡ true) same (nat_eq-refl n)
own_event n act.Roll event e = let same : play.RollOver n ≡ event = cc in subst (λ (x : play.Event). is_of n x ≡ true)
    same (nat_eq-refl n)
own_event n (act.Deliver frame) event e = let same : play.Deliver frame n ≡ event =
    cc in subst (λ (x : play.Event). is_of n x ≡ true) same (nat_eq-refl n)
own_event n act.Reset event e = let same : play.Reset n ≡ event = cc in subst (λ (x : play.Event). is_of n x ≡ true)
    same (nat_eq-refl n)
own_event n act.Boot event e = let same : play.PowerOn n ≡ event = cc in subst (λ (x : play.Event). is_of n x ≡ true)
    same (nat_eq-refl n)
own_event n act.Dump event e = let same : play.ShowRecord n ≡ event =
    cc in subst (λ (x : play.Event). is_of n x ≡ true) same (nat_eq-refl n)
own_event n (act.Stop calls torn) event e = let same : play.ArmStop n calls torn.items ≡ event =
    cc in subst (λ (x : play.Event). is_of n x ≡ true) same (nat_eq-refl n)
own_event n (act.Fail call) event e = let same : play.ArmFail n call ≡ event =
    cc in subst (λ (x : play.Event). is_of n x ≡ true) same (nat_eq-refl n)
own_event n act.Outside event e = absurd (cc)

own_calls : (w : Schedule) (h : List Line) (ds : List Disk) (n : ℕ) (event : Event) → is_of n event ≡ true
    → event_calls real w h (condition_of w h ds n) event ≡ calls_of real w h ds n event
unfolding calls_of
own_calls w h ds n event is = ap (λ b. cond b (event_calls real w h (condition_of w h ds n) event) 0) (sym is)

other_calls : (w : Schedule) (h : List Line) (ds : List Disk) (n : ℕ) (event : Event) → is_of n event ≡ false
    → calls_of real w h ds n event ≡ 0
unfolding calls_of
other_calls w h ds n event is = ap (λ b. cond b (event_calls real w h (condition_of w h ds n) event) 0) is

-- what a ledger promises of the device calls of one node
abbrev pub NodeCalls : Act → ℕ → List Key → Ledger → NodeValue → Medium → Medium → Type 0
NodeCalls a number draws old node m m' =
    (w : Schedule) (h : List Line) (x : Condition) (latest n : ℕ) (event : Event) → Before w h x latest n old node m
    → map (λ (k : Key). k.0) draws ≡ w.draws → act_for n a ≡ Some event → CountsCalls event
    → Calls (event_calls real w h x event) m m'

-- an event of the node at a place
pub went_calls : (p : sched.Schedule) (h : List Line) (ds : List Disk) (number place : ℕ) (q : Station) (a : Act)
    (event : Event) (old : Run) (disks disks' : List Medium)
    (node : NodeValue) (m m' : Medium) → number < 4294967296 → IsSchedule p → RunStands p h ds number old disks
    → IsEventAt p place q a event
    → get_or old.nodes.items place node ≡ node → get_or disks place m ≡ m
    → NodeCalls a number old.draws.now old.ledger node m m' → disks' ≡ set disks place m'
    → AreCalledBy p h ds event disks disks'
unfolding schedule_of
went_calls p h ds number place q a event old disks disks' node m m' few is stands at same_node same_disk goes
    disks_are =
    let w = schedule_of p in
    let known = stations w in
    let xs : ℕ → Condition = condition_of w h ds in
    let before = before_here p h xs number place q a event old disks node m (omega (arith, few)) is stands at same_node
    same_disk in
    let made : Calls (event_calls real w h (xs q.eui) event) m m' =
    goes w h (xs q.eui) number q.eui event before stands.draws at.event_is at.calls in
    let f : ℕ → ℕ = λ n. calls_of real w h ds n event in
    let own : Calls (f q.eui) m m' =
    made ∙ ap (counted_on m.calls) (own_calls w h ds q.eui event (own_event q.eui a event at.event_is)) in
    let there : Calls (f (get_or known place q).eui) (get_or disks place m) m' =
    subst (λ (x : Medium). Calls (f (get_or known place q).eui) x m') (sym same_disk)
    (subst (λ (x : Station). Calls (f x.eui) m m') (sym at.station) own) in
    subst (AreCalledBy p h ds event disks) (sym disks_are)
    (one_called f known disks place q m m' at.bound (as_many xs number known old.nodes.items disks stands.nodes).1
    (euis_differ p is)
    (λ n other. other_calls w h ds n event
    (of_others q.eui n a event at.event_is (subst (λ (x : Station). n ≡ x.eui → ⊥) at.station other))) there)

all_none : (w : Schedule) (h : List Line) (ds : List Disk) (event : Event) (qs : List Station)
    → ((n : ℕ) → is_of n event ≡ false) → AllByRecursion (λ (q : Station). calls_of real w h ds q.eui event ≡ 0) qs
all_none w h ds event [] none = tt
all_none w h ds event (q ∷ qs) none = (other_calls w h ds q.eui event (none q.eui), all_none w h ds event qs none)

-- an event of the outside
pub outside_calls : (p : sched.Schedule) (h : List Line) (ds : List Disk) (number : ℕ) (event : Event) (old : Run)
    (disks : List Medium) → RunStands p h ds number old disks → ((n : ℕ) → is_of n event ≡ false)
    → AreCalledBy p h ds event disks disks
outside_calls p h ds number event old disks stands none =
    let w = schedule_of p in
    none_called (λ (n : ℕ). calls_of real w h ds n event) (stations w) disks
    (as_many (condition_of w h ds) number (stations w) old.nodes.items disks stands.nodes).1
    (all_none w h ds event (stations w) none)

-- ---- the events so far

-- one event more
calls_take : {E : Type 0} (w : Schedule) (f : E → Event) (h : List Line) (ds : List Disk) (number : ℕ) (es : List E)
    (i : ℕ) (d : E) (n : ℕ) → i < length es
    → run_calls real w h ds number (map f (take i es)) n + calls_of real w
    (h ++ groups real w h ds number (map f (take i es))) (disks_after w h ds number (map f (take i es))) n
    (f (get_or es i d))
    ≡ run_calls real w h ds number (map f (take (suc i) es)) n
unfolding run_calls groups disks_after
calls_take w f h ds number [] i d n bound = absurd (omega arith)
calls_take w f h ds number (e ∷ es) zero d n bound =
    let same : calls_of real w (h ++ []) ds n (f e) ≡ calls_of real w h ds n (f e) =
    ap (λ (l : List Line). calls_of real w l ds n (f e)) (append-nil h) in
    omega (arith, same)
calls_take w f h ds number (e ∷ es) (suc i) d n bound =
    let g = step real w h ds number (f e) in
    let front = groups real w (h ++ g.lines) g.disks (number + 1) (map f (take i es)) in
    let more = calls_take w f (h ++ g.lines) g.disks (number + 1) es i d n (omega arith) in
    let at : calls_of real w (h ++ (g.lines ++ front))
    (disks_after w (h ++ g.lines) g.disks (number + 1) (map f (take i es))) n (f (get_or es i d))
    ≡ calls_of real w ((h ++ g.lines) ++ front)
    (disks_after w (h ++ g.lines) g.disks (number + 1) (map f (take i es))) n (f (get_or es i d)) =
    ap (λ (l : List Line). calls_of real w l (disks_after w (h ++ g.lines) g.disks (number + 1) (map f (take i es))) n
    (f (get_or es i d))) (sym (append_assoc h g.lines front)) in
    omega (arith, more, at)

pub none_made : (events : List CodeEvent) (run : Run) (disks : List Medium)
    → AreMade disks run (map event_of events) 0 disks
unfolding run_calls
none_made events run disks p h ds played stands =
    let w = schedule_of p in
    none_called (λ (n : ℕ). zero) (stations w) disks
    (as_many (condition_of w h ds) 1 (stations w) run.nodes.items disks stands.nodes).1 (zeros (stations w))
  where
    zeros : (qs : List Station) → AllByRecursion (λ (q : Station). zero ≡ zero) qs
    zeros [] = tt
    zeros (q ∷ qs) = (refl, zeros qs)

-- what the program's answer of an event promises of the device calls
abbrev pub EventCalls : ℕ → said.Event → Run → List Medium → List Medium → Type 0
EventCalls number e now dnow dnew =
    (p : sched.Schedule) (h : List Line) (ds : List Disk) → IsSchedule p → FitsRun p number e
    → RunStands p h ds number now dnow → AreCalledBy p h ds (event_for (stations_for p) e) dnow dnew

pub more_made : (events : List CodeEvent) (i : ℕ) (e : CodeEvent) (old now : Run) (disks dnow dnew : List Medium)
    (before middle : Option (List ℕ)) → i < length events → e ≡ get_or events i e
    → Answers old disks (map event_of events) i now dnow before middle
    → AreMade disks old (map event_of events) i dnow → EventCalls (i + 1) (event_of e) now dnow dnew
    → AreMade disks old (map event_of events) (i + 1) dnew
more_made events i e old now disks dnow dnew before middle bound is so_far made goes p h ds played stands =
    let w = schedule_of p in
    let all = map event_of events in
    let a = so_far p h ds played stands in
    let many : i < length p.events = subst (λ (es : List said.Event). i < length es) played.events_are
    (omega (arith, bound, length-map events event_of)) in
    let at : get_or p.events i (event_of e) ≡ event_of e =
    ap (λ (es : List said.Event). get_or es i (event_of e)) (sym played.events_are) ∙ mapped_at events i e is in
    let fits : FitsRun p (i + 1) (event_of e) =
    subst (FitsRun p (i + 1)) at (fits_at p i (event_of e) played.schedule many) in
    let done = h ++ lines_of p h ds (take i all) in
    let left = disks_after w h ds 1 (acts_of p (take i all)) in
    let one = goes p done left played.schedule fits a.stands in
    same_called
    (λ (n : ℕ). run_calls real w h ds 1 (acts_of p (take i all)) n + calls_of real w done left n
    (event_for (stations_for p) (event_of e))) (run_calls real w h ds 1 (acts_of p (take (i + 1) all)))
    (stations w) disks dnew
    (λ n.
    ap (λ (x : said.Event). run_calls real w h ds 1 (acts_of p (take i all)) n + calls_of real w done left n
    (event_for (stations_for p) x)) (sym (mapped_at events i e is))
    ∙ calls_take w (event_for (stations_for p)) h ds 1 all i (event_of e) n
    (omega (arith, bound, length-map events event_of))
    ∙ ap (λ k. run_calls real w h ds 1 (acts_of p (take k all)) n) (sym (add-one i)))
    (then_called (run_calls real w h ds 1 (acts_of p (take i all)))
    (λ (n : ℕ). calls_of real w done left n (event_for (stations_for p) (event_of e))) (stations w) disks dnow
    dnew (made p h ds played stands) one)

-- ---- the whole run

counted_six : (k : ℕ) → k ≤ 600000 → counted_on 6 k ≡ 6 + k
counted_six zero few = refl
counted_six (suc k) few = omega (arith, few)

have_made : (f : ℕ → ℕ) (qs : List Station) (ms ms' : List Medium) → ((n : ℕ) → f n ≤ 600000)
    → AllByRecursion (λ (m : Medium). m.calls ≡ 6) ms → AreCalled f qs ms ms' → HaveMade f qs ms'
have_made f [] [] [] few six all = tt
have_made f [] [] (x ∷ xs) few six all = absurd all
have_made f [] (m ∷ ms) ms' few six all = absurd all
have_made f (q ∷ qs) [] ms' few six all = absurd all
have_made f (q ∷ qs) (m ∷ ms) [] few six all = absurd all
have_made f (q ∷ qs) (m ∷ ms) (x ∷ xs) few six all = (
  all.0 ∙ ap (λ c. counted_on c (f q.eui)) six.0 ∙ counted_six (f q.eui) (few q.eui),
  have_made f qs ms xs few six.1 all.1,
)

pub all_made : (p : sched.Schedule) (old : Run) (disks disks' : List Medium) (events : List said.Event) (n : ℕ)
    → IsPlayed p events → n ≡ length events → RunStands p (start (schedule_of p)) [] 1 old disks
    → AllByRecursion (λ (m : Medium). m.calls ≡ 6) disks → AreMade disks old events n disks'
    → HaveMade (run_calls real (schedule_of p) (start (schedule_of p)) [] 1 (schedule_of p).events)
    (stations (schedule_of p)) disks'
unfolding schedule_of
all_made p old disks disks' events n played many stands six made =
    let w = schedule_of p in
    let whole : take n events ≡ p.events = ap (λ k. take k events) many ∙ take-length events ∙ played.events_are in
    let few : length (acts_of p p.events) ≤ 100000 =
    omega (arith, length-map p.events (event_for (stations_for p)), played.schedule.so_far.few_events) in
    have_made (run_calls real w (start w) [] 1 w.events) (stations w) disks disks'
    (λ k. omega (arith, few, few_in_run real w (start w) [] 1 w.events k)) six
    (subst (λ es. AreCalled (run_calls real w (start w) [] 1 (acts_of p es)) (stations w) disks disks') whole
    (made p (start w) [] played stands))
