-- Each line of a run is of a declared node, or of no node.
use Rattle.std.proofs.Common.{◌≡◌, ℕ, ◌+◌, ◌||◌, Bool, true, false, cond, List, [], ◌∷◌, ◌++◌, map, find, flat_map, length, Option, Some, None, is_some, nat_eq, refl, sym, ap, ◌∙◌, eqb-true, eq-eqb}
use Rattle.std.specs.List.{AllByRecursion, list_any}
use Rattle.std.proofs.lemmas.Bool.{false≢true}
use Rattle.zb_model.specs.Data.{Bytes, Layer, Nwk, Aps, Station, nobody, Term, Place, Reason, Down, WrongState, Task, Received, DoRoll, Draw, DropNet, DropLink, Install, Active, Row, Pair, Became, Live, Removed, Roll, Told, Untold, Edit, Reserve, Floor, Start, Moved}
use Rattle.zb_model.specs.Lines.{Line, Declared, Changed, Accept, Seal, DownReset, Boot}
use Rattle.zb_model.specs.Answer.{Answer, answer, counting_of}
use Rattle.zb_model.specs.Play.{Schedule, Node, Event, Own, RollOver, Deliver, Reset, PowerOn, ShowRecord, ArmStop, ArmFail, InjectBytes, ForgeNet, ForgeNetAps, ForgeOpen, Step, Disk, Armed, NotArmed, StopAfter, FailAt, Calls, BootCalls, stations, station_or, setting_of, net_line, link_line, limit_line, start, groups, disk_of, with_disk, falls, stands, calls_for, leaves_both, commit_lines, refuse_lines, send_lines, stored_lines, told_lines, group_of, cut_of, fallen_line, answer_step, boot_step, refused_step, task_step, deliver_step, frame_at, supply, forged_net, forged_both, forged_open, step_by, step}
use Rattle.zb_model.specs.Readings.{is_up, air, state_of}
use Rattle.zb_model.specs.Rules.{centre_of, eui_or, station_of}
use Rattle.zb_model.specs.Schedules.{IsSchedule, Names, NamesNode}
use Rattle.zb_model.specs.State.{is_centre}
use Rattle.zb_model.specs.Tools.{Tools}
use Rattle.zb_model.specs.Transcript.{run_lines, transcript, end_line}
use Rattle.law_run.specs.Commanding.{OneCentre}
use Rattle.law_run.proofs.EventStates.{answer_to}
use Rattle.law_run.proofs.FreshLines.{all-append, all-map}
use Rattle.law_run_text.specs.OfNodes.{AreOfNodes, IsOfSchedule, IsOneOf}
use Rattle.law_run_steps.specs.Steps.{is_of_the_centre}
use Rattle.law_run_steps.proofs.Centre.{none-of-others}
use Rattle.zb_trace_model.specs.Naming.{IsDeclared}
use Rattle.zb_trace_model.specs.Said.{IsOfCentre}
use Rattle.zb_trace.specs.Views.{eui_or_nobody, the_centre}

abbrev Of : List Station → Line → Type 0
Of known l = IsOfSchedule known l

-- ---- the centre

same_centre : (o : Option Station) → eui_or_nobody o ≡ eui_or nobody o
same_centre None = refl
same_centre (Some p) = refl

-- of the stations only the one of that EUI is a centre
abbrev IsThat : ℕ → Station → Type 0
IsThat c p = is_centre p.role ≡ true → p.eui ≡ c

found_centre : (c n : ℕ) (ps : List Station) → AllByRecursion (IsThat c) ps
    → is_some (find (λ (p : Station). nat_eq p.eui n) ps) ≡ true
    → is_centre (station_or (find (λ (p : Station). nat_eq p.eui n) ps)).role ≡ true → c ≡ n
found_centre c n [] one found is = absurd (false≢true found)
found_centre c n (p ∷ ps) one found is = by_test (nat_eq p.eui n) refl found is (λ f i. found_centre c n ps one.1 f i)
  where
    by_test : (b : Bool) → nat_eq p.eui n ≡ b → is_some (cond b (Some p) (find (λ (q : Station). nat_eq q.eui n) ps))
        ≡ true
        → is_centre (station_or (cond b (Some p) (find (λ (q : Station). nat_eq q.eui n) ps))).role ≡ true
        → (is_some (find (λ (q : Station). nat_eq q.eui n) ps) ≡ true
        → is_centre (station_or (find (λ (q : Station). nat_eq q.eui n) ps)).role ≡ true → c ≡ n) → c ≡ n
    by_test true e found is more = sym (one.0 is) ∙ eqb-true p.eui n e
    by_test false e found is more = more found is

centre_is : (w : Schedule) (n : ℕ) → OneCentre w → Names w n → is_centre (setting_of w n).me.role ≡ true
    → the_centre (stations w) ≡ n
unfolding the_centre centre_of station_of setting_of
centre_is w n one named is =
    same_centre (find (λ (s : Station). is_centre s.role) (stations w))
    ∙ found_centre (eui_or nobody (find (λ (s : Station). is_centre s.role) (stations w))) n (stations w) one named is

-- ---- changes

of_the_centre : (known : List Station) (n : ℕ) (e : Edit) → the_centre known ≡ n → IsOfCentre known n e
of_the_centre known n (Reserve l limit) c = tt
of_the_centre known n (Floor l key from value) c = tt
of_the_centre known n (Start key value) c = tt
of_the_centre known n (Moved (Draw key)) c = c
of_the_centre known n (Moved (DropNet key)) c = tt
of_the_centre known n (Moved (DropLink p key)) c = tt
of_the_centre known n (Moved (Install key q)) c = tt
of_the_centre known n (Moved (Active key)) c = tt
of_the_centre known n (Moved (Row p key t)) c = tt
of_the_centre known n (Moved (Pair u v key)) c = tt
of_the_centre known n (Moved (Became g)) c = tt
of_the_centre known n (Moved (Live d)) c = c
of_the_centre known n (Moved (Removed d)) c = c
of_the_centre known n (Moved (Roll b)) c = tt
of_the_centre known n (Moved (Told d)) c = c
of_the_centre known n (Moved (Untold d)) c = c

of_another : (known : List Station) (n : ℕ) (e : Edit) → is_of_the_centre e ≡ false → IsOfCentre known n e
of_another known n (Reserve l limit) c = tt
of_another known n (Floor l key from value) c = tt
of_another known n (Start key value) c = tt
of_another known n (Moved (Draw key)) c = absurd (false≢true (sym c))
of_another known n (Moved (DropNet key)) c = tt
of_another known n (Moved (DropLink p key)) c = tt
of_another known n (Moved (Install key q)) c = tt
of_another known n (Moved (Active key)) c = tt
of_another known n (Moved (Row p key t)) c = tt
of_another known n (Moved (Pair u v key)) c = tt
of_another known n (Moved (Became g)) c = tt
of_another known n (Moved (Live d)) c = absurd (false≢true (sym c))
of_another known n (Moved (Removed d)) c = absurd (false≢true (sym c))
of_another known n (Moved (Roll b)) c = tt
of_another known n (Moved (Told d)) c = absurd (false≢true (sym c))
of_another known n (Moved (Untold d)) c = absurd (false≢true (sym c))

all_of_the_centre : (known : List Station) (n : ℕ) (es : List Edit) → the_centre known ≡ n
    → AllByRecursion (IsOfCentre known n) es
all_of_the_centre known n [] c = tt
all_of_the_centre known n (e ∷ es) c = (of_the_centre known n e c, all_of_the_centre known n es c)

neither_of : (a b : Bool) → (a || b) ≡ false → (a ≡ false) × (b ≡ false)
neither_of true b e = absurd (false≢true (sym e))
neither_of false b e = (refl, e)

all_of_another : (known : List Station) (n : ℕ) (es : List Edit) → list_any is_of_the_centre es ≡ false
    → AllByRecursion (IsOfCentre known n) es
all_of_another known n [] none = tt
all_of_another known n (e ∷ es) none =
    let both = neither_of (is_of_the_centre e) (list_any is_of_the_centre es) none in
    (of_another known n e both.0, all_of_another known n es both.1)

abbrev EditsOf : Schedule → ℕ → Answer → Type 0
EditsOf w n a = AllByRecursion (IsOfCentre (stations w) n) a.edits

edits_are : (tools : Tools) (w : Schedule) (h : List Line) (n : ℕ) (task : Task) → OneCentre w → Names w n
    → EditsOf w n (answer_to tools w h n task)
unfolding answer
edits_are tools w h n task one named = by_role (is_centre (setting_of w n).me.role) refl
  where
    by_role : (b : Bool) → is_centre (setting_of w n).me.role ≡ b → EditsOf w n (answer_to tools w h n task)
    by_role true is = all_of_the_centre (stations w) n (answer_to tools w h n task).edits (centre_is w n one named is)
    by_role false is = all_of_another (stations w) n (answer_to tools w h n task).edits
        (none-of-others tools (setting_of w n) (state_of h n) task is)

-- ---- the lines of a group

of_changes : (known : List Station) (number n : ℕ) (es : List Edit) → IsDeclared known n
    → AllByRecursion (IsOfCentre known n) es → AllByRecursion (Of known) (map (Changed number n) es)
of_changes known number n [] its all = tt
of_changes known number n (e ∷ es) its all = (((its, all.0), tt), of_changes known number n es its all.1)

of_commit : (known : List Station) (number n : ℕ) (es : List Edit) → IsDeclared known n
    → AllByRecursion (Of known) (commit_lines number n es)
of_commit known number n [] its = tt
of_commit known number n (e ∷ es) its = ((its, tt), tt)

of_accepts : (known : List Station) (number n : ℕ) (ts : List Term) → IsDeclared known n
    → AllByRecursion (Of known) (map (Accept number n) ts)
of_accepts known number n [] its = tt
of_accepts known number n (t ∷ ts) its = ((its, tt), of_accepts known number n ts its)

of_seals : (known : List Station) (number n : ℕ) (ts : List Term) → IsDeclared known n
    → AllByRecursion (Of known) (map (Seal number n) ts)
of_seals known number n [] its = tt
of_seals known number n (t ∷ ts) its = ((its, tt), of_seals known number n ts its)

of_refuse : (known : List Station) (number n : ℕ) (place : Place) (o : Option Reason) → IsDeclared known n
    → AllByRecursion (Of known) (refuse_lines number n place o)
of_refuse known number n place None its = tt
of_refuse known number n place (Some r) its = ((its, tt), tt)

of_send : (known : List Station) (number n frame : ℕ) (o : Option Bytes) → IsDeclared known n
    → AllByRecursion (Of known) (send_lines number (Some n) frame o)
of_send known number n frame None its = tt
of_send known number n frame (Some b) its = ((its, tt), tt)

of_fallen : (known : List Station) (armed : Armed) (number n : ℕ) → IsDeclared known n
    → AllByRecursion (Of known) (fallen_line armed number n)
of_fallen known NotArmed number n its = tt
of_fallen known (StopAfter calls torn) number n its = ((its, tt), tt)
of_fallen known (FailAt call) number n its = ((its, tt), tt)

of_stored : (w : Schedule) (number n : ℕ) (a : Answer) → Names w n → EditsOf w n a
    → AllByRecursion (Of (stations w)) (stored_lines number n a)
unfolding stored_lines
of_stored w number n a its edits =
    all-append (Of (stations w)) (map (Changed number n) a.edits) (commit_lines number n a.edits)
    (of_changes (stations w) number n a.edits its edits) (of_commit (stations w) number n a.edits its)

of_group : (w : Schedule) (h : List Line) (number n : ℕ) (a : Answer) → Names w n → EditsOf w n a
    → AllByRecursion (Of (stations w)) (group_of h number n a)
unfolding group_of told_lines
of_group w h number n a its edits =
    let known = stations w in
    all-append (Of known) (stored_lines number n a) _ (of_stored w number n a its edits)
    (all-append (Of known) (map (Accept number n) a.accepts) _ (of_accepts known number n a.accepts its)
    (all-append (Of known) (refuse_lines number n a.place a.refusal) _ (of_refuse known number n a.place a.refusal its)
    (all-append (Of known) (map (Seal number n) a.seals) _ (of_seals known number n a.seals its)
    (of_send known number n (length (air h) + 1) a.frame its))))

of_cut : (w : Schedule) (armed : Armed) (calls : Calls) (number n : ℕ) (a : Answer) → Names w n → EditsOf w n a
    → AllByRecursion (Of (stations w)) (cut_of armed calls number n a)
unfolding cut_of
of_cut w armed calls number n a its edits =
    all-append (Of (stations w)) (cond (stands armed calls) (stored_lines number n a) []) (fallen_line armed number n)
    (by_test (stands armed calls)) (of_fallen (stations w) armed number n its)
  where
    by_test : (b : Bool) → AllByRecursion (Of (stations w)) (cond b (stored_lines number n a) [])
    by_test true = of_stored w number n a its edits
    by_test false = tt

-- ---- steps

either : (known : List Station) (b : Bool) (x y : Step) → AllByRecursion (Of known) x.lines
    → AllByRecursion (Of known) y.lines → AllByRecursion (Of known) (cond b x y).lines
either known true x y p q = p
either known false x y p q = q

of_task : (tools : Tools) (w : Schedule) (h : List Line) (ds : List Disk) (number n : ℕ) (task : Task) → OneCentre w
    → Names w n → AllByRecursion (Of (stations w)) (task_step tools counting_of w h ds number n task).lines
unfolding task_step
of_task tools w h ds number n task one its =
    let a = answer_to tools w h n task in
    let calls = calls_for h n a.edits in
    let edits = edits_are tools w h n task one its in
    either (stations w) (is_up h n) (answer_step h ds number n a) (refused_step ds number n Down)
    (either (stations w) (falls (disk_of ds n).armed calls)
    (record {
      lines = cut_of (disk_of ds n).armed calls number n a;
      disks = with_disk ds n (record { armed = NotArmed; both_open = leaves_both (disk_of ds n).armed calls });
    })
    (record { lines = group_of h number n a; disks = ds })
    (of_cut w (disk_of ds n).armed calls number n a its edits) (of_group w h number n a its edits))
    ((its, tt), tt)

of_deliver : (tools : Tools) (w : Schedule) (h : List Line) (ds : List Disk) (number n : ℕ) (o : Option Bytes)
    → OneCentre w → Names w n
    → AllByRecursion (Of (stations w)) (deliver_step tools counting_of w h ds number n o).lines
of_deliver tools w h ds number n None one its = ((its, tt), tt)
of_deliver tools w h ds number n (Some bytes) one its = of_task tools w h ds number n (Received bytes (supply w h))
    one its

of_event : (tools : Tools) (w : Schedule) (h : List Line) (ds : List Disk) (number : ℕ) (event : Event) → OneCentre w
    → NamesNode w event → AllByRecursion (Of (stations w)) (step tools w h ds number event).lines
unfolding step step_by forged_net forged_both forged_open
of_event tools w h ds number (Own n task) one its = of_task tools w h ds number n task one its
of_event tools w h ds number (RollOver n) one its = of_task tools w h ds number n (DoRoll (supply w h)) one its
of_event tools w h ds number (Deliver frame n) one its = of_deliver tools w h ds number n (frame_at h frame) one its
of_event tools w h ds number (Reset n) one its =
    either (stations w) (is_up h n) (record { lines = DownReset number n ∷ []; disks = ds })
    (refused_step ds number n Down) ((its, tt), tt) ((its, tt), tt)
of_event tools w h ds number (PowerOn n) one its =
    either (stations w) (is_up h n) (refused_step ds number n WrongState) (boot_step ds number n) ((its, tt), tt)
    (either (stations w) (falls (disk_of ds n).armed (BootCalls (disk_of ds n).both_open))
    (record {
      lines = fallen_line (disk_of ds n).armed number n;
      disks =
          with_disk ds n
          (record
          { armed = NotArmed; both_open = leaves_both (disk_of ds n).armed (BootCalls (disk_of ds n).both_open) });
    })
    (record {
      lines = Boot number n
          ∷ [];
      disks = with_disk ds n (record { armed = (disk_of ds n).armed; both_open = false });
    })
    (of_fallen (stations w) (disk_of ds n).armed number n its) ((its, tt), tt))
of_event tools w h ds number (ShowRecord n) one its = ((its, tt), tt)
of_event tools w h ds number (ArmStop n calls torn) one its = tt
of_event tools w h ds number (ArmFail n call) one its = tt
of_event tools w h ds number (InjectBytes bytes) one its = ((tt, tt), tt)
of_event tools w h ds number (ForgeNet to from source key sequence counter content) one its =
    ((tt, tt), ((tt, tt), tt))
of_event tools w h ds number (ForgeNetAps to from source key sequence counter label base aps_counter command) one
    its = ((tt, tt), ((tt, tt), ((tt, tt), tt)))
of_event tools w h ds number (ForgeOpen to from source label base aps_counter command) one its =
    ((tt, tt), ((tt, tt), tt))

of_groups : (tools : Tools) (w : Schedule) (h : List Line) (ds : List Disk) (number : ℕ) (events : List Event)
    → OneCentre w → AllByRecursion (NamesNode w) events
    → AllByRecursion (Of (stations w)) (groups tools w h ds number events)
unfolding groups
of_groups tools w h ds number [] one named = tt
of_groups tools w h ds number (event ∷ events) one named =
    let g = step tools w h ds number event in
    all-append (Of (stations w)) g.lines (groups tools w (h ++ g.lines) g.disks (number + 1) events)
    (of_event tools w h ds number event one named.0)
    (of_groups tools w (h ++ g.lines) g.disks (number + 1) events one named.1)

-- ---- the start

declared_more : (p : Station) (ps : List Station) (n : ℕ) → IsDeclared ps n → IsDeclared (p ∷ ps) n
unfolding station_of
declared_more p ps n is = by_test (nat_eq p.eui n)
  where
    by_test : (b : Bool) → is_some (cond b (Some p) (find (λ (q : Station). nat_eq q.eui n) ps)) ≡ true
    by_test true = refl
    by_test false = is

declared_first : (p : Station) (ps : List Station) → IsDeclared (p ∷ ps) p.eui
unfolding station_of
declared_first p ps = ap (λ b. is_some (cond b (Some p) (find (λ (q : Station). nat_eq q.eui p.eui) ps)))
    (eq-eqb p.eui p.eui refl)

abbrev IsThere : List Station → Node → Type 0
IsThere known m = IsDeclared known m.station.eui

all_there : (ms : List Node) → AllByRecursion (IsThere (map (λ (m : Node). m.station) ms)) ms
all_there [] = tt
all_there (m ∷ ms) =
    let ps = map (λ (m : Node). m.station) ms in (
      declared_first m.station ps,
      all-map (IsThere ps) (IsThere (m.station ∷ ps))
          (λ x is. declared_more m.station ps x.station.eui is) ms (all_there ms),
    )

all_of_them : (ps : List Station) → AllByRecursion (IsOneOf ps) ps
all_of_them [] = tt
all_of_them (p ∷ ps) =
    (λ test all. all.0, all-map (IsOneOf ps) (IsOneOf (p ∷ ps)) (λ q one test all. one test all.1) ps (all_of_them ps))

of_declared : (known ps : List Station) → AllByRecursion (IsOneOf known) ps
    → AllByRecursion (Of known) (map Declared ps)
of_declared known [] all = tt
of_declared known (p ∷ ps) all = ((tt, all.0), of_declared known ps all.1)

of_each : (known : List Station) (f : Node → List Line)
    → ((m : Node) → IsThere known m → AllByRecursion (Of known) (f m)) → (ms : List Node)
    → AllByRecursion (IsThere known) ms → AllByRecursion (Of known) (flat_map f ms)
of_each known f each [] all = tt
of_each known f each (m ∷ ms) all = all-append (Of known) (f m) (flat_map f ms) (each m all.0)
    (of_each known f each ms all.1)

of_net : (known : List Station) (n : ℕ) (o : Option (Bytes × ℕ)) → IsDeclared known n
    → AllByRecursion (Of known) (net_line n o)
of_net known n None its = tt
of_net known n (Some given) its = ((its, tt), tt)

of_link : (known : List Station) (centre n : ℕ) (o : Option Bytes) → IsDeclared known n
    → AllByRecursion (Of known) (link_line centre n o)
of_link known centre n None its = tt
of_link known centre n (Some key) its = ((its, tt), tt)

of_limit : (known : List Station) (n : ℕ) (layer : Layer) (limit : ℕ) → IsDeclared known n
    → AllByRecursion (Of known) (limit_line n layer limit)
of_limit known n layer limit its = by_test (nat_eq limit 0)
  where
    by_test : (b : Bool)
        → AllByRecursion (Of known) (cond b [] (Rattle.zb_model.specs.Lines.Counter n layer limit ∷ []))
    by_test true = tt
    by_test false = ((its, tt), tt)

of_start : (w : Schedule) → AllByRecursion (Of (stations w)) (start w)
unfolding start
of_start w =
    let known = stations w in
    let there = all_there w.nodes in
    all-append (Of known) (map Declared known) _ (of_declared known known (all_of_them known))
    (all-append (Of known) (flat_map (λ (m : Node). net_line m.station.eui m.network) w.nodes) _
    (of_each known (λ (m : Node). net_line m.station.eui m.network)
    (λ m its. of_net known m.station.eui m.network its) w.nodes there)
    (all-append (Of known) (flat_map (λ (m : Node). link_line (centre_of known) m.station.eui m.code) w.nodes) _
    (of_each known (λ (m : Node). link_line (centre_of known) m.station.eui m.code)
    (λ m its. of_link known (centre_of known) m.station.eui m.code its) w.nodes there)
    (of_each known (λ (m : Node). limit_line m.station.eui Nwk m.start_nwk ++ limit_line m.station.eui Aps m.start_aps)
    (λ m its. all-append (Of known) (limit_line m.station.eui Nwk m.start_nwk)
    (limit_line m.station.eui Aps m.start_aps) (of_limit known m.station.eui Nwk m.start_nwk its)
    (of_limit known m.station.eui Aps m.start_aps its))
    w.nodes there)))

pub are_of_nodes : (tools : Tools) (w : Schedule) → IsSchedule w → OneCentre w → AreOfNodes tools w
unfolding transcript run_lines end_line
are_of_nodes tools w is one =
    all-append (Of (stations w)) (run_lines tools w) (end_line tools (length w.events) (run_lines tools w) ∷ [])
    (all-append (Of (stations w)) (start w) (groups tools w (start w) [] 1 w.events) (of_start w)
    (of_groups tools w (start w) [] 1 w.events one is.events))
    ((tt, tt), tt)
