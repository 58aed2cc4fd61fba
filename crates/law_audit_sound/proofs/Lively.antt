-- If a line of a run gives or installs a network key, its node has no row of that key yet.
use Rattle.std.proofs.Common.{◌≡◌, ℕ, ◌+◌, ◌||◌, Bool, true, false, cond, not, List, [], ◌∷◌, ◌++◌, fold, map, flat_map, length, Option, Some, None, nat_eq, refl, sym, ap, ◌∙◌}
use Rattle.std.specs.List.{AllByRecursion, list_any}
use Rattle.std.proofs.lemmas.Bool.{and_parts, false≢true, not-true}
use Rattle.zb_model.specs.Answer.{Answer, answer, counting_of}
use Rattle.zb_model.specs.Claims.{Each}
use Rattle.zb_model.specs.Data.{Bytes, Draw, DropNet, DropLink, Install, Active, Row, Pair, Became, Live, Removed, Roll, Told, Untold, Edit, Reserve, Floor, Start, Moved, Reason, Down, NoFrame, WrongState, Device, Station, Task, Received, DoRoll, Layer, Nwk, Aps}
use Rattle.zb_model.specs.Fits.{all_apart, all_fit, fits, keeps_rules}
use Rattle.zb_model.specs.Lines.{Line, Declared, GivenNet, Counter, Changed, DownReset, Boot}
use Rattle.zb_model.specs.Play.{Schedule, Node, Event, Own, RollOver, Deliver, Reset, PowerOn, ShowRecord, ArmStop, ArmFail, InjectBytes, ForgeNet, ForgeNetAps, ForgeOpen, Step, Disk, Armed, NotArmed, Calls, BootCalls, stations, net_line, link_line, limit_line, start, setting_of, disk_of, with_disk, falls, stands, calls_for, leaves_both, commit_lines, stored_lines, told_lines, group_of, cut_of, fallen_line, answer_step, boot_step, refused_step, task_step, deliver_step, frame_at, supply, forged_net, forged_both, forged_open, step_by, step, groups}
use Rattle.zb_model.specs.Readings.{state_of, heard_line, speaker, after, is_up, air}
use Rattle.zb_model.specs.Rules.{Setting, centre_of}
use Rattle.zb_model.specs.Schedules.{IsSchedule}
use Rattle.zb_model.specs.State.{NodeState, NetKey, has_net, applied, new_node}
use Rattle.zb_model.specs.Tools.{Tools}
use Rattle.zb_model.specs.Transcript.{end_line, run_lines, transcript}
use Rattle.law_change_fits.proofs.Tests.{apart_seen}
use Rattle.law_run.specs.Events.{BeforeEach}
use Rattle.law_run.proofs.Basics.{each-append, state-snoc}
use Rattle.law_run.proofs.EventStates.{answer_to}
use Rattle.law_run.proofs.FreshLines.{all-append}
use Rattle.law_run.proofs.Groups.{changed-line}
use Rattle.law_tables_suffice.specs.Along.{OfNode, IsAsDeclared, IsRuled, euis_differ}
use Rattle.law_tables_suffice.proofs.Ready.{declared_along, ruled_along}
use Rattle.law_run_steps.proofs.Walks.{OfTold, commit-all, fallen-all, map-all, told-all}
use Rattle.law_answer_storable.specs.Storing.{OpensAsJudged}
use Rattle.law_answer_storable.proofs.Answers.{all_stored}

-- a line that gives or installs a network key finds no row of it
abbrev pub IsLively : List Line → Line → Type 0
IsLively h (GivenNet n key sequence) = has_net key (state_of h n).nets ≡ false
IsLively h (Changed e n (Moved (Install key sequence))) = has_net key (state_of h n).nets ≡ false
IsLively h _ = Unit {0}

-- ---- lines that say nothing about it

abbrev Quiet : Line → Type 0
Quiet l = (h : List Line) → IsLively h l

quiet_lines : (h ls : List Line) → AllByRecursion Quiet ls → Each IsLively h ls
quiet_lines h [] all = tt
quiet_lines h (l ∷ ls) all = (all.0 h, quiet_lines (h ++ l ∷ []) ls all.1)

quiet_told : (number n : ℕ) → OfTold Quiet number n
quiet_told number n =
    record { accept = λ t h. tt; refuse = λ place reason h. tt; seal = λ t h. tt; send = λ o frame bytes h. tt }

-- ---- the changes of an answer

not_there : (key : Bytes) (q : ℕ) (s : NodeState) → fits (Moved (Install key q)) s ≡ true → has_net key s.nets ≡ false
unfolding fits
not_there key q s e =
    not-true (has_net key s.nets)
    (and_parts (not (has_net key s.nets)) (keeps_rules (applied (Moved (Install key q)) s)) e).0

change_lively : (h : List Line) (number n : ℕ) (e : Edit) → fits e (state_of h n) ≡ true
    → IsLively h (Changed number n e)
change_lively h number n (Reserve layer limit) fit = tt
change_lively h number n (Floor layer key sender value) fit = tt
change_lively h number n (Start key value) fit = tt
change_lively h number n (Moved (Draw key)) fit = tt
change_lively h number n (Moved (DropNet key)) fit = tt
change_lively h number n (Moved (DropLink partner key)) fit = tt
change_lively h number n (Moved (Install key q)) fit = not_there key q (state_of h n) fit
change_lively h number n (Moved (Active key)) fit = tt
change_lively h number n (Moved (Row partner key attribute)) fit = tt
change_lively h number n (Moved (Pair first second key)) fit = tt
change_lively h number n (Moved (Became state)) fit = tt
change_lively h number n (Moved (Live device)) fit = tt
change_lively h number n (Moved (Removed device)) fit = tt
change_lively h number n (Moved (Roll sending)) fit = tt
change_lively h number n (Moved (Told device)) fit = tt
change_lively h number n (Moved (Untold device)) fit = tt

all_parts : (e : Edit) (es : List Edit) (s : NodeState) → all_fit (e ∷ es) s ≡ true → (fits e s ≡ true)
    × (all_fit es (applied e s) ≡ true)
unfolding all_fit
all_parts e es s fit = and_parts (fits e s) (all_fit es (applied e s)) fit

changes_lively : (number n : ℕ) (es : List Edit) (h : List Line) → all_fit es (state_of h n) ≡ true
    → Each IsLively h (map (Changed number n) es)
changes_lively number n [] h fit = tt
changes_lively number n (e ∷ es) h fit =
    let parts = all_parts e es (state_of h n) fit in
    let same : state_of (h ++ Changed number n e ∷ []) n ≡ applied e (state_of h n) =
    state-snoc h (Changed number n e) n ∙ changed-line number n e (state_of h n) in (
      change_lively h number n e parts.0,
      changes_lively number n es (h ++ Changed number n e ∷ [])
          (ap (all_fit es) same ∙ parts.1),
    )

-- ---- a step

stored_lively : (h : List Line) (number n : ℕ) (a : Answer) → all_fit a.edits (state_of h n) ≡ true
    → Each IsLively h (stored_lines number n a)
unfolding stored_lines
stored_lively h number n a fit =
    each-append IsLively h (map (Changed number n) a.edits) (commit_lines number n a.edits)
    (changes_lively number n a.edits h fit)
    (quiet_lines (h ++ map (Changed number n) a.edits) (commit_lines number n a.edits)
    (commit-all Quiet number n (λ g. tt) a.edits))

group_lively : (h : List Line) (number n : ℕ) (a : Answer) → all_fit a.edits (state_of h n) ≡ true
    → Each IsLively h (group_of h number n a)
unfolding group_of
group_lively h number n a fit =
    each-append IsLively h (stored_lines number n a) (told_lines number n (length (air h) + 1) a)
    (stored_lively h number n a fit)
    (quiet_lines (h ++ stored_lines number n a) (told_lines number n (length (air h) + 1) a)
    (told-all Quiet number n (quiet_told number n) (length (air h) + 1) a))

cut_lively : (h : List Line) (armed : Armed) (calls : Calls) (number n : ℕ) (a : Answer)
    → all_fit a.edits (state_of h n) ≡ true → Each IsLively h (cut_of armed calls number n a)
unfolding cut_of
cut_lively h armed calls number n a fit =
    each-append IsLively h some (fallen_line armed number n) (by_test (stands armed calls))
    (quiet_lines (h ++ some) (fallen_line armed number n) (fallen-all Quiet number n (λ g. tt) (λ g. tt) armed))
  where
    some : List Line
    some = cond (stands armed calls) (stored_lines number n a) []

    by_test : (b : Bool) → Each IsLively h (cond b (stored_lines number n a) [])
    by_test true = stored_lively h number n a fit
    by_test false = tt

either : (h : List Line) (b : Bool) (x y : Step) → Each IsLively h x.lines → Each IsLively h y.lines
    → Each IsLively h (cond b x y).lines
either h true x y p q = p
either h false x y p q = q

refused_lively : (h : List Line) (ds : List Disk) (number n : ℕ) (reason : Reason)
    → Each IsLively h (refused_step ds number n reason).lines
refused_lively h ds number n reason = (tt, tt)

-- the changes of each answer of a node fit
abbrev AnswersFit : Tools → Schedule → List Line → ℕ → Type 0
AnswersFit tools w h n = (task : Task) → all_fit (answer_to tools w h n task).edits (state_of h n) ≡ true

task_lively : (tools : Tools) (w : Schedule) (h : List Line) (ds : List Disk) (number n : ℕ) (task : Task)
    → AnswersFit tools w h n → Each IsLively h (task_step tools counting_of w h ds number n task).lines
unfolding task_step
task_lively tools w h ds number n task fit =
    let a = answer_to tools w h n task in
    let calls = calls_for h n a.edits in
    either h (is_up h n) (answer_step h ds number n a) (refused_step ds number n Down)
    (either h (falls (disk_of ds n).armed calls)
    (record {
      lines = cut_of (disk_of ds n).armed calls number n a;
      disks = with_disk ds n (record { armed = NotArmed; both_open = leaves_both (disk_of ds n).armed calls });
    })
    (record { lines = group_of h number n a; disks = ds })
    (cut_lively h (disk_of ds n).armed calls number n a (fit task)) (group_lively h number n a (fit task)))
    (refused_lively h ds number n Down)

deliver_lively : (tools : Tools) (w : Schedule) (h : List Line) (ds : List Disk) (number n : ℕ) (o : Option Bytes)
    → AnswersFit tools w h n → Each IsLively h (deliver_step tools counting_of w h ds number n o).lines
deliver_lively tools w h ds number n None fit = refused_lively h ds number n (cond (is_up h n) NoFrame Down)
deliver_lively tools w h ds number n (Some bytes) fit =
    task_lively tools w h ds number n (Received bytes (supply w h)) fit

boot_lively : (h : List Line) (ds : List Disk) (number n : ℕ) → Each IsLively h (boot_step ds number n).lines
boot_lively h ds number n =
    either h (falls (disk_of ds n).armed (BootCalls (disk_of ds n).both_open))
    (record {
      lines = fallen_line (disk_of ds n).armed number n;
      disks =
          with_disk ds n
          (record
          { armed = NotArmed; both_open = leaves_both (disk_of ds n).armed (BootCalls (disk_of ds n).both_open) });
    })
    (record {
      lines = Boot number n
          ∷ [];
      disks = with_disk ds n (record { armed = (disk_of ds n).armed; both_open = false });
    })
    (quiet_lines h (fallen_line (disk_of ds n).armed number n)
    (fallen-all Quiet number n (λ g. tt) (λ g. tt) (disk_of ds n).armed)) (tt, tt)

step_lively : (tools : Tools) (w : Schedule) (h : List Line) (ds : List Disk) (number : ℕ) (event : Event)
    → OfNode (AnswersFit tools w h) event → Each IsLively h (step tools w h ds number event).lines
unfolding step step_by forged_net forged_both forged_open
step_lively tools w h ds number (Own n task) fit = task_lively tools w h ds number n task fit
step_lively tools w h ds number (RollOver n) fit = task_lively tools w h ds number n (DoRoll (supply w h)) fit
step_lively tools w h ds number (Deliver frame n) fit = deliver_lively tools w h ds number n (frame_at h frame) fit
step_lively tools w h ds number (Reset n) fit =
    either h (is_up h n) (record { lines = DownReset number n ∷ []; disks = ds }) (refused_step ds number n Down)
    (tt, tt) (tt, tt)
step_lively tools w h ds number (PowerOn n) fit = either h (is_up h n) (refused_step ds number n WrongState)
    (boot_step ds number n) (tt, tt) (boot_lively h ds number n)
step_lively tools w h ds number (ShowRecord n) fit = (tt, tt)
step_lively tools w h ds number (ArmStop n calls torn) fit = tt
step_lively tools w h ds number (ArmFail n call) fit = tt
step_lively tools w h ds number (InjectBytes bytes) fit = (tt, tt)
step_lively tools w h ds number (ForgeNet to from source key sequence counter content) fit = (tt, (tt, tt))
step_lively tools w h ds number (ForgeNetAps to from source key sequence counter label base aps_counter command) fit =
    (tt, (tt, (tt, tt)))
step_lively tools w h ds number (ForgeOpen to from source label base aps_counter command) fit = (tt, (tt, tt))

-- ---- all events

answers_fit : (tools : Tools) → OpensAsJudged tools → (w : Schedule) (h : List Line) (n : ℕ)
    → IsRuled (state_of h n) (setting_of w n) n → IsAsDeclared (state_of h n) (setting_of w n) n
    → AnswersFit tools w h n
unfolding answer
answers_fit tools judged w h n ruled declared task = all_stored tools judged (setting_of w n) (state_of h n) task
    ruled declared.role declared.in_block

both_of_node : (P Q R : ℕ → Type 0) → ((n : ℕ) → P n → Q n → R n) → (event : Event) → OfNode P event → OfNode Q event
    → OfNode R event
both_of_node P Q R f (Own n task) p q = f n p q
both_of_node P Q R f (RollOver n) p q = f n p q
both_of_node P Q R f (Deliver frame n) p q = f n p q
both_of_node P Q R f (Reset n) p q = f n p q
both_of_node P Q R f (PowerOn n) p q = f n p q
both_of_node P Q R f (ShowRecord n) p q = f n p q
both_of_node P Q R f (ArmStop n calls torn) p q = f n p q
both_of_node P Q R f (ArmFail n call) p q = f n p q
both_of_node P Q R f (InjectBytes bytes) p q = tt
both_of_node P Q R f (ForgeNet to from source key sequence counter content) p q = tt
both_of_node P Q R f (ForgeNetAps to from source key sequence counter label base aps_counter command) p q = tt
both_of_node P Q R f (ForgeOpen to from source label base aps_counter command) p q = tt

abbrev Before : (NodeState → Setting → ℕ → Type 0) → Schedule → List Line → Event → Type 0
Before P w h event = OfNode (λ n. P (state_of h n) (setting_of w n) n) event

groups_lively : (tools : Tools) → OpensAsJudged tools → (w : Schedule) (h : List Line) (ds : List Disk) (number : ℕ)
    (events : List Event) → BeforeEach (Before IsRuled w) tools w h ds number events
    → BeforeEach (Before IsAsDeclared w) tools w h ds number events
    → Each IsLively h (groups tools w h ds number events)
unfolding groups
groups_lively tools judged w h ds number [] ruled declared = tt
groups_lively tools judged w h ds number (event ∷ events) ruled declared =
    let g = step tools w h ds number event in
    each-append IsLively h g.lines (groups tools w (h ++ g.lines) g.disks (number + 1) events)
    (step_lively tools w h ds number event
    (both_of_node (λ n. IsRuled (state_of h n) (setting_of w n) n)
    (λ n. IsAsDeclared (state_of h n) (setting_of w n) n) (AnswersFit tools w h)
    (λ n r d. answers_fit tools judged w h n r d) event ruled.0 declared.0))
    (groups_lively tools judged w (h ++ g.lines) g.disks (number + 1) events ruled.1 declared.1)

-- ---- the start

abbrev net_lines : Node → List Line
net_lines m = net_line m.station.eui m.network

-- its node has no network key yet
abbrev HasNoNets : List Line → Node → Type 0
HasNoNets h m = (state_of h m.station.eui).nets ≡ []

abbrev nodes_differ : List Node → Bool
nodes_differ ms = all_apart (λ (a b : Node). nat_eq a.station.eui b.station.eui) ms

other_none : (h : List Line) (n : ℕ) (given : Bytes × ℕ) (m : Node) → nat_eq n m.station.eui ≡ false → HasNoNets h m
    → HasNoNets (h ++ GivenNet n given.0 given.1 ∷ []) m
unfolding heard_line speaker
other_none h n given m other none =
    ap (λ (s : NodeState). s.nets) (state-snoc h (GivenNet n given.0 given.1) m.station.eui
    ∙ ap (λ b. cond b (after (GivenNet n given.0 given.1) (state_of h m.station.eui)) (state_of h m.station.eui))
    other) ∙ none

or_none : (a b : Bool) → (a || b) ≡ false → (a ≡ false) × (b ≡ false)
or_none true b e = absurd (false≢true (sym e))
or_none false b e = (refl, e)

all_other : (h : List Line) (n : ℕ) (given : Bytes × ℕ) (ms : List Node)
    → list_any (λ (k : Node). nat_eq n k.station.eui) ms ≡ false → AllByRecursion (HasNoNets h) ms
    → AllByRecursion (HasNoNets (h ++ GivenNet n given.0 given.1 ∷ [])) ms
all_other h n given [] apart all = tt
all_other h n given (m ∷ ms) apart all =
    let parts = or_none (nat_eq n m.station.eui) (list_any (λ (k : Node). nat_eq n k.station.eui) ms) apart in
    (other_none h n given m parts.0 all.0, all_other h n given ms parts.1 all.1)

none_has : (key : Bytes) (nets : List NetKey) → nets ≡ [] → has_net key nets ≡ false
none_has key nets e = ap (has_net key) e

nets_lively : (h : List Line) (ms : List Node) → nodes_differ ms ≡ true → AllByRecursion (HasNoNets h) ms
    → Each IsLively h (flat_map net_lines ms)
nets_lively h [] differ all = tt
nets_lively h (m ∷ ms) differ all =
    by_net m.network (nets_lively h ms parts.1 all.1)
    (λ given. nets_lively (h ++ GivenNet m.station.eui given.0 given.1 ∷ []) ms parts.1
    (all_other h m.station.eui given ms parts.0 all.1))
  where
    parts : (list_any (λ (k : Node). nat_eq m.station.eui k.station.eui) ms ≡ false) × (nodes_differ ms ≡ true)
    parts =
        let p = and_parts (not (list_any (λ (k : Node). nat_eq m.station.eui k.station.eui) ms)) (nodes_differ ms)
        differ in
        (not-true (list_any (λ (k : Node). nat_eq m.station.eui k.station.eui) ms) p.0, p.1)

    by_net : (o : Option (Bytes × ℕ)) → Each IsLively h (flat_map net_lines ms)
        → ((given : Bytes × ℕ) → Each IsLively (h ++ GivenNet m.station.eui given.0 given.1 ∷ [])
        (flat_map net_lines ms))
        → Each IsLively h (net_line m.station.eui o ++ flat_map net_lines ms)
    by_net None none some = none
    by_net (Some given) none some = (none_has given.0 (state_of h m.station.eui).nets all.0, some given)

declared_none : (n : ℕ) (ps : List Station) (s : NodeState) → s.nets ≡ []
    → (fold (heard_line n) s (map Declared ps)).nets ≡ []
unfolding heard_line speaker after
declared_none n [] s none = none
declared_none n (p ∷ ps) s none = declared_none n ps (heard_line n s (Declared p)) (by_test (nat_eq p.eui n))
  where
    by_test : (b : Bool) → (cond b (record s { role = p.role }) s).nets ≡ []
    by_test true = none
    by_test false = none

all_none : (ps : List Station) (ms : List Node) → AllByRecursion (HasNoNets (map Declared ps)) ms
unfolding state_of
all_none ps [] = tt
all_none ps (m ∷ ms) = (declared_none m.station.eui ps (new_node Device) refl, all_none ps ms)

quiet_each : (f : Node → List Line) → ((m : Node) → AllByRecursion Quiet (f m)) → (ms : List Node)
    → AllByRecursion Quiet (flat_map f ms)
quiet_each f each [] = tt
quiet_each f each (m ∷ ms) = all-append Quiet (f m) (flat_map f ms) (each m) (quiet_each f each ms)

quiet_link : (centre n : ℕ) (o : Option Bytes) → AllByRecursion Quiet (link_line centre n o)
quiet_link centre n None = tt
quiet_link centre n (Some key) = (λ h. tt, tt)

quiet_limit : (n : ℕ) (layer : Layer) (v : ℕ) (b : Bool) → AllByRecursion Quiet (cond b [] (Counter n layer v ∷ []))
quiet_limit n layer v true = tt
quiet_limit n layer v false = (λ h. tt, tt)

start_lively : (w : Schedule) → euis_differ w ≡ true → Each IsLively [] (start w)
unfolding start euis_differ
start_lively w differ =
    each-append IsLively [] (map Declared (stations w)) (nets ++ (links ++ limits))
    (quiet_lines [] (map Declared (stations w)) (map-all Quiet Declared (λ p h. tt) (stations w)))
    (each-append IsLively (map Declared (stations w)) nets (links ++ limits)
    (nets_lively (map Declared (stations w)) w.nodes nodes (all_none (stations w) w.nodes))
    (quiet_lines (map Declared (stations w) ++ nets) (links ++ limits)
    (all-append Quiet links limits
    (quiet_each (λ (m : Node). link_line (centre_of (stations w)) m.station.eui m.code)
    (λ m. quiet_link (centre_of (stations w)) m.station.eui m.code) w.nodes)
    (quiet_each (λ (m : Node). limit_line m.station.eui Nwk m.start_nwk ++ limit_line m.station.eui Aps m.start_aps)
    (λ m. all-append Quiet (limit_line m.station.eui Nwk m.start_nwk) (limit_line m.station.eui Aps m.start_aps)
    (quiet_limit m.station.eui Nwk m.start_nwk (nat_eq m.start_nwk 0))
    (quiet_limit m.station.eui Aps m.start_aps (nat_eq m.start_aps 0))) w.nodes))))
  where
    nets : List Line
    nets = flat_map net_lines w.nodes

    links : List Line
    links = flat_map (λ (m : Node). link_line (centre_of (stations w)) m.station.eui m.code) w.nodes

    limits : List Line
    limits =
        flat_map (λ (m : Node). limit_line m.station.eui Nwk m.start_nwk ++ limit_line m.station.eui Aps m.start_aps)
        w.nodes

    nodes : nodes_differ w.nodes ≡ true
    nodes = sym (apart_seen (λ (a b : Station). nat_eq a.eui b.eui) (λ (k : Node). k.station) w.nodes) ∙ differ

pub run_lively : (tools : Tools) → OpensAsJudged tools → (w : Schedule) → IsSchedule w → euis_differ w ≡ true
    → Each IsLively [] (transcript tools w)
unfolding transcript run_lines end_line
run_lively tools judged w is differ =
    each-append IsLively [] (run_lines tools w) (end_line tools (length w.events) (run_lines tools w) ∷ [])
    (each-append IsLively [] (start w) (groups tools w (start w) [] 1 w.events) (start_lively w differ)
    (groups_lively tools judged w (start w) [] 1 w.events (ruled_along tools judged w is differ)
    (declared_along tools w is differ)))
    (tt, tt)
