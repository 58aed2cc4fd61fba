-- Each node of a schedule starts as the start lines say.
use Rattle.std.proofs.Common.{◌≡◌, ℕ, zero, suc, ◌+◌, ◌<◌, ◌≤◌, List, [], ◌∷◌, ◌++◌, map, take, get_or, length, length-append, add-one, true, refl, sym, ap, ◌∙◌, subst, arith, Some}
use Rattle.std.specs.Prelude.{slice_get}
use Rattle.std.specs.List.{AllByRecursion}
use Rattle.std.proofs.lemmas.List.{length-map}
use Rattle.std.proofs.lemmas.Option.{slice_get-get_or}
use Rattle.zb_base.specs.Outside.{risen}
use Rattle.zb_base.specs.declared.node.Config.{Config}
use Rattle.zb_disk.specs.Memory.{Medium}
use Rattle.zb_player_start.specs.Firsts.{AreNodesOf, IsFirstDisk, begins_with, model_node}
use Rattle.zb_player_start.proofs.Lists.{map_at}
use Rattle.zb_player_start.proofs.Settings.{apart_nodes, found_by_eui, stations_are, stations_in}
use Rattle.zb_player_start.proofs.DeclaredLines.{disk_is_new}
use Rattle.zb_model.specs.Data.{Role, Station}
use Rattle.zb_model.specs.Lines.{Line}
use Rattle.zb_model.specs.Play as model
use Rattle.zb_model.specs.Play.{Disk, setting_of, start, station_or}
use Rattle.zb_model.specs.Readings.{commits_of, is_up, state_of}
use Rattle.zb_model.specs.Record.{record_of}
use Rattle.zb_model.specs.Rules.{Setting, centre_of, station_of}
use Rattle.zb_model.specs.State.{NodeState}
use Rattle.law_schedules.specs.Schedules.{node_for, schedule_of, station_for}
use Rattle.law_run_steps.specs.Conditions.{condition_of}
use Rattle.zb_setting.specs.Settings.{setting_for}
use Rattle.zb_player_node.specs.Answers.{CanStart, IsStarted, start_condition}
use Rattle.zb_player_node.specs.Nodes.{AllStand, IsIn, IsSeat, IsStored}
use Rattle.zb_player_node.specs.Values.{NodeValue}
use Rattle.zb_node_types.specs.Changes.{model_role}
use Rattle.zb_sched.specs.Schedules.{Schedule, node_of}
use Rattle.zb_sched.specs.Valid.{IsSchedule}
use Rattle.zb_sched.specs.declared.schedule.Node.{Node as CodeNode}
use Rattle.zb_sched.proofs.Lists.{all_append}
use Rattle.zb_store.specs.Layout.{Standing}
use Rattle.zb_store.specs.Store.{formatted}
use Rattle.zb_player_start.specs.Seats.{IsSeated}
use Rattle.zb_player_start.proofs.Turns.{whole}

abbrev pub station : CodeNode → Station
station d = station_for (node_of d)

-- a node at a place, and its station

pub node_at : (ds : List CodeNode) (me : ℕ) (d : CodeNode) → me < length ds → d ≡ get_or ds me d → slice_get ds me
    ≡ Some d
node_at ds me d within is = slice_get-get_or ds me d within ∙ ap Some (sym is)

station_in : (ds : List CodeNode) (me : ℕ) (d : CodeNode) → slice_get ds me ≡ Some d → slice_get (stations_in ds) me
    ≡ Some (station d)
station_in ds me d at = map_at station_for (map node_of ds) me (node_of d) (map_at node_of ds me d at)

pub station_at : (p : Schedule) (ds : List CodeNode) → AreNodesOf p ds → (me : ℕ) (d : CodeNode) → slice_get ds me
    ≡ Some d → slice_get (model.stations (schedule_of p)) me ≡ Some (station d)
station_at p ds is me d at = subst (λ ps. slice_get ps me ≡ Some (station d)) (sym (stations_are p ds is))
    (station_in ds me d at)

model_at : (p : Schedule) (ds : List CodeNode) → AreNodesOf p ds → (me : ℕ) (d : CodeNode) → slice_get ds me ≡ Some d
    → slice_get (schedule_of p).nodes me ≡ Some (model_node d)
unfolding schedule_of
model_at p ds is me d at =
    subst (λ ms. slice_get (map node_for ms) me ≡ Some (model_node d)) (sym is.nodes)
    (map_at node_for (map node_of ds) me (node_of d) (map_at node_of ds me d at))

-- a node's setting is of its role
pub role_in : (p : Schedule) (ds : List CodeNode) → AreNodesOf p ds → (me : ℕ) (d : CodeNode) → slice_get ds me
    ≡ Some d → (setting_of (schedule_of p) d.peer.eui.0).me.role ≡ model_role d.peer.role
unfolding setting_of
role_in p ds is me d at =
    let found : station_of (stations_in ds) d.peer.eui.0 ≡ Some (station d) = found_by_eui ds (apart_nodes p ds is) me
    (station d) (station_in ds me d at) in
    ap (λ ps. (station_or (station_of ps d.peer.eui.0)).role) (stations_are p ds is) ∙ ap (λ o. (station_or o).role)
    found

-- the condition at the start

start_condition_is : (w : model.Schedule) (n : ℕ) (t : NodeState) → state_of (start w) n ≡ t → is_up (start w) n
    ≡ true → commits_of (start w) n ≡ 0
    → start_condition (setting_of w n) t ≡ condition_of w (start w) [] n
start_condition_is w n t state up commits = rw (state, up, commits, disk_is_new n) refl

can_start : (setting : Setting) (role : Role) (t : NodeState) (config : Config) (m : Medium) → setting_for config
    ≡ setting → setting.me.role ≡ role → IsFirstDisk role t m
    → CanStart setting t (formatted (record_of t)) config m
can_start setting role t config m same is first = record {
  setting_is = same;
  stored = subst (λ r. IsStored r t 0 0 (formatted (record_of t))) (sym is)
      (record {
        reads = first.given;
        gives_it = first.gives_it;
        newest = first.newest;
        entries = refl;
        generation = omega arith;
      });
  booted = first.booted;
  held = first.held;
  unarmed = first.unarmed;
}

-- what the start lines say
abbrev States : Type 0
States = (p : Schedule) (me : ℕ) (m : model.Node) → IsSchedule p → slice_get (schedule_of p).nodes me ≡ Some m
    → state_of (start (schedule_of p)) m.station.eui ≡ begins_with (centre_of (model.stations (schedule_of p))) m

abbrev Powered : Type 0
Powered = (w : model.Schedule) (n : ℕ) → is_up (start w) n ≡ true

abbrev Uncommitted : Type 0
Uncommitted = (w : model.Schedule) (n : ℕ) → commits_of (start w) n ≡ 0

pub started : (p : Schedule) (ds : List CodeNode) → AreNodesOf p ds → (me : ℕ) (d : CodeNode) → slice_get ds me
    ≡ Some d → (centre : ℕ) → centre ≡ centre_of (model.stations (schedule_of p))
    → (config : Config) (node : NodeValue) (m new : Medium) → setting_for config
    ≡ setting_of (schedule_of p) d.peer.eui.0 → node.peer ≡ d.peer
    → IsFirstDisk (model_role d.peer.role) (begins_with centre (model_node d)) m
    → ((setting : Setting) (state : NodeState) (s : Standing) → CanStart setting state s config m
    → IsStarted setting state m node new)
    → States → Powered → Uncommitted → IsSeated (schedule_of p) (station d) node new
started p ds is me d at centre same config node m new setting peer first starts states powered uncommitted =
    let w = schedule_of p in
    let t : NodeState = begins_with centre (model_node d) in
    let state : state_of (start w) d.peer.eui.0 ≡ t = states p me (model_node d) is.valid (model_at p ds is me d at) ∙
    ap (λ c. begins_with c (model_node d)) (sym same) in
    let may : CanStart (setting_of w d.peer.eui.0) t (formatted (record_of t)) config m =
    can_start (setting_of w d.peer.eui.0) (model_role d.peer.role) t config m setting (role_in p ds is me d at)
    first in
    let boots : IsStarted (setting_of w d.peer.eui.0) t m node new =
    starts (setting_of w d.peer.eui.0) t (formatted (record_of t)) may in
    record {
      seat = record {
        name = ap (λ x. x.name.bytes) peer;
        eui = ap (λ x. x.eui.0) peer;
        role = ap (λ x. model_role x.role) peer;
      };
      stands =
          subst (λ x. IsIn x 1 node new)
          (start_condition_is w d.peer.eui.0 t state (powered w d.peer.eui.0) (uncommitted w d.peer.eui.0)) boots.is;
      calls = boots.calls ∙ ap (λ n. risen n 1) first.calls;
    }

pub started_at : (p : Schedule) (ds : List CodeNode) → AreNodesOf p ds → (me : ℕ) (d : CodeNode) → slice_get ds me
    ≡ Some d → (s : Station) → slice_get (model.stations (schedule_of p)) me ≡ Some s
    → (node : NodeValue) (m : Medium) → IsSeated (schedule_of p) (station d) node m → IsSeated (schedule_of p) s node m
started_at p ds is me d at s found node m it =
    let here : slice_get (model.stations (schedule_of p)) me ≡ Some (station d) = station_at p ds is me d at in
    let same : station d ≡ s = cc in
    subst (λ x. IsSeated (schedule_of p) x node m) same it

-- one node more

pub all_stand_more : (w : model.Schedule) (h : List Line) (ds : List Disk) (number : ℕ) (ps : List Station)
    (nodes : List NodeValue) (ms : List Medium) (p : Station) (node : NodeValue) (m : Medium)
    → AllStand w h ds number ps nodes ms → IsSeat p node → IsIn (condition_of w h ds p.eui) number node m
    → AllStand w h ds number (ps ++ p ∷ []) (nodes ++ node ∷ []) (ms ++ m ∷ [])
all_stand_more w h ds number [] [] [] p node m all seat stands = (seat, stands, tt)
all_stand_more w h ds number [] [] (y ∷ ms) p node m all seat stands = absurd all
all_stand_more w h ds number [] (n ∷ nodes) [] p node m all seat stands = absurd all
all_stand_more w h ds number [] (n ∷ nodes) (y ∷ ms) p node m all seat stands = absurd all
all_stand_more w h ds number (q ∷ ps) [] [] p node m all seat stands = absurd all
all_stand_more w h ds number (q ∷ ps) [] (y ∷ ms) p node m all seat stands = absurd all
all_stand_more w h ds number (q ∷ ps) (n ∷ nodes) [] p node m all seat stands = absurd all
all_stand_more w h ds number (q ∷ ps) (n ∷ nodes) (y ∷ ms) p node m all seat stands =
    (all.0, all.1, all_stand_more w h ds number ps nodes ms p node m all.2 seat stands)

some_at : {X : Type 0} (xs : List X) (i : ℕ) → i < length xs → (x : X) × (slice_get xs i ≡ Some x)
some_at [] i within = absurd (omega (arith, within))
some_at (x ∷ xs) zero within = (x, refl)
some_at (x ∷ xs) (suc i) within = some_at xs i (omega (arith, within))

taken_more : {X : Type 0} (xs : List X) (i : ℕ) (x : X) → slice_get xs i ≡ Some x → take (suc i) xs ≡ take i xs ++ x
    ∷ []
taken_more [] i x at = absurd (cc)
taken_more (y ∷ xs) zero x at = let same : y ≡ x = cc in ap (λ z. z ∷ []) same
taken_more (y ∷ xs) (suc i) x at = ap (λ zs. y ∷ zs) (taken_more xs i x at)

pub seated_more : (p : Schedule) (ds : List CodeNode) → AreNodesOf p ds → (me : ℕ) → me < length ds
    → (nodes more : List NodeValue) (ms others : List Medium) (node : NodeValue) (m : Medium)
    → more ≡ nodes ++ node ∷ [] → others ≡ ms ++ m ∷ []
    → AllStand (schedule_of p) (start (schedule_of p)) [] 1 (take me (model.stations (schedule_of p))) nodes ms
    → ((s : Station) → slice_get (model.stations (schedule_of p)) me ≡ Some s → IsSeated (schedule_of p) s node m)
    → AllStand (schedule_of p) (start (schedule_of p)) [] 1 (take (me + 1) (model.stations (schedule_of p))) more
    others
seated_more p ds is me within nodes more ms others node m one two all each =
    let w = schedule_of p in
    let there = some_at ds me within in
    let s : Station = station there.0 in
    let found : slice_get (model.stations w) me ≡ Some s = station_at p ds is me there.0 there.1 in
    let it : IsSeated w s node m = each s found in
    let taken : take (me + 1) (model.stations w) ≡ take me (model.stations w) ++ s
    ∷ [] = ap (λ n. take n (model.stations w)) (add-one me) ∙ taken_more (model.stations w) me s found in
    subst (λ xs. AllStand w (start w) [] 1 (take (me + 1) (model.stations w)) more xs) (sym two)
    (subst (λ xs. AllStand w (start w) [] 1 (take (me + 1) (model.stations w)) xs (ms ++ m ∷ [])) (sym one)
    (subst (λ ps. AllStand w (start w) [] 1 ps (nodes ++ node ∷ []) (ms ++ m ∷ [])) (sym taken)
    (all_stand_more w (start w) [] 1 (take me (model.stations w)) nodes ms s node m all it.seat it.stands)))

pub calls_more : (p : Schedule) (ds : List CodeNode) → AreNodesOf p ds → (me : ℕ) → me < length ds
    → (ms others : List Medium) (node : NodeValue) (m : Medium) → others ≡ ms ++ m ∷ []
    → AllByRecursion (λ (x : Medium). x.calls ≡ 6) ms
    → ((s : Station) → slice_get (model.stations (schedule_of p)) me ≡ Some s → IsSeated (schedule_of p) s node m)
    → AllByRecursion (λ (x : Medium). x.calls ≡ 6) others
calls_more p ds is me within ms others node m one all each =
    let there = some_at ds me within in
    let it : IsSeated (schedule_of p) (station there.0) node m =
    each (station there.0) (station_at p ds is me there.0 there.1) in
    subst (λ xs. AllByRecursion (λ (x : Medium). x.calls ≡ 6) xs) (sym one)
    (all_append (λ (x : Medium). x.calls ≡ 6) ms m all it.calls)

pub one_more : {X : Type 0} (xs more : List X) (x : X) (n : ℕ) → more ≡ xs ++ x ∷ [] → length xs ≡ n → length more
    ≡ n + 1
one_more {X} xs more x n is count = ap (length {A = X}) is ∙ length-append xs (x ∷ []) ∙ ap (λ k. k + 1) count

-- all nodes
pub all_seated : (p : Schedule) (ds : List CodeNode) → AreNodesOf p ds → (me : ℕ) → length ds ≤ me
    → (nodes : List NodeValue) (ms : List Medium)
    → AllStand (schedule_of p) (start (schedule_of p)) [] 1 (take me (model.stations (schedule_of p))) nodes ms
    → AllStand (schedule_of p) (start (schedule_of p)) [] 1 (model.stations (schedule_of p)) nodes ms
all_seated p ds is me past nodes ms all =
    let count : length (model.stations (schedule_of p)) ≡ length ds = ap (length {A = Station}) (stations_are p ds is)
    ∙ length-map (map node_of ds) station_for ∙ length-map ds node_of in
    subst (λ ps. AllStand (schedule_of p) (start (schedule_of p)) [] 1 ps nodes ms)
    (whole (model.stations (schedule_of p)) me (omega (arith, count, past))) all
