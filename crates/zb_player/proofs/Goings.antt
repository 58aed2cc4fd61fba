-- The run after one event.
use Rattle.std.proofs.Common.{◌≡◌, ℕ, ◌+◌, ◌<◌, ◌≤◌, Bool, true, false, List, [], ◌++◌, map, length, get_or, nat_eq, eqb-true, Option, Some, None, Result, Ok, Err, OnOk, refl, sym, ap, ◌∙◌, subst, arith}
use Rattle.std.proofs.Math.ListN.{set}
use Rattle.std.proofs.lemmas.Bool.Decides.{nat_tests}
use Rattle.std.specs.Io.KnownBytes.{append_known}
use Rattle.zb_base.specs.declared.key.Key.{Key}
use Rattle.zb_disk.specs.Memory.{Medium}
use Rattle.zb_player_events.specs.Acts.{act_for}
use Rattle.zb_player_events.specs.Told.{Adds, Before, Goes}
use Rattle.zb_player_events.specs.declared.acts.Act.{Act}
use Rattle.zb_player_events.specs.declared.ledger.Ledger.{Ledger}
use Rattle.zb_player_events.specs.declared.seats.Seats.{Seats}
use Rattle.zb_player_events.specs.Seats.{AreSeats}
use Rattle.zb_model.specs.Data.{Station}
use Rattle.zb_model.specs.Lines.{Line}
use Rattle.zb_model.specs.Schedules.{CountsCalls}
use Rattle.zb_model.specs.Play.{Disk, Event, Schedule, setting_of, stations}
use Rattle.zb_model_real.specs.Real.{real}
use Rattle.law_schedules.specs.Schedules.{schedule_of}
use Rattle.law_run.proofs.Basics.{nat_eq-refl}
use Rattle.law_run_steps.specs.Conditions.{Condition, condition_of}
use Rattle.law_run_steps.proofs.Turns.{left_setting}
use Rattle.law_run_steps.proofs.Unswapped.{IsStep, if_other, if_same, passed_step}
use Rattle.law_run_steps.specs.Swaps.{Passed, node_of, passed, with_condition}
use Rattle.law_run_steps.specs.Turns.{event_turn}
use Rattle.zb_player_events.specs.Nodes.{AllIn, IsIn, IsSeat, NodeValue}
use Rattle.zb_player.specs.Playing.{AreSettings, IsEventAt, RunGoes, RunIn, RunPasses, passed_by, step_of}
use Rattle.zb_player.specs.declared.run.Run.{Run}
use Rattle.zb_player.proofs.Named.{of_node}
use Rattle.zb_player.proofs.Seating.{euis_differ, seated_at}
use Rattle.zb_player.proofs.Stand.{Spares, StandsAt, all_as, as_many, at_place, put_back}
use Rattle.zb_sched.specs.Schedules as sched
use Rattle.zb_sched.specs.Valid.{IsSchedule}
use Rattle.zb_trace_model.specs.Said.{text_of}

pub on_ok : {T E : Type 0} (r : Result T E) (P Q : Type 0) → (P → Q) → OnOk r P → OnOk r Q
on_ok (Ok x) P Q f p = f p
on_ok (Err e) P Q f p = tt

-- ---- conditions that are set

unlike : (n q : ℕ) → (q ≡ n → ⊥) → nat_eq q n ≡ false
unlike n q other = grind (arith, nat_tests, other)

pub set_here : (xs : ℕ → Condition) (n : ℕ) (x : Condition) → with_condition xs n x n ≡ x
set_here xs n x = if_same (nat_eq n n) x (xs n) (nat_eq-refl n)

pub set_spares : (xs : ℕ → Condition) (n : ℕ) (x : Condition) → Spares xs (with_condition xs n x) n
set_spares xs n x = λ q other. if_other (nat_eq q n) x (xs q) (unlike n q other)

pub set_settings : (w : Schedule) (xs : ℕ → Condition) (n : ℕ) (x : Condition) → AreSettings w xs
    → x.setting ≡ (xs n).setting → AreSettings w (with_condition xs n x)
set_settings w xs n x settings same = λ q. by_test q (nat_eq q n) refl
  where
    by_test : (q : ℕ) (b : Bool) → nat_eq q n ≡ b → (with_condition xs n x q).setting ≡ setting_of w q
    by_test q true e =
        ap (λ (c : Condition). c.setting) (if_same (nat_eq q n) x (xs q) e) ∙ same ∙ settings n
        ∙ ap (λ k. setting_of w k) (sym (eqb-true q n e))
    by_test q false e = ap (λ (c : Condition). c.setting) (if_other (nat_eq q n) x (xs q) e) ∙ settings q

-- ---- one event

-- what the events of a ledger promise of one node
abbrev pub NodeGoes : Act → ℕ → List Key → Ledger → NodeValue → Medium → Ledger → NodeValue → Medium → Type 0
NodeGoes act number draws old node m new node' m' =
    (w : Schedule) (h : List Line) (x : Condition) (latest n : ℕ) (event : Event)
    → Before w h x latest n old node m → map (λ (k : Key). k.0) draws ≡ w.draws
    → act_for n act ≡ Some event → CountsCalls event
    → Goes w (event_turn real w h x number event) h latest old new node' m'

seat_again : (p : Station) (node node' : NodeValue) → node'.peer ≡ node.peer → IsSeat p node → IsSeat p node'
seat_again p node node' same seat = record {
  name = ap (λ peer. peer.name.bytes) same ∙ seat.name;
  eui = ap (λ peer. peer.eui.0) same ∙ seat.eui;
  role = ap (λ peer. Rattle.zb_node_types.specs.Changes.model_role peer.role) same ∙ seat.role;
}

pub here : (w : Schedule) (xs : ℕ → Condition) (number place : ℕ) (q : Station) (nodes : List NodeValue)
    (disks : List Medium) (node : NodeValue) (m : Medium)
    → place < length (stations w) → get_or (stations w) place q ≡ q → get_or nodes place node ≡ node
    → get_or disks place m ≡ m
    → AllIn xs number (stations w) nodes disks → StandsAt xs number q node m
here w xs number place q nodes disks node m bound station same_node same_disk all =
    subst (λ (x : Medium). StandsAt xs number q node x) same_disk
    (subst (λ (x : NodeValue). StandsAt xs number q x (get_or disks place m)) same_node
    (subst (λ (x : Station). StandsAt xs number x (get_or nodes place node) (get_or disks place m)) station
    (at_place xs number (stations w) nodes disks place q node m bound all)))

-- before an event of the node at a place
pub before_here : (p : sched.Schedule) (h : List Line) (xs : ℕ → Condition) (latest place : ℕ) (q : Station)
    (act : Act) (event : Event) (old : Run) (disks : List Medium) (node : NodeValue) (m : Medium)
    → latest < 9223372036854775808 → IsSchedule p → RunIn p h xs latest old disks → IsEventAt p place q act event
    → get_or old.nodes.items place node ≡ node → get_or disks place m ≡ m
    → Before (schedule_of p) h (xs q.eui) latest q.eui old.ledger node m
before_here p h xs latest place q act event old disks node m few is stands at same_node same_disk =
    let w = schedule_of p in
    let found : StandsAt xs latest q node m = here w xs latest place q old.nodes.items disks node m at.bound at.station
    same_node same_disk stands.nodes in
    let seat = subst (λ (x : Station). IsSeat x node → Rattle.zb_player_events.specs.Told.IsSeated w x.eui node)
    at.station (seated_at p place q node is at.bound) in
    record {
      told = stands.told;
      is_in = found.is_in;
      setting = stands.settings q.eui;
      seat = seat found.seat;
      few = few;
    }

-- an event of the node at a place
pub went : (p : sched.Schedule) (h : List Line) (xs : ℕ → Condition) (latest number place : ℕ) (q : Station)
    (act : Act) (event : Event) (old new : Run) (disks disks' : List Medium)
    (node node' : NodeValue) (m m' : Medium) → latest < 9223372036854775808 → IsSchedule p
    → RunIn p h xs latest old disks → IsEventAt p place q act event
    → get_or old.nodes.items place node ≡ node → get_or disks place m ≡ m → node'.peer ≡ node.peer
    → NodeGoes act number old.draws.now old.ledger node m new.ledger node' m'
    → new.nodes.items ≡ set old.nodes.items place node' → disks' ≡ set disks place m' → new.seats ≡ old.seats
    → new.draws.now ≡ old.draws.now
    → RunPasses p (passed_by p h xs number event) h latest old new disks'
unfolding schedule_of
went p h xs latest number place q act event old new disks disks' node node' m m' few is stands at same_node same_disk
    peer goes nodes_are disks_are seats_are draws_are =
    let w = schedule_of p in
    let known = stations w in
    let n = q.eui in
    let t = event_turn real w h (xs n) number event in
    let ys : ℕ → Condition = with_condition xs n t.left in
    let found : StandsAt xs latest q node m = here w xs latest place q old.nodes.items disks node m at.bound at.station
    same_node same_disk stands.nodes in
    let before = before_here p h xs latest place q act event old disks node m few is stands at same_node same_disk in
    let went : Goes w t h latest old.ledger new.ledger node' m' =
    goes w h (xs n) latest n event before stands.draws at.event_is at.calls in
    let after : StandsAt ys (latest + 1) q node' m' = record {
      seat = seat_again q node node' peer found.seat;
      is_in = subst (λ (c : Condition). IsIn c (latest + 1) node' m') (sym (set_here xs n t.left)) went.is_in;
    } in
    let all : AllIn ys (latest + 1) known (set old.nodes.items place node') (set disks place m') =
    put_back xs ys latest known old.nodes.items disks place q node' m' at.bound (euis_differ p is)
    (subst (λ (x : Station). Spares xs ys x.eui) (sym at.station) (set_spares xs n t.left))
    (subst (λ (x : Station). StandsAt ys (latest + 1) x node' m') (sym at.station) after)
    stands.nodes in
    let one : Passed = record { lines = t.lines; nodes = ys } in
    let passes : RunPasses p one h latest old new disks' = record {
      page = went.adds.page;
      stands = record {
        told = went.adds.told;
        settings = set_settings w xs n t.left stands.settings (left_setting real w h (xs n) number event);
        nodes = subst (λ vs. AllIn ys (latest + 1) known vs disks') (sym nodes_are)
            (subst (λ ms. AllIn ys (latest + 1) known (set old.nodes.items place node') ms) (sym disks_are) all);
        seats = subst (λ (s : Seats). AreSeats s known) (sym seats_are) stands.seats;
        draws = ap (map (λ (k : Key). k.0)) draws_are ∙ stands.draws;
      };
    } in
    subst (λ (o : Option ℕ). RunPasses p (passed real w h xs number event o) h latest old new disks')
    (sym (of_node n act event at.event_is)) passes

-- there is a node and a disk at the place of each event
pub nodes_enough : (p : sched.Schedule) (h : List Line) (xs : ℕ → Condition) (latest place : ℕ) (q : Station)
    (act : Act) (event : Event) (run : Run) (disks : List Medium)
    → RunIn p h xs latest run disks → IsEventAt p place q act event → (place < length run.nodes.items)
    × (place < length disks)
nodes_enough p h xs latest place q act event run disks stands at =
    let w = schedule_of p in
    let many = as_many xs latest (stations w) run.nodes.items disks stands.nodes in
    (omega (arith, many.0, at.bound), omega (arith, many.1, at.bound))

-- an event of the outside
pub went_outside : (p : sched.Schedule) (h : List Line) (xs : ℕ → Condition) (latest number : ℕ) (event : Event)
    (old new : Run) (disks : List Medium) → RunIn p h xs latest old disks
    → Adds (schedule_of p) h (step_of p h [] number event).lines old.ledger new.ledger → node_of event ≡ None
    → new.nodes ≡ old.nodes → new.seats ≡ old.seats → new.draws.now ≡ old.draws.now
    → RunPasses p (passed_by p h xs number event) h latest old new disks
went_outside p h xs latest number event old new disks stands adds none nodes_are seats_are draws_are =
    let w = schedule_of p in
    let known = stations w in
    let one : Passed = record { lines = (step_of p h [] number event).lines; nodes = xs } in
    let passes : RunPasses p one h latest old new disks = record {
      page = adds.page;
      stands = record {
        told = adds.told;
        settings = stands.settings;
        nodes = subst (λ (v : _). AllIn xs (latest + 1) known v.items disks) (sym nodes_are)
            (all_as xs xs latest (latest + 1) known old.nodes.items disks (omega arith) (λ q. refl) stands.nodes);
        seats = subst (λ (s : Seats). AreSeats s known) (sym seats_are) stands.seats;
        draws = ap (map (λ (k : Key). k.0)) draws_are ∙ stands.draws;
      };
    } in
    subst (λ (o : Option ℕ). RunPasses p (passed real w h xs number event o) h latest old new disks) (sym none) passes

-- ---- the model's step

-- the same conditions, and generations as far or further
pub run_as : (p : sched.Schedule) (h : List Line) (xs ys : ℕ → Condition) (latest later : ℕ) (run : Run)
    (disks : List Medium) → latest ≤ later → ((q : ℕ) → ys q ≡ xs q) → RunIn p h xs latest run disks
    → RunIn p h ys later run disks
run_as p h xs ys latest later run disks from same stands = record {
  told = stands.told;
  settings = λ n. ap (λ (c : Condition). c.setting) (same n) ∙ stands.settings n;
  nodes = all_as xs ys latest later (stations (schedule_of p)) run.nodes.items disks from same stands.nodes;
  seats = stands.seats;
  draws = stands.draws;
}

-- In the conditions that the lines give, what passes is the model's step.
pub is_step : (p : sched.Schedule) (h : List Line) (ds : List Disk) (number : ℕ) (event : Event) (old new : Run)
    (disks : List Medium)
    → RunPasses p (passed_by p h (condition_of (schedule_of p) h ds) number event) h number old new disks
    → RunGoes p (step_of p h ds number event) h number old new disks
is_step p h ds number event old new disks passes =
    let w = schedule_of p in
    let known = stations w in
    let xs : ℕ → Condition = condition_of w h ds in
    let one = passed_by p h xs number event in
    let g = step_of p h ds number event in
    let same : IsStep w h g one = passed_step real w h ds xs number event (node_of event) refl (λ q. refl) in
    let moved : RunIn p (h ++ g.lines) one.nodes (number + 1) new disks =
    subst (λ (ls : List Line). RunIn p (h ++ ls) one.nodes (number + 1) new disks) same.lines_are passes.stands in
    record {
      page = passes.page ∙ ap (λ (ls : List Line). append_known old.ledger.transcript.page (text_of known ls))
          same.lines_are;
      stands = run_as p (h ++ g.lines) one.nodes (condition_of w (h ++ g.lines) g.disks) (number + 1) (number + 1) new
          disks (omega arith) (λ q. sym (same.nodes_are q)) moved;
    }
