-- What becomes of an event of a schedule.
use Rattle.std.proofs.Common.{◌≡◌, ℕ, ◌<◌, List, [], length, get_or, Option, Some, None, true, refl, sym, ap, ◌∙◌, subst, arith}
use Rattle.zb_disk.specs.Memory.{Medium}
use Rattle.zb_player_events.specs.Acts.{HasNames, act_for, seat_for}
use Rattle.zb_player_events.specs.Nodes.{IsIn, NodeValue}
use Rattle.zb_player_events.specs.Outside.{is_outside}
use Rattle.zb_player_events.specs.Told.{Adds, IsTold}
use Rattle.zb_player_events.specs.declared.acts.Act.{Act}
use Rattle.zb_player_events.specs.declared.seats.Seat.{Seat}
use Rattle.zb_player_events.proofs.NodeLaws.{over_another}
use Rattle.zb_model.specs.Data.{Station}
use Rattle.zb_model.specs.Lines.{Line}
use Rattle.zb_model.specs.Play as play
use Rattle.zb_model.specs.Play.{Disk, no_station, stations, step}
use Rattle.zb_model_real.specs.Real.{real}
use Rattle.law_run_steps.specs.Conditions.{Condition}
use Rattle.law_run_steps.proofs.Unswapped.{set_same}
use Rattle.law_run_steps.specs.Swaps.{Stood, after_swap, node_of, swapped}
use Rattle.law_schedules.specs.Schedules.{event_for, schedule_of, stations_for}
use Rattle.law_schedules.proofs.Meets.{same_stations}
use Rattle.zb_player.specs.Benches.{given_at, given_for, put_at}
use Rattle.zb_player.specs.Playing.{AreCalledBy, FitsRun, IsEventAt, RunIn, RunPasses, RunStands, passed_by}
use Rattle.zb_player.specs.Swapping.{Fits, FitsAt, passed_with}
use Rattle.zb_player.specs.declared.run.Run.{Run}
use Rattle.zb_player.proofs.Asking.{few_stations, seat_below}
use Rattle.zb_player.proofs.CallsMade.{outside_calls}
use Rattle.zb_player.proofs.EventAt.{event_at, is_of_outside, none_outside, of_outside}
use Rattle.zb_player.proofs.Goings.{run_as, set_here, set_settings, set_spares, went_outside}
use Rattle.zb_player.proofs.Named.{has_names, of_node}
use Rattle.zb_player.proofs.Seating.{euis_differ}
use Rattle.zb_player.proofs.Stand.{Spares, put_under}
use Rattle.zb_sched.specs.Schedules as sched
use Rattle.zb_sched.specs.Valid.{IsSchedule}
use Rattle.zb_sched_line.specs.Said.{Event}

-- ---- an event of the outside

outside_is : (p : sched.Schedule) (number : ℕ) (e : Event) → IsSchedule p → FitsRun p number e
    → seat_for (stations (schedule_of p)) e ≡ None → is_outside e ≡ true
outside_is p number e is fits none =
    is_of_outside p.nodes e is.centre fits.fits.1 (subst (λ ps. seat_for ps e ≡ None) (same_stations p) none)

pub no_node : (p : sched.Schedule) (number : ℕ) (e : Event) → IsSchedule p → FitsRun p number e
    → seat_for (stations (schedule_of p)) e ≡ None → node_of (event_for (stations_for p) e) ≡ None
no_node p number e is fits none = none_outside p.nodes e (outside_is p number e is fits none)

pub answered_outside : (p : sched.Schedule) (h : List Line) (xs : ℕ → Condition) (latest number : ℕ) (e : Event)
    (old new : Run) (disks : List Medium)
    → IsSchedule p → FitsRun p number e → RunIn p h xs latest old disks → seat_for (stations (schedule_of p)) e
    ≡ None
    → ((known : List Station) → IsTold (schedule_of p) h old.ledger → is_outside e ≡ true
    → Adds (schedule_of p) h (step real (schedule_of p) h [] number (event_for known e)).lines old.ledger new.ledger)
    → new.nodes ≡ old.nodes → new.seats ≡ old.seats → new.draws.now ≡ old.draws.now
    → RunPasses p (passed_by p h xs number (event_for (stations_for p) e)) h latest old new disks
answered_outside p h xs latest number e old new disks is fits stands none adds nodes seats draws =
    went_outside p h xs latest number (event_for (stations_for p) e) old new disks stands
    (adds (stations_for p) stands.told (outside_is p number e is fits none)) (no_node p number e is fits none)
    nodes seats draws

-- a disk that is given before it isn't asked for
pub outside_with : (p : sched.Schedule) (h : List Line) (xs : ℕ → Condition) (latest number : ℕ) (e : Event)
    (gift : Option Stood) (old new : Run) (disks : List Medium) → IsSchedule p → FitsRun p number e
    → seat_for (stations (schedule_of p)) e ≡ None
    → RunPasses p (passed_by p h xs number (event_for (stations_for p) e)) h latest old new disks
    → RunPasses p (passed_with p gift h xs number (event_for (stations_for p) e)) h latest old new disks
outside_with p h xs latest number e gift old new disks is fits none passes =
    subst (λ (o : Option ℕ). RunPasses p
    (passed_by p h (swapped gift xs o) number (event_for (stations_for p) e)) h latest old new disks)
    (sym (no_node p number e is fits none)) passes

-- ---- an event of a node

pub act_is : (p : sched.Schedule) (number : ℕ) (e : Event) (it : Seat) (a : Act) → FitsRun p number e
    → seat_for (stations (schedule_of p)) e ≡ Some it
    → (HasNames (stations (schedule_of p)) e → (x : Seat) → seat_for (stations (schedule_of p)) e ≡ Some x
    → act_for x.eui.0 a ≡ Some (event_for (stations (schedule_of p)) e))
    → act_for it.eui.0 a ≡ Some (event_for (stations_for p) e)
act_is p number e it a fits found acts =
    let names : HasNames (stations (schedule_of p)) e =
    subst (λ ps. HasNames ps e) (sym (same_stations p)) (has_names p.nodes e fits.fits.1) in
    acts names it found ∙ ap (λ ps. Some (event_for ps e)) (same_stations p)

-- what the program's answer at a place promises
abbrev pub PlaceGoes : ℕ → ℕ → Act → Run → List Medium → Run → List Medium → Type 0
PlaceGoes number place a old disks new disks' =
    (p : sched.Schedule) (h : List Line) (xs : ℕ → Condition) (latest : ℕ) (event : play.Event) (q : Station)
    → latest < 9223372036854775808 → IsSchedule p → RunIn p h xs latest old disks
    → IsEventAt p place q a event → RunPasses p (passed_by p h xs number event) h latest old new disks'

pub answered_at : (p : sched.Schedule) (h : List Line) (xs : ℕ → Condition) (latest number : ℕ) (e : Event)
    (it : Seat) (a : Act) (old new : Run) (disks same disks' : List Medium) → latest < 9223372036854775808
    → IsSchedule p → FitsRun p number e → RunIn p h xs latest old disks → seat_for (stations (schedule_of p)) e
    ≡ Some it
    → (HasNames (stations (schedule_of p)) e → (x : Seat) → seat_for (stations (schedule_of p)) e ≡ Some x
    → act_for x.eui.0 a ≡ Some (event_for (stations (schedule_of p)) e))
    → same ≡ disks → PlaceGoes number it.place a old same new disks'
    → RunPasses p (passed_by p h xs number (event_for (stations_for p) e)) h latest old new disks'
answered_at p h xs latest number e it a old new disks same disks' few is fits stands found acts unswapped goes =
    goes p h xs latest (event_for (stations_for p) e) _ few is
    (subst (RunIn p h xs latest old) (sym unswapped) stands)
    (event_at p number e it a no_station is fits found (act_is p number e it a fits found acts))

-- ---- another disk

-- the run stands over a disk that is given to a node that is down
given_disk : (p : sched.Schedule) (h : List Line) (xs : ℕ → Condition) (latest place : ℕ) (q : Station)
    (gift : Option Stood) (given : Option Medium) (run : Run) (disks : List Medium) → IsSchedule p
    → place < length (stations (schedule_of p)) → get_or (stations (schedule_of p)) place q ≡ q
    → RunIn p h xs latest run disks → Fits latest gift given (xs q.eui)
    → RunIn p h (swapped gift xs (Some q.eui)) latest run (put_at place disks given)
given_disk p h xs latest place q None None run disks is bound station stands fits =
    run_as p h xs (swapped None xs (Some q.eui)) latest latest run disks (omega arith)
    (λ r. set_same xs q.eui r (xs q.eui) refl) stands
given_disk p h xs latest place q None (Some m) run disks is bound station stands fits = absurd fits
given_disk p h xs latest place q (Some s) None run disks is bound station stands fits = absurd fits
given_disk p h xs latest place q (Some s) (Some m) run disks is bound station stands fits =
    let w = schedule_of p in
    let x = after_swap (Some s) (xs q.eui) in
    let ys : ℕ → Condition = swapped (Some s) xs (Some q.eui) in
    let takes : (node : NodeValue) (old : Medium) → IsIn (xs q.eui) latest node old → IsIn (ys q.eui) latest node m =
    λ node old there. subst (λ (c : Condition). IsIn c latest node m) (sym (set_here xs q.eui x))
    (over_another (xs q.eui) latest node old m s there fits.0 fits.1) in
    record {
      told = stands.told;
      settings = set_settings w xs q.eui x stands.settings refl;
      nodes =
          put_under xs ys latest (stations w) run.nodes.items disks place q m bound (euis_differ p is)
          (subst (λ (z : Station). Spares xs ys z.eui) (sym station) (set_spares xs q.eui x))
          (subst (λ (z : Station). (node : NodeValue) (old : Medium) → IsIn (xs z.eui) latest node old
          → IsIn (ys z.eui) latest node m) (sym station) takes) stands.nodes;
      seats = stands.seats;
      draws = stands.draws;
    }

pub answered_with : (p : sched.Schedule) (h : List Line) (xs : ℕ → Condition) (latest number : ℕ) (e : Event)
    (it : Seat) (a : Act) (gift : Option Stood) (gives : ℕ → ℕ → Option Medium) (old new : Run)
    (disks put disks' : List Medium) → latest < 9223372036854775808
    → IsSchedule p → FitsRun p number e → RunIn p h xs latest old disks → seat_for (stations (schedule_of p)) e
    ≡ Some it
    → (HasNames (stations (schedule_of p)) e → (x : Seat) → seat_for (stations (schedule_of p)) e ≡ Some x
    → act_for x.eui.0 a ≡ Some (event_for (stations (schedule_of p)) e))
    → (it.place < 256 → put ≡ put_at it.place disks (gives number it.place))
    → FitsAt latest gift (given_for gives (stations (schedule_of p)) number e) xs
    (node_of (event_for (stations_for p) e))
    → PlaceGoes number it.place a old put new disks'
    → RunPasses p (passed_with p gift h xs number (event_for (stations_for p) e)) h latest old new disks'
answered_with p h xs latest number e it a gift gives old new disks put disks' few is fits stands found acts puts gifted
    goes =
    let known = stations (schedule_of p) in
    let event = event_for (stations_for p) e in
    let q = get_or known it.place no_station in
    let at : IsEventAt p it.place q a event =
    event_at p number e it a no_station is fits found (act_is p number e it a fits found acts) in
    let whose : node_of event ≡ Some q.eui = of_node q.eui a event at.event_is in
    let fit : Fits latest gift (gives number it.place) (xs q.eui) =
    subst (λ (o : Option Seat). Fits latest gift (given_at gives number o) (xs q.eui)) found
    (subst (FitsAt latest gift (given_for gives known number e) xs) whose gifted) in
    let over : RunIn p h (swapped gift xs (Some q.eui)) latest old (put_at it.place disks (gives number it.place)) =
    given_disk p h xs latest it.place q gift (gives number it.place) old disks is at.bound at.station stands fit in
    let here : RunIn p h (swapped gift xs (node_of event)) latest old put =
    subst (λ (ms : List Medium). RunIn p h (swapped gift xs (node_of event)) latest old ms)
    (sym (puts (omega (arith, few_stations p is, seat_below known e it found))))
    (subst (λ (o : Option ℕ). RunIn p h (swapped gift xs o) latest old
    (put_at it.place disks (gives number it.place))) (sym whose) over) in
    goes p h (swapped gift xs (node_of event)) latest event q few is here at

-- ---- device calls

-- the device calls of an event of the outside
pub outside_made : (p : sched.Schedule) (h : List Line) (ds : List Disk) (number : ℕ) (e : Event) (old : Run)
    (disks : List Medium)
    → IsSchedule p → FitsRun p number e → RunStands p h ds number old disks → seat_for (stations (schedule_of p)) e
    ≡ None
    → AreCalledBy p h ds (event_for (stations_for p) e) disks disks
outside_made p h ds number e old disks is fits stands none =
    outside_calls p h ds number (event_for (stations_for p) e) old disks stands
    (λ q. of_outside p.nodes e q (outside_is p number e is fits none))

-- and of one of a node
pub made_at : (p : sched.Schedule) (h : List Line) (ds : List Disk) (number : ℕ) (e : Event) (it : Seat) (a : Act)
    (old : Run) (disks same disks' : List Medium)
    → IsSchedule p → FitsRun p number e → RunStands p h ds number old disks → seat_for (stations (schedule_of p)) e
    ≡ Some it
    → (HasNames (stations (schedule_of p)) e → (x : Seat) → seat_for (stations (schedule_of p)) e ≡ Some x
    → act_for x.eui.0 a ≡ Some (event_for (stations (schedule_of p)) e))
    → same ≡ disks
    → ((p : sched.Schedule) (h : List Line) (ds : List Disk) (event : play.Event) (q : Station) → IsSchedule p
    → RunStands p h ds number old same
    → IsEventAt p it.place q a event → AreCalledBy p h ds event same disks')
    → AreCalledBy p h ds (event_for (stations_for p) e) disks disks'
made_at p h ds number e it a old disks same disks' is fits stands found acts unswapped calls =
    subst (λ (xs : List Medium). AreCalledBy p h ds (event_for (stations_for p) e) xs disks') unswapped
    (calls p h ds (event_for (stations_for p) e) _ is (subst (RunStands p h ds number old) (sym unswapped) stands)
    (event_at p number e it a no_station is fits found (act_is p number e it a fits found acts)))
