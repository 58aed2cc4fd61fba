-- The event of a node at its place.
use Rattle.std.proofs.Common.{◌≡◌, ℕ, zero, suc, ◌+◌, ◌<◌, Bool, true, false, List, [], ◌∷◌, map, length, get_or, Option, Some, None, refl, sym, ap, ◌∙◌, subst, arith}
use Rattle.std.specs.Prelude.{◌||◌, if◌then◌else◌, is_some}
use Rattle.std.specs.List.{list_any}
use Rattle.std.proofs.lemmas.Bool.{false≢true}
use Rattle.zb_base.specs.declared.node.Role.{Role as role}
use Rattle.zb_base.specs.declared.node.Role.TheVariants.{Centre, Router, Device}
use Rattle.zb_player_events.specs.Acts.{act_for, seat_for}
use Rattle.zb_player_events.specs.Outside.{is_outside}
use Rattle.zb_player_events.specs.Seats.{first_seat, has_name, is_the_centre}
use Rattle.zb_player_events.specs.declared.acts.Act.{Act}
use Rattle.zb_player_events.specs.declared.seats.Seat.{Seat}
use Rattle.zb_model.specs.Data.{Bytes, Station}
use Rattle.zb_model.specs.Play.{stations}
use Rattle.zb_model.specs.State.{is_centre}
use Rattle.law_schedules.specs.Schedules.{event_for, schedule_of, station_for, stations_for}
use Rattle.zb_node_types.specs.Changes.{model_role}
use Rattle.zb_player.specs.Playing.{FitsRun, IsEventAt}
use Rattle.law_run_steps.specs.Steps.{is_of}
use Rattle.law_run_steps.specs.Swaps.{node_of}
use Rattle.zb_player.proofs.Named.{adopts, found_at, joins, named_from, of_family, of_partners}
use Rattle.zb_sched.specs.Judge.{has_its_nodes, is_joiner, is_parent, role_named}
use Rattle.zb_sched.specs.Reading.{is_centre as is_centre_role}
use Rattle.zb_sched.specs.Schedules as sched
use Rattle.zb_sched.specs.Valid.{IsSchedule, seated}
use Rattle.zb_sched_line.specs.Said as said
use Rattle.zb_sched_line.specs.Said.{Event}

-- The seat of an event is one of a test.

abbrev IsSeatOf : List Station → Seat → Station → Type 0
IsSeatOf known it d = (test : Station → Bool) × (first_seat test 0 known ≡ Some it)

no_seat : (it : Seat) → None ≡ Some it → ⊥
no_seat it e = cc

pub seat_of : (known : List Station) (e : Event) (it : Seat) (d : Station) → seat_for known e ≡ Some it
    → IsSeatOf known it d
seat_of known (said.Says name to bytes) it d e = (has_name name, e)
seat_of known (said.Delivers frame name) it d e = (has_name name, e)
seat_of known (said.Ticks name) it d e = (has_name name, e)
seat_of known (said.Knocks name) it d e = (has_name name, e)
seat_of known (said.Rejoins name) it d e = (has_name name, e)
seat_of known (said.Adopts parent name rejoin) it d e = (has_name parent, e)
seat_of known (said.Provisions name code) it d e = (is_the_centre, e)
seat_of known (said.Repeats name) it d e = (is_the_centre, e)
seat_of known said.Rolls it d e = (is_the_centre, e)
seat_of known said.Switches it d e = (is_the_centre, e)
seat_of known (said.Removes name parent) it d e = (is_the_centre, e)
seat_of known (said.Resets name) it d e = (has_name name, e)
seat_of known (said.Boots name) it d e = (has_name name, e)
seat_of known (said.Dumps name) it d e = (has_name name, e)
seat_of known (said.Stops name calls torn) it d e = (has_name name, e)
seat_of known (said.Fails name call) it d e = (has_name name, e)
seat_of known (said.Injects bytes) it d e = absurd (no_seat it e)
seat_of known (said.ForgesNet to from source key sequence counter content) it d e = absurd (no_seat it e)
seat_of known (said.ForgesBoth to from source key sequence counter label base aps_counter command) it d e =
    absurd (no_seat it e)
seat_of known (said.ForgesOpen to from source label base aps_counter command) it d e = absurd (no_seat it e)
seat_of known (said.Asks name partner) it d e = (has_name name, e)
seat_of known (said.Shares name partner) it d e = (is_the_centre, e)
seat_of known (said.Tells name partner bytes) it d e = (has_name name, e)

again : {X : Type 0} (xs : List X) (i : ℕ) (d : X) → i < length xs → get_or xs i (get_or xs i d) ≡ get_or xs i d
again [] i d bound = absurd (omega arith)
again (x ∷ xs) zero d bound = refl
again (x ∷ xs) (suc i) d bound = again xs i d (omega arith)

pub same_index : (place index : ℕ) → place ≡ 0 + index → place ≡ index
same_index place index e = omega (arith, e)

pub event_at : (p : sched.Schedule) (number : ℕ) (e : Event) (it : Seat) (a : Act) (d : Station) → IsSchedule p
    → FitsRun p number e
    → seat_for (stations (schedule_of p)) e ≡ Some it → act_for it.eui.0 a ≡ Some (event_for (stations_for p) e)
    → IsEventAt p it.place (get_or (stations (schedule_of p)) it.place d) a (event_for (stations_for p) e)
event_at p number e it a d is fits found acts =
    let w = schedule_of p in
    let known = stations w in
    let s = seat_of known e it d found in
    let f = found_at s.0 0 known it d s.1 in
    let here : it.place ≡ f.index = same_index it.place f.index f.place in
    let bound : it.place < length known = subst (λ n. n < length known) (sym here) f.bound in
    let q = get_or known it.place d in
    let eui : it.eui.0 ≡ q.eui = sym f.eui ∙ ap (λ n. (get_or known n d).eui) (sym here) in
    record {
      bound = bound;
      station = again known it.place d bound;
      event_is = ap (λ n. act_for n a) (sym eui) ∙ acts;
      calls = fits.calls;
    }

-- An event without a seat is of the outside.

some_none : (it : Seat) → Some it ≡ None → ⊥
some_none it e = cc

declared : (ms : List sched.Node) (name : Bytes) → is_some (role_named name (map seated ms)) ≡ true
    → first_seat (has_name name) 0 (map station_for ms) ≡ None → ⊥
declared ms name some none = false≢true (ap is_some (sym none) ∙ named_from name 0 ms some)

-- an event without a seat is of the outside
pub of_outside : (ms : List sched.Node) (e : Event) (q : ℕ) → is_outside e ≡ true
    → is_of q (event_for (map station_for ms) e) ≡ false
unfolding event_for
of_outside ms (said.Injects bytes) q o = refl
of_outside ms (said.ForgesNet to from source key sequence counter content) q o = refl
of_outside ms (said.ForgesBoth to from source key sequence counter label base aps_counter command) q o = refl
of_outside ms (said.ForgesOpen to from source label base aps_counter command) q o = refl
of_outside ms (said.Says name to bytes) q o = absurd (false≢true o)
of_outside ms (said.Delivers frame name) q o = absurd (false≢true o)
of_outside ms (said.Ticks name) q o = absurd (false≢true o)
of_outside ms (said.Knocks name) q o = absurd (false≢true o)
of_outside ms (said.Rejoins name) q o = absurd (false≢true o)
of_outside ms (said.Adopts parent name rejoin) q o = absurd (false≢true o)
of_outside ms (said.Provisions name code) q o = absurd (false≢true o)
of_outside ms (said.Repeats name) q o = absurd (false≢true o)
of_outside ms said.Rolls q o = absurd (false≢true o)
of_outside ms said.Switches q o = absurd (false≢true o)
of_outside ms (said.Removes name parent) q o = absurd (false≢true o)
of_outside ms (said.Resets name) q o = absurd (false≢true o)
of_outside ms (said.Boots name) q o = absurd (false≢true o)
of_outside ms (said.Dumps name) q o = absurd (false≢true o)
of_outside ms (said.Stops name calls torn) q o = absurd (false≢true o)
of_outside ms (said.Fails name call) q o = absurd (false≢true o)
of_outside ms (said.Asks name partner) q o = absurd (false≢true o)
of_outside ms (said.Shares name partner) q o = absurd (false≢true o)
of_outside ms (said.Tells name partner bytes) q o = absurd (false≢true o)

pub none_outside : (ms : List sched.Node) (e : Event) → is_outside e ≡ true
    → node_of (event_for (map station_for ms) e) ≡ None
unfolding event_for
none_outside ms (said.Injects bytes) o = refl
none_outside ms (said.ForgesNet to from source key sequence counter content) o = refl
none_outside ms (said.ForgesBoth to from source key sequence counter label base aps_counter command) o = refl
none_outside ms (said.ForgesOpen to from source label base aps_counter command) o = refl
none_outside ms (said.Says name to bytes) o = absurd (false≢true o)
none_outside ms (said.Delivers frame name) o = absurd (false≢true o)
none_outside ms (said.Ticks name) o = absurd (false≢true o)
none_outside ms (said.Knocks name) o = absurd (false≢true o)
none_outside ms (said.Rejoins name) o = absurd (false≢true o)
none_outside ms (said.Adopts parent name rejoin) o = absurd (false≢true o)
none_outside ms (said.Provisions name code) o = absurd (false≢true o)
none_outside ms (said.Repeats name) o = absurd (false≢true o)
none_outside ms said.Rolls o = absurd (false≢true o)
none_outside ms said.Switches o = absurd (false≢true o)
none_outside ms (said.Removes name parent) o = absurd (false≢true o)
none_outside ms (said.Resets name) o = absurd (false≢true o)
none_outside ms (said.Boots name) o = absurd (false≢true o)
none_outside ms (said.Dumps name) o = absurd (false≢true o)
none_outside ms (said.Stops name calls torn) o = absurd (false≢true o)
none_outside ms (said.Fails name call) o = absurd (false≢true o)
none_outside ms (said.Asks name partner) o = absurd (false≢true o)
none_outside ms (said.Shares name partner) o = absurd (false≢true o)
none_outside ms (said.Tells name partner bytes) o = absurd (false≢true o)

centre_seat_by : (k : ℕ) (m : sched.Node) (o : Option Seat) (b c : Bool) → b ≡ c → (c ≡ false → o ≡ None → ⊥)
    → (if b then Some (record { place = k; eui = record { 0 = m.eui } }) else o) ≡ None → ⊥
centre_seat_by k m o true c same more none = some_none (record { place = k; eui = record { 0 = m.eui } }) none
centre_seat_by k m o false c same more none = more (sym same) none

has_centre : (k : ℕ) (ms : List sched.Node) → list_any (λ (m : sched.Node). is_centre_role m.role) ms ≡ true
    → first_seat is_the_centre k (map station_for ms) ≡ None → ⊥
has_centre k [] some none = false≢true some
has_centre k (m ∷ ms) some none =
    centre_seat_by k m (first_seat is_the_centre (k + 1) (map station_for ms)) (is_centre (model_role m.role))
    (is_centre_role m.role) (same_role m.role)
    (λ no. has_centre (k + 1) ms
    (sym (ap (λ b. b || list_any (λ (m : sched.Node). is_centre_role m.role) ms) no) ∙ some)) none
  where
    same_role : (r : role) → is_centre (model_role r) ≡ is_centre_role r
    same_role Centre = refl
    same_role Router = refl
    same_role Device = refl

named_seat : (ms : List sched.Node) (name : Bytes) → is_joiner (role_named name (map seated ms)) ≡ true
    → first_seat (has_name name) 0 (map station_for ms) ≡ None → ⊥
named_seat ms name some none = declared ms name (joins (role_named name (map seated ms)) some) none

parent_seat : (ms : List sched.Node) (name : Bytes) → is_parent (role_named name (map seated ms)) ≡ true
    → first_seat (has_name name) 0 (map station_for ms) ≡ None → ⊥
parent_seat ms name some none = declared ms name (adopts (role_named name (map seated ms)) some) none

pub is_of_outside : (ms : List sched.Node) (e : Event) → list_any (λ (m : sched.Node). is_centre_role m.role) ms
    ≡ true → has_its_nodes e (map seated ms) ≡ true
    → seat_for (map station_for ms) e ≡ None → is_outside e ≡ true
is_of_outside ms (said.Injects bytes) centre fits none = refl
is_of_outside ms (said.ForgesNet to from source key sequence counter content) centre fits none = refl
is_of_outside ms (said.ForgesBoth to from source key sequence counter label base aps_counter command) centre fits
    none = refl
is_of_outside ms (said.ForgesOpen to from source label base aps_counter command) centre fits none = refl
is_of_outside ms (said.Says name to bytes) centre fits none = absurd (declared ms name fits none)
is_of_outside ms (said.Delivers frame name) centre fits none = absurd (declared ms name fits none)
is_of_outside ms (said.Ticks name) centre fits none = absurd (declared ms name fits none)
is_of_outside ms (said.Knocks name) centre fits none = absurd (named_seat ms name fits none)
is_of_outside ms (said.Rejoins name) centre fits none = absurd (named_seat ms name fits none)
is_of_outside ms (said.Adopts parent name rejoin) centre fits none =
    absurd (parent_seat ms parent (of_family ms name parent fits).1 none)
is_of_outside ms (said.Provisions name code) centre fits none = absurd (has_centre 0 ms centre none)
is_of_outside ms (said.Repeats name) centre fits none = absurd (has_centre 0 ms centre none)
is_of_outside ms said.Rolls centre fits none = absurd (has_centre 0 ms centre none)
is_of_outside ms said.Switches centre fits none = absurd (has_centre 0 ms centre none)
is_of_outside ms (said.Removes name parent) centre fits none = absurd (has_centre 0 ms centre none)
is_of_outside ms (said.Resets name) centre fits none = absurd (declared ms name fits none)
is_of_outside ms (said.Boots name) centre fits none = absurd (declared ms name fits none)
is_of_outside ms (said.Dumps name) centre fits none = absurd (declared ms name fits none)
is_of_outside ms (said.Stops name calls torn) centre fits none = absurd (declared ms name fits none)
is_of_outside ms (said.Fails name call) centre fits none = absurd (declared ms name fits none)
is_of_outside ms (said.Asks name partner) centre fits none =
    absurd (named_seat ms name (of_partners ms name partner fits).0 none)
is_of_outside ms (said.Shares name partner) centre fits none = absurd (has_centre 0 ms centre none)
is_of_outside ms (said.Tells name partner bytes) centre fits none =
    absurd (named_seat ms name (of_partners ms name partner fits).0 none)
