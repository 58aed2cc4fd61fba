-- The seats of nodes that are added one by one.
use Rattle.std.proofs.Common.{◌≡◌, ℕ, ◌+◌, List, [], ◌∷◌, ◌++◌, length, Bool, true, false, Option, Some, None, refl, ap, sym, ◌∙◌, bytes_eq, find, get_or, map, take, ◌<◌, ◌≤◌, subst, add-zero, arith}
use Rattle.std.proofs.lemmas.List.{length-map, length-take-le, map_push, take_more}
use Rattle.std.specs.HashMap.{HashMap, get}
use Rattle.std.specs.Option.{option_or}
use Rattle.std.specs.Prelude.{if◌then◌else◌, unwrap_or}
use Rattle.arrayvec.specs.ArrayString.{ArrayString}
use Rattle.zb_base.specs.declared.node.Role.{Role}
use Rattle.zb_model.specs.Data as model
use Rattle.zb_model.specs.Data.{Station}
use Rattle.zb_node_types.specs.Changes.{model_role}
use Rattle.zb_model.specs.Rules.{eui_or}
use Rattle.law_schedules.specs.Schedules.{station_for}
use Rattle.zb_sched.specs.Schedules.{node_of}
use Rattle.zb_sched.specs.declared.schedule.Node.{Node as Declared}
use Rattle.zb_model.specs.State.{is_centre}
use Rattle.zb_player_events.specs.Seats.{AreSeats, first_seat, has_name, is_the_centre, same_name, seat_in}
use Rattle.zb_player_events.specs.declared.seats.Seat.{Seat}
use Rattle.zb_player_events.specs.declared.seats.Seats.{Seats}
use Rattle.zb_trace_watch.proofs.Truth.{same_bytes}
use Rattle.std.specs.Map.{lookup}
use Rattle.std.proofs.Common.{cond}

abbrev pub seat_at : ℕ → Station → Seat
seat_at place p = record { place = place; eui = record { 0 = p.eui } }

more_by : (b : Bool) (x : Seat) (o found last : Option Seat) → o ≡ option_or found last → (if b then Some x else o)
    ≡ option_or (if b then Some x else found) last
more_by true x o found last e = refl
more_by false x o found last e = e

-- the first of nodes with one more after it
pub first_more : (test : Station → Bool) (place : ℕ) (ps : List Station) (q : Station)
    → first_seat test place (ps ++ q ∷ [])
    ≡ option_or (first_seat test place ps) (if test q then Some (seat_at (place + length ps) q) else None)
first_more test place [] q = ap (λ (k : ℕ). if test q then Some (seat_at k q) else None) (sym (add-zero place))
first_more test place (p ∷ ps) q =
    let places : (place + 1) + length ps ≡ place + length (p ∷ ps) = omega arith in
    more_by (test p) (seat_at place p) (first_seat test (place + 1) (ps ++ q ∷ [])) (first_seat test (place + 1) ps)
    (if test q then Some (seat_at (place + length (p ∷ ps)) q) else None)
    (first_more test (place + 1) ps q ∙ ap
    (λ (k : ℕ). option_or (first_seat test (place + 1) ps) (if test q then Some (seat_at k q) else None)) places)

pub no_seats : (seats : Seats) → seats.by_name.entries ≡ [] → seats.centre ≡ None → AreSeats seats []
no_seats seats e none = record {
  named = λ name. rw e refl;
  centre = none;
}

-- the first value that is written for a key stays
first_value : {X : Type 0} (same : Bool) (old : Option X) (x : X) → (same ≡ true → old ≡ None)
    → cond same (Some x) old ≡ option_or old (if same then Some x else None)
first_value true old x none = rw (none refl) refl
first_value false None x none = refl
first_value false (Some y) x none = refl

pub first_named : {S : Type 0} (old new : HashMap ArrayString Seat S) (name : ArrayString) (seat : Seat)
    → seat_in old name ≡ None
    → ((q : ArrayString) → get same_name new q ≡ cond (same_name name q) (Some seat) (get same_name old q))
    → (q : ArrayString) → seat_in new q ≡ option_or (seat_in old q) (if bytes_eq name.bytes q.bytes then Some seat
    else None)
first_named old new name seat none updates q =
    updates q
    ∙ first_value (bytes_eq name.bytes q.bytes) (seat_in old q) seat
    (λ same. ap (λ (b : List ℕ). lookup (λ (k : ArrayString). bytes_eq b k.bytes) old.entries)
    (sym (same_bytes name.bytes q.bytes same)) ∙ none)

from_none : (n : ℕ) → n ≡ 0 + n
from_none n = omega arith

name_more : (name : List ℕ) (known : List Station) (p : Station)
    → option_or (first_seat (has_name name) 0 known) (if bytes_eq p.name name then Some (seat_at (length known) p)
    else None) ≡ first_seat (has_name name) 0 (known ++ p ∷ [])
name_more name known p =
    ap (λ (k : ℕ). option_or (first_seat (has_name name) 0 known) (if bytes_eq p.name name then Some (seat_at k p)
    else None)) (from_none (length known)) ∙ sym (first_more (has_name name) 0 known p)

centre_more : (known : List Station) (p : Station)
    → option_or (first_seat is_the_centre 0 known) (if is_centre p.role then Some (seat_at (length known) p)
    else None) ≡ first_seat is_the_centre 0 (known ++ p ∷ [])
centre_more known p =
    ap (λ (k : ℕ). option_or (first_seat is_the_centre 0 known) (if is_centre p.role then Some (seat_at k p)
    else None)) (from_none (length known)) ∙ sym (first_more is_the_centre 0 known p)

-- one more node
pub seats_more : (old new : Seats) (known : List Station) (p : Station) (name : ArrayString) (seat : Seat)
    → ((q : ArrayString) → seat_in new.by_name q
    ≡ option_or (seat_in old.by_name q) (if bytes_eq name.bytes q.bytes then Some seat else None))
    → new.centre ≡ option_or old.centre (if is_centre p.role then Some seat else None)
    → p.name ≡ name.bytes → seat ≡ seat_at (length known) p → AreSeats old known → AreSeats new (known ++ p ∷ [])
seats_more old new known p name seat updates centre named is before = record {
  named = λ q.
      updates q
      ∙ (ap (λ o. option_or o (if bytes_eq name.bytes q.bytes then Some seat else None)) (before.named q)
      ∙ (ap (λ (b : List ℕ). option_or (first_seat (has_name q.bytes) 0 known) (if bytes_eq b q.bytes then Some seat
      else None)) (sym named)
      ∙ (ap (λ (x : Seat). option_or (first_seat (has_name q.bytes) 0 known) (if bytes_eq p.name q.bytes then Some x
      else None)) is
      ∙ name_more q.bytes known p)));
  centre =
      centre
      ∙ (ap (λ o. option_or o (if is_centre p.role then Some seat else None)) before.centre
      ∙ (ap (λ (x : Seat). option_or (first_seat is_the_centre 0 known) (if is_centre p.role then Some x else None)) is
      ∙ centre_more known p));
}

-- The seat of a node has its EUI.

pub same_some : {X : Type 0} (a b : X) → Some a ≡ Some b → a ≡ b
same_some {X = X} a b e = ap (λ (o : Option X). unwrap_or o a) e

by_test : (b : Bool) (p : Station) (place other : ℕ) (o : Option Seat) (found : Option Station) (it : Seat)
    → (o ≡ Some it → it.eui.0 ≡ eui_or other found)
    → (if b then Some (seat_at place p) else o) ≡ Some it → it.eui.0 ≡ eui_or other (cond b (Some p) found)
by_test true p place other o found it rest is = ap (λ (x : Seat). x.eui.0) (sym (same_some (seat_at place p) it is))
by_test false p place other o found it rest is = rest is

pub seat_eui : (test : Station → Bool) (place other : ℕ) (known : List Station) (it : Seat)
    → first_seat test place known ≡ Some it → it.eui.0 ≡ eui_or other (find test known)
seat_eui test place other [] it is = cc
seat_eui test place other (p ∷ ps) it is = by_test (test p) p place other (first_seat test (place + 1) ps)
    (find test ps) it (seat_eui test (place + 1) other ps it) is

-- the nodes up to a place, and the next one
pub declared_more : (nodes : List Declared) (place : ℕ) (node : Declared) (seats : Seats) → place < length nodes
    → node ≡ get_or nodes place node
    → AreSeats seats (map station_for (map node_of (take place nodes)) ++ station_for (node_of node) ∷ [])
    → AreSeats seats (map station_for (map node_of (take (place + 1) nodes)))
declared_more nodes place node seats bound is before =
    let more : take (place + 1) nodes ≡ take place nodes ++ node
    ∷ [] = take_more nodes place node bound ∙ ap (λ (x : Declared). take place nodes ++ x ∷ []) (sym is) in
    subst (AreSeats seats)
    (sym (ap (λ (xs : List Declared). map station_for (map node_of xs)) more ∙
    (ap (map station_for) (map_push node_of (take place nodes) node) ∙ map_push station_for
    (map node_of (take place nodes)) (node_of node)))) before

pub declared_count : (nodes : List Declared) (place : ℕ) → place ≤ length nodes → place
    ≡ length (map station_for (map node_of (take place nodes)))
declared_count nodes place few =
    sym (length-map (map node_of (take place nodes)) station_for ∙
    (length-map (take place nodes) node_of ∙ length-take-le place nodes few))

pub added : (old new : Seats) (known : List Station) (p : Station) (name : ArrayString) (role : Role) (seat : Seat)
    → ((q : ArrayString) → seat_in new.by_name q
    ≡ option_or (seat_in old.by_name q) (if bytes_eq name.bytes q.bytes then Some seat else None))
    → new.centre ≡ option_or old.centre (if is_centre (model_role role) then Some seat else None) → p.name
    ≡ name.bytes → p.eui ≡ seat.eui.0 → p.role ≡ model_role role → seat.place ≡ length known
    → AreSeats old known → AreSeats new (known ++ p ∷ [])
added old new known p name role seat updates first named eui is place before =
    seats_more old new known p name seat updates
    (first ∙ ap (λ (r : model.Role). option_or old.centre (if is_centre r then Some seat else None)) (sym is)) named
    (ap (λ (k : ℕ). let x : Seat = record { place = k; eui = seat.eui } in x) place ∙ ap
    (λ (n : ℕ). let x : Seat = record { place = length known; eui = record { 0 = n } } in x) (sym eui)) before
