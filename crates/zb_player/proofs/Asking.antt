-- What a bench is asked, event after event.
use Rattle.std.proofs.Common.{◌≡◌, ℕ, zero, suc, ◌+◌, ◌<◌, ◌≤◌, List, [], ◌∷◌, ◌++◌, map, length, take, get_or, Option, Some, None, refl, sym, ap, ◌∙◌, subst, arith, append_assoc, append-nil, add-one}
use Rattle.std.proofs.Math.Seq.{take-length}
use Rattle.std.proofs.lemmas.List.{length-map}
use Rattle.law_schedules.specs.Schedules.{schedule_of}
use Rattle.law_schedules.proofs.Meets.{is_schedule}
use Rattle.zb_disk.specs.Memory.{Medium}
use Rattle.zb_model.specs.Data.{Station}
use Rattle.zb_model.specs.Play.{Node, no_station, stations}
use Rattle.zb_player.specs.Benches.{Asks, AsksFor, Gave, GaveAt, GaveFor, Question, put_at, question_at, questions, under, under_at}
use Rattle.zb_player.proofs.EventAt.{same_index, seat_of}
use Rattle.zb_player.proofs.Looping.{mapped_at}
use Rattle.zb_player.proofs.Named.{found_at}
use Rattle.zb_player_events.specs.Acts.{seat_for}
use Rattle.zb_player_events.specs.Seats.{AreSeats}
use Rattle.zb_player_events.specs.declared.seats.Seat.{Seat}
use Rattle.zb_player_events.specs.declared.seats.Seats.{Seats}
use Rattle.zb_sched.specs.Schedules as sched
use Rattle.zb_sched.specs.Valid.{IsSchedule}
use Rattle.zb_sched_line.specs.declared.event.Event.{Event as CodeEvent}
use Rattle.zb_sched_line.specs.Said.{Event}
use Rattle.zb_sched_line.specs.Views.{event_of}

-- nothing asked, and more asked
pub asks_none : (a : Option (List Question)) → Asks a a []
asks_none None = tt
asks_none (Some xs) = sym (append-nil xs)

pub asks_more : (a b c : Option (List Question)) (xs ys : List Question) → Asks a b xs → Asks b c ys
    → Asks a c (xs ++ ys)
asks_more None None None xs ys p q = tt
asks_more None None (Some c) xs ys p q = absurd q
asks_more None (Some b) c xs ys p q = absurd p
asks_more (Some a) None c xs ys p q = absurd p
asks_more (Some a) (Some b) None xs ys p q = absurd q
asks_more (Some a) (Some b) (Some c) xs ys p q = q ∙ ap (λ zs. zs ++ ys) p ∙ append_assoc a xs ys

-- the seat of an event is one of the nodes
pub seat_below : (known : List Station) (e : Event) (it : Seat) → seat_for known e ≡ Some it
    → it.place < length known
seat_below known e it found =
    let s = seat_of known e it no_station found in
    let f = found_at s.0 0 known it no_station s.1 in
    subst (λ n. n < length known) (sym (same_index it.place f.index f.place)) f.bound

-- an event of the outside asks nothing, and one of a node once
pub asks_nothing : (seats : Seats) (number : ℕ) (e : Event) (a : Option (List Question))
    → ((known : List Station) → AreSeats seats known → seat_for known e ≡ None)
    → AsksFor seats number (e ∷ []) a a
unfolding questions
asks_nothing seats number e a none = λ known are few.
    subst (λ s. Asks a a (question_at number s ++ [])) (sym (none known are)) (asks_none a)

pub asks_once : (seats : Seats) (number : ℕ) (e : Event) (it : Seat) (a b : Option (List Question))
    → ((known : List Station) → AreSeats seats known → seat_for known e ≡ Some it)
    → (it.place < 256 → Asks a b (record { event = number; place = it.place } ∷ []))
    → AsksFor seats number (e ∷ []) a b
unfolding questions
asks_once seats number e it a b one asks = λ known are few.
    let found = one known are in
    subst (λ s. Asks a b (question_at number s ++ [])) (sym found)
    (asks (omega (arith, few, seat_below known e it found)))

-- so does it give nothing, or what it is asked for
pub gave_nothing : (seats : Seats) (number : ℕ) (e : Event) (gives : ℕ → ℕ → Option Medium)
    (a : Option (ℕ → Option Medium)) → ((known : List Station) → AreSeats seats known → seat_for known e ≡ None)
    → GaveFor seats number e gives a a
gave_nothing seats number e gives a none = λ known are few.
    subst (λ s. GaveAt a a number gives s) (sym (none known are)) refl

pub gave_once : (seats : Seats) (number : ℕ) (e : Event) (it : Seat) (gives : ℕ → ℕ → Option Medium)
    (a b : Option (ℕ → Option Medium)) → ((known : List Station) → AreSeats seats known → seat_for known e ≡ Some it)
    → (it.place < 256 → Gave a b number (gives number it.place))
    → GaveFor seats number e gives a b
gave_once seats number e it gives a b one gave = λ known are few.
    let found = one known are in
    subst (λ s. GaveAt a b number gives s) (sym found) (gave (omega (arith, few, seat_below known e it found)))

plus_zero : (n : ℕ) → n + 0 ≡ n
plus_zero n = omega arith

pub asks_at_first : (seats : Seats) (a : Option (List Question)) → AsksFor seats 1 [] a a
unfolding questions
asks_at_first seats a = λ known are few. asks_none a

-- the questions of one event more
one_more : (known : List Station) (number : ℕ) (es : List Event) (i : ℕ) (d : Event) → i < length es
    → questions known number (take (suc i) es)
    ≡ questions known number (take i es) ++ questions known (number + i) (get_or es i d ∷ [])
unfolding questions
one_more known number [] i d bound = absurd (omega arith)
one_more known number (e ∷ es) zero d bound = ap (λ n. question_at n (seat_for known e) ++ []) (sym (plus_zero number))
one_more known number (e ∷ es) (suc i) d bound =
    let more = one_more known (number + 1) es i d (omega arith) in
    ap (λ qs. question_at number (seat_for known e) ++ qs) more
    ∙ sym (append_assoc (question_at number (seat_for known e)) (questions known (number + 1) (take i es)) _)
    ∙ ap (λ n. (question_at number (seat_for known e) ++ questions known (number + 1) (take i es))
    ++ questions known n (get_or es i d ∷ [])) (omega arith)

pub asks_so_far : (seats now : Seats) (events : List CodeEvent) (i : ℕ) (e : CodeEvent)
    (a b c : Option (List Question))
    → i < length events → e ≡ get_or events i e → now ≡ seats
    → AsksFor seats 1 (take i (map event_of events)) a b
    → AsksFor now (i + 1) (event_of e ∷ []) b c
    → AsksFor seats 1 (take (i + 1) (map event_of events)) a c
asks_so_far seats now events i e a b c bound is same so_far asks = λ known are few.
    let es = map event_of events in
    let here = asks known (subst (λ x. AreSeats x known) (sym same) are) few in
    let number : 1 + i ≡ i + 1 = omega arith in
    let last : questions known (1 + i) (get_or es i (event_of e) ∷ []) ≡ questions known (i + 1) (event_of e ∷ []) =
    ap (λ n. questions known n (get_or es i (event_of e) ∷ [])) number
    ∙ ap (λ x. questions known (i + 1) (x ∷ [])) (mapped_at events i e is) in
    let all : questions known 1 (take (i + 1) es)
    ≡ questions known 1 (take i es) ++ questions known (i + 1) (event_of e ∷ []) =
    ap (λ n. questions known 1 (take n es)) (add-one i)
    ∙ one_more known 1 es i (event_of e) (omega (arith, bound, length-map events event_of))
    ∙ ap (λ qs. questions known 1 (take i es) ++ qs) last in
    subst (Asks a c) (sym all) (asks_more a b c _ _ (so_far known are few) here)

pub asks_all : (seats : Seats) (events : List CodeEvent) (n : ℕ) (a b : Option (List Question))
    → n ≡ length events
    → AsksFor seats 1 (take n (map event_of events)) a b → AsksFor seats 1 (map event_of events) a b
asks_all seats events n a b same so_far = λ known are few.
    let es = map event_of events in
    let many : n ≡ length es = same ∙ sym (length-map events event_of) in
    subst (λ (xs : List Event). Asks a b (questions known 1 xs)) (ap (λ k. take k es) many ∙ take-length es)
    (so_far known are few)

-- ---- the disk that a bench gives stands under the node

pub under_none : (gives : ℕ → ℕ → Option Medium) (number : ℕ) (disks : List Medium) {found : Option Seat}
    → found ≡ None → under_at gives number disks found ≡ disks
under_none gives number disks none = ap (under_at gives number disks) none

-- a schedule has at most 64 nodes
pub few_stations : (p : sched.Schedule) → IsSchedule p → length (stations (schedule_of p)) ≤ 256
few_stations p is =
    let few = (is_schedule p is).few_nodes in
    let same : length (stations (schedule_of p)) ≡ length (schedule_of p).nodes =
    length-map (schedule_of p).nodes (λ (m : Node). m.station) in
    omega (arith, few, same)

pub under_seat : (p : sched.Schedule) (gives : ℕ → ℕ → Option Medium) (number : ℕ) (disks put : List Medium)
    (e : Event) {it : Seat} → IsSchedule p → seat_for (stations (schedule_of p)) e ≡ Some it
    → (it.place < 256 → put ≡ put_at it.place disks (gives number it.place))
    → put ≡ under gives (stations (schedule_of p)) number e disks
under_seat p gives number disks put e {it} is found puts =
    puts (omega (arith, few_stations p is, seat_below (stations (schedule_of p)) e it found))
    ∙ ap (under_at gives number disks) (sym found)
