-- The nodes of a schedule, at their places.
use Rattle.std.proofs.Common.{◌≡◌, ℕ, zero, suc, ◌<◌, Bool, true, false, cond, List, [], ◌∷◌, map, find, length, get_or, Option, Some, None, nat_eq, bytes_eq, eq-eqb, eqb-true, refl, sym, ap, ◌∙◌, subst, arith}
use Rattle.std.specs.List.{AllByRecursion}
use Rattle.std.proofs.lemmas.Slice.Eq.{bytes_eq-Decides}
use Rattle.zb_model.specs.Data.{Station, nobody}
use Rattle.zb_model.specs.Play.{Schedule, setting_of, station_or, stations}
use Rattle.zb_model.specs.Rules.{centre_of, eui_or, station_of}
use Rattle.zb_model.specs.State.{is_centre}
use Rattle.law_schedules.specs.Schedules.{schedule_of, station_for}
use Rattle.law_schedules.proofs.Meets.{one, same_stations}
use Rattle.zb_player_events.specs.Nodes.{IsSeat, NodeValue}
use Rattle.zb_player_events.specs.Told.{IsSeated}
use Rattle.zb_player.proofs.Stand.{EuisDiffer}
use Rattle.zb_trace_model.specs.Naming.{IsCalled, name_of, name_or_none}
use Rattle.zb_sched.specs.Schedules as sched
use Rattle.zb_sched.specs.Valid.{Apart, FitsNode, IsSchedule, Pairwise}
use Rattle.zb_sched.proofs.Splits.{false_if}
use Rattle.zb_text.specs.Fields.{is_name}
use Rattle.zb_trace.specs.Views.{eui_or_nobody, named, the_centre}

-- what all items have the item at a place has
pub all_get : {X : Type 0} (P : X → Type 0) (xs : List X) (i : ℕ) (d : X) → i < length xs → AllByRecursion P xs
    → P (get_or xs i d)
all_get P [] i d bound all = absurd (omega arith)
all_get P (x ∷ xs) zero d bound all = all.0
all_get P (x ∷ xs) (suc i) d bound all = all_get P xs i d (omega arith) all.1

-- of items that a test tells apart the one at a place is found by it
found_at : {X : Type 0} (R : X → X → Type 0) (test : X → X → Bool) → ((x y : X) → R x y → test x y ≡ false)
    → ((x : X) → test x x ≡ true)
    → (xs : List X) (i : ℕ) (d : X) → i < length xs → Pairwise R xs → find (λ y. test y (get_or xs i d)) xs
    ≡ Some (get_or xs i d)
found_at R test apart same [] i d bound pairs = absurd (omega arith)
found_at R test apart same (x ∷ xs) zero d bound pairs = ap (λ b. cond b (Some x) (find (λ y. test y x) xs)) (same x)
found_at R test apart same (x ∷ xs) (suc i) d bound pairs =
    ap (λ b. cond b (Some x) (find (λ y. test y (get_or xs i d)) xs))
    (apart x (get_or xs i d) (all_get (R x) xs i d (omega arith) pairs.0))
    ∙ found_at R test apart same xs i d (omega arith) pairs.1

abbrev pub Differ : Station → Station → Type 0
Differ p q = (p.name ≡ q.name → ⊥) × (p.eui ≡ q.eui → ⊥)

differ_pairs : (ms : List sched.Node) → Pairwise Apart ms → Pairwise Differ (map station_for ms)
differ_pairs [] pairs = tt
differ_pairs (m ∷ ms) pairs = (others ms pairs.0, differ_pairs ms pairs.1)
  where
    others : (ns : List sched.Node) → AllByRecursion (Apart m) ns
        → AllByRecursion (Differ (station_for m)) (map station_for ns)
    others [] all = tt
    others (n ∷ ns) all = ((all.0.0, all.0.1), others ns all.1)

euis_of : (ps : List Station) → Pairwise Differ ps → EuisDiffer ps
euis_of [] pairs = tt
euis_of (p ∷ ps) pairs = (others ps pairs.0, euis_of ps pairs.1)
  where
    others : (qs : List Station) → AllByRecursion (Differ p) qs → AllByRecursion (λ (q : Station). p.eui ≡ q.eui → ⊥)
        qs
    others [] all = tt
    others (q ∷ qs) all = (all.0.1, others qs all.1)

pub stations_differ : (p : sched.Schedule) → IsSchedule p → Pairwise Differ (stations (schedule_of p))
stations_differ p is = subst (Pairwise Differ) (sym (same_stations p)) (differ_pairs p.nodes is.so_far.apart)

pub euis_differ : (p : sched.Schedule) → IsSchedule p → EuisDiffer (stations (schedule_of p))
euis_differ p is = euis_of (stations (schedule_of p)) (stations_differ p is)

abbrev by_eui : Station → Station → Bool
by_eui p q = nat_eq p.eui q.eui

abbrev by_name : Station → Station → Bool
by_name p q = bytes_eq p.name q.name

other_eui : (p q : Station) → Differ p q → by_eui p q ≡ false
other_eui p q differ = false_if (by_eui p q) (λ same. differ.1 (eqb-true p.eui q.eui same))

other_name : (p q : Station) → Differ p q → by_name p q ≡ false
other_name p q differ = false_if (by_name p q) (λ same. differ.0 ((bytes_eq-Decides p.name q.name).0 same))

-- the node at a place is the one of its EUI
pub station_at : (ps : List Station) (i : ℕ) (d : Station) → i < length ps → Pairwise Differ ps
    → station_of ps (get_or ps i d).eui ≡ Some (get_or ps i d)
unfolding station_of
station_at ps i d bound pairs = found_at Differ by_eui other_eui (λ p. eq-eqb p.eui p.eui refl) ps i d bound pairs

called_at : (ps : List Station) (i : ℕ) (d : Station) → i < length ps → Pairwise Differ ps
    → IsCalled ps (get_or ps i d).eui (get_or ps i d).name
unfolding name_of named
called_at ps i d bound pairs = record {
  name_is = ap name_or_none (station_at ps i d bound pairs);
  leads =
      ap eui_or_nobody
      (found_at Differ by_name other_name (λ p. (bytes_eq-Decides p.name p.name).1 refl) ps i d bound pairs);
}

-- the setting of the node at a place is its own
pub setting_at : (w : Schedule) (i : ℕ) (d : Station) → i < length (stations w) → Pairwise Differ (stations w)
    → (setting_of w (get_or (stations w) i d).eui).me ≡ get_or (stations w) i d
unfolding setting_of
setting_at w i d bound pairs = ap station_or (station_at (stations w) i d bound pairs)

names_spelled : (ms : List sched.Node) → AllByRecursion FitsNode ms
    → AllByRecursion (λ (p : Station). is_name p.name ≡ true) (map station_for ms)
names_spelled [] all = tt
names_spelled (m ∷ ms) all = (all.0.0.0, names_spelled ms all.1)

same_centre : (o : Option Station) → eui_or_nobody o ≡ eui_or nobody o
same_centre None = refl
same_centre (Some p) = refl

-- the node at a place is the schedule's node of its EUI
pub seated_at : (p : sched.Schedule) (i : ℕ) (d : Station) (node : NodeValue) → IsSchedule p → i
    < length (stations (schedule_of p))
    → IsSeat (get_or (stations (schedule_of p)) i d) node
    → IsSeated (schedule_of p) (get_or (stations (schedule_of p)) i d).eui node
unfolding the_centre centre_of
seated_at p i d node is bound seat =
    let w = schedule_of p in
    let q = get_or (stations w) i d in
    let pairs = stations_differ p is in
    let spelled : AllByRecursion (λ (p : Station). is_name p.name ≡ true) (stations w) =
    subst (AllByRecursion (λ (p : Station). is_name p.name ≡ true)) (sym (same_stations p))
    (names_spelled p.nodes is.so_far.nodes) in
    record {
      called = subst (IsCalled (stations w) q.eui) (sym seat.name) (called_at (stations w) i d bound pairs);
      spelled = subst (λ name. is_name name ≡ true) (sym seat.name)
          (all_get (λ (p : Station). is_name p.name ≡ true) (stations w) i d bound spelled);
      centre = λ e.
          same_centre (find (λ (s : Station). is_centre s.role) (stations w))
          ∙ sym (all_get (λ (s : Station). is_centre s.role ≡ true → s.eui ≡ centre_of (stations w)) (stations w) i d
          bound (one p is)
          (sym (ap (λ (s : Station). is_centre s.role) (setting_at w i d bound pairs)) ∙ e));
    }
