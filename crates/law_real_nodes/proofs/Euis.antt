-- No two nodes of a schedule have one EUI.
use Rattle.std.proofs.Common.{◌≡◌, Bool, true, false, not, ◌&&◌, ◌||◌, List, [], ◌∷◌, map, nat_eq, eqb-true, refl, sym, ap, ◌∙◌}
use Rattle.std.specs.List.{AllByRecursion, list_any}
use Rattle.zb_model.specs.Data.{Station}
use Rattle.zb_model.specs.Fits.{all_apart}
use Rattle.law_schedules.specs.Schedules.{schedule_of, station_for}
use Rattle.law_schedules.proofs.Meets.{same_stations}
use Rattle.law_tables_suffice.specs.Along.{euis_differ}
use Rattle.zb_sched.specs.Schedules.{Node, Schedule}
use Rattle.zb_sched.specs.Valid.{Apart, IsSchedule, Pairwise}
use Rattle.zb_sched.proofs.Splits.{false_if}

neither : (a b : Bool) → a ≡ false → b ≡ false → (a || b) ≡ false
neither false b e f = f
neither true b e f = e

both : (a b : Bool) → a ≡ false → b ≡ true → (not a && b) ≡ true
both false b e f = f
both true b e f = sym e

none_like : (m : Node) (ns : List Node) → AllByRecursion (Apart m) ns → list_any (λ (q : Station). nat_eq m.eui q.eui)
    (map station_for ns) ≡ false
none_like m [] all = refl
none_like m (n ∷ ns) all =
    neither (nat_eq m.eui n.eui) (list_any (λ (q : Station). nat_eq m.eui q.eui) (map station_for ns))
    (false_if (nat_eq m.eui n.eui) (λ same. all.0.1 (eqb-true m.eui n.eui same))) (none_like m ns all.1)

all_differ : (ms : List Node) → Pairwise Apart ms → all_apart (λ (p q : Station). nat_eq p.eui q.eui)
    (map station_for ms) ≡ true
all_differ [] pairs = refl
all_differ (m ∷ ms) pairs = both (list_any (λ (q : Station). nat_eq m.eui q.eui) (map station_for ms))
    (all_apart (λ (p q : Station). nat_eq p.eui q.eui) (map station_for ms)) (none_like m ms pairs.0)
    (all_differ ms pairs.1)

pub different : (p : Schedule) → IsSchedule p → euis_differ (schedule_of p) ≡ true
unfolding euis_differ
different p is = ap (all_apart (λ (a b : Station). nat_eq a.eui b.eui)) (same_stations p) ∙ all_differ p.nodes
    is.so_far.apart
