-- Each node of a schedule has a name of its own.
use Rattle.std.proofs.Common.{◌≡◌, true, false, List, [], ◌∷◌, map, bytes_eq, sym, subst}
use Rattle.std.specs.List.{AllByRecursion}
use Rattle.std.proofs.lemmas.Slice.Eq.{bytes_eq-Decides}
use Rattle.zb_model.specs.Data.{Station}
use Rattle.zb_model.specs.Play.{stations}
use Rattle.law_schedules.specs.Schedules.{schedule_of, station_for}
use Rattle.law_schedules.proofs.Meets.{same_stations}
use Rattle.zb_trace_model.specs.Naming.{AreNamed, NamesDiffer}
use Rattle.zb_sched.specs.Schedules.{Node, Schedule}
use Rattle.zb_sched.specs.Valid.{Apart, FitsNode, IsSchedule, Pairwise}
use Rattle.zb_sched.proofs.Splits.{false_if}
use Rattle.zb_text.specs.Fields.{is_name}

all_names : (ms : List Node) → AllByRecursion FitsNode ms → AllByRecursion (λ (p : Station). is_name p.name ≡ true)
    (map station_for ms)
all_names [] all = tt
all_names (m ∷ ms) all = (all.0.0.0, all_names ms all.1)

none_of_name : (m : Node) (ns : List Node) → AllByRecursion (Apart m) ns
    → AllByRecursion (λ (q : Station). bytes_eq m.name q.name ≡ false) (map station_for ns)
none_of_name m [] all = tt
none_of_name m (n ∷ ns) all = (
  false_if (bytes_eq m.name n.name) (λ same. all.0.0 ((bytes_eq-Decides m.name n.name).0 same)),
  none_of_name m ns all.1,
)

names_differ : (ms : List Node) → Pairwise Apart ms → NamesDiffer (map station_for ms)
names_differ [] pairs = tt
names_differ (m ∷ ms) pairs = (none_of_name m ms pairs.0, names_differ ms pairs.1)

pub are_named : (p : Schedule) → IsSchedule p → AreNamed (stations (schedule_of p))
are_named p is =
    subst AreNamed (sym (same_stations p))
    (record { names = all_names p.nodes is.so_far.nodes; differ = names_differ p.nodes is.so_far.apart })
