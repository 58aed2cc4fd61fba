-- The laws on nodes, of each schedule.
use Rattle.std.proofs.Common.{◌≡◌, true}
use Rattle.std.specs.List.{AllByRecursion}
use Rattle.zb_model.specs.Play as model
use Rattle.law_run_lookups.proofs.Newest.{newest-along}
use Rattle.law_real_nodes.specs.Sound.{NodesAreSound}
use Rattle.law_real_nodes.proofs.Along.{none-along}
use Rattle.law_real_nodes.proofs.Euis.{different}
use Rattle.law_real_nodes.proofs.Opening.{opens_as_judged}
use Rattle.zb_model_real.specs.Real.{real}
use Rattle.law_schedules.specs.Schedules.{schedule_of}
use Rattle.law_schedules.proofs.Holding.{all_hold}
use Rattle.law_schedules.proofs.Meets.{is_schedule}
use Rattle.law_run_lookups.proofs.Plans.{sealable}
use Rattle.law_tables_suffice.specs.Along.{StartsAlone, euis_differ}
use Rattle.law_tables_suffice.proofs.Ready.{declared_along, ruled_along, start_rules}
use Rattle.zb_sched.specs.Schedules.{Schedule}
use Rattle.zb_sched.specs.Valid.{IsSchedule}

pub sound : ((w : model.Schedule) → euis_differ w ≡ true → AllByRecursion (StartsAlone w) w.nodes) → (p : Schedule)
    → IsSchedule p → NodesAreSound (schedule_of p)
sound alone p is = record {
  starts = alone (schedule_of p) (different p is);
  rules_first = start_rules (schedule_of p) (is_schedule p is) (different p is);
  declared = declared_along real (schedule_of p) (is_schedule p is) (different p is);
  rules = ruled_along real opens_as_judged (schedule_of p) (is_schedule p is) (different p is);
  newest = newest-along real opens_as_judged (schedule_of p) (is_schedule p is) (different p is);
  no_filler = none-along real (schedule_of p) (all_hold p is).granted (all_hold p is).room
      (newest-along real opens_as_judged (schedule_of p) (is_schedule p is) (different p is));
  sealable = sealable real (schedule_of p);
}
