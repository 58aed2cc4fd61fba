-- For the laws that ask for a schedule whose nodes have names of their own: a small one.
use Rattle.std.specs.Prelude.{refl}
use Rattle.zb_model.specs.Play.{Schedule, stations}
use Rattle.zb_model.specs.Rules.{centre_of}
use Rattle.zb_model.specs.Schedules.{IsSchedule}
use Rattle.zb_trace_model.specs.Naming.{AreNamed}
use Rattle.law_run.specs.Commanding.{OneCentre}
use Rattle.law_run.specs.KeysApart.{KeysApart}
use Rattle.law_run.specs.Premises.{Premises}
use Rattle.law_schedules.specs.Schedules.{event_for, schedule_of}
use Rattle.law_schedules.proofs.Holding.{premises}
use Rattle.law_schedules.proofs.Instances.{p, is_schedule}

abbrev w : Schedule
w = schedule_of p

-- Instance of runs_keep_the_second_claim, runs_keep_the_third_claim, runs_keep_the_fourth_claim,
-- runs_keep_the_fifth_claim, runs_keep_the_sixth_claim, a_run_is_read_by_names_as_by_addresses,
-- readings_of_a_run_are_its_states.
record NamedCase : Type 0 where
  premises_met : Premises w
  schedule : IsSchedule w
  one_centre : OneCentre w
  keys : KeysApart w
  named : AreNamed (stations w)

named : NamedCase
unfolding schedule_of event_for centre_of
named =
    let all = premises p is_schedule in
    record {
      premises_met = all;
      schedule = all.schedule;
      one_centre = all.one_centre;
      keys = all.keys;
      named = record { names = (refl, (refl, tt)); differ = ((refl, tt), (tt, tt)) };
    }
