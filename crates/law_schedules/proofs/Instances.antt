-- For the laws that ask for a schedule: a small one, and all laws over runs for it.
use Rattle.std.specs.Prelude.{◌≡◌, ℕ, true, [], ◌∷◌, None, nat_eq, false, refl}
use Rattle.std.proofs.Common.{sym, ap, ◌∙◌}
use Rattle.std.proofs.lemmas.Bool.{false≢true, ltb-true, leb-true}
use Rattle.zb_base.specs.declared.node.Role.TheVariants as role
use Rattle.zb_model.specs.Data.{Bytes}
use Rattle.zb_model.specs.State.{same_key}
use Rattle.zb_sched.specs.Schedules.{Node, Schedule}
use Rattle.zb_sched.specs.Valid.{IsSchedule}
use Rattle.zb_sched_line.specs.Said.{Ticks}
use Rattle.law_real_runs.specs.Headline.{Holds}
use Rattle.law_schedules.specs.Schedules.{schedule_of}
use Rattle.law_schedules.proofs.Holding.{all_hold}

abbrev centre : Node
centre = record {
  name = 99 ∷ [];
  role = role.Centre;
  eui = 1;
  short = 0;
  out_block = 16;
  in_block = 4;
  code = None;
  network = None;
  start_nwk = 0;
  start_aps = 0;
}

abbrev device : Node
device = record {
  name = 100 ∷ [];
  role = role.Device;
  eui = 2;
  short = 20;
  out_block = 16;
  in_block = 4;
  code = None;
  network = None;
  start_nwk = 0;
  start_aps = 0;
}

abbrev pub p : Schedule
p = record { nodes = centre ∷ device ∷ []; draws = []; events = Ticks (99 ∷ []) ∷ [] }

differ : (a b : Bytes) → same_key a b ≡ false → same_key b b ≡ true → a ≡ b → ⊥
differ a b other same e = false≢true (sym other ∙ ap (λ bytes. same_key bytes b) e ∙ same)

apart : (a b : ℕ) → nat_eq a b ≡ false → nat_eq b b ≡ true → a ≡ b → ⊥
apart a b other same e = false≢true (sym other ∙ ap (λ n. nat_eq n b) e ∙ same)

-- Instance of schedules_meet_the_premises, each_schedule_holds, nodes_have_different_euis,
-- nodes_are_sound_in_each_run, lines_of_each_run_agree, schedules_are_in_their_ranges,
-- the_lines_of_each_run_are_proper,
-- the_text_of_a_run_reads_back, read_run, runs_are_sound.
record ScheduleCase : Type 0 where
  schedule : IsSchedule p
  all_laws : Holds (schedule_of p)

pub is_schedule : IsSchedule p
is_schedule = record {
  so_far = record {
    few_nodes = leb-true _ _ refl;
    nodes = (
      (
        (refl, (ltb-true _ _ refl, refl), refl, ltb-true _ _ refl, leb-true _ _ refl, leb-true _ _ refl),
        refl,
        tt,
        tt,
        leb-true _ _ refl,
        leb-true _ _ refl,
      ),
      (
        (
          (refl, (ltb-true _ _ refl, refl), refl, ltb-true _ _ refl, leb-true _ _ refl, leb-true _ _ refl),
          refl,
          tt,
          tt,
          leb-true _ _ refl,
          leb-true _ _ refl,
        ),
        tt,
      ),
    );
    apart =
        (((differ (99 ∷ []) (100 ∷ []) refl refl, apart 1 2 refl refl, apart 0 20 refl refl, tt), tt), (tt, tt));
    keys = ((tt, (tt, tt)), ((tt, (tt, tt)), tt));
    draws = tt;
    draws_apart = tt;
    few_events = leb-true _ _ refl;
    events = ((refl, refl, refl), tt);
  };
  centre = refl;
}

schedule : ScheduleCase
schedule = record { schedule = is_schedule; all_laws = all_hold p is_schedule }
