-- For the law that asks that the values of a schedule are in their ranges: a small schedule.
use Rattle.std.specs.Prelude.{ℕ, [], ◌∷◌, None, refl}
use Rattle.std.proofs.lemmas.Bool.{ltb-true, leb-true}
use Rattle.zb_model.specs.Data.{Role, Centre, Device, DoTimer, SayTo}
use Rattle.zb_model.specs.Play.{Node, Schedule, Own, setting_of}
use Rattle.zb_model.specs.Rules.{centre_of, station_of}
use Rattle.zb_model.specs.Schedules.{IsMember, IsSchedule}
use Rattle.law_run_ranges.specs.Asking.{NodeInRange, ScheduleInRange}

abbrev node : Role → ℕ → Node
node role eui = record {
  station = record { name = []; eui = eui; short = eui; role = role; out_block = 16; in_block = 4 };
  code = None;
  network = None;
  start_nwk = 0;
  start_aps = 0;
}

abbrev w : Schedule
w = record {
  nodes = node Centre 1 ∷ node Device 2 ∷ [];
  draws = [];
  events = Own 1 (SayTo 2 (7 ∷ [])) ∷ Own 2 DoTimer ∷ [];
}

centre_is_member : IsMember (node Centre 1)
centre_is_member = record {
  eui = ltb-true _ _ refl;
  out_block = ltb-true _ _ refl;
  in_block = ltb-true _ _ refl;
  start_nwk = leb-true _ _ refl;
  start_aps = leb-true _ _ refl;
}

device_is_member : IsMember (node Device 2)
device_is_member = record {
  eui = ltb-true _ _ refl;
  out_block = ltb-true _ _ refl;
  in_block = ltb-true _ _ refl;
  start_nwk = leb-true _ _ refl;
  start_aps = leb-true _ _ refl;
}

centre_in_range : NodeInRange (node Centre 1)
centre_in_range = record {
  station = record {
    eui = ltb-true _ _ refl;
    short = ltb-true _ _ refl;
    out_block = leb-true _ _ refl;
    in_block = leb-true _ _ refl;
  };
  code = tt;
  network = tt;
  start_nwk = leb-true _ _ refl;
  start_aps = leb-true _ _ refl;
}

device_in_range : NodeInRange (node Device 2)
device_in_range = record {
  station = record {
    eui = ltb-true _ _ refl;
    short = ltb-true _ _ refl;
    out_block = leb-true _ _ refl;
    in_block = leb-true _ _ refl;
  };
  code = tt;
  network = tt;
  start_nwk = leb-true _ _ refl;
  start_aps = leb-true _ _ refl;
}

-- Instance of the_values_of_lines_are_in_their_ranges.
record RangesCase : Type 0 where
  schedule : IsSchedule w
  in_range : ScheduleInRange w

ranges : RangesCase
unfolding setting_of station_of centre_of
ranges = record {
  schedule = record {
    few_nodes = leb-true _ _ refl;
    nodes = (centre_is_member, (device_is_member, tt));
    events = (refl, (refl, tt));
    roles = (refl, (refl, tt));
    calls = (tt, (tt, tt));
  };
  in_range = record {
    nodes = (centre_in_range, (device_in_range, tt));
    centre = ltb-true _ _ refl;
    draws = tt;
    events = (((ltb-true _ _ refl, tt), leb-true _ _ refl), (tt, tt));
    few_events = leb-true _ _ refl;
  };
}
