-- A hub that meets what the laws on sessions ask for. It is a centre with one device, in one session on a store that
-- `init` made.
use Rattle.std.proofs.Common.{◌≡◌, List, [], ◌∷◌, refl, ap, arith}
use Rattle.std.specs.Prelude.{codes}
use Rattle.hex.specs.Hex.{decode_pairs}
use Rattle.law_sessions.specs.Deeds.{AreDeeds, Lived}
use Rattle.law_sessions.specs.Logs.{AllHaveSetting, IsHubOf}
use Rattle.law_sessions.specs.Making.{IsHeader, found_first, hub_of, hub_schedule}
use Rattle.law_sessions.specs.Sessions.{AreSessions}
use Rattle.law_sessions.proofs.Made.{StartGives, made_is, made_nodes}
use Rattle.zb_base.specs.declared.node.Role.TheVariants as role
use Rattle.zb_centre_store.specs.Standing.{found_on}
use Rattle.zb_live.specs.Living.{done, fresh, served, setting_of}
use Rattle.zb_model.specs.Data.{Bytes}
use Rattle.zb_model.specs.Play.{Schedule}
use Rattle.zb_model.specs.Schedules.{IsSchedule}
use Rattle.zb_script.specs.Scripts.{Script}

abbrev key : Bytes
key = 1 ∷ 2 ∷ 3 ∷ 4 ∷ 5 ∷ 6 ∷ 7 ∷ 8 ∷ 9 ∷ 10 ∷ 11 ∷ 12 ∷ 13 ∷ 14 ∷ 15 ∷ 16 ∷ []

abbrev network : Script
network = record {
  stations = record { name = codes "c"; role = role.Centre; eui = 1; short = 0 }
      ∷ record { name = codes "d"; role = role.Device; eui = 2; short = 4097 } ∷ [];
  out_block = 8;
  in_block = 4;
  steps = [];
}

abbrev session : List Bytes
session = codes "centre c 0000000000000001 8 4" ∷ codes "peer d device 0000000000000002 1001" ∷ codes "open"
    ∷ codes "timer" ∷ []

header : IsHeader network
header = record {
  centre = (refl, (refl, tt));
  differ = refl;
  euis = (omega arith, (omega arith, tt));
  few = omega arith;
  out_block = omega arith;
  in_block = omega arith;
}

declared : (served (found_first key) session fresh).after.network ≡ network
unfolding done decode_pairs
declared = refl

settings : AllHaveSetting (setting_of network) (found_first key) (session ∷ [])
settings = (λ opened. ap setting_of declared, tt)

abbrev hub_run : Schedule
hub_run = hub_schedule network key (session ∷ [])

-- Instance of the_log_of_a_hub_is_a_run, the_run_of_a_hub_holds, a_hub_accepts_no_counter_twice,
-- a_hub_confirms_only_stored_keys, a_hub_that_init_made_is_a_node_of_a_schedule.
record IsMet : Type 0 where
  header : IsHeader network
  settings : AllHaveSetting (setting_of network) (found_first key) (session ∷ [])
  hub : IsHubOf hub_run (hub_of network) (found_first key) (session ∷ [])
  nodes : IsSchedule (record hub_run { events = [] })

met : StartGives → IsMet
met gives = record {
  header = header;
  settings = settings;
  hub = made_is gives network key (session ∷ []) header settings;
  nodes = made_nodes network key (session ∷ []) header;
}

-- ---- on a disk that is empty, so that `open` is refused, and nothing is sealed or accepted

-- Instance of no_counter_comes_twice_on_one_disk, the_log_of_sessions_on_one_disk_is_that_of_their_lines.
sessions : AreSessions [] (record { lines = session; left = [] } ∷ [])
unfolding done decode_pairs found_on
sessions = (refl, tt)

-- Instance of no_counter_comes_twice_on_one_store, no_counter_is_accepted_twice_on_one_store.
deeds : AreDeeds []
    (Lived (record { lines = session; left = [] }) ∷ Lived (record { lines = session; left = [] }) ∷ [])
unfolding done decode_pairs found_on
deeds = (refl, (refl, tt))
