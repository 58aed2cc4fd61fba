-- At each front of a schedule's run its nodes are steady, and its centre and a device that are ready are met.
use Rattle.std.proofs.Common.{◌≡◌, ℕ, ◌≤◌, true, false, List, [], ◌∷◌, nat_eq, refl, sym, ap, ◌∙◌, subst, eqb-true}
use Rattle.std.proofs.lemmas.Bool.{false≢true}
use Rattle.zb_model.specs.Data.{Station, DoTimer}
use Rattle.zb_model.specs.Play as model
use Rattle.zb_model.specs.Play.{Event, Own, setting_of, start, stations}
use Rattle.zb_model.specs.Readings.{state_of}
use Rattle.zb_model.specs.Schedules as model_schedules
use Rattle.zb_model.specs.Schedules.{IsMember, Names}
use Rattle.zb_model.specs.State.{is_centre}
use Rattle.law_recovery.specs.Meeting.{IsSteady}
use Rattle.law_recovery.proofs.Acting.{steady_event}
use Rattle.law_real_nodes.proofs.Euis.{different}
use Rattle.law_real_nodes.proofs.Opening.{opens_as_judged}
use Rattle.law_recovery.specs.Fronts.{Front, IsReady, after_event, after_events}
use Rattle.law_recovery.specs.KeyExchange.{AreMet}
use Rattle.law_run.proofs.Judged.{all-in}
use Rattle.law_schedules.specs.Schedules.{schedule_of}
use Rattle.law_schedules.proofs.Meets.{is_schedule}
use Rattle.law_tables_suffice.specs.Along.{euis_differ}
use Rattle.law_tables_suffice.proofs.Ready.{declared_along, ruled_along}
use Rattle.law_real_recovery.specs.Texts.{first_front}
use Rattle.law_real_recovery.proofs.Exchanged.{are_declared, stations_fit}
use Rattle.law_real_recovery.proofs.Networks.{declared, no_true, of_nodes}
use Rattle.zb_model_real.specs.Real.{real}
use Rattle.zb_sched.specs.Schedules as sched
use Rattle.zb_sched.specs.Valid.{IsSchedule}

-- a named node is steady at the start, because it is before the one event of a schedule with these nodes
at_start : (w : model.Schedule) → model_schedules.IsSchedule w → euis_differ w ≡ true → (n : ℕ) → Names w n
    → IsSteady (setting_of w n) (state_of (start w) n)
unfolding start setting_of euis_differ
at_start w i differ n named =
    let one : model.Schedule = record { nodes = w.nodes; draws = w.draws; events = Own n DoTimer ∷ [] } in
    let is : model_schedules.IsSchedule one = record {
      few_nodes = i.few_nodes;
      nodes = i.nodes;
      events = (named, tt);
      roles = (refl, tt);
      calls = (tt, tt);
    } in
    record {
      rules = (ruled_along real opens_as_judged one is differ).0;
      role = (declared_along real one is differ).0.role;
    }

pub some_block : (p : sched.Schedule) → IsSchedule p → (n : ℕ) → Names (schedule_of p) n
    → 1 ≤ (setting_of (schedule_of p) n).me.in_block
some_block p is n named =
    let w = schedule_of p in
    let y = declared w n named in
    subst (λ (s : Station). 1 ≤ s.in_block) (sym y.me)
    (all-in (λ (s : Station). 1 ≤ s.in_block) (stations w)
    (of_nodes (λ s. 1 ≤ s.in_block) IsMember (λ m k. k.in_block) w.nodes (is_schedule p is).nodes) y.station y.among)

steady_on : (w : model.Schedule) (n : ℕ) → 1 ≤ (setting_of w n).me.in_block → (events : List Event) (x : Front)
    → IsSteady (setting_of w n) (state_of x.lines n)
    → IsSteady (setting_of w n) (state_of (after_events real w x events).lines n)
steady_on w n block [] x i = i
steady_on w n block (event ∷ events) x i =
    steady_on w n block events (after_event real w x event) (steady_event real opens_as_judged w x event n block i)

pub steady_at : (p : sched.Schedule) → IsSchedule p → (before : List Event) (n : ℕ) → Names (schedule_of p) n
    → IsSteady (setting_of (schedule_of p) n)
    (state_of (after_events real (schedule_of p) (first_front (schedule_of p)) before).lines n)
steady_at p is before n named =
    let w = schedule_of p in
    steady_on w n (some_block p is n named) before (first_front w)
    (at_start w (is_schedule p is) (different p is) n named)

pub others_differ : (w : model.Schedule) (c d : ℕ) → is_centre (setting_of w c).me.role ≡ true
    → is_centre (setting_of w d).me.role ≡ false → nat_eq d c ≡ false
others_differ w c d centre device =
    no_true (nat_eq d c)
    (λ same. false≢true
    (sym device ∙ ap (λ n. is_centre (setting_of w n).me.role) (eqb-true d c same) ∙ centre))

pub met_at : (p : sched.Schedule) → IsSchedule p → (before : List Event) (c d : ℕ) → Names (schedule_of p) c
    → Names (schedule_of p) d → is_centre (setting_of (schedule_of p) c).me.role ≡ true
    → is_centre (setting_of (schedule_of p) d).me.role ≡ false
    → IsReady (after_events real (schedule_of p) (first_front (schedule_of p)) before) c
    → IsReady (after_events real (schedule_of p) (first_front (schedule_of p)) before) d
    → AreMet (schedule_of p) (after_events real (schedule_of p) (first_front (schedule_of p)) before) c d
met_at p is before c d cn dn centre device centre_ready device_ready =
    let w = schedule_of p in record {
      apart = others_differ w c d centre device;
      declared = are_declared p is c d cn dn centre device (some_block p is c cn);
      stations = stations_fit p is c d (declared w c cn) (declared w d dn);
      centre_ready = centre_ready;
      device_ready = device_ready;
      centre_steady = steady_at p is before c cn;
      device_steady = steady_at p is before d dn;
    }
