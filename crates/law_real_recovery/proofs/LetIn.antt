-- A device is admitted again at the end of a schedule's run: what the laws over runs know of its front.
use Rattle.std.proofs.Common.{◌≡◌, ℕ, ◌<◌, ◌^◌, ◌&&◌, Bool, true, false, List, [], ◌∷◌, ◌++◌, fold, length, nat_eq, sym, ap, ◌∙◌, subst, eqb-true}
use Rattle.std.specs.List.{AllByRecursion}
use Rattle.std.proofs.lemmas.Bool.{false≢true}
use Rattle.std.proofs.lemmas.List.Sums.{fold-append}
use Rattle.zb_model.specs.Data.{Bytes, Station, DoProvision, DoRemove, DoTimer}
use Rattle.zb_model.specs.Lines.{Line}
use Rattle.zb_model.specs.Play as model
use Rattle.zb_model.specs.Play.{Event, Own, setting_of, start}
use Rattle.zb_model.specs.Readings.{state_of}
use Rattle.zb_model.specs.State.{LinkKey, code_row, is_centre, is_live}
use Rattle.law_recovery.specs.Meeting.{IsSteady}
use Rattle.law_recovery.specs.Fronts.{Front, after_event, after_events}
use Rattle.law_recovery.specs.KeyExchange.{AreMet, EndsConfirmed, KeysInRange, NothingStops, joined_front, joining_events}
use Rattle.law_recovery.proofs.Exchanged.{left-by, turned}
use Rattle.law_recovery.specs.Readmitting.{CanReadmit, entry_events, knocked_front, readmission_events}
use Rattle.law_recovery.proofs.Readmitted.{readmitted}
use Rattle.law_real_nodes.proofs.Euis.{different}
use Rattle.law_real_nodes.proofs.Opening.{opens_as_judged}
use Rattle.law_run.specs.Events.{BeforeEach}
use Rattle.law_run.proofs.Judged.{all-in, found-element}
use Rattle.law_run_ranges.specs.Ranges.{LineInRange}
use Rattle.law_run_ranges.proofs.Runs.{in_range}
use Rattle.law_run_text.proofs.Schedules.{schedule_in_range}
use Rattle.law_run_text.proofs.Tools.{real_keeps}
use Rattle.law_schedules.specs.Schedules.{schedule_of}
use Rattle.law_schedules.proofs.Meets.{is_schedule}
use Rattle.law_tables_suffice.specs.Along.{IsAsDeclared, IsRuled, OfNode}
use Rattle.law_tables_suffice.proofs.Ready.{declared_along, ruled_along}
use Rattle.law_real_recovery.specs.Readmitting.{MayReadmit}
use Rattle.law_real_recovery.specs.Texts.{first_front}
use Rattle.law_real_recovery.proofs.Arriving.{delivers}
use Rattle.law_real_recovery.proofs.ArrivingCommands.{delivers_commands}
use Rattle.law_real_recovery.proofs.Ending.{left_over, front_in_range, active_among}
use Rattle.law_real_recovery.proofs.Exchanged.{are_declared, drawn_fits, stations_fit}
use Rattle.law_real_recovery.proofs.Networks.{declared, no_true}
use Rattle.law_real_recovery.proofs.Whole.{NetWhole, LinkWhole, whole_in}
use Rattle.zb_model_real.specs.Real.{real}
use Rattle.zb_sched.specs.Schedules as sched
use Rattle.zb_sched.specs.Valid.{IsSchedule}

-- ---- the two nodes are steady at the front

-- a claim before each event
abbrev pub Claim : model.Schedule → Front → List Event → (List Line → Event → Type 0) → Type 0
Claim w x events P = BeforeEach P real w x.lines x.disks x.number events

abbrev pub Ruled : model.Schedule → List Line → Event → Type 0
Ruled w h event = OfNode (λ n. IsRuled (state_of h n) (setting_of w n) n) event

abbrev pub AsDeclared : model.Schedule → List Line → Event → Type 0
AsDeclared w h event = OfNode (λ n. IsAsDeclared (state_of h n) (setting_of w n) n) event

-- the centre's first event comes first, and the device's knock two or three events later
record Steady (w : model.Schedule) (x : Front) (c d : ℕ) : Type 0 where
  centre : IsSteady (setting_of w c) (state_of x.lines c)
  device : IsSteady (setting_of w d) (state_of x.lines d)
  block : 0 < (setting_of w c).me.in_block

steady : (w : model.Schedule) (x : Front) (c d : ℕ) (key : Bytes) (rest : List Event) (live : Bool) → nat_eq d c
    ≡ false
    → Claim w x (entry_events live c d key ++ rest) (Ruled w)
    → Claim w x (entry_events live c d key ++ rest) (AsDeclared w) → Steady w x c d
unfolding after_event
steady w x c d key rest true apart rules roles =
    let y = after_event real w x (Own c (DoRemove d c)) in
    let first = left-by real w x d (Own c (DoRemove d c)) (turned d c apart) in
    let second = left-by real w y d (Own c (DoProvision d key)) (turned d c apart) in
    record {
      centre = record { rules = rules.0; role = roles.0.role };
      device = subst (IsSteady (setting_of w d)) (second.state ∙ first.state)
          (record { rules = rules.1.1.0; role = roles.1.1.0.role });
      block = roles.0.in_block;
    }
steady w x c d key rest false apart rules roles =
    let first = left-by real w x d (Own c (DoProvision d key)) (turned d c apart) in
    record {
      centre = record { rules = rules.0; role = roles.0.role };
      device = subst (IsSteady (setting_of w d)) first.state
          (record { rules = rules.1.0; role = roles.1.0.role });
      block = roles.0.in_block;
    }

-- ---- keys are in their ranges

keys_fit : (w : model.Schedule) (x : Front) (c d : ℕ) (network : Bytes) (sequence : ℕ) (key : Bytes)
    → AllByRecursion LineInRange x.lines → MayReadmit w x c d network sequence key → KeysInRange network sequence key
unfolding code_row
keys_fit w x c d network sequence key lines may =
    let s = state_of x.lines c in
    let t = state_of x.lines d in
    let net = all-in NetWhole s.nets (whole_in x.lines c lines).nets may.active.active
    (active_among s may.active.active may.active.is_active) in
    let row = all-in LinkWhole t.links (whole_in x.lines d lines).links may.code
    (found-element (λ (r : LinkKey). nat_eq r.partner c && r.code) t.links may.code may.has_code).0 in
    record {
      key_size = ap (length {A = ℕ}) (sym may.active.active_key) ∙ net.0.1;
      small = subst (λ n. n < 2 ^ 8) may.active.active_sequence net.1;
      link_size = ap (length {A = ℕ}) (sym may.same_key) ∙ row.1;
    }

-- ---- all of it

pub let_in_at_the_end : (p : sched.Schedule) → IsSchedule p → (before : List Event) (c d : ℕ) (network : Bytes)
    (sequence : ℕ) (key drawn : Bytes)
    → (schedule_of p).events ≡ before
    ++ readmission_events real (schedule_of p)
    (after_events real (schedule_of p) (first_front (schedule_of p)) before) c d key
    → MayReadmit (schedule_of p) (after_events real (schedule_of p) (first_front (schedule_of p)) before) c d network
    sequence key
    → NothingStops real (schedule_of p)
    (joined_front real (schedule_of p)
    (knocked_front real (schedule_of p) (after_events real (schedule_of p) (first_front (schedule_of p)) before) c d
    key) c d) c d network sequence key drawn
    → EndsConfirmed (schedule_of p)
    (after_events real (schedule_of p) (first_front (schedule_of p)) (schedule_of p).events) c d network sequence drawn
let_in_at_the_end p is before c d network sequence key drawn e may free =
    let w = schedule_of p in
    let x = after_events real w (first_front w) before in
    let y = declared w c may.centre_named in
    let z = declared w d may.device_named in
    let events = readmission_events real w x c d key in
    let at : (P : List Line → Event → Type 0) → BeforeEach P real w (start w) [] 1 w.events
    → BeforeEach P real w x.lines x.disks x.number events =
    λ P b. left_over P real w before events (first_front w) (subst (BeforeEach P real w (start w) [] 1) e b) in
    let lines =
    front_in_range w before events e
    (in_range real opens_as_judged real_keeps w (is_schedule p is) (different p is) (schedule_in_range p is)) in
    let apart : nat_eq d c ≡ false =
    no_true (nat_eq d c)
    (λ same. false≢true
    (sym may.device_role ∙ ap (λ n. is_centre (setting_of w n).me.role) (eqb-true d c same) ∙ may.centre_role)) in
    let both = steady w x c d key (joining_events real w (knocked_front real w x c d key) c d)
    (is_live (state_of x.lines c) d) apart
    (at (Ruled w) (ruled_along real opens_as_judged w (is_schedule p is) (different p is)))
    (at (AsDeclared w) (declared_along real w (is_schedule p is) (different p is))) in
    let met : AreMet w x c d = record {
      apart = apart;
      declared = are_declared p is c d may.centre_named may.device_named may.centre_role may.device_role both.block;
      stations = stations_fit p is c d y z;
      centre_ready = may.centre_ready;
      device_ready = may.device_ready;
      centre_steady = both.centre;
      device_steady = both.device;
    } in
    let can : CanReadmit w x c d network sequence key = record {
      met = met;
      centre_named = ap (λ (s : Station). s.eui) y.me ∙ y.mine;
      device_named = ap (λ (s : Station). s.eui) z.me ∙ z.mine;
      in_range = keys_fit w x c d network sequence key lines may;
      active = may.active;
      row_free = may.row_free;
      unspent = may.unspent;
      code = may.code;
      has_code = may.has_code;
      same_key = may.same_key;
      meets = may.meets;
      not_refused = may.not_refused;
    } in
    let front = joined_front real w (knocked_front real w x c d key) c d in
    subst (λ k. EndsConfirmed w k c d network sequence drawn)
    (sym (ap (fold (after_event real w) (first_front w)) e ∙ fold-append (after_event real w) (first_front w)
    before events))
    (readmitted real delivers delivers_commands opens_as_judged w x c d network sequence key drawn can
    (drawn_fits p is (after_events real w front (Own d DoTimer ∷ [])).lines drawn free.draw) free)
