-- A device that knocked is confirmed at the end of a schedule's run: what the laws over runs know of its front.
use Rattle.std.proofs.Common.{◌≡◌, ℕ, ◌<◌, false, List, [], ◌∷◌, ◌++◌, fold, nat_eq, sym, ap, ◌∙◌, subst, eqb-true}
use Rattle.std.specs.List.{AllByRecursion}
use Rattle.std.proofs.lemmas.Bool.{false≢true}
use Rattle.std.proofs.lemmas.List.Sums.{fold-append}
use Rattle.zb_model.specs.Data.{Bytes, Station, Aps, DoTimer, HasChild}
use Rattle.zb_model.specs.Lines.{Line}
use Rattle.zb_model.specs.Play.{Event, Own, setting_of, start}
use Rattle.zb_model.specs.Readings.{state_of}
use Rattle.zb_model.specs.State.{greatest_counter, is_centre, next_counter}
use Rattle.law_recovery.specs.Meeting.{IsSteady}
use Rattle.law_recovery.specs.Joining.{AreIntroduced}
use Rattle.law_recovery.specs.KeyFrames.{KeyFrameInRange}
use Rattle.law_recovery.specs.Rejoining.{answer_frame}
use Rattle.law_recovery.proofs.Taking.{unspent_of}
use Rattle.law_recovery.specs.Fronts.{Front, after_event, after_events}
use Rattle.law_recovery.specs.KeyExchange.{AreMet, EndsConfirmed, IsNew, NothingStops, joined_front, joining_events}
use Rattle.law_recovery.specs.RunsJoining.{CanJoin}
use Rattle.law_recovery.proofs.Confirmed.{joined_and_exchanged}
use Rattle.law_recovery.proofs.Exchanged.{left-by, turned}
use Rattle.law_real_nodes.proofs.Euis.{different}
use Rattle.law_real_nodes.proofs.Opening.{opens_as_judged}
use Rattle.law_run.specs.Events.{BeforeEach}
use Rattle.law_run.proofs.Judged.{all-in}
use Rattle.law_run_ranges.specs.Ranges.{LineInRange}
use Rattle.law_run_ranges.proofs.Runs.{in_range}
use Rattle.law_run_text.proofs.Schedules.{schedule_in_range}
use Rattle.law_run_text.proofs.Tools.{real_keeps}
use Rattle.law_schedules.specs.Schedules.{schedule_of}
use Rattle.law_schedules.proofs.Meets.{is_schedule}
use Rattle.law_tables_suffice.specs.Along.{IsAsDeclared, IsRuled, OfNode}
use Rattle.law_tables_suffice.proofs.Ready.{declared_along, ruled_along}
use Rattle.law_real_recovery.specs.Exchanging.{MayJoin}
use Rattle.law_real_recovery.specs.Texts.{first_front}
use Rattle.law_real_recovery.proofs.Arriving.{delivers}
use Rattle.law_real_recovery.proofs.ArrivingCommands.{delivers_commands}
use Rattle.law_real_recovery.proofs.Ending.{below_end, left_over, front_in_range, active_among, link_among}
use Rattle.law_real_recovery.proofs.Networks.{Declared, declared, no_true}
use Rattle.law_real_recovery.proofs.Whole.{NetWhole, LinkWhole, whole_in}
use Rattle.law_real_recovery.proofs.Exchanged.{are_declared, drawn_fits, stations_fit}
use Rattle.zb_model_real.specs.Real.{real}
use Rattle.zb_sched.specs.Schedules as sched
use Rattle.zb_sched.specs.Valid.{IsSchedule}

key_frame_in : (p : sched.Schedule) → IsSchedule p → (x : Front) (c d : ℕ) → Declared (schedule_of p) c
    → Declared (schedule_of p) d → AllByRecursion LineInRange x.lines
    → (l : AreIntroduced (setting_of (schedule_of p) c) (setting_of (schedule_of p) d) (state_of x.lines c)
    (state_of x.lines d)) → next_counter Aps (state_of x.lines c) < greatest_counter
    → KeyFrameInRange
    (answer_frame (setting_of (schedule_of p) c) (setting_of (schedule_of p) d) (state_of x.lines c) l.net l.row)
key_frame_in p is x c d y z lines l small =
    let s = state_of x.lines c in
    let whole = whole_in x.lines c lines in
    let net = all-in NetWhole s.nets whole.nets l.net (active_among s l.net l.active_key) in
    let row = all-in LinkWhole s.links whole.links l.row
    (link_among s (setting_of (schedule_of p) d).me.eui l.row l.at_centre) in
    let fit = stations_fit p is c d y z in
    record {
      key = net.0.1;
      sequence = net.1;
      device = fit.device;
      centre = fit.centre;
      to = fit.device_short;
      from = fit.centre_short;
      link = row.1;
      counter = small;
    }

pub joined_at_the_end : (p : sched.Schedule) → IsSchedule p → (before : List Event) (c d : ℕ) (drawn : Bytes)
    → (schedule_of p).events ≡ before
    ++ joining_events real (schedule_of p)
    (after_events real (schedule_of p) (first_front (schedule_of p)) before) c d
    → (may : MayJoin (schedule_of p) (after_events real (schedule_of p) (first_front (schedule_of p)) before) c d)
    → NothingStops real (schedule_of p)
    (joined_front real (schedule_of p) (after_events real (schedule_of p) (first_front (schedule_of p)) before) c
    d) c d may.introduced.net.key may.introduced.net.sequence may.introduced.row.key drawn
    → EndsConfirmed (schedule_of p)
    (after_events real (schedule_of p) (first_front (schedule_of p)) (schedule_of p).events) c d
    may.introduced.net.key may.introduced.net.sequence drawn
unfolding after_event
joined_at_the_end p is before c d drawn e may free =
    let w = schedule_of p in
    let x = after_events real w (first_front w) before in
    let l = may.introduced in
    let y = declared w c may.centre_named in
    let z = declared w d may.device_named in
    let more = joining_events real w x c d in
    let at : (P : List Line → Event → Type 0) → BeforeEach P real w (start w) [] 1 w.events
    → BeforeEach P real w x.lines x.disks x.number more =
    λ P b. left_over P real w before more (first_front w) (subst (BeforeEach P real w (start w) [] 1) e b) in
    let rules = at (λ h event. OfNode (λ n. IsRuled (state_of h n) (setting_of w n) n) event)
    (ruled_along real opens_as_judged w (is_schedule p is) (different p is)) in
    let roles = at (λ h event. OfNode (λ n. IsAsDeclared (state_of h n) (setting_of w n) n) event)
    (declared_along real w (is_schedule p is) (different p is)) in
    let lines =
    front_in_range w before more e
    (in_range real opens_as_judged real_keeps w (is_schedule p is) (different p is) (schedule_in_range p is)) in
    let apart : nat_eq d c ≡ false =
    no_true (nat_eq d c)
    (λ same. false≢true
    (sym may.device_role ∙ ap (λ n. is_centre (setting_of w n).me.role) (eqb-true d c same) ∙ may.centre_role)) in
    let left = left-by real w x d (Own c (HasChild d false)) (turned d c apart) in
    let steady : IsSteady (setting_of w d) (state_of x.lines d) = subst (IsSteady (setting_of w d)) left.state
    (record { rules = rules.1.0; role = roles.1.0.role }) in
    let met : AreMet w x c d = record {
      apart = apart;
      declared = are_declared p is c d may.centre_named may.device_named may.centre_role may.device_role
          roles.0.in_block;
      stations = stations_fit p is c d y z;
      centre_ready = may.centre_ready;
      device_ready = may.device_ready;
      centre_steady = record { rules = rules.0; role = roles.0.role };
      device_steady = steady;
    } in
    let can : CanJoin w x c d = record {
      apart = apart;
      mine = ap (λ (s : Station). s.eui) z.me ∙ z.mine;
      network = met.declared.network;
      centre_ready = may.centre_ready;
      device_ready = may.device_ready;
      rules = steady.rules;
      role = steady.role;
      introduced = l;
      in_range =
          key_frame_in p is x c d y z lines l
          (below_end (state_of x.lines c) (unspent_of (state_of x.lines c) d may.not_stopped));
      not_stopped = may.not_stopped;
      not_refused = may.not_refused;
    } in
    let new : IsNew w x c d can =
    record { met = met; network = may.network; none_offered = may.none_offered; key_is_new = may.key_is_new } in
    subst (λ k. EndsConfirmed w k c d l.net.key l.net.sequence drawn)
    (sym (ap (fold (after_event real w) (first_front w)) e ∙ fold-append (after_event real w) (first_front w)
    before more))
    (joined_and_exchanged real delivers delivers_commands opens_as_judged w x c d drawn can new
    (drawn_fits p is (after_events real w (joined_front real w x c d) (Own d DoTimer ∷ [])).lines drawn free.draw)
    free)
