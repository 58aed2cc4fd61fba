-- A member rejoins at the end of a schedule's run: what the laws over runs know of its front.
use Rattle.std.proofs.Common.{◌≡◌, ℕ, ◌+◌, ◌<◌, ◌^◌, false, not, ◌&&◌, List, [], ◌∷◌, ◌++◌, fold, Option, Some, None, is_some, nat_eq, refl, sym, ap, ◌∙◌, subst, append_assoc, eqb-true}
use Rattle.std.specs.List.{AllByRecursion}
use Rattle.std.proofs.lemmas.Bool.{false≢true, leb-false}
use Rattle.std.proofs.lemmas.List.Sums.{fold-append}
use Rattle.zb_model.specs.Data.{Bytes, Aps, Station}
use Rattle.zb_model.specs.Lines.{Line}
use Rattle.zb_model.specs.Play.{Schedule, Event, groups, setting_of, start, step, stations}
use Rattle.zb_model.specs.Readings.{state_of}
use Rattle.zb_model.specs.Rules.{spent}
use Rattle.zb_model.specs.State.{greatest_counter, NetKey, LinkKey, NodeState, same_key, is_centre, is_live_of, is_unverified, net_of_active, active_row, current, next_counter}
use Rattle.zb_model.specs.Tools.{Tools}
use Rattle.zb_model.specs.Transcript.{run_lines, transcript}
use Rattle.law_recovery.specs.KeyFrames.{KeyFrameInRange}
use Rattle.law_recovery.specs.Rejoining.{AreLinked, answer_frame}
use Rattle.law_recovery.proofs.Taking.{unspent_of}
use Rattle.law_recovery.specs.Fronts.{CanRejoin, EndsRejoined, Front, after_event, after_events, rejoin_events}
use Rattle.law_recovery.proofs.Exchanged.{rejoined}
use Rattle.law_real_nodes.proofs.Euis.{different}
use Rattle.law_real_nodes.proofs.Opening.{opens_as_judged}
use Rattle.law_run.specs.Events.{BeforeEach}
use Rattle.law_run.proofs.Judged.{In, found-element, all-in}
use Rattle.law_run_ranges.specs.Asking.{NodeInRange}
use Rattle.law_run_ranges.specs.Ranges.{LineInRange, StationInRange}
use Rattle.law_run_ranges.proofs.Runs.{in_range}
use Rattle.law_run_text.proofs.Schedules.{schedule_in_range}
use Rattle.law_run_text.proofs.Tools.{real_keeps}
use Rattle.law_schedules.specs.Schedules.{schedule_of}
use Rattle.law_schedules.proofs.Meets.{is_schedule}
use Rattle.law_tables_suffice.specs.Along.{IsAsDeclared, IsRuled, OfNode}
use Rattle.law_tables_suffice.proofs.Ready.{declared_along, ruled_along}
use Rattle.law_real_recovery.specs.Texts.{MayRejoin, first_front}
use Rattle.law_real_recovery.proofs.Arriving.{delivers}
use Rattle.law_real_recovery.proofs.Networks.{Declared, declared, of_nodes, no_true, one_network}
use Rattle.law_real_recovery.proofs.Whole.{NetWhole, LinkWhole, whole_in}
use Rattle.zb_model_real.specs.Real.{real}
use Rattle.zb_sched.specs.Schedules as sched
use Rattle.zb_sched.specs.Valid.{IsSchedule}

-- ---- a run up to a front

-- a claim before each event is true before the events that are left
pub left_over : (P : List Line → Event → Type 0) (tools : Tools) (w : Schedule) (xs ys : List Event) (x : Front)
    → BeforeEach P tools w x.lines x.disks x.number (xs ++ ys)
    → BeforeEach P tools w (after_events tools w x xs).lines (after_events tools w x xs).disks
    (after_events tools w x xs).number ys
unfolding after_event
left_over P tools w [] ys x b = b
left_over P tools w (event ∷ xs) ys x b = left_over P tools w xs ys (after_event tools w x event) b.1

same_lines : (tools : Tools) (w : Schedule) (xs ys : List Event) (x : Front)
    → x.lines ++ groups tools w x.lines x.disks x.number (xs ++ ys) ≡ (after_events tools w x xs).lines
    ++ groups tools w (after_events tools w x xs).lines (after_events tools w x xs).disks
    (after_events tools w x xs).number ys
unfolding after_event groups
same_lines tools w [] ys x = refl
same_lines tools w (event ∷ xs) ys x =
    let g = step tools w x.lines x.disks x.number event in
    sym (append_assoc x.lines g.lines (groups tools w (x.lines ++ g.lines) g.disks (x.number + 1) (xs ++ ys))) ∙
    same_lines tools w xs ys (after_event tools w x event)

first_part : (P : Line → Type 0) (xs ys : List Line) → AllByRecursion P (xs ++ ys) → AllByRecursion P xs
first_part P [] ys all = tt
first_part P (x ∷ xs) ys all = (all.0, first_part P xs ys all.1)

pub front_in_range : (w : Schedule) (xs ys : List Event) → w.events ≡ xs ++ ys
    → AllByRecursion LineInRange (transcript real w)
    → AllByRecursion LineInRange (after_events real w (first_front w) xs).lines
unfolding transcript run_lines
front_in_range w xs ys e all =
    let x = after_events real w (first_front w) xs in
    let run = first_part LineInRange (start w ++ groups real w (start w) [] 1 w.events) _ all in
    first_part LineInRange x.lines (groups real w x.lines x.disks x.number ys)
    (subst (AllByRecursion LineInRange)
    (ap (λ l. start w ++ groups real w (start w) [] 1 l) e ∙ same_lines real w xs ys (first_front w)) run)

-- ---- the values of the frame are in their ranges

net_among : (o : Option Bytes) (s : NodeState) (r : NetKey) → net_of_active o s ≡ Some r → In r s.nets
net_among None s r e = absurd (false≢true (ap is_some e))
net_among (Some key) s r e = (found-element (λ (x : NetKey). same_key x.key key) s.nets r e).0

pub active_among : (s : NodeState) (r : NetKey) → active_row s ≡ Some r → In r s.nets
unfolding active_row
active_among s r e = net_among s.active s r e

pub link_among : (s : NodeState) (device : ℕ) (r : LinkKey) → current s device ≡ Some r → In r s.links
unfolding current
link_among s device r e =
    (found-element (λ (x : LinkKey). is_live_of device x && not (is_unverified x.attribute)) s.links r e).0

pub below_end : (s : NodeState) → spent Aps s ≡ false → next_counter Aps s < greatest_counter
unfolding spent
below_end s e = leb-false greatest_counter (next_counter Aps s) e

pub station_in : (p : sched.Schedule) → IsSchedule p → (n : ℕ) → (y : Declared (schedule_of p) n)
    → StationInRange y.station
station_in p is n y = all-in StationInRange (stations (schedule_of p))
    (of_nodes StationInRange NodeInRange (λ m k. k.station) (schedule_of p).nodes (schedule_in_range p is).nodes)
    y.station y.among

pub frame_in : (p : sched.Schedule) → IsSchedule p → (x : Front) (c d : ℕ) → Declared (schedule_of p) c
    → Declared (schedule_of p) d → AllByRecursion LineInRange x.lines
    → (l : AreLinked (setting_of (schedule_of p) c) (setting_of (schedule_of p) d) (state_of x.lines c)
    (state_of x.lines d)) → spent Aps (state_of x.lines c) ≡ false
    → (setting_of (schedule_of p) d).me.eui ≡ d
    → KeyFrameInRange
    (answer_frame (setting_of (schedule_of p) c) (setting_of (schedule_of p) d) (state_of x.lines c) l.net l.row)
frame_in p is x c d y z lines l unspent mine =
    let whole = whole_in x.lines c lines in
    let net = all-in NetWhole (state_of x.lines c).nets whole.nets l.net
    (active_among (state_of x.lines c) l.net l.active_key) in
    let row = all-in LinkWhole (state_of x.lines c).links whole.links l.row
    (link_among (state_of x.lines c) (setting_of (schedule_of p) d).me.eui l.row l.at_centre) in
    let here = station_in p is c y in
    let there = station_in p is d z in
    record {
      key = net.0.1;
      sequence = net.1;
      device = subst (λ (s : Station). s.eui < 2 ^ 64) (sym z.me) there.eui;
      centre = subst (λ (s : Station). s.eui < 2 ^ 64) (sym y.me) here.eui;
      to = subst (λ (s : Station). s.short < 2 ^ 16) (sym z.me) there.short;
      from = subst (λ (s : Station). s.short < 2 ^ 16) (sym y.me) here.short;
      link = row.1;
      counter = below_end (state_of x.lines c) unspent;
    }

-- ---- all of it

pub rejoins_at_the_end : (p : sched.Schedule) → IsSchedule p → (before : List Event) (c d : ℕ)
    → (schedule_of p).events ≡ before
    ++ rejoin_events (after_events real (schedule_of p) (first_front (schedule_of p)) before) c d
    → MayRejoin (schedule_of p) (after_events real (schedule_of p) (first_front (schedule_of p)) before) c d
    → EndsRejoined (after_events real (schedule_of p) (first_front (schedule_of p)) (schedule_of p).events) c d
rejoins_at_the_end p is before c d e may =
    let w = schedule_of p in
    let x = after_events real w (first_front w) before in
    let y = declared w c may.centre_named in
    let z = declared w d may.member_named in
    let mine : (setting_of w d).me.eui ≡ d = ap (λ (s : Station). s.eui) z.me ∙ z.mine in
    let at : (P : List Line → Event → Type 0) → BeforeEach P real w (start w) [] 1 w.events
    → BeforeEach P real w x.lines x.disks x.number (rejoin_events x c d) =
    λ P b. left_over P real w before (rejoin_events x c d) (first_front w)
    (subst (BeforeEach P real w (start w) [] 1) e b) in
    let rules =
    (at (λ h event. OfNode (λ n. IsRuled (state_of h n) (setting_of w n) n) event)
    (ruled_along real opens_as_judged w (is_schedule p is) (different p is))).0 in
    let role =
    (at (λ h event. OfNode (λ n. IsAsDeclared (state_of h n) (setting_of w n) n) event)
    (declared_along real w (is_schedule p is) (different p is))).0 in
    let lines = front_in_range w before (rejoin_events x c d) e
    (in_range real opens_as_judged real_keeps w (is_schedule p is) (different p is) (schedule_in_range p is)) in
    let apart : nat_eq d c ≡ false =
    no_true (nat_eq d c)
    (λ same. false≢true
    (sym may.member_role ∙ ap (λ n. is_centre (setting_of w n).me.role) (eqb-true d c same) ∙ may.centre_role)) in
    let can : CanRejoin w x c d = record {
      apart = apart;
      mine = mine;
      network = one_network p is c d may.centre_named may.member_named may.centre_role may.member_role;
      centre_ready = may.centre_ready;
      member_ready = may.member_ready;
      rules = rules;
      role = role.role;
      may = may.may;
      linked = may.linked;
      in_range = frame_in p is x c d y z lines may.linked (unspent_of (state_of x.lines c) d may.not_stopped) mine;
      not_stopped = may.not_stopped;
      not_refused = may.not_refused;
    } in
    subst (λ l. EndsRejoined l c d)
    (sym (ap (fold (after_event real w) (first_front w)) e ∙ fold-append (after_event real w) (first_front w)
    before (rejoin_events x c d))) (rejoined real delivers opens_as_judged w x c d can)
