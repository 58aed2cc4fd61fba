-- A joined device is confirmed at the end of a schedule's run: what the laws over runs know of its front.
use Rattle.std.proofs.Common.{◌≡◌, ℕ, zero, suc, ◌<◌, ◌^◌, true, false, List, [], ◌∷◌, ◌++◌, map, fold, find, length, slice_get, Option, Some, None, option_map, is_some, nat_eq, refl, sym, ap, ◌∙◌, subst, eqb-true}
use Rattle.std.specs.List.{AllByRecursion}
use Rattle.std.proofs.lemmas.Bool.{false≢true}
use Rattle.std.proofs.lemmas.List.Sums.{fold-append}
use Rattle.zb_base.specs.declared.node.Role.{Role}
use Rattle.zb_base.specs.declared.node.Role.TheVariants.{Centre, Router, Device}
use Rattle.zb_model.specs.Data.{Bytes, Station, DoTimer}
use Rattle.zb_model.specs.Lines.{Line}
use Rattle.zb_model.specs.Play as model
use Rattle.zb_model.specs.Play.{Event, Own, setting_of, start, stations, supply, without_blocks}
use Rattle.zb_model.specs.Readings.{state_of, draws_used}
use Rattle.zb_model.specs.Rules.{is_declared, station_of}
use Rattle.zb_model.specs.Schedules.{Names}
use Rattle.zb_model.specs.State.{is_centre}
use Rattle.law_recovery.specs.Exchanging.{StationsInRange}
use Rattle.law_recovery.specs.Meeting.{AreDeclared, IsSteady}
use Rattle.law_recovery.proofs.Once.{find_map}
use Rattle.law_recovery.specs.Fronts.{Front, after_event, after_events}
use Rattle.law_recovery.specs.KeyExchange.{AreMet, EndsConfirmed, HaveJoined, KeysInRange, NothingStops, exchange_events}
use Rattle.law_recovery.proofs.Confirmed.{exchanged}
use Rattle.law_recovery.proofs.Exchanged.{left-by}
use Rattle.law_real_nodes.proofs.Euis.{different}
use Rattle.law_real_nodes.proofs.Opening.{opens_as_judged}
use Rattle.law_run.specs.Events.{BeforeEach}
use Rattle.law_run.proofs.Judged.{In, all-in}
use Rattle.law_run_ranges.specs.Ranges.{IsKey, LineInRange}
use Rattle.law_run_ranges.proofs.Runs.{in_range}
use Rattle.law_run_text.proofs.Schedules.{schedule_in_range}
use Rattle.law_run_text.proofs.Tools.{real_keeps}
use Rattle.law_schedules.specs.Schedules.{schedule_of, station_for}
use Rattle.law_schedules.proofs.Meets.{is_schedule, same_stations}
use Rattle.law_tables_suffice.specs.Along.{IsAsDeclared, IsRuled, OfNode}
use Rattle.law_tables_suffice.proofs.Ready.{declared_along, ruled_along}
use Rattle.law_real_recovery.specs.Exchanging.{MayExchange}
use Rattle.law_real_recovery.specs.Texts.{first_front}
use Rattle.law_real_recovery.proofs.ArrivingCommands.{delivers_commands}
use Rattle.law_real_recovery.proofs.Ending.{left_over, front_in_range, active_among, link_among, station_in}
use Rattle.law_real_recovery.proofs.Networks.{Declared, declared, no_true, one_network}
use Rattle.law_real_recovery.proofs.Whole.{NetWhole, LinkWhole, whole_in}
use Rattle.zb_model_real.specs.Real.{real}
use Rattle.zb_node_types.specs.Changes.{model_role}
use Rattle.zb_sched.specs.Schedules as sched
use Rattle.zb_sched.specs.Valid.{FitsNode, IsSchedule}
use Rattle.zb_sched_line.specs.Grammar.{is_short_of}

-- ---- the centre's short address is 0, and each node is declared to the other

zero_short : (role : Role) (short : ℕ) → is_short_of role short ≡ true → is_centre (model_role role) ≡ true → short ≡ 0
zero_short Centre short e f = eqb-true short 0 e
zero_short Router short e f = absurd (false≢true f)
zero_short Device short e f = absurd (false≢true f)

zero_each : (ms : List sched.Node) → AllByRecursion FitsNode ms
    → AllByRecursion (λ (s : Station). is_centre s.role ≡ true → s.short ≡ 0) (map station_for ms)
zero_each [] all = tt
zero_each (m ∷ ms) all = (λ e. zero_short m.role m.short all.0.0.2 e, zero_each ms all.1)

zero_of : (p : sched.Schedule) → IsSchedule p → (s : Station) → In s (stations (schedule_of p)) → is_centre s.role
    ≡ true → s.short ≡ 0
zero_of p is s i e =
    all-in (λ (x : Station). is_centre x.role ≡ true → x.short ≡ 0) (stations (schedule_of p))
    (subst (AllByRecursion (λ (x : Station). is_centre x.role ≡ true → x.short ≡ 0)) (sym (same_stations p))
    (zero_each p.nodes is.so_far.nodes)) s i e

pub known : (w : model.Schedule) (n other : ℕ) → Names w n → is_declared (setting_of w other) n ≡ true
unfolding setting_of station_of
known w n other named =
    ap is_some (find_map (λ (p : Station). nat_eq p.eui n) without_blocks (λ p. refl) (stations w)) ∙ still
    (find (λ (p : Station). nat_eq p.eui n) (stations w)) ∙ named
  where
    still : (o : Option Station) → is_some (option_map without_blocks o) ≡ is_some o
    still None = refl
    still (Some p) = refl

pub are_declared : (p : sched.Schedule) → IsSchedule p → (c d : ℕ) → Names (schedule_of p) c → Names (schedule_of p) d
    → is_centre (setting_of (schedule_of p) c).me.role ≡ true → is_centre (setting_of (schedule_of p) d).me.role
    ≡ false
    → 0 < (setting_of (schedule_of p) c).me.in_block
    → AreDeclared (setting_of (schedule_of p) c) (setting_of (schedule_of p) d)
are_declared p is c d cn dn centre device block =
    let w = schedule_of p in
    let y = declared w c cn in
    let z = declared w d dn in
    let mine : (setting_of w c).me.eui ≡ c = ap (λ (s : Station). s.eui) y.me ∙ y.mine in
    let theirs : (setting_of w d).me.eui ≡ d = ap (λ (s : Station). s.eui) z.me ∙ z.mine in
    record {
      network = one_network p is c d cn dn centre device;
      centre_short = ap (λ (s : Station). s.short) y.me ∙ zero_of p is y.station y.among
          (ap (λ (s : Station). is_centre s.role) (sym y.me) ∙ centre);
      centre_block = block;
      centre_declared = ap (is_declared (setting_of w d)) mine ∙ known w c d cn;
      device_declared = ap (is_declared (setting_of w c)) theirs ∙ known w d c dn;
    }

pub stations_fit : (p : sched.Schedule) → IsSchedule p → (c d : ℕ) → Declared (schedule_of p) c
    → Declared (schedule_of p) d → StationsInRange (setting_of (schedule_of p) c) (setting_of (schedule_of p) d)
stations_fit p is c d y z =
    let here = station_in p is c y in
    let there = station_in p is d z in
    record {
      centre = subst (λ (s : Station). s.eui < 2 ^ 64) (sym y.me) here.eui;
      device = subst (λ (s : Station). s.eui < 2 ^ 64) (sym z.me) there.eui;
      centre_short = subst (λ (s : Station). s.short < 2 ^ 16) (sym y.me) here.short;
      device_short = subst (λ (s : Station). s.short < 2 ^ 16) (sym z.me) there.short;
    }

-- ---- keys are in their ranges

pub keys_fit : (w : model.Schedule) (x : Front) (c d : ℕ) (key : Bytes) (sequence : ℕ) (link : Bytes)
    → AllByRecursion LineInRange x.lines → HaveJoined w x c d key sequence link → KeysInRange key sequence link
keys_fit w x c d key sequence link lines j =
    let s = state_of x.lines c in
    let whole = whole_in x.lines c lines in
    let net = all-in NetWhole s.nets whole.nets j.network.active (active_among s j.network.active j.network.is_active)
    in
    let row = all-in LinkWhole s.links whole.links j.keys.row
    (link_among s (setting_of w d).me.eui j.keys.row j.keys.is_current) in
    record {
      key_size = ap (length {A = ℕ}) (sym j.network.active_key) ∙ net.0.1;
      small = subst (λ n. n < 2 ^ 8) j.network.active_sequence net.1;
      link_size = ap (length {A = ℕ}) (sym j.keys.row_key) ∙ row.1;
    }

drawn_at : (draws : List Bytes) (place : ℕ) (key : Bytes) → AllByRecursion IsKey draws → slice_get draws place
    ≡ Some key → length key ≡ 16
drawn_at [] place key all e = absurd (false≢true (ap is_some e))
drawn_at (k ∷ draws) zero key all e = ap (length {A = ℕ}) (same e) ∙ all.0.1
  where
    same : Some k ≡ Some key → key ≡ k
    same d = cc
drawn_at (k ∷ draws) (suc place) key all e = drawn_at draws place key all.1 e

pub drawn_fits : (p : sched.Schedule) → IsSchedule p → (h : List Line) (key : Bytes) → supply (schedule_of p) h
    ≡ Some key → length key ≡ 16
unfolding supply
drawn_fits p is h key e = drawn_at (schedule_of p).draws (draws_used h) key (schedule_in_range p is).draws e

-- ---- all of it

-- the claim on the node of an event, before each of the events that are left
pub exchanged_at_the_end : (p : sched.Schedule) → IsSchedule p
    → (before : List Event) (c d : ℕ) (key : Bytes) (sequence : ℕ) (link drawn : Bytes)
    → (schedule_of p).events ≡ before
    ++ exchange_events (after_events real (schedule_of p) (first_front (schedule_of p)) before) c d
    → MayExchange (schedule_of p) (after_events real (schedule_of p) (first_front (schedule_of p)) before) c d key
    sequence link
    → NothingStops real (schedule_of p) (after_events real (schedule_of p) (first_front (schedule_of p)) before) c d
    key sequence link drawn
    → EndsConfirmed (schedule_of p)
    (after_events real (schedule_of p) (first_front (schedule_of p)) (schedule_of p).events) c d key sequence drawn
unfolding after_event
exchanged_at_the_end p is before c d key sequence link drawn e may free =
    let w = schedule_of p in
    let x = after_events real w (first_front w) before in
    let y = declared w c may.centre_named in
    let z = declared w d may.device_named in
    let at : (P : List Line → Event → Type 0) → BeforeEach P real w (start w) [] 1 w.events
    → BeforeEach P real w x.lines x.disks x.number (exchange_events x c d) =
    λ P b. left_over P real w before (exchange_events x c d) (first_front w)
    (subst (BeforeEach P real w (start w) [] 1) e b) in
    let rules = at (λ h event. OfNode (λ n. IsRuled (state_of h n) (setting_of w n) n) event)
    (ruled_along real opens_as_judged w (is_schedule p is) (different p is)) in
    let roles = at (λ h event. OfNode (λ n. IsAsDeclared (state_of h n) (setting_of w n) n) event)
    (declared_along real w (is_schedule p is) (different p is)) in
    let lines = front_in_range w before (exchange_events x c d) e
    (in_range real opens_as_judged real_keeps w (is_schedule p is) (different p is) (schedule_in_range p is)) in
    let apart : nat_eq d c ≡ false =
    no_true (nat_eq d c)
    (λ same. false≢true
    (sym may.device_role ∙ ap (λ n. is_centre (setting_of w n).me.role) (eqb-true d c same) ∙ may.centre_role)) in
    let left = left-by real w x c (Own d DoTimer) apart in
    let met : AreMet w x c d = record {
      apart = apart;
      declared = are_declared p is c d may.centre_named may.device_named may.centre_role may.device_role
          roles.1.0.in_block;
      stations = stations_fit p is c d y z;
      centre_ready = may.centre_ready;
      device_ready = may.device_ready;
      centre_steady = subst (IsSteady (setting_of w c)) left.state
          (record { rules = rules.1.0; role = roles.1.0.role });
      device_steady = record { rules = rules.0; role = roles.0.role };
    } in
    subst (λ l. EndsConfirmed w l c d key sequence drawn)
    (sym (ap (fold (after_event real w) (first_front w)) e ∙ fold-append (after_event real w) (first_front w)
    before (exchange_events x c d)))
    (exchanged real delivers_commands opens_as_judged w x c d key sequence link drawn met may.joined
    (keys_fit w x c d key sequence link lines may.joined)
    (drawn_fits p is (after_events real w x (Own d DoTimer ∷ [])).lines drawn free.draw) free)
