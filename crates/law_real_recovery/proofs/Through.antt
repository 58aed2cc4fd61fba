-- A device joins through a router at the end of a schedule's run: what the laws over runs know of its front.
use Rattle.std.proofs.Common.{◌≡◌, ℕ, ◌+◌, ◌<◌, ◌&&◌, ◌||◌, if◌then◌else◌, Bool, true, false, List, [], ◌∷◌, ◌++◌, find, fold, length, Option, Some, None, option_map, is_some, nat_eq, refl, sym, ap, ◌∙◌, subst, eq-eqb, eqb-true}
use Rattle.std.specs.List.{AllByRecursion, list_any}
use Rattle.std.proofs.lemmas.Bool.{false≢true}
use Rattle.std.proofs.lemmas.List.Sums.{fold-append}
use Rattle.zb_model.specs.Data.{Bytes, Role, Centre, Router, Device, Station, DoTimer, HasChild}
use Rattle.zb_model.specs.Lines.{Line}
use Rattle.zb_model.specs.Play as model
use Rattle.zb_model.specs.Play.{Event, Own, Deliver, setting_of, start, stations, without_blocks}
use Rattle.zb_model.specs.Readings.{air, state_of}
use Rattle.zb_model.specs.Rules.{acts_as_router, is_declared, is_router, short_of}
use Rattle.zb_model.specs.Schedules.{Names}
use Rattle.zb_model.specs.State.{is_centre}
use Rattle.law_recovery.specs.Meeting.{IsSteady}
use Rattle.law_recovery.proofs.Once.{find_map}
use Rattle.law_recovery.specs.Fronts.{Front, after_event, after_events}
use Rattle.law_recovery.specs.KeyExchange.{EndsConfirmed, KeysInRange, NothingStops, exchange_events}
use Rattle.law_recovery.proofs.Exchanged.{left-by, turned}
use Rattle.law_recovery.specs.Relaying.{AreRouted}
use Rattle.law_recovery.specs.Routed.{MayJoinThrough, RouteIsFree, routed_events, routed_front, routed_joining_events}
use Rattle.law_recovery.proofs.Through.{routed_and_exchanged}
use Rattle.law_real_nodes.proofs.Euis.{different}
use Rattle.law_real_nodes.proofs.Opening.{opens_as_judged}
use Rattle.law_run.specs.Events.{BeforeEach}
use Rattle.law_run.proofs.Judged.{all-in}
use Rattle.law_run_ranges.specs.Ranges.{LineInRange}
use Rattle.law_run_ranges.proofs.Runs.{in_range}
use Rattle.law_run_text.proofs.Schedules.{schedule_in_range}
use Rattle.law_run_text.proofs.Tools.{real_keeps}
use Rattle.law_schedules.specs.Schedules.{schedule_of}
use Rattle.law_schedules.proofs.Meets.{is_schedule}
use Rattle.law_tables_suffice.proofs.Ready.{declared_along, ruled_along}
use Rattle.law_real_recovery.specs.Routing.{MayRoute}
use Rattle.law_real_recovery.specs.Texts.{first_front}
use Rattle.law_real_recovery.proofs.Arriving.{delivers}
use Rattle.law_real_recovery.proofs.ArrivingCommands.{delivers_commands}
use Rattle.law_real_recovery.proofs.ArrivingRelays.{delivers_relays}
use Rattle.law_real_recovery.proofs.Ending.{left_over, front_in_range, active_among, link_among}
use Rattle.law_real_recovery.proofs.Exchanged.{are_declared, drawn_fits, known, stations_fit}
use Rattle.law_real_recovery.proofs.LetIn.{AsDeclared, Claim, Ruled}
use Rattle.law_real_recovery.proofs.Networks.{Declared, any_of, apart_by, declared, no_true, short_known, shorts_differ}
use Rattle.law_real_recovery.proofs.Whole.{NetWhole, LinkWhole, whole_in}
use Rattle.zb_model_real.specs.Real.{real}
use Rattle.zb_sched.specs.Schedules as sched
use Rattle.zb_sched.specs.Valid.{IsSchedule}

-- ---- the three settings

not_centre : (role : Role) → is_router role ≡ true → is_centre role ≡ false
not_centre Centre e = sym e
not_centre Router e = refl
not_centre Device e = refl

some_found : {X : Type 0} (q : X → Bool) (xs : List X) → list_any q xs ≡ true → is_some (find q xs) ≡ true
some_found q [] e = absurd (false≢true e)
some_found {X} q (x ∷ xs) e = by_test (q x) e (λ f. some_found q xs f)
  where
    by_test : (b : Bool) → (b || list_any q xs) ≡ true → (list_any q xs ≡ true → is_some (find q xs) ≡ true)
        → is_some (if b then Some x else find q xs) ≡ true
    by_test true e f = refl
    by_test false e f = f e

still : (o : Option Station) → is_some (option_map without_blocks o) ≡ is_some o
still None = refl
still (Some p) = refl

-- a router acts as one at each node
acts : (w : model.Schedule) (n r : ℕ) → Declared w r → is_router (setting_of w r).me.role ≡ true
    → acts_as_router (setting_of w n) r ≡ true
unfolding setting_of
acts w n r y role =
    let test = λ (p : Station). nat_eq p.eui r && is_router p.role in
    let router : is_router y.station.role ≡ true = ap (λ (s : Station). is_router s.role) (sym y.me) ∙ role in
    let is : test y.station ≡ true = rw (eq-eqb y.station.eui r y.mine, router) refl in
    ap is_some (find_map test without_blocks (λ p. refl) (stations w)) ∙ still (find test (stations w))
    ∙ some_found test (stations w) (any_of test y.station (stations w) y.among is)

are_routed : (p : sched.Schedule) → IsSchedule p → (c r d : ℕ) → Names (schedule_of p) c → Names (schedule_of p) r
    → Names (schedule_of p) d → is_centre (setting_of (schedule_of p) c).me.role ≡ true
    → is_router (setting_of (schedule_of p) r).me.role ≡ true
    → is_centre (setting_of (schedule_of p) d).me.role ≡ false → nat_eq r d ≡ false
    → 0 < (setting_of (schedule_of p) c).me.in_block
    → AreRouted (setting_of (schedule_of p) c) (setting_of (schedule_of p) r) (setting_of (schedule_of p) d)
are_routed p is c r d cn rn dn centre router device other block =
    let w = schedule_of p in
    let y = declared w r rn in
    let z = declared w d dn in
    let mine : (setting_of w r).me.eui ≡ r = ap (λ (s : Station). s.eui) y.me ∙ y.mine in
    let theirs : (setting_of w d).me.eui ≡ d = ap (λ (s : Station). s.eui) z.me ∙ z.mine in
    let differ : r ≡ d → ⊥ = λ e. false≢true (sym other ∙ eq-eqb r d e) in
    record {
      router = are_declared p is c r cn rn centre (not_centre (setting_of w r).me.role router) block;
      device = are_declared p is c d cn dn centre device block;
      router_role = router;
      router_acts = ap (acts_as_router (setting_of w c)) mine ∙ acts w c r y router;
      child_declared = ap (is_declared (setting_of w r)) theirs ∙ known w d r dn;
      child_short = ap (short_of (setting_of w r)) theirs ∙ short_known w r d z
          ∙ ap (λ (s : Station). s.short) (sym z.me);
      apart = ap (λ n. nat_eq n (setting_of w r).me.eui) theirs ∙ ap (nat_eq d) mine ∙ turned r d other;
      shorts_differ = ap (λ (s : Station). nat_eq s.short (setting_of w d).me.short) y.me
          ∙ ap (λ (s : Station). nat_eq y.station.short s.short) z.me
          ∙ no_true (nat_eq y.station.short z.station.short) (apart_by w r d y z (shorts_differ p is) differ);
    }

-- ---- the three nodes are steady at the front

record AllSteady (w : model.Schedule) (x : Front) (c r d : ℕ) : Type 0 where
  centre : IsSteady (setting_of w c) (state_of x.lines c)
  router : IsSteady (setting_of w r) (state_of x.lines r)
  device : IsSteady (setting_of w d) (state_of x.lines d)
  block : 0 < (setting_of w c).me.in_block

all_steady : (w : model.Schedule) (x : Front) (c r d : ℕ) (rest : List Event) → nat_eq d c ≡ false
    → nat_eq r c ≡ false → nat_eq r d ≡ false → Claim w x (routed_events x c r d ++ rest) (Ruled w)
    → Claim w x (routed_events x c r d ++ rest) (AsDeclared w) → AllSteady w x c r d
unfolding after_event
all_steady w x c r d rest dc rc rd rules roles =
    let n = length (air x.lines) in
    let first = Own r (HasChild d false) in
    let y1 = after_event real w x first in
    let y2 = after_event real w y1 (Deliver (n + 1) c) in
    let to_c = left-by real w x c first rc in
    let to_d = left-by real w x d first rd in
    let more_d = left-by real w y1 d (Deliver (n + 1) c) (turned d c dc) in
    let last_d = left-by real w y2 d (Deliver (n + 2) r) rd in
    record {
      centre = subst (IsSteady (setting_of w c)) to_c.state (record { rules = rules.1.0; role = roles.1.0.role });
      router = record { rules = rules.0; role = roles.0.role };
      device = subst (IsSteady (setting_of w d)) (last_d.state ∙ more_d.state ∙ to_d.state)
          (record { rules = rules.1.1.1.0; role = roles.1.1.1.0.role });
      block = roles.1.0.in_block;
    }

-- ---- keys are in their ranges

keys_fit : (w : model.Schedule) (x : Front) (c r d : ℕ) (rlink : Bytes) → AllByRecursion LineInRange x.lines
    → (may : MayRoute w x c r d rlink)
    → KeysInRange may.introduced.net.key may.introduced.net.sequence may.introduced.row.key
keys_fit w x c r d rlink lines may =
    let s = state_of x.lines c in
    let l = may.introduced in
    let whole = whole_in x.lines c lines in
    let net = all-in NetWhole s.nets whole.nets l.net (active_among s l.net l.active_key) in
    let row = all-in LinkWhole s.links whole.links l.row
    (link_among s (setting_of w d).me.eui l.row l.at_centre) in
    record { key_size = net.0.1; small = net.1; link_size = row.1 }

router_fits : (w : model.Schedule) (x : Front) (c r d : ℕ) (rlink : Bytes) → AllByRecursion LineInRange x.lines
    → MayRoute w x c r d rlink → length rlink ≡ 16
router_fits w x c r d rlink lines may =
    let s = state_of x.lines c in
    let k = may.router_keys in
    let row = all-in LinkWhole s.links (whole_in x.lines c lines).links k.row
    (link_among s (setting_of w r).me.eui k.row k.is_current) in
    ap (length {A = ℕ}) (sym k.row_key) ∙ row.1

-- ---- all of it

pub routed_at_the_end : (p : sched.Schedule) → IsSchedule p → (before : List Event) (c r d : ℕ) (rlink drawn : Bytes)
    → (schedule_of p).events ≡ before
    ++ routed_joining_events real (schedule_of p)
    (after_events real (schedule_of p) (first_front (schedule_of p)) before) c r d
    → (may : MayRoute (schedule_of p) (after_events real (schedule_of p) (first_front (schedule_of p)) before) c r d
    rlink)
    → RouteIsFree (schedule_of p) (after_events real (schedule_of p) (first_front (schedule_of p)) before) c r d
    rlink may.introduced.net.key may.introduced.net.sequence may.introduced.own
    → NothingStops real (schedule_of p)
    (routed_front real (schedule_of p) (after_events real (schedule_of p) (first_front (schedule_of p)) before) c r d)
    c d may.introduced.net.key may.introduced.net.sequence may.introduced.row.key drawn
    → EndsConfirmed (schedule_of p)
    (after_events real (schedule_of p) (first_front (schedule_of p)) (schedule_of p).events) c d
    may.introduced.net.key may.introduced.net.sequence drawn
routed_at_the_end p is before c r d rlink drawn e may open_ free =
    let w = schedule_of p in
    let x = after_events real w (first_front w) before in
    let y = declared w c may.centre_named in
    let q = declared w r may.router_named in
    let z = declared w d may.device_named in
    let l = may.introduced in
    let events = routed_joining_events real w x c r d in
    let at : (P : List Line → Event → Type 0) → BeforeEach P real w (start w) [] 1 w.events
    → BeforeEach P real w x.lines x.disks x.number events =
    λ P b. left_over P real w before events (first_front w) (subst (BeforeEach P real w (start w) [] 1) e b) in
    let lines =
    front_in_range w before events e
    (in_range real opens_as_judged real_keeps w (is_schedule p is) (different p is) (schedule_in_range p is)) in
    let unlike : (n : ℕ) → is_centre (setting_of w n).me.role ≡ false → nat_eq n c ≡ false =
    λ n role. no_true (nat_eq n c)
    (λ same. false≢true
    (sym role ∙ ap (λ m. is_centre (setting_of w m).me.role) (eqb-true n c same) ∙ may.centre_role)) in
    let router_role = not_centre (setting_of w r).me.role may.router_role in
    let dc = unlike d may.device_role in
    let rc = unlike r router_role in
    let all = all_steady w x c r d (exchange_events (routed_front real w x c r d) c d) dc rc may.apart
    (at (Ruled w) (ruled_along real opens_as_judged w (is_schedule p is) (different p is)))
    (at (AsDeclared w) (declared_along real w (is_schedule p is) (different p is))) in
    let through : MayJoinThrough w x c r d rlink = record {
      device_met = record {
        apart = dc;
        declared = are_declared p is c d may.centre_named may.device_named may.centre_role may.device_role all.block;
        stations = stations_fit p is c d y z;
        centre_ready = may.centre_ready;
        device_ready = may.device_ready;
        centre_steady = all.centre;
        device_steady = all.device;
      };
      router_met = record {
        apart = rc;
        declared = are_declared p is c r may.centre_named may.router_named may.centre_role router_role all.block;
        stations = stations_fit p is c r y q;
        centre_ready = may.centre_ready;
        device_ready = may.router_ready;
        centre_steady = all.centre;
        device_steady = all.router;
      };
      apart = may.apart;
      device_named = ap (λ (s : Station). s.eui) z.me ∙ z.mine;
      routed = are_routed p is c r d may.centre_named may.router_named may.device_named may.centre_role
          may.router_role may.device_role may.apart all.block;
      introduced = l;
      none_offered = may.keys;
      network = may.network;
      router = may.router;
      router_keys = may.router_keys;
      in_range = keys_fit w x c r d rlink lines may;
      router_size = router_fits w x c r d rlink lines may;
      meets = may.meets;
    } in
    subst (λ k. EndsConfirmed w k c d l.net.key l.net.sequence drawn)
    (sym (ap (fold (after_event real w) (first_front w)) e ∙ fold-append (after_event real w) (first_front w)
    before events))
    (routed_and_exchanged real delivers delivers_relays delivers_commands opens_as_judged w x c r d rlink drawn
    through open_
    (drawn_fits p is (after_events real w (routed_front real w x c r d) (Own d DoTimer ∷ [])).lines drawn free.draw)
    free)
