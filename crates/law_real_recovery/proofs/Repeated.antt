-- An exchange continues at the end of a schedule's run: by turns that lose frames, when nodes are stopped, and by
-- rounds of rejoining that are stale.
use Rattle.std.proofs.Common.{◌≡◌, ℕ, zero, suc, ◌<◌, List, [], ◌∷◌, ◌++◌, fold, length, refl, sym, ap, ◌∙◌, subst}
use Rattle.std.specs.List.{AllByRecursion}
use Rattle.std.proofs.lemmas.List.Sums.{fold-append}
use Rattle.zb_model.specs.Data.{Station}
use Rattle.zb_model.specs.Play as model
use Rattle.zb_model.specs.Play.{Event, setting_of}
use Rattle.zb_model.specs.Readings.{state_of}
use Rattle.zb_model.specs.Tools.{Tools}
use Rattle.law_recovery.specs.Rounds.{CameFromCentre, RejoinsLater, after_rounds}
use Rattle.law_recovery.specs.Stages.{AreFree, HaveCome, Keys}
use Rattle.law_recovery.specs.Stale.{AreAnswersStale, AreStale, CameFromDevice, CameFromTheCentre}
use Rattle.law_recovery.specs.Stops.{AreInOrder, Happening, Timer, Hearing, Taking, Repelling, Idle, after_happening, after_happenings, kept_far_all}
use Rattle.law_recovery.specs.Turns.{Far, Asking, Done, Turn, Unheard, Unanswered, Answered, Refused, Elsewhere, after_turn, after_turns, far_after_all, turn_events}
use Rattle.law_recovery.proofs.Floors.{floor_at_most}
use Rattle.law_recovery.proofs.Halting.{happenings_confirm}
use Rattle.law_recovery.proofs.Rounds.{rounds_end}
use Rattle.law_recovery.proofs.LostSending.{KeysFit}
use Rattle.law_recovery.proofs.StaleAnswers.{stale_answers_are_fewer}
use Rattle.law_recovery.proofs.StaleTurns.{stale_turns_are_fewer}
use Rattle.law_recovery.proofs.Turning.{turns_confirm}
use Rattle.law_real_nodes.proofs.Euis.{different}
use Rattle.law_real_nodes.proofs.Opening.{opens_as_judged}
use Rattle.law_recovery.proofs.Taking.{unspent_of}
use Rattle.law_recovery.specs.Fronts.{EndsRejoined, Front, IsReady, after_event, after_events, rejoin_events}
use Rattle.law_recovery.specs.KeyExchange.{EndsConfirmed}
use Rattle.law_run_ranges.specs.Ranges.{LineInRange}
use Rattle.law_run_ranges.proofs.Runs.{in_range}
use Rattle.law_run_text.proofs.Schedules.{schedule_in_range}
use Rattle.law_run_text.proofs.Tools.{real_keeps}
use Rattle.law_schedules.specs.Schedules.{schedule_of}
use Rattle.law_schedules.proofs.Meets.{is_schedule}
use Rattle.law_real_recovery.specs.Exchanging.{MayExchange}
use Rattle.law_real_recovery.specs.Repeating.{MayGoOn, MayRejoinLater, happening_events, round_events, turns_events}
use Rattle.law_real_recovery.specs.Texts.{first_front}
use Rattle.law_real_recovery.proofs.Arriving.{delivers}
use Rattle.law_real_recovery.proofs.ArrivingCommands.{delivers_commands}
use Rattle.law_real_recovery.proofs.Ending.{frame_in, front_in_range}
use Rattle.law_real_recovery.proofs.Exchanged.{drawn_fits, keys_fit}
use Rattle.law_real_recovery.proofs.Fronts.{met_at, others_differ, some_block, steady_at}
use Rattle.law_real_recovery.proofs.Networks.{declared, one_network}
use Rattle.zb_model_real.specs.Real.{real}
use Rattle.zb_sched.specs.Schedules as sched
use Rattle.zb_sched.specs.Valid.{IsSchedule}

-- ---- the last events, one after the other

turns_lead : (tools : Tools) (w : model.Schedule) (c d : ℕ) (x : Front) (turns : List Turn)
    → after_events tools w x (turns_events tools w c d x turns) ≡ after_turns tools w c d x turns
turns_lead tools w c d x [] = refl
turns_lead tools w c d x (turn ∷ turns) =
    fold-append (after_event tools w) x (turn_events x c d turn)
    (turns_events tools w c d (after_turn tools w c d x turn) turns)
    ∙ turns_lead tools w c d (after_turn tools w c d x turn) turns

happenings_lead : (tools : Tools) (w : model.Schedule) (c d : ℕ) (x : Front) (happenings : List Happening)
    → after_events tools w x (happening_events c d happenings) ≡ after_happenings tools w c d x happenings
happenings_lead tools w c d x [] = refl
happenings_lead tools w c d x (happening ∷ more) =
    happenings_lead tools w c d (after_happening tools w c d x happening) more

rounds_lead : (tools : Tools) (w : model.Schedule) (c d n : ℕ) (x : Front)
    → after_events tools w x (round_events tools w c d n x) ≡ after_rounds tools w c d n x
rounds_lead tools w c d zero x = refl
rounds_lead tools w c d (suc n) x =
    let y = after_events tools w x (rejoin_events x c d) in
    fold-append (after_event tools w) x (rejoin_events x c d) (round_events tools w c d n y)
    ∙ rounds_lead tools w c d n y

-- if the events of a schedule end with these, its run ends at the front that they lead to
ends_there : (w : model.Schedule) (before rest : List Event) (y : Front) → w.events ≡ before ++ rest
    → after_events real w (after_events real w (first_front w) before) rest ≡ y
    → after_events real w (first_front w) w.events ≡ y
ends_there w before rest y e leads =
    ap (fold (after_event real w) (first_front w)) e
    ∙ fold-append (after_event real w) (first_front w) before rest ∙ leads

lines_in_range : (p : sched.Schedule) → IsSchedule p → (before rest : List Event)
    → (schedule_of p).events ≡ before ++ rest
    → AllByRecursion LineInRange
    (after_events real (schedule_of p) (first_front (schedule_of p)) before).lines
lines_in_range p is before rest e =
    front_in_range (schedule_of p) before rest e
    (in_range real opens_as_judged real_keeps (schedule_of p) (is_schedule p is) (different p is)
    (schedule_in_range p is))

-- ---- turns that lose frames

-- the key is drawn in the first turn that the centre accepts
drawn_in_turns : (p : sched.Schedule) → IsSchedule p → (x : Front) (c d : ℕ) (k : Keys) (turns : List Turn)
    → far_after_all Asking turns ≡ Done → AreFree real (schedule_of p) c d k x Asking turns → length k.drawn ≡ 16
drawn_in_turns p is x c d k [] e free = absurd (cc)
drawn_in_turns p is x c d k (Unheard ∷ turns) e free =
    drawn_in_turns p is (after_turn real (schedule_of p) c d x Unheard) c d k turns e free.1
drawn_in_turns p is x c d k (Unanswered ∷ turns) e free =
    drawn_fits p is _ k.drawn free.0.1.0
drawn_in_turns p is x c d k (Answered ∷ turns) e free =
    drawn_fits p is _ k.drawn free.0.0.1.0
drawn_in_turns p is x c d k (Refused frame node ∷ turns) e free =
    drawn_in_turns p is (after_turn real (schedule_of p) c d x (Refused frame node)) c d k turns e free.1
drawn_in_turns p is x c d k (Elsewhere event ∷ turns) e free =
    drawn_in_turns p is (after_turn real (schedule_of p) c d x (Elsewhere event)) c d k turns e free.1

pub turns_at_the_end : (p : sched.Schedule) → IsSchedule p → (before : List Event) (c d : ℕ) (k : Keys)
    (turns : List Turn)
    → (schedule_of p).events ≡ before
    ++ turns_events real (schedule_of p) c d
    (after_events real (schedule_of p) (first_front (schedule_of p)) before) turns
    → MayExchange (schedule_of p) (after_events real (schedule_of p) (first_front (schedule_of p)) before) c d
    k.network k.sequence k.link
    → far_after_all Asking turns ≡ Done
    → AreFree real (schedule_of p) c d k (after_events real (schedule_of p) (first_front (schedule_of p)) before)
    Asking turns
    → EndsConfirmed (schedule_of p)
    (after_events real (schedule_of p) (first_front (schedule_of p)) (schedule_of p).events) c d k.network k.sequence
    k.drawn
turns_at_the_end p is before c d k turns e may over free =
    let w = schedule_of p in
    let x = after_events real w (first_front w) before in
    let rest = turns_events real w c d x turns in
    let met = met_at p is before c d may.centre_named may.device_named may.centre_role may.device_role
    may.centre_ready may.device_ready in
    let fit : KeysFit k = record {
      range = keys_fit w x c d k.network k.sequence k.link (lines_in_range p is before rest e) may.joined;
      drawn = drawn_in_turns p is x c d k turns over free;
    } in
    subst (λ y. EndsConfirmed w y c d k.network k.sequence k.drawn)
    (sym (ends_there w before rest (after_turns real w c d x turns) e (turns_lead real w c d x turns)))
    (turns_confirm real delivers_commands opens_as_judged w x c d k turns fit met may.joined over free)

-- ---- nodes that are stopped

drawn_in_order : (p : sched.Schedule) → IsSchedule p → (x : Front) (c d : ℕ) (k : Keys) (happenings : List Happening)
    → kept_far_all real (schedule_of p) c d k x Asking happenings ≡ Done
    → AreInOrder real (schedule_of p) c d k x Asking happenings → length k.drawn ≡ 16
drawn_in_order p is x c d k [] e order = absurd (cc)
drawn_in_order p is x c d k (Timer ∷ more) e order =
    drawn_in_order p is (after_happening real (schedule_of p) c d x Timer) c d k more e order.1
drawn_in_order p is x c d k (Hearing frame sealed ∷ more) e order =
    drawn_fits p is x.lines k.drawn order.0.free.0
drawn_in_order p is x c d k (Taking frame sealed ∷ more) e order = absurd (order.0.answered)
drawn_in_order p is x c d k (Repelling frame node ∷ more) e order =
    drawn_in_order p is (after_happening real (schedule_of p) c d x (Repelling frame node)) c d k more e order.1
drawn_in_order p is x c d k (Idle event ∷ more) e order =
    drawn_in_order p is (after_happening real (schedule_of p) c d x (Idle event)) c d k more e order.1

pub happenings_at_the_end : (p : sched.Schedule) → IsSchedule p → (before : List Event) (c d : ℕ) (k : Keys)
    (happenings : List Happening) → (schedule_of p).events ≡ before ++ happening_events c d happenings
    → MayExchange (schedule_of p) (after_events real (schedule_of p) (first_front (schedule_of p)) before) c d
    k.network k.sequence k.link
    → AreInOrder real (schedule_of p) c d k
    (after_events real (schedule_of p) (first_front (schedule_of p)) before) Asking happenings
    → kept_far_all real (schedule_of p) c d k
    (after_events real (schedule_of p) (first_front (schedule_of p)) before) Asking happenings ≡ Done
    → IsReady (after_events real (schedule_of p) (first_front (schedule_of p)) (schedule_of p).events) c
    → IsReady (after_events real (schedule_of p) (first_front (schedule_of p)) (schedule_of p).events) d
    → EndsConfirmed (schedule_of p)
    (after_events real (schedule_of p) (first_front (schedule_of p)) (schedule_of p).events) c d k.network k.sequence
    k.drawn
happenings_at_the_end p is before c d k happenings e may order over centre_ready device_ready =
    let w = schedule_of p in
    let x = after_events real w (first_front w) before in
    let rest = happening_events c d happenings in
    let met = met_at p is before c d may.centre_named may.device_named may.centre_role may.device_role
    may.centre_ready may.device_ready in
    let fit : KeysFit k = record {
      range = keys_fit w x c d k.network k.sequence k.link (lines_in_range p is before rest e) may.joined;
      drawn = drawn_in_order p is x c d k happenings over order;
    } in
    let leads = ends_there w before rest (after_happenings real w c d x happenings) e
    (happenings_lead real w c d x happenings) in
    subst (λ y. EndsConfirmed w y c d k.network k.sequence k.drawn) (sym leads)
    (happenings_confirm real delivers_commands opens_as_judged w x c d k happenings fit met may.joined order over
    (subst (λ y. IsReady y c) leads centre_ready) (subst (λ y. IsReady y d) leads device_ready))

-- ---- rounds that are stale

later_at : (p : sched.Schedule) → IsSchedule p → (before rest : List Event) (c d n : ℕ)
    → (schedule_of p).events ≡ before ++ rest
    → MayRejoinLater (schedule_of p) (after_events real (schedule_of p) (first_front (schedule_of p)) before) c d n
    → RejoinsLater (schedule_of p) (after_events real (schedule_of p) (first_front (schedule_of p)) before) c d n
later_at p is before rest c d n e may =
    let w = schedule_of p in
    let x = after_events real w (first_front w) before in
    let y = declared w c may.centre_named in
    let z = declared w d may.member_named in
    let mine : (setting_of w d).me.eui ≡ d = ap (λ (s : Station). s.eui) z.me ∙ z.mine in
    let steady = steady_at p is before d may.member_named in
    record {
      apart = others_differ w c d may.centre_role may.member_role;
      mine = mine;
      network = one_network p is c d may.centre_named may.member_named may.centre_role may.member_role;
      centre_ready = may.centre_ready;
      member_ready = may.member_ready;
      rules = steady.rules;
      role = steady.role;
      may = may.may;
      linked = may.linked;
      in_range =
          frame_in p is x c d y z (lines_in_range p is before rest e) may.linked
          (unspent_of (state_of x.lines c) d may.not_stopped) mine;
      not_stopped = may.not_stopped;
      not_refused = may.not_refused;
      stale = may.stale;
      counters = may.counters;
    }

pub rounds_at_the_end : (p : sched.Schedule) → IsSchedule p → (before : List Event) (c d n : ℕ)
    → (schedule_of p).events ≡ before
    ++ round_events real (schedule_of p) c d (suc n)
    (after_events real (schedule_of p) (first_front (schedule_of p)) before)
    → MayRejoinLater (schedule_of p) (after_events real (schedule_of p) (first_front (schedule_of p)) before) c d n
    → EndsRejoined (after_events real (schedule_of p) (first_front (schedule_of p)) (schedule_of p).events) c d
rounds_at_the_end p is before c d n e may =
    let w = schedule_of p in
    let x = after_events real w (first_front w) before in
    let rest = round_events real w c d (suc n) x in
    subst (λ y. EndsRejoined y c d)
    (sym (ends_there w before rest (after_rounds real w c d (suc n) x) e (rounds_lead real w c d (suc n) x)))
    (rounds_end real delivers opens_as_judged w c d n x (later_at p is before rest c d n e may))

pub rounds_bounded : (p : sched.Schedule) → IsSchedule p → (before : List Event) (c d n : ℕ)
    → (may : MayRejoinLater (schedule_of p)
    (after_events real (schedule_of p) (first_front (schedule_of p)) before) c d n)
    → CameFromCentre (schedule_of p) (after_events real (schedule_of p) (first_front (schedule_of p)) before) c d
    may.linked.own
    → n < (setting_of (schedule_of p) d).me.in_block
rounds_bounded p is before c d n may came =
    let w = schedule_of p in
    let x = after_events real w (first_front w) before in
    subst (λ k. k < (setting_of w d).me.in_block) may.stale
    (floor_at_most w x c d may.linked.own may.linked.at_member came (some_block p is d may.member_named))

-- ---- turns that are stale

gone_so_far : (p : sched.Schedule) → IsSchedule p → (before : List Event) (c d : ℕ) (k : Keys) (far : Far)
    → MayGoOn (schedule_of p) (after_events real (schedule_of p) (first_front (schedule_of p)) before) c d k far
    → HaveCome (schedule_of p) (after_events real (schedule_of p) (first_front (schedule_of p)) before) c d k far
gone_so_far p is before c d k far may = record {
  met = met_at p is before c d may.centre_named may.device_named may.centre_role may.device_role may.centre_ready
      may.device_ready;
  network = may.network;
  device = may.device;
  centre = may.centre;
}

pub stale_turns_bounded : (p : sched.Schedule) → IsSchedule p → (before : List Event) (c d : ℕ) (k : Keys) (far : Far)
    (n : ℕ)
    → MayGoOn (schedule_of p) (after_events real (schedule_of p) (first_front (schedule_of p)) before) c d k far
    → CameFromDevice far (schedule_of p) (after_events real (schedule_of p) (first_front (schedule_of p)) before) c d k
    → AreStale real (schedule_of p) c d k far n
    (after_events real (schedule_of p) (first_front (schedule_of p)) before)
    → n < (setting_of (schedule_of p) c).me.in_block
stale_turns_bounded p is before c d k far n may came all =
    let w = schedule_of p in
    let x = after_events real w (first_front w) before in
    stale_turns_are_fewer real delivers_commands opens_as_judged w c d k far n x
    (record { range = may.in_range; drawn = may.drawn }) (gone_so_far p is before c d k far may) came all

pub stale_answers_bounded : (p : sched.Schedule) → IsSchedule p → (before : List Event) (c d : ℕ) (k : Keys)
    (far : Far) (n : ℕ)
    → MayGoOn (schedule_of p) (after_events real (schedule_of p) (first_front (schedule_of p)) before) c d k far
    → CameFromTheCentre far (schedule_of p) (after_events real (schedule_of p) (first_front (schedule_of p)) before) c
    d k
    → AreAnswersStale real (schedule_of p) c d k far n
    (after_events real (schedule_of p) (first_front (schedule_of p)) before)
    → n < (setting_of (schedule_of p) d).me.in_block
stale_answers_bounded p is before c d k far n may came all =
    let w = schedule_of p in
    let x = after_events real w (first_front w) before in
    stale_answers_are_fewer real delivers_commands opens_as_judged w c d k far n x
    (record { range = may.in_range; drawn = may.drawn }) (some_block p is d may.device_named)
    (gone_so_far p is before c d k far may) came all
