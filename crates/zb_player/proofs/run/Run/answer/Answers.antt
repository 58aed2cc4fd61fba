use Rattle.std.proofs.Common.{[], refl, subst, sym, ◌∙◌, arith}
use Rattle.law_run_steps.specs.Conditions.{condition_of}
use Rattle.law_schedules.specs.Schedules.{event_for, schedule_of, stations_for}
use Rattle.zb_player_events.proofs.Counting.{ok_so}
use Rattle.zb_player.proofs.Asking.{asks_nothing, asks_once, gave_nothing, gave_once, under_none, under_seat}
use Rattle.zb_player.proofs.Answering.{answered_at, answered_outside, answered_with, made_at, outside_made, outside_with}
use Rattle.zb_player.proofs.Goings.{is_step, on_ok}
use Rattle.zb_player.specs.Playing.{RunStands}
use Rattle.zb_sched_line.specs.Views.{event_of}
use Rattle.zb_player.proofs.run.Run.answer.Goals as goal

pub returns-in-None-clause-goes : goal.returns-in-None-clause-goes
returns-in-None-clause-goes g c =
    on_ok c.answer_outside.result _ _ (λ adds still p h ds is fits stands.
    is_step p h ds c.args.number (event_for (stations_for p) (event_of c.args.event.now)) c.args.self.now _
    c.args.disks.now
    (answered_outside p h (condition_of (schedule_of p) h ds) c.args.number c.args.number _ c.args.self.now _
    c.args.disks.now is fits stands
    (sym (c.of_event.ensures _ stands.seats) ∙ c.in-None.is)
    (λ known told o. (adds (schedule_of p) h [] known told o).adds) refl refl refl))
    c.answer_outside.ensures.sent

pub returns-in-Some-clause-goes : goal.returns-in-Some-clause-goes
returns-in-Some-clause-goes g c =
    on_ok c.answer_at.result _ _ (λ goes still p h ds is fits stands.
    is_step p h ds c.args.number (event_for (stations_for p) (event_of c.args.event.now)) c.args.self.now _ _
    (answered_at p h (condition_of (schedule_of p) h ds) c.args.number c.args.number _ c.in-Some.seat
    c.act_of-act.result c.args.self.now _ c.args.disks.now _ _ (omega (arith, fits.early)) is fits stands
    (sym (c.of_event.ensures _ stands.seats) ∙ c.in-Some.is) (c.act_of-act.ensures _ stands.seats)
    (c.swap.ensures.disks still) goes))
    c.answer_at.ensures.goes

pub returns-in-None-clause-passes : goal.returns-in-None-clause-passes
returns-in-None-clause-passes g c =
    on_ok c.answer_outside.result _ _ (λ adds p h xs latest gift is fits few stands gifted.
    let none = sym (c.of_event.ensures _ stands.seats) ∙ c.in-None.is in
    outside_with p h xs latest c.args.number _ gift c.args.self.now _ c.args.disks.now is fits none
    (answered_outside p h xs latest c.args.number _ c.args.self.now _ c.args.disks.now is fits stands none
    (λ known told o. (adds (schedule_of p) h [] known told o).adds) refl refl refl))
    c.answer_outside.ensures.sent

pub returns-in-Some-clause-passes : goal.returns-in-Some-clause-passes
returns-in-Some-clause-passes g c =
    on_ok c.answer_at.result _ _ (λ goes p h xs latest gift is fits few stands gifted.
    answered_with p h xs latest c.args.number _ c.in-Some.seat c.act_of-act.result gift
    (g.B.Bench.gives c.args.bench.now) c.args.self.now _ c.args.disks.now _ _ few is fits stands
    (sym (c.of_event.ensures _ stands.seats) ∙ c.in-Some.is) (c.act_of-act.ensures _ stands.seats)
    c.swap.ensures.put gifted goes)
    c.answer_at.ensures.goes

pub returns-in-None-clause-calls : goal.returns-in-None-clause-calls
returns-in-None-clause-calls g c =
    ok_so c.answer_outside.result _ (λ still p h ds is fits stands.
    outside_made p h ds c.args.number _ c.args.self.now c.args.disks.now is fits stands
    (sym (c.of_event.ensures _ stands.seats) ∙ c.in-None.is))

pub returns-in-Some-clause-calls : goal.returns-in-Some-clause-calls
returns-in-Some-clause-calls g c =
    on_ok c.answer_at.result _ _ (λ calls still p h ds is fits stands.
    made_at p h ds c.args.number _ c.in-Some.seat c.act_of-act.result c.args.self.now c.args.disks.now _ _ is fits
    stands
    (sym (c.of_event.ensures _ stands.seats) ∙ c.in-Some.is) (c.act_of-act.ensures _ stands.seats)
    (c.swap.ensures.disks still) calls)
    c.answer_at.ensures.calls

pub returns-in-None-clause-swapped : goal.returns-in-None-clause-swapped
returns-in-None-clause-swapped g c =
    on_ok c.answer_outside.result _ _ (λ adds p h ds is fits stands.
    let none = sym (c.of_event.ensures _ stands.seats) ∙ c.in-None.is in
    is_step p h ds c.args.number (event_for (stations_for p) (event_of c.args.event.now)) c.args.self.now _
    c.args.disks.now
    (answered_outside p h (condition_of (schedule_of p) h ds) c.args.number c.args.number _ c.args.self.now _
    c.args.disks.now is fits
    (subst (RunStands p h ds c.args.number c.args.self.now)
    (under_none (g.B.Bench.gives c.args.bench.now) c.args.number c.args.disks.now none) stands) none
    (λ known told o. (adds (schedule_of p) h [] known told o).adds) refl refl refl))
    c.answer_outside.ensures.sent

pub returns-in-Some-clause-swapped : goal.returns-in-Some-clause-swapped
returns-in-Some-clause-swapped g c =
    on_ok c.answer_at.result _ _ (λ goes p h ds is fits stands.
    let found = sym (c.of_event.ensures _ stands.seats) ∙ c.in-Some.is in
    is_step p h ds c.args.number (event_for (stations_for p) (event_of c.args.event.now)) c.args.self.now _ _
    (answered_at p h (condition_of (schedule_of p) h ds) c.args.number c.args.number _ c.in-Some.seat
    c.act_of-act.result c.args.self.now _ _ _ _ (omega (arith, fits.early)) is fits stands
    found (c.act_of-act.ensures _ stands.seats)
    (under_seat p (g.B.Bench.gives c.args.bench.now) c.args.number c.args.disks.now _
    (event_of c.args.event.now) is found c.swap.ensures.put) goes))
    c.answer_at.ensures.goes

pub returns-in-None-clause-asked : goal.returns-in-None-clause-asked
returns-in-None-clause-asked g c =
    asks_nothing c.args.self.now.seats c.args.number _ (g.B.Bench.asked c.args.bench.now)
    (λ known are. sym (c.of_event.ensures known are) ∙ c.in-None.is)

pub returns-in-Some-clause-asked : goal.returns-in-Some-clause-asked
returns-in-Some-clause-asked g c =
    asks_once c.args.self.now.seats c.args.number _ c.in-Some.seat (g.B.Bench.asked c.args.bench.now)
    (g.B.Bench.asked c.swap.new.bench)
    (λ known are. sym (c.of_event.ensures known are) ∙ c.in-Some.is) c.swap.ensures.asked

pub returns-in-None-clause-gave : goal.returns-in-None-clause-gave
returns-in-None-clause-gave g c =
    gave_nothing c.args.self.now.seats c.args.number _ (g.B.Bench.gives c.args.bench.now)
    (g.B.Bench.gave c.args.bench.now) (λ known are. sym (c.of_event.ensures known are) ∙ c.in-None.is)

pub returns-in-Some-clause-gave : goal.returns-in-Some-clause-gave
returns-in-Some-clause-gave g c =
    gave_once c.args.self.now.seats c.args.number _ c.in-Some.seat (g.B.Bench.gives c.args.bench.now)
    (g.B.Bench.gave c.args.bench.now) (g.B.Bench.gave c.swap.new.bench)
    (λ known are. sym (c.of_event.ensures known are) ∙ c.in-Some.is) c.swap.ensures.gave
