use Rattle.std.proofs.Common.{◌≡◌, ℕ, Option, Some, List, [], ◌∷◌, map, length, refl, sym, ap, ◌∙◌, subst}
use Rattle.std.proofs.lemmas.List.{length-map}
use Rattle.std.specs.Io.KnownBytes.{Appends, append_known}
use Rattle.std.specs.List.{AllByRecursion}
use Rattle.zb_disk.specs.Memory.{Medium}
use Rattle.zb_model.specs.Play.{stations}
use Rattle.law_schedules.specs.Schedules.{schedule_of}
use Rattle.zb_player.specs.Playing.{RunStands}
use Rattle.zb_player.specs.Runs.{WerePlayed, last_line, text_in}
use Rattle.zb_player.specs.declared.run.Run.{Run}
use Rattle.zb_player.proofs.CallsMade.{all_made}
use Rattle.zb_player.proofs.Ending.{are_played, disks_kept, last_text}
use Rattle.zb_player.proofs.Paging.{clear_of, handed, handed_front, paged, still_for}
use Rattle.zb_player.proofs.RunSteps.{on_err}
use Rattle.zb_player.proofs.Whole.{Ended, all_answered, begin, front_end, front_last, front_middle, front_start, last, played_disks, summed, sums_up, whole_run}
use Rattle.zb_player.specs.Benches.{Asks, questions}
use Rattle.zb_player.specs.Swapping.{AreGifts}
use Rattle.zb_player.proofs.GivenWhole.{GivenEnded, all_given, for_gifts, given_end, given_last, given_nothing, given_part, given_start, given_unended, given_whole, summed_given, sums_given}
use Rattle.law_run_steps.specs.Swaps.{Stood}
use Rattle.zb_player.proofs.Asking.{few_stations}
use Rattle.zb_player.proofs.player.play_onto.Goals as goal
use Rattle.zb_sched.specs.Schedules as sched
use Rattle.zb_sched_line.specs.Said.{Event}
use Rattle.zb_sched_line.specs.Views.{event_of}

pub answer_all-requires-clause-clear : goal.answer_all-requires-clause-clear
answer_all-requires-clause-clear g c = clear_of c.in_ok-run.run'.ledger.transcript.page _
    c.in_ok-hand_out.ensures.whole.1

pub answer_all-requires-clause-fit : goal.answer_all-requires-clause-fit
answer_all-requires-clause-fit g c =
    let p = sched.schedule_of c.args.schedule.now in
    still_for c.args.page c.in_ok-run.run'.ledger.transcript.page c.hand_out.new.self (text_in p (begin p))
    (g.W.Sink.taken c.args.out.now) (g.W.Sink.taken c.hand_out.new.out) c.in_ok-run.ensures.page
    c.in_ok-hand_out.ensures.whole.1 c.requires.fit c.in_ok-hand_out.ensures.whole.0

pub returns-in_err-hand_out-clause-front : goal.returns-in_err-hand_out-clause-front
returns-in_err-hand_out-clause-front g c = λ s.
    let p = sched.schedule_of c.args.schedule.now in
    on_err _ _ (front_start p (g.W.Sink.taken c.args.out.now) (g.W.Sink.taken c.hand_out.new.out)
    (handed_front c.args.page c.in_ok-run.run'.ledger.transcript.page (text_in p (begin p)) (g.W.Sink.taken
    c.args.out.now)
    (g.W.Sink.taken c.hand_out.new.out) c.in_ok-run.ensures.page c.requires.clear
    c.in_err-hand_out.ensures.front.0))

pub returns-in_err-answer_all-clause-front : goal.returns-in_err-answer_all-clause-front
returns-in_err-answer_all-clause-front g c = λ s.
    let p = sched.schedule_of c.args.schedule.now in
    let events = c.as_slice-events.result.now in
    let before = g.W.Sink.taken c.args.out.now in
    let played = are_played c.args.schedule.now events c.requires.schedule c.as_slice-events.ensures in
    let run1 : Run = record {
      nodes = c.in_ok-run.run'.nodes;
      seats = c.in_ok-run.run'.seats;
      draws = c.in_ok-run.run'.draws;
      ledger =
          record {
            transcript =
                record {
                  alloc = c.in_ok-run.run'.ledger.transcript.alloc;
                  scribe = c.in_ok-run.run'.ledger.transcript.scribe;
                  page = c.hand_out.new.self;
                };
            plan = c.in_ok-run.run'.ledger.plan;
          };
    } in
    let stands1 : RunStands p (begin p) [] 1 run1 c.deref_mut.result.now =
    subst (RunStands p (begin p) [] 1 run1) (sym c.deref_mut.ensures.value)
    (paged p (begin p) [] 1 c.in_ok-run.run' run1 c.start.new.disks.items
    (record { nodes = refl; seats = refl; draws = refl; scribe = refl }) c.in_ok-run.ensures.stands) in
    let out : Appends before (g.W.Sink.taken c.hand_out.new.out) (text_in p (begin p)) =
    handed c.args.page c.in_ok-run.run'.ledger.transcript.page (text_in p (begin p)) before (g.W.Sink.taken
    c.hand_out.new.out)
    c.in_ok-run.ensures.page c.requires.clear c.requires.fit
    c.in_ok-hand_out.ensures.whole.0 in
    on_err _ _
    (front_middle p run1 c.deref_mut.result.now (map event_of events) before (g.W.Sink.taken c.hand_out.new.out)
    (g.W.Sink.taken c.answer_all.new.out)
    played stands1 out (c.in_err-answer_all.ensures.front s))

pub returns-in_err-print-clause-front : goal.returns-in_err-print-clause-front
returns-in_err-print-clause-front g c = λ s.
    let p = sched.schedule_of c.args.schedule.now in
    let events = c.as_slice-events.result.now in
    let before = g.W.Sink.taken c.args.out.now in
    let played = are_played c.args.schedule.now events c.requires.schedule c.as_slice-events.ensures in
    let run1 : Run = record {
      nodes = c.in_ok-run.run'.nodes;
      seats = c.in_ok-run.run'.seats;
      draws = c.in_ok-run.run'.draws;
      ledger =
          record {
            transcript =
                record {
                  alloc = c.in_ok-run.run'.ledger.transcript.alloc;
                  scribe = c.in_ok-run.run'.ledger.transcript.scribe;
                  page = c.hand_out.new.self;
                };
            plan = c.in_ok-run.run'.ledger.plan;
          };
    } in
    let stands1 : RunStands p (begin p) [] 1 run1 c.deref_mut.result.now =
    subst (RunStands p (begin p) [] 1 run1) (sym c.deref_mut.ensures.value)
    (paged p (begin p) [] 1 c.in_ok-run.run' run1 c.start.new.disks.items
    (record { nodes = refl; seats = refl; draws = refl; scribe = refl }) c.in_ok-run.ensures.stands) in
    let out : Appends before (g.W.Sink.taken c.hand_out.new.out) (text_in p (begin p)) =
    handed c.args.page c.in_ok-run.run'.ledger.transcript.page (text_in p (begin p)) before (g.W.Sink.taken
    c.hand_out.new.out)
    c.in_ok-run.ensures.page c.requires.clear c.requires.fit
    c.in_ok-hand_out.ensures.whole.0 in
    let ended : Ended p c.answer_all.new.run c.answer_all.new.disks before (g.W.Sink.taken c.answer_all.new.out) =
    all_answered p run1 c.answer_all.new.run c.deref_mut.result.now c.answer_all.new.disks (map event_of events)
    (length events) before
    (g.W.Sink.taken c.hand_out.new.out) (g.W.Sink.taken c.answer_all.new.out)
    played (sym (length-map events event_of)) stands1 out (c.in_ok-answer_all.ensures.whole s) in
    on_err _ _
    (front_last p c.answer_all.new.run c.answer_all.new.disks before (g.W.Sink.taken c.answer_all.new.out) ended)

pub returns-in_err-hand_out-2-clause-front : goal.returns-in_err-hand_out-2-clause-front
returns-in_err-hand_out-2-clause-front g c = λ s.
    let p = sched.schedule_of c.args.schedule.now in
    let events = c.as_slice-events.result.now in
    let before = g.W.Sink.taken c.args.out.now in
    let played = are_played c.args.schedule.now events c.requires.schedule c.as_slice-events.ensures in
    let run1 : Run = record {
      nodes = c.in_ok-run.run'.nodes;
      seats = c.in_ok-run.run'.seats;
      draws = c.in_ok-run.run'.draws;
      ledger =
          record {
            transcript =
                record {
                  alloc = c.in_ok-run.run'.ledger.transcript.alloc;
                  scribe = c.in_ok-run.run'.ledger.transcript.scribe;
                  page = c.hand_out.new.self;
                };
            plan = c.in_ok-run.run'.ledger.plan;
          };
    } in
    let stands1 : RunStands p (begin p) [] 1 run1 c.deref_mut.result.now =
    subst (RunStands p (begin p) [] 1 run1) (sym c.deref_mut.ensures.value)
    (paged p (begin p) [] 1 c.in_ok-run.run' run1 c.start.new.disks.items
    (record { nodes = refl; seats = refl; draws = refl; scribe = refl }) c.in_ok-run.ensures.stands) in
    let out : Appends before (g.W.Sink.taken c.hand_out.new.out) (text_in p (begin p)) =
    handed c.args.page c.in_ok-run.run'.ledger.transcript.page (text_in p (begin p)) before (g.W.Sink.taken
    c.hand_out.new.out)
    c.in_ok-run.ensures.page c.requires.clear c.requires.fit
    c.in_ok-hand_out.ensures.whole.0 in
    let ended : Ended p c.answer_all.new.run c.answer_all.new.disks before (g.W.Sink.taken c.answer_all.new.out) =
    all_answered p run1 c.answer_all.new.run c.deref_mut.result.now c.answer_all.new.disks (map event_of events)
    (length events) before
    (g.W.Sink.taken c.hand_out.new.out) (g.W.Sink.taken c.answer_all.new.out)
    played (sym (length-map events event_of)) stands1 out (c.in_ok-answer_all.ensures.whole s) in
    let summed_up : last_line c.of-summary.result ≡ last p =
    sums_up p c.answer_all.new.run c.answer_all.new.disks before (g.W.Sink.taken c.answer_all.new.out)
    c.of-summary.result (length events) ended
    (sym (length-map events event_of) ∙ ap (λ (es : List Event). length es) played.events_are) c.of-summary.ensures in
    let known = stations (schedule_of p) in
    let shown : c.print.new.self ≡ append_known c.answer_all.new.run.ledger.transcript.page (text_in p (last p ∷ [])) =
    c.in_ok-print.ensures ∙ ap (append_known c.answer_all.new.run.ledger.transcript.page)
    (last_text known c.line.result (last_line c.of-summary.result) (last p) (c.line.ensures known) summed_up) in
    on_err _ _
    (front_end p c.answer_all.new.run c.answer_all.new.disks before (g.W.Sink.taken c.answer_all.new.out)
    (g.W.Sink.taken c.hand_out-2.new.out)
    ended (handed_front c.answer_all.new.run.ledger.transcript.page c.print.new.self (text_in p (last p ∷ []))
    (g.W.Sink.taken c.answer_all.new.out) (g.W.Sink.taken c.hand_out-2.new.out) shown
    c.in_ok-answer_all.ensures.clear c.in_err-hand_out-2.ensures.front.0))

pub returns-clause-whole : goal.returns-clause-whole
returns-clause-whole g c = λ s.
    let p = sched.schedule_of c.args.schedule.now in
    let events = c.as_slice-events.result.now in
    let before = g.W.Sink.taken c.args.out.now in
    let played = are_played c.args.schedule.now events c.requires.schedule c.as_slice-events.ensures in
    let run1 : Run = record {
      nodes = c.in_ok-run.run'.nodes;
      seats = c.in_ok-run.run'.seats;
      draws = c.in_ok-run.run'.draws;
      ledger =
          record {
            transcript =
                record {
                  alloc = c.in_ok-run.run'.ledger.transcript.alloc;
                  scribe = c.in_ok-run.run'.ledger.transcript.scribe;
                  page = c.hand_out.new.self;
                };
            plan = c.in_ok-run.run'.ledger.plan;
          };
    } in
    let stands1 : RunStands p (begin p) [] 1 run1 c.deref_mut.result.now =
    subst (RunStands p (begin p) [] 1 run1) (sym c.deref_mut.ensures.value)
    (paged p (begin p) [] 1 c.in_ok-run.run' run1 c.start.new.disks.items
    (record { nodes = refl; seats = refl; draws = refl; scribe = refl }) c.in_ok-run.ensures.stands) in
    let out : Appends before (g.W.Sink.taken c.hand_out.new.out) (text_in p (begin p)) =
    handed c.args.page c.in_ok-run.run'.ledger.transcript.page (text_in p (begin p)) before (g.W.Sink.taken
    c.hand_out.new.out)
    c.in_ok-run.ensures.page c.requires.clear c.requires.fit
    c.in_ok-hand_out.ensures.whole.0 in
    let ended : Ended p c.answer_all.new.run c.answer_all.new.disks before (g.W.Sink.taken c.answer_all.new.out) =
    all_answered p run1 c.answer_all.new.run c.deref_mut.result.now c.answer_all.new.disks (map event_of events)
    (length events) before
    (g.W.Sink.taken c.hand_out.new.out) (g.W.Sink.taken c.answer_all.new.out)
    played (sym (length-map events event_of)) stands1 out (c.in_ok-answer_all.ensures.whole s) in
    let summed_up : last_line c.of-summary.result ≡ last p =
    sums_up p c.answer_all.new.run c.answer_all.new.disks before (g.W.Sink.taken c.answer_all.new.out)
    c.of-summary.result (length events) ended
    (sym (length-map events event_of) ∙ ap (λ (es : List Event). length es) played.events_are) c.of-summary.ensures in
    let known = stations (schedule_of p) in
    let shown : c.print.new.self ≡ append_known c.answer_all.new.run.ledger.transcript.page (text_in p (last p ∷ [])) =
    c.in_ok-print.ensures ∙ ap (append_known c.answer_all.new.run.ledger.transcript.page)
    (last_text known c.line.result (last_line c.of-summary.result) (last p) (c.line.ensures known) summed_up) in
    whole_run p c.answer_all.new.run c.answer_all.new.disks before (g.W.Sink.taken c.answer_all.new.out)
    (g.W.Sink.taken c.hand_out-2.new.out)
    ended (handed c.answer_all.new.run.ledger.transcript.page c.print.new.self (text_in p (last p ∷ []))
    (g.W.Sink.taken c.answer_all.new.out) (g.W.Sink.taken c.hand_out-2.new.out) shown
    c.in_ok-answer_all.ensures.clear ended.page c.in_ok-hand_out-2.ensures.whole.0)

pub returns-clause-summary : goal.returns-clause-summary
returns-clause-summary g c = λ s.
    let p = sched.schedule_of c.args.schedule.now in
    let events = c.as_slice-events.result.now in
    let before = g.W.Sink.taken c.args.out.now in
    let played = are_played c.args.schedule.now events c.requires.schedule c.as_slice-events.ensures in
    let run1 : Run = record {
      nodes = c.in_ok-run.run'.nodes;
      seats = c.in_ok-run.run'.seats;
      draws = c.in_ok-run.run'.draws;
      ledger =
          record {
            transcript =
                record {
                  alloc = c.in_ok-run.run'.ledger.transcript.alloc;
                  scribe = c.in_ok-run.run'.ledger.transcript.scribe;
                  page = c.hand_out.new.self;
                };
            plan = c.in_ok-run.run'.ledger.plan;
          };
    } in
    let stands1 : RunStands p (begin p) [] 1 run1 c.deref_mut.result.now =
    subst (RunStands p (begin p) [] 1 run1) (sym c.deref_mut.ensures.value)
    (paged p (begin p) [] 1 c.in_ok-run.run' run1 c.start.new.disks.items
    (record { nodes = refl; seats = refl; draws = refl; scribe = refl }) c.in_ok-run.ensures.stands) in
    let out : Appends before (g.W.Sink.taken c.hand_out.new.out) (text_in p (begin p)) =
    handed c.args.page c.in_ok-run.run'.ledger.transcript.page (text_in p (begin p)) before (g.W.Sink.taken
    c.hand_out.new.out)
    c.in_ok-run.ensures.page c.requires.clear c.requires.fit
    c.in_ok-hand_out.ensures.whole.0 in
    let ended : Ended p c.answer_all.new.run c.answer_all.new.disks before (g.W.Sink.taken c.answer_all.new.out) =
    all_answered p run1 c.answer_all.new.run c.deref_mut.result.now c.answer_all.new.disks (map event_of events)
    (length events) before
    (g.W.Sink.taken c.hand_out.new.out) (g.W.Sink.taken c.answer_all.new.out)
    played (sym (length-map events event_of)) stands1 out (c.in_ok-answer_all.ensures.whole s) in
    let summed_up : last_line c.of-summary.result ≡ last p =
    sums_up p c.answer_all.new.run c.answer_all.new.disks before (g.W.Sink.taken c.answer_all.new.out)
    c.of-summary.result (length events) ended
    (sym (length-map events event_of) ∙ ap (λ (es : List Event). length es) played.events_are) c.of-summary.ensures in
    summed p c.of-summary.result summed_up

pub returns-clause-disks : goal.returns-clause-disks
returns-clause-disks g c = λ s.
    let p = sched.schedule_of c.args.schedule.now in
    let events = c.as_slice-events.result.now in
    let before = g.W.Sink.taken c.args.out.now in
    let played = are_played c.args.schedule.now events c.requires.schedule c.as_slice-events.ensures in
    let run1 : Run = record {
      nodes = c.in_ok-run.run'.nodes;
      seats = c.in_ok-run.run'.seats;
      draws = c.in_ok-run.run'.draws;
      ledger =
          record {
            transcript =
                record {
                  alloc = c.in_ok-run.run'.ledger.transcript.alloc;
                  scribe = c.in_ok-run.run'.ledger.transcript.scribe;
                  page = c.hand_out.new.self;
                };
            plan = c.in_ok-run.run'.ledger.plan;
          };
    } in
    let stands1 : RunStands p (begin p) [] 1 run1 c.deref_mut.result.now =
    subst (RunStands p (begin p) [] 1 run1) (sym c.deref_mut.ensures.value)
    (paged p (begin p) [] 1 c.in_ok-run.run' run1 c.start.new.disks.items
    (record { nodes = refl; seats = refl; draws = refl; scribe = refl }) c.in_ok-run.ensures.stands) in
    let out : Appends before (g.W.Sink.taken c.hand_out.new.out) (text_in p (begin p)) =
    handed c.args.page c.in_ok-run.run'.ledger.transcript.page (text_in p (begin p)) before (g.W.Sink.taken
    c.hand_out.new.out)
    c.in_ok-run.ensures.page c.requires.clear c.requires.fit
    c.in_ok-hand_out.ensures.whole.0 in
    let ended : Ended p c.answer_all.new.run c.answer_all.new.disks before (g.W.Sink.taken c.answer_all.new.out) =
    all_answered p run1 c.answer_all.new.run c.deref_mut.result.now c.answer_all.new.disks (map event_of events)
    (length events) before
    (g.W.Sink.taken c.hand_out.new.out) (g.W.Sink.taken c.answer_all.new.out)
    played (sym (length-map events event_of)) stands1 out (c.in_ok-answer_all.ensures.whole s) in
    subst (WerePlayed p)
    (sym (disks_kept c.start.new.disks.len c.answer_all.new.disks c.start.new.disks.items
    (c.answer_all.auto.disks ∙ c.deref_mut.ensures.len)))
    (played_disks p c.answer_all.new.run c.answer_all.new.disks before (g.W.Sink.taken c.answer_all.new.out) ended
    (all_made p run1 c.deref_mut.result.now c.answer_all.new.disks (map event_of events) (length events) played
    (sym (length-map events event_of)) stands1
    (subst (AllByRecursion (λ (m : Medium). m.calls ≡ 6)) (sym c.deref_mut.ensures.value) c.in_ok-run.ensures.calls)
    (c.in_ok-answer_all.ensures.calls s)))

pub returns-clause-asked : goal.returns-clause-asked
returns-clause-asked g c =
    let p = sched.schedule_of c.args.schedule.now in
    let played = are_played c.args.schedule.now c.as_slice-events.result.now c.requires.schedule
    c.as_slice-events.ensures in
    subst (λ (es : List Event). Asks (g.B.Bench.asked c.args.bench.now) (g.B.Bench.asked c.answer_all.new.bench)
    (questions (stations (schedule_of p)) 1 es)) played.events_are
    (c.in_ok-answer_all.ensures.asked (stations (schedule_of p)) c.in_ok-run.ensures.stands.seats
    (few_stations p c.requires.schedule))

-- ---- with the disks that a bench gives

pub returns-in_err-run-clause-swapped_front : goal.returns-in_err-run-clause-swapped_front
returns-in_err-run-clause-swapped_front g c =
    let p = sched.schedule_of c.args.schedule.now in
    on_err _ _ (for_gifts p (g.B.Bench.gave c.args.bench.now) _
    (λ gifts given told fits. given_nothing p gifts (g.W.Sink.taken c.args.out.now)))

pub returns-in_err-hand_out-clause-swapped_front : goal.returns-in_err-hand_out-clause-swapped_front
returns-in_err-hand_out-clause-swapped_front g c =
    let p = sched.schedule_of c.args.schedule.now in
    on_err _ _ (for_gifts p (g.B.Bench.gave c.args.bench.now) _ (λ gifts given told fits.
    given_start p gifts (g.W.Sink.taken c.args.out.now) (g.W.Sink.taken c.hand_out.new.out)
    (handed_front c.args.page c.in_ok-run.run'.ledger.transcript.page (text_in p (begin p)) (g.W.Sink.taken
    c.args.out.now)
    (g.W.Sink.taken c.hand_out.new.out) c.in_ok-run.ensures.page c.requires.clear
    c.in_err-hand_out.ensures.front.0)))

pub returns-in_err-answer_all-clause-swapped_front : goal.returns-in_err-answer_all-clause-swapped_front
returns-in_err-answer_all-clause-swapped_front g c =
    let p = sched.schedule_of c.args.schedule.now in
    let events = c.as_slice-events.result.now in
    let before = g.W.Sink.taken c.args.out.now in
    let played = are_played c.args.schedule.now events c.requires.schedule c.as_slice-events.ensures in
    let run1 : Run = record {
      nodes = c.in_ok-run.run'.nodes;
      seats = c.in_ok-run.run'.seats;
      draws = c.in_ok-run.run'.draws;
      ledger =
          record {
            transcript =
                record {
                  alloc = c.in_ok-run.run'.ledger.transcript.alloc;
                  scribe = c.in_ok-run.run'.ledger.transcript.scribe;
                  page = c.hand_out.new.self;
                };
            plan = c.in_ok-run.run'.ledger.plan;
          };
    } in
    let stands1 : RunStands p (begin p) [] 1 run1 c.deref_mut.result.now =
    subst (RunStands p (begin p) [] 1 run1) (sym c.deref_mut.ensures.value)
    (paged p (begin p) [] 1 c.in_ok-run.run' run1 c.start.new.disks.items
    (record { nodes = refl; seats = refl; draws = refl; scribe = refl }) c.in_ok-run.ensures.stands) in
    let out : Appends before (g.W.Sink.taken c.hand_out.new.out) (text_in p (begin p)) =
    handed c.args.page c.in_ok-run.run'.ledger.transcript.page (text_in p (begin p)) before (g.W.Sink.taken
    c.hand_out.new.out)
    c.in_ok-run.ensures.page c.requires.clear c.requires.fit
    c.in_ok-hand_out.ensures.whole.0 in
    let gave = g.B.Bench.gave c.answer_all.new.bench in
    on_err _ _ (for_gifts p gave _ (λ gifts given told fits.
    given_part p gifts given gave run1 c.deref_mut.result.now (map event_of events) before
    (g.W.Sink.taken c.hand_out.new.out) (g.W.Sink.taken c.answer_all.new.out) told fits
    played stands1 out c.in_err-answer_all.ensures.swapped_front))

pub returns-in_err-print-clause-swapped_front : goal.returns-in_err-print-clause-swapped_front
returns-in_err-print-clause-swapped_front g c =
    let p = sched.schedule_of c.args.schedule.now in
    let events = c.as_slice-events.result.now in
    let before = g.W.Sink.taken c.args.out.now in
    let played = are_played c.args.schedule.now events c.requires.schedule c.as_slice-events.ensures in
    let run1 : Run = record {
      nodes = c.in_ok-run.run'.nodes;
      seats = c.in_ok-run.run'.seats;
      draws = c.in_ok-run.run'.draws;
      ledger =
          record {
            transcript =
                record {
                  alloc = c.in_ok-run.run'.ledger.transcript.alloc;
                  scribe = c.in_ok-run.run'.ledger.transcript.scribe;
                  page = c.hand_out.new.self;
                };
            plan = c.in_ok-run.run'.ledger.plan;
          };
    } in
    let stands1 : RunStands p (begin p) [] 1 run1 c.deref_mut.result.now =
    subst (RunStands p (begin p) [] 1 run1) (sym c.deref_mut.ensures.value)
    (paged p (begin p) [] 1 c.in_ok-run.run' run1 c.start.new.disks.items
    (record { nodes = refl; seats = refl; draws = refl; scribe = refl }) c.in_ok-run.ensures.stands) in
    let out : Appends before (g.W.Sink.taken c.hand_out.new.out) (text_in p (begin p)) =
    handed c.args.page c.in_ok-run.run'.ledger.transcript.page (text_in p (begin p)) before (g.W.Sink.taken
    c.hand_out.new.out)
    c.in_ok-run.ensures.page c.requires.clear c.requires.fit
    c.in_ok-hand_out.ensures.whole.0 in
    let gave = g.B.Bench.gave c.answer_all.new.bench in
    let ended : (gifts : ℕ → Option Stood) (given : ℕ → Option Medium) → gave ≡ Some given → AreGifts p gifts given
    → GivenEnded p gifts c.answer_all.new.run before (g.W.Sink.taken c.answer_all.new.out) = λ gifts given told fits.
    all_given p gifts given gave run1 c.answer_all.new.run c.deref_mut.result.now c.answer_all.new.disks
    (map event_of events) (length events) before
    (g.W.Sink.taken c.hand_out.new.out) (g.W.Sink.taken c.answer_all.new.out) told fits
    played (sym (length-map events event_of)) stands1 out c.in_ok-answer_all.ensures.swapped in
    on_err _ _ (for_gifts p gave _ (λ gifts given told fits.
    given_unended p gifts c.answer_all.new.run before (g.W.Sink.taken c.answer_all.new.out)
    (ended gifts given told fits)))

pub returns-in_err-hand_out-2-clause-swapped_front : goal.returns-in_err-hand_out-2-clause-swapped_front
returns-in_err-hand_out-2-clause-swapped_front g c =
    let p = sched.schedule_of c.args.schedule.now in
    let events = c.as_slice-events.result.now in
    let before = g.W.Sink.taken c.args.out.now in
    let played = are_played c.args.schedule.now events c.requires.schedule c.as_slice-events.ensures in
    let run1 : Run = record {
      nodes = c.in_ok-run.run'.nodes;
      seats = c.in_ok-run.run'.seats;
      draws = c.in_ok-run.run'.draws;
      ledger =
          record {
            transcript =
                record {
                  alloc = c.in_ok-run.run'.ledger.transcript.alloc;
                  scribe = c.in_ok-run.run'.ledger.transcript.scribe;
                  page = c.hand_out.new.self;
                };
            plan = c.in_ok-run.run'.ledger.plan;
          };
    } in
    let stands1 : RunStands p (begin p) [] 1 run1 c.deref_mut.result.now =
    subst (RunStands p (begin p) [] 1 run1) (sym c.deref_mut.ensures.value)
    (paged p (begin p) [] 1 c.in_ok-run.run' run1 c.start.new.disks.items
    (record { nodes = refl; seats = refl; draws = refl; scribe = refl }) c.in_ok-run.ensures.stands) in
    let out : Appends before (g.W.Sink.taken c.hand_out.new.out) (text_in p (begin p)) =
    handed c.args.page c.in_ok-run.run'.ledger.transcript.page (text_in p (begin p)) before (g.W.Sink.taken
    c.hand_out.new.out)
    c.in_ok-run.ensures.page c.requires.clear c.requires.fit
    c.in_ok-hand_out.ensures.whole.0 in
    let gave = g.B.Bench.gave c.answer_all.new.bench in
    let ended : (gifts : ℕ → Option Stood) (given : ℕ → Option Medium) → gave ≡ Some given → AreGifts p gifts given
    → GivenEnded p gifts c.answer_all.new.run before (g.W.Sink.taken c.answer_all.new.out) = λ gifts given told fits.
    all_given p gifts given gave run1 c.answer_all.new.run c.deref_mut.result.now c.answer_all.new.disks
    (map event_of events) (length events) before
    (g.W.Sink.taken c.hand_out.new.out) (g.W.Sink.taken c.answer_all.new.out) told fits
    played (sym (length-map events event_of)) stands1 out c.in_ok-answer_all.ensures.swapped in
    let summed_up : (gifts : ℕ → Option Stood) (given : ℕ → Option Medium) → gave ≡ Some given → AreGifts p gifts given
    → last_line c.of-summary.result ≡ given_last p gifts = λ gifts given told fits.
    sums_given p gifts c.answer_all.new.run before (g.W.Sink.taken c.answer_all.new.out)
    c.of-summary.result (length events) (ended gifts given told fits)
    (sym (length-map events event_of) ∙ ap (λ (es : List Event). length es) played.events_are) c.of-summary.ensures in
    let known = stations (schedule_of p) in
    let shown : (gifts : ℕ → Option Stood) (given : ℕ → Option Medium) → gave ≡ Some given → AreGifts p gifts given
    → c.print.new.self ≡ append_known c.answer_all.new.run.ledger.transcript.page (text_in p (given_last p gifts ∷
    [])) =
    λ gifts given told fits.
    c.in_ok-print.ensures ∙ ap (append_known c.answer_all.new.run.ledger.transcript.page)
    (last_text known c.line.result (last_line c.of-summary.result) (given_last p gifts) (c.line.ensures known)
    (summed_up gifts given told fits)) in
    on_err _ _ (for_gifts p gave _ (λ gifts given told fits.
    given_end p gifts c.answer_all.new.run before (g.W.Sink.taken c.answer_all.new.out)
    (g.W.Sink.taken c.hand_out-2.new.out) (ended gifts given told fits)
    (handed_front c.answer_all.new.run.ledger.transcript.page c.print.new.self (text_in p (given_last p gifts ∷ []))
    (g.W.Sink.taken c.answer_all.new.out) (g.W.Sink.taken c.hand_out-2.new.out) (shown gifts given told fits)
    c.in_ok-answer_all.ensures.clear c.in_err-hand_out-2.ensures.front.0)))

pub returns-clause-swapped : goal.returns-clause-swapped
returns-clause-swapped g c =
    let p = sched.schedule_of c.args.schedule.now in
    let events = c.as_slice-events.result.now in
    let before = g.W.Sink.taken c.args.out.now in
    let played = are_played c.args.schedule.now events c.requires.schedule c.as_slice-events.ensures in
    let run1 : Run = record {
      nodes = c.in_ok-run.run'.nodes;
      seats = c.in_ok-run.run'.seats;
      draws = c.in_ok-run.run'.draws;
      ledger =
          record {
            transcript =
                record {
                  alloc = c.in_ok-run.run'.ledger.transcript.alloc;
                  scribe = c.in_ok-run.run'.ledger.transcript.scribe;
                  page = c.hand_out.new.self;
                };
            plan = c.in_ok-run.run'.ledger.plan;
          };
    } in
    let stands1 : RunStands p (begin p) [] 1 run1 c.deref_mut.result.now =
    subst (RunStands p (begin p) [] 1 run1) (sym c.deref_mut.ensures.value)
    (paged p (begin p) [] 1 c.in_ok-run.run' run1 c.start.new.disks.items
    (record { nodes = refl; seats = refl; draws = refl; scribe = refl }) c.in_ok-run.ensures.stands) in
    let out : Appends before (g.W.Sink.taken c.hand_out.new.out) (text_in p (begin p)) =
    handed c.args.page c.in_ok-run.run'.ledger.transcript.page (text_in p (begin p)) before (g.W.Sink.taken
    c.hand_out.new.out)
    c.in_ok-run.ensures.page c.requires.clear c.requires.fit
    c.in_ok-hand_out.ensures.whole.0 in
    let gave = g.B.Bench.gave c.answer_all.new.bench in
    let ended : (gifts : ℕ → Option Stood) (given : ℕ → Option Medium) → gave ≡ Some given → AreGifts p gifts given
    → GivenEnded p gifts c.answer_all.new.run before (g.W.Sink.taken c.answer_all.new.out) = λ gifts given told fits.
    all_given p gifts given gave run1 c.answer_all.new.run c.deref_mut.result.now c.answer_all.new.disks
    (map event_of events) (length events) before
    (g.W.Sink.taken c.hand_out.new.out) (g.W.Sink.taken c.answer_all.new.out) told fits
    played (sym (length-map events event_of)) stands1 out c.in_ok-answer_all.ensures.swapped in
    let summed_up : (gifts : ℕ → Option Stood) (given : ℕ → Option Medium) → gave ≡ Some given → AreGifts p gifts given
    → last_line c.of-summary.result ≡ given_last p gifts = λ gifts given told fits.
    sums_given p gifts c.answer_all.new.run before (g.W.Sink.taken c.answer_all.new.out)
    c.of-summary.result (length events) (ended gifts given told fits)
    (sym (length-map events event_of) ∙ ap (λ (es : List Event). length es) played.events_are) c.of-summary.ensures in
    let known = stations (schedule_of p) in
    let shown : (gifts : ℕ → Option Stood) (given : ℕ → Option Medium) → gave ≡ Some given → AreGifts p gifts given
    → c.print.new.self ≡ append_known c.answer_all.new.run.ledger.transcript.page (text_in p (given_last p gifts ∷
    [])) =
    λ gifts given told fits.
    c.in_ok-print.ensures ∙ ap (append_known c.answer_all.new.run.ledger.transcript.page)
    (last_text known c.line.result (last_line c.of-summary.result) (given_last p gifts) (c.line.ensures known)
    (summed_up gifts given told fits)) in
    for_gifts p gave _ (λ gifts given told fits.
    given_whole p gifts c.answer_all.new.run before (g.W.Sink.taken c.answer_all.new.out)
    (g.W.Sink.taken c.hand_out-2.new.out) (ended gifts given told fits)
    (handed c.answer_all.new.run.ledger.transcript.page c.print.new.self (text_in p (given_last p gifts ∷ []))
    (g.W.Sink.taken c.answer_all.new.out) (g.W.Sink.taken c.hand_out-2.new.out) (shown gifts given told fits)
    c.in_ok-answer_all.ensures.clear (ended gifts given told fits).page c.in_ok-hand_out-2.ensures.whole.0))

pub returns-clause-swapped_summary : goal.returns-clause-swapped_summary
returns-clause-swapped_summary g c =
    let p = sched.schedule_of c.args.schedule.now in
    let events = c.as_slice-events.result.now in
    let before = g.W.Sink.taken c.args.out.now in
    let played = are_played c.args.schedule.now events c.requires.schedule c.as_slice-events.ensures in
    let run1 : Run = record {
      nodes = c.in_ok-run.run'.nodes;
      seats = c.in_ok-run.run'.seats;
      draws = c.in_ok-run.run'.draws;
      ledger =
          record {
            transcript =
                record {
                  alloc = c.in_ok-run.run'.ledger.transcript.alloc;
                  scribe = c.in_ok-run.run'.ledger.transcript.scribe;
                  page = c.hand_out.new.self;
                };
            plan = c.in_ok-run.run'.ledger.plan;
          };
    } in
    let stands1 : RunStands p (begin p) [] 1 run1 c.deref_mut.result.now =
    subst (RunStands p (begin p) [] 1 run1) (sym c.deref_mut.ensures.value)
    (paged p (begin p) [] 1 c.in_ok-run.run' run1 c.start.new.disks.items
    (record { nodes = refl; seats = refl; draws = refl; scribe = refl }) c.in_ok-run.ensures.stands) in
    let out : Appends before (g.W.Sink.taken c.hand_out.new.out) (text_in p (begin p)) =
    handed c.args.page c.in_ok-run.run'.ledger.transcript.page (text_in p (begin p)) before (g.W.Sink.taken
    c.hand_out.new.out)
    c.in_ok-run.ensures.page c.requires.clear c.requires.fit
    c.in_ok-hand_out.ensures.whole.0 in
    let gave = g.B.Bench.gave c.answer_all.new.bench in
    let ended : (gifts : ℕ → Option Stood) (given : ℕ → Option Medium) → gave ≡ Some given → AreGifts p gifts given
    → GivenEnded p gifts c.answer_all.new.run before (g.W.Sink.taken c.answer_all.new.out) = λ gifts given told fits.
    all_given p gifts given gave run1 c.answer_all.new.run c.deref_mut.result.now c.answer_all.new.disks
    (map event_of events) (length events) before
    (g.W.Sink.taken c.hand_out.new.out) (g.W.Sink.taken c.answer_all.new.out) told fits
    played (sym (length-map events event_of)) stands1 out c.in_ok-answer_all.ensures.swapped in
    let summed_up : (gifts : ℕ → Option Stood) (given : ℕ → Option Medium) → gave ≡ Some given → AreGifts p gifts given
    → last_line c.of-summary.result ≡ given_last p gifts = λ gifts given told fits.
    sums_given p gifts c.answer_all.new.run before (g.W.Sink.taken c.answer_all.new.out)
    c.of-summary.result (length events) (ended gifts given told fits)
    (sym (length-map events event_of) ∙ ap (λ (es : List Event). length es) played.events_are) c.of-summary.ensures in
    for_gifts p gave _ (λ gifts given told fits.
    summed_given p gifts c.of-summary.result (summed_up gifts given told fits))
