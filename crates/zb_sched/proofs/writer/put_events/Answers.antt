use Rattle.std.proofs.Common.{◌++◌, ◌+◌, ◌∙◌, take, map, ap, sym}
use Rattle.zb_sched_line.specs.declared.event.Event.{Event}
use Rattle.zb_sched_line.specs.Views.{event_of}
use Rattle.zb_text.specs.Pages.{page, ended}
use Rattle.zb_sched.specs.Printed.{event_line}
use Rattle.zb_sched.proofs.PageLemmas.{map_more, so_far}
use Rattle.zb_sched.proofs.writer.put_events.Goals as goal

pub loop-event-preserved : goal.loop-event-preserved
loop-event-preserved c =
    so_far c.args.out.now.items c.loop-event.out.items c.put_event.new.out.items
    (page (map (λ (x : Event). event_line (event_of x)) (take c.loop-event.event-index c.args.events.now)))
    (ended (event_line (event_of c.event-item.result)))
    (page (map (λ (x : Event). event_line (event_of x)) (take (c.loop-event.event-index + 1) c.args.events.now)))
    c.loop-event.invariant c.in_ok-put_event.ensures
    (map_more (λ (x : Event). event_line (event_of x)) c.args.events.now c.loop-event.event-index c.event-item.result
    c.loop-event-test.true
    ∙ ap (λ (x : Event). page
    (map (λ (x : Event). event_line (event_of x)) (take c.loop-event.event-index c.args.events.now))
    ++ ended (event_line (event_of x))) (sym c.event-item.is))
