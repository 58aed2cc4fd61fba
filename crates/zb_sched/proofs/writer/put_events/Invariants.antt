use Rattle.std.proofs.Common.{◌≡◌, ◌++◌, take, map}
use Rattle.zb_sched_line.specs.declared.event.Event.{Event}
use Rattle.zb_sched_line.specs.Views.{event_of}
use Rattle.zb_text.specs.Pages.{page}
use Rattle.zb_sched.specs.Printed.{event_line}
use Rattle.zb_sched.proofs.writer.put_events.Given as goal

abbrev pub invariant-loop-event : goal.invariant-loop-event
invariant-loop-event l = l.out.items ≡ l.initial.out.items
    ++ page (map (λ (x : Event). event_line (event_of x)) (take l.event-index l.events))
