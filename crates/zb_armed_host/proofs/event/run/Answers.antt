use Rattle.std.proofs.Common.{Bool, refl, sym, ◌∙◌, ap, subst}
use Rattle.zb_disk.specs.Memory.{Medium, is_stopped, will_refuse, memory_tells, memory_view}
use Rattle.zb_store.specs.Steps.{WentThrough, WasAsked}
use Rattle.zb_host.specs.HostFaults.{IsUnstored}
use Rattle.zb_host.specs.Hosts.{IsCurrent, writes_whole, commit_calls, HasStopped}
use Rattle.zb_armed_host.specs.Arms.{armed_of, fired_seen}
use Rattle.zb_armed_host.specs.Driven.{memory_words, WasHandled, HasEnded, HasFallen, fall_seen}
use Rattle.zb_armed_host.proofs.Armings.{on, armed_current}
use Rattle.zb_armed_host.proofs.Events.{was_handled, fallen_by, err_is}
use Rattle.zb_armed_host.proofs.Ended.{has_ended}
use Rattle.zb_armed_host.proofs.event.run.Goals as goal

pub returns-in-Ok-clause-handled : goal.returns-in-Ok-clause-handled
returns-in-Ok-clause-handled g c = λ s up.
    let words = memory_words g.C.Core.restored g.C.Core.recorded g.C.Core.payload in
    let a = armed_of c.args.arms.now in
    let old = c.args.disk.now in
    let before = c.args.host.now in
    let after = c.handle_into.new.self in
    let m = c.handle_into.new.disk in
    let items = c.handle_into.new.plan.changes.items in
    let is = c.arm.ensures.armed (on old up.unarmed) in
    let current = subst (λ (x : Medium). IsCurrent g.C.Core.restored g.C.Core.recorded s before (memory_view x))
    (sym is) (armed_current g.C.Core.restored g.C.Core.recorded s before a old up.current) in
    subst (λ (x : Medium). WasHandled words s a before old items after x) (sym c.disarm.ensures.disarmed)
    (was_handled words s a before after old m items up (λ some. c.in-Ok.ensures.step.kept some s current refl)
    (λ none. c.in-Ok.ensures.step.idle_kept none s current)
    (λ some. subst
    (λ (x : Medium). WentThrough memory_tells (commit_calls (writes_whole before)) (memory_view x)
    (memory_view m)) is (c.in-Ok.ensures.through some))
    (λ none. c.in-Ok.ensures.idle none ∙ is) c.in-Ok.ensures.entry_next c.in-Ok.ensures.idle_whole)

pub returns-in-Err-clause-fallen : goal.returns-in-Err-clause-fallen
returns-in-Err-clause-fallen g c = λ s up.
    let words = memory_words g.C.Core.restored g.C.Core.recorded g.C.Core.payload in
    let a = armed_of c.args.arms.now in
    let old = c.args.disk.now in
    let before = c.args.host.now in
    let after = c.handle_into.new.self in
    let m = c.handle_into.new.disk in
    let items = c.handle_into.new.plan.changes.items in
    let is = c.arm.ensures.armed (on old up.unarmed) in
    let current = subst (λ (x : Medium). IsCurrent g.C.Core.restored g.C.Core.recorded s before (memory_view x))
    (sym is) (armed_current g.C.Core.restored g.C.Core.recorded s before a old up.current) in
    subst (λ (x : Medium). HasFallen words s a before old items c.recover-fallen.result after x)
    (sym c.recover-fallen.ensures.disk)
    (fallen_by words s a before after old m c.in-Err.field-0 items c.recover-fallen.result up
    (subst (λ (x : Medium). IsUnstored (writes_whole before) before.store (memory_view x) (memory_view m)
    c.in-Err.field-0) is c.in-Err.ensures.faults) c.in-Err.ensures.changed
    (λ disk. subst
    (λ (x : Medium). HasStopped memory_tells g.C.Core.restored (writes_whole before) s
    (g.C.Core.recorded after.core) (g.C.Core.payload items) (memory_view x) (memory_view m)) is
    (c.in-Err.ensures.stopped (err_is disk) s current refl refl))
    (c.recover-fallen.ensures.fall ∙ ap (λ (b : Bool). fall_seen b (is_stopped m.arming)) c.is_off-was_off.ensures)
    (c.recover-fallen.ensures.fired ∙ ap (λ (b : Bool). fired_seen a b (is_stopped m.arming) (will_refuse m.arming))
    c.is_off-was_off.ensures) c.recover-fallen.ensures.only)

pub returns-in-Err-clause-ended : goal.returns-in-Err-clause-ended
returns-in-Err-clause-ended g c =
    let a = armed_of c.args.arms.now in
    let old = c.args.disk.now in
    let m = c.handle_into.new.disk in
    subst (λ (x : Medium). HasEnded a old c.recover-fallen.result x) (sym c.recover-fallen.ensures.disk)
    (has_ended a old m c.recover-fallen.result
    (subst (λ (x : Medium). WasAsked memory_tells (memory_view x) (memory_view m)) c.arm.ensures.any
    c.in-Err.ensures.asked)
    (c.recover-fallen.ensures.fall ∙ ap (λ (b : Bool). fall_seen b (is_stopped m.arming)) c.is_off-was_off.ensures)
    (c.recover-fallen.ensures.fired ∙ ap (λ (b : Bool). fired_seen a b (is_stopped m.arming) (will_refuse m.arming))
    c.is_off-was_off.ensures))

pub returns-in-Err-clause-down : goal.returns-in-Err-clause-down
returns-in-Err-clause-down g c = c.in-Err.ensures.step.down
