use Rattle.std.proofs.Common.{◌≡◌, Ok, Option, is_some, Bool, true, refl, sym, ◌∙◌, ap, subst}
use Rattle.zb_disk.specs.Memory.{Medium, is_stopped, will_refuse, memory_tells, memory_view}
use Rattle.zb_store.specs.Layout.{stands}
use Rattle.zb_store.specs.Steps.{WentThrough, WasAsked}
use Rattle.zb_store.specs.Store.{Place, AllWhole, OpenStop, open_calls}
use Rattle.zb_host.specs.HostFaults.{IsBootFault}
use Rattle.zb_host.specs.Calls.{IsBooted}
use Rattle.zb_armed_host.specs.Arms.{armed_of, fired_seen}
use Rattle.zb_armed_host.specs.Driven.{memory_words, WasBooted, HasEnded, HasFallenAtBoot, fall_seen}
use Rattle.zb_armed_host.specs.declared.fall.Fallen.{Fallen}
use Rattle.zb_armed_host.proofs.Armings.{on}
use Rattle.zb_armed_host.proofs.Boots.{armed_stands, all_whole, was_booted, has_fallen_at_boot, fault_of, lacked}
use Rattle.zb_armed_host.proofs.Ended.{has_ended}
use Rattle.zb_armed_host.proofs.boot.boot_armed.Goals as goal

pub returns-in-Ok-clause-core : goal.returns-in-Ok-clause-core
returns-in-Ok-clause-core g c = λ s w down.
    let a = armed_of c.args.arms.now in
    let old = c.args.disk.now in
    let is = c.arm.ensures.armed (on old down.rest.unarmed) in
    c.in-Ok.ensures.core refl s (ap (λ (x : Medium). stands x.bytes) is ∙ armed_stands s a old down.rest)

pub returns-in-Ok-clause-booted : goal.returns-in-Ok-clause-booted
returns-in-Ok-clause-booted g c = λ s w down.
    let words = memory_words g.C.Core.restored g.C.Core.recorded g.C.Core.payload in
    let a = armed_of c.args.arms.now in
    let old = c.args.disk.now in
    let m = c.boot.new.disk in
    let host = c.in-Ok.host in
    let is = c.arm.ensures.armed (on old down.rest.unarmed) in
    subst (λ (x : Medium). WasBooted words s w a old host x) (sym c.disarm.ensures.disarmed)
    (was_booted g.C.Core.restored g.C.Core.recorded g.C.Core.payload s w a host old m down
    (subst (λ (x : Medium). IsBooted words x (Ok host) m) is c.in-Ok.ensures.step)
    (subst (λ (x : Medium). WentThrough memory_tells (open_calls x.bytes) (memory_view x) (memory_view m)) is
    (c.in-Ok.ensures.through refl)))

pub returns-in-Err-clause-fallen : goal.returns-in-Err-clause-fallen
returns-in-Err-clause-fallen g c = λ fallen cause s w down.
    let words = memory_words g.C.Core.restored g.C.Core.recorded g.C.Core.payload in
    let a = armed_of c.args.arms.now in
    let old = c.args.disk.now in
    let m = c.boot.new.disk in
    let fault = c.in-Err.fault in
    let is = c.arm.ensures.armed (on old down.rest.unarmed) in
    let there = ap (λ (x : Medium). stands x.bytes) is ∙ armed_stands s a old down.rest in
    subst (λ (x : Medium). HasFallenAtBoot s a old fallen x) (sym c.recover-fallen.ensures.disk)
    (has_fallen_at_boot words s w a old m fault c.recover-fallen.result fallen down
    (subst (λ (x : Medium). IsBootFault memory_tells g.C.Core.restored (memory_view x) (memory_view m) fault) is
    c.in-Err.ensures.step.faults)
    (λ of_disk. subst (λ (x : Medium). OpenStop memory_tells s (memory_view x) (memory_view m)) is
    (c.in-Err.ensures.stopped of_disk
    (subst (λ (x : Medium). AllWhole (memory_view x)) (sym is) (all_whole s a old down.rest)) refl refl s there))
    (c.recover-fallen.ensures.fall ∙ ap (λ (b : Bool). fall_seen b (is_stopped m.arming)) c.is_off-was_off.ensures)
    (c.recover-fallen.ensures.fired ∙ ap (λ (b : Bool). fired_seen a b (is_stopped m.arming) (will_refuse m.arming))
    c.is_off-was_off.ensures) c.recover-fallen.ensures.only (sym c.cause_of.ensures ∙ cause))

pub returns-in-Err-clause-ended : goal.returns-in-Err-clause-ended
returns-in-Err-clause-ended g c = λ fallen cause.
    let a = armed_of c.args.arms.now in
    let old = c.args.disk.now in
    let m = c.boot.new.disk in
    let seen = c.recover-fallen.result in
    let same : fallen ≡ seen = sym (fault_of seen fallen c.in-Err.fault (sym c.cause_of.ensures ∙ cause)) in
    subst (λ (x : Fallen). HasEnded a old x c.recover-fallen.new.disk) (sym same)
    (subst (λ (x : Medium). HasEnded a old seen x) (sym c.recover-fallen.ensures.disk)
    (has_ended a old m seen
    (subst (λ (x : Medium). WasAsked memory_tells (memory_view x) (memory_view m)) c.arm.ensures.any
    c.in-Err.ensures.asked)
    (c.recover-fallen.ensures.fall ∙ ap (λ (b : Bool). fall_seen b (is_stopped m.arming)) c.is_off-was_off.ensures)
    (c.recover-fallen.ensures.fired ∙ ap (λ (b : Bool). fired_seen a b (is_stopped m.arming) (will_refuse m.arming))
    c.is_off-was_off.ensures)))

pub returns-in-Err-clause-lacks : goal.returns-in-Err-clause-lacks
returns-in-Err-clause-lacks g c = λ lack.
    let fault = c.in-Err.fault in
    let booted = lacked g.C.Core.restored (memory_view c.arm.new.disk) (memory_view c.boot.new.disk) fault
    c.recover-fallen.result (sym c.cause_of.ensures ∙ lack) c.in-Err.ensures.step.faults in
    c.recover-fallen.ensures.faults ∙ booted ∙ c.arm.ensures.faults

pub returns-in-Ok-clause-up : goal.returns-in-Ok-clause-up
returns-in-Ok-clause-up g c = subst (λ (o : Option Place). is_some o ≡ true)
    (sym (c.in-Ok.ensures.step.answer refl).3) refl
