use Rattle.std.proofs.Common.{◌≡◌, ◌≤◌, true, false, Ok, Err, sym, ◌∙◌, ap, subst}
use Rattle.zb_base.specs.declared.fault.Failed.{Failed}
use Rattle.zb_disk.specs.Calls.{IsSync}
use Rattle.zb_disk.specs.Memory.{Medium, refuses, synced, memory_tells, memory_view}
use Rattle.zb_disk.proofs.Calls.{sync_ok, sync_err}
use Rattle.zb_disk.proofs.memory.MemDiskDisk.sync.Goals as goal

pub returns-then-refuses_call-clause-sync : goal.returns-then-refuses_call-clause-sync
returns-then-refuses_call-clause-sync c =
    let m = c.args.self.now in
    let after = c.refuses_call.ensures.after in
    let refused : refuses m.arming 0 ≡ true = sym c.refuses_call.ensures.refused ∙ c.if-refuses_call.true in
    let later = subst (λ (n : Medium). m.faults ≤ n.faults) after c.refuses_call.ensures.later in
    subst (λ (n : Medium). IsSync {T = Unit {0}} {E = Failed} memory_tells (memory_view m) (memory_view n)
    (Err (record {}))) (sym after) (sync_err m (record {}) refused later)

pub returns-clause-sync : goal.returns-clause-sync
returns-clause-sync c =
    let m = c.args.self.now in
    let after = c.refuses_call.ensures.after in
    let goes : refuses m.arming 0 ≡ false = sym c.refuses_call.ensures.refused ∙ c.if-refuses_call.false in
    let later = subst (λ (n : Medium). m.faults ≤ n.faults) after c.refuses_call.ensures.later in
    let is = c.settle.ensures ∙ ap synced after in
    subst (λ (n : Medium). IsSync {T = Unit {0}} {E = Failed} memory_tells (memory_view m) (memory_view n) (Ok tt))
    (sym is) (sync_ok m goes later)
