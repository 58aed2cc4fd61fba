use Rattle.std.proofs.Common.{◌≡◌, ◌≤◌, true, false, Ok, Err, sym, ◌∙◌, ap, subst}
use Rattle.zb_base.specs.declared.fault.Failed.{Failed}
use Rattle.zb_disk.specs.Calls.{IsWrite}
use Rattle.zb_disk.specs.Memory.{Medium, refuses, stored, memory_tells, memory_view}
use Rattle.zb_disk.proofs.Calls.{write_ok, write_err}
use Rattle.zb_disk.proofs.memory.MemDiskDisk.write.Goals as goal

pub returns-then-refuses_call-clause-write : goal.returns-then-refuses_call-clause-write
returns-then-refuses_call-clause-write c =
    let m = c.args.self.now in
    let after = c.refuses_call.ensures.after in
    let refused : refuses m.arming 0 ≡ true = sym c.refuses_call.ensures.refused ∙ c.if-refuses_call.true in
    let later = subst (λ (n : Medium). m.faults ≤ n.faults) after c.refuses_call.ensures.later in
    subst (λ (n : Medium). IsWrite {T = Unit {0}} {E = Failed} memory_tells c.args.at c.args.bytes.now (memory_view m)
    (memory_view n) (Err (record {}))) (sym after)
    (write_err m c.args.at c.args.bytes.now (record {}) refused later)

pub returns-clause-write : goal.returns-clause-write
returns-clause-write c =
    let m = c.args.self.now in
    let after = c.refuses_call.ensures.after in
    let goes : refuses m.arming 0 ≡ false = sym c.refuses_call.ensures.refused ∙ c.if-refuses_call.false in
    let later = subst (λ (n : Medium). m.faults ≤ n.faults) after c.refuses_call.ensures.later in
    let is = c.store.ensures ∙ ap (λ (n : Medium). stored n c.args.at c.args.bytes.now) after in
    subst (λ (n : Medium). IsWrite {T = Unit {0}} {E = Failed} memory_tells c.args.at c.args.bytes.now (memory_view m)
    (memory_view n) (Ok tt)) (sym is) (write_ok m c.args.at c.args.bytes.now goes later)
