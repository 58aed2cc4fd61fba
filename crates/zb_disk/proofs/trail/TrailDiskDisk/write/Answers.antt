use Rattle.std.proofs.Common.{◌≤◌, Ok, Err, sym, subst}
use Rattle.zb_base.specs.declared.fault.Failed.{Failed}
use Rattle.zb_disk.specs.Calls.{IsWrite}
use Rattle.zb_disk.specs.Trail.{Trail, trail_tells, trail_view}
use Rattle.zb_disk.proofs.Trails.{trail_write_ok, trail_write_err}
use Rattle.zb_disk.proofs.trail.TrailDiskDisk.write.Goals as goal

pub returns-then-not-has_room-clause-write : goal.returns-then-not-has_room-clause-write
returns-then-not-has_room-clause-write c =
    let t = c.args.self.now in
    let after = c.refuse.ensures.after in
    let later = subst (λ (n : Trail). t.faults ≤ n.faults) after c.refuse.ensures.later in
    subst (λ (n : Trail). IsWrite {T = Unit {0}} {E = Failed} trail_tells c.args.at c.args.bytes.now (trail_view t)
    (trail_view n) (Err (record {}))) (sym after) (trail_write_err t c.args.at c.args.bytes.now (record {}) later)

pub returns-clause-write : goal.returns-clause-write
returns-clause-write c =
    let t = c.args.self.now in
    subst (λ (n : Trail). IsWrite {T = Unit {0}} {E = Failed} trail_tells c.args.at c.args.bytes.now (trail_view t)
    (trail_view n) (Ok tt)) (sym c.keep_write.ensures) (trail_write_ok t c.args.at c.args.bytes.now)
