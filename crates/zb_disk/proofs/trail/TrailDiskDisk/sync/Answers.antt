use Rattle.std.proofs.Common.{◌≤◌, Ok, Err, sym, subst}
use Rattle.zb_base.specs.declared.fault.Failed.{Failed}
use Rattle.zb_disk.specs.Calls.{IsSync}
use Rattle.zb_disk.specs.Trail.{Trail, trail_tells, trail_view}
use Rattle.zb_disk.proofs.Trails.{trail_sync_ok, trail_sync_err}
use Rattle.zb_disk.proofs.trail.TrailDiskDisk.sync.Goals as goal

pub returns-then-not-has_room-clause-sync : goal.returns-then-not-has_room-clause-sync
returns-then-not-has_room-clause-sync c =
    let t = c.args.self.now in
    let after = c.refuse.ensures.after in
    let later = subst (λ (n : Trail). t.faults ≤ n.faults) after c.refuse.ensures.later in
    subst (λ (n : Trail). IsSync {T = Unit {0}} {E = Failed} trail_tells (trail_view t) (trail_view n)
    (Err (record {}))) (sym after) (trail_sync_err t (record {}) later)

pub returns-clause-sync : goal.returns-clause-sync
returns-clause-sync c =
    let t = c.args.self.now in
    subst (λ (n : Trail). IsSync {T = Unit {0}} {E = Failed} trail_tells (trail_view t) (trail_view n) (Ok tt))
    (sym c.keep_sync.ensures) (trail_sync_ok t)
