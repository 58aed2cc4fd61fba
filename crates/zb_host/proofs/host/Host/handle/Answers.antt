use Rattle.std.proofs.Common.{◌≢◌, inl, inr, List, [], refl, ap, subst}
use Rattle.arrayvec.specs.declared.array_vec.ArrayVec.{ArrayVec}
use Rattle.zb_node_types.specs.declared.change.Change.{Change}
use Rattle.zb_host.specs.declared.fault.HostFault.TheVariants.{Disk}
use Rattle.zb_host.proofs.host.Host.handle.Goals as goal

pub returns-in-Err-Disk-clause-planned : goal.returns-in-Err-Disk-clause-planned
returns-in-Err-Disk-clause-planned g c =
    let (p, is, after, same, out) = c.in-Err-Disk.ensures.withheld in (
      p,
      is,
      after,
      tt,
      (
        inl (ap (λ (x : ArrayVec Change 16 (Unit {0})). Disk x) same),
        subst (λ (l : List Change). l ≢ []) (ap (λ (v : ArrayVec Change 16 (Unit {0})). v.items) same)
            c.in-Err-Disk.ensures.changed,
      ),
    )

pub returns-in-Err-Worn-clause-planned : goal.returns-in-Err-Worn-clause-planned
returns-in-Err-Worn-clause-planned g c =
    let (p, is, after, same, out) = c.in-Err-Worn.ensures.withheld in (
      p,
      is,
      after,
      tt,
      (
        inr refl,
        subst (λ (l : List Change). l ≢ []) (ap (λ (v : ArrayVec Change 16 (Unit {0})). v.items) same)
            c.in-Err-Worn.ensures.changed,
      ),
    )

pub returns-in-Ok-clause-planned : goal.returns-in-Ok-clause-planned
returns-in-Ok-clause-planned g c =
    (c.handle_into.new.plan, c.in-Ok.ensures.planned, c.in-Ok.ensures.after, (refl, refl), tt)
