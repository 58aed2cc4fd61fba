use Rattle.std.proofs.Common.{Result, sym, subst}
use Rattle.std.proofs.lemmas.Result.{err_from_is_err_and}
use Rattle.zb_base.specs.declared.fault.Failed.{Failed}
use Rattle.zb_store.specs.Steps.{IsPlaced}
use Rattle.zb_store.proofs.Going.{placed, placed_stopped}
use Rattle.zb_store.proofs.commit.write_synced.Goals as goal

pub returns-in_err-write : goal.returns-in_err-write
returns-in_err-write g c =
    let p = err_from_is_err_and c.from_residual.result c.from_residual.ensures.1 in
    let v0 = g.D.Disk.state c.args.disk.now in
    let v1 = g.D.Disk.state c.write.new.self in
    subst (λ (r : Result (Unit {0}) Failed). IsPlaced {T = Unit {0}} {E = Failed} g.D.Disk.tells c.args.at
    c.args.bytes.now v0 v1 r) (sym p.1)
    (placed_stopped g.D.Disk.tells c.args.at c.args.bytes.now v0 v1 v1 (g.met.D.Disk.only_now c.args.disk.now) p.0
    c.in_err-write.ensures)

pub returns : goal.returns
returns g c =
    placed g.D.Disk.tells c.args.at c.args.bytes.now (g.D.Disk.state c.args.disk.now)
    (g.D.Disk.state c.write.new.self) (g.D.Disk.state c.sync.new.self)
    (g.met.D.Disk.only_now c.args.disk.now) c.in_ok-write.field-0 c.sync.result c.in_ok-write.ensures c.sync.ensures
