use Rattle.std.proofs.Common.{Result, sym, subst}
use Rattle.std.proofs.lemmas.Result.{err_from_is_err_and}
use Rattle.zb_base.specs.declared.fault.Failed.{Failed}
use Rattle.zb_store.specs.Steps.{IsGated}
use Rattle.zb_store.proofs.Going.{gated_done, gated_stopped}
use Rattle.zb_store.proofs.commit.write_gated.Goals as goal

pub returns-in_err-write_synced : goal.returns-in_err-write_synced
returns-in_err-write_synced g c =
    let p = err_from_is_err_and c.from_residual.result c.from_residual.ensures.1 in
    let v0 = g.D.Disk.state c.args.disk.now in
    let v1 = g.D.Disk.state c.write_synced.new.disk in
    subst (λ (r : Result (Unit {0}) Failed). IsGated {T = Unit {0}} {E = Failed} g.D.Disk.tells c.args.gate
    c.args.bytes.now v0 v1 r) (sym p.1)
    (gated_stopped g.D.Disk.tells c.args.gate c.args.bytes.now v0 v1 v1 (g.met.D.Disk.reads_image c.args.disk.now) p.0
    c.in_err-write_synced.ensures)

pub returns : goal.returns
returns g c =
    gated_done g.D.Disk.tells c.args.gate c.args.bytes.now (g.D.Disk.state c.args.disk.now)
    (g.D.Disk.state c.write_synced.new.disk) (g.D.Disk.state c.write_synced-2.new.disk)
    (g.met.D.Disk.reads_image c.args.disk.now) c.in_ok-write_synced.field-0 c.write_synced-2.result
    c.in_ok-write_synced.ensures c.write_synced-2.ensures (g.met.D.Disk.reads_image c.write_synced.new.disk)
