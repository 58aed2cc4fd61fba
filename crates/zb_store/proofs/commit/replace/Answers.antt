use Rattle.std.proofs.Common.{[], ◌∷◌, ℕ, Result, Ok, Err, sym, subst}
use Rattle.std.proofs.lemmas.Result.{err_from_is_err_and}
use Rattle.zb_base.specs.declared.fault.Failed.{Failed}
use Rattle.zb_store.specs.Steps.{IsGated, IsPlaced}
use Rattle.zb_store.specs.Store.{IsReplaced}
use Rattle.zb_store.proofs.Replacing.{replace_done, replace_stopped}
use Rattle.zb_store.proofs.commit.replace.Goals as goal

pub returns-in_err-write_gated : goal.returns-in_err-write_gated
returns-in_err-write_gated g c =
    let p = err_from_is_err_and c.from_residual.result c.from_residual.ensures.1 in
    let v0 = g.D.Disk.state c.args.disk.now in
    let v1 = g.D.Disk.state c.write_gated.new.disk in
    let done =
    subst (λ (n : ℕ). IsGated {T = Unit {0}} {E = Failed} g.D.Disk.tells n c.args.bytes.now v0 v1 (Err p.0))
    c.base.ensures c.in_err-write_gated.ensures in
    subst (λ (r : Result (Unit {0}) Failed). IsReplaced {T = Unit {0}} {E = Failed} g.D.Disk.tells c.args.second
    c.args.bytes.now v0 v1 r) (sym p.1)
    (replace_stopped g.D.Disk.tells c.args.second c.args.bytes.now v0 v1 v1 (g.met.D.Disk.reads_image c.args.disk.now)
    (g.met.D.Disk.reads_image c.write_gated.new.disk) p.0 done)

pub returns : goal.returns
returns g c =
    let v0 = g.D.Disk.state c.args.disk.now in
    let v1 = g.D.Disk.state c.write_gated.new.disk in
    let v2 = g.D.Disk.state c.write_synced.new.disk in
    let first =
    subst (λ (n : ℕ). IsGated {T = Unit {0}} {E = Failed} g.D.Disk.tells n c.args.bytes.now v0 v1
    (Ok c.in_ok-write_gated.field-0)) c.base.ensures c.in_ok-write_gated.ensures in
    let last =
    subst (λ (n : ℕ). IsPlaced {T = Unit {0}} {E = Failed} g.D.Disk.tells n (0 ∷ []) v1 v2 c.write_synced.result)
    c.base-2.ensures c.write_synced.ensures in
    replace_done g.D.Disk.tells c.args.second c.args.bytes.now v0 v1 v2 (g.met.D.Disk.reads_image c.args.disk.now)
    (g.met.D.Disk.reads_image c.write_gated.new.disk) c.in_ok-write_gated.field-0 c.write_synced.result first last
