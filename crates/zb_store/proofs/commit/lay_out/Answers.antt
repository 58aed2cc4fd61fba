use Rattle.std.proofs.Common.{ℕ, [], ◌∷◌, Ok, Err, Result, sym, subst}
use Rattle.std.proofs.lemmas.Result.{err_from_is_err_and}
use Rattle.zb_base.specs.declared.fault.Failed.{Failed}
use Rattle.zb_store.specs.Steps.{IsPlaced}
use Rattle.zb_store.specs.Store.{IsLaidOut}
use Rattle.zb_store.proofs.Laying.{laid_out, format_unwritten, format_shut}
use Rattle.zb_store.proofs.commit.lay_out.Goals as goal

pub returns-in_err-write : goal.returns-in_err-write
returns-in_err-write g c =
    let p = err_from_is_err_and c.from_residual.result c.from_residual.ensures.1 in
    let v0 = g.D.Disk.state c.args.disk.now in
    let v1 = g.D.Disk.state c.write.new.self in
    subst (λ (r : Result (Unit {0}) Failed). IsLaidOut {T = Unit {0}} {E = Failed} g.D.Disk.tells c.args.bytes.now v0
    v1 r) (sym p.1)
    (format_unwritten g.D.Disk.tells c.args.bytes.now v0 v1 v1 v1 p.0 c.in_err-write.ensures)

pub returns-in_err-write_synced : goal.returns-in_err-write_synced
returns-in_err-write_synced g c =
    let p = err_from_is_err_and c.from_residual-in_err-write_synced.result
    c.from_residual-in_err-write_synced.ensures.1 in
    let v0 = g.D.Disk.state c.args.disk.now in
    let v1 = g.D.Disk.state c.write.new.self in
    let v2 = g.D.Disk.state c.write_synced.new.disk in
    let second =
    subst (λ (n : ℕ). IsPlaced {T = Unit {0}} {E = Failed} g.D.Disk.tells n (0 ∷ []) v1 v2
    (Err c.in_err-write_synced.field-0.0)) c.base.ensures c.in_err-write_synced.ensures in
    subst (λ (r : Result (Unit {0}) Failed). IsLaidOut {T = Unit {0}} {E = Failed} g.D.Disk.tells c.args.bytes.now v0
    v2 r) (sym p.1)
    (format_shut g.D.Disk.tells c.args.bytes.now v0 v1 v2 v2 c.in_ok-write.field-0 p.0 c.in_ok-write.ensures second)

pub returns : goal.returns
returns g c =
    let v0 = g.D.Disk.state c.args.disk.now in
    let v1 = g.D.Disk.state c.write.new.self in
    let v2 = g.D.Disk.state c.write_synced.new.disk in
    let v3 = g.D.Disk.state c.write_synced-2.new.disk in
    let second =
    subst (λ (n : ℕ). IsPlaced {T = Unit {0}} {E = Failed} g.D.Disk.tells n (0 ∷ []) v1 v2
    (Ok c.in_ok-write_synced.field-0)) c.base.ensures c.in_ok-write_synced.ensures in
    let first =
    subst (λ (n : ℕ). IsPlaced {T = Unit {0}} {E = Failed} g.D.Disk.tells n (165 ∷ []) v2 v3
    c.write_synced-2.result) c.base-2.ensures c.write_synced-2.ensures in
    laid_out g.D.Disk.tells c.args.bytes.now v0 v1 v2 v3 c.in_ok-write.field-0 c.in_ok-write_synced.field-0
    c.write_synced-2.result c.in_ok-write.ensures second first
