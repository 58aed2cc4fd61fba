use Rattle.std.proofs.Common.{◌≡◌, [], ◌∷◌, ℕ, true, false, Result, rules, sym, subst}
use Rattle.std.proofs.lemmas.Result.{err_from_is_err_and}
use Rattle.zb_base.specs.declared.fault.Failed.{Failed}
use Rattle.zb_store.specs.Steps.{IsPlaced}
use Rattle.zb_store.specs.Store.{IsSettled}
use Rattle.zb_store.proofs.Settling.{settle_stopped, settle_closed, settle_done}
use Rattle.zb_store.proofs.commit.settle.Goals as goal

pub returns-in_err-sync : goal.returns-in_err-sync
returns-in_err-sync g c =
    let p = err_from_is_err_and c.from_residual.result c.from_residual.ensures.1 in
    let v0 = g.D.Disk.state c.args.disk.now in
    let v1 = g.D.Disk.state c.sync.new.self in
    subst (λ (r : Result (Unit {0}) Failed). IsSettled {T = Unit {0}} {E = Failed} g.D.Disk.tells c.args.second
    c.args.other_open v0 v1 r) (sym p.1)
    (settle_stopped g.D.Disk.tells c.args.second c.args.other_open v0 v1 v1 (g.met.D.Disk.only_now c.args.disk.now)
    (g.met.D.Disk.reads_image c.args.disk.now) (g.met.D.Disk.reads_image c.sync.new.self) p.0
    c.in_err-sync.ensures)

pub returns-then-not-other_open : goal.returns-then-not-other_open
returns-then-not-other_open g c =
    let v0 = g.D.Disk.state c.args.disk.now in
    let v1 = g.D.Disk.state c.sync.new.self in
    let shut : c.args.other_open ≡ false = search rules in
    settle_closed g.D.Disk.tells c.args.second c.args.other_open v0 v1 v1 (g.met.D.Disk.only_now c.args.disk.now)
    (g.met.D.Disk.reads_image c.args.disk.now) (g.met.D.Disk.reads_image c.sync.new.self) c.in_ok-sync.field-0
    shut c.in_ok-sync.ensures

pub returns : goal.returns
returns g c =
    let v0 = g.D.Disk.state c.args.disk.now in
    let v1 = g.D.Disk.state c.sync.new.self in
    let v2 = g.D.Disk.state c.write_synced.new.disk in
    let wide : c.args.other_open ≡ true = search rules in
    let last =
    subst (λ (n : ℕ). IsPlaced {T = Unit {0}} {E = Failed} g.D.Disk.tells n (0 ∷ []) v1 v2 c.write_synced.result)
    c.base.ensures c.write_synced.ensures in
    settle_done g.D.Disk.tells c.args.second c.args.other_open v0 v1 v2 (g.met.D.Disk.only_now c.args.disk.now)
    (g.met.D.Disk.reads_image c.args.disk.now) (g.met.D.Disk.reads_image c.sync.new.self) c.in_ok-sync.field-0
    c.write_synced.result wide c.in_ok-sync.ensures last
