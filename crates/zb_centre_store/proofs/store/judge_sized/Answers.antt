use Rattle.std.proofs.Common.{◌∙◌, refl, sym}
use Rattle.zb_disk.proofs.Moments.{still_refl}
use Rattle.zb_centre_store.proofs.StoreLemmas.{judged_empty, judged_failed, judged_up, no_size}
use Rattle.zb_centre_store.proofs.store.judge_sized.Goals as goal

pub returns-then-size-eq0-clause-judged : goal.returns-then-size-eq0-clause-judged
returns-then-size-eq0-clause-judged g c =
    let v = g.D.Disk.state c.args.disk.now in
    judged_empty g.D.Disk.tells _ v v (g.met.D.Disk.only_now c.args.disk.now)
    (g.met.D.Disk.reads_image c.args.disk.now) (still_refl v) refl
    (λ told. sym c.if-size-eq0.true ∙ c.requires.size told)

pub returns-in-Ok-clause-judged : goal.returns-in-Ok-clause-judged
returns-in-Ok-clause-judged g c =
    let v = g.D.Disk.state c.args.disk.now in
    judged_up g.D.Disk.tells _ v v (g.D.Disk.state c.boot.new.disk) c.in-Ok.host refl (still_refl v)
    (λ told none. no_size v c.args.size c.if-size-eq0.false (c.requires.size told) none) c.in-Ok.ensures.booted

pub returns-in-Err-clause-judged : goal.returns-in-Err-clause-judged
returns-in-Err-clause-judged g c =
    let v = g.D.Disk.state c.args.disk.now in
    judged_failed g.D.Disk.tells _ v v (g.D.Disk.state c.boot.new.disk) _ c.in-Err.fault refl (still_refl v)
    (λ told none. no_size v c.args.size c.if-size-eq0.false (c.requires.size told) none) c.boot.ensures.booted
    c.in-Err.is
