use Rattle.std.proofs.Common.{List, [], ◌≢◌, ap, refl, subst, sym}
use Rattle.arrayvec.specs.ArrayVec.{ArrayVec}
use Rattle.zb_disk.proofs.Moments.{still_refl}
use Rattle.zb_disk.specs.View.{IsStill}
use Rattle.zb_node_types.specs.declared.change.Change.{Change}
use Rattle.zb_centre_store.proofs.StoreLemmas.{err_is, handled_err, handled_ok, unhandled_stands}
use Rattle.zb_centre_store.proofs.store.handle.Goals as goal

pub returns-in-Ok-clause-handled : goal.returns-in-Ok-clause-handled
returns-in-Ok-clause-handled g c = λ setting.
    let e = c.in-Ok.ensures in
    let p = c.handle_into.new.plan in
    handled_ok g.D.Disk.tells setting c.args.event.now c.args.host.now c.handle_into.new.self p e.planned
    e.after (g.D.Disk.state c.args.disk.now) (g.D.Disk.state c.handle_into.new.disk) p.changes
    p.changes.items p.out
    refl refl refl c.keep_rules.ensures
    (λ none. subst (λ disk. IsStill (g.D.Disk.state c.args.disk.now) (g.D.Disk.state disk)) (sym (e.idle none))
    (still_refl (g.D.Disk.state c.args.disk.now)))
    (λ some z current told. (_, e.step.kept some z current told)) (λ none z current. e.step.idle_kept none z current)
    e.entry_next e.idle_whole e.step.moments e.up

pub returns-in-Err-clause-handled : goal.returns-in-Err-clause-handled
returns-in-Err-clause-handled g c = λ setting.
    let e = c.in-Err.ensures in
    let (p, is, after, same, out) = e.withheld in
    handled_err g.D.Disk.tells setting c.args.event.now c.args.host.now c.handle_into.new.self p is
    after (g.D.Disk.state c.args.disk.now) (g.D.Disk.state c.handle_into.new.disk) c.in-Err.fault c.from.result
    c.from.ensures (g.met.D.Disk.reads_image c.args.disk.now) e.step.moments e.faults
    (λ worn. e.worn (err_is worn))
    (subst (λ (l : List Change). l ≢ []) (ap (λ (v : ArrayVec Change). v.items) same) e.changed)

pub returns-in-Err-clause-unrisen : goal.returns-in-Err-clause-unrisen
returns-in-Err-clause-unrisen g c =
    unhandled_stands _ _ (g.D.Disk.state c.args.disk.now) (g.D.Disk.state c.handle_into.new.disk) c.in-Err.fault
    c.from.result c.from.ensures c.in-Err.ensures.faults
