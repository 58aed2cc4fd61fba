use Rattle.std.proofs.Common.{◌≡◌, List, ◌∷◌, length, reverse, refl, sym, ◌∙◌, ap, arith}
use Rattle.zb_base.specs.Outside.{risen}
use Rattle.zb_disk.specs.declared.trail.Logged.{Logged}
use Rattle.zb_disk.specs.Trail.{Trail, syncs, replayed, steps_of, total, kept_sync}
use Rattle.zb_disk.specs.TrailInside.{trail_of}
use Rattle.zb_disk.proofs.Trails.{length-steps, same_trail, newest_sync, total_sync}
use Rattle.zb_disk.proofs.trail.TrailDisk.keep_sync.Goals as goal

pub push_reserved-requires : goal.push_reserved-requires
push_reserved-requires c =
    let d = c.self.inside in
    let same = c.self.view_is in
    let steps : length c.args.self.now.steps ≡ length d.log.items = ap (λ (t : Trail). length t.steps) (sym same) ∙
    length-steps d.log.items d.pool.items in
    omega (arith, c.requires, steps, ap (λ (t : Trail). t.calls_room) same, d.log.ok.0, c.self.invariant.log_room)

pub invariant_of-self : goal.invariant_of-self
invariant_of-self c =
    let d = c.self.inside in
    let kept = c.self.invariant in
    let items = c.push_reserved.ensures.items in
    let newest = ap (λ (l : List Logged). reverse (steps_of l d.pool.items)) items ∙ newest_sync d.log.items
    d.pool.items in
    record {
      now = kept.now ∙ sym (ap (replayed d.start.items) newest);
      whole = ap total items ∙ total_sync d.log.items ∙ kept.whole;
      room = kept.room;
      log_room = omega (arith, kept.log_room, c.push_reserved.ensures.capacity);
      pool_room = kept.pool_room;
    }

pub returns : goal.returns
unfolding kept_sync
returns c =
    let d = c.self.inside in
    let t = trail_of d in
    let newest = ap (λ (l : List Logged). reverse (steps_of l d.pool.items)) c.push_reserved.ensures.items ∙
    newest_sync d.log.items d.pool.items in
    let calls : c.saturating_add-self-inside.result ≡ risen t.calls 1 = c.saturating_add-self-inside.ensures in
    same_trail t (reverse (steps_of c.push_reserved.new.self.items d.pool.items)) (syncs ∷ t.steps) t.taken t.taken
    c.saturating_add-self-inside.result (risen t.calls 1) newest refl calls ∙ ap kept_sync c.self.view_is
