use Rattle.std.proofs.Common.{◌≡◌, ◌+◌, ◌++◌, List, ℕ, [], ◌∷◌, length, reverse, sym, ◌∙◌, ap, arith, length-append}
use Rattle.zb_base.specs.Outside.{risen}
use Rattle.zb_disk.specs.declared.trail.Logged.{Logged}
use Rattle.zb_disk.specs.declared.trail.Logged.TheVariants.{Wrote}
use Rattle.zb_disk.specs.View.{overwrite}
use Rattle.zb_disk.specs.Trail.{Trail, writes, replayed, steps_of, total, kept_write}
use Rattle.zb_disk.specs.TrailInside.{trail_of}
use Rattle.zb_disk.proofs.Lists.{overwrite_spread}
use Rattle.zb_disk.proofs.Trails.{length-steps, same_trail, newest_write, total_write}
use Rattle.zb_disk.proofs.trail.TrailDisk.keep_write.Goals as goal

pub append-requires : goal.append-requires
append-requires c =
    let d = c.self.inside in
    omega (
      arith,
      c.requires.bytes,
      ap (λ (t : Trail). t.taken) c.self.view_is,
      ap (λ (t : Trail). t.bytes_room)
          c.self.view_is,
      c.self.invariant.pool_room,
    )

pub push_reserved-requires : goal.push_reserved-requires
push_reserved-requires c =
    let d = c.self.inside in
    let same = c.self.view_is in
    let steps : length c.args.self.now.steps ≡ length d.log.items = ap (λ (t : Trail). length t.steps) (sym same) ∙
    length-steps d.log.items d.pool.items in
    omega (
      arith,
      c.requires.calls,
      steps,
      ap (λ (t : Trail). t.calls_room) same,
      d.log.ok.0,
      c.self.invariant.log_room,
    )

pub invariant_of-self : goal.invariant_of-self
invariant_of-self c =
    let d = c.self.inside in
    let kept = c.self.invariant in
    let piece = c.args.piece.now in
    let at = c.args.start in
    let items = c.push_reserved.ensures.items in
    let pool = c.append.ensures.after in
    let newest = ap (λ (l : List Logged). reverse (steps_of l c.append.new.pool.items)) items ∙ ap
    (λ (l : List ℕ). reverse (steps_of (d.log.items ++ Wrote at (length piece) ∷ []) l)) pool ∙ newest_write
    d.log.items d.pool.items piece at kept.whole in
    let bytes = c.put.ensures.after ∙ overwrite_spread d.bytes.items piece at ∙ ap
    (λ (l : List ℕ). overwrite l at piece) kept.now in
    record {
      now = bytes ∙ sym (ap (replayed d.start.items) newest);
      whole = ap total items ∙ total_write d.log.items at (length piece) ∙ omega
          (arith, kept.whole, ap length pool, length-append d.pool.items piece);
      room = omega (arith, kept.room, c.put.ensures.room);
      log_room = omega (arith, kept.log_room, c.push_reserved.ensures.capacity);
      pool_room = omega (arith, kept.pool_room, c.append.ensures.room);
    }

pub returns : goal.returns
unfolding kept_write
returns c =
    let d = c.self.inside in
    let t = trail_of d in
    let piece = c.args.piece.now in
    let at = c.args.start in
    let pool = c.append.ensures.after in
    let newest = ap (λ (l : List Logged). reverse (steps_of l c.append.new.pool.items)) c.push_reserved.ensures.items
    ∙ ap (λ (l : List ℕ). reverse (steps_of (d.log.items ++ Wrote at (length piece) ∷ []) l)) pool ∙ newest_write
    d.log.items d.pool.items piece at c.self.invariant.whole in
    let calls : c.saturating_add-self-inside.result ≡ risen t.calls 1 = c.saturating_add-self-inside.ensures in
    same_trail t (reverse (steps_of c.push_reserved.new.self.items c.append.new.pool.items))
    (writes at piece ∷ t.steps) (length c.append.new.pool.items) (t.taken + length piece)
    c.saturating_add-self-inside.result (risen t.calls 1)
    newest (ap length pool ∙ length-append d.pool.items piece) calls
    ∙ ap (λ (x : Trail). kept_write x at piece) c.self.view_is
