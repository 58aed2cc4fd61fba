use Rattle.std.proofs.Common.{◌≡◌, ◌+◌, ℕ, ◌&&◌, nat_lt, nat_le, length, reverse, sym, ◌∙◌, ap}
use Rattle.zb_disk.specs.Trail.{Trail, steps_of, has_room}
use Rattle.zb_disk.proofs.Trails.{length-steps}
use Rattle.zb_disk.proofs.trail.TrailDisk.has_room.Goals as goal

pub returns : goal.returns
returns c =
    let d = c.self.inside in
    let log : d.log.len ≡ length (reverse (steps_of d.log.items d.pool.items)) =
    d.log.ok.0 ∙ sym (length-steps d.log.items d.pool.items) in
    c.fits.ensures ∙ ap (λ (n : ℕ). nat_lt n d.calls_room && nat_le (c.len-2.result + c.args.len) d.bytes_room)
    (c.len.ensures ∙ log)
    ∙ ap (λ (n : ℕ). nat_lt (length (reverse (steps_of d.log.items d.pool.items))) d.calls_room
    && nat_le (n + c.args.len) d.bytes_room) (c.len-2.ensures ∙ d.pool.ok.0)
    ∙ ap (λ (t : Trail). has_room t c.args.len) c.self.view_is
