use Rattle.std.proofs.Common.{◌-◌, ℕ, length, get_or, drop, ap, arith, length-take}
use Rattle.zb_player_scribe.proofs.FramesIn.{is_at}
use Rattle.zb_player_scribe.proofs.air.frame_at.Goals as goal

pub frame_from-requires : goal.frame_from-requires
frame_from-requires c =
    let end = get_or c.args.ends.now c.args.place 0 in
    let at = is_at (length c.args.bytes.now) 0 c.args.place c.args.ends.now c.if-place-ends.true c.requires in
    omega (
      arith,
      at.few,
      c.start_of-start.ensures,
      ap (length {A = ℕ}) c.part.ensures,
      length-take (end - c.start_of-start.result) (drop c.start_of-start.result c.args.bytes.now),
    )
