use Rattle.std.proofs.Common.{◌-◌, ℕ, length, get_or, drop, ap, arith, length-take}
use Rattle.zb_capture.proofs.RunLaws.{is_at}
use Rattle.zb_capture.proofs.run.frame_at.Goals as goal

pub frame_from-requires : goal.frame_from-requires
frame_from-requires c =
    let end = get_or c.args.ends.now c.args.place 0 in
    let at = is_at (length c.args.bytes.now) c.args.start c.args.place c.args.ends.now c.requires.place
    c.requires.ends in
    omega (
      arith,
      at.few,
      c.start_of-from.ensures,
      ap (length {A = ℕ}) c.part.ensures,
      length-take (end - c.start_of-from.result) (drop c.start_of-from.result c.args.bytes.now),
    )
