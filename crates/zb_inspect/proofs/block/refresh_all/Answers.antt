use Rattle.std.proofs.Common.{◌+◌, ◌<◌, ℕ, length, take, drop, arith, List, [], get_or}
use Rattle.arrayvec.specs.ArrayVec.{ArrayVec}
use Rattle.zb_inspect_frame.specs.Shows.{frame_shown}
use Rattle.zb_inspect.proofs.Lists.{half_mapped, not_yet_mapped}
use Rattle.zb_inspect.proofs.RunLaws.{in_part, part_count}
use Rattle.zb_inspect.proofs.block.refresh_all.Goals as goal

pub refresh-requires-clause-before : goal.refresh-requires-clause-before
refresh-requires-clause-before c =
    λ other.
    let own : List (ArrayVec ℕ) = take (length c.args.seen.now) (drop c.args.from c.args.frames.now) in
    let within : c.loop-i.i < length own = omega (
      arith,
      part_count c.args.frames.now c.args.from (length c.args.seen.now) c.requires.within,
      c.loop-i-test.true,
    ) in
    not_yet_mapped (λ (f : ArrayVec ℕ). frame_shown c.args.addrs.now c.args.keys.now f.items)
    (λ (f : ArrayVec ℕ). frame_shown c.args.addrs.now (take c.args.known c.args.keys.now) f.items) own c.loop-i.seen
    c.loop-i.i c.index-seen-i.result (get_or c.args.frames.now (c.args.from + c.loop-i.i) other) within
    (in_part c.args.frames.now c.args.from (length c.args.seen.now) c.loop-i.i other c.loop-i-test.true
    c.requires.within)
    c.loop-i.invariant

pub loop-i-preserved : goal.loop-i-preserved
loop-i-preserved c =
    let own : List (ArrayVec ℕ) = take (length c.args.seen.now) (drop c.args.from c.args.frames.now) in
    let within : c.loop-i.i < length own = omega (
      arith,
      part_count c.args.frames.now c.args.from (length c.args.seen.now) c.requires.within,
      c.loop-i-test.true,
    ) in
    let nothing : ArrayVec ℕ = record { items = [] } in
    half_mapped (λ (f : ArrayVec ℕ). frame_shown c.args.addrs.now c.args.keys.now f.items)
    (λ (f : ArrayVec ℕ). frame_shown c.args.addrs.now (take c.args.known c.args.keys.now) f.items) own c.loop-i.seen
    c.loop-i.i (get_or c.args.frames.now (c.args.from + c.loop-i.i) nothing) c.refresh.new.seen within
    (in_part c.args.frames.now c.args.from (length c.args.seen.now) c.loop-i.i nothing c.loop-i-test.true
    c.requires.within)
    (c.refresh.ensures nothing) c.loop-i.invariant
