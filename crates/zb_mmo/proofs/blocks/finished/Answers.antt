use Rattle.std.proofs.Common.{◌≡◌, ◌+◌, ◌-◌, ◌*◌, ◌/◌, ◌∙◌, refl, ap, length, take, drop, arith}
use Rattle.zb_mmo.proofs.Cuts.{mixed_more}
use Rattle.zb_mmo.proofs.Ends.{finished_end}
use Rattle.zb_mmo.specs.Hash.{padding}
use Rattle.zb_mmo.proofs.blocks.finished.Goals as goal

pub loop-i-init : goal.loop-i-init
loop-i-init c = refl

pub loop-i-preserved : goal.loop-i-preserved
loop-i-preserved c =
    let count : 16 * c.loop-i.i + 16 - 16 * c.loop-i.i ≡ 16 = omega arith in
    mixed_more c.args.value c.args.bytes.now (padding (c.args.before + length c.args.bytes.now)) c.loop-i.value _ _
    c.loop-i.i (omega arith) c.loop-i.invariant
    (c.copy_from_slice.ensures.after ∙ ap (λ n. take n (drop (16 * c.loop-i.i) c.args.bytes.now)) count)
    c.mix-next.ensures

pub returns : goal.returns
returns c =
    finished_end c.args.value c.args.bytes.now _ _ c.args.before c.loop-i.i (length c.args.bytes.now / 16)
    c.requires.whole
    refl (omega arith) c.loop-i.invariant c.padded_end.ensures
