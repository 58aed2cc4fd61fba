use Rattle.std.proofs.Common.{length, take}
use Rattle.zb_inspect.specs.Pieces.{IsNext, IsWithin, Sees}
use Rattle.zb_inspect.proofs.BlockLaws.{next_half, next_fresh, still}
use Rattle.zb_inspect.proofs.Lists.{half_end}
use Rattle.zb_inspect.proofs.piece.look_at_all.Goals as goal

pub look_at-requires-clause-within : goal.look_at-requires-clause-within
look_at-requires-clause-within c =
    still (IsWithin (length c.args.frames.now)) c.args.frames.now c.args.addrs.now c.args.keys.now c.loop-i.i
    c.args.blocks.now c.loop-i.blocks
    c.index-blocks-i.result c.loop-i-test.true c.loop-i.invariant.half c.requires.within

pub look_at-requires-clause-before : goal.look_at-requires-clause-before
look_at-requires-clause-before c =
    still (Sees c.args.frames.now c.args.addrs.now (take c.args.known c.args.keys.now)) c.args.frames.now
    c.args.addrs.now c.args.keys.now c.loop-i.i c.args.blocks.now c.loop-i.blocks
    c.index-blocks-i.result c.loop-i-test.true c.loop-i.invariant.half c.requires.before

pub loop-i-preserved : goal.loop-i-preserved
loop-i-preserved c =
    let told = c.in_ok-look_at.ensures in
    let before = c.loop-i.invariant in record {
      half = next_half c.args.frames.now c.args.addrs.now c.args.keys.now c.loop-i.i c.args.blocks.now c.loop-i.blocks
          c.index-blocks-i.result c.look_at.new.block
          c.loop-i-test.true before.half told.same told.shown;
      leads = next_fresh c.args.frames.now c.args.addrs.now c.args.keys.now c.loop-i.i c.args.blocks.now
          c.loop-i.blocks c.index-blocks-i.result c.args.leads.now.items
          c.loop-i.leads.items c.look_at.new.leads.items c.loop-i-test.true before.half before.leads told.leads;
    }

pub returns-clause-next : goal.returns-clause-next
returns-clause-next c =
    half_end (IsNext c.args.frames.now c.args.addrs.now c.args.keys.now) c.loop-i.i c.args.blocks.now c.loop-i.blocks
    c.loop-i-test.false c.loop-i.invariant.half
