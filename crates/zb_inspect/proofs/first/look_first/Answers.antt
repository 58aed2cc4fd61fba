use Rattle.std.proofs.Common.{arith}
use Rattle.zb_inspect.proofs.JoinLaws.{looked_next, looked_none}
use Rattle.zb_inspect.proofs.PieceLaws.{room_more}
use Rattle.zb_inspect.proofs.first.look_first.Goals as goal

pub loop-done-init : goal.loop-done-init
loop-done-init c = (
  looked_none c.args.frames.now c.args.addrs.now c.args.keys.now c.args.first c.args.leads.now.items
      c.new-blocks.result.items c.new-blocks.ensures.items,
  omega arith,
)

pub add_block-requires : goal.add_block-requires
add_block-requires c =
    room_more c.loop-done.blocks.items c.look_at.new.block c.loop-done.done c.args.count c.loop-done.invariant.0.count
    (omega (arith, c.in_ok-look_at.ensures.same.count, c.min-size.ensures, c.loop-done-test.true))
    (omega (arith, c.requires.within, c.requires.first, c.requires.frames))

pub loop-done-preserved : goal.loop-done-preserved
loop-done-preserved c =
    let told = c.in_ok-look_at.ensures in (
      looked_next c.args.frames.now c.args.addrs.now c.args.keys.now c.args.first c.loop-done.done c.min-size.result
          c.args.leads.now.items
          c.loop-done.blocks.items c.add_block.new.blocks.items c.look_at.new.block c.loop-done.leads.items
          c.look_at.new.leads.items told.same.count
          c.loop-done.invariant.0 c.in_ok-add_block.ensures told.same.first c.requires.first
          (omega (arith, c.requires.within, c.min-size.ensures, c.loop-done-test.true)) told.shown told.leads,
      omega (arith, c.min-size.ensures, c.loop-done-test.true),
    )
