use Rattle.zb_roll.proofs.LeastLemmas.{waiting_step, least_all}
use Rattle.zb_roll.proofs.members.least_waiting.Goals as goal

pub loop-row-preserved : goal.loop-row-preserved
loop-row-preserved c = waiting_step c.args.rows.now c.loop-row.row-index _ _ _ c.loop-row-test.true
    c.loop-row.invariant c.with_row-best.ensures

pub returns : goal.returns
returns c = least_all c.args.rows.now c.loop-row.row-index _ c.loop-row-test.false c.loop-row.invariant
