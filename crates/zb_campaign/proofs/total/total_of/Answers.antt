use Rattle.zb_campaign.proofs.Sums.{total_next}
use Rattle.zb_campaign.proofs.total.total_of.Goals as goal

pub loop-end-preserved : goal.loop-end-preserved
loop-end-preserved c =
    let added = c.add.ensures in
    total_next c.args.ends.now c.loop-end.end-index c.loop-end.total c.add.new.self _ c.loop-end-test.true
    c.loop-end.invariant
    added.seals added.accepts added.refusals added.few_seals added.few_accepts added.few_refusals
