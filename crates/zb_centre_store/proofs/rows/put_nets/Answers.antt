use Rattle.zb_record.specs.RowViews.{net_key}
use Rattle.zb_centre_store.proofs.RowLemmas.{numbered_step}
use Rattle.zb_centre_store.proofs.rows.put_nets.Goals as goal

pub loop-place-preserved : goal.loop-place-preserved
loop-place-preserved c = numbered_step _ net_key c.args.rows.now c.loop-place.place _ c.index-rows-place.result _ _ _
    c.loop-place-test.true c.index-rows-place.is c.loop-place.invariant c.in_ok-put_net.ensures
