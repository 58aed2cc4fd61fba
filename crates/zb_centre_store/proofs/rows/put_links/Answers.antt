use Rattle.std.proofs.Common.{refl}
use Rattle.zb_centre_store.specs.Rows.{link_line}
use Rattle.zb_record.specs.RowViews.{link_key}
use Rattle.zb_centre_store.proofs.RowLemmas.{numbered_step}
use Rattle.zb_centre_store.proofs.rows.put_links.Goals as goal

pub loop-place-preserved : goal.loop-place-preserved
loop-place-preserved c = numbered_step link_line link_key c.args.rows.now c.loop-place.place _ _ _ _ _
    c.loop-place-test.true refl c.loop-place.invariant c.in_ok-put_link.ensures
