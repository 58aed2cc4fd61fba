use Rattle.zb_centre_store.proofs.SkipLemmas.{row_starts}
use Rattle.zb_centre_store.proofs.counters.start_at.Goals as goal

pub returns : goal.returns
returns c = row_starts c.args.by c.args.active c.args.place c.args.rows.now _ _ _ c.index-rows-place.is
    c.start_of.ensures.value c.start_of.ensures.fits
