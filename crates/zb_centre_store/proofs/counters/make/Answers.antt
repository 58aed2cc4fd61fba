use Rattle.zb_centre_store.proofs.SkipLemmas.{one_fits, one_made}
use Rattle.zb_centre_store.proofs.counters.make.Goals as goal

pub apply-requires : goal.apply-requires
apply-requires c = one_fits c.args.change _ _ _ c.new-changes.ensures c.push.ensures.items c.requires

pub returns : goal.returns
returns c = one_made c.args.change _ _ _ _ c.new-changes.ensures c.push.ensures.items c.apply.ensures
