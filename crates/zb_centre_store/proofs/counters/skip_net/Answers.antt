use Rattle.zb_centre_store.proofs.SkipLemmas.{place_fits, place_made}
use Rattle.zb_centre_store.proofs.counters.skip_net.Goals as goal

pub make-requires : goal.make-requires
make-requires c = place_fits c.args.by c.args.active c.args.place _ _ _ c.nets.ensures c.keep_rules.ensures.rules
    c.requires c.start_at-change.ensures

pub returns : goal.returns
returns c = place_made c.args.by c.args.active c.args.place _ _ _ _ c.nets.ensures c.keep_rules.ensures.rules
    c.keep_rules.ensures.forgets c.start_at-change.ensures c.make.ensures
