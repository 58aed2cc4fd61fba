use Rattle.zb_record.specs.RowViews.{link_key, net_key}
use Rattle.zb_centre_store.proofs.RowLemmas.{all_listed, few_links, few_nets}
use Rattle.zb_centre_store.proofs.rows.put_tables.Goals as goal

pub put_nets-requires : goal.put_nets-requires
put_nets-requires c = few_nets net_key c.nets.result.now c.args.tables.now c.nets.ensures c.keep_rules.ensures.rules

pub put_links-requires : goal.put_links-requires
put_links-requires c = few_links link_key c.links.result.now c.args.tables.now c.links.ensures
    c.keep_rules.ensures.rules

pub returns : goal.returns
returns c = all_listed c.args.tables.now _ _ _ _ _ _ c.active_key.ensures c.nets.ensures c.links.ensures
    c.in_ok-put_nets.ensures c.in_ok-put_links.ensures
