use Rattle.std.proofs.Common.{◌∙◌, ap, ◌++◌, None}
use Rattle.zb_node_types.specs.Changes.{edits}
use Rattle.zb_rows.proofs.Drops.{few_go, all_go}
use Rattle.zb_rows.proofs.moves.add_drop_partner.Goals as goal

pub add_drops-requires-clause-few : goal.add_drops-requires-clause-few
add_drops-requires-clause-few c = few_go c.args.tables.now c.args.partner.0 None _ c.keep_rules.ensures.rules
    c.links.ensures

pub returns-clause-made : goal.returns-clause-made
returns-clause-made c = c.add_drops.ensures.made ∙ ap (λ l. edits c.args.changes.now.items ++ l)
    (all_go c.args.tables.now c.args.partner.0 _ c.links.ensures)
