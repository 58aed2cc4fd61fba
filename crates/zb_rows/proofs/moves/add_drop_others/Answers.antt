use Rattle.std.proofs.Common.{◌∙◌, ap, ◌++◌, Some}
use Rattle.zb_node_types.specs.Changes.{edits}
use Rattle.zb_rows.proofs.Drops.{few_go, others_go}
use Rattle.zb_rows.proofs.moves.add_drop_others.Goals as goal

pub add_drops-requires-clause-few : goal.add_drops-requires-clause-few
add_drops-requires-clause-few c = few_go c.args.tables.now c.args.partner.0 (Some c.args.key.now.0) _
    c.keep_rules.ensures.rules c.links.ensures

pub returns-clause-made : goal.returns-clause-made
returns-clause-made c = c.add_drops.ensures.made ∙ ap (λ l. edits c.args.changes.now.items ++ l)
    (others_go c.args.tables.now c.args.partner.0 c.args.key.now.0 _ c.links.ensures)
