use Rattle.std.proofs.Common.{◌∙◌, ◌++◌, ap}
use Rattle.std.specs.Prelude.{flat_map, option_map, option_to_list}
use Rattle.zb_model_real.specs.Terms.{model_term}
use Rattle.zb_node_types.specs.Changes.{edits}
use Rattle.zb_plan.specs.Storing.{floor_edits}
use Rattle.zb_plan.proofs.Lists.{floors_then}
use Rattle.zb_plan.proofs.floors.add_floors.Goals as goal

pub returns-clause-made : goal.returns-clause-made
returns-clause-made c =
    c.add_floors_of-2.ensures.made
    ∙ ap (λ l. l ++ flat_map (floor_edits c.args.network.now c.args.tables.now)
    (option_to_list (option_map model_term c.args.aps.now))) c.add_floors_of.ensures.made
    ∙ floors_then (floor_edits c.args.network.now c.args.tables.now) (edits c.args.changes.now.items) c.args.nwk.now
    c.args.aps.now
