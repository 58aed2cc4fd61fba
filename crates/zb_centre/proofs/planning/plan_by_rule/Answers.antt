use Rattle.zb_core.specs.Events.{task_of}
use Rattle.zb_model.specs.OwnEvents.{own_at_centre}
use Rattle.zb_centre.proofs.planning.plan_by_rule.Goals as goal

pub returns : goal.returns
returns c = c.plan_own.ensures (own_at_centre c.args.network.now c.args.tables.now (task_of c.args.event.now))
    c.decide.ensures.rule
