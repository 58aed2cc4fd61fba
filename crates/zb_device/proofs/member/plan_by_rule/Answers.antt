use Rattle.zb_core.specs.Events.{task_of}
use Rattle.zb_model.specs.OwnEvents.{own_at_member}
use Rattle.zb_model_real.specs.Real.{real}
use Rattle.zb_device.proofs.member.plan_by_rule.Goals as goal

pub returns : goal.returns
returns c = c.plan_own.ensures (own_at_member real c.args.network.now c.args.tables.now (task_of c.args.event.now))
    c.decide.ensures.rule
