use Rattle.zb_core.proofs.Answering.{member_answer, say_answer}
use Rattle.zb_device.proofs.member.plan_event.Goals as goal

pub returns-in-Deliver : goal.returns-in-Deliver
returns-in-Deliver c = rw c.in-Deliver.is (rw c.as_slice.ensures.value at c.plan_received.ensures.answer)

pub returns-in-Say : goal.returns-in-Say
returns-in-Say c = rw c.in-Say.is (say_answer c.args.network.now c.args.tables.now _ _ c.plan_say.new.plan
    c.plan_say.ensures)

pub returns-in_default : goal.returns-in_default
returns-in_default c =
    member_answer c.args.network.now c.args.tables.now c.args.event.now c.plan_by_rule.new.plan c.requires
    c.in_default.not-Deliver c.plan_by_rule.ensures
