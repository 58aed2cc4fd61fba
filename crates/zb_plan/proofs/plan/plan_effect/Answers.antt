use Rattle.zb_plan.proofs.Planned.{done_answer}
use Rattle.zb_plan.proofs.plan.plan_effect.Goals as goal

pub returns : goal.returns
returns c = λ p d. done_answer c.args.network.now c.args.tables.now _ c.args.plan.now.out.accepted_nwk
    c.args.plan.now.out.accepted_aps c.args.effect.now c.send_out.new.out.sealed_aps c.send_out.new.out.sealed_nwk
    c.send_out.new.out.frame p c.requires.nwk c.requires.aps d c.store.ensures c.send_out.ensures.sent
    c.send_out.ensures.kept
