use Rattle.std.proofs.Common.{None, refl, ◌∙◌}
use Rattle.zb_plan.specs.Deciding.{only_sends}
use Rattle.zb_plan.proofs.Planned.{done_answer}
use Rattle.zb_plan.proofs.plan.plan_sending.Goals as goal

pub returns : goal.returns
returns c = λ p d. done_answer c.args.network.now c.args.tables.now _ None None (only_sends c.args.sending.now)
    c.send_out.new.out.sealed_aps c.send_out.new.out.sealed_nwk c.send_out.new.out.frame p tt tt d
    c.store_sending.ensures c.send_out.ensures.sent
    (c.send_out.ensures.kept ∙ rw (c.requires.nwk, c.requires.aps) refl)
