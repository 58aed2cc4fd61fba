use Rattle.std.proofs.Common.{refl}
use Rattle.zb_plan.proofs.Planned.{refused_answer}
use Rattle.zb_plan.proofs.plan.plan_refusal.Goals as goal

pub returns : goal.returns
returns c = λ p d. refused_answer c.args.network.now c.args.tables.now _ c.args.plan.now.out.accepted_nwk
    c.args.plan.now.out.accepted_aps c.args.refusal p c.requires.nwk c.requires.aps d c.keep.ensures
    (rw (c.forget.ensures, c.forget-2.ensures, c.forget-3.ensures) refl)
