use Rattle.std.proofs.Common.{refl}
use Rattle.zb_model.specs.OwnEvents.{say}
use Rattle.zb_plan.specs.Storing.{own_plan}
use Rattle.zb_plan.proofs.plan.plan_say.Goals as goal

pub plan_refusal-requires-clause-nwk : goal.plan_refusal-requires-clause-nwk
plan_refusal-requires-clause-nwk c = rw c.forget.ensures tt

pub plan_refusal-requires-clause-aps : goal.plan_refusal-requires-clause-aps
plan_refusal-requires-clause-aps c = rw c.forget-2.ensures tt

pub returns-in-Err : goal.returns-in-Err
returns-in-Err c =
    c.plan_refusal.ensures (own_plan (say c.args.tables.now c.args.to.0 c.args.bytes.now.items))
    (record {
      accepts = rw (c.forget.ensures, c.forget-2.ensures) refl;
      outcome = c.in-Err.ensures.rule c.args.to.0 c.args.bytes.now.items;
      place = rw c.in-Err.ensures.place refl;
    })

pub returns-in-Ok : goal.returns-in-Ok
returns-in-Ok c =
    c.plan_sending.ensures (own_plan (say c.args.tables.now c.args.to.0 c.args.bytes.now.items))
    (record {
      accepts = refl;
      outcome =
          rw (c.sending_data.ensures, c.copied.ensures) (c.in-Ok.ensures.rule c.args.to.0 c.args.bytes.now.items);
      place = tt;
    })
