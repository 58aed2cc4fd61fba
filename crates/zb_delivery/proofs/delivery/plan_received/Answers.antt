use Rattle.std.proofs.Common.{◌≡◌, ap, Err, Ok, Option, option_map}
use Rattle.zb_base.specs.declared.key.Key.{Key}
use Rattle.zb_delivery.proofs.Plans.{planned, refusal_decided}
use Rattle.zb_delivery.specs.Receiving.{received_plan, refused}
use Rattle.zb_plan.specs.Answers.{terms}
use Rattle.zb_delivery.proofs.delivery.plan_received.Goals as goal

pub returns-in-Err-clause-answer : goal.returns-in-Err-clause-answer
returns-in-Err-clause-answer c =
    let d = option_map (λ (k : Key). k.0) c.args.draw in
    let nwk = c.judge.new.out.accepted_nwk in
    let aps = c.judge.new.out.accepted_aps in
    planned c.args.network.now c.args.tables.now d c.args.bytes.now (refused (terms nwk aps) c.in-Err.refusal)
    c.plan_refusal.new.plan (rw c.in-Err.is at (c.judge.ensures.plan d))
    (c.plan_refusal.ensures (refused (terms nwk aps) c.in-Err.refusal)
    (refusal_decided nwk aps c.in-Err.refusal))

pub returns-in-Err-clause-any_draw : goal.returns-in-Err-clause-any_draw
returns-in-Err-clause-any_draw c = λ member d.
    let nwk = c.judge.new.out.accepted_nwk in
    let aps = c.judge.new.out.accepted_aps in
    planned c.args.network.now c.args.tables.now d c.args.bytes.now (refused (terms nwk aps) c.in-Err.refusal)
    c.plan_refusal.new.plan (rw c.in-Err.is at (c.judge.ensures.plan d))
    (c.plan_refusal.ensures (refused (terms nwk aps) c.in-Err.refusal)
    (refusal_decided nwk aps c.in-Err.refusal))

pub returns-in-Ok-clause-answer : goal.returns-in-Ok-clause-answer
returns-in-Ok-clause-answer c =
    let d = option_map (λ (k : Key). k.0) c.args.draw in
    let drawn : c.in-Ok.received.draw ≡ c.args.draw = rw c.in-Ok.is at c.judge.ensures.draw in
    planned c.args.network.now c.args.tables.now d c.args.bytes.now
    (received_plan c.args.network.now c.args.tables.now d
    (terms c.judge.new.out.accepted_nwk c.judge.new.out.accepted_aps) (Ok c.in-Ok.received))
    c.plan_taken.new.plan (rw c.in-Ok.is at (c.judge.ensures.plan d))
    (c.plan_taken.ensures d (λ e. ap (λ (o : Option Key). option_map (λ (k : Key). k.0) o) drawn))

pub returns-in-Ok-clause-any_draw : goal.returns-in-Ok-clause-any_draw
returns-in-Ok-clause-any_draw c = λ member d.
    planned c.args.network.now c.args.tables.now d c.args.bytes.now
    (received_plan c.args.network.now c.args.tables.now d
    (terms c.judge.new.out.accepted_nwk c.judge.new.out.accepted_aps) (Ok c.in-Ok.received))
    c.plan_taken.new.plan (rw c.in-Ok.is at (c.judge.ensures.plan d))
    (c.plan_taken.ensures d (λ e. absurd cc))
