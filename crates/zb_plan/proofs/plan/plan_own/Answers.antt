use Rattle.std.proofs.Common.{◌≡◌, [], refl}
use Rattle.zb_base.specs.declared.place.Place.TheVariants.{Event}
use Rattle.zb_plan.specs.Answers.{terms}
use Rattle.zb_plan.specs.Deciding.{IsAps, IsNwk}
use Rattle.zb_plan.specs.Storing.{own_plan}
use Rattle.zb_plan.proofs.Keeping.{keeps_small, keeps_place}
use Rattle.zb_plan.proofs.plan.plan_own.Goals as goal

pub plan_of-requires : goal.plan_of-requires
plan_of-requires c =
    let nwk : IsNwk c.forget.new.place = rw c.forget.ensures tt in
    let aps : IsAps c.forget-2.new.place = rw c.forget-2.ensures tt in
    record { small = keeps_small Event c.args.effect.now c.requires; nwk = nwk; aps = aps }

pub returns : goal.returns
returns c =
    λ o d.
    let accepts : terms c.forget.new.place c.forget-2.new.place ≡ [] =
    rw (c.forget.ensures, c.forget-2.ensures) refl in
    c.plan_of.ensures (own_plan o)
    (record { accepts = accepts; outcome = d; place = keeps_place Event c.args.effect.now c.requires })
