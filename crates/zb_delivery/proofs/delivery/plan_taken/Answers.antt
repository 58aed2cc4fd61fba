use Rattle.std.proofs.Common.{refl, Ok}
use Rattle.zb_delivery.specs.Receiving.{place_of, received_plan}
use Rattle.zb_plan.proofs.Keeping.{keeps_place, keeps_small}
use Rattle.zb_plan.specs.Answers.{terms}
use Rattle.zb_delivery.proofs.delivery.plan_taken.Goals as goal

pub plan_of-requires : goal.plan_of-requires
plan_of-requires c =
    record {
      small = keeps_small (place_of c.args.received.now.content) c.take-effect.result c.take-effect.ensures.keeps;
      nwk = c.requires.nwk;
      aps = c.requires.aps;
    }

pub returns : goal.returns
returns c =
    λ d of.
    c.plan_of.ensures
    (received_plan c.args.known.now.network.now c.args.known.now.tables.now d
    (terms c.args.plan.now.out.accepted_nwk c.args.plan.now.out.accepted_aps) (Ok c.args.received.now))
    (record {
      accepts = refl;
      outcome = c.take-effect.ensures.rule d of;
      place = keeps_place (place_of c.args.received.now.content) c.take-effect.result c.take-effect.ensures.keeps;
    })
