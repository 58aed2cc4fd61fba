use Rattle.std.proofs.Common.{subst}
use Rattle.zb_core.specs.Carrying.{one}
use Rattle.zb_core.proofs.Parts.{counted_next}
use Rattle.zb_model_real.specs.Terms.{model_term}
use Rattle.law_answer_seals.specs.Sealing.{SealsNext}
use Rattle.zb_core.proofs.carrying.count.Goals as goal

pub sealed_under-requires : goal.sealed_under-requires
sealed_under-requires c = (
  model_term c.in-Some.term,
  counted_next c.in-Some.term c.args.tables.now
      (subst (λ o. SealsNext c.args.tables.now (one o)) c.in-Some.is c.requires),
)
