use Rattle.std.proofs.Common.{inl, inr, refl}
use Rattle.tc_centre.proofs.process.show.Goals as goal

pub returns-in-Ok-clause-ends : goal.returns-in-Ok-clause-ends
returns-in-Ok-clause-ends g c = inl (refl, c.in-Ok.ensures.cause.unrisen)

pub returns-in-Err-clause-ends : goal.returns-in-Err-clause-ends
returns-in-Err-clause-ends g c = inr (refl, c.in-Err.ensures.cause.failed)
