use Rattle.std.proofs.Common.{ℕ, length, ap, ◌∙◌}
use Rattle.zb_send.proofs.part.sealed.Goals as goal

pub returns-in-Ok-clause-len : goal.returns-in-Ok-clause-len
returns-in-Ok-clause-len c = ap (length {A = ℕ}) c.in-Ok.ensures.text ∙ c.in-Ok.ensures.len
