use Rattle.std.proofs.Common.{ap}
use Rattle.zb_model.specs.State.{shown}
use Rattle.zb_record.proofs.Sound.{read_kept}
use Rattle.zb_record.proofs.laws.what_is_read_keeps_the_rules.Goals as goal

pub returns-clause-rules : goal.returns-clause-rules
returns-clause-rules c = λ bytes s e. (read_kept bytes s e).rules

pub returns-clause-forgets : goal.returns-clause-forgets
unfolding shown
returns-clause-forgets c = λ bytes s e. ap (λ l. record s { nets = l }) (read_kept bytes s e).forgets
