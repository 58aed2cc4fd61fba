use Rattle.std.proofs.Common.{rules}
use Rattle.zb_record.proofs.SenderLemmas.{raised}
use Rattle.zb_record.proofs.net_row.raise.Goals as goal

pub returns-then-floors-at-clause-raised : goal.returns-then-floors-at-clause-raised
returns-then-floors-at-clause-raised c = λ _. raised c.args.floors.now c.args.sender.0 c.args.at c.args.value _
    c.max.result c.if-at-floors.true c.if-floors-at.true (search rules) c.requires
