use Rattle.std.proofs.Common.{◌∙◌, sym}
use Rattle.zb_rows.proofs.Looking.{usable_is, usable_none}
use Rattle.zb_rows.proofs.nets.usable_of.Goals as goal

pub returns-then-may_use : goal.returns-then-may_use
returns-then-may_use c = c.live_of.ensures ∙ usable_is c.args.tables.now c.args.sequence
    (sym c.may_use.ensures ∙ c.if-may_use.true)

pub returns-else-may_use : goal.returns-else-may_use
returns-else-may_use c = usable_none c.args.tables.now c.args.sequence (sym c.may_use.ensures ∙ c.if-may_use.false)
