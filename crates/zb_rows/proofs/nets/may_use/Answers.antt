use Rattle.std.proofs.Common.{◌∙◌}
use Rattle.zb_rows.proofs.Looking.{may_use_is}
use Rattle.zb_rows.proofs.nets.may_use.Goals as goal

pub returns : goal.returns
returns c = c.may_use_in.ensures ∙ may_use_is c.args.tables.now _ _ c.role.ensures c.state.ensures
