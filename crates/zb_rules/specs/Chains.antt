-- What the proof of a rule unfolds in addition to the rule's own definition: the steps of its chain of refusals, and
-- the part about the rows of a partner.
use Rattle.std.specs.Prelude.{⊤}
use Rattle.zb_model.specs.Rules.{refuse_if, found_or, choose}
use Rattle.zb_row_changes.specs.Planned.{partner_rule}
use Rattle.zb_row_changes.specs.Real.{real}

unfoldable pub steps : ⊤
unfolding refuse_if found_or choose partner_rule
steps = tt

-- the same for a rule that uses a tool
unfoldable pub steps_with_tools : ⊤
unfolding refuse_if found_or choose real
steps_with_tools = tt
