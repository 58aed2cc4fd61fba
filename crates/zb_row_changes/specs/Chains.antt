-- What the proof of a call unfolds in addition to its own definition: the steps of a chain of refusals.
use Rattle.std.specs.Prelude.{⊤}
use Rattle.zb_model.specs.Rules.{refuse_if, found_or, choose}
use Rattle.zb_model.specs.Commands.{take_row}

unfoldable pub steps : ⊤
unfolding refuse_if found_or choose take_row
steps = tt
