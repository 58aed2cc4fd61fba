-- What the proof unfolds that routers and devices refuse the commands of the centre: the rules of these.
use Rattle.std.specs.Prelude.{⊤}
use Rattle.zb_model.specs.Commands.{take_command, take_update, take_request, take_app_request, take_verify}
use Rattle.zb_model.specs.Rules.{refuse_if}

unfoldable pub commands_of_the_centre : ⊤
unfolding take_command take_update take_request take_app_request take_verify refuse_if
commands_of_the_centre = tt
