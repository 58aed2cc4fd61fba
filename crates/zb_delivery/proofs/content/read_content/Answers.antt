use Rattle.std.proofs.Common.{sym, ◌∙◌}
use Rattle.zb_delivery.proofs.Plans.{command_content, data_content, refused_content}
use Rattle.zb_delivery.specs.Receiving.{brought}
use Rattle.zb_model_real.specs.Readers.{aps_frame_shown}
use Rattle.zb_delivery.proofs.content.read_content.Goals as goal

pub returns-else-has_command-clause-plan : goal.returns-else-has_command-clause-plan
returns-else-has_command-clause-plan c = λ n s d a m. data_content n s d a m
    (aps_frame_shown c.args.part.now).is_command (brought c.args.part.now c.args.aps.now)
    (sym c.has_command.ensures ∙ c.if-has_command.false)

pub returns-in-Ok-clause-plan : goal.returns-in-Ok-clause-plan
returns-in-Ok-clause-plan c = λ n s d a m. command_content n s d a m (aps_frame_shown c.args.part.now).is_command
    (brought c.args.part.now c.args.aps.now) c.in-Ok.command (sym c.has_command.ensures ∙ c.if-has_command.true)
    (rw c.bytes_of.ensures.bytes at c.in-Ok.ensures.exact)

pub returns-in-Err-clause-plan : goal.returns-in-Err-clause-plan
returns-in-Err-clause-plan c = λ n s d a m. refused_content n s d a m (aps_frame_shown c.args.part.now).is_command
    (brought c.args.part.now c.args.aps.now) c.in-Err.fault c.no_command.result
    (sym c.has_command.ensures ∙ c.if-has_command.true) (rw c.bytes_of.ensures.bytes at c.in-Err.ensures.exact)
    c.no_command.ensures.place c.no_command.ensures.reason
