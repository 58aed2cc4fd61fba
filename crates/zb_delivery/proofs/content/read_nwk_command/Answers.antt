use Rattle.std.proofs.Common.{sym, ◌∙◌}
use Rattle.zb_delivery.proofs.Plans.{nwk_leave, nwk_none, nwk_payload, nwk_refused}
use Rattle.zb_model_real.specs.Readers.{nwk_frame_shown}
use Rattle.zb_delivery.proofs.content.read_nwk_command.Goals as goal

pub returns-in-None : goal.returns-in-None
returns-in-None c = λ n s d. nwk_none n s d (nwk_frame_shown c.args.frame.now) c.args.nwk.now c.in-None.is

pub returns-else-is_command : goal.returns-else-is_command
returns-else-is_command c = λ n s d. nwk_payload n s d (nwk_frame_shown c.args.frame.now) c.args.nwk.now
    c.in-Some.term c.in-Some.is (sym c.is_command.ensures ∙ c.if-is_command.false)

pub returns-in-Ok : goal.returns-in-Ok
returns-in-Ok c = λ n s d. nwk_leave n s d (nwk_frame_shown c.args.frame.now) c.args.nwk.now c.in-Some.term
    c.in-Ok.leave c.in-Some.is (sym c.is_command.ensures ∙ c.if-is_command.true)
    (rw c.as_slice.ensures.value at c.in-Ok.ensures.exact)

pub returns-in-Err : goal.returns-in-Err
returns-in-Err c = λ n s d. nwk_refused n s d (nwk_frame_shown c.args.frame.now) c.args.nwk.now c.in-Some.term
    c.in-Err.fault c.no_leave.result c.in-Some.is (sym c.is_command.ensures ∙ c.if-is_command.true)
    (rw c.as_slice.ensures.value at c.in-Err.ensures.exact) c.no_leave.ensures.place c.no_leave.ensures.reason
