use Rattle.std.proofs.Common.{sym, ◌∙◌, refl}
use Rattle.zb_cmd.specs.Spelling.{command, leave}
use Rattle.zb_cmd.proofs.ReadAgain.{spelled_again, leave_spelled_again}
use Rattle.zb_cmd.proofs.FaultLaws.{ok_is, leave_ok_is, read_is_spelled, leave_is_spelled}
use Rattle.zb_cmd.proofs.laws.round_trips.Goals as goal

pub returns-clause-one_value : goal.returns-clause-one_value
returns-clause-one_value c =
    λ bytes f g one other. ok_is f g (sym (spelled_again bytes f one) ∙ spelled_again bytes g other)

pub returns-clause-one_spelling : goal.returns-clause-one_spelling
returns-clause-one_spelling c = λ bytes other f one two. one.text ∙ sym two.text

pub returns-clause-written_is_read : goal.returns-clause-written_is_read
returns-clause-written_is_read c = λ f fits is le. spelled_again (command f) f
    (record { in_range = fits; shaped = is; text = refl; fits = le })

pub returns-clause-read_is_written : goal.returns-clause-read_is_written
returns-clause-read_is_written c = λ bytes f fits given. let s =
    read_is_spelled bytes fits f given in (s.shaped, sym s.text)

pub returns-clause-one_leave : goal.returns-clause-one_leave
returns-clause-one_leave c =
    λ bytes l m one other. leave_ok_is l m (sym (leave_spelled_again bytes l one) ∙ leave_spelled_again bytes m other)

pub returns-clause-written_leave_is_read : goal.returns-clause-written_leave_is_read
returns-clause-written_leave_is_read c = λ l fits. leave_spelled_again (leave l) l
    (record { in_range = fits; text = refl })

pub returns-clause-read_leave_is_written : goal.returns-clause-read_leave_is_written
returns-clause-read_leave_is_written c = λ bytes l given. leave_is_spelled bytes l given
