use Rattle.std.proofs.Common.{sym, ◌∙◌, refl}
use Rattle.zb_aps.specs.Spelling.{frame}
use Rattle.zb_aps.proofs.ReadAgain.{spelled_again}
use Rattle.zb_aps.proofs.FaultLaws.{ok_is, read_is_spelled}
use Rattle.zb_aps.proofs.laws.round_trips.Goals as goal

pub returns-clause-one_value : goal.returns-clause-one_value
returns-clause-one_value c =
    λ bytes f g one other. ok_is f g (sym (spelled_again bytes f one) ∙ spelled_again bytes g other)

pub returns-clause-one_spelling : goal.returns-clause-one_spelling
returns-clause-one_spelling c = λ bytes other f one two. one.is_frame.text ∙ sym two.is_frame.text

pub returns-clause-written_is_read : goal.returns-clause-written_is_read
returns-clause-written_is_read c = λ f fits shaped le. spelled_again (frame f) f
    (record { is_frame = record { in_range = fits; shaped = shaped; text = refl }; fits = le })

pub returns-clause-read_is_written : goal.returns-clause-read_is_written
returns-clause-read_is_written c = λ bytes f fits given. let s =
    read_is_spelled bytes fits f given in (s.is_frame.shaped, sym s.is_frame.text)
