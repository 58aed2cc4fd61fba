-- Of any text one thing alone is said.
use Rattle.law_play_sound.proofs.Single.{one_answer}
use Rattle.law_play_sound.proofs.a_text_has_one_answer.Goals as goal

pub returns : goal.returns
returns c = one_answer c.lines_are_judged_by_their_words.ensures
