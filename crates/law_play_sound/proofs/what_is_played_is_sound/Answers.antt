-- The text that is to be written is that of the run of the schedule that the input reads as.
use Rattle.law_play_sound.proofs.Played.{played_sound}
use Rattle.law_play_sound.proofs.what_is_played_is_sound.Goals as goal

pub returns : goal.returns
returns c =
    played_sound c.args.input.now c.texts_read_as_schedules.ensures c.runs_are_sound.ensures
    c.the_text_of_a_run_reads_back.ensures c.lines_are_judged_by_their_words.ensures
