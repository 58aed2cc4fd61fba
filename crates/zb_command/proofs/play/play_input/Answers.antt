use Rattle.std.proofs.Common.{Some}
use Rattle.zb_command.specs.Answers.{Writes}
use Rattle.zb_command.proofs.Completeness.{written}
use Rattle.zb_command.proofs.PlayedRuns.{told}
use Rattle.zb_command.proofs.play.play_input.Goals as goal
use Rattle.zb_campaign.specs.Runs.{transcript_text}
use Rattle.zb_sched.specs.Schedules.{schedule_of}

pub returns-in-Ok-read-clause-played : goal.returns-in-Ok-read-clause-played
returns-in-Ok-read-clause-played g c = λ ended.
    let plan = schedule_of c.in-Ok-read.schedule in
    told (g.R.Source.rest c.args.input.now) c.in-Ok.bytes.items c.as_slice.result.now plan
    (g.W.Sink.taken c.args.output.now) (g.W.Sink.taken c.play_schedule.new.output) c.in-Ok.ensures.whole
    c.as_slice.ensures.value
    c.in-Ok-read.ensures.exact (c.each_schedule_holds.ensures plan c.in-Ok-read.ensures.valid)
    (c.nodes_are_sound_in_each_run.ensures plan c.in-Ok-read.ensures.valid)
    (c.lines_of_each_run_agree.ensures plan c.in-Ok-read.ensures.valid)
    (written c.play_schedule.result (Some (Writes (transcript_text plan))) (g.W.Sink.taken c.args.output.now)
    (g.W.Sink.taken c.play_schedule.new.output)
    (g.W.Sink.faults c.args.output.now) (g.W.Sink.faults c.play_schedule.new.output) c.play_schedule.ensures.ends
    ended)
