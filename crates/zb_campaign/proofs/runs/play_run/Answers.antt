use Rattle.std.proofs.lemmas.Result.{err_from_is_err_and}
use Rattle.zb_campaign.proofs.RunLaws.{made_clash, made_ended}
use Rattle.zb_sched.specs.Schedules.{schedule_of}
use Rattle.zb_campaign.proofs.runs.play_run.Goals as goal

pub returns-in_err-schedule : goal.returns-in_err-schedule
returns-in_err-schedule c =
    let p = err_from_is_err_and c.from_residual.result c.from_residual.ensures.1 in
    rw (p.1, p.2) (made_clash c.args.start c.args.run c.in_err-schedule.field-0.0 c.in_err-schedule.ensures.exact)

pub returns : goal.returns
returns c =
    made_ended c.args.start c.args.run (schedule_of c.in_ok-schedule.schedule) c.in_ok-end.end
    c.in_ok-schedule.ensures.exact c.in_ok-end.ensures
