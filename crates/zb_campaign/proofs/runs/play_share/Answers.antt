use Rattle.std.proofs.lemmas.Result.{err_from_is_err_and}
use Rattle.zb_campaign.proofs.RunLaws.{a_run_fails, all_run, none_run, one_run_more}
use Rattle.zb_campaign.proofs.runs.play_share.Goals as goal

pub loop-i-init : goal.loop-i-init
loop-i-init c = none_run c.args.start c.args.share.first c.args.share.count c.in_ok-ends.ends.items
    c.in_ok-ends.ensures.items

pub loop-i-preserved : goal.loop-i-preserved
loop-i-preserved c =
    one_run_more c.args.start c.args.share.first c.args.share.count c.loop-i.i c.loop-i.ends.items
    c.push.new.self.items c.in_ok-play_run.field-0
    c.loop-i-test.true c.loop-i.invariant c.in_ok-play_run.ensures c.in_ok-push.ensures.items

pub returns-in_err-play_run : goal.returns-in_err-play_run
returns-in_err-play_run c =
    let p = err_from_is_err_and c.from_residual-in_err-play_run.result c.from_residual-in_err-play_run.ensures.1 in
    rw (p.1, p.2)
    (a_run_fails c.args.start c.args.share.first c.args.share.count c.loop-i.i c.loop-i.ends.items
    c.in_err-play_run.field-0.0
    c.loop-i-test.true c.loop-i.invariant c.in_err-play_run.ensures)

pub returns : goal.returns
returns c = all_run c.args.start c.args.share.first c.args.share.count c.loop-i.i c.loop-i.ends.items
    c.loop-i-test.false c.loop-i.invariant
