use Rattle.std.proofs.Common.{length, refl}
use Rattle.zb_campaign.proofs.Shown.{all_shown}
use Rattle.zb_campaign.proofs.lines.print.Goals as goal

pub returns : goal.returns
returns c =
    all_shown c.args.ends.now (length c.args.ends.now) c.total_of.result c.new-page.result.items
    c.put_runs.new.out.items c.put_total.new.out.items
    c.new-page.ensures.items c.in_ok-put_runs.ensures c.in_ok-put_total.ensures refl c.total_of.ensures.seals
    c.total_of.ensures.accepts c.total_of.ensures.refusals
