use Rattle.std.proofs.Common.{[]}
use Rattle.zb_player.specs.Runs.{last_line}
use Rattle.zb_campaign.proofs.Shown.{run_shown}
use Rattle.zb_campaign.proofs.lines.put_run.Goals as goal

pub returns : goal.returns
returns c =
    run_shown c.line.result (last_line c.args.end.now) c.args.number c.args.out.now.items c.put_number.new.out.items
    c.put.new.out.items c.put_line.new.out.items
    (c.line.ensures []) c.in_ok-put_number.ensures c.in_ok-put.ensures c.in_ok-put_line.ensures
