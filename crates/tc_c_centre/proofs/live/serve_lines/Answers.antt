use Rattle.tc_c_centre.proofs.Sessions.{lines_served}
use Rattle.tc_c_centre.proofs.live.serve_lines.Goals as goal

pub returns : goal.returns
returns c = lines_served c.args.text.now c.args.old.now c.in-Ok.input _ c.in-Ok-new.disk c.live-ended.new.disk
    c.new-answer.result c.live-ended.new.output c.live-ended.result c.made_of_lines.result c.in-Ok.ensures
    c.in-Ok-new.ensures c.new-answer.ensures c.live-ended.ensures c.made_of_lines.ensures
