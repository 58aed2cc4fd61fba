use Rattle.tc_c_centre.proofs.Scripts.{script_served}
use Rattle.tc_c_centre.proofs.admin.serve_over.Goals as goal

pub returns : goal.returns
returns c = script_served c.args.old.now c.args.script.now c.in-Ok.disk c.serve-ended.new.disk c.new-answer.result
    c.serve-ended.new.out c.serve-ended.result c.made_of_script.result c.in-Ok.ensures c.new-answer.ensures
    c.serve-ended.ensures.served c.made_of_script.ensures
