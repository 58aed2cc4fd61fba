use Rattle.std.proofs.Common.{rules}
use Rattle.tc_c_centre.proofs.admin.serve_script.Goals as goal

pub returns-in-Ok : goal.returns-in-Ok
returns-in-Ok c = c.serve_over.ensures c.args.text.now (search rules) c.in-Ok.ensures.exact
