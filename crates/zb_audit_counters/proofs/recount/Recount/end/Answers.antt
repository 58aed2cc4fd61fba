use Rattle.std.proofs.Common.{◌∙◌}
use Rattle.zb_audit_counters.proofs.Running.{end_known, end_of}
use Rattle.zb_audit_counters.proofs.recount.Recount.end.Goals as goal

pub returns-in-Some : goal.returns-in-Some
returns-in-Some c = λ names h stands. end_known names c.args.self.now h c.in-Some.line c.in-Some.is stands

pub returns-in-None : goal.returns-in-None
returns-in-None c = λ names h stands. c.first_of_group.ensures ∙ end_of names c.args.self.now h c.in-None.is stands
