-- One lemma per rule.
use Rattle.law_real_nodes.proofs.Refusing.{app-request-why, confirm-why, request-why, verify-why}
use Rattle.law_real_nodes.proofs.commands_find_the_rows_that_they_tested.Goals as goal

pub returns : goal.returns
returns c = record { confirm = confirm-why; request = request-why; app_request = app-request-why; verify = verify-why }
