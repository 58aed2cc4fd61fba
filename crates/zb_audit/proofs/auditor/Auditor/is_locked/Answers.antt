use Rattle.std.proofs.Common.{[], ◌++◌, ◌∙◌}
use Rattle.zb_audit.proofs.Auditing.{and_else, and_then}
use Rattle.zb_audit.proofs.SaidByName.{words_private}
use Rattle.zb_audit.specs.Words.{is_place, said}
use Rattle.zb_audit_names.specs.Naming.{names_in}
use Rattle.zb_audit.proofs.auditor.Auditor.is_locked.Goals as goal

pub returns-then-ideal : goal.returns-then-ideal
returns-then-ideal c =
    λ tools h stands.
    and_then c.ideal.result _ c.private.result _ c.if-ideal.true
    (c.ideal.ensures tools (is_place (names_in (h ++ []))) (said tools (names_in (h ++ [])) h) (stands.at []).words)
    (c.private.ensures tools (is_place (names_in (h ++ []))) (said tools (names_in (h ++ [])) h) (stands.at []).words
    ∙ words_private tools (names_in (h ++ [])) h)

pub returns-else-ideal : goal.returns-else-ideal
returns-else-ideal c = λ tools h stands. and_else c.ideal.result _ _ c.if-ideal.false
    (c.ideal.ensures tools (is_place (names_in (h ++ []))) (said tools (names_in (h ++ [])) h) (stands.at []).words)
