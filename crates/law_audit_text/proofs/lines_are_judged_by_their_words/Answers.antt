-- No definition of the audit sees the unused room of a name.
use Rattle.law_audit_text.proofs.Judging.{judged_alike}
use Rattle.law_audit_text.proofs.lines_are_judged_by_their_words.Goals as goal

pub returns : goal.returns
returns c = judged_alike
