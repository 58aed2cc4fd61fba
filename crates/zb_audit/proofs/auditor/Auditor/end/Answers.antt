use Rattle.std.proofs.Common.{sym, ◌∙◌}
use Rattle.zb_audit.proofs.auditor.Auditor.end.Goals as goal

pub returns-in-Some : goal.returns-in-Some
returns-in-Some c = λ tools h stands. sym (c.first_fault.ensures tools h stands) ∙ c.in-Some.is

pub returns-in-None : goal.returns-in-None
returns-in-None c =
    λ tools h stands.
    record {
      whole = sym (c.first_fault.ensures tools h stands) ∙ c.in-None.is;
      seals = stands.ending.seals;
      accepts = stands.ending.accepts;
      locked = c.is_locked.ensures tools h stands;
    }
