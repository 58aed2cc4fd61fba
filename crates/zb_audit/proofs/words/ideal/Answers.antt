use Rattle.std.proofs.Common.{[], ◌++◌}
use Rattle.zb_audit.specs.Words.{is_place, said}
use Rattle.zb_audit_names.specs.Naming.{names_in}
use Rattle.zb_audit.proofs.words.ideal.Goals as goal

pub returns : goal.returns
returns c =
    λ tools find.
    c.ideal.ensures tools (is_place (names_in (c.args.lines.now ++ [])))
    (said tools (names_in (c.args.lines.now ++ [])) c.args.lines.now)
    ((c.in_ok-auditor.ensures tools find).at []).words
