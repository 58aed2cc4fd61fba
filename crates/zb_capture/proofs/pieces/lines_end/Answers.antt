use Rattle.std.proofs.Common.{◌∙◌, sym, arith}
use Rattle.zb_capture.proofs.Places.{lines_found}
use Rattle.zb_capture.proofs.pieces.lines_end.Goals as goal

pub returns-in-Some-clause-ends : goal.returns-in-Some-clause-ends
returns-in-Some-clause-ends c =
    lines_found c.args.least c.in-Some.at c.args.text.now (omega (arith, c.requires))
    (sym c.line_feed.ensures ∙ c.in-Some.is)
