use Rattle.std.proofs.Common.{◌++◌, ◌∷◌, [], subst, sym}
use Rattle.zb_audit.specs.Standing.{Ends}
use Rattle.zb_audit.specs.declared.ending.Ending.{Ending}
use Rattle.zb_audit.proofs.EndLines.{line_ends}
use Rattle.zb_audit.proofs.ending.Ending.line.Goals as goal

pub returns : goal.returns
returns c =
    λ tools h here ideals privates before.
    subst (λ (new : Ending). Ends tools new (h ++ c.args.line.now ∷ [])) (sym c.in_ok-count.ensures.counts)
    (line_ends tools c.args.self.now h c.args.line.now c.args.number c.args.ideal c.args.private
    c.first_bad-self.result c.is_end-self.result c.fits-sums_up.result
    c.first_bad-self.ensures c.is_end-self.ensures c.fits-sums_up.ensures here ideals privates before)
