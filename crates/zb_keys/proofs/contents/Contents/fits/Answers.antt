use Rattle.std.proofs.Common.{◌∙◌, sym, ap, ◌&&◌}
use Rattle.zb_node_types.specs.Changes.{edit}
use Rattle.law_change_fits.proofs.FitLaws.{fits_is}
use Rattle.law_change_fits.specs.Fitting.{leaves_rules}
use Rattle.zb_keys.specs.Tables.{state_of}
use Rattle.zb_keys.proofs.contents.Contents.fits.Goals as goal

pub returns-then-may_change : goal.returns-then-may_change
returns-then-may_change c =
    let law = fits_is (edit c.args.change.now) (state_of c.args.self.now) c.requires.rules in
    c.leaves_rules.ensures ∙ sym
    (law ∙ ap (λ b. b && leaves_rules (edit c.args.change.now) (state_of c.args.self.now))
    (sym c.may_change.ensures ∙ c.if-may_change.true))

pub returns-else-may_change : goal.returns-else-may_change
returns-else-may_change c =
    let law = fits_is (edit c.args.change.now) (state_of c.args.self.now) c.requires.rules in
    c.if-may_change.false ∙ sym
    (law ∙ ap (λ b. b && leaves_rules (edit c.args.change.now) (state_of c.args.self.now))
    (sym c.may_change.ensures ∙ c.if-may_change.false))
