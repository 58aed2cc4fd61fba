use Rattle.std.proofs.Common.{◌∙◌, sym, ap}
use Rattle.zb_node_types.specs.declared.change.Change.{Change}
use Rattle.zb_node_types.specs.Changes.{edit}
use Rattle.zb_keys.specs.Tables.{state_of}
use Rattle.zb_keys.proofs.FirstLemmas.{fits_as_ever}
use Rattle.zb_record.specs.Redoing.{first_fits}
use Rattle.zb_keys.proofs.contents.Contents.fits_first.Goals as goal

pub returns-in-Start : goal.returns-in-Start
unfolding first_fits
returns-in-Start c = ap (λ (x : Change). first_fits (edit x) (state_of c.args.self.now)) (sym c.in-Start.is)

pub returns-in-Pair : goal.returns-in-Pair
unfolding first_fits
returns-in-Pair c = ap (λ (x : Change). first_fits (edit x) (state_of c.args.self.now)) (sym c.in-Pair.is)

pub returns-in_default : goal.returns-in_default
returns-in_default c = c.fits.ensures ∙ fits_as_ever c.args.change.now (state_of c.args.self.now)
    c.in_default.not-Reserve c.in_default.not-Start c.in_default.not-Pair
