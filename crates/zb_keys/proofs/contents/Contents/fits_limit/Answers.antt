use Rattle.std.proofs.Common.{◌∙◌, sym, ap}
use Rattle.zb_base.specs.declared.label.Layer.{Layer}
use Rattle.zb_node_types.specs.Changes.{model_layer}
use Rattle.zb_model.specs.Data.{Reserve}
use Rattle.zb_keys.specs.Tables.{state_of}
use Rattle.zb_keys.proofs.FirstLemmas.{aps_fits}
use Rattle.zb_record.specs.Redoing.{first_fits}
use Rattle.zb_keys.proofs.contents.Contents.fits_limit.Goals as goal

pub returns-in-Aps : goal.returns-in-Aps
unfolding first_fits
returns-in-Aps c =
    sym (ap (λ (l : Layer). first_fits (Reserve (model_layer l) c.args.limit) (state_of c.args.self.now)) c.in-Aps.is
    ∙ aps_fits c.args.limit (state_of c.args.self.now) c.requires.rules)
