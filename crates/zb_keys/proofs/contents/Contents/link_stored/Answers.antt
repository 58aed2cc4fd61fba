use Rattle.std.proofs.Common.{◌∙◌, sym, ap}
use Rattle.std.specs.Prelude.{find, option_map}
use Rattle.zb_record.specs.declared.link_row.LinkRow.{LinkRow}
use Rattle.zb_record.specs.RowViews.{link_key}
use Rattle.zb_keys.proofs.FindLemmas.{find_map}
use Rattle.zb_model.specs.Fits.{link_stored}
use Rattle.zb_model.specs.State.{is_link}
use Rattle.zb_keys.proofs.contents.Contents.link_stored.Goals as goal

pub returns : goal.returns
returns c =
    c.stored_of.ensures
    ∙ ap (λ o. link_stored (option_map link_key o))
    (c.link_row.ensures ∙ ap (find (λ (r : LinkRow). is_link c.args.partner.0 c.args.key.now.0 (link_key r)))
    c.as_slice.ensures.value)
    ∙ ap link_stored (sym (find_map (is_link c.args.partner.0 c.args.key.now.0) link_key c.args.self.now.links.items))
