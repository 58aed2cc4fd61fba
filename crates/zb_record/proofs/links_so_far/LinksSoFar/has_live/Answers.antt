use Rattle.std.proofs.Common.{ap, sym, ◌∙◌}
use Rattle.std.specs.List.{list_any}
use Rattle.zb_record.specs.LinkSets.{is_live_so}
use Rattle.zb_record.specs.Rows.{link_seen}
use Rattle.zb_record.proofs.Lists.{any_map}
use Rattle.zb_record.proofs.links_so_far.LinksSoFar.has_live.Goals as goal

pub returns-then-may_have : goal.returns-then-may_have
returns-then-may_have c =
    c.has_row_so.ensures
    ∙ ap (list_any (λ r. is_live_so c.args.partner.0 c.args.unverified c.args.told (link_seen r)))
    c.as_slice-then-may_have.ensures.value
    ∙ sym (any_map (is_live_so c.args.partner.0 c.args.unverified c.args.told) link_seen c.self.inside.rows.items)
    ∙ ap (list_any (is_live_so c.args.partner.0 c.args.unverified c.args.told)) c.self.view_is
