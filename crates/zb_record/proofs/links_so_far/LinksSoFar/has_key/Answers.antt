use Rattle.std.proofs.Common.{ap, sym, ◌∙◌}
use Rattle.std.specs.List.{list_any}
use Rattle.zb_model.specs.State.{LinkKey, same_key}
use Rattle.zb_record.specs.Rows.{link_seen}
use Rattle.zb_record.proofs.Lists.{any_map}
use Rattle.zb_record.proofs.links_so_far.LinksSoFar.has_key.Goals as goal

pub returns-then-may_have : goal.returns-then-may_have
returns-then-may_have c =
    c.has_row_of.ensures ∙ ap (list_any (λ r. same_key (link_seen r).key c.args.key.now.0))
    c.as_slice-then-may_have.ensures.value
    ∙ sym (any_map (λ (r : LinkKey). same_key r.key c.args.key.now.0) link_seen c.self.inside.rows.items)
    ∙ ap (list_any (λ (r : LinkKey). same_key r.key c.args.key.now.0)) c.self.view_is
