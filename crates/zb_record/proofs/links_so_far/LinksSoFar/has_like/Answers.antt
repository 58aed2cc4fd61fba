use Rattle.zb_record.specs.Rows.{link_seen}
use Rattle.zb_record.proofs.LinkSets.{live_like, dead_like}
use Rattle.zb_record.proofs.links_so_far.LinksSoFar.has_like.Goals as goal

pub returns-then-other : goal.returns-then-other
returns-then-other c =
    live_like c.args.self.now (link_seen c.args.other.now) c.has_live_of_kind.result c.is_unverified.result
    c.is_unverified.ensures c.has_live_of_kind.ensures c.if-other.true

pub returns-else-other : goal.returns-else-other
returns-else-other c = dead_like c.args.self.now (link_seen c.args.other.now) _ c.if-other.false c.if-other.false
