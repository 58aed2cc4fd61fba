use Rattle.zb_record.specs.Rows.{link_seen}
use Rattle.zb_record.proofs.LinkSets.{live_apart, dead_apart}
use Rattle.zb_record.proofs.links_so_far.LinksSoFar.has_told_apart.Goals as goal

pub returns-then-other : goal.returns-then-other
returns-then-other c = live_apart c.args.self.now (link_seen c.args.other.now) c.has_live_told.result
    c.has_live_told.ensures c.if-other.true

pub returns-else-other : goal.returns-else-other
returns-else-other c = dead_apart c.args.self.now (link_seen c.args.other.now) _ c.if-other.false c.if-other.false
