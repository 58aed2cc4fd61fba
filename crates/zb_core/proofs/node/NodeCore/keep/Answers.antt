use Rattle.zb_core.proofs.Storing.{kept_storable}
use Rattle.zb_core.proofs.node.NodeCore.keep.Goals as goal

pub returns : goal.returns
returns c task is = kept_storable c.args.self.now _ c.args.plan.now task c.in_block.result c.self.view_is
    c.self.invariant c.keep_rules.ensures c.hold_ranges.ensures c.in_block.ensures.value c.in_block.ensures.least is
