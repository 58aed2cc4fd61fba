use Rattle.zb_inspect.specs.Pieces.{has_lines}
use Rattle.zb_inspect.proofs.JoinLaws.{added_joined, both_kept}
use Rattle.zb_inspect.proofs.PieceLaws.{room_for}
use Rattle.zb_inspect.proofs.first.add_block.Goals as goal

pub join-requires-clause-room : goal.join-requires-clause-room
join-requires-clause-room c = room_for c.args.blocks.now.items c.pop.new.self.items c.in-Some.last c.args.block
    c.in-Some.ensures.items c.requires

pub returns-in_ok-push-2 : goal.returns-in_ok-push-2
returns-in_ok-push-2 c =
    let kept = both_kept (has_lines c.in-Some.last.seen) (has_lines c.args.block.seen) c.if-have_lines.ensures in
    added_joined c.args.blocks.now.items c.pop.new.self.items c.push-then-have_lines.new.self.items c.in-Some.last
    c.args.block c.in_ok-join.field-0
    c.in-Some.ensures.items c.in_ok-push-2.ensures.items c.in_ok-join.ensures kept.0 kept.1
