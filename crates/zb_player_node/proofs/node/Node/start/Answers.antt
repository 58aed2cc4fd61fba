use Rattle.zb_player_node.proofs.Conditions.{was_started}
use Rattle.zb_player_node.proofs.node.Node.start.Goals as goal

pub returns-clause-starts : goal.returns-clause-starts
returns-clause-starts c =
    was_started c.args.peer c.args.config c.in_ok-boot.field-0 c.boot.new.self c.args.disk.now c.reset.new.disk
    c.boot.new.disk c.requires.role c.reset.ensures.rest c.reset.ensures.bytes c.reset.ensures.calls
    (rw c.in_ok-new.ensures.ok at c.in_ok-boot.ensures.booted)
