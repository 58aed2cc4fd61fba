-- Each node more stands as the start lines say.
use Rattle.zb_player_start.proofs.Seating.{all_seated, calls_more, one_more, seated_more}
use Rattle.zb_player_start.proofs.nodes.start_nodes.Goals as goal

pub loop-me-preserved : goal.loop-me-preserved
loop-me-preserved c = record {
  stand = λ p is.
      seated_more p c.args.declared.now is c.loop-me.me c.loop-me-test.true c.loop-me.nodes.items
      c.push.new.self.items c.loop-me.disks.items c.push-in-loop-me.new.self.items
      c.in_ok-node.node c.in_ok-node.disk c.in_ok-push.ensures.items c.in_ok-push-2.ensures.items
      (c.loop-me.invariant.stand p is)
      (λ s found. c.in_ok-node.ensures p s is (c.centre_of-centre.ensures p is) found);
  nodes = one_more c.loop-me.nodes.items c.push.new.self.items c.in_ok-node.node c.loop-me.me
      c.in_ok-push.ensures.items c.loop-me.invariant.nodes;
  disks = one_more c.loop-me.disks.items c.push-in-loop-me.new.self.items c.in_ok-node.disk c.loop-me.me
      c.in_ok-push-2.ensures.items c.loop-me.invariant.disks;
  calls =
      calls_more c.requires.schedule.0 c.args.declared.now c.requires.schedule.1 c.loop-me.me c.loop-me-test.true
      c.loop-me.disks.items c.push-in-loop-me.new.self.items c.in_ok-node.node c.in_ok-node.disk
      c.in_ok-push-2.ensures.items c.loop-me.invariant.calls
      (λ s found. c.in_ok-node.ensures c.requires.schedule.0 s c.requires.schedule.1
      (c.centre_of-centre.ensures c.requires.schedule.0 c.requires.schedule.1) found);
  room = c.loop-me.invariant.room;
}

pub returns-clause-stand : goal.returns-clause-stand
returns-clause-stand c = λ p is. all_seated p c.args.declared.now is c.loop-me.me c.loop-me-test.false
    c.loop-me.nodes.items c.loop-me.disks.items (c.loop-me.invariant.stand p is)
