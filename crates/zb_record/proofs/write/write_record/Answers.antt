use Rattle.std.proofs.Common.{◌∙◌}
use Rattle.zb_record.proofs.WritingLemmas.{writes_then}
use Rattle.zb_record.proofs.RecordLemmas.{parts_are}
use Rattle.zb_record.proofs.write.write_record.Goals as goal

pub returns-clause-bytes : goal.returns-clause-bytes
returns-clause-bytes c aps_next =
    let one = writes_then c.args.into.now c.put_node-at.new.into c.put_counter-at.new.into 0 c.put_node-at.result
    c.put_counter-at.result _ _ c.put_node-at.ensures.writes c.put_counter-at.ensures.writes in
    let two = writes_then c.args.into.now c.put_counter-at.new.into c.put_net_part-at.new.into 0
    c.put_counter-at.result c.put_net_part-at.result _ _ one c.put_net_part-at.ensures.writes in
    let three = writes_then c.args.into.now c.put_net_part-at.new.into c.put_link_part-at.new.into 0
    c.put_net_part-at.result c.put_link_part-at.result _ _ two c.put_link_part-at.ensures.writes in
    let four = writes_then c.args.into.now c.put_link_part-at.new.into c.put_pair_part.new.into 0
    c.put_link_part-at.result c.put_pair_part.result _ _ three c.put_pair_part.ensures.writes in
    four.front ∙ parts_are aps_next c.args.heading.now c.args.nets.now c.args.links.now c.args.pairs.now
