use Rattle.zb_record.proofs.WritingLemmas.{writes_then}
use Rattle.zb_record.proofs.write.Heading.put_net_part.Goals as goal

pub returns-clause-writes : goal.returns-clause-writes
returns-clause-writes c =
    writes_then c.args.into.now c.put_net_numbers-at.new.into c.put_all_floors.new.into c.args.at
    c.put_net_numbers-at.result c.put_all_floors.result _ _ c.put_net_numbers-at.ensures.writes
    (writes_then c.put_net_numbers-at.new.into c.put_nets-at.new.into c.put_all_floors.new.into
    c.put_net_numbers-at.result c.put_nets-at.result c.put_all_floors.result _ _ c.put_nets-at.ensures.writes
    c.put_all_floors.ensures.writes)
