use Rattle.zb_audit_counters.proofs.Puts.{floor_put}
use Rattle.zb_audit_counters.proofs.counters.put_floor.Goals as goal

pub returns : goal.returns
returns c = floor_put c.args.floors.now c.insert.new.self c.args.sender c.args.floor c.in_ok-insert.ensures.updates.0
