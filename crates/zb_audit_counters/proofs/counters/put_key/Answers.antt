use Rattle.zb_audit_counters.proofs.Puts.{key_put}
use Rattle.zb_audit_counters.proofs.counters.put_key.Goals as goal

pub returns : goal.returns
returns c = key_put c.args.keys.now c.insert.new.self c.args.key c.args.counters c.in_ok-insert.ensures.updates.0
