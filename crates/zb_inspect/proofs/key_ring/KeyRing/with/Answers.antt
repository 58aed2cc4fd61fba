use Rattle.zb_inspect.specs.declared.key_ring.RingKey.{RingKey}
use Rattle.zb_inspect.proofs.KnownKeys.{sealing_keys_with, known_as, known_with}
use Rattle.zb_inspect.proofs.key_ring.KeyRing.with.Goals as goal

pub invariant_of-result : goal.invariant_of-result
invariant_of-result c =
    let old = c.self.inside.keys.items in
    let key : RingKey = record { key = c.args.key; found = c.args.found } in (
      sealing_keys_with c.self.inside.sealing_keys.items c.push.new.self.items old c.push-2.new.self.items
          c.new.result key c.self.invariant.0
          c.in_ok-push.ensures.items c.new.ensures c.in_ok-push-2.ensures.items,
      known_as c.insert.new.self _ c.push-2.new.self.items c.in_ok-push-2.ensures.items
          (known_with c.self.inside.known c.insert.new.self old key c.self.invariant.1
          c.in_ok-insert.ensures.updates.0),
    )
