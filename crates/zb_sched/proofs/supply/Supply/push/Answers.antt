use Rattle.std.proofs.Common.{◌∙◌, sym, ap, map}
use Rattle.zb_base.specs.declared.key.Key.{Key}
use Rattle.zb_sched.specs.Judge.{is_drawn}
use Rattle.zb_sched.proofs.SupplyLemmas.{more_known, key_bytes_more}
use Rattle.zb_sched.proofs.supply.Supply.push.Goals as goal

pub invariant_of-self-in-Ok : goal.invariant_of-self-in-Ok
invariant_of-self-in-Ok c = λ q.
    more_known c.self.inside.known c.insert.new.self (map (λ (k : Key). k.0) c.self.inside.keys.items) c.args.key.0
    c.self.invariant c.in-Ok.ensures.updates q
    ∙ ap (is_drawn q)
    (sym (key_bytes_more c.self.inside.keys.items c.args.key) ∙ sym
    (ap (map (λ (k : Key). k.0)) c.in_ok-push.ensures.items))
