use Rattle.std.proofs.Common.{refl}
use Rattle.zb_audit_counters.proofs.Hearing.{seal_heard}
use Rattle.zb_audit_counters.proofs.counters.Counters.seal_nwk.Goals as goal

pub returns-clause-heard : goal.returns-clause-heard
returns-clause-heard c =
    λ number e m t layers bases counters. seal_heard c.args.group number e m t c.args.base c.args.counter
    c.args.self.now c.put_key.new.keys layers bases counters _
    (rw (c.set.ensures, c.key_in-counters.ensures) refl) c.in_ok-put_key.ensures
