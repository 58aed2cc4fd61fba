use Rattle.std.proofs.Common.{refl}
use Rattle.zb_audit_counters.proofs.Hearing.{start_heard}
use Rattle.zb_audit_counters.proofs.counters.Counters.start.Goals as goal

pub returns-clause-heard : goal.returns-clause-heard
returns-clause-heard c = λ number e m. start_heard c.args.group number e m c.args.key c.args.value c.args.self.now
    c.put_key.new.keys _ (rw (c.set.ensures, c.set-2.ensures, c.key_in-counters.ensures) refl) c.in_ok-put_key.ensures
