use Rattle.std.proofs.Common.{refl}
use Rattle.zb_audit_counters.proofs.Hearing.{fresh_counters}
use Rattle.zb_audit_counters.proofs.counters.Counters.new.Goals as goal

pub returns : goal.returns
returns c =
    fresh_counters
    (record {
      active = c.new.result;
      activated = _;
      booted = c.new-2.result;
      nwk = c.new-3.result;
      aps = c.new-4.result;
      outgoing = c.new-5.result;
      keys = c.new-6.result;
      floors = c.new-7.result;
    })
    c.new.ensures refl c.new-2.ensures c.new-3.ensures c.new-4.ensures c.new-5.ensures c.new-6.ensures.empty
    c.new-7.ensures.empty
