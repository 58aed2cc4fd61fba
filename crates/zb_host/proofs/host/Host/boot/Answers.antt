use Rattle.std.proofs.Common.{rules}
use Rattle.zb_host.proofs.host.Host.boot.Goals as goal

pub returns-in-Ok-restore-clause-step : goal.returns-in-Ok-restore-clause-step
returns-in-Ok-restore-clause-step g c = record {
  answer = search rules;
  ready = search rules;
  moments = c.in-Ok.ensures.moments;
  faults = tt;
}

pub returns-in-Ok-restore-clause-configured : goal.returns-in-Ok-restore-clause-configured
returns-in-Ok-restore-clause-configured g c = (_, _, c.in-Ok-restore.ensures.booted)
