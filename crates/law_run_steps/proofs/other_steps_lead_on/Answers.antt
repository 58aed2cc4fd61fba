-- The step's own line, or the disk that it leaves.
use Rattle.law_run_steps.proofs.Others.{refused, booted, reset-up, dumped, stop-armed, failure-armed}
use Rattle.law_run_steps.proofs.other_steps_lead_on.Goals as goal

pub returns : goal.returns
returns c =
    record {
      refusal = refused;
      boot = booted;
      reset = reset-up;
      dump = dumped;
      stop = stop-armed;
      failure = failure-armed;
    }
