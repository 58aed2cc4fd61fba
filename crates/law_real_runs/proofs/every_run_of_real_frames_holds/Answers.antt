-- The laws, and their premises on frames and commands.
use Rattle.law_real_runs.proofs.RealRuns.{holds}
use Rattle.law_real_runs.proofs.every_run_of_real_frames_holds.Goals as goal

pub returns : goal.returns
returns c = holds
