use Rattle.std.proofs.Common.{◌≡◌, ◌<◌, ◌++◌, drop, length}
use Rattle.zb_capture.specs.Runs.{all_runs}
use Rattle.zb_capture.proofs.frames.run_from.Given as goal

abbrev pub invariant-loop-run : goal.invariant-loop-run
invariant-loop-run l = record {
  within : l.left < length (all_runs (drop l.run-index l.runs) ++ l.last);
  same : drop l.left (all_runs (drop l.run-index l.runs) ++ l.last) ≡ drop l.place (all_runs l.runs ++ l.last);
}
