use Rattle.zb_disk.specs.Memory.{powered, memory_tells, memory_view}
use Rattle.zb_store.specs.Power.{stop_commits, failure_commits}
use Rattle.zb_host.specs.Hosts.{commit_calls}
use Rattle.zb_host.proofs.Stops.{stands_then, within_then}
use Rattle.zb_host.proofs.law.fallen_events.Goals as goal

pub returns : goal.returns
returns c =
    let laws = c.stopped_commits.ensures in
    let runs = c.stopped_runs.ensures in
    let armed = c.armed_runs.ensures in
    record {
      stopped = λ whole s content payload old new calls stop is.
          stands_then memory_tells whole (stop_commits calls old.torn) s content payload (powered new).bytes
          (memory_view old) (memory_view new)
          (λ a. laws.append s payload old new calls a is) (λ p. laws.put s content old new calls p is) stop;
      failed = λ whole s content payload old new call stop is.
          stands_then memory_tells whole (failure_commits call) s content payload (powered new).bytes
          (memory_view old) (memory_view new)
          (λ a. laws.append_failed s payload old new call a is) (λ p. laws.put_failed s content old new call p is)
          stop;
      stop_falls = λ whole s content payload old new calls stop is.
          armed.stopped (commit_calls whole) old new calls
          (within_then memory_tells whole s content payload (memory_view old) (memory_view new)
          (runs.append s payload old new) (runs.put s content old new) stop) is;
      failure_falls = λ whole s content payload old new call stop is.
          armed.failed (commit_calls whole) old new call
          (within_then memory_tells whole s content payload (memory_view old) (memory_view new)
          (runs.append s payload old new) (runs.put s content old new) stop) is;
      none_falls = λ whole s content payload old new stop is.
          armed.unarmed (commit_calls whole) old new
          (within_then memory_tells whole s content payload (memory_view old) (memory_view new)
          (runs.append s payload old new) (runs.put s content old new) stop) is;
    }
