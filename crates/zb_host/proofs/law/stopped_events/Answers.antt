use Rattle.zb_disk.specs.Memory.{powered, memory_tells, memory_view}
use Rattle.zb_store.specs.Power.{stop_commits, failure_commits, stop_opens_both, failure_opens_both}
use Rattle.zb_store.specs.Store.{both_gates_open}
use Rattle.zb_host.specs.Hosts.{next_standing}
use Rattle.zb_host.proofs.Stops.{stands_then, gates_then, booted_then}
use Rattle.zb_host.proofs.law.stopped_events.Goals as goal

pub returns : goal.returns
returns c =
    let laws = c.stopped_commits.ensures in
    record {
      stopped = λ restored before after booted whole s payload old new calls was is stop armed answer.
          let b = stop_commits calls old.torn in
          let bytes = (powered new).bytes in
          let stands = stands_then memory_tells whole b s after payload bytes (memory_view old) (memory_view new)
          (λ a. laws.append s payload old new calls a armed) (λ p. laws.put s after old new calls p armed) stop in
          booted_then restored before after booted bytes s (next_standing whole s after payload) b was is stands
          answer;
      failed = λ restored before after booted whole s payload old new call was is stop armed answer.
          let b = failure_commits call in
          let bytes = (powered new).bytes in
          let stands = stands_then memory_tells whole b s after payload bytes (memory_view old) (memory_view new)
          (λ a. laws.append_failed s payload old new call a armed)
          (λ p. laws.put_failed s after old new call p armed) stop in
          booted_then restored before after booted bytes s (next_standing whole s after payload) b was is stands
          answer;
      stopped_gates = λ whole s content payload old new calls stop armed.
          gates_then memory_tells whole (stop_opens_both calls old.torn) (both_gates_open (powered new).bytes) s
          content payload (memory_view old) (memory_view new)
          (λ a. laws.append_gates s payload old new a) (λ p. laws.put_gates s content old new calls p armed) stop;
      failed_gates = λ whole s content payload old new call stop armed.
          gates_then memory_tells whole (failure_opens_both call) (both_gates_open (powered new).bytes) s content
          payload (memory_view old) (memory_view new)
          (λ a. laws.append_gates s payload old new a) (λ p. laws.put_failed_gates s content old new call p armed)
          stop;
    }
