-- Each new key adds those that terms carry under it, once.
use Rattle.std.proofs.Common.{◌+◌, length}
use Rattle.zb_trace_watch.proofs.Learning.{unopened}
use Rattle.zb_audit_lockout.proofs.shown.Shown.learn.Given as goal

abbrev pub decreases-loop-key : goal.decreases-loop-key
decreases-loop-key l = unopened l.self.learnt l.exposure.carried.sets.entries + length l.keys.items
