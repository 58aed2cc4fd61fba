-- Each new key adds those that terms carry under it, once.
use Rattle.std.proofs.Common.{◌+◌, length}
use Rattle.zb_trace_watch.proofs.Learning.{Learning, unopened}
use Rattle.zb_trace_watch.proofs.exposure.learn.Given as goal

abbrev pub invariant-loop-key : goal.invariant-loop-key
invariant-loop-key l = Learning l.carried l.fn.known l.known l.fn.keys.items l.keys.items

abbrev pub decreases-loop-key : goal.decreases-loop-key
decreases-loop-key l = unopened l.known l.carried.sets.entries + length l.keys.items
