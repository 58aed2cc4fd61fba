use Rattle.std.proofs.Common.{◌≡◌, drop}
use Rattle.zb_inspect.specs.Rings.{learnt}
use Rattle.zb_inspect.proofs.key_ring.learn.Given as goal

abbrev pub invariant-loop-lead : goal.invariant-loop-lead
invariant-loop-lead l = learnt l.round l.ring (drop l.lead-index l.leads) ≡ learnt l.round l.initial.ring l.leads
