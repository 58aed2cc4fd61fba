use Rattle.std.proofs.Common.{◌-◌, ◌*◌, ◌≤◌}
use Rattle.zb_parallel.proofs.ShareLaws.{AreSharesSoFar}
use Rattle.zb_parallel.proofs.share.shares.Given as goal

abbrev pub invariant-loop-first : goal.invariant-loop-first
invariant-loop-first l = record {
  within : l.first ≤ l.total;
  number : l.number ≤ l.first;
  cut : AreSharesSoFar l.size l.total l.number l.first (l.total - l.first) l.shares.items;
  size : l.total ≤ l.size * l.jobs;
}

abbrev pub decreases-loop-first : goal.decreases-loop-first
decreases-loop-first l = l.total - l.first
