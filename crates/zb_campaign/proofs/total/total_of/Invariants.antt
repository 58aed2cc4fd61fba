use Rattle.zb_campaign.proofs.Sums.{IsTotal}
use Rattle.zb_campaign.proofs.total.total_of.Given as goal

abbrev pub invariant-loop-end : goal.invariant-loop-end
invariant-loop-end l = IsTotal l.ends l.end-index l.total
