use Rattle.zb_campaign.proofs.RunLaws.{AreRun}
use Rattle.zb_campaign.proofs.runs.play_share.Given as goal

abbrev pub invariant-loop-i : goal.invariant-loop-i
invariant-loop-i l = AreRun l.start l.share.first l.share.count l.i l.ends.items
