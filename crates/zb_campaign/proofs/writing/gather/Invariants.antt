use Rattle.zb_campaign.proofs.ShareLaws.{AreJoined}
use Rattle.zb_campaign.proofs.writing.gather.Given as goal

abbrev pub invariant-loop-share : goal.invariant-loop-share
invariant-loop-share l = AreJoined l.played l.share-index l.all.items
