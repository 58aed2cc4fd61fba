use Rattle.zb_inspect.specs.Pieces.{HasShare}
use Rattle.zb_inspect.proofs.CutLaws.{zip_more}
use Rattle.zb_inspect.proofs.cut.unseen_pieces.Goals as goal

pub loop-share-preserved : goal.loop-share-preserved
loop-share-preserved c =
    zip_more HasShare c.loop-share.yielded c.loop-share.pieces.items c.push.new.self.items c.in-Some.share
    c.in_ok-unseen.field-0
    c.loop-share.invariant c.in_ok-unseen.ensures c.in_ok-push.ensures.items
