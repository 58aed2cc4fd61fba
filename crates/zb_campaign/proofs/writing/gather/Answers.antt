use Rattle.std.proofs.Common.{◌++◌, ap, sym, ◌∙◌}
use Rattle.zb_campaign.proofs.ShareLaws.{a_share_fails, all_joined, one_joined_more}
use Rattle.zb_campaign.proofs.writing.gather.Goals as goal

pub loop-share-preserved : goal.loop-share-preserved
loop-share-preserved c =
    one_joined_more c.args.played.now c.loop-share.share-index c.loop-share.all.items
    c.extend_from_slice.new.self.items c.share-item.result c.in-Ok.ends
    c.loop-share-test.true (sym c.share-item.is ∙ c.in-Ok.is)
    (c.in_ok-extend_from_slice-in-Ok.ensures.items ∙ ap (λ l. c.loop-share.all.items ++ l) c.as_slice.ensures.value)
    c.loop-share.invariant

pub returns-in-Err : goal.returns-in-Err
returns-in-Err c =
    a_share_fails c.args.played.now c.loop-share.share-index c.loop-share.all.items c.share-item.result c.in-Err.fault
    c.loop-share-test.true
    (sym c.share-item.is ∙ c.in-Err.is) c.loop-share.invariant

pub returns : goal.returns
returns c = all_joined c.args.played.now c.loop-share.share-index c.loop-share.all.items c.loop-share-test.false
    c.loop-share.invariant
