use Rattle.zb_trace_watch.proofs.Starting.{new_stands}
use Rattle.zb_trace_watch.proofs.words.EndWords.new.Goals as goal

pub returns : goal.returns
returns c =
    λ tools counts.
    let from = c.new.ensures in
    let it = c.in_ok-new.ensures in
    new_stands tools counts c.new.result c.new-2.result c.in_ok-new.field-0 from.terms from.codes from.bases
    from.carriers from.traced from.ideal c.new-2.ensures.network c.new-2.ensures.forged c.new-2.ensures.passed
    it.settled it.ever it.removed it.carried it.based
