use Rattle.std.proofs.Common.{get_or, sym, ◌∙◌, subst, List}
use Rattle.zb_campaign.specs.Answers.{Answers, last_lines}
use Rattle.zb_campaign.specs.Campaigns.{endings}
use Rattle.zb_campaign.proofs.ShareLaws.{AreAnswered, Came, each_answered, played_all, wanted_of}
use Rattle.zb_parallel.specs.declared.share.Share.{Share}
use Rattle.zb_campaign.proofs.writing.play_all.Goals as goal

pub returns : goal.returns
returns g c = λ size count cut.
    let shares = c.args.shares.items in
    let played = c.in_ok-played.played in
    let each : AreAnswered played.items (wanted_of c.args.start shares) =
    each_answered c.args.start shares played.items (sym played.ok.0 ∙ c.in_ok-played.ensures.len ∙ c.args.shares.ok.0)
    (λ i d e within.
    let j = (c.in_ok-played.ensures.each i d within).1 in
    let P : Share → Type 0 = λ share. Answers last_lines (get_or played.items i d)
    (endings c.args.start share.first share.count) in
    subst P (sym (j.job_is e)) j.call.met) in
    let A : List Came → Type 0 = λ came. AreAnswered came (wanted_of c.args.start shares) in
    played_all c.args.start size count shares c.as_slice.result.now c.gather.result cut
    (subst A (sym c.as_slice.ensures.value) each) c.gather.ensures
