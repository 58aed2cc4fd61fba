use Rattle.std.proofs.Common.{◌≡◌, ◌∙◌, Result, Ok, Err, length, map, ap, sym, subst, arith}
use Rattle.std.proofs.lemmas.Result.{err_from_is_err_and}
use Rattle.std.specs.Int.{div_ceil}
use Rattle.zb_campaign.specs.Campaigns.{campaigned, endings}
use Rattle.zb_campaign.specs.Outcomes.{IsBegun, IsWritten}
use Rattle.zb_campaign.proofs.RunLaws.{as_many, not_written}
use Rattle.zb_campaign.proofs.ShareLaws.{within_all}
use Rattle.zb_campaign.proofs.Shown.{is_campaign}
use Rattle.zb_model.specs.Data.{Bytes}
use Rattle.zb_player.specs.Runs.{last_line}
use Rattle.zb_sched.specs.declared.error.SchedError.{SchedError}
use Rattle.zb_campaign.proofs.writing.campaign.Goals as goal
use Rattle.zb_campaign.proofs.writing.campaign.Goals.{After-as_slice, After-write}

pub play_all-requires-after_bounds : goal.play_all-requires-after_bounds
play_all-requires-after_bounds g c κs within =
    within_all c.args.start (div_ceil c.args.count c.args.jobs) 0 0 c.args.count c.in_ok-shares.shares.items
    c.in_ok-shares.ensures.cut
    (omega (arith, c.requires.start, c.requires.count))

pub returns-in_err-ends-clause-ends : goal.returns-in_err-ends-clause-ends
returns-in_err-ends-clause-ends g c =
    let p = err_from_is_err_and c.from_residual-in_err-ends.result c.from_residual-in_err-ends.ensures.1 in
    rw (p.1, p.2)
    (not_written c.args.count c.args.start c.in_err-ends.field-0.0 (g.W.Sink.taken c.args.out.now)
    (g.W.Sink.faults c.args.out.now)
    (c.in_err-ends.ensures (div_ceil c.args.count c.args.jobs) c.args.count c.in_ok-shares.ensures.cut))

-- The ends of all runs.
played : (g : _) (c : After-as_slice g) → endings c.args.start 0 c.args.count
    ≡ Ok (map last_line c.in_ok-ends.ends.items)
played g c = c.in_ok-ends.ensures (div_ceil c.args.count c.args.jobs) c.args.count c.in_ok-shares.ensures.cut

pub print-requires : goal.print-requires
print-requires g c =
    let same : length c.as_slice.result.now ≡ c.args.count =
    ap length c.as_slice.ensures.value ∙ as_many c.args.start 0 c.args.count c.in_ok-ends.ends.items (played g c) in
    omega (arith, same, c.requires.count)

-- What is written is the campaign.
written : (g : _) (c : After-write g) → campaigned c.args.count c.args.start ≡ Ok c.as_slice-2.result.now
written g c =
    is_campaign c.args.count c.args.start c.in_ok-ends.ends.items c.as_slice.result.now c.in_ok-page.page.items
    c.as_slice-2.result.now
    (c.in_ok-ends.ensures (div_ceil c.args.count c.args.jobs) c.args.count c.in_ok-shares.ensures.cut)
    c.as_slice.ensures.value c.in_ok-page.ensures
    c.as_slice-2.ensures.value

pub returns-in_err-write-clause-ends : goal.returns-in_err-write-clause-ends
returns-in_err-write-clause-ends g c =
    let d = (goal.at.returns-in_err-write-clause-ends g c).After-write in
    let p = err_from_is_err_and c.from_residual-in_err-write.result c.from_residual-in_err-write.ensures.1 in
    let P : Result Bytes SchedError → Type 0 = λ wanted. IsBegun wanted (g.W.Sink.taken c.args.out.now)
    (g.W.Sink.taken c.write.new.self) in
    rw (p.1, p.2) (c.in_err-write.ensures.cause.failed, subst P (sym (written g d)) c.in_err-write.ensures.front)

pub returns-in_err-write-clause-unrisen : goal.returns-in_err-write-clause-unrisen
returns-in_err-write-clause-unrisen g c = λ not_written.
    let p = err_from_is_err_and c.from_residual-in_err-write.result c.from_residual-in_err-write.ensures.1 in
    absurd (not_written (p.1 ∙ ap (λ e. Err e) p.2))

pub returns-clause-ends : goal.returns-clause-ends
returns-clause-ends g c =
    let d = (goal.at.returns-clause-ends g c).After-write in
    let P : Result Bytes SchedError → Type 0 = λ wanted. IsWritten wanted (g.W.Sink.taken c.args.out.now)
    (g.W.Sink.taken c.write.new.self) in
    subst P (sym (written g d)) c.in_ok-write.ensures.whole
