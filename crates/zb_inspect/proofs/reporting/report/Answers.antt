use Rattle.std.proofs.Common.{◌≡◌, ◌++◌, ◌∙◌, ℕ, List, Err, ap, subst}
use Rattle.std.specs.Io.KnownBytes.{Appends}
use Rattle.zb_base.specs.Outside.{AppendsFront}
use Rattle.std.proofs.lemmas.Result.{err_from_is_err_and}
use Rattle.zb_inspect.specs.Texts.{pages_text}
use Rattle.zb_inspect.specs.Rings.{keys_of}
use Rattle.zb_inspect.specs.Report.{report_of}
use Rattle.zb_inspect.proofs.Printed.{is_report, room_in_pieces}
use Rattle.zb_inspect.proofs.reporting.report.Goals as goal
use Rattle.zb_inspect.proofs.reporting.report.Goals.{After-write_all}

pub print_all-requires-after_bounds : goal.print_all-requires-after_bounds
print_all-requires-after_bounds g c κs within =
    room_in_pieces c.args.capture.now (keys_of c.in_ok-opened.opened.ring.keys) c.in_ok-opened.opened.pieces.items
    c.requires.capture
    c.in_ok-opened.ensures.pieces c.in_ok-opened.ensures.shown

-- The lines that are written are the report.
reported : (g : _) (c : After-write_all g) → pages_text c.as_slice.result.now ++ c.as_slice-2.result.now
    ≡ report_of c.args.capture.now
reported g c =
    is_report c.args.capture.now c.in_ok-opened.opened.ring c.in_ok-opened.opened.pieces.items c.len-frames.result
    (pages_text c.as_slice.result.now) c.as_slice-2.result.now
    c.in_ok-opened.ensures.ring c.in_ok-opened.ensures.pieces c.in_ok-opened.ensures.shown c.len-frames.ensures
    (ap pages_text c.as_slice.ensures.value ∙ c.in_ok-pages.ensures)
    (c.as_slice-2.ensures.value ∙ c.in_ok-tail.ensures)

pub returns-in_err-write_all-clause-ends : goal.returns-in_err-write_all-clause-ends
returns-in_err-write_all-clause-ends g c =
    let d = (goal.at.returns-in_err-write_all-clause-ends g c).After-write_all in
    let p = err_from_is_err_and c.from_residual-in_err-write_all.result c.from_residual-in_err-write_all.ensures.1 in
    let P : List ℕ → Type 0 = λ text. AppendsFront (g.W.Sink.taken c.args.out.now)
    (g.W.Sink.taken c.write_all.new.out) text in
    rw (p.1, p.2) (c.in_err-write_all.ensures.cause.failed, subst P (reported g d) c.in_err-write_all.ensures.front)

pub returns-in_err-write_all-clause-unrisen : goal.returns-in_err-write_all-clause-unrisen
returns-in_err-write_all-clause-unrisen g c = λ not_written.
    let p = err_from_is_err_and c.from_residual-in_err-write_all.result c.from_residual-in_err-write_all.ensures.1 in
    absurd (not_written (p.1 ∙ ap (λ e. Err e) p.2))

pub returns-clause-ends : goal.returns-clause-ends
returns-clause-ends g c =
    let d = (goal.at.returns-clause-ends g c).After-write_all in
    let P : List ℕ → Type 0 = λ text. Appends (g.W.Sink.taken c.args.out.now) (g.W.Sink.taken c.write_all.new.out)
    text in
    subst P (reported g d) c.in_ok-write_all.ensures.whole
