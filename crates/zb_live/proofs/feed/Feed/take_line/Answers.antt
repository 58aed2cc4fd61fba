use Rattle.std.proofs.Common.{◌∙◌, arith, refl, sym}
use Rattle.zb_live.proofs.LineLemmas.{long_feed, long_rest, no_line, taken_line}
use Rattle.zb_live.proofs.feed.Feed.take_line.Goals as goal

pub returns-then-end-gt-LONGEST_LINE-clause-fault : goal.returns-then-end-gt-LONGEST_LINE-clause-fault
returns-then-end-gt-LONGEST_LINE-clause-fault c =
    long_feed c.args.self.now.held.items c.as_slice.result.now c.in-Some.end c.as_slice.ensures.value
    (sym c.line_feed.ensures ∙ c.in-Some.is) c.if-end-gt-LONGEST_LINE.true

pub returns-in-Some-clause-next : goal.returns-in-Some-clause-next
returns-in-Some-clause-next c =
    let taken = taken_line c.args.self.now.held.items c.as_slice.result.now c.in_ok-line.line.items
    c.cut.new.self.held.items c.in-Some.end c.as_slice.ensures.value (sym c.line_feed.ensures ∙ c.in-Some.is)
    c.in_ok-line.ensures.line c.in_ok-line.ensures.long in (
      taken.0,
      taken.1,
      omega (arith, c.in_ok-line.ensures.long, c.if-end-gt-LONGEST_LINE.false),
    )

pub returns-then-len-gt-LONGEST_LINE-clause-fault : goal.returns-then-len-gt-LONGEST_LINE-clause-fault
returns-then-len-gt-LONGEST_LINE-clause-fault c =
    long_rest c.args.self.now.held.items c.as_slice.result.now c.as_slice.ensures.value
    (sym c.line_feed.ensures ∙ c.in_default.is) (omega (arith, c.len.ensures, c.if-len-gt-LONGEST_LINE.true))

pub returns-clause-next : goal.returns-clause-next
returns-clause-next c = (
  refl,
  no_line c.args.self.now.held.items c.as_slice.result.now c.as_slice.ensures.value
      (sym c.line_feed.ensures ∙ c.in_default.is),
  omega (arith, c.len.ensures, c.if-len-gt-LONGEST_LINE.false),
)
