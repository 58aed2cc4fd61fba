use Rattle.std.specs.Str.Lines.{lines}
use Rattle.law_schedules.proofs.TextLemmas.{no_more, one_more, shown_fits, text_keeps}
use Rattle.law_schedules.proofs.texts.texts_read_as_schedules.Goals as goal

pub loop-line-preserved : goal.loop-line-preserved
loop-line-preserved c = record {
  fits = λ after. c.loop-line.invariant.fits
      (one_more c.in-Some.line.now (lines c.loop-line.rest.now) (lines c.in-Some.after.now) c.in-Some.ensures.value
      (shown_fits c.read_line.result c.in-Some.line.now c.read_line.ensures.value c.read_line.ensures.fits) after);
}

pub returns : goal.returns
returns c =
    text_keeps c.args.text.now
    (c.loop-line.invariant.fits (no_more (lines c.loop-line.rest.now) c.in_default.ensures.value))
