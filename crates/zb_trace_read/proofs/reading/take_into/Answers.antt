-- The text begins with the text of a line exactly if what is before its first line feed is read as a line.
use Rattle.std.proofs.Common.{◌∙◌, sym}
use Rattle.zb_trace_read.proofs.Taking.{no_line, begins_with, read_fits, read_none, read_some, is_text, rest_is_shorter}
use Rattle.zb_trace_read.proofs.reading.take_into.Goals as goal

pub returns-in_default-clause-none : goal.returns-in_default-clause-none
returns-in_default-clause-none c = λ l more proper e. no_line c.args.text.now l more proper e c.in_default.ensures

pub returns-in-Some-2-clause-found : goal.returns-in-Some-2-clause-found
returns-in-Some-2-clause-found c = (
  read_fits c.in_ok-read_line.field-0 _ c.read_line.new.line c.in_ok-read_line.ensures.fits c.in-Some-2.is,
  is_text c.args.text.now c.in-Some.front.now c.in-Some.rest.now c.read_line.new.line c.in-Some.ensures
      (read_some c.in_ok-read_line.field-0 _ c.read_line.new.line _ c.in_ok-read_line.ensures.value c.in-Some-2.is),
)

pub returns-in-Some-2-clause-none : goal.returns-in-Some-2-clause-none
returns-in-Some-2-clause-none c = rest_is_shorter c.args.text.now c.in-Some.front.now c.in-Some.rest.now
    c.in-Some.ensures

pub returns-in-None-clause-none : goal.returns-in-None-clause-none
returns-in-None-clause-none c =
    λ l more proper e.
    let nothing = read_none c.in_ok-read_line.field-0 c.read_line.new.line _ c.in_ok-read_line.ensures.value
    c.in-None.is in
    let something = begins_with c.args.text.now c.in-Some.front.now _ l more proper e c.in-Some.ensures in
    cc (sym nothing ∙ something)
