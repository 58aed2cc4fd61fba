use Rattle.std.proofs.Common.{length}
use Rattle.std.specs.List.{AllByRecursion}
use Rattle.std.specs.Str.Lines.{lines}
use Rattle.law_schedules.proofs.TextLemmas.{LineFits}
use Rattle.law_schedules.proofs.texts.texts_read_as_schedules.Given as goal

-- if what the lines to come say is in its range, then what all lines say is
abbrev pub invariant-loop-line : goal.invariant-loop-line
invariant-loop-line l = record {
  fits : AllByRecursion LineFits (lines l.rest) → AllByRecursion LineFits (lines l.text);
}

abbrev pub decreases-loop-line : goal.decreases-loop-line
decreases-loop-line l = length l.rest
