-- The lines of the model as they are printed.
use Rattle.std.specs.Prelude.{List, map}
use Rattle.zb_model.specs.Data.{Station}
use Rattle.zb_model.specs.Lines as log
use Rattle.zb_trace_model.specs.Said.{line_for}
use Rattle.zb_trace.specs.declared.line.Line.{Line}

-- with the names of these nodes
abbrev pub printed : List Station → List log.Line → List Line
printed known h = map (λ m. line_for known m) h

abbrev pub all_printed : List Station → List (List log.Line) → List (List Line)
all_printed known before = map (λ h. printed known h) before
