-- What the text of a run's lines is read as.
use Rattle.std.specs.Prelude.{◌≡◌, ℕ, List, map, Result, IfOk, IfErr, Vec}
use Rattle.std.specs.Global.{Global}
use Rattle.zb_base.specs.declared.fault.OrMemory.{OrMemory}
use Rattle.law_audit_groups.specs.Printing.{printed}
use Rattle.zb_model.specs.Play.{Schedule, stations}
use Rattle.zb_model.specs.Transcript.{transcript}
use Rattle.zb_model_real.specs.Real.{real}
use Rattle.zb_trace_model.specs.Said.{text_of}
use Rattle.zb_trace.specs.Text.{AllProper, texts, words}
use Rattle.zb_trace.specs.Views.{logged}
use Rattle.zb_trace.specs.declared.line.Line.{Line}
use Rattle.zb_trace_read.specs.Faults.{IsNoMemory}
use Rattle.zb_trace_read.specs.declared.fault.TraceError.{TraceError}

-- the lines of a run as they are printed, and their text
abbrev pub lines_of_run : Schedule → List Line
lines_of_run w = printed (stations w) (transcript real w)

abbrev pub text_of_run : Schedule → List ℕ
text_of_run w = text_of (stations w) (transcript real w)

-- Lines are those of the run: word for word those that are printed, and in the model the run's.
pub record AreOfRun (w : Schedule) (lines : List Line) : Type 0 where
  pub printed_so : map words lines ≡ map words (lines_of_run w)
  pub logged_so : map (λ l. logged (stations w) l) lines ≡ transcript real w

-- The printed lines of a run are proper and have its text, and any proper lines that have this text are those of the
-- run.
pub record ReadsBack (w : Schedule) : Type 0 where
  pub proper : AllProper (lines_of_run w)
  pub text : texts (lines_of_run w) ≡ text_of_run w
  pub only : (lines : List Line) → AllProper lines → texts lines ≡ text_of_run w → AreOfRun w lines

-- What a reader answered of this text: the lines of the run, or out of memory.
pub record IsReadBack (w : Schedule) (result : Result (Vec Line Global) (OrMemory TraceError)) : Type 0 where
  pub found : IfOk result (λ lines. AreOfRun w lines.items)
  pub refused : IfErr result IsNoMemory
