-- The text of a run is the text of no other lines.
use Rattle.std.specs.Prelude.{◌≡◌, List}
use Rattle.std.specs.List.{AllByRecursion}
use Rattle.zb_model.specs.Lines.{Line}
use Rattle.zb_model.specs.Play.{Schedule, stations}
use Rattle.zb_model.specs.Tools.{Tools}
use Rattle.zb_model.specs.Transcript.{transcript}
use Rattle.law_run_text.specs.Wide.{IsWide}
use Rattle.zb_trace_model.specs.Said.{AreProper, text_of}

abbrev pub AreWide : Tools → Schedule → Type 0
AreWide tools w = AllByRecursion IsWide (transcript tools w)

-- The lines of a run are proper, so that the text of them is the text of no other proper lines.
pub record StandAlone (tools : Tools) (w : Schedule) : Type 0 where
  pub proper : AreProper (stations w) (transcript tools w)
  pub alone : (lines : List Line) → AreProper (stations w) lines → text_of (stations w) lines
      ≡ text_of (stations w) (transcript tools w) → lines ≡ transcript tools w
