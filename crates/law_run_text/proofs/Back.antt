-- The text of a run is that of its printed lines, and the words of any lines with this text say which lines they are.
use Rattle.std.proofs.Common.{◌≡◌, ℕ, List, [], ◌∷◌, ◌++◌, map, Result, Ok, Err, IfOk, IfErr, Vec, refl, ap, sym, ◌∙◌}
use Rattle.std.specs.Global.{Global}
use Rattle.zb_base.specs.declared.fault.OrMemory.{OrMemory}
use Rattle.law_audit_groups.specs.Printing.{printed}
use Rattle.zb_model.specs.Data.{Station}
use Rattle.zb_model.specs.Lines as log
use Rattle.zb_model.specs.Play.{stations}
use Rattle.zb_model.specs.Transcript.{transcript}
use Rattle.zb_model_real.specs.Real.{real}
use Rattle.law_schedules.specs.Schedules.{schedule_of}
use Rattle.law_run_text.proofs.Schedules.{are_named}
use Rattle.law_run_text.proofs.Wide.{are_their_own}
use Rattle.law_run_text.specs.Back.{IsReadBack, ReadsBack, lines_of_run, text_of_run}
use Rattle.zb_trace_model.specs.Naming.{AreNamed}
use Rattle.zb_trace_model.specs.Said.{line_for, line_text, text_of, AreProper}
use Rattle.zb_trace_model.proofs.Lines.{said_again}
use Rattle.zb_trace_model.proofs.Words.{said, words_read}
use Rattle.zb_sched.specs.Schedules.{Schedule}
use Rattle.zb_sched.specs.Valid.{IsSchedule}
use Rattle.zb_trace.specs.Text.{Word, words, text, texts, AllProper}
use Rattle.zb_trace.specs.Views.{logged}
use Rattle.zb_trace.specs.declared.line.Line.{Line}
use Rattle.zb_trace_read.proofs.Taking.{one_text}
use Rattle.zb_trace_read.specs.Faults.{IsNoMemory}
use Rattle.zb_trace_read.specs.declared.fault.TraceError.{TraceError}

texts_are : (known : List Station) (ms : List log.Line) → texts (printed known ms) ≡ text_of known ms
unfolding text_of line_text
texts_are known [] = refl
texts_are known (m ∷ ms) = ap (λ rest. text (line_for known m) ++ rest) (texts_are known ms)

all_proper : (known : List Station) (ms : List log.Line) → AreProper known ms → AllProper (printed known ms)
all_proper known [] proper = tt
all_proper known (m ∷ ms) proper = (proper.0.words, all_proper known ms proper.1)

-- what words say, line by line
abbrev all_said : List Station → List (List Word) → List log.Line
all_said known ws = map (λ w. said known w) ws

said_back : (known : List Station) → AreNamed known → (ms : List log.Line) → AreProper known ms
    → all_said known (map words (printed known ms)) ≡ ms
said_back known fits [] proper = refl
said_back known fits (m ∷ ms) proper =
    ap (λ first. first ∷ all_said known (map words (printed known ms)))
    (words_read known (line_for known m) ∙ said_again known fits m proper.0.node)
    ∙ ap (λ rest. m ∷ rest) (said_back known fits ms proper.1)

all_logged : (known : List Station) (ls : List Line) → map (λ l. logged known l) ls ≡ all_said known (map words ls)
all_logged known [] = refl
all_logged known (l ∷ ls) =
    ap (λ first. first ∷ map (λ l. logged known l) ls) (sym (words_read known l)) ∙ ap
    (λ rest. said known (words l) ∷ rest) (all_logged known ls)

pub reads_back : (p : Schedule) → IsSchedule p → ReadsBack (schedule_of p)
reads_back p is =
    let w = schedule_of p in
    let known = stations w in
    let h = transcript real w in
    let fits = are_named p is in
    let own = (are_their_own p is).alone.proper in
    let proper = all_proper known h own in
    record {
      proper = proper;
      text = texts_are known h;
      only = λ ls all same.
          let words_same = one_text ls (printed known h) all proper (same ∙ sym (texts_are known h)) in
          record {
            printed_so = words_same;
            logged_so = all_logged known ls ∙
                (ap (all_said known) words_same ∙ said_back known fits h own);
          };
    }

-- what `read_lines` answers of this text
pub is_read_back : (p : Schedule) (bytes : List ℕ) (result : Result (Vec Line Global) (OrMemory TraceError))
    → IfOk result (λ lines. AllProper lines.items × (bytes ≡ texts lines.items))
    → ((ls : List Line) → AllProper ls → bytes ≡ texts ls → IfErr result IsNoMemory) → IsSchedule p → bytes
    ≡ text_of_run (schedule_of p) → IsReadBack (schedule_of p) result
is_read_back p bytes (Ok lines) found accepts is same =
    record { found = (reads_back p is).only lines.items found.0 (sym found.1 ∙ same); refused = tt }
is_read_back p bytes (Err e) found accepts is same =
    let back = reads_back p is in
    record { found = tt; refused = accepts (lines_of_run (schedule_of p)) back.proper (same ∙ sym back.text) }
