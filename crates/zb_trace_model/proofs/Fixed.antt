-- The text of lines fixes the lines: its words do, and they say which lines they are.
use Rattle.std.proofs.Common.{◌≡◌, List, [], ◌∷◌, ◌++◌, map, refl, ap, sym, ◌∙◌}
use Rattle.zb_model.specs.Data.{Station}
use Rattle.zb_model.specs.Lines as log
use Rattle.zb_trace.specs.Text.{Word, words, text, texts, AllProper}
use Rattle.zb_trace.specs.declared.line.Line.{Line}
use Rattle.zb_trace_read.proofs.Taking.{one_text}
use Rattle.zb_trace_model.specs.Naming.{AreNamed}
use Rattle.zb_trace_model.specs.Said.{line_for, line_text, text_of, AreProper}
use Rattle.zb_trace_model.proofs.Lines.{said_again}
use Rattle.zb_trace_model.proofs.Words.{said, words_read}

abbrev lines_for : List Station → List log.Line → List Line
lines_for known ms = map (λ m. line_for known m) ms

texts_are : (known : List Station) (ms : List log.Line) → text_of known ms ≡ texts (lines_for known ms)
unfolding text_of line_text
texts_are known [] = refl
texts_are known (m ∷ ms) = ap (λ rest. text (line_for known m) ++ rest) (texts_are known ms)

all_proper : (known : List Station) (ms : List log.Line) → AreProper known ms → AllProper (lines_for known ms)
all_proper known [] proper = tt
all_proper known (m ∷ ms) proper = (proper.0.words, all_proper known ms proper.1)

abbrev all_said : List Station → List (List Word) → List log.Line
all_said known ws = map (λ w. said known w) ws

said_back : (known : List Station) → AreNamed known → (ms : List log.Line) → AreProper known ms
    → all_said known (map words (lines_for known ms)) ≡ ms
said_back known fits [] proper = refl
said_back known fits (m ∷ ms) proper =
    ap (λ first. first ∷ all_said known (map words (lines_for known ms)))
    (words_read known (line_for known m) ∙ said_again known fits m proper.0.node)
    ∙ ap (λ rest. m ∷ rest) (said_back known fits ms proper.1)

pub text_fixes : (known : List Station) → AreNamed known → (hs gs : List log.Line) → AreProper known hs
    → AreProper known gs → text_of known hs ≡ text_of known gs → hs ≡ gs
text_fixes known fits hs gs proper_h proper_g same =
    let lines_same = one_text (lines_for known hs) (lines_for known gs) (all_proper known hs proper_h)
    (all_proper known gs proper_g) (sym (texts_are known hs) ∙ (same ∙ texts_are known gs)) in
    sym (said_back known fits hs proper_h) ∙ (ap (all_said known) lines_same ∙ said_back known fits gs proper_g)
