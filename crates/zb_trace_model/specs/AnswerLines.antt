-- The lines of an answer, and what a teller asks of a line.
use Rattle.std.specs.Prelude.{◌≡◌, ℕ, List, [], ◌∷◌, ◌++◌, map, Bool, true, false, Option, Some, None, option_map, option_to_list}
use Rattle.std.specs.List.{AllByRecursion}
use Rattle.arrayvec.specs.ArrayVec.{ArrayVec}
use Rattle.zb_host.specs.declared.outcome.Outcome.{Outcome}
use Rattle.zb_host.specs.declared.plan.Plan.{Plan}
use Rattle.zb_model.specs.Data as model
use Rattle.zb_model.specs.Data.{Station, Edit, Move, Reserve, Floor, Start, Moved, Draw, DropNet, DropLink, Install, Active, Row, Pair, Became, Live, Removed, Roll, Told, Untold}
use Rattle.zb_model.specs.Lines as log
use Rattle.zb_model.specs.Play.{change_lines, commit_lines, send_lines}
use Rattle.zb_model_real.specs.Terms.{model_term}
use Rattle.zb_node_types.specs.Changes.{edit, edits, model_place, place_of, reason}
use Rattle.zb_node_types.specs.declared.change.Change.{Change}
use Rattle.zb_node_types.specs.declared.refusal.Refusal.{Refusal}
use Rattle.zb_seal.specs.declared.term.Term.{Term}
use Rattle.zb_trace.specs.Text.{text}
use Rattle.zb_trace.specs.Views.{logged}
use Rattle.zb_trace.specs.declared.line.Line.{Line}
use Rattle.zb_trace_model.specs.Said.{IsOfCentre, line_text}

-- whether a line declares a node
abbrev pub declares_node : log.Line → Bool
declares_node (log.Declared p) = true
declares_node _ = false

-- whether a change has a key
abbrev pub move_has_key : Move → Bool
move_has_key (Draw key) = true
move_has_key (DropNet key) = true
move_has_key (DropLink partner key) = true
move_has_key (Install key sequence) = true
move_has_key (Active key) = true
move_has_key (Row partner key attribute) = true
move_has_key (Pair first second key) = true
move_has_key (Became state) = false
move_has_key (Live device) = false
move_has_key (Removed device) = false
move_has_key (Roll sending) = false
move_has_key (Told device) = false
move_has_key (Untold device) = false

abbrev pub edit_has_key : Edit → Bool
edit_has_key (Reserve layer limit) = false
edit_has_key (Floor layer key sender value) = true
edit_has_key (Start key value) = true
edit_has_key (Moved move) = move_has_key move

-- whether a line of an event has a key
abbrev pub has_key : log.Line → Bool
has_key (log.Changed event n e) = edit_has_key e
has_key (log.Accept event n t) = true
has_key (log.Seal event n t) = true
has_key _ = false

-- whether a line of the program has a key
abbrev pub line_has_key : Line → Bool
line_has_key l = has_key (logged [] l)

-- The program's line is that line of the model for a teller: it has its text and its key, and a teller that reads
-- lines reads it. The line declares no node.
pub record IsSaid (reads : Bool) (known : List Station) (l : Line) (m : log.Line) : Type 0 where
  pub text_is : text l ≡ line_text known m
  pub key_is : line_has_key l ≡ has_key m
  pub logged_is : reads ≡ true → logged known l ≡ m
  pub plain : declares_node m ≡ false

-- Each change whose line names no node is of the centre.
abbrev pub AreOfCentre : List Station → ℕ → List Change → Type 0
AreOfCentre known n changes = AllByRecursion (λ (c : Change). IsOfCentre known n (edit c)) changes

-- The most lines for the changes that an event stores.
abbrev pub most_stored_lines : ℕ
most_stored_lines = 17

-- The most lines of an answer.
abbrev pub most_answer_lines : ℕ
most_answer_lines = 23

-- changes, and that they are stored
abbrev pub lines_of_edits : ℕ → ℕ → List model.Edit → List log.Line
lines_of_edits event n edits = change_lines event n edits ++ commit_lines event n edits

abbrev pub listed : Option Term → List model.Term
listed term = option_to_list (option_map model_term term)

-- the terms of two layers, in this order
abbrev pub terms : Option Term → Option Term → List model.Term
terms first None = listed first
terms first (Some second) = listed first ++ model_term second ∷ []

abbrev pub refused_lines : ℕ → ℕ → Option Refusal → List log.Line
refused_lines event n None = []
refused_lines event n (Some r) = log.Refuse event n (model_place (place_of r)) (reason r) ∷ []

-- the bytes of a frame
abbrev pub frame_bytes : Option (ArrayVec ℕ) → Option (List ℕ)
frame_bytes frame = option_map (λ (f : ArrayVec ℕ). f.items) frame

-- what was accepted (NWK, then APS), the refusal, what was sealed (APS, then NWK), and the frame, which has that
-- number
unfoldable pub outcome_lines : ℕ → ℕ → ℕ → Outcome Term Refusal → List log.Line
outcome_lines event n frame out =
    map (log.Accept event n) (terms out.accepted_nwk out.accepted_aps)
    ++ (refused_lines event n out.refused
    ++ (map (log.Seal event n) (terms out.sealed_aps out.sealed_nwk)
    ++ send_lines event (Some n) frame (frame_bytes out.frame)))

-- what was stored, and then what goes out
abbrev pub answer_lines : ℕ → ℕ → ℕ → Plan (Outcome Term Refusal) → List log.Line
answer_lines event n frame plan =
    lines_of_edits event n (edits plan.changes.items) ++ outcome_lines event n frame plan.out
