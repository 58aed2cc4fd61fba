-- What a line of the model is as text: that of the program's line which says it.
use Rattle.std.specs.Prelude.{◌≡◌, ℕ, List, [], codes, Option, Some, None, ⊤}
use Rattle.std.specs.List.{AllByRecursion, flat_map}
use Rattle.arrayvec.specs.ArrayString.{ArrayString}
use Rattle.zb_model.specs.Data as model
use Rattle.zb_model.specs.Data.{Station}
use Rattle.zb_model.specs.Lines as log
use Rattle.zb_model_real.specs.Terms.{layer_of, eui_of, key_of, term_of}
use Rattle.zb_trace_model.specs.Naming.{name_of, IsDeclared}
use Rattle.zb_trace_model.specs.Parts.{role_for, state_for, attribute_for, rollover_for, place_for, refusal_for}
use Rattle.zb_trace.specs.Text as trace
use Rattle.zb_trace.specs.Text.{text}
use Rattle.zb_trace.specs.Views.{logged, the_centre}
use Rattle.zb_trace.specs.declared.line.Line.{Line}
use Rattle.zb_trace.specs.declared.line.Line.TheVariants as line

-- a name in the room for one
abbrev pub name_in : List ℕ → ArrayString
name_in name = record { bytes = name; spare = [] }

abbrev pub called : List Station → ℕ → ArrayString
called known n = name_in (name_of known n)

-- who sent a frame: a node, or an outsider that forged it
abbrev pub sender : List Station → Option ℕ → ArrayString
sender known None = name_in (codes "-")
sender known (Some n) = called known n

-- A change by the policy's rules. Draws, and devices that are live, removed, told or not, are the centre's: their
-- lines name no node.
abbrev pub move_line : ℕ → ArrayString → model.Move → Line
move_line event node (model.Draw key) = line.Draw event (key_of key)
move_line event node (model.DropNet key) = line.DropNet event node (key_of key)
move_line event node (model.DropLink partner key) = line.DropLink event node (eui_of partner) (key_of key)
move_line event node (model.Install key sequence) = line.Install event node (key_of key) sequence
move_line event node (model.Active key) = line.Active event node (key_of key)
move_line event node (model.Row partner key a) = line.Row event node (eui_of partner) (key_of key) (attribute_for a)
move_line event node (model.Pair first second key) = line.Pair event node (eui_of first) (eui_of second) (key_of key)
move_line event node (model.Became s) = line.State event node (state_for s)
move_line event node (model.Live device) = line.Live event (eui_of device)
move_line event node (model.Removed device) = line.Removed event (eui_of device)
move_line event node (model.Roll sending) = line.Roll event node (rollover_for sending)
move_line event node (model.Told device) = line.Told event (eui_of device)
move_line event node (model.Untold device) = line.Untold event (eui_of device)

abbrev pub edit_line : ℕ → ArrayString → model.Edit → Line
edit_line event node (model.Reserve l limit) = line.Reserve event node (layer_of l) limit
edit_line event node (model.Floor l key from value) = line.Floor event node (layer_of l) (key_of key) (eui_of from)
    value
edit_line event node (model.Start key value) = line.Start event node (key_of key) value
edit_line event node (model.Moved move) = move_line event node move

-- The program's line for a line of the model, with the names of these nodes.
unfoldable pub line_for : List Station → log.Line → Line
line_for known (log.Declared p) =
    line.Node (name_in p.name) (role_for p.role) (eui_of p.eui) (record { 0 = p.short }) p.out_block p.in_block
line_for known (log.GivenNet n key sequence) = line.GivenNet (called known n) (key_of key) sequence
line_for known (log.GivenLink n partner key) = line.GivenLink (called known n) (eui_of partner) (key_of key)
line_for known (log.Counter n l limit) = line.Counter (called known n) (layer_of l) limit
line_for known (log.Changed event n e) = edit_line event (called known n) e
line_for known (log.Commit event n) = line.Commit event (called known n)
line_for known (log.Accept event n t) = line.Accept event (called known n) (term_of t)
line_for known (log.Refuse event n at why) = line.Refuse event (called known n) (refusal_for (place_for at) why)
line_for known (log.Seal event n t) = line.Seal event (called known n) (term_of t)
line_for known (log.Forge event t) = line.Forge event (term_of t)
line_for known (log.Send event from frame bytes) = line.Send event (sender known from) frame (record { items = bytes })
line_for known (log.Inject event frame bytes) = line.Inject event frame (record { items = bytes })
line_for known (log.Stopped event n) = line.Stopped event (called known n)
line_for known (log.DownReset event n) = line.DownReset event (called known n)
line_for known (log.DownDisk event n) = line.DownDisk event (called known n)
line_for known (log.Boot event n) = line.Boot event (called known n)
line_for known (log.Dump event n bytes) = line.Dump event (called known n) bytes
line_for known (log.End events seals accepts refusals ideal private) = line.End events seals accepts refusals ideal
    private

-- The text of a line of the model, and of lines, with the names of these nodes.
unfoldable pub line_text : List Station → log.Line → List ℕ
line_text known m = text (line_for known m)

unfoldable pub text_of : List Station → List log.Line → List ℕ
text_of known lines = flat_map (λ m. line_text known m) lines

-- The program's line is that line of the model, and has its text.
pub record IsLineOf (known : List Station) (l : Line) (m : log.Line) : Type 0 where
  pub logged_is : logged known l ≡ m
  pub text_is : text l ≡ line_text known m

-- A change whose line names no node is of the centre.
abbrev pub IsOfCentre : List Station → ℕ → model.Edit → Type 0
IsOfCentre known n (model.Moved (model.Draw key)) = the_centre known ≡ n
IsOfCentre known n (model.Moved (model.Live device)) = the_centre known ≡ n
IsOfCentre known n (model.Moved (model.Removed device)) = the_centre known ≡ n
IsOfCentre known n (model.Moved (model.Told device)) = the_centre known ≡ n
IsOfCentre known n (model.Moved (model.Untold device)) = the_centre known ≡ n
IsOfCentre known n _ = ⊤

-- A line is of a declared node, or of none.
abbrev pub IsOfNodes : List Station → log.Line → Type 0
IsOfNodes known (log.Declared p) = ⊤
IsOfNodes known (log.GivenNet n key sequence) = IsDeclared known n
IsOfNodes known (log.GivenLink n partner key) = IsDeclared known n
IsOfNodes known (log.Counter n l limit) = IsDeclared known n
IsOfNodes known (log.Changed event n e) = IsDeclared known n × IsOfCentre known n e
IsOfNodes known (log.Commit event n) = IsDeclared known n
IsOfNodes known (log.Accept event n t) = IsDeclared known n
IsOfNodes known (log.Refuse event n at why) = IsDeclared known n
IsOfNodes known (log.Seal event n t) = IsDeclared known n
IsOfNodes known (log.Forge event t) = ⊤
IsOfNodes known (log.Send event None frame bytes) = ⊤
IsOfNodes known (log.Send event (Some n) frame bytes) = IsDeclared known n
IsOfNodes known (log.Inject event frame bytes) = ⊤
IsOfNodes known (log.Stopped event n) = IsDeclared known n
IsOfNodes known (log.DownReset event n) = IsDeclared known n
IsOfNodes known (log.DownDisk event n) = IsDeclared known n
IsOfNodes known (log.Boot event n) = IsDeclared known n
IsOfNodes known (log.Dump event n bytes) = IsDeclared known n
IsOfNodes known (log.End events seals accepts refusals ideal private) = ⊤

-- A line that may stand in a transcript: of a declared node or of none, its numbers in their ranges, and its keys of
-- 16 bytes.
pub record IsProper (known : List Station) (m : log.Line) : Type 0 where
  pub node : IsOfNodes known m
  pub words : trace.IsProper (line_for known m)

abbrev pub AreProper : List Station → List log.Line → Type 0
AreProper known lines = AllByRecursion (λ m. IsProper known m) lines
