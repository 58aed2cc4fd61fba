-- The groups of a run: its start lines, the lines of each event that has some, and the end line.
use Rattle.std.specs.Prelude.{ℕ, ◌≡◌, ◌+◌, List, [], ◌∷◌, ◌++◌, length}
use Rattle.zb_audit_names.specs.Groups.{groups}
use Rattle.zb_model.specs.Lines as log
use Rattle.zb_model.specs.Play.{Schedule, Disk, Event, start, stations, step}
use Rattle.zb_model.specs.Tools.{Tools}
use Rattle.zb_model.specs.Transcript.{end_line, run_lines, transcript}
use Rattle.law_audit_groups.specs.Printing.{all_printed, printed}

-- one group more, if it has lines
abbrev pub with_group : List log.Line → List (List log.Line) → List (List log.Line)
with_group [] more = more
with_group (m ∷ g) more = (m ∷ g) ∷ more

-- the groups of these events, and of the end line
unfoldable pub groups_from : Tools → Schedule → List log.Line → List Disk → ℕ → List Event → log.Line
    → List (List log.Line)
groups_from tools w h disks number [] last = (last ∷ []) ∷ []
groups_from tools w h disks number (event ∷ events) last =
    let g = step tools w h disks number event in
    with_group g.lines (groups_from tools w (h ++ g.lines) g.disks (number + 1) events last)

abbrev pub groups_of : Tools → Schedule → List (List log.Line)
groups_of tools w =
    with_group (start w)
    (groups_from tools w (start w) [] 1 w.events (end_line tools (length w.events) (run_lines tools w)))

abbrev pub IsGrouped : Tools → Schedule → Type 0
IsGrouped tools w = groups (printed (stations w) (transcript tools w)) ≡ all_printed (stations w) (groups_of tools w)
