-- The groups of a transcript: the longest runs of lines with one event number.
use Rattle.std.specs.Prelude.{ℕ, Bool, false, if◌then◌else◌, List, [], ◌∷◌, nat_eq, Option, Some, None, flat_map}
use Rattle.zb_trace.specs.declared.line.Line.{Line}
use Rattle.zb_trace.specs.declared.line.Line.TheVariants as line

-- The number of a line's event: 0 at the start, `None` for the end line.
unfoldable pub event_of : Line → Option ℕ
event_of (line.Node name r eui short out_block in_block) = Some 0
event_of (line.GivenNet node key sequence) = Some 0
event_of (line.GivenLink node partner key) = Some 0
event_of (line.Counter node l limit) = Some 0
event_of (line.Reserve event node l limit) = Some event
event_of (line.Floor event node l key sender value) = Some event
event_of (line.Draw event key) = Some event
event_of (line.DropNet event node key) = Some event
event_of (line.DropLink event node partner key) = Some event
event_of (line.Install event node key sequence) = Some event
event_of (line.Active event node key) = Some event
event_of (line.Start event node key value) = Some event
event_of (line.Row event node partner key a) = Some event
event_of (line.Pair event node first second key) = Some event
event_of (line.State event node s) = Some event
event_of (line.Live event device) = Some event
event_of (line.Removed event device) = Some event
event_of (line.Roll event node r) = Some event
event_of (line.Told event device) = Some event
event_of (line.Untold event device) = Some event
event_of (line.Commit event node) = Some event
event_of (line.Accept event node t) = Some event
event_of (line.Refuse event node r) = Some event
event_of (line.Seal event node t) = Some event
event_of (line.Forge event t) = Some event
event_of (line.Send event node frame bytes) = Some event
event_of (line.Inject event frame bytes) = Some event
event_of (line.Stopped event node) = Some event
event_of (line.DownReset event node) = Some event
event_of (line.DownDisk event node) = Some event
event_of (line.Boot event node) = Some event
event_of (line.Dump event node bytes) = Some event
event_of (line.End events seals accepts refusals ideal private) = None

-- Whether both are of one event. A line without an event is in none.
abbrev pub same_event : Option ℕ → Option ℕ → Bool
same_event None other = false
same_event (Some event) None = false
same_event (Some event) (Some other) = nat_eq event other

-- A line before groups: it joins the first group, if that is of its event.
abbrev pub onto : Line → List (List Line) → List (List Line)
onto l ((m ∷ run) ∷ runs) = if same_event (event_of l) (event_of m) then (l ∷ m ∷ run) ∷ runs
    else (l ∷ []) ∷ (m ∷ run) ∷ runs
onto l runs = (l ∷ []) ∷ runs

unfoldable pub groups : List Line → List (List Line)
groups [] = []
groups (l ∷ ls) = onto l (groups ls)

-- The lines of groups.
abbrev pub flat : List (List Line) → List Line
flat gs = flat_map (λ (g : List Line). g) gs
