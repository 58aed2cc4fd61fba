-- Runs whose bench puts disks under nodes that are down.
use Rattle.std.specs.Prelude.{◌≡◌, ℕ, ◌+◌, ◌≤◌, false, List, [], ◌∷◌, ◌++◌, length, take, Option, Some, None, ⊤}
use Rattle.std.specs.Io.KnownBytes.{Appends}
use Rattle.zb_base.specs.Outside.{AppendsFront}
use Rattle.zb_disk.specs.Memory.{Medium}
use Rattle.zb_model.specs.Lines.{Line}
use Rattle.zb_model.specs.Play.{Event, Schedule, start}
use Rattle.zb_model.specs.Transcript.{end_line}
use Rattle.zb_model_real.specs.Real.{real}
use Rattle.law_run_steps.specs.Conditions.{Condition}
use Rattle.law_run_steps.specs.Swaps.{Passed, Stood, first_nodes, node_of, one_passed, swapped, swapped_groups, swapped_lines, swapped_transcript}
use Rattle.law_schedules.specs.Schedules.{schedule_of}
use Rattle.zb_player.specs.Playing.{RunIn, passed_by}
use Rattle.zb_player.specs.Runs.{IsPlayed, acts_of, last_line, text_in}
use Rattle.zb_player.specs.declared.run.Run.{Run}
use Rattle.zb_player.specs.declared.summary.Summary.{Summary}
use Rattle.zb_player_events.specs.Nodes.{CanBootFrom}
use Rattle.zb_player_scribe.specs.Pages.{IsFor}
use Rattle.zb_sched.specs.Schedules as sched
use Rattle.zb_sched_line.specs.Said as said
use Rattle.zb_base.specs.Sizes.{last_given_generation}

-- ---- what is given

-- What is given to a node in this condition: nothing, or a disk that the node can boot from, on which this stands, and
-- then the node is down.
abbrev pub Fits : ℕ → Option Stood → Option Medium → Condition → Type 0
Fits latest None None x = ⊤
Fits latest (Some s) (Some m) x = (x.up ≡ false) × CanBootFrom x.setting.me.role latest m s
Fits latest _ _ x = ⊥

-- before an event of this node, if it is of one
abbrev pub FitsAt : ℕ → Option Stood → Option Medium → (ℕ → Condition) → Option ℕ → Type 0
FitsAt latest gift given xs None = ⊤
FitsAt latest gift given xs (Some n) = Fits latest gift given (xs n)

-- before each of these events, in the condition that its node then has
abbrev pub AreFit : ℕ → Schedule → (ℕ → Option Stood) → (ℕ → Option Medium) → List Line → (ℕ → Condition) → ℕ
    → List Event → Type 0
AreFit latest w gifts given h xs number [] = ⊤
AreFit latest w gifts given h xs number (event ∷ events) =
    let g = one_passed real w gifts h xs number event in
    FitsAt latest (gifts number) (given number) xs (node_of event)
    × AreFit latest w gifts given (h ++ g.lines) g.nodes (number + 1) events

-- The disks that are given before the events of a schedule. Their generations are at most 2^62 + 1.
abbrev pub AreGifts : sched.Schedule → (ℕ → Option Stood) → (ℕ → Option Medium) → Type 0
AreGifts p gifts given = AreFit last_given_generation (schedule_of p) gifts given (start (schedule_of p))
    (first_nodes (schedule_of p)) 1 (schedule_of p).events

-- What holds for all that stands on the disks that a bench tells that it gave, where they are such disks.
abbrev pub ForGifts : sched.Schedule → Option (ℕ → Option Medium) → ((ℕ → Option Stood) → Type 0) → Type 0
ForGifts p None claim = ⊤
ForGifts p (Some given) claim = (gifts : ℕ → Option Stood) → AreGifts p gifts given → claim gifts

-- The text of the transcript with these disks was written, or a prefix of it.
abbrev pub IsSwapped : sched.Schedule → Option (ℕ → Option Medium) → Option (List ℕ) → Option (List ℕ) → Type 0
IsSwapped p gave before after = ForGifts p gave
    (λ gifts. Appends before after (text_in p (swapped_transcript real (schedule_of p) gifts)))

abbrev pub IsSwappedFront : sched.Schedule → Option (ℕ → Option Medium) → Option (List ℕ) → Option (List ℕ) → Type 0
IsSwappedFront p gave before after = ForGifts p gave
    (λ gifts. AppendsFront before after (text_in p (swapped_transcript real (schedule_of p) gifts)))

-- The summary has the words of its last line.
abbrev pub SumsSwapped : sched.Schedule → Option (ℕ → Option Medium) → Summary → Type 0
SumsSwapped p gave s = ForGifts p gave
    (λ gifts. last_line s ≡ end_line real (length p.events) (swapped_lines real (schedule_of p) gifts))

-- ---- a run while it goes on

-- what comes of an event before which its node is given a disk, if one is given
abbrev pub passed_with : sched.Schedule → Option Stood → List Line → (ℕ → Condition) → ℕ → Event → Passed
passed_with p gift h xs number event = passed_by p h (swapped gift xs (node_of event)) number event

-- the conditions after events, from the event of that number on
unfoldable pub nodes_after : Schedule → (ℕ → Option Stood) → List Line → (ℕ → Condition) → ℕ → List Event → ℕ
    → Condition
nodes_after w gifts h xs number [] = xs
nodes_after w gifts h xs number (event ∷ events) =
    let g = one_passed real w gifts h xs number event in
    nodes_after w gifts (h ++ g.lines) g.nodes (number + 1) events

-- the lines of these first events of a schedule, and the conditions after them
abbrev pub swapped_in : sched.Schedule → (ℕ → Option Stood) → List Line → (ℕ → Condition) → List said.Event
    → List Line
swapped_in p gifts h xs events = swapped_groups real (schedule_of p) gifts h xs 1 (acts_of p events)

abbrev pub nodes_in : sched.Schedule → (ℕ → Option Stood) → List Line → (ℕ → Condition) → List said.Event → ℕ
    → Condition
nodes_in p gifts h xs events = nodes_after (schedule_of p) gifts h xs 1 (acts_of p events)

-- A bench tells of the first events that these disks were given before them.
abbrev pub AgreesTo : ℕ → (ℕ → Option Medium) → Option (ℕ → Option Medium) → Type 0
AgreesTo n given None = ⊥
AgreesTo n given (Some told) = (k : ℕ) → k ≤ n → told k ≡ given k

-- The run stands before the events of a schedule, and disks are given before them.
pub record IsGiven (p : sched.Schedule) (gifts : ℕ → Option Stood) (given : ℕ → Option Medium) (h : List Line)
    (xs : ℕ → Condition) (latest : ℕ) (events : List said.Event) (run : Run) (disks : List Medium) : Type 0 where
  pub played : IsPlayed p events
  pub few : latest ≤ last_given_generation
  pub stands : RunIn p h xs latest run disks
  pub fit : AreFit latest (schedule_of p) gifts given h xs 1 (acts_of p events)

-- So many of these events were answered: their lines were written where anyone reads them, and the run stands after
-- them.
pub record IsAnswered (p : sched.Schedule) (gifts : ℕ → Option Stood) (h : List Line) (xs : ℕ → Condition)
    (latest : ℕ) (events : List said.Event) (n : ℕ) (run : Run) (disks : List Medium)
    (before after : Option (List ℕ)) : Type 0 where
  pub stands : RunIn p (h ++ swapped_in p gifts h xs (take n events)) (nodes_in p gifts h xs (take n events))
      (latest + n) run disks
  pub taken : Appends before after (text_in p (swapped_in p gifts h xs (take n events)))
  pub page : IsFor run.ledger.transcript.page after

abbrev pub AnswersGiven : Run → List Medium → List said.Event → Option (ℕ → Option Medium) → ℕ → Run → List Medium
    → Option (List ℕ) → Option (List ℕ) → Type 0
AnswersGiven old disks events gave n new disks' before after =
    (p : sched.Schedule) (gifts : ℕ → Option Stood) (given : ℕ → Option Medium) (h : List Line) (xs : ℕ → Condition)
    (latest : ℕ) → IsGiven p gifts given h xs latest events old disks → AgreesTo n given gave
    → IsAnswered p gifts h xs latest events n new disks' before after

abbrev pub PrintsGiven : Run → List Medium → List said.Event → Option (ℕ → Option Medium) → Option (List ℕ)
    → Option (List ℕ) → Type 0
PrintsGiven old disks events gave before after =
    (p : sched.Schedule) (gifts : ℕ → Option Stood) (given : ℕ → Option Medium) (h : List Line) (xs : ℕ → Condition)
    (latest : ℕ) → IsGiven p gifts given h xs latest events old disks → AgreesTo (length events) given gave
    → AppendsFront before after (text_in p (swapped_in p gifts h xs events))
