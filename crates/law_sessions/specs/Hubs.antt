-- The run of the model that a hub is: its centre is started again for each session, and has the session's tasks. What
-- others send comes from outside.
use Rattle.std.specs.Prelude.{ℕ, List, [], ◌∷◌, ◌++◌, flat_map}
use Rattle.zb_model.specs.Data.{Task, Received}
use Rattle.zb_model.specs.Lines.{Line, Changed, Commit, Accept, Refuse, Seal, Send, Inject, DownReset, Boot}
use Rattle.zb_model.specs.Play.{Event, Own, Reset, PowerOn, InjectBytes}

-- ---- events

-- A frame is put on the air from outside, and comes to the node with a key of its own that it may draw. No schedule
-- that is read from a text has a frame with a key of its own: there the supply has it.
abbrev pub task_events : ℕ → Task → List Event
task_events n (Received bytes draw) = InjectBytes bytes ∷ Own n (Received bytes draw) ∷ []
task_events n task = Own n task ∷ []

abbrev pub tasks_events : ℕ → List Task → List Event
tasks_events n [] = []
tasks_events n (task ∷ more) = task_events n task ++ tasks_events n more

-- Each session begins with a reset, which ends the one before, and a boot.
abbrev pub hub_events : ℕ → List (List Task) → List Event
hub_events n [] = []
hub_events n (tasks ∷ more) = Reset n ∷ PowerOn n ∷ tasks_events n tasks ++ hub_events n more

-- ---- lines

-- a line with 0 for the numbers of its event and of its frame
abbrev pub unnumbered : Line → Line
unnumbered (Changed event n edit) = Changed 0 n edit
unnumbered (Commit event n) = Commit 0 n
unnumbered (Accept event n term) = Accept 0 n term
unnumbered (Refuse event n place reason) = Refuse 0 n place reason
unnumbered (Seal event n term) = Seal 0 n term
unnumbered (Send event n frame bytes) = Send 0 n 0 bytes
unnumbered (DownReset event n) = DownReset 0 n
unnumbered (Boot event n) = Boot 0 n
unnumbered line = line

-- all but what comes from outside
abbrev pub own_part : Line → List Line
own_part (Inject event frame bytes) = []
own_part line = unnumbered line ∷ []

-- the lines of the nodes themselves, without numbers
abbrev pub without_numbers : List Line → List Line
without_numbers lines = flat_map own_part lines
