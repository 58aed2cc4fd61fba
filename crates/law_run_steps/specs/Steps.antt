-- The results of a step of a run: its lines, and the condition in which it leaves a node. Also whose node an event is
-- of.
use Rattle.std.specs.Prelude.{ℕ, ◌≡◌, ◌+◌, Bool, true, false, if◌then◌else◌, List, [], ◌∷◌, ◌++◌, map, length, None, nat_eq}
use Rattle.zb_model.specs.Answer.{Answer}
use Rattle.zb_model.specs.Data.{Bytes, Term, Edit, Moved, Draw, Pair, Live, Removed, Roll, Told, Untold}
use Rattle.zb_model.specs.Lines.{Line, Forge, Send, Boot}
use Rattle.zb_model.specs.Play.{Schedule, Disk, Event, Own, RollOver, Deliver, Reset, PowerOn, ShowRecord, ArmStop, ArmFail, Step, BootCalls, falls, stands, change_lines, commit_lines, told_lines, fallen_line}
use Rattle.zb_model.specs.Readings.{air}
use Rattle.law_run_steps.specs.Conditions.{Condition, condition_of, calls_by, after_whole, after_cut, after_power_on, after_cut_boot}

-- The step after these lines has those lines, and leaves the node in this condition.
pub record ComesTo (w : Schedule) (h : List Line) (n : ℕ) (g : Step) (wanted : List Line) (x : Condition) : Type 0
  where
    pub lines : g.lines ≡ wanted
    pub condition : condition_of w (h ++ g.lines) g.disks n ≡ x

-- the lines of an answer that is stored: its changes and their commit; and of one whose frame is sent too
abbrev pub storing_lines : ℕ → ℕ → Answer → List Line
storing_lines number n a = change_lines number n a.edits ++ commit_lines number n a.edits

abbrev pub whole_lines : List Line → ℕ → ℕ → Answer → List Line
whole_lines h number n a = storing_lines number n a ++ told_lines number n (length (air h) + 1) a

-- The lines of an answer whose commit is hit by what is armed: the stored ones, if the commit is stored, and the
-- fall.
abbrev pub cut_lines : Condition → ℕ → ℕ → Answer → List Line
cut_lines x number n a =
    (if stands x.disk.armed (calls_by x.commits a.edits) then storing_lines number n a else [])
    ++ fallen_line x.disk.armed number n

-- whether what is armed hits the calls of an event with this answer, and those of a boot
abbrev pub falls_on : Answer → Condition → Bool
falls_on a x = falls x.disk.armed (calls_by x.commits a.edits)

abbrev pub falls_at_boot : Condition → Bool
falls_at_boot x = falls x.disk.armed (BootCalls x.disk.both_open)

-- The step of an event to which the node gives this answer in this condition.
pub record IsAnswered (w : Schedule) (h : List Line) (number n : ℕ) (a : Answer) (x : Condition) (g : Step) : Type 0
  where
    pub whole : falls_on a x ≡ false → ComesTo w h n g (whole_lines h number n a) (after_whole a x)
    pub cut : falls_on a x ≡ true → ComesTo w h n g (cut_lines x number n a) (after_cut a x)

-- The step of a boot in this condition.
pub record IsBooted (w : Schedule) (h : List Line) (number n : ℕ) (x : Condition) (g : Step) : Type 0 where
  pub whole : falls_at_boot x ≡ false → ComesTo w h n g (Boot number n ∷ []) (after_power_on x)
  pub cut : falls_at_boot x ≡ true → ComesTo w h n g (fallen_line x.disk.armed number n) (after_cut_boot x)

-- a step of the outside: it leaves the disks
abbrev pub outside_step : List Disk → List Line → Step
outside_step ds lines = record { lines = lines; disks = ds }

-- The lines of a forged frame with these bytes: what is sealed in it, and the frame.
abbrev pub forging : List Line → ℕ → List Term → Bytes → List Line
forging h number terms bytes = map (Forge number) terms ++ Send number None (length (air h) + 1) bytes ∷ []

-- whether an event is of that node; an event of the outside is of no node
abbrev pub is_of : ℕ → Event → Bool
is_of m (Own n task) = nat_eq n m
is_of m (RollOver n) = nat_eq n m
is_of m (Deliver frame n) = nat_eq n m
is_of m (Reset n) = nat_eq n m
is_of m (PowerOn n) = nat_eq n m
is_of m (ShowRecord n) = nat_eq n m
is_of m (ArmStop n calls torn) = nat_eq n m
is_of m (ArmFail n call) = nat_eq n m
is_of m _ = false

-- whether a change is one that the centre alone makes
abbrev pub is_of_the_centre : Edit → Bool
is_of_the_centre (Moved (Draw key)) = true
is_of_the_centre (Moved (Pair first second key)) = true
is_of_the_centre (Moved (Live device)) = true
is_of_the_centre (Moved (Removed device)) = true
is_of_the_centre (Moved (Roll sending)) = true
is_of_the_centre (Moved (Told device)) = true
is_of_the_centre (Moved (Untold device)) = true
is_of_the_centre _ = false
