-- The numbers of the events of a run's lines, as they are printed.
use Rattle.std.proofs.Common.{◌≡◌, ℕ, ◌+◌, ◌≤◌, List, [], ◌∷◌, ◌++◌, length, Some, refl, arith}
use Rattle.std.specs.List.{AllByRecursion}
use Rattle.zb_audit_names.specs.Groups.{event_of}
use Rattle.zb_model.specs.Data as model
use Rattle.zb_model.specs.Data.{Edit, Station}
use Rattle.zb_model.specs.Lines.{Changed, Line}
use Rattle.zb_model.specs.Play.{ArmFail, ArmStop, Deliver, Disk, Event, ForgeNet, ForgeNetAps, ForgeOpen, InjectBytes, Own, PowerOn, Reset, RollOver, Schedule, ShowRecord, groups, start, step}
use Rattle.zb_model.specs.Tools.{Tools}
use Rattle.zb_model.specs.Transcript.{run_lines}
use Rattle.law_run.proofs.FreshLines.{all-append}
use Rattle.law_run_steps.proofs.Walks.{Asked, OfNode, OfOutside, OfStart, start-all, step-has}
use Rattle.zb_trace_model.specs.Said.{line_for}

-- The printed line is of an event whose number is at most that one; an end line has no event.
pub record IsWithin (known : List Station) (most : ℕ) (m : Line) : Type 0 where
  pub event : ℕ
  pub event_is : event_of (line_for known m) ≡ Some event
  pub small : event ≤ most

change_within : (known : List Station) (most number n : ℕ) → number ≤ most → (e : Edit)
    → IsWithin known most (Changed number n e)
unfolding event_of line_for
change_within known most number n small (model.Reserve l limit) =
    record { event = number; event_is = refl; small = small }
change_within known most number n small (model.Floor l k from value) =
    record { event = number; event_is = refl; small = small }
change_within known most number n small (model.Start k value) =
    record { event = number; event_is = refl; small = small }
change_within known most number n small (model.Moved (model.Draw key)) =
    record { event = number; event_is = refl; small = small }
change_within known most number n small (model.Moved (model.DropNet key)) =
    record { event = number; event_is = refl; small = small }
change_within known most number n small (model.Moved (model.DropLink partner key)) =
    record { event = number; event_is = refl; small = small }
change_within known most number n small (model.Moved (model.Install key sequence)) =
    record { event = number; event_is = refl; small = small }
change_within known most number n small (model.Moved (model.Active key)) =
    record { event = number; event_is = refl; small = small }
change_within known most number n small (model.Moved (model.Row partner key attribute)) =
    record { event = number; event_is = refl; small = small }
change_within known most number n small (model.Moved (model.Pair first second key)) =
    record { event = number; event_is = refl; small = small }
change_within known most number n small (model.Moved (model.Became state)) =
    record { event = number; event_is = refl; small = small }
change_within known most number n small (model.Moved (model.Live device)) =
    record { event = number; event_is = refl; small = small }
change_within known most number n small (model.Moved (model.Removed device)) =
    record { event = number; event_is = refl; small = small }
change_within known most number n small (model.Moved (model.Roll sending)) =
    record { event = number; event_is = refl; small = small }
change_within known most number n small (model.Moved (model.Told device)) =
    record { event = number; event_is = refl; small = small }
change_within known most number n small (model.Moved (model.Untold device)) =
    record { event = number; event_is = refl; small = small }

-- the disks don't matter
abbrev Any : List Disk → Type 0
Any ds = Unit {0}

node_within : (known : List Station) (most : ℕ) (ds : List Disk) (number n : ℕ) → number ≤ most
    → OfNode (IsWithin known most) Any ds number n
unfolding event_of line_for
node_within known most ds number n small = record {
  lines = record {
    changed = change_within known most number n small;
    commit = record { event = number; event_is = refl; small = small };
    told = record {
      accept = λ t. record { event = number; event_is = refl; small = small };
      refuse = λ place reason. record { event = number; event_is = refl; small = small };
      seal = λ t. record { event = number; event_is = refl; small = small };
      send = λ by frame bytes. record { event = number; event_is = refl; small = small };
    };
    stopped = record { event = number; event_is = refl; small = small };
    failed = record { event = number; event_is = refl; small = small };
    reset = record { event = number; event_is = refl; small = small };
    boot = record { event = number; event_is = refl; small = small };
    dump = λ bytes. record { event = number; event_is = refl; small = small };
  };
  disks = λ d. tt;
}

outside_within : (known : List Station) (most number : ℕ) → number ≤ most → OfOutside (IsWithin known most) number
unfolding event_of line_for
outside_within known most number small = record {
  forge = λ t. record { event = number; event_is = refl; small = small };
  send = λ by frame bytes. record { event = number; event_is = refl; small = small };
  inject = λ frame bytes. record { event = number; event_is = refl; small = small };
}

asked_within : (known : List Station) (most : ℕ) (ds : List Disk) (number : ℕ) → number ≤ most → (act : Event)
    → Asked (IsWithin known most) Any ds number act
asked_within known most ds number small (Own n task) = node_within known most ds number n small
asked_within known most ds number small (RollOver n) = node_within known most ds number n small
asked_within known most ds number small (Deliver frame n) = node_within known most ds number n small
asked_within known most ds number small (Reset n) = node_within known most ds number n small
asked_within known most ds number small (PowerOn n) = node_within known most ds number n small
asked_within known most ds number small (ShowRecord n) = node_within known most ds number n small
asked_within known most ds number small (ArmStop n calls torn) = node_within known most ds number n small
asked_within known most ds number small (ArmFail n call) = node_within known most ds number n small
asked_within known most ds number small (InjectBytes bytes) = outside_within known most number small
asked_within known most ds number small (ForgeNet to from source key sequence counter content) =
    outside_within known most number small
asked_within known most ds number small
    (ForgeNetAps to from source key sequence counter label base aps_counter command) =
    outside_within known most number small
asked_within known most ds number small (ForgeOpen to from source label base aps_counter command) =
    outside_within known most number small

start_within : (known : List Station) (most : ℕ) → OfStart (IsWithin known most)
unfolding event_of line_for
start_within known most = record {
  declared = λ p. record { event = 0; event_is = refl; small = omega arith };
  net = λ n key sequence. record { event = 0; event_is = refl; small = omega arith };
  link = λ n partner key. record { event = 0; event_is = refl; small = omega arith };
  counter = λ n layer limit. record { event = 0; event_is = refl; small = omega arith };
}

-- ---- along the run

groups_within : (tools : Tools) (w : Schedule) (known : List Station) (most : ℕ) (h : List Line) (ds : List Disk)
    (number : ℕ) (events : List Event) → number + length events ≤ most + 1
    → AllByRecursion (IsWithin known most) (groups tools w h ds number events)
unfolding groups
groups_within tools w known most h ds number [] small = tt
groups_within tools w known most h ds number (event ∷ events) small =
    let g = step tools w h ds number event in
    all-append (IsWithin known most) g.lines (groups tools w (h ++ g.lines) g.disks (number + 1) events)
    (step-has (IsWithin known most) Any tools w h ds number event
    (asked_within known most ds number (omega (arith, small)) event) tt).0
    (groups_within tools w known most (h ++ g.lines) g.disks (number + 1) events (omega (arith, small)))

-- no line of a run is of a later event than its last one
pub run_within : (tools : Tools) (w : Schedule) (known : List Station)
    → AllByRecursion (IsWithin known (length w.events)) (run_lines tools w)
unfolding run_lines
run_within tools w known =
    all-append (IsWithin known (length w.events)) (start w) (groups tools w (start w) [] 1 w.events)
    (start-all (IsWithin known (length w.events)) (start_within known (length w.events)) w)
    (groups_within tools w known (length w.events) (start w) [] 1 w.events (omega arith))
