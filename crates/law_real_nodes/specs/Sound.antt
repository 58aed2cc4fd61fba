-- What is true of the nodes of a run with real frames, in addition to the laws on its transcript.
use Rattle.std.specs.Prelude.{ℕ, ◌≡◌, true, List, []}
use Rattle.std.specs.List.{AllByRecursion}
use Rattle.law_run_lookups.specs.Granted.{HasNewest}
use Rattle.law_run.specs.Events.{BeforeEach}
use Rattle.zb_model_real.specs.Real.{real}
use Rattle.law_real_nodes.specs.Refusing.{NoFillerDecides}
use Rattle.law_run_lookups.specs.Sealable.{SendsSealable}
use Rattle.law_tables_suffice.specs.Along.{IsAsDeclared, IsRuled, NodesAllAlong, OfNode, StartsAlone}
use Rattle.zb_model.specs.Fits.{keeps_rules}
use Rattle.zb_model.specs.Lines.{Line}
use Rattle.zb_model.specs.Play.{Event, Schedule, start}
use Rattle.zb_model.specs.Readings.{state_of}
use Rattle.zb_model.specs.Schedules.{Names}

pub record NodesAreSound (w : Schedule) : Type 0 where
  -- of all start lines only each node's own say what it is, and it starts by the rules for records
  pub starts : AllByRecursion (StartsAlone w) w.nodes
  pub rules_first : (n : ℕ) → Names w n → keeps_rules (state_of (start w) n) ≡ true
  -- before each event its node is as it was declared, keeps the rules for records, and has a newest live network key
  -- if it has an active one
  pub declared : NodesAllAlong IsAsDeclared real w
  pub rules : NodesAllAlong IsRuled real w
  pub newest : NodesAllAlong HasNewest real w
  -- before each event no rule of its node refuses because something is missing that is always there
  pub no_filler : BeforeEach (λ (h : List Line) (event : Event). OfNode (λ n. NoFillerDecides real w h n) event) real
      w (start w) [] 1 w.events
  -- before each event, what any node would send may be sealed
  pub sealable : BeforeEach (λ (h : List Line) (event : Event). SendsSealable real w h) real w (start w) [] 1 w.events
