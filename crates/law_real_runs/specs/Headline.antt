-- What is true of the run of a schedule with real frames, as one record: the claims on transcripts. Except for the
-- two words of the end line, they ask nothing of the air, of the disks, or of the strength of the cipher.
use Rattle.std.specs.Prelude.{ℕ, ◌≡◌, true, List, [], ◌∷◌}
use Rattle.law_run_counters.specs.Counted.{Counted}
use Rattle.law_run_counters.specs.Floors.{FloorsAreFor}
use Rattle.law_run_lookups.specs.Granted.{DrawsAreThere, Granted, HasRoom, IsSuited}
use Rattle.law_run.specs.Events.{BeforeEach}
use Rattle.law_run.specs.Spent.{SpentLine, TakesAll}
use Rattle.zb_model.specs.Claims.{Confirms, Each, Fresh, Lawful, Locked, Once}
use Rattle.zb_model.specs.Lines.{Line, End}
use Rattle.zb_model.specs.Play.{Schedule, Event, start}
use Rattle.zb_model.specs.Transcript.{transcript}
use Rattle.zb_model_real.specs.Real.{real}

-- the last line is an end line that says `yes yes`
abbrev pub SaysYesYes : Line → Type 0
SaysYesYes (End events seals accepts refusals ideal private) = (ideal ≡ true) × (private ≡ true)
SaysYesYes _ = ⊥

abbrev pub EndsYesYes : List Line → Type 0
EndsYesYes [] = ⊥
EndsYesYes (l ∷ []) = SaysYesYes l
EndsYesYes (l ∷ m ∷ ls) = EndsYesYes (m ∷ ls)

pub record Holds (w : Schedule) : Type 0 where
  -- each group of lines answers its event by the policy
  pub lawful : Lawful real w (transcript real w)
  -- each counter is the next, and reserves, floors and starts are exactly where they must be
  pub counted : Counted real w (transcript real w)
  -- no other lines are lawful and counted
  pub alone : (lines : List Line) → Lawful real w lines → Counted real w lines → lines ≡ transcript real w
  -- so no counter is skipped without a boot
  pub in_order : Each TakesAll [] (transcript real w)
  -- no floor is more than one incoming block above the counter for which it was stored
  pub floors : FloorsAreFor w (transcript real w)
  -- a node that answers counter-spent is at the greatest counter, 2^32 - 1, at one of the layers
  pub spent : Each SpentLine [] (transcript real w)
  -- before each event every node has what the rules take for granted, so no rule refuses because it is missing
  pub granted : BeforeEach (λ (h : List Line) (event : Event). (n : ℕ) → Granted w h n) real w (start w) [] 1 w.events
  -- so the centre answers no-draw only if the supply is empty
  pub draws : BeforeEach (λ (h : List Line) (event : Event). (n : ℕ) → DrawsAreThere real w h n) real w (start w) [] 1
      w.events
  -- no event of a node's own is refused as policy
  pub suited : BeforeEach (IsSuited real w) real w (start w) [] 1 w.events
  -- there is room for the floor of each declared sender
  pub room : BeforeEach (λ (h : List Line) (event : Event). (n : ℕ) → HasRoom w h n) real w (start w) [] 1 w.events
  -- no node seals twice under one key and nonce
  pub fresh : Fresh real (transcript real w)
  -- no receiver accepts a sender's counter twice under one key, resets included
  pub once : Once (transcript real w)
  -- only stored keys are confirmed
  pub confirms : Confirms real (transcript real w)
  -- if the end line says `yes yes`, a removed device that isn't admitted again is locked out
  pub locked : EndsYesYes (transcript real w) → Locked real (transcript real w)
