-- A member rejoins in rounds: it asks, the centre answers, and the answer is delivered. If the member's floor is
-- above the centre's counter, the answer is stale, and the next round begins. This file also bounds the floor, if
-- every frame that the member accepted came from its centre.
use Rattle.std.specs.Prelude.{ℕ, zero, suc, ◌≡◌, ◌<◌, ◌≤◌, ◌+◌, ◌-◌, true, false, None, nat_eq, ⊤}
use Rattle.std.specs.List.{AllByRecursion}
use Rattle.zb_model.specs.Commands.{dropped_at}
use Rattle.zb_model.specs.Data.{Layer, Aps, Bytes, Floor}
use Rattle.zb_model.specs.Fits.{keeps_rules}
use Rattle.zb_model.specs.Lines.{Line, Accept, Changed}
use Rattle.zb_model.specs.Play.{Schedule, setting_of}
use Rattle.zb_model.specs.Readings.{state_of}
use Rattle.zb_model.specs.State.{LinkKey, greatest_counter, next_counter}
use Rattle.zb_model.specs.Tools.{Tools}
use Rattle.law_recovery.specs.KeyFrames.{KeyFrameInRange}
use Rattle.law_recovery.specs.Rejoining.{AreLinked, AreOfOneNetwork, answer_frame, may_rejoin, why_no_room, why_not_sent, why_old}
use Rattle.law_recovery.specs.Fronts.{Front, IsReady, after_events, rejoin_events}

-- the three events, that many times, each time at the front that is reached then
abbrev pub after_rounds : Tools → Schedule → ℕ → ℕ → ℕ → Front → Front
after_rounds tools w c d zero x = x
after_rounds tools w c d (suc n) x = after_rounds tools w c d n (after_events tools w x (rejoin_events x c d))

-- A centre c and a member d that may rejoin, at a front at which no obstacle holds but the member's floor. The floor
-- is `n` counters above the centre's next one. The counter doesn't reach its end on the way.
pub record RejoinsLater (w : Schedule) (x : Front) (c d n : ℕ) : Type 0 where
  pub apart : nat_eq d c ≡ false
  pub mine : (setting_of w d).me.eui ≡ d
  pub network : AreOfOneNetwork (setting_of w c) (setting_of w d)
  pub centre_ready : IsReady x c
  pub member_ready : IsReady x d
  pub rules : keeps_rules (state_of x.lines d) ≡ true
  pub role : (state_of x.lines d).role ≡ (setting_of w d).me.role
  pub may : may_rejoin (state_of x.lines d) ≡ true
  pub linked : AreLinked (setting_of w c) (setting_of w d) (state_of x.lines c) (state_of x.lines d)
  pub in_range : KeyFrameInRange
      (answer_frame (setting_of w c) (setting_of w d) (state_of x.lines c) linked.net linked.row)
  pub not_stopped : why_not_sent (state_of x.lines c) d ≡ None
  pub not_refused : why_old (dropped_at 0 linked.net.key (state_of x.lines d).nets)
      (why_no_room (state_of x.lines d) linked.net.key) ≡ None
  pub stale : linked.own.kept - next_counter Aps (state_of x.lines c) ≡ n
  pub counters : next_counter Aps (state_of x.lines c) + n < greatest_counter

-- A line of a receiver about a sender's frames under a key of a layer. Each counter that it accepts is below this
-- number. Each floor that it stores is at most a block above a counter below this number.
abbrev pub IsBelow : Layer → ℕ → ℕ → ℕ → ℕ → Bytes → Line → Type 0
IsBelow layer number block receiver sender key (Accept e n t) =
    n ≡ receiver → t.layer ≡ layer → t.base ≡ key → t.source ≡ sender → t.counter < number
IsBelow layer number block receiver sender key (Changed e n (Floor at base source value)) =
    n ≡ receiver → at ≡ layer → base ≡ key → source ≡ sender
    → (counter : ℕ) × (counter < number) × (value ≤ counter + block)
IsBelow layer number block receiver sender key _ = ⊤

-- What a receiver b accepted from a sender a under this key came from a: its counters are those that a has used.
abbrev pub CameFrom : Layer → Schedule → Front → ℕ → ℕ → Bytes → Type 0
CameFrom layer w x a b key =
    AllByRecursion
    (IsBelow layer (next_counter layer (state_of x.lines a)) (setting_of w b).me.in_block b
    (setting_of w a).me.eui key) x.lines

-- the same for what a member accepted under the link key of its centre
abbrev pub CameFromCentre : Schedule → Front → ℕ → ℕ → LinkKey → Type 0
CameFromCentre w x c d own = CameFrom Aps w x c d own.key
