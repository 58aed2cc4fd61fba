-- Which terms an answer accepts and seals, and which counters the sealed ones use.
use Rattle.std.specs.Prelude.{◌≡◌, ◌<◌, ◌≤◌, ◌⊎◌, ℕ, List, [], ◌∷◌, Option, Some, None, option_map, ⊤}
use Rattle.zb_model.specs.Data.{Bytes, Layer, Nwk, Aps, Term}
use Rattle.zb_model.specs.State.{greatest_counter, NetKey, NodeState, net_of, after_sealing, applied_all, shown}
use Rattle.zb_model.specs.Rules.{Setting}
use Rattle.zb_model.specs.Answer.{Answer, accepted_all}

-- The state in which an answer's seals are made: after its changes, as the tables then show it, and after its
-- accepted terms.
abbrev pub before_seals : Answer → NodeState → NodeState
before_seals a s = accepted_all a.accepts (shown (applied_all a.edits s))

-- Which counters are used

-- the outgoing counter of the next term under a base key: that of its row at NWK, and at APS the node's own
abbrev pub next_under : Layer → Bytes → NodeState → Option ℕ
next_under Nwk key s = option_map (λ (r : NetKey). r.next) (net_of key s)
next_under Aps key s = Some s.aps_next

-- the stored limit of that counter
abbrev pub limit_under : Layer → Bytes → NodeState → Option ℕ
limit_under Nwk key s = option_map (λ (r : NetKey). r.limit) (net_of key s)
limit_under Aps key s = Some s.aps_limit

-- A term has the next counter under its base key, and that isn't the greatest.
pub record IsNext (s : NodeState) (t : Term) : Type 0 where
  pub counter_is : next_under t.layer t.base s ≡ Some t.counter
  pub below_last : t.counter < greatest_counter

-- The counter of a term was reserved: it is below the limit that is stored under its base key.
abbrev pub IsBelow : ℕ → Option ℕ → Type 0
IsBelow counter None = ⊥
IsBelow counter (Some limit) = counter < limit

abbrev pub IsReserved : NodeState → Term → Type 0
IsReserved s t = IsBelow t.counter (limit_under t.layer t.base s)

-- P is true of each term in the state after those before it are sealed
abbrev pub SealsAlong : (NodeState → Term → Type 0) → NodeState → List Term → Type 0
SealsAlong P s [] = ⊤
SealsAlong P s (t ∷ ts) = P s t × SealsAlong P (after_sealing t s) ts

abbrev pub SealsNext : NodeState → List Term → Type 0
SealsNext s ts = SealsAlong IsNext s ts

abbrev pub SealsReserved : NodeState → List Term → Type 0
SealsReserved s ts = SealsAlong IsReserved s ts

-- No next counter is above its limit, neither a network key's nor that of APS.
abbrev pub RowIsWithin : Option NetKey → Type 0
RowIsWithin None = ⊤
RowIsWithin (Some r) = r.next ≤ r.limit

pub record IsWithinLimits (s : NodeState) : Type 0 where
  pub nets : (key : Bytes) → RowIsWithin (net_of key s)
  pub aps : s.aps_next ≤ s.aps_limit

-- Which terms are sealed

-- a node's seal at APS, and one at NWK under the key that is active before the event
pub record IsApsSeal (c : Setting) (t : Term) : Type 0 where
  pub layer_is : t.layer ≡ Aps
  pub source_is : t.source ≡ c.me.eui

pub record IsNwkSeal (c : Setting) (s : NodeState) (t : Term) : Type 0 where
  pub layer_is : t.layer ≡ Nwk
  pub base_is : s.active ≡ Some t.base
  pub source_is : t.source ≡ c.me.eui

-- At most one term is sealed at each layer, APS before NWK.
abbrev pub AreSeals : Setting → NodeState → List Term → Type 0
AreSeals c s [] = ⊤
AreSeals c s (t ∷ []) = IsApsSeal c t ⊎ IsNwkSeal c s t
AreSeals c s (t ∷ u ∷ []) = IsApsSeal c t × IsNwkSeal c s u
AreSeals c s (t ∷ u ∷ v ∷ ts) = ⊥

-- Which terms are accepted

-- a term of that layer, whose counter isn't the greatest
pub record IsHeard (layer : Layer) (t : Term) : Type 0 where
  pub layer_is : t.layer ≡ layer
  pub below_last : t.counter < greatest_counter

-- At most one term is accepted at each layer, NWK before APS.
abbrev pub AreHeard : List Term → Type 0
AreHeard [] = ⊤
AreHeard (t ∷ []) = IsHeard Nwk t ⊎ IsHeard Aps t
AreHeard (t ∷ u ∷ []) = IsHeard Nwk t × IsHeard Aps u
AreHeard (t ∷ u ∷ v ∷ ts) = ⊥
