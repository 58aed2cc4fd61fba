-- The counters of whole runs, defined for the statements of the laws.
use Rattle.std.specs.Prelude.{◌≡◌, ◌<◌, List, Some, option_map, ⊤}
use Rattle.zb_model.specs.Data.{Layer, Nwk, Aps, Term}
use Rattle.zb_model.specs.Lines.{Line, Seal}
use Rattle.zb_model.specs.State.{greatest_counter, NetKey, NodeState, net_of}
use Rattle.zb_model.specs.Readings.{state_of}

-- the next counter under a base key: at NWK that of the key's row, at APS the node's
abbrev pub NextIs : Layer → Term → NodeState → Type 0
NextIs Nwk t s = option_map (λ (r : NetKey). r.next) (net_of t.base s) ≡ Some t.counter
NextIs Aps t s = s.aps_next ≡ t.counter

-- A node seals with its own EUI, and with the next counter; the greatest counter is never used.
abbrev pub TakesNext : List Line → Line → Type 0
TakesNext h (Seal e n t) = (t.source ≡ n) × (t.counter < greatest_counter) × NextIs t.layer t (state_of h n)
TakesNext h _ = ⊤
