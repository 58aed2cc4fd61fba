-- Which lines use counters, and which nodes answer that a counter is spent.
use Rattle.std.specs.Prelude.{ℕ, ◌≡◌, ◌+◌, min, max, ◌⊎◌, if◌then◌else◌, ◌&&◌, List, [], ◌∷◌, ◌++◌, Some, option_map, nat_eq, ⊤}
use Rattle.zb_model.specs.Data.{Bytes, Nwk, Aps, Start, CounterSpent}
use Rattle.zb_model.specs.Lines.{Line, Counter, Changed, Refuse, Seal, Boot}
use Rattle.zb_model.specs.State.{greatest_counter, NetKey, NodeState, same_key, net_of, next_counter, same_layer}
use Rattle.zb_model.specs.Readings.{state_of}

-- the next counter is the greatest, at one of the layers
abbrev pub StandsAtEnd : NodeState → Type 0
StandsAtEnd s = (next_counter Nwk s ≡ greatest_counter) ⊎ (next_counter Aps s ≡ greatest_counter)

abbrev pub SpentLine : List Line → Line → Type 0
SpentLine h (Refuse e n place CounterSpent) = StandsAtEnd (state_of h n)
SpentLine h _ = ⊤

-- How many counters of a node a line uses: at APS, and at NWK under a network key. A seal uses one.
abbrev pub taken_aps : ℕ → Line → ℕ
taken_aps m (Seal e n t) = if nat_eq n m && same_layer t.layer Aps then 1 else 0
taken_aps m _ = 0

abbrev pub taken_nwk : ℕ → Bytes → Line → ℕ
taken_nwk m key (Seal e n t) = if nat_eq n m && (same_layer t.layer Nwk && same_key t.base key) then 1 else 0
taken_nwk m key _ = 0

-- The next counters of a node after a line: at APS, and of its network row with the key. A boot sets those of its own
-- node to the limits. A key's first counter sets that row's. A limit at the start sets its node's at the layer, in
-- the rows that have started. Apart from these, only a seal moves a next counter: the one that it uses.
abbrev pub aps_behind : ℕ → Line → NodeState → ℕ
aps_behind m (Boot e n) s = if nat_eq n m then s.aps_limit else s.aps_next
aps_behind m (Counter n Aps v) s = if nat_eq n m then max s.aps_next v else s.aps_next
aps_behind m (Seal e n t) s = s.aps_next + taken_aps m (Seal e n t)
aps_behind m _ s = s.aps_next

abbrev pub nwk_behind : ℕ → Bytes → Line → NetKey → ℕ
nwk_behind m key (Boot e n) r = if nat_eq n m then r.limit else r.next
nwk_behind m key (Changed e n (Start k v)) r = if nat_eq n m && same_key key k
    then max r.next (min v greatest_counter) else r.next
nwk_behind m key (Counter n Nwk v) r = if nat_eq n m && r.started then max r.next v else r.next
nwk_behind m key (Seal e n t) r = r.next + taken_nwk m key (Seal e n t)
nwk_behind m key _ r = r.next

-- The next counters of each node are those after the line.
abbrev pub TakesAll : List Line → Line → Type 0
TakesAll h l = (m : ℕ) → ((state_of (h ++ l ∷ []) m).aps_next ≡ aps_behind m l (state_of h m))
    × ((key : Bytes) (r : NetKey) → net_of key (state_of h m) ≡ Some r
    → option_map (λ (x : NetKey). x.next) (net_of key (state_of (h ++ l ∷ []) m)) ≡ Some (nwk_behind m key l r))
