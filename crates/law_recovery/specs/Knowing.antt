-- A device that is admitted again may have the centre's network key from before.
use Rattle.std.specs.Prelude.{ℕ, ◌≡◌, ◌⊎◌, false, find, reverse, Some, nat_eq}
use Rattle.zb_model.specs.Data.{Bytes}
use Rattle.zb_model.specs.State.{NetKey, NodeState, has_net, live_nets, net_of}

-- A node has a network key with this sequence, and the sequence finds that key among its live keys.
pub record KnowsNetwork (t : NodeState) (key : Bytes) (sequence : ℕ) : Type 0 where
  pub row : NetKey
  pub is_row : net_of key t ≡ Some row
  pub row_sequence : row.sequence ≡ sequence
  pub found : NetKey
  pub is_found : find (λ (r : NetKey). nat_eq r.sequence sequence) (reverse (live_nets t)) ≡ Some found
  pub found_key : found.key ≡ key

-- the key is new to a node, or the node knows it with its sequence
abbrev pub MeetsKey : NodeState → Bytes → ℕ → Type 0
MeetsKey t key sequence = (has_net key t.nets ≡ false) ⊎ KnowsNetwork t key sequence
