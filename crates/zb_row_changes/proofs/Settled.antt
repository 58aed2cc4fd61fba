-- A new network key is installed, as it is stored: the key that is dropped, the row, and what makes the key active.
use Rattle.std.proofs.Common.{◌≡◌, ℕ, List, [], ◌∷◌, ◌++◌, map, length, refl, Bool, true, false, if◌then◌else◌, not}
use Rattle.std.specs.Prelude.{filter, nat_le}
use Rattle.zb_model.specs.Data.{Bytes, Install, Moved}
use Rattle.zb_model.specs.Rules.{drop_old, first_drop}
use Rattle.zb_model.specs.State.{NodeState, NetKey, is_active_key, live_nets}
use Rattle.zb_row_changes.specs.Planned.{arrival, settled}

pub settled_new : (s : NodeState) (key : Bytes) (sequence : ℕ)
    → settled s (drop_old s ++ (Install key sequence ∷ arrival s key))
    ≡ (map Moved (drop_old s) ++ Moved (Install key sequence) ∷ []) ++ settled s (arrival s key)
unfolding settled drop_old
settled_new s key sequence = at_test (nat_le 2 (length (live_nets s)))
    (filter (λ (r : NetKey). not (is_active_key s.active r.key)) (live_nets s))
  where
    at_test : (b : Bool) (rows : List NetKey)
        → settled s ((if b then first_drop rows else []) ++ (Install key sequence ∷ arrival s key))
        ≡ (map Moved (if b then first_drop rows else []) ++ Moved (Install key sequence) ∷ [])
        ++ settled s (arrival s key)
    at_test true [] = refl
    at_test true (r ∷ rs) = refl
    at_test false rows = refl
