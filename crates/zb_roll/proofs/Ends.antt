-- The end of a rollover, as it is stored.
use Rattle.std.proofs.Common.{◌≡◌, List, [], ◌∷◌, ◌++◌, refl, sym, ap, Bool, true, false, if◌then◌else◌, not, append-nil}
use Rattle.std.specs.Prelude.{flat_map}
use Rattle.zb_model.specs.Data.{Bytes, Edit, Active, Roll, Moved}
use Rattle.zb_model.specs.State.{NodeState, is_active_key}
use Rattle.zb_row_changes.specs.Planned.{settled, stored_move}

pub settled_idle : (s : NodeState) (sending : Bool) → settled s (Roll sending ∷ []) ≡ Moved (Roll sending) ∷ []
unfolding settled
settled_idle s sending = refl

pub settled_end : (s : NodeState) (key : Bytes) (sending : Bool) → settled s (Active key ∷ Roll sending ∷ [])
    ≡ settled s (Active key ∷ []) ++ Moved (Roll sending) ∷ []
unfolding settled
settled_end s key sending = at_test (is_active_key s.active key)
  where
    at_test : (b : Bool) → flat_map (stored_move s) (if not b then Active key ∷ Roll sending ∷ []
        else Roll sending ∷ []) ≡ flat_map (stored_move s) (if not b then Active key ∷ [] else [])
        ++ Moved (Roll sending) ∷ []
    at_test true = refl
    at_test false = ap (λ (l : List Edit). l ++ Moved (Roll sending) ∷ [])
        (sym (append-nil (stored_move s (Active key))))
