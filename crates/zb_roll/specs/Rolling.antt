-- What the start and the end of a rollover change, in the terms of the policy.
use Rattle.std.specs.Prelude.{◌+◌, ◌%◌, List, [], ◌∷◌, ◌++◌, true, false, Option, Some, None}
use Rattle.zb_model.specs.Data.{Bytes, Move, Install, Active, Roll, NoKey, KeysFull}
use Rattle.zb_model.specs.Rules.{Outcome, Does, refuse_if, found_or, drop_old, nets_full}
use Rattle.zb_model.specs.State.{NetKey, NodeState, active_row}

-- of two network keys in use the one that isn't active is dropped, and the new one has the next sequence
abbrev pub start_moves : NodeState → NetKey → Bytes → List Move
start_moves s net key = drop_old s ++ (Install key ((net.sequence + 1) % 256) ∷ Roll true ∷ [])

unfoldable pub start_rule : NodeState → Bytes → Outcome
start_rule s key =
    found_or (active_row s) NoKey (λ net.
    refuse_if (nets_full s) KeysFull (
    Does (start_moves s net key) None))

-- the newest network key in use becomes active
abbrev pub finish_moves : Option NetKey → List Move
finish_moves None = Roll false ∷ []
finish_moves (Some new) = Active new.key ∷ Roll false ∷ []
