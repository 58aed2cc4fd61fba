-- The changes of a rule as they are stored: those that change something, each key that becomes active for the first
-- time with its first counter after it.
use Rattle.std.specs.Prelude.{ℕ, Bool, true, if◌then◌else◌, List, [], ◌∷◌, Option, Some, None, flat_map}
use Rattle.zb_model.specs.Answer.{changes, start_edit}
use Rattle.zb_model.specs.Data.{Bytes, Active, Edit, Moved}
use Rattle.zb_model.specs.State.{NodeState}

-- the change doesn't leave a thing as it is
abbrev pub is_change : NodeState → Edit → Bool
is_change s (Moved move) = changes s move
is_change s _ = true

-- the first counter that stands after a key that becomes active
abbrev pub start_behind : Option ℕ → Edit → List Edit
start_behind start (Moved (Active key)) = start_edit key start
start_behind start _ = []

-- one change, if it changes something
unfoldable pub settled_edits : NodeState → Option ℕ → Edit → List Edit
settled_edits s start e = if is_change s e then e ∷ start_behind start e else []

abbrev pub settled : NodeState → Option ℕ → List Edit → List Edit
settled s start es = flat_map (settled_edits s start) es

-- the key that a change makes active
abbrev pub activates : NodeState → Edit → Option Bytes
activates s (Moved (Active key)) = if changes s (Active key) then Some key else None
activates s _ = None

abbrev pub first_of : Option Bytes → Option Bytes → Option Bytes
first_of (Some key) rest = Some key
first_of None rest = rest

-- the key that becomes active
unfoldable pub active_in : NodeState → List Edit → Option Bytes
active_in s [] = None
active_in s (e ∷ es) = first_of (activates s e) (active_in s es)
