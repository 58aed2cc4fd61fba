-- Writing at the end of a frame, which holds 127 bytes.
use Rattle.std.specs.Prelude.{◌≡◌, ℕ, ◌+◌, ◌<◌, ◌≤◌, List, ◌++◌, length, Result, Ok, Err}
use Rattle.zb_base.specs.Limits.{longest_frame}

-- The piece is appended if it fits. Otherwise it is refused, and the frame doesn't change.
abbrev pub Appends : {E : Type 0} → List ℕ → List ℕ → List ℕ → Result (Unit {0}) E → Type 0
Appends old piece new (Ok _) = (new ≡ old ++ piece) × (length old + length piece ≤ longest_frame)
Appends old piece new (Err _) = longest_frame < length old + length piece
