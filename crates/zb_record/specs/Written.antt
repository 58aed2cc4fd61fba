-- Writing into a buffer.
use Rattle.std.specs.Prelude.{◌≡◌, ℕ, ◌+◌, List, ◌++◌, length, take}

-- The bytes up to a place are unchanged, and after them the piece was written, up to another place.
pub record Writes (old new : List ℕ) (at end : ℕ) (piece : List ℕ) : Type 0 where
  pub front : take end new ≡ take at old ++ piece
  pub end_is : end ≡ at + length piece
