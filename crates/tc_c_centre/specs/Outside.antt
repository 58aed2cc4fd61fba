-- What a call serves over, as contracts see it.
use Rattle.std.specs.Prelude.{ℕ, ◌≤◌, List, length}
use Rattle.zb_base.specs.Sizes.{disk_size}

-- a disk has room for this number of bytes
abbrev pub HasRoom : List ℕ → Type 0
HasRoom bytes = length bytes ≤ disk_size

-- the answer so far, and how many of its writes failed
pub record Written : Type 0 where
  pub text : List ℕ
  pub faults : ℕ
