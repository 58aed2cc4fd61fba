-- The size of a record's body, and how far its entries reach.
use Rattle.std.specs.Prelude.{ℕ}

-- the greatest number of bytes of a record with its generation, its length and the gate after it
abbrev pub body_room : ℕ
body_room = 49165

-- the number of bytes after a record that reading its entries may look at: 488 for each of 32
abbrev pub entries_reach : ℕ
entries_reach = 15616
