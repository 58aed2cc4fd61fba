-- The size of the greatest record, and of its largest parts.
use Rattle.std.specs.Prelude.{ℕ}

-- the number of bytes of the greatest record
abbrev pub greatest_record : ℕ
greatest_record = 46358

-- the floors of a network key: their number, and 12 bytes for each of 64
abbrev pub floors_room : ℕ
floors_room = 769

-- the network keys: two numbers of 2 bytes, 22 bytes for each of 256, and the floors of two
abbrev pub nets_room : ℕ
nets_room = 7174

-- the link keys: their number in 2 bytes, and 30 bytes for each of 1,024
abbrev pub links_room : ℕ
links_room = 30722

-- the keys of pairs: their number in 2 bytes, and 33 bytes for each of 256
abbrev pub pairs_room : ℕ
pairs_room = 8450
