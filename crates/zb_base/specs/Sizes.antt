-- The sizes of a disk and of what it keeps: a record, and the journal entries after it.
use Rattle.std.specs.Prelude.{ℕ}

-- the greatest number of bytes of a record
abbrev pub record_room : ℕ
record_room = 49152

-- the greatest number of bytes of an entry's payload
abbrev pub payload_room : ℕ
payload_room = 481

-- the greatest number of entries after a record
abbrev pub entries_room : ℕ
entries_room = 32

-- the greatest number of bytes of all entries after a record, each with three bytes before its payload
abbrev pub payloads_room : ℕ
payloads_room = 15488

-- the number of bytes of a disk: two slots
abbrev pub disk_size : ℕ
disk_size = 131072

-- the number of bytes of a slot
abbrev pub slot_size : ℕ
slot_size = 65536

-- the last generation of a slot, 2^64 - 1: no record is written after it
abbrev pub last_generation : ℕ
last_generation = 18446744073709551615

-- the greatest number of bytes of an entry: three before its payload
abbrev pub entry_room : ℕ
entry_room = 484

-- the first generation that isn't far from the last one: 2^63
abbrev pub late_generation : ℕ
late_generation = 9223372036854775808

-- the last generation of a disk that a test bench may give to a node: 2^62
abbrev pub last_given_generation : ℕ
last_given_generation = 4611686018427387904
