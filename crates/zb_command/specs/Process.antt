-- What the words of the command line say of the process itself.
use Rattle.std.specs.Prelude.{ℕ, List, [], ◌∷◌, codes, bytes_eq, if◌then◌else◌}
use Rattle.zb_model.specs.Data.{Bytes}

-- The bytes of output for which there is room before they are written.
abbrev pub output_room : ℕ
output_room = 65536

-- How many bytes of output are held back: none of `admin`, whose lines go out as its commands are stored.
abbrev pub held_back : List Bytes → ℕ
held_back [] = output_room
held_back (word ∷ more) = if bytes_eq word (codes "admin") then 0 else output_room

-- The path of the store: the second word, or an empty path.
abbrev pub store_path : List Bytes → Bytes
store_path (word ∷ path ∷ more) = path
store_path _ = []
