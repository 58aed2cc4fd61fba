-- How the fault of a frame that is too long is printed.
use Rattle.std.specs.Prelude.{List, ℕ, codes}

abbrev pub too_long_text : List ℕ
too_long_text = codes "a frame has at most 127 bytes"
