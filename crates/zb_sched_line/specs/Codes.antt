-- Install codes, as `zb_install` defines them.
use Rattle.std.specs.Prelude.{List, ℕ, Bool, is_ok}
use Rattle.zb_install.specs.Code.{code_of}

-- Whether bytes are an install code with its CRC.
abbrev pub is_code : List ℕ → Bool
is_code bytes = is_ok (code_of bytes)
