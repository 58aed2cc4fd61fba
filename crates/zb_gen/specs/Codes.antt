-- The install codes of a made schedule.
use Rattle.std.specs.Prelude.{◌≡◌, ℕ, ◌*◌, ◌-◌, ◌<◌, List, ◌++◌, length, get_or}
use Rattle.std.specs.Int.{w16, to_le_bytes}
use Rattle.zb_base.specs.declared.key.Key.{Key}
use Rattle.zb_install.specs.Crc.{crc}
use Rattle.zb_gen.specs.Words.{key_at}

-- The install codes of the first `count` nodes of a start value.
pub record CodesOf : Type 0 where
  pub start : ℕ
  pub count : ℕ

-- The install code of node i, from 1: a key and its CRC, low byte first.
abbrev pub code_bytes : ℕ → ℕ → List ℕ
code_bytes start i = key_at start (4 * (i - 1)) ++ to_le_bytes w16 (crc (key_at start (4 * (i - 1))))

-- The keys that the codes of a start value begin with.
abbrev pub AreKeysOf : ℕ → List Key → Type 0
AreKeysOf start keys = (i : ℕ) (other : Key) → i < length keys → (get_or keys i other).0 ≡ key_at start (4 * i)
