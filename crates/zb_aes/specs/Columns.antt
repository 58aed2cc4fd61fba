-- A block as four words, one a column, and a list of round keys.
use Rattle.std.specs.Prelude.{◌≡◌, ℕ, ◌<◌, List, [], ◌++◌, get_or, map}
use Rattle.zb_aes.specs.Block.{round_key}
use Rattle.zb_aes.specs.Bytes.{word_bytes}
use Rattle.zb_aes.specs.Pairs.{byte_of}
use Rattle.zb_aes.specs.declared.state.State.{State}

-- The bytes of a state, column after column.
abbrev pub state_bytes : State → List ℕ
state_bytes s = word_bytes s.0 ++ word_bytes s.1 ++ word_bytes s.2 ++ word_bytes s.3

-- The bytes of key `i` of a list of round keys, which has them as pairs.
abbrev pub key_at : List (List ℕ) → ℕ → List ℕ
key_at keys i = map byte_of (get_or keys i [])

-- The first `n` keys are the round keys of the first of them.
pub record AreRoundKeys (n : ℕ) (keys : List (List ℕ)) : Type 0 where
  pub each : (i : ℕ) → i < n → key_at keys i ≡ round_key (key_at keys 0) i
