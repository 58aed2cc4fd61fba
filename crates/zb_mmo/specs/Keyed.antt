-- The keyed hash of 05-3474-21, annex B.1.4, and what is derived by it (05-3474-21, 4.5.3). It is HMAC (FIPS 198) over
-- the hash, whose block has 16 bytes as the key has.
use Rattle.std.specs.Prelude.{ℕ, List, [], ◌∷◌, ◌++◌, bit_xor, map}
use Rattle.zb_mmo.specs.Hash.{hash}

abbrev pub inner_pad : List ℕ → List ℕ
inner_pad key = map (λ b. bit_xor b 0x36) key

abbrev pub outer_pad : List ℕ → List ℕ
outer_pad key = map (λ b. bit_xor b 0x5c) key

-- The longest message of a keyed hash, in bytes: it is hashed after a pad of 16.
abbrev pub longest_keyed : ℕ
longest_keyed = 8175

-- The keyed hash of a message.
unfoldable pub keyed : (key bytes : List ℕ) → List ℕ
keyed key bytes = hash (outer_pad key ++ hash (inner_pad key ++ bytes))

-- The key that seals the transport of a network key.
abbrev pub transport_key : List ℕ → List ℕ
transport_key key = keyed key (0 ∷ [])

-- The key that seals the transport of a link key.
abbrev pub load_key : List ℕ → List ℕ
load_key key = keyed key (2 ∷ [])

-- What proves that a node knows a link key.
abbrev pub verify_hash : List ℕ → List ℕ
verify_hash key = keyed key (3 ∷ [])
