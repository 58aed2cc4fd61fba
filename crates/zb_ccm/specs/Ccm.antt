-- CCM* with a length field of 2 bytes and a nonce of 13 (05-3474-21, annex A.2), which is CCM (RFC 3610) for MICs
-- of 4 and 8 bytes. `size` is the length of the MIC.
use Rattle.std.specs.Prelude.{◌≡◌, ℕ, List, [], ◌∷◌, ◌++◌, ◌+◌, ◌-◌, ◌*◌, ◌/◌, Option, Some, None, Result, OnOk, OnErr, length, take, replicate, if◌then◌else◌}
use Rattle.std.specs.Int.{w16, to_be_bytes}
use Rattle.std.specs.List.{flat_map, range_with_len}
use Rattle.std.specs.Str.{bytes_eq}
use Rattle.zb_aes.specs.Block.{enciphered}
use Rattle.zb_aes.specs.Bytes.{xored}
use Rattle.zb_ccm.specs.Blocks.{block_count, blocks_of, chain}

-- RFC 3610, 2.2: lengths below 2^16 - 2^8 are encoded in two bytes.
abbrev pub longest_text : ℕ
longest_text = 65280

-- RFC 3610, 2.2: 64 where data is authenticated only, then the size of the MIC in 3 bits, then the size of the length
-- field in 3 bits.
abbrev pub flags : List ℕ → ℕ → ℕ
flags [] size = 8 * ((size - 2) / 2) + 1
flags (x ∷ xs) size = 64 + 8 * ((size - 2) / 2) + 1

-- RFC 3610, 2.2: the block B_0.
abbrev pub first_block : (nonce associated message : List ℕ) → ℕ → List ℕ
first_block nonce associated message size =
    flags associated size ∷ nonce ++ to_be_bytes w16 (length message)

-- RFC 3610, 2.2: the authenticated data after its length, or nothing where it is empty.
abbrev pub with_length : List ℕ → List ℕ
with_length [] = []
with_length (x ∷ xs) = to_be_bytes w16 (length (x ∷ xs)) ++ x ∷ xs

-- RFC 3610, 2.2: all blocks that are authenticated.
abbrev pub authenticated_blocks : (nonce associated message : List ℕ) → ℕ → List (List ℕ)
authenticated_blocks nonce associated message size =
    first_block nonce associated message size ∷ blocks_of (with_length associated) ++ blocks_of message

-- RFC 3610, 2.3: the block A_i, enciphered.
unfoldable pub stream_block : (key nonce : List ℕ) → ℕ → List ℕ
stream_block key nonce i = enciphered key (1 ∷ nonce ++ to_be_bytes w16 i)

-- The first `n` blocks of the key stream, from S_1 on.
unfoldable pub stream : (key nonce : List ℕ) → ℕ → List ℕ
stream key nonce n = flat_map (stream_block key nonce) (range_with_len 1 n)

-- RFC 3610, 2.3: the text added to the key stream, which turns plain text into cipher text and back.
unfoldable pub crypted : (key nonce text : List ℕ) → List ℕ
crypted key nonce text = xored text (stream key nonce (block_count (length text)))

-- RFC 3610, 2.2 and 2.3: the MIC over both, enciphered with S_0.
unfoldable pub mic_of : (key nonce associated message : List ℕ) → ℕ → List ℕ
mic_of key nonce associated message size =
    take size (xored (chain key (replicate 16 0) (authenticated_blocks nonce associated message size))
    (stream_block key nonce 0))

-- A message under seal: its cipher text and its MIC.
pub record Sealed : Type 0 where
  pub text : List ℕ
  pub mic : List ℕ

-- The message under seal, with a MIC of `size` bytes.
unfoldable pub sealed : (key nonce associated message : List ℕ) → ℕ → Sealed
sealed key nonce associated message size =
    record { text = crypted key nonce message; mic = mic_of key nonce associated message size }

-- The message that a cipher text and a MIC hold: nothing where the MIC isn't that of the message.
unfoldable pub opens : (key nonce associated text mic : List ℕ) → Option (List ℕ)
opens key nonce associated text mic =
    let message = crypted key nonce text in
    if bytes_eq (mic_of key nonce associated message (length mic)) mic then Some message else None

-- What opening returned and left in place of a text: its message where the MIC is right, and else the text as it was.
pub record IsOpening {E : Type 0} (key nonce associated text mic left : List ℕ) (result : Result (Unit {0}) E) : Type
    0 where
  pub opened : OnOk result (opens key nonce associated text mic ≡ Some left)
  pub refused : OnErr result (opens key nonce associated text mic ≡ None)
  pub kept : OnErr result (left ≡ text)
