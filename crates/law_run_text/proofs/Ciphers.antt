-- The cipher, the hash and the seal turn bytes into bytes.
use Rattle.std.proofs.Common.{◌≡◌, ℕ, zero, suc, ◌+◌, ◌*◌, ◌/◌, ◌%◌, ◌^◌, ◌<◌, ◌≤◌, List, [], ◌∷◌, ◌++◌, map, take, drop, length, replicate, get_or, slice_index, fold, flat_map, bit_xor, mod-lt, refl, ap, ◌∙◌, arith, add-one, length-append, length-take, length-drop}
use Rattle.std.specs.Int.{w16, w32, w64, bytes_low_first, bytes_high_first, byte_at, to_be_bytes, to_le_bytes}
use Rattle.std.specs.List.{range_with_len}
use Rattle.std.proofs.lemmas.Nat.{xor_of_8}
use Rattle.zb_aes.specs.Block.{shift_rows, last_round, turned, word_of, next_key, round_constant, round_key, state_after, enciphered}
use Rattle.zb_aes.specs.Bytes.{xored}
use Rattle.zb_aes.specs.Field.{affine_bit, affine, inverse, substitute}
use Rattle.zb_aes.proofs.Lengths.{length-enciphered}
use Rattle.zb_aes.proofs.Xored.{length-xored}
use Rattle.zb_base.specs.declared.label.Label.{Label}
use Rattle.zb_base.specs.declared.label.Label.TheVariants as label
use Rattle.zb_ccm.specs.Blocks.{block_count, chain, chained}
use Rattle.zb_ccm.specs.Ccm.{authenticated_blocks, mic_of, crypted, stream, stream_block}
use Rattle.zb_ccm.proofs.Streams.{stream-more}
use Rattle.zb_mmo.specs.Hash.{blocks_of, hash, mixed, padded, padding, zeros}
use Rattle.zb_mmo.specs.Keyed.{keyed, inner_pad, outer_pad}
use Rattle.law_run.proofs.FreshLines.{all-append}
use Rattle.law_run_ranges.specs.Ranges.{IsByte, AreBytes, IsKey}
use Rattle.zb_seal.specs.Keys.{sealing_key}

-- ---- lists of bytes

pub bytes_append : (xs ys : List ℕ) → AreBytes xs → AreBytes ys → AreBytes (xs ++ ys)
bytes_append xs ys a b = all-append IsByte xs ys a b

pub front_of : (xs ys : List ℕ) → AreBytes (xs ++ ys) → AreBytes xs
front_of [] ys all = tt
front_of (x ∷ xs) ys all = (all.0, front_of xs ys all.1)

pub back_of : (xs ys : List ℕ) → AreBytes (xs ++ ys) → AreBytes ys
back_of [] ys all = all
back_of (x ∷ xs) ys all = back_of xs ys all.1

taken : (n : ℕ) (xs : List ℕ) → AreBytes xs → AreBytes (take n xs)
taken zero xs all = tt
taken (suc n) [] all = tt
taken (suc n) (x ∷ xs) all = (all.0, taken n xs all.1)

dropped : (n : ℕ) (xs : List ℕ) → AreBytes xs → AreBytes (drop n xs)
dropped zero xs all = all
dropped (suc n) [] all = tt
dropped (suc n) (x ∷ xs) all = dropped n xs all.1

at_index : (xs : List ℕ) (i : ℕ) → AreBytes xs → IsByte (get_or xs i 0)
at_index [] i all = omega arith
at_index (x ∷ xs) zero all = all.0
at_index (x ∷ xs) (suc i) all = at_index xs i all.1

zeros_in : (n : ℕ) → AreBytes (replicate n 0)
zeros_in zero = tt
zeros_in (suc n) = (omega arith, zeros_in n)

each_byte : (f : ℕ → ℕ) → ((n : ℕ) → IsByte (f n)) → (xs : List ℕ) → AreBytes (map f xs)
each_byte f is [] = tt
each_byte f is (x ∷ xs) = (is x, each_byte f is xs)

byte_fits : (i n : ℕ) → IsByte (byte_at i n)
byte_fits zero n = mod-lt n (omega arith)
byte_fits (suc i) n = mod-lt (n / 256 ^ suc i) (omega arith)

low_first : (i k n : ℕ) → AreBytes (bytes_low_first i k n)
low_first i zero n = tt
low_first i (suc k) n = (byte_fits i n, low_first (suc i) k n)

high_first : (k n : ℕ) → AreBytes (bytes_high_first k n)
high_first zero n = tt
high_first (suc k) n = (byte_fits k n, high_first k n)

pub two_in : (n : ℕ) → AreBytes (to_le_bytes w16 n)
two_in n = low_first 0 2 n

pub four_in : (n : ℕ) → AreBytes (to_le_bytes w32 n)
four_in n = low_first 0 4 n

pub eight_in : (n : ℕ) → AreBytes (to_le_bytes w64 n)
eight_in n = low_first 0 8 n

-- ---- the cipher

pub xored_in : (xs ys : List ℕ) → AreBytes xs → AreBytes ys → AreBytes (xored xs ys)
unfolding xored
xored_in [] ys a b = tt
xored_in (x ∷ xs) [] a b = tt
xored_in (x ∷ xs) (y ∷ ys) a b = (xor_of_8 x y a.0 b.0, xored_in xs ys a.1 b.1)

bit_in : (b i : ℕ) → affine_bit b i < 2
bit_in b i = mod-lt _ (omega arith)

affine_in : (b : ℕ) → IsByte (affine b)
affine_in b =
    omega (arith, bit_in b 0, bit_in b 1, bit_in b 2, bit_in b 3, bit_in b 4, bit_in b 5, bit_in b 6, bit_in b 7)

substitute_in : (a : ℕ) → IsByte (substitute a)
unfolding substitute
substitute_in a = affine_in (inverse a)

word_in : (key : List ℕ) (i : ℕ) → AreBytes key → AreBytes (word_of key i)
word_in key i k = taken 4 (drop (4 * i) key) (dropped (4 * i) key k)

turned_in : (constant : ℕ) (word : List ℕ) → IsByte constant → AreBytes (turned constant word)
turned_in constant word c =
    xored_in (map substitute (drop 1 word ++ take 1 word)) (constant ∷ 0 ∷ 0 ∷ 0 ∷ [])
    (each_byte substitute substitute_in (drop 1 word ++ take 1 word))
    (c, (omega arith, (omega arith, (omega arith, tt))))

next_in : (constant : ℕ) (key : List ℕ) → IsByte constant → AreBytes key → AreBytes (next_key constant key)
unfolding next_key
next_in constant key c k =
    let first = xored (word_of key 0) (turned constant (word_of key 3)) in
    let second = xored (word_of key 1) first in
    let third = xored (word_of key 2) second in
    let fourth = xored (word_of key 3) third in
    let a : AreBytes first = xored_in (word_of key 0) (turned constant (word_of key 3)) (word_in key 0 k)
    (turned_in constant (word_of key 3) c) in
    let b : AreBytes second = xored_in (word_of key 1) first (word_in key 1 k) a in
    let d : AreBytes third = xored_in (word_of key 2) second (word_in key 2 k) b in
    let e : AreBytes fourth = xored_in (word_of key 3) third (word_in key 3 k) d in
    bytes_append (first ++ second ++ third) fourth
    (bytes_append (first ++ second) third (bytes_append first second a b) d) e

last_key_in : (key : List ℕ) → AreBytes key → AreBytes (round_key key 10)
unfolding round_key
last_key_in key k =
    let one = next_in (round_constant 1) (round_key key 0) (omega arith) k in
    let two = next_in (round_constant 2) (round_key key 1) (omega arith) one in
    let three = next_in (round_constant 3) (round_key key 2) (omega arith) two in
    let four = next_in (round_constant 4) (round_key key 3) (omega arith) three in
    let five = next_in (round_constant 5) (round_key key 4) (omega arith) four in
    let six = next_in (round_constant 6) (round_key key 5) (omega arith) five in
    let seven = next_in (round_constant 7) (round_key key 6) (omega arith) six in
    let eight = next_in (round_constant 8) (round_key key 7) (omega arith) seven in
    let nine = next_in (round_constant 9) (round_key key 8) (omega arith) eight in
    next_in (round_constant 10) (round_key key 9) (omega arith) nine

pub enciphered_in : (key block : List ℕ) → AreBytes key → AreBytes (enciphered key block)
unfolding enciphered last_round
enciphered_in key block k =
    let state = map substitute (state_after key block 9) in
    xored_in (shift_rows state) (round_key key 10)
    (each_byte (λ i. slice_index state ((i + 4 * (i % 4)) % 16))
    (λ i. at_index state ((i + 4 * (i % 4)) % 16) (each_byte substitute substitute_in (state_after key block 9)))
    (range_with_len 0 16))
    (last_key_in key k)

-- ---- the hash

mixed_in : (bytes value : List ℕ) (is : List ℕ) → AreBytes bytes → AreBytes value
    → AreBytes (fold mixed value (map (λ i. take 16 (drop (16 * i) bytes)) is))
mixed_in bytes value [] b v = v
mixed_in bytes value (i ∷ is) b v =
    let block = take 16 (drop (16 * i) bytes) in
    mixed_in bytes (mixed value block) is b
    (xored_in (enciphered value block) block (enciphered_in value block v)
    (taken 16 (drop (16 * i) bytes) (dropped (16 * i) bytes b)))

padding_in : (n : ℕ) → AreBytes (padding n)
padding_in n = (
  omega arith,
  bytes_append (replicate (zeros n) 0) (to_be_bytes w16 (8 * n)) (zeros_in (zeros n))
      (high_first 2 (8 * n)),
)

hash_bytes : (bytes : List ℕ) → AreBytes bytes → AreBytes (hash bytes)
unfolding hash blocks_of
hash_bytes bytes b = mixed_in (padded bytes) (replicate 16 0) (range_with_len 0 (length (padded bytes) / 16))
    (bytes_append bytes (padding (length bytes)) b (padding_in (length bytes))) (zeros_in 16)

length-mixed : (value block : List ℕ) → length value ≡ 16 → 16 ≤ length block → length (mixed value block) ≡ 16
length-mixed value block h le = length-xored (enciphered value block) block
    (omega (arith, length-enciphered value block h)) ∙ length-enciphered value block h

mixed_range : (bytes value : List ℕ) (a n : ℕ) → length value ≡ 16 → 16 * (a + n) ≤ length bytes
    → length (fold mixed value (map (λ i. take 16 (drop (16 * i) bytes)) (range_with_len a n))) ≡ 16
mixed_range bytes value a zero h le = h
mixed_range bytes value a (suc n) h le =
    let block : List ℕ = take 16 (drop (16 * a) bytes) in
    let long : 16 ≤ length block = omega (arith, length-take 16 (drop (16 * a) bytes), length-drop (16 * a) bytes) in
    mixed_range bytes (mixed value block) (a + 1) n (length-mixed value block h long) (omega arith)

hash_length : (bytes : List ℕ) → length (hash bytes) ≡ 16
unfolding hash blocks_of
hash_length bytes = mixed_range (padded bytes) (replicate 16 0) 0 (length (padded bytes) / 16) refl (omega arith)

pub hash_in : (bytes : List ℕ) → AreBytes bytes → IsKey (hash bytes)
hash_in bytes b = (hash_bytes bytes b, hash_length bytes)

pads_in : (pad : ℕ) (key : List ℕ) → IsByte pad → AreBytes key → AreBytes (map (λ b. bit_xor b pad) key)
pads_in pad [] p k = tt
pads_in pad (b ∷ key) p k = (xor_of_8 b pad k.0 p, pads_in pad key p k.1)

pub keyed_in : (key bytes : List ℕ) → AreBytes key → AreBytes bytes → IsKey (keyed key bytes)
unfolding keyed
keyed_in key bytes k b =
    let inner = inner_pad key ++ bytes in
    let inner_in : AreBytes inner = bytes_append (inner_pad key) bytes (pads_in 0x36 key (omega arith) k) b in
    hash_in (outer_pad key ++ hash inner)
    (bytes_append (outer_pad key) (hash inner) (pads_in 0x5c key (omega arith) k) (hash_bytes inner inner_in))

pub sealing_in : (l : Label) (base : List ℕ) → IsKey base → IsKey (sealing_key l base)
sealing_in label.Data base k = k
sealing_in label.Network base k = k
sealing_in label.Transport base k = keyed_in base (0 ∷ []) k.0 (omega arith, tt)
sealing_in label.Load base k = keyed_in base (2 ∷ []) k.0 (omega arith, tt)

-- ---- the seal

stream_from : (key nonce : List ℕ) (is : List ℕ) → AreBytes key → AreBytes (flat_map (stream_block key nonce) is)
unfolding stream_block
stream_from key nonce [] k = tt
stream_from key nonce (i ∷ is) k =
    let block = 1 ∷ nonce ++ to_be_bytes w16 i in
    bytes_append (enciphered key block) (flat_map (stream_block key nonce) is) (enciphered_in key block k)
    (stream_from key nonce is k)

pub crypted_in : (key nonce text : List ℕ) → AreBytes key → AreBytes text → AreBytes (crypted key nonce text)
unfolding crypted stream
crypted_in key nonce text k t = xored_in text (stream key nonce (block_count (length text))) t
    (stream_from key nonce (range_with_len 1 (block_count (length text))) k)

length-stream : (key nonce : List ℕ) (n : ℕ) → length key ≡ 16 → length (stream key nonce n) ≡ 16 * n
unfolding stream stream_block
length-stream key nonce zero h = refl
length-stream key nonce (suc n) h =
    let more : stream key nonce (suc n) ≡ stream key nonce n ++ stream_block key nonce (suc n) =
    rw add-one at (stream-more key nonce n) in
    ap (length {A = ℕ}) more ∙ length-append (stream key nonce n) (stream_block key nonce (suc n)) ∙ omega
    (arith, length-stream key nonce n h, length-enciphered key (1 ∷ nonce ++ to_be_bytes w16 (suc n)) h)

pub crypted_length : (key nonce text : List ℕ) → length key ≡ 16 → length (crypted key nonce text) ≡ length text
unfolding crypted
crypted_length key nonce text h = length-xored text (stream key nonce (block_count (length text)))
    (omega (arith, length-stream key nonce (block_count (length text)) h))

chain_in : (key value : List ℕ) (blocks : List (List ℕ)) → AreBytes key → AreBytes value
    → AreBytes (chain key value blocks)
chain_in key value [] k v = v
chain_in key value (b ∷ bs) k v = chain_in key (chained key value b) bs k (enciphered_in key (xored value b) k)

pub mic_in : (key nonce a message : List ℕ) → AreBytes key → AreBytes (mic_of key nonce a message 4)
unfolding mic_of stream_block
mic_in key nonce a message k =
    let value = chain key (replicate 16 0) (authenticated_blocks nonce a message 4) in
    taken 4 (xored value (stream_block key nonce 0))
    (xored_in value (stream_block key nonce 0)
    (chain_in key (replicate 16 0) (authenticated_blocks nonce a message 4) k (zeros_in 16))
    (enciphered_in key (1 ∷ nonce ++ to_be_bytes w16 0) k))
