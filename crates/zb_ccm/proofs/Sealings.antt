-- What was sealed opens, and what opens was sealed.
use Rattle.std.proofs.Common.{◌≡◌, ℕ, zero, suc, Bool, true, false, List, [], ◌∷◌, ◌++◌, ◌*◌, ◌≤◌, ◌∙◌, refl, sym, ap, length, replicate, Some, None, if◌then◌else◌, arith, add-one, length-append, length-take}
use Rattle.std.proofs.lemmas.Slice.Eq.{bytes_eq-Decides}
use Rattle.std.specs.Str.{bytes_eq}
use Rattle.zb_aes.proofs.Lengths.{length-enciphered}
use Rattle.zb_aes.proofs.Xored.{length-xored}
use Rattle.zb_aes.specs.Bytes.{xored}
use Rattle.zb_ccm.proofs.Openings.{crypted_twice}
use Rattle.zb_ccm.proofs.Streams.{stream-more}
use Rattle.zb_ccm.specs.Blocks.{block_count, chain, chained}
use Rattle.zb_ccm.specs.Ccm.{authenticated_blocks, mic_of, crypted, opens, sealed, stream, stream_block}

length-stream_block : (key nonce : List ℕ) (i : ℕ) → length key ≡ 16 → length (stream_block key nonce i) ≡ 16
unfolding stream_block
length-stream_block key nonce i h = length-enciphered key _ h

length-stream : (key nonce : List ℕ) (n : ℕ) → length key ≡ 16 → length (stream key nonce n) ≡ 16 * n
unfolding stream
length-stream key nonce zero h = refl
length-stream key nonce (suc n) h =
    let more : stream key nonce (suc n) ≡ stream key nonce n ++ stream_block key nonce (suc n) =
    rw add-one at (stream-more key nonce n) in
    ap length more ∙ length-append (stream key nonce n) (stream_block key nonce (suc n))
    ∙ omega (arith, length-stream key nonce n h, length-stream_block key nonce (suc n) h)

covered : (key nonce text : List ℕ) → length key ≡ 16
    → length text ≤ length (stream key nonce (block_count (length text)))
covered key nonce text h = omega (arith, length-stream key nonce (block_count (length text)) h)

length-chain : (key value : List ℕ) (blocks : List (List ℕ)) → length key ≡ 16 → length value ≡ 16
    → length (chain key value blocks) ≡ 16
length-chain key value [] h g = g
length-chain key value (b ∷ bs) h g =
    length-chain key (chained key value b) bs h (length-enciphered key (xored value b) h)

length-mic : (key nonce a message : List ℕ) (size : ℕ) → length key ≡ 16 → size ≤ 16
    → length (mic_of key nonce a message size) ≡ size
unfolding mic_of
length-mic key nonce a message size h g =
    let value : List ℕ = chain key (replicate 16 0) (authenticated_blocks nonce a message size) in
    let long : length value ≡ 16 = length-chain key (replicate 16 0) (authenticated_blocks nonce a message size) h
    refl in
    let total = length-xored value (stream_block key nonce 0) (omega (arith, length-stream_block key nonce 0 h)) in
    omega (arith, length-take size (xored value (stream_block key nonce 0)))

same_bytes : (xs : List ℕ) → bytes_eq xs xs ≡ true
same_bytes xs = (bytes_eq-Decides xs xs).1 refl

pub opens-sealed : (key nonce a message : List ℕ) (size : ℕ) → length key ≡ 16 → size ≤ 16
    → opens key nonce a (sealed key nonce a message size).text (sealed key nonce a message size).mic ≡ Some message
unfolding opens sealed
opens-sealed key nonce a message size h g =
    rw (
      crypted_twice key nonce message (covered key nonce message h),
      length-mic key nonce a message size h g,
      same_bytes (mic_of key nonce a message size),
    ) refl

chosen : (b : Bool) (x y : List ℕ) → (if b then Some x else None) ≡ Some y → (b ≡ true) × (x ≡ y)
chosen true x y e = (refl, cc)
chosen false x y e = absurd (cc)

pub sealed-opens : (key nonce a text mic message : List ℕ) → length key ≡ 16
    → opens key nonce a text mic ≡ Some message
    → sealed key nonce a message (length mic) ≡ record { text = text; mic = mic }
unfolding opens sealed
sealed-opens key nonce a text mic message h e =
    let found = chosen (bytes_eq (mic_of key nonce a (crypted key nonce text) (length mic)) mic)
    (crypted key nonce text)
    message e in
    let same : mic_of key nonce a message (length mic) ≡ mic =
    ap (λ m. mic_of key nonce a m (length mic)) (sym found.1)
    ∙ (bytes_eq-Decides (mic_of key nonce a (crypted key nonce text) (length mic)) mic).0 found.0 in
    let back : crypted key nonce message ≡ text =
    ap (crypted key nonce) (sym found.1) ∙ crypted_twice key nonce text (covered key nonce text h) in
    rw (back, same) refl
