-- Derived keys have 16 bytes, a MIC has the length that is asked for, and how long a term is on the air.
use Rattle.std.proofs.Common.{◌≡◌, ℕ, zero, suc, ◌+◌, ◌-◌, ◌*◌, ◌/◌, ◌≤◌, Bool, true, false, cond, List, [], ◌∷◌, ◌++◌, length, take, drop, map, replicate, nat_le, refl, ap, ◌∙◌, arith, length-append, length-take, length-drop}
use Rattle.std.specs.List.{fold, range_with_len}
use Rattle.zb_base.specs.declared.label.Label.{Label}
use Rattle.zb_base.specs.declared.label.Label.TheVariants.{Data, Network, Transport, Load}
use Rattle.zb_aes.proofs.Lengths.{length-enciphered}
use Rattle.zb_aes.proofs.Xored.{length-xored}
use Rattle.zb_aes.specs.Block.{enciphered}
use Rattle.zb_aes.specs.Bytes.{xored}
use Rattle.zb_mmo.specs.Hash.{blocks_of, mixed, hash, padded}
use Rattle.zb_mmo.specs.Keyed.{keyed, inner_pad, outer_pad}
use Rattle.zb_ccm.specs.Blocks.{chain, chained}
use Rattle.zb_ccm.specs.Ccm.{authenticated_blocks, mic_of, sealed, stream_block}
use Rattle.zb_seal.specs.Keys.{sealing_key}
use Rattle.zb_seal.specs.Wire.{zero_level, at_place, aux_size, on_air, sealed_term, wire, wire_length}
use Rattle.zb_seal.specs.declared.term.Term.{Term}
use Rattle.zb_seal.proofs.Places.{length-at_place}

length-mixed : (value block : List ℕ) → length value ≡ 16 → 16 ≤ length block → length (mixed value block) ≡ 16
length-mixed value block h le = length-xored (enciphered value block) block
    (omega (arith, length-enciphered value block h)) ∙ length-enciphered value block h

mixed_range : (bytes value : List ℕ) (a n : ℕ) → length value ≡ 16 → 16 * (a + n) ≤ length bytes
    → length (fold mixed value (map (λ i. take 16 (drop (16 * i) bytes)) (range_with_len a n))) ≡ 16
mixed_range bytes value a zero h le = h
mixed_range bytes value a (suc n) h le =
    let block : List ℕ = take 16 (drop (16 * a) bytes) in
    let long : 16 ≤ length block = omega (arith, length-take 16 (drop (16 * a) bytes), length-drop (16 * a) bytes) in
    mixed_range bytes (mixed value block) (a + 1) n (length-mixed value block h long) (omega arith)

length-hash : (bytes : List ℕ) → length (hash bytes) ≡ 16
unfolding hash blocks_of
length-hash bytes = mixed_range (padded bytes) (replicate 16 0) 0 (length (padded bytes) / 16) refl (omega arith)

pub length-keyed : (key bytes : List ℕ) → length (keyed key bytes) ≡ 16
unfolding keyed
length-keyed key bytes = length-hash (outer_pad key ++ hash (inner_pad key ++ bytes))

pub length-sealing_key : (label : Label) (base : List ℕ) → length base ≡ 16 → length (sealing_key label base) ≡ 16
length-sealing_key Data base h = h
length-sealing_key Network base h = h
length-sealing_key Transport base h = length-keyed base (0 ∷ [])
length-sealing_key Load base h = length-keyed base (2 ∷ [])

length-chain : (key value : List ℕ) (blocks : List (List ℕ)) → length key ≡ 16 → length value ≡ 16
    → length (chain key value blocks) ≡ 16
length-chain key value [] h g = g
length-chain key value (b ∷ bs) h g = length-chain key (chained key value b) bs h
    (length-enciphered key (xored value b) h)

pub length-mic : (key nonce a message : List ℕ) → length key ≡ 16 → length (sealed key nonce a message 4).mic ≡ 4
unfolding sealed mic_of stream_block
length-mic key nonce a message h =
    let value : List ℕ = chain key (replicate 16 0) (authenticated_blocks nonce a message 4) in
    let long : length value ≡ 16 = length-chain key (replicate 16 0) (authenticated_blocks nonce a message 4) h refl in
    let stream : length (stream_block key nonce 0) ≡ 16 = length-enciphered key _ h in
    let total = length-xored value (stream_block key nonce 0) (omega arith) in
    omega (arith, length-take 4 (xored value (stream_block key nonce 0)))

length-one_of : (b : Bool) (xs ys : List ℕ) → length xs ≡ length ys → length (cond b xs ys) ≡ length ys
length-one_of true xs ys h = h
length-one_of false xs ys h = refl

length-on_air : (size : ℕ) (header : List ℕ) → length (on_air size header) ≡ length header
length-on_air size header = length-one_of (nat_le size (length header))
    (at_place zero_level (length header - size) header) header
    (length-at_place zero_level (length header - size) header)

-- the length on the air, from those of the cipher text and of the MIC
pub length-wire : (t : Term) (key text mic : List ℕ) → key ≡ sealing_key t.label t.base.0 → text
    ≡ (sealed_term key t).text → mic ≡ (sealed_term key t).mic → length text ≡ length t.content.items → length mic ≡ 4
    → length (wire t) ≡ wire_length t
length-wire t key text mic is at mic_of same four =
    let air : List ℕ = on_air (aux_size t.layer t.control) t.header.items in
    let parts : wire t ≡ (air ++ text) ++ mic = rw (at, mic_of, is) refl in
    ap (length {A = ℕ}) parts ∙ omega (
      arith,
      length-append (air ++ text) mic,
      length-append air text,
      length-on_air (aux_size t.layer t.control)
          t.header.items,
      same,
      four,
    )
