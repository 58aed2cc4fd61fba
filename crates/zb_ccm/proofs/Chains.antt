-- Cipher block chaining, block by block.
use Rattle.std.proofs.Common.{◌≡◌, ℕ, zero, suc, ◌+◌, ◌-◌, ◌*◌, ◌<◌, ◌≤◌, List, [], ◌∷◌, ◌++◌, ◌∙◌, refl, sym, ap, length, take, drop, replicate, map, min, inl, inr, add-one, arith, take_all, length-drop, drop-drop, length-append}
use Rattle.std.proofs.lemmas.Bool.{cases_lt}
use Rattle.std.proofs.lemmas.List.{drop_all}
use Rattle.std.proofs.lemmas.List.FromFn.{map-range_with_len_more}
use Rattle.std.proofs.lemmas.List.Sums.{fold-append}
use Rattle.std.specs.Int.{w16, to_be_bytes}
use Rattle.std.specs.List.{range_with_len}
use Rattle.zb_aes.proofs.Xored.{xored-zeros}
use Rattle.zb_aes.specs.Block.{enciphered}
use Rattle.zb_aes.specs.Bytes.{xored}
use Rattle.zb_ccm.specs.Blocks.{block_at, block_count, blocks_of, chain, chained}
use Rattle.zb_ccm.specs.Ccm.{mic_of, with_length, first_block, flags, stream_block}

-- One block more is chained.
pub chain_more : (key start bytes value block total next : List ℕ) (i : ℕ)
    → value ≡ chain key start (map (block_at bytes) (range_with_len 0 i))
    → block ≡ take 16 (take (length bytes - 16 * i) (drop (16 * i) bytes) ++ replicate 16 0)
    → total ≡ xored value block → next ≡ enciphered key total
    → next ≡ chain key start (map (block_at bytes) (range_with_len 0 (i + 1)))
chain_more key start bytes value block total next i p q r s =
    let blocks : List (List ℕ) = map (block_at bytes) (range_with_len 0 i) in
    let here : block ≡ block_at bytes i =
    q ∙ ap (λ l. take 16 (l ++ replicate 16 0))
    (take_all (length bytes - 16 * i) (drop (16 * i) bytes) (omega (arith, length-drop (16 * i) bytes))) in
    let step : next ≡ chained key (chain key start blocks) (block_at bytes i) = cc in
    step ∙ sym (fold-append (chained key) start blocks (block_at bytes i ∷ []))
    ∙ ap (chain key start) (sym (map-range_with_len_more (block_at bytes) 0 i i (omega arith)))

-- All blocks are chained.
pub chain_end : (key start bytes value : List ℕ) (i n : ℕ) → n ≡ block_count (length bytes) → i ≤ n → n ≤ i
    → value ≡ chain key start (map (block_at bytes) (range_with_len 0 i)) → value ≡ chain key start (blocks_of bytes)
unfolding blocks_of
chain_end key start bytes value i n e low high p =
    let k : i ≡ block_count (length bytes) = omega arith in
    p ∙ ap (λ j. chain key start (map (block_at bytes) (range_with_len 0 j))) k

shifted : (bytes : List ℕ) (a n : ℕ)
    → map (block_at bytes) (range_with_len (a + 1) n) ≡ map (block_at (drop 16 bytes)) (range_with_len a n)
shifted bytes a zero = refl
shifted bytes a (suc n) =
    let e : 16 + 16 * a ≡ 16 * (a + 1) = omega arith in
    let here : block_at bytes (a + 1) ≡ block_at (drop 16 bytes) a =
    ap (λ l. take 16 (l ++ replicate 16 0)) (sym (drop-drop (16 * a) 16 bytes ∙ ap (λ j. drop j bytes) e)) in
    rw (here, shifted bytes (a + 1) n) refl

blocks_of-nil : blocks_of [] ≡ []
unfolding blocks_of
blocks_of-nil = refl

-- The first block, and the blocks of what comes after it.
blocks_of-more : (bytes : List ℕ) → 0 < length bytes → blocks_of bytes ≡ block_at bytes 0 ∷ blocks_of (drop 16 bytes)
unfolding blocks_of
blocks_of-more bytes h =
    let size : length (drop 16 bytes) ≡ length bytes - 16 = length-drop 16 bytes in
    let count : block_count (length bytes) ≡ block_count (length bytes - 16) + 1 = omega arith in
    rw (size, count, add-one) (ap (λ l. block_at bytes 0 ∷ l) (shifted bytes 0 (block_count (length bytes - 16))))

pub chain-with_length_none : (key value a : List ℕ) → length a ≡ 0 → value
    ≡ chain key value (blocks_of (with_length a))
chain-with_length_none key value [] h = rw blocks_of-nil refl
chain-with_length_none key value (x ∷ xs) h = absurd (omega arith)

dropped : (a : List ℕ) (count : ℕ) → count ≡ min (length a) 14 → take (length a - count) (drop count a) ≡ drop 14 a
dropped a count e =
    let whole : take (length a - count) (drop count a) ≡ drop count a =
    take_all (length a - count) (drop count a) (omega (arith, length-drop count a)) in
    elim (cases_lt (length a) 14) [
      | inl h ↦ whole ∙ drop_all count a (omega arith) ∙ sym (drop_all 14 a (omega arith))
      | inr h ↦ let k : count ≡ 14 = omega arith in whole ∙ ap (λ j. drop j a) k
    ]

pub chain-with_length_some : (key value a block total first result : List ℕ) (count : ℕ) → 0 < length a
    → block ≡ block_at (with_length a) 0 → total ≡ xored value block → first ≡ enciphered key total
    → count ≡ min (length a) 14
    → result ≡ chain key first (blocks_of (take (length a - count) (drop count a)))
    → result ≡ chain key value (blocks_of (with_length a))
chain-with_length_some key value [] block total first result count h p q r e s = absurd (omega arith)
chain-with_length_some key value (x ∷ xs) block total first result count h p q r e s =
    let rest : result ≡ chain key first (blocks_of (drop 14 (x ∷ xs))) =
    s ∙ ap (λ l. chain key first (blocks_of l)) (dropped (x ∷ xs) count e) in
    let blocks = blocks_of-more (with_length (x ∷ xs)) (omega arith) in
    rw blocks
    (rest ∙ ap (λ l. chain key l (blocks_of (drop 14 (x ∷ xs))))
    (r ∙ ap (enciphered key) (q ∙ ap (xored value) p)))

-- The whole MIC, from what its parts are.
pub mic_built : (key nonce a message first start middle value last total : List ℕ) (size : ℕ) → length nonce ≡ 13
    → first ≡ first_block nonce a message size → start ≡ enciphered key first
    → middle ≡ chain key start (blocks_of (with_length a)) → value ≡ chain key middle (blocks_of message)
    → last ≡ stream_block key nonce 0 → total ≡ xored value last
    → take size total ≡ mic_of key nonce a message size
unfolding mic_of
mic_built key nonce a message first start middle value last total size l p q r s t u =
    let block : List ℕ = first_block nonce a message size in
    let long : length block ≤ 16 =
    omega (arith, length-append (flags a size ∷ nonce) (to_be_bytes w16 (length message))) in
    let begun : start ≡ chained key (replicate 16 0) block =
    q ∙ ap (enciphered key) (p ∙ sym (xored-zeros 16 block long)) in
    let whole : value ≡ chain key (chained key (replicate 16 0) block)
    (blocks_of (with_length a) ++ blocks_of message) =
    s ∙ ap (λ v. chain key v (blocks_of message)) (r ∙ ap (λ v. chain key v (blocks_of (with_length a))) begun)
    ∙ sym (fold-append (chained key) (chained key (replicate 16 0) block) (blocks_of (with_length a))
    (blocks_of message)) in
    rw (u, whole, t) refl
