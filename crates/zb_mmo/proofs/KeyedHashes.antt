-- A hash that begins with a whole block, and the keyed hash that is made of two of them.
use Rattle.std.proofs.Common.{◌≡◌, ℕ, ◌+◌, List, ◌++◌, ◌∙◌, sym, ap, length, take, drop, replicate, bit_xor, arith, append_assoc, take-append-drop, length-append, length-take}
use Rattle.std.proofs.lemmas.List.{length-map}
use Rattle.zb_mmo.proofs.Cuts.{mixed_all-block}
use Rattle.zb_mmo.specs.Hash.{blocks_of, hash, mixed, mixed_all, padding}
use Rattle.zb_mmo.specs.Keyed.{inner_pad, keyed, outer_pad}

hash-block : (pad bytes : List ℕ) → length pad ≡ 16
    → hash (pad ++ bytes) ≡ mixed_all (mixed (replicate 16 0) pad) (blocks_of (bytes ++ padding (16 + length bytes)))
unfolding hash
hash-block pad bytes h =
    let size : length (pad ++ bytes) ≡ 16 + length bytes = length-append pad bytes ∙ ap (λ n. n + length bytes) h in
    ap (λ n. mixed_all (replicate 16 0) (blocks_of ((pad ++ bytes) ++ padding n))) size
    ∙ ap (λ l. mixed_all (replicate 16 0) (blocks_of l)) (append_assoc pad bytes (padding (16 + length bytes)))
    ∙ mixed_all-block (replicate 16 0) pad (bytes ++ padding (16 + length bytes)) h

-- A hash whose first block is mixed in before the others.
pub hash_begun : (bytes block rest first result : List ℕ) → length rest + 16 ≡ length bytes → block ≡ take 16 bytes
    → rest ≡ drop 16 bytes → first ≡ mixed (replicate 16 0) block
    → result ≡ mixed_all first (blocks_of (rest ++ padding (16 + length rest))) → result ≡ hash bytes
hash_begun bytes block rest first result size p q r s =
    let long : length block ≡ 16 = ap length p ∙ omega (arith, length-take 16 bytes) in
    let whole : block ++ rest ≡ bytes = ap (λ l. l ++ rest) p ∙ ap (λ l. take 16 bytes ++ l) q ∙ take-append-drop 16
    bytes in
    s ∙ ap (λ v. mixed_all v (blocks_of (rest ++ padding (16 + length rest)))) r ∙ sym (hash-block block rest long)
    ∙ ap hash whole

pub keyed_built : (key given bytes inner outer middle result : List ℕ) → length key ≡ 16 → key ≡ given
    → inner ≡ mixed (replicate 16 0) (inner_pad key) → outer ≡ mixed (replicate 16 0) (outer_pad key)
    → middle ≡ mixed_all inner (blocks_of (bytes ++ padding (16 + length bytes)))
    → result ≡ mixed_all outer (blocks_of (middle ++ padding (16 + length middle)))
    → result ≡ keyed given bytes
unfolding keyed
keyed_built key given bytes inner outer middle result h same p q r s =
    let first : middle ≡ hash (inner_pad key ++ bytes) =
    r ∙ ap (λ v. mixed_all v (blocks_of (bytes ++ padding (16 + length bytes)))) p
    ∙ sym (hash-block (inner_pad key) bytes (length-map key (λ b. bit_xor b 0x36) ∙ h)) in
    let second : result ≡ hash (outer_pad key ++ middle) =
    s ∙ ap (λ v. mixed_all v (blocks_of (middle ++ padding (16 + length middle)))) q
    ∙ sym (hash-block (outer_pad key) middle (length-map key (λ b. bit_xor b 0x5c) ∙ h)) in
    second ∙ ap (λ l. hash (outer_pad key ++ l)) first ∙ ap (λ k. hash (outer_pad k ++ hash (inner_pad k ++ bytes)))
    same
