-- Under a key of 16 bytes, every round key and every enciphered block has 16 bytes.
use Rattle.std.proofs.Common.{◌≡◌, ℕ, zero, suc, ◌≤◌, List, [], ◌∷◌, ◌++◌, ◌∙◌, length, map, take, drop, arith, length-append, length-take, length-drop}
use Rattle.std.proofs.lemmas.List.{length-map}
use Rattle.zb_aes.proofs.Xored.{length-xored}
use Rattle.zb_aes.specs.Block.{shift_rows, last_round, turned, word_of, next_key, round_constant, round_key, state_after, enciphered}
use Rattle.zb_aes.specs.Bytes.{xored}
use Rattle.zb_aes.specs.Field.{substitute}

length-word_of : (key : List ℕ) (i : ℕ) → length key ≡ 16 → i ≤ 3 → length (word_of key i) ≡ 4
length-word_of key i h g = simp (length-take, length-drop) (omega arith)

length-turned : (constant : ℕ) (word : List ℕ) → length word ≡ 4 → length (turned constant word) ≡ 4
length-turned constant word h =
    let size : length (map substitute (drop 1 word ++ take 1 word)) ≡ 4 =
    length-map (drop 1 word ++ take 1 word) substitute ∙ length-append (drop 1 word) (take 1 word)
    ∙ omega (arith, length-drop 1 word, length-take 1 word) in
    length-xored (map substitute (drop 1 word ++ take 1 word)) (constant ∷ 0 ∷ 0 ∷ 0 ∷ []) (omega arith) ∙ size

length-sum : (xs ys : List ℕ) → length xs ≡ 4 → length ys ≡ 4 → length (xored xs ys) ≡ 4
length-sum xs ys h g = length-xored xs ys (omega arith) ∙ h

joined : (a b c d : List ℕ) → length a ≡ 4 → length b ≡ 4 → length c ≡ 4 → length d ≡ 4
    → length (a ++ b ++ c ++ d) ≡ 16
joined a b c d p q r s =
    omega (arith, length-append (a ++ b ++ c) d, length-append (a ++ b) c, length-append a b)

length-next_key : (constant : ℕ) (key : List ℕ) → length key ≡ 16 → length (next_key constant key) ≡ 16
unfolding next_key
length-next_key constant key h =
    let first = length-sum (word_of key 0) (turned constant (word_of key 3)) (length-word_of key 0 h (omega arith))
    (length-turned constant (word_of key 3) (length-word_of key 3 h (omega arith))) in
    let second = length-sum (word_of key 1) _ (length-word_of key 1 h (omega arith)) first in
    let third = length-sum (word_of key 2) _ (length-word_of key 2 h (omega arith)) second in
    let fourth = length-sum (word_of key 3) _ (length-word_of key 3 h (omega arith)) third in
    joined _ _ _ _ first second third fourth

length-round_key : (key : List ℕ) (n : ℕ) → length key ≡ 16 → length (round_key key n) ≡ 16
unfolding round_key
length-round_key key zero h = h
length-round_key key (suc n) h = length-next_key (round_constant (suc n)) (round_key key n) (length-round_key key n h)

pub length-enciphered : (key block : List ℕ) → length key ≡ 16 → length (enciphered key block) ≡ 16
unfolding enciphered last_round
length-enciphered key block h =
    length-xored (shift_rows (map substitute (state_after key block 9))) (round_key key 10)
    (omega (arith, length-round_key key 10 h))
