-- The last blocks of a padded message.
use Rattle.std.proofs.Common.{◌≡◌, ℕ, ◌+◌, ◌-◌, ◌*◌, ◌/◌, ◌%◌, ◌<◌, ◌≤◌, List, [], ◌∷◌, ◌++◌, ◌∙◌, sym, ap, get_or, length, take, drop, replicate, arith, append_assoc, take_all, get_or-take, length-append, length-take, length-drop, one-add}
use Rattle.std.proofs.Math.ListN.{set}
use Rattle.std.proofs.Math.Seq.{take-append-add, set-append_seam}
use Rattle.std.proofs.lemmas.List.{drop-replicate, take-replicate, length-replicate, replicate-append-replicate}
use Rattle.std.proofs.lemmas.List.FromFn.{fill_by_all}
use Rattle.std.specs.Int.{w16, to_be_bytes}
use Rattle.zb_mmo.proofs.Cuts.{mixed_all-block, mixed_all-one}
use Rattle.zb_mmo.specs.Hash.{blocks_of, mixed, mixed_all, zeros, padding}

-- Bytes over zeros, and the mark after them.
pub marked : (bytes : List ℕ) → length bytes < 16
    → set (bytes ++ drop (length bytes) (replicate 16 0)) (length bytes) 0x80
    ≡ bytes ++ 0x80 ∷ replicate (15 - length bytes) 0
marked bytes h =
    let e : 16 - length bytes ≡ 1 + (15 - length bytes) = omega arith in
    ap (λ l. set (bytes ++ l) (length bytes) 0x80) (drop-replicate (length bytes) 16 0
    ∙ ap (λ n. replicate n 0) e ∙ sym (replicate-append-replicate 1 (15 - length bytes) 0))
    ∙ set-append_seam bytes 0 (replicate (15 - length bytes) 0) 0x80

pub ended : (xs r : List ℕ) (bits : ℕ) → length xs ≡ 16 → r ≡ to_be_bytes w16 bits
    → get_or xs 0 0 ∷ get_or xs 1 0 ∷ get_or xs 2 0 ∷ get_or xs 3 0 ∷ get_or xs 4 0 ∷ get_or xs 5 0
    ∷ get_or xs 6 0 ∷ get_or xs 7 0 ∷ get_or xs 8 0 ∷ get_or xs 9 0 ∷ get_or xs 10 0 ∷ get_or xs 11 0
    ∷ get_or xs 12 0 ∷ get_or xs 13 0 ∷ get_or r 0 0 ∷ get_or r 1 0 ∷ []
    ≡ take 14 xs ++ to_be_bytes w16 bits
ended xs r bits h e =
    rw e (ap (λ l. l ++ to_be_bytes w16 bits)
    (sym (fill_by_all (λ i. get_or xs i 0) (take 14 xs) 14 0 (omega (arith, length-take 14 xs))
    (λ k g. get_or-take 14 xs k 0 g))))

length-marked : (bytes block : List ℕ) → length bytes < 16 → block ≡ bytes ++ 0x80 ∷ replicate (15 - length bytes) 0
    → length block ≡ 16
length-marked bytes block h p =
    let fill : List ℕ = replicate (15 - length bytes) 0 in
    let size : length fill ≡ 15 - length bytes = length-replicate (15 - length bytes) 0 in
    ap length p ∙ length-append bytes (0x80 ∷ fill) ∙ omega arith

cut : (k n : ℕ) → k ≤ n → take {A = ℕ} (1 + k) (0x80 ∷ replicate n 0) ≡ 0x80 ∷ replicate k 0
cut k n h = rw one-add (ap (λ l. 0x80 ∷ l) (take-replicate k n 0 h))

front : (bytes : List ℕ) → length bytes < 14
    → take 14 (bytes ++ 0x80 ∷ replicate (15 - length bytes) 0) ≡ bytes ++ 0x80 ∷ replicate (13 - length bytes) 0
front bytes h =
    let e : length bytes + (1 + (13 - length bytes)) ≡ 14 = omega arith in
    ap (λ k. take k (bytes ++ 0x80 ∷ replicate (15 - length bytes) 0)) (sym e)
    ∙ take-append-add bytes (0x80 ∷ replicate (15 - length bytes) 0) (1 + (13 - length bytes))
    ∙ ap (λ l. bytes ++ l) (cut (13 - length bytes) (15 - length bytes) (omega arith))

-- The end of a message that shares its last block with the whole padding.
pub one_block : (value bytes block last result size : List ℕ) → length size ≡ 2 → length bytes < 14
    → block ≡ bytes ++ 0x80 ∷ replicate (15 - length bytes) 0 → last ≡ take 14 block ++ size
    → result ≡ mixed value last
    → result ≡ mixed_all value (blocks_of (bytes ++ (0x80 ∷ replicate (zeros (length bytes)) 0 ++ size)))
one_block value bytes block last result size two h p q r =
    let count : 13 - length bytes ≡ zeros (length bytes) = omega arith in
    let long : length last ≡ 16 =
    ap length q ∙ length-append (take 14 block) size
    ∙ omega (arith, length-take 14 block, length-marked bytes block (omega arith) p) in
    let whole : last ≡ bytes ++ (0x80 ∷ replicate (zeros (length bytes)) 0 ++ size) =
    q ∙ ap (λ l. take 14 l ++ size) p ∙ ap (λ l. l ++ size) (front bytes h)
    ∙ ap (λ n. (bytes ++ 0x80 ∷ replicate n 0) ++ size) count
    ∙ append_assoc bytes (0x80 ∷ replicate (zeros (length bytes)) 0) size in
    r ∙ sym (mixed_all-one value last long) ∙ ap (λ l. mixed_all value (blocks_of l)) whole

-- The end of a message whose padding fills the block after its last.
pub two_blocks : (value bytes block middle last result size : List ℕ) → length size ≡ 2 → 14 ≤ length bytes
    → length bytes < 16 → block ≡ bytes ++ 0x80 ∷ replicate (15 - length bytes) 0
    → middle ≡ mixed value block → last ≡ replicate 14 0 ++ size → result ≡ mixed middle last
    → result ≡ mixed_all value (blocks_of (bytes ++ (0x80 ∷ replicate (zeros (length bytes)) 0 ++ size)))
two_blocks value bytes block middle last result size two h g p q r s =
    let fill : List ℕ = replicate (15 - length bytes) 0 in
    let nothing : List ℕ = replicate 14 0 in
    let count : 15 - length bytes + 14 ≡ zeros (length bytes) = omega arith in
    let long : length block ≡ 16 = length-marked bytes block g p in
    let end : length last ≡ 16 = ap length r ∙ length-append nothing size ∙ omega arith in
    let parts : replicate (zeros (length bytes)) 0 ≡ fill ++ nothing =
    ap (λ n. replicate n 0) (sym count) ∙ sym (replicate-append-replicate (15 - length bytes) 14 0) in
    let whole : block ++ last ≡ bytes ++ (0x80 ∷ replicate (zeros (length bytes)) 0 ++ size) =
    ap (λ l. l ++ last) p ∙ ap (λ l. (bytes ++ 0x80 ∷ fill) ++ l) r
    ∙ append_assoc bytes (0x80 ∷ fill) (nothing ++ size)
    ∙ ap (λ l. bytes ++ 0x80 ∷ l) (sym (append_assoc fill nothing size))
    ∙ ap (λ l. bytes ++ (0x80 ∷ l ++ size)) (sym parts) in
    s ∙ ap (λ v. mixed v last) q ∙ sym (mixed_all-one (mixed value block) last end)
    ∙ sym (mixed_all-block value block last long) ∙ ap (λ l. mixed_all value (blocks_of l)) whole

-- The end of a message whose whole blocks were mixed in.
pub finished_end : (start bytes value result : List ℕ) (before j i : ℕ) → before % 16 ≡ 0 → i ≡ length bytes / 16
    → j ≡ i
    → mixed_all value (blocks_of (drop (16 * j) bytes ++ padding (before + length bytes)))
    ≡ mixed_all start (blocks_of (bytes ++ padding (before + length bytes)))
    → result ≡ mixed_all value (blocks_of (take (length bytes - 16 * i) (drop (16 * i) bytes)
    ++ (0x80 ∷ replicate (zeros (length (take (length bytes - 16 * i) (drop (16 * i) bytes)))) 0
    ++ to_be_bytes w16 (8 * (before + length bytes)))))
    → result ≡ mixed_all start (blocks_of (bytes ++ padding (before + length bytes)))
finished_end start bytes value result before j i h e same p q =
    let rest : List ℕ = drop (16 * i) bytes in
    let whole : take (length bytes - 16 * i) rest ≡ rest =
    take_all (length bytes - 16 * i) rest (omega (arith, length-drop (16 * i) bytes)) in
    let over : length rest % 16 ≡ (before + length bytes) % 16 = omega (arith, length-drop (16 * i) bytes) in
    q ∙ ap (λ l. mixed_all value (blocks_of (l ++ (0x80 ∷ replicate (zeros (length l)) 0
    ++ to_be_bytes w16 (8 * (before + length bytes)))))) whole
    ∙ ap (λ m. mixed_all value (blocks_of (rest ++ (0x80 ∷ replicate ((13 + 16 - m) % 16) 0
    ++ to_be_bytes w16 (8 * (before + length bytes)))))) over
    ∙ ap (λ k. mixed_all value (blocks_of (drop (16 * k) bytes ++ padding (before + length bytes)))) (sym same) ∙ p
