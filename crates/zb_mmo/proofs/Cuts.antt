-- A list of bytes, a block taken off it.
use Rattle.std.proofs.Common.{◌≡◌, ℕ, zero, suc, ◌+◌, ◌*◌, ◌/◌, ◌≤◌, List, [], ◌∷◌, ◌++◌, ◌∙◌, refl, sym, ap, length, take, drop, map, add-one, arith, append_assoc, append-nil, take_all, take-append-drop, drop-drop, length-append, length-drop, length-take}
use Rattle.std.proofs.lemmas.List.{take-append-le}
use Rattle.std.proofs.Math.Seq.{drop-append-add}
use Rattle.std.specs.List.{range_with_len}
use Rattle.zb_mmo.specs.Hash.{blocks_of, mixed, mixed_all}

shifted : (xs ys : List ℕ) (a n : ℕ) → length xs ≡ 16
    → map (λ i. take 16 (drop (16 * i) (xs ++ ys))) (range_with_len (a + 1) n)
    ≡ map (λ i. take 16 (drop (16 * i) ys)) (range_with_len a n)
shifted xs ys a zero h = refl
shifted xs ys a (suc n) h =
    let e : length xs + 16 * a ≡ 16 * (a + 1) = omega arith in
    let here : take 16 (drop (16 * (a + 1)) (xs ++ ys)) ≡ take 16 (drop (16 * a) ys) =
    ap (take 16) (ap (λ j. drop j (xs ++ ys)) (sym e) ∙ drop-append-add xs ys (16 * a)) in
    rw (here, shifted xs ys (a + 1) n h) refl

-- A block in front is the first of the blocks.
pub blocks_of-block : (xs ys : List ℕ) → length xs ≡ 16 → blocks_of (xs ++ ys) ≡ xs ∷ blocks_of ys
unfolding blocks_of
blocks_of-block xs ys h =
    let size : length (xs ++ ys) ≡ length xs + length ys = length-append xs ys in
    let count : length (xs ++ ys) / 16 ≡ length ys / 16 + 1 = omega arith in
    let here : take 16 (xs ++ ys) ≡ xs = take-append-le 16 xs ys (omega arith) ∙ take_all 16 xs (omega arith) in
    rw (count, add-one) (rw here (ap (λ l. xs ∷ l) (shifted xs ys 0 (length ys / 16) h)))

pub blocks_of-one : (xs : List ℕ) → length xs ≡ 16 → blocks_of xs ≡ xs ∷ []
unfolding blocks_of
blocks_of-one xs h = ap blocks_of (sym (append-nil xs)) ∙ blocks_of-block xs [] h

-- The value after a block and what comes after it.
pub mixed_all-block : (value xs ys : List ℕ) → length xs ≡ 16
    → mixed_all value (blocks_of (xs ++ ys)) ≡ mixed_all (mixed value xs) (blocks_of ys)
mixed_all-block value xs ys h = ap (mixed_all value) (blocks_of-block xs ys h)

pub mixed_all-one : (value xs : List ℕ) → length xs ≡ 16 → mixed_all value (blocks_of xs) ≡ mixed value xs
mixed_all-one value xs h = ap (mixed_all value) (blocks_of-one xs h)

-- One block more of a message: what is left of it, and what stands after it, give the result still.
pub mixed_more : (start bytes behind value block next : List ℕ) (i : ℕ) → 16 * i + 16 ≤ length bytes
    → mixed_all value (blocks_of (drop (16 * i) bytes ++ behind)) ≡ mixed_all start (blocks_of (bytes ++ behind))
    → block ≡ take 16 (drop (16 * i) bytes) → next ≡ mixed value block
    → mixed_all next (blocks_of (drop (16 * (i + 1)) bytes ++ behind)) ≡ mixed_all start (blocks_of (bytes ++ behind))
mixed_more start bytes behind value block next i h p q r =
    let rest : List ℕ = drop (16 * i) bytes in
    let long : length block ≡ 16 = ap length q ∙ omega (arith, length-take 16 rest, length-drop (16 * i) bytes) in
    let place : 16 * i + 16 ≡ 16 * (i + 1) = omega arith in
    let parts : rest ++ behind ≡ block ++ (drop (16 * (i + 1)) bytes ++ behind) =
    ap (λ l. l ++ behind) (sym (take-append-drop 16 rest)
    ∙ ap (λ l. l ++ drop 16 rest) (sym q)
    ∙ ap (λ l. block ++ l) (drop-drop 16 (16 * i) bytes ∙ ap (λ j. drop j bytes) place))
    ∙ append_assoc block (drop (16 * (i + 1)) bytes) behind in
    ap (λ v. mixed_all v (blocks_of (drop (16 * (i + 1)) bytes ++ behind))) r
    ∙ sym (mixed_all-block value block (drop (16 * (i + 1)) bytes ++ behind) long)
    ∙ ap (λ l. mixed_all value (blocks_of l)) (sym parts) ∙ p
