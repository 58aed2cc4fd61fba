-- Sums of lists of bytes, for the crates above.
use Rattle.std.proofs.Common.{◌≡◌, ℕ, zero, suc, ◌<◌, ◌≤◌, List, [], ◌∷◌, ◌++◌, refl, ap, get_or, length, replicate, bit_xor, arith}
use Rattle.std.specs.Int.Bits.{xor_assoc, xor_self, xor_zero_l, xor_zero_r}
use Rattle.zb_aes.specs.Bytes.{xored}

pub length-xored : (xs ys : List ℕ) → length xs ≤ length ys → length (xored xs ys) ≡ length xs
unfolding xored
length-xored [] ys h = refl
length-xored (x ∷ xs) [] h = absurd (omega arith)
length-xored (x ∷ xs) (y ∷ ys) h = ap suc (length-xored xs ys (omega arith))

pub xored-append : (xs bs ys ds : List ℕ) → length xs ≡ length ys
    → xored (xs ++ bs) (ys ++ ds) ≡ xored xs ys ++ xored bs ds
unfolding xored
xored-append [] bs [] ds h = refl
xored-append [] bs (y ∷ ys) ds h = absurd (omega arith)
xored-append (x ∷ xs) bs [] ds h = absurd (omega arith)
xored-append (x ∷ xs) bs (y ∷ ys) ds h = ap (λ l. bit_xor x y ∷ l) (xored-append xs bs ys ds (omega arith))

pub xored_twice : (xs ys : List ℕ) → length xs ≤ length ys → xored (xored xs ys) ys ≡ xs
unfolding xored
xored_twice [] ys h = refl
xored_twice (x ∷ xs) [] h = absurd (omega arith)
xored_twice (x ∷ xs) (y ∷ ys) h =
    let e : bit_xor (bit_xor x y) y ≡ x = rw (xor_assoc, xor_self, xor_zero_r) refl in
    rw (e, xored_twice xs ys (omega arith)) refl

-- A list that is as long as the shorter of two and whose elements are sums is their sum.
pub xored_by_index : (xs ys zs : List ℕ) → length xs ≤ length ys → length zs ≡ length xs
    → ((k : ℕ) → k < length xs → get_or zs k 0 ≡ bit_xor (get_or xs k 0) (get_or ys k 0)) → zs ≡ xored xs ys
unfolding xored
xored_by_index [] ys [] h l each = refl
xored_by_index [] ys (z ∷ zs) h l each = absurd (omega arith)
xored_by_index (x ∷ xs) [] zs h l each = absurd (omega arith)
xored_by_index (x ∷ xs) (y ∷ ys) [] h l each = absurd (omega arith)
xored_by_index (x ∷ xs) (y ∷ ys) (z ∷ zs) h l each =
    let first : z ≡ bit_xor x y = each 0 (omega arith) in
    let rest : zs ≡ xored xs ys =
    xored_by_index xs ys zs (omega arith) (omega arith) (λ k g. each (suc k) (omega arith)) in
    rw (first, rest) refl

pub xored-zeros : (n : ℕ) (xs : List ℕ) → length xs ≤ n → xored (replicate n 0) xs ≡ xs
unfolding xored
xored-zeros zero [] h = refl
xored-zeros zero (x ∷ xs) h = absurd (omega arith)
xored-zeros (suc n) [] h = refl
xored-zeros (suc n) (x ∷ xs) h =
    let e : bit_xor 0 x ≡ x = xor_zero_l x in rw (e, xored-zeros n xs (omega arith)) refl
