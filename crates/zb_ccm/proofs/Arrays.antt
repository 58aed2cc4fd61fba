-- Arrays that are written out element by element.
use Rattle.std.proofs.Common.{◌≡◌, ℕ, ◌+◌, ◌-◌, ◌<◌, ◌≤◌, List, [], ◌∷◌, ◌++◌, ◌∙◌, refl, sym, ap, get_or, length, take, drop, replicate, min, inl, inr, arith, length-append, length-take, append-nil, take_all, get_or-take}
use Rattle.std.proofs.lemmas.Bool.{cases_lt}
use Rattle.std.proofs.lemmas.List.{drop-replicate, take-replicate, take-append-le}
use Rattle.std.proofs.lemmas.List.FromFn.{fill_by_all}
use Rattle.std.proofs.Math.Seq.{take-append-add}
use Rattle.std.specs.Int.{w16, to_be_bytes}
use Rattle.zb_aes.specs.Bytes.{word_bytes}
use Rattle.zb_aes.specs.Columns.{state_bytes}
use Rattle.zb_aes.specs.declared.state.State.{State}
use Rattle.zb_ccm.specs.Blocks.{block_at}
use Rattle.zb_ccm.specs.Ccm.{with_length}

filled_short : (bytes : List ℕ) (count : ℕ) → length bytes ≤ 16 → count ≡ length bytes
    → take count bytes ++ drop count (replicate 16 0) ≡ take 16 (bytes ++ replicate 16 0)
filled_short bytes count h e =
    let whole : length bytes + (16 - count) ≡ 16 = omega arith in
    ap (λ l. l ++ drop count (replicate 16 0)) (take_all count bytes (omega arith))
    ∙ ap (λ l. bytes ++ l) (drop-replicate count 16 0 ∙ sym (take-replicate (16 - count) 16 0 (omega arith)))
    ∙ sym (take-append-add bytes (replicate 16 0) (16 - count))
    ∙ ap (λ k. take k (bytes ++ replicate 16 0)) whole

filled_long : (bytes : List ℕ) (count : ℕ) → 16 ≤ length bytes → count ≡ 16
    → take count bytes ++ drop count (replicate 16 0) ≡ take 16 (bytes ++ replicate 16 0)
filled_long bytes count h e =
    rw e (append-nil (take 16 bytes) ∙ sym (take-append-le 16 bytes (replicate 16 0) h))

-- As many bytes as there are, up to 16, over zeros.
pub filled : (bytes : List ℕ) (count : ℕ) → count ≡ min (length bytes) 16
    → take count bytes ++ drop count (replicate 16 0) ≡ take 16 (bytes ++ replicate 16 0)
filled bytes count e =
    elim (cases_lt (length bytes) 16) [
      | inl h ↦ filled_short bytes count (omega arith) (omega arith)
      | inr h ↦ filled_long bytes count h (omega arith)
    ]

pub numbered : (flags number : ℕ) (nonce r : List ℕ) → length nonce ≡ 13 → r ≡ to_be_bytes w16 number
    → flags ∷ get_or nonce 0 0 ∷ get_or nonce 1 0 ∷ get_or nonce 2 0 ∷ get_or nonce 3 0 ∷ get_or nonce 4 0
    ∷ get_or nonce 5 0 ∷ get_or nonce 6 0 ∷ get_or nonce 7 0 ∷ get_or nonce 8 0 ∷ get_or nonce 9 0
    ∷ get_or nonce 10 0 ∷ get_or nonce 11 0 ∷ get_or nonce 12 0 ∷ get_or r 0 0 ∷ get_or r 1 0 ∷ []
    ≡ flags ∷ nonce ++ to_be_bytes w16 number
numbered flags number nonce r h e =
    rw e (ap (λ l. flags ∷ l ++ to_be_bytes w16 number)
    (sym (fill_by_all (λ i. get_or nonce i 0) nonce 13 0 h (λ k g. refl))))

pub front_4 : (xs : List ℕ) → length xs ≡ 16
    → get_or xs 0 0 ∷ get_or xs 1 0 ∷ get_or xs 2 0 ∷ get_or xs 3 0 ∷ [] ≡ take 4 xs
front_4 xs h =
    sym (fill_by_all (λ i. get_or xs i 0) (take 4 xs) 4 0 (omega (arith, length-take 4 xs))
    (λ k g. get_or-take 4 xs k 0 g))

pub front_8 : (xs : List ℕ) → length xs ≡ 16
    → get_or xs 0 0 ∷ get_or xs 1 0 ∷ get_or xs 2 0 ∷ get_or xs 3 0 ∷ get_or xs 4 0 ∷ get_or xs 5 0
    ∷ get_or xs 6 0 ∷ get_or xs 7 0 ∷ [] ≡ take 8 xs
front_8 xs h =
    sym (fill_by_all (λ i. get_or xs i 0) (take 8 xs) 8 0 (omega (arith, length-take 8 xs))
    (λ k g. get_or-take 8 xs k 0 g))

front_14 : (xs t : List ℕ) → 14 ≤ length xs → t ≡ take 16 xs
    → get_or t 0 0 ∷ get_or t 1 0 ∷ get_or t 2 0 ∷ get_or t 3 0 ∷ get_or t 4 0 ∷ get_or t 5 0 ∷ get_or t 6 0
    ∷ get_or t 7 0 ∷ get_or t 8 0 ∷ get_or t 9 0 ∷ get_or t 10 0 ∷ get_or t 11 0 ∷ get_or t 12 0
    ∷ get_or t 13 0 ∷ [] ≡ take 14 xs
front_14 xs t h e =
    sym (fill_by_all (λ i. get_or t i 0) (take 14 xs) 14 0 (omega (arith, length-take 14 xs))
    (λ k g. get_or-take 14 xs k 0 g ∙ sym (get_or-take 16 xs k 0 (omega arith)) ∙ ap (λ l. get_or l k 0) (sym e)))

-- The first block of the authenticated data: two bytes of length, and the first 14 of `t`.
pub first_with_length : (a r t : List ℕ) → 0 < length a → r ≡ to_be_bytes w16 (length a)
    → t ≡ take 16 (a ++ replicate 16 0)
    → get_or r 0 0 ∷ get_or r 1 0 ∷ get_or t 0 0 ∷ get_or t 1 0 ∷ get_or t 2 0 ∷ get_or t 3 0 ∷ get_or t 4 0
    ∷ get_or t 5 0 ∷ get_or t 6 0 ∷ get_or t 7 0 ∷ get_or t 8 0 ∷ get_or t 9 0 ∷ get_or t 10 0
    ∷ get_or t 11 0 ∷ get_or t 12 0 ∷ get_or t 13 0 ∷ [] ≡ block_at (with_length a) 0
first_with_length [] r t h p q = absurd (omega arith)
first_with_length (x ∷ xs) r t h p q =
    rw p (ap (λ l. to_be_bytes w16 (length (x ∷ xs)) ++ l)
    (front_14 (x ∷ xs ++ replicate 16 0) t (omega (arith, length-append (x ∷ xs) (replicate 16 0))) q))

-- A block that is held as its columns.
pub length_state : (s : State) → length (state_bytes s) ≡ 16
unfolding word_bytes
length_state s = refl

pub whole_block : (bytes : List ℕ) → length bytes ≡ 16 → take 16 (bytes ++ replicate 16 0) ≡ bytes
whole_block bytes h = take-append-le 16 bytes (replicate 16 0) (omega arith) ∙ take_all 16 bytes (omega arith)
