-- Eight steps of the division at once.
use Rattle.std.proofs.Common.{◌≡◌, ℕ, zero, suc, ◌+◌, ◌*◌, ◌/◌, ◌%◌, ◌^◌, ◌==◌, ◌<◌, List, ◌∷◌, ◌++◌, ◌∙◌, if◌then◌else◌, refl, sym, ap, map, get_or, bit_xor, arith, div-one, pow-suc}
use Rattle.std.proofs.lemmas.List.FromFn.{get_or-map-range_with_len}
use Rattle.std.proofs.lemmas.Nat.{xor_comm, xor_lt, xor_mod, xor_shr}
use Rattle.std.specs.Int.Bits.{xor_assoc, xor_shifted, xor_zero_r}
use Rattle.std.specs.List.{range_with_len}
use Rattle.zb_install.specs.Division.{added, bits_from, divided}
use Rattle.zb_install.specs.declared.remainders.TheConstants.{REMAINDERS}
use Rattle.zb_install.proofs.Division.{odd_step, even_step, bits-half}

-- The half of a register, with the divisor added if the bit was 1; and a step without a bit of the message.
unfoldable turned : ℕ → ℕ → ℕ
turned bit half = if bit == 1 then bit_xor half 0x8408 else half

unfoldable next : ℕ → ℕ
next register = turned (register % 2) (register / 2)

after : ℕ → ℕ → ℕ
after zero register = register
after (suc k) register = after k (next register)

turned-xor : (p q x y : ℕ) → p < 2 → q < 2 → turned (bit_xor p q) (bit_xor x y) ≡ bit_xor (turned p x) (turned q y)
unfolding turned
turned-xor zero zero x y h g = refl
turned-xor zero (suc zero) x y h g = xor_assoc x y 0x8408
turned-xor (suc zero) zero x y h g =
    xor_assoc x y 0x8408 ∙ ap (bit_xor x) (xor_comm y 0x8408) ∙ sym (xor_assoc x 0x8408 y)
turned-xor (suc zero) (suc zero) x y h g =
    let twice : bit_xor 0x8408 (bit_xor y 0x8408) ≡ y =
    ap (bit_xor 0x8408) (xor_comm y 0x8408) ∙ sym (xor_assoc 0x8408 0x8408 y) in
    sym (xor_assoc x 0x8408 (bit_xor y 0x8408) ∙ ap (bit_xor x) twice)
turned-xor (suc (suc p)) q x y h g = absurd (omega arith)
turned-xor zero (suc (suc q)) x y h g = absurd (omega arith)
turned-xor (suc zero) (suc (suc q)) x y h g = absurd (omega arith)

next-xor : (a b : ℕ) → next (bit_xor a b) ≡ bit_xor (next a) (next b)
unfolding next
next-xor a b =
    rw (xor_mod a b 1, xor_shr a b 1) (turned-xor (a % 2) (b % 2) (a / 2) (b / 2) (omega arith) (omega arith))

after-xor : (k a b : ℕ) → after k (bit_xor a b) ≡ bit_xor (after k a) (after k b)
unfolding after
after-xor zero a b = refl
after-xor (suc k) a b = ap (after k) (next-xor a b) ∙ after-xor k (next a) (next b)

-- A step halves an even register.
next-even : (x y : ℕ) → x ≡ 2 * y → next x ≡ y
unfolding next turned
next-even x y e =
    let even : x % 2 ≡ 0 = omega arith in
    let half : x / 2 ≡ y = omega arith in
    rw (even, half) refl

after-high : (k h : ℕ) → after k (h * 2 ^ k) ≡ h
unfolding after
after-high zero h = omega arith
after-high (suc k) h =
    let double : h * 2 ^ suc k ≡ 2 * (h * 2 ^ k) = rw (pow-suc 2 k) (omega arith) in
    ap (after k) (next-even (h * 2 ^ suc k) (h * 2 ^ k) double) ∙ after-high k h

remainders-are : map (after 8) (range_with_len 0 256) ≡ REMAINDERS
unfolding next turned after
remainders-are = refl

remainder-at : (x : ℕ) → x < 256 → get_or REMAINDERS x 0 ≡ after 8 x
remainder-at x h =
    ap (λ (l : List ℕ). get_or l x 0) (sym remainders-are) ∙ get_or-map-range_with_len (after 8) 0 256 x x 0 h
    (omega arith)

-- Eight steps shift the high byte down, and add what is left of the low one.
eight : (x : ℕ) → after 8 x ≡ bit_xor (x / 256) (get_or REMAINDERS (x % 256) 0)
eight x =
    let parts : bit_xor (x / 256 * 2 ^ 8) (x % 256) ≡ x = xor_shifted (x / 256) 8 (x % 256) (omega arith) ∙ omega
    arith in
    ap (after 8) (sym parts) ∙ after-xor 8 (x / 256 * 2 ^ 8) (x % 256)
    ∙ ap (λ a. bit_xor a (after 8 (x % 256))) (after-high 8 (x / 256))
    ∙ ap (bit_xor (x / 256)) (sym (remainder-at (x % 256) (omega arith)))

-- A step that takes in a bit of the message is a step on the register with that bit added.
one-bit : (register bit n : ℕ) (rest : List ℕ) → register < 2 ^ 16 → bit < 2
    → divided (n + 1) (added (bit ∷ rest) (bits_from 16 register))
    ≡ divided n (added rest (bits_from 16 (next (bit_xor register bit))))
unfolding next turned
one-bit register bit n rest h g =
    by-parity (bit_xor register bit % 2) (omega arith) refl
    ∙ ap (λ x. divided n (added rest (bits_from 16 (turned (bit_xor register bit % 2) x)))) (sym half)
  where
    half : bit_xor register bit / 2 ≡ register / 2
    half =
        let none : bit / 2 ≡ 0 = omega arith in
        xor_shr register bit 1 ∙ ap (bit_xor (register / 2)) none ∙ xor_zero_r (register / 2)

    by-parity : (p : ℕ) → p < 2 → bit_xor register bit % 2 ≡ p
        → divided (n + 1) (added (bit ∷ rest) (bits_from 16 register))
        ≡ divided n (added rest (bits_from 16 (turned p (register / 2))))
    by-parity zero l e = even_step register bit n rest h g (λ o. omega arith)
    by-parity (suc zero) l e = odd_step register bit n rest h g e
    by-parity (suc (suc p)) l e = absurd (omega arith)

next-fits : (register : ℕ) → register < 2 ^ 16 → next register < 2 ^ 16
unfolding next turned
next-fits register h = by-parity (register % 2) (omega arith)
  where
    by-parity : (p : ℕ) → p < 2 → turned p (register / 2) < 2 ^ 16
    by-parity zero l = omega arith
    by-parity (suc zero) l = xor_lt 16 (register / 2) 0x8408 (omega arith) (omega arith)
    by-parity (suc (suc p)) l = absurd (omega arith)

-- The first bit and then the others are the whole number.
joined : (register byte : ℕ) → bit_xor (next (bit_xor register (byte % 2))) (byte / 2) ≡ next (bit_xor register byte)
joined register byte =
    let whole : bit_xor (byte / 2 * 2 ^ 1) (byte % 2) ≡ byte = xor_shifted (byte / 2) 1 (byte % 2) (omega arith) ∙
    omega arith in
    let half : next (byte / 2 * 2 ^ 1) ≡ byte / 2 = next-even (byte / 2 * 2 ^ 1) (byte / 2) (omega arith) in
    ap (bit_xor (next (bit_xor register (byte % 2)))) (sym half)
    ∙ sym (next-xor (bit_xor register (byte % 2)) (byte / 2 * 2 ^ 1))
    ∙ ap next
    (xor_assoc register (byte % 2) (byte / 2 * 2 ^ 1) ∙ ap (bit_xor register)
    (xor_comm (byte % 2) (byte / 2 * 2 ^ 1) ∙ whole))

-- Taking in the bits of a number has the same effect as adding it to the register.
taken : (k byte register n : ℕ) (rest : List ℕ) → byte < 2 ^ k → register < 2 ^ 16
    → divided (n + k) (added (bits_from k byte ++ rest) (bits_from 16 register))
    ≡ divided n (added rest (bits_from 16 (after k (bit_xor register byte))))
unfolding after
taken zero byte register n rest g h =
    let none : byte ≡ 0 = omega arith in
    let same : n + 0 ≡ n = omega arith in
    ap (λ m. divided m (added rest (bits_from 16 register))) same
    ∙ ap (λ x. divided n (added rest (bits_from 16 x))) (sym (ap (bit_xor register) none ∙ xor_zero_r register))
taken (suc k) byte register n rest g h =
    let left : n + suc k ≡ n + k + 1 = omega arith in
    let double : 2 ^ suc k ≡ 2 ^ k * 2 = pow-suc 2 k in
    let parts : bits_from (suc k) byte ≡ byte % 2 ∷ bits_from k (byte / 2) =
    rw div-one (ap (λ l. byte % 2 ∷ l) (bits-half byte k 0)) in
    ap (λ m. divided m (added (bits_from (suc k) byte ++ rest) (bits_from 16 register))) left
    ∙ ap (λ l. divided (n + k + 1) (added (l ++ rest) (bits_from 16 register))) parts
    ∙ one-bit register (byte % 2) (n + k) (bits_from k (byte / 2) ++ rest) h (omega arith)
    ∙ taken k (byte / 2) (next (bit_xor register (byte % 2))) n rest (omega arith)
    (next-fits (bit_xor register (byte % 2)) (xor_lt 16 register (byte % 2) h (omega arith)))
    ∙ ap (λ x. divided n (added rest (bits_from 16 (after k x)))) (joined register byte)

pub byte_taken : (register byte n : ℕ) (rest : List ℕ) → register < 2 ^ 16 → byte < 2 ^ 8
    → divided (n + 8) (added (bits_from 8 byte ++ rest) (bits_from 16 register))
    ≡ divided n
    (added rest (bits_from 16 (bit_xor (register / 256) (get_or REMAINDERS (bit_xor register byte % 256) 0))))
byte_taken register byte n rest h g =
    let none : byte / 2 ^ 8 ≡ 0 = omega arith in
    let high : bit_xor register byte / 2 ^ 8 ≡ register / 2 ^ 8 =
    xor_shr register byte 8 ∙ ap (bit_xor (register / 2 ^ 8)) none ∙ xor_zero_r (register / 2 ^ 8) in
    taken 8 byte register n rest g h
    ∙ ap (λ x. divided n (added rest (bits_from 16 x)))
    (eight (bit_xor register byte) ∙ ap (λ q. bit_xor q (get_or REMAINDERS (bit_xor register byte % 256) 0)) high)
