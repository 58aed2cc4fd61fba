-- The field of FIPS 197, section 4, and the substitution of a byte of its section 5.1.1.
use Rattle.std.specs.Prelude.{ℕ, zero, suc, ◌+◌, ◌*◌, ◌/◌, ◌%◌, ◌^◌, ◌==◌, nat_lt, if◌then◌else◌, bit_xor, unwrap_or, sum_by}
use Rattle.std.specs.Int.{bit_at}
use Rattle.std.specs.List.{find, range_with_len}

-- 4.2.1: a byte times {02}, reduced by x^8 + x^4 + x^3 + x + 1.
abbrev pub xtime : ℕ → ℕ
xtime a = if nat_lt a 128 then 2 * a else bit_xor (2 * a) 0x11b

-- 4.2: the sum of the products of `a` by each of the lowest `n` bits of `b`.
abbrev pub times_bits : ℕ → ℕ → ℕ → ℕ
times_bits zero a b = 0
times_bits (suc n) a b = bit_xor (if b % 2 == 1 then a else 0) (times_bits n (xtime a) (b / 2))

-- 4.2: the product of two bytes.
unfoldable pub times : ℕ → ℕ → ℕ
times a b = times_bits 8 a b

-- 5.1.1, step 1: the least byte whose product with `a` is 1, or 0 where there is none.
abbrev pub inverse : ℕ → ℕ
inverse a = unwrap_or (find (λ y. times a y == 1) (range_with_len 0 256)) 0

-- 5.1.1, step 2: bit `i` of the affine image of `b`, whose constant is {63}.
abbrev pub affine_bit : ℕ → ℕ → ℕ
affine_bit b i = (bit_at b i + bit_at b ((i + 4) % 8) + bit_at b ((i + 5) % 8) + bit_at b ((i + 6) % 8)
    + bit_at b ((i + 7) % 8) + bit_at 0x63 i) % 2

abbrev pub affine : ℕ → ℕ
affine b = sum_by (λ i. affine_bit b i * 2 ^ i) (range_with_len 0 8)

-- 5.1.1: the substitution of a byte.
unfoldable pub substitute : ℕ → ℕ
substitute a = affine (inverse a)
