-- The install codes and the keys.
use Rattle.std.proofs.Common.{◌≡◌, ℕ, zero, suc, ◌+◌, ◌*◌, ◌-◌, ◌<◌, List, [], ◌∷◌, ◌++◌, length, Ok, refl, ap, ◌∙◌, arith, lit<, length-append, eq-eqb}
use Rattle.std.specs.Int.{w16, w32, to_le_bytes}
use Rattle.std.specs.List.{AllByRecursion}
use Rattle.std.proofs.lemmas.List.{take_at, drop_at}
use Rattle.std.proofs.lemmas.Nat.{from_le_bytes-to_le_bytes_2}
use Rattle.hex.specs.Hex.{IsBytes, encode_with}
use Rattle.zb_install.specs.Code.{code_of}
use Rattle.zb_install.specs.Crc.{crc}
use Rattle.zb_text.specs.Hexadecimal.{bytes_text}
use Rattle.zb_sched_line.specs.Fits.{IsCode, IsKey}
use Rattle.zb_gen.specs.Made.{code_word}
use Rattle.zb_gen.specs.Codes.{code_bytes}
use Rattle.zb_gen.specs.Words.{key_at, word}
use Rattle.zb_gen.proofs.Bits.{crc_fits}

pub bytes_from_each : (bytes : List ℕ) → AllByRecursion (λ (b : ℕ). b < 256) bytes → IsBytes bytes
bytes_from_each [] fit i = lit< tt
bytes_from_each (b ∷ bs) fit zero = fit.0
bytes_from_each (b ∷ bs) fit (suc i) = bytes_from_each bs fit.1 i

each_byte : (xs ys : List ℕ) → AllByRecursion (λ (b : ℕ). b < 256) xs → AllByRecursion (λ (b : ℕ). b < 256) ys
    → AllByRecursion (λ (b : ℕ). b < 256) (xs ++ ys)
each_byte [] ys p q = q
each_byte (x ∷ xs) ys p q = (p.0, each_byte xs ys p.1 q)

word_bytes : (n : ℕ) → AllByRecursion (λ (b : ℕ). b < 256) (to_le_bytes w32 n)
word_bytes n = (omega arith, (omega arith, (omega arith, (omega arith, tt))))

short_bytes : (n : ℕ) → AllByRecursion (λ (b : ℕ). b < 256) (to_le_bytes w16 n)
short_bytes n = (omega arith, (omega arith, tt))

key_bytes : (start place : ℕ) → AllByRecursion (λ (b : ℕ). b < 256) (key_at start place)
key_bytes start place =
    each_byte (to_le_bytes w32 (word start place))
    (to_le_bytes w32 (word start (place + 1))
    ++ (to_le_bytes w32 (word start (place + 2)) ++ to_le_bytes w32 (word start (place + 3))))
    (word_bytes (word start place))
    (each_byte (to_le_bytes w32 (word start (place + 1)))
    (to_le_bytes w32 (word start (place + 2)) ++ to_le_bytes w32 (word start (place + 3)))
    (word_bytes (word start (place + 1)))
    (each_byte (to_le_bytes w32 (word start (place + 2))) (to_le_bytes w32 (word start (place + 3)))
    (word_bytes (word start (place + 2))) (word_bytes (word start (place + 3)))))

pub key_fits : (start place : ℕ) → IsKey (key_at start place)
key_fits start place = (refl, bytes_from_each (key_at start place) (key_bytes start place))

-- a key with its CRC is an install code
pub code_whole : (key : List ℕ) → length key ≡ 16 → code_of (key ++ to_le_bytes w16 (crc key))
    ≡ Ok (key ++ to_le_bytes w16 (crc key))
unfolding code_of
code_whole key long =
    let whole : length (key ++ to_le_bytes w16 (crc key))
    ≡ 18 = omega (arith, length-append key (to_le_bytes w16 (crc key)), long) in
    rw (
      whole,
      take_at key (to_le_bytes w16 (crc key)) 16 long,
      drop_at key (to_le_bytes w16 (crc key)) 16 long,
      from_le_bytes-to_le_bytes_2 (crc key) (crc_fits key),
      eq-eqb (crc key) (crc key) refl,
    ) refl

pub code_fits : (start i : ℕ) → IsCode (code_bytes start i)
code_fits start i = (
  rw (code_whole (key_at start (4 * (i - 1))) refl) refl,
  bytes_from_each (code_bytes start i)
      (each_byte (key_at start (4 * (i - 1))) (to_le_bytes w16 (crc (key_at start (4 * (i - 1)))))
      (key_bytes start (4 * (i - 1))) (short_bytes (crc (key_at start (4 * (i - 1)))))),
)

pub code_text : (start i : ℕ) → bytes_text (code_bytes start i) ≡ code_word start i
unfolding encode_with
code_text start i = refl

-- a key and its CRC, one after the other
pub put_together : (key none one two slice sum : List ℕ) (number : ℕ) → none ≡ [] → one ≡ none ++ key → two ≡ one
    ++ sum → slice ≡ two → sum ≡ to_le_bytes w16 number → number ≡ crc key
    → slice ≡ key ++ to_le_bytes w16 (crc key)
put_together key none one two slice sum number a b d e f g =
    e ∙ d ∙ ap (λ (x : List ℕ). x ++ sum) (b ∙ ap (λ (x : List ℕ). x ++ key) a) ∙ ap (λ (x : List ℕ). key ++ x)
    (f ∙ ap (to_le_bytes w16) g)
