-- What is written is read back.
use Rattle.std.proofs.Common.{◌≡◌, ℕ, ◌^◌, ◌<◌, Bool, true, false, ltb, List, ◌++◌, length, Option, Some, None, Ok, refl, arith, length-append}
use Rattle.std.specs.Prelude.{IfSome, is_some}
use Rattle.std.specs.Int.{Width, w16, w32, w64, byte_len, from_le_bytes, to_le_bytes}
use Rattle.std.proofs.lemmas.Bool.{le-ltb}
use Rattle.std.proofs.lemmas.List.{take_at, drop_at}
use Rattle.std.proofs.lemmas.Nat.{from_le_bytes-to_le_bytes_2, from_le_bytes-to_le_bytes_4, from_le_bytes-to_le_bytes_8}
use Rattle.zb_base.specs.declared.address.Eui.{Eui}
use Rattle.zb_base.specs.declared.address.Short.{Short}
use Rattle.zb_base.specs.declared.key.Key.{Key}
use Rattle.zb_cursor.specs.Spelling.{number, short, eui, key, optional}
use Rattle.zb_cursor.specs.Reading.{Reading, bytes_at, number_at, short_at, eui_at, key_at, optional_at}

-- a width, and the numbers that it holds
pub record IsWide (w : Width) (limit : ℕ) : Type 0 where
  pub len : (n : ℕ) → length (to_le_bytes w n) ≡ byte_len w
  pub again : (n : ℕ) → n < limit → from_le_bytes w (to_le_bytes w n) ≡ n

pub wide16 : IsWide w16 (2 ^ 16)
wide16 = record { len = λ n. refl; again = λ n lt. from_le_bytes-to_le_bytes_2 n lt }

pub wide32 : IsWide w32 (2 ^ 32)
wide32 = record { len = λ n. refl; again = λ n lt. from_le_bytes-to_le_bytes_4 n lt }

pub wide64 : IsWide w64 (2 ^ 64)
wide64 = record { len = λ n. refl; again = λ n lt. from_le_bytes-to_le_bytes_8 n lt }

pub bytes_again : {E : Type 0} (cut : E) (n : ℕ) (xs rest : List ℕ) → length xs ≡ n → bytes_at n cut (xs ++ rest)
    ≡ Ok (xs, rest)
unfolding bytes_at
bytes_again cut n xs rest len =
    let long : ltb (length (xs ++ rest)) n ≡ false = le-ltb _ _ (omega (arith, length-append xs rest)) in
    rw (long, take_at xs rest n len, drop_at xs rest n len) refl

pub number_again : {E : Type 0} (cut : E) (w : Width) (limit : ℕ) (wide : IsWide w limit) (n : ℕ) (rest : List ℕ) → n
    < limit → number_at w cut (number w n ++ rest) ≡ Ok (n, rest)
unfolding number_at
number_again cut w limit wide n rest lt =
    let len = wide.len n in
    let long : ltb (length (to_le_bytes w n ++ rest)) (byte_len w) ≡ false =
    le-ltb _ _ (omega (arith, length-append (to_le_bytes w n) rest)) in
    rw (
      long,
      take_at (to_le_bytes w n) rest (byte_len w) len,
      drop_at (to_le_bytes w n) rest (byte_len w) len,
      wide.again n lt,
    ) refl

pub short_again : {E : Type 0} (cut : E) (s : Short) (rest : List ℕ) → s.0 < 2 ^ 16 → short_at cut (short s ++ rest)
    ≡ Ok (s, rest)
unfolding short_at
short_again cut s rest lt = rw (number_again cut w16 (2 ^ 16) wide16 s.0 rest lt) refl

pub eui_again : {E : Type 0} (cut : E) (e : Eui) (rest : List ℕ) → e.0 < 2 ^ 64 → eui_at cut (eui e ++ rest)
    ≡ Ok (e, rest)
unfolding eui_at
eui_again cut e rest lt = rw (number_again cut w64 (2 ^ 64) wide64 e.0 rest lt) refl

pub key_again : {E : Type 0} (cut : E) (k : Key) (rest : List ℕ) → length k.0 ≡ 16 → key_at cut (key k ++ rest)
    ≡ Ok (k, rest)
unfolding key_at
key_again cut k rest len = rw (bytes_again cut 16 k.0 rest len) refl

pub optional_again : {E A : Type 0} (cut : E) (spell : A → List ℕ) (read : Reading E A) (Fits : A → Type 0)
    → ((x : A) (rest : List ℕ) → Fits x → read cut (spell x ++ rest) ≡ Ok (x, rest))
    → (present : Bool) (o : Option A) (rest : List ℕ) → is_some o ≡ present → IfSome o Fits
    → optional_at present read cut (optional spell o ++ rest) ≡ Ok (o, rest)
optional_again cut spell read Fits again false None rest is fits = refl
optional_again cut spell read Fits again false (Some x) rest is fits = absurd cc
optional_again cut spell read Fits again true None rest is fits = absurd cc
optional_again cut spell read Fits again true (Some x) rest is fits = rw (again x rest fits) refl
