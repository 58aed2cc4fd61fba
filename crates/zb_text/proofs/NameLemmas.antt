-- A name is text.
use Rattle.std.proofs.Common.{◌≡◌, ℕ, ◌<◌, ◌≤◌, ◌⊎◌, inl, inr, List, length, get_or, true, arith}
use Rattle.std.specs.Prelude.{IsUtf8}
use Rattle.std.specs.List.{list_all}
use Rattle.std.proofs.lemmas.Str.{IsUtf8-from_ascii}
use Rattle.std.proofs.lemmas.List.{get_or_past}
use Rattle.std.proofs.lemmas.List.Sums.{AllPass-from_list_all}
use Rattle.std.proofs.lemmas.Bool.{cases_lt}
use Rattle.std.proofs.lemmas.Bool.Decides.{nat_tests}
use Rattle.zb_text.specs.Fields.{is_name_byte}

pub name_byte_is_ascii : (b : ℕ) → is_name_byte b ≡ true → (33 ≤ b) × (b < 128)
name_byte_is_ascii b h = (grind (arith, nat_tests), grind (arith, nat_tests))

byte_of_name : (word : List ℕ) → list_all is_name_byte word ≡ true → (i : ℕ) → i < length word → get_or word i 0 < 128
byte_of_name word h i lt = (name_byte_is_ascii (get_or word i 0) (AllPass-from_list_all is_name_byte word h i 0 lt)).1

some_place : (word : List ℕ) (i : ℕ) → ((i < length word) → get_or word i 0 < 128) → (i < length word)
    ⊎ (length word ≤ i) → get_or word i 0 < 128
some_place word i within (inl lt) = within lt
some_place word i within (inr le) = omega (arith, get_or_past word i 0 le)

pub name_is_text : (word : List ℕ) → list_all is_name_byte word ≡ true → IsUtf8 word
name_is_text word h =
    IsUtf8-from_ascii word (λ i. some_place word i (byte_of_name word h i) (cases_lt i (length word)))
