-- The key words of `sniff`: the 32 digits of a key, or the digits of an install code, which represents its link key.
use Rattle.std.specs.Prelude.{ℕ, nat_lt, List, [], ◌∷◌, length, is_some, Bool, if◌then◌else◌, Option, Some, None, Result, Ok, Err}
use Rattle.std.specs.List.{list_all}
use Rattle.zb_base.specs.declared.key.Key.{Key}
use Rattle.zb_install.specs.Code.{code_of_text, code_key}
use Rattle.zb_install.specs.declared.code_error.CodeError.{CodeError}
use Rattle.zb_text.specs.Fields.{key_of}

abbrev pub code_given : Result (List ℕ) CodeError → Option Key
code_given (Err e) = None
code_given (Ok code) = Some (record { 0 = code_key code })

abbrev pub key_or : Option (List ℕ) → Option Key → Option Key
key_or None other = other
key_or (Some key) other = Some (record { 0 = key })

-- The longest word for a key, in characters: the digits of the longest install code with its CRC.
abbrev pub longest_key_word : ℕ
longest_key_word = 36

-- The key that a word represents.
unfoldable pub key_word : List ℕ → Option Key
key_word word =
    if nat_lt longest_key_word (length word) then None else key_or (key_of word) (code_given (code_of_text word))

abbrev pub key_before : Option Key → List Key → List Key
key_before None keys = keys
key_before (Some key) keys = key ∷ keys

-- The keys that words represent, in order.
abbrev pub keys_in : List (List ℕ) → List Key
keys_in [] = []
keys_in (word ∷ more) = key_before (key_word word) (keys_in more)

-- Whether each word represents a key.
abbrev pub all_keys : List (List ℕ) → Bool
all_keys words = list_all (λ word. is_some (key_word word)) words
