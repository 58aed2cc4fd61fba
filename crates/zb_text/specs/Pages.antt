-- What is printed and read back: words that need no quoting, lines of words, and pages of lines.
use Rattle.std.specs.Prelude.{◌≡◌, ℕ, nat_lt, List, [], ◌∷◌, ◌++◌, true}
use Rattle.std.specs.List.{list_all, join_with_byte, flat_map}

-- A word has no space, no line feed and no carriage return: all its bytes are above hexadecimal 20.
abbrev pub IsWord : List ℕ → Type 0
IsWord word = list_all (λ byte. nat_lt 32 byte) word ≡ true

-- A line has neither a line feed nor a carriage return: all its bytes are above hexadecimal 1F.
abbrev pub IsLine : List ℕ → Type 0
IsLine line = list_all (λ byte. nat_lt 31 byte) line ≡ true

-- The line of some words.
abbrev pub line_of_words : List (List ℕ) → List ℕ
line_of_words words = join_with_byte 32 words

-- A line with its end.
abbrev pub ended : List ℕ → List ℕ
ended line = line ++ 10 ∷ []

-- The text of some lines.
abbrev pub page : List (List ℕ) → List ℕ
page lines = flat_map ended lines
