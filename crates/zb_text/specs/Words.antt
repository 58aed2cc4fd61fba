-- The lines of a text and the words of a line, taken from the start one by one.
use Rattle.std.specs.Prelude.{◌≡◌, ℕ, ◌==◌, List, [], ◌∷◌, Option, Some, None}
use Rattle.std.specs.List.{slice_split}
use Rattle.std.specs.Option.{option_copied, option_map}
use Rattle.zb_text.specs.declared.words.Words.{Words}

-- The parts of a text between the bytes that separate them.
abbrev pub parts : ℕ → List ℕ → List (List ℕ)
parts separator text = slice_split (λ byte. byte == separator) text

-- The words in the rest of a line, separated by one space each. None means that the last word was taken. An empty line
-- has one word, which is empty.
abbrev pub words : Option (List ℕ) → List (List ℕ)
words None = []
words (Some line) = parts 32 line

-- The words that a reader has not taken yet.
abbrev pub left : Words → List (List ℕ)
left reader = words (option_copied reader.rest)

-- The first item and the items after it.
abbrev pub first_of : {X : Type 0} → List X → Option (X × List X)
first_of [] = None
first_of (x ∷ xs) = Some (x, xs)

-- The first word as `meaning` reads it, and the words after it.
abbrev pub field : {X : Type 0} → (List ℕ → Option X) → List (List ℕ) → Option (X × List (List ℕ))
field meaning [] = None
field meaning (word ∷ more) = option_map (λ x. (x, more)) (meaning word)

-- The empty value, if no word is left.
abbrev pub nothing : List (List ℕ) → Option Unit
nothing [] = Some tt
nothing (word ∷ more) = None

-- The result of a call, seen by `view`, and what it left are `expected`; the result is None if `expected` is None.
abbrev pub Takes : {X Y : Type 0} → (X → Y) → Option X → List (List ℕ) → Option (Y × List (List ℕ)) → Type 0
Takes view None after expected = expected ≡ None
Takes view (Some x) after expected = expected ≡ Some (view x, after)

-- The result of a call, seen by `view`, is `expected`.
abbrev pub Shows : {X Y : Type 0} → (X → Y) → Option X → Option Y → Type 0
Shows view None expected = expected ≡ None
Shows view (Some x) expected = expected ≡ Some (view x)

-- A word after another one.
abbrev pub then : List ℕ → List ℕ
then word = 32 ∷ word
