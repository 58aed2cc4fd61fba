-- The first line of a text.
use Rattle.std.proofs.Common.{◌≡◌, ℕ, ◌==◌, List, [], ◌∷◌, length, false, None, refl, arith, ap, ◌∙◌}
use Rattle.std.specs.Str.Lines.{lines, lines_of_parts, strip_carriage_return}
use Rattle.std.proofs.lemmas.Bool.Decides.{nat_tests}
use Rattle.zb_text.specs.Words.{parts, nothing}
use Rattle.zb_text.proofs.Cuts.{parts_are_some}

front_line : (line : List ℕ) (ps : List (List ℕ)) → nothing ps ≡ None → lines_of_parts (line ∷ ps)
    ≡ strip_carriage_return line ∷ lines_of_parts ps
front_line line [] some = cc some
front_line line (part ∷ ps) some = refl

-- a line feed ends the first line
pub lines_front : (text line rest : List ℕ) → parts 10 text ≡ line ∷ parts 10 rest → lines text
    ≡ strip_carriage_return line ∷ lines rest
lines_front text line rest e = ap lines_of_parts e ∙ front_line line (parts 10 rest) (parts_are_some 10 rest)

last_line : (line : List ℕ) → (line ≡ [] → ⊥) → lines_of_parts (line ∷ []) ≡ line ∷ []
last_line [] some = absurd (some refl)
last_line (b ∷ bs) some = let here : (length (b ∷ bs) == 0) ≡ false = grind (arith, nat_tests) in rw here refl

-- without one, the whole text is a line, if it isn't empty
pub lines_last : (text : List ℕ) → parts 10 text ≡ text ∷ [] → (length text ≡ 0 → ⊥) → lines text ≡ text ∷ []
lines_last text e some = ap lines_of_parts e ∙ last_line text (λ h. some (ap (length {A = ℕ}) h))
