-- A line is its text and a line feed.
use Rattle.std.proofs.Common.{◌≡◌, ℕ, ◌==◌, List, [], ◌∷◌, length, Bool, false, Option, sym, ◌∙◌}
use Rattle.std.proofs.lemmas.Bool.{false≢true}
use Rattle.std.proofs.KnownBytes.{Appends-trans}
use Rattle.std.specs.Io.KnownBytes.{Appends}
use Rattle.tc_centre.specs.Statuses.{line_of}

-- the text and then the line feed are written of a text that isn't empty
pub line_written : (before between after : Option (List ℕ)) (text : List ℕ) (empty : Bool) → empty
    ≡ (length text == 0) → empty ≡ false
    → Appends before between text → Appends between after (10 ∷ []) → Appends before after (line_of text)
line_written before between after [] empty is not first second = absurd (false≢true (sym not ∙ is))
line_written before between after (c ∷ text) empty is not first second = Appends-trans before between after (c ∷ text)
    (10 ∷ []) first second
