use Rattle.std.proofs.Common.{refl, ◌∷◌, []}
use Rattle.zb_text.proofs.Digits.{below}
use Rattle.zb_text.proofs.hexadecimal.digits_of.Goals as goal

pub returns-clause-first : goal.returns-clause-first
returns-clause-first c = below (48 ∷ 49 ∷ 50 ∷ 51 ∷ 52 ∷ 53 ∷ 54 ∷ 55 ∷ 56 ∷ 57 ∷ 65 ∷ 66 ∷ 67 ∷ 68 ∷ 69 ∷ 70 ∷ [])
    refl _

pub returns-clause-second : goal.returns-clause-second
returns-clause-second c = below (48 ∷ 49 ∷ 50 ∷ 51 ∷ 52 ∷ 53 ∷ 54 ∷ 55 ∷ 56 ∷ 57 ∷ 65 ∷ 66 ∷ 67 ∷ 68 ∷ 69 ∷ 70 ∷ [])
    refl _
