-- Terms that are accepted or sealed one part after the other: those of one layer, and then those of the other.
use Rattle.std.proofs.Common.{◌≡◌, List, [], ◌∷◌, ◌++◌, refl}
use Rattle.zb_model.specs.Data.{Term}
use Rattle.zb_model.specs.State.{NodeState, after_sealing, after_accepting}
use Rattle.zb_model.specs.Answer.{accepted_all, sealed_all}
use Rattle.law_answer_seals.specs.Sealing.{SealsAlong, SealsNext, IsNext}

along_parts : (P : NodeState → Term → Type 0) (xs ys : List Term) (s : NodeState) → SealsAlong P s (xs ++ ys)
    → SealsAlong P s xs × SealsAlong P (sealed_all xs s) ys
along_parts P [] ys s a = (tt, a)
along_parts P (t ∷ ts) ys s a =
    let more = along_parts P ts ys (after_sealing t s) a.1 in
    ((a.0, more.0), more.1)

pub next_parts : (first second : List Term) (s : NodeState) → SealsNext s (first ++ second) → SealsNext s first
    × SealsNext (sealed_all first s) second
next_parts first second s a = along_parts IsNext first second s a

pub sealed_parts : (first second : List Term) (s : NodeState) → sealed_all (first ++ second) s
    ≡ sealed_all second (sealed_all first s)
sealed_parts [] second s = refl
sealed_parts (t ∷ ts) second s = sealed_parts ts second (after_sealing t s)

pub accepted_parts : (first second : List Term) (s : NodeState) → accepted_all (first ++ second) s
    ≡ accepted_all second (accepted_all first s)
accepted_parts [] second s = refl
accepted_parts (t ∷ ts) second s = accepted_parts ts second (after_accepting t s)

pub ruleset parts = (next_parts, sealed_parts, accepted_parts)
