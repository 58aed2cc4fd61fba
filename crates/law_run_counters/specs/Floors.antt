-- The floors of whole runs, and the accepted terms for which they are stored.
use Rattle.std.specs.Prelude.{ℕ, ◌≡◌, ◌≤◌, ◌+◌, List, [], ◌∷◌, ⊤}
use Rattle.std.specs.List.{Any}
use Rattle.zb_model.specs.Data.{Bytes, Layer, Term, Edit, Floor}
use Rattle.zb_model.specs.Lines.{Line, Changed, Accept, Stopped, DownDisk}
use Rattle.zb_model.specs.Play.{Schedule, setting_of}

-- What a floor line of an event and a node is stored for: a term that the node accepts in this event. It has the
-- floor's layer, base key and source, and the floor is at most the node's incoming block above its counter. Or the
-- event was cut short by a stop or failure, and nothing of it is accepted.
abbrev pub IsFor : Schedule → ℕ → ℕ → Layer → Bytes → ℕ → ℕ → Line → Type 0
IsFor w e n layer base source value (Accept d m t) =
    (d ≡ e) × (m ≡ n) × (t.layer ≡ layer) × (t.base ≡ base) × (t.source ≡ source)
    × (value ≤ t.counter + (setting_of w n).me.in_block)
IsFor w e n layer base source value (Stopped d m) = (d ≡ e) × (m ≡ n)
IsFor w e n layer base source value (DownDisk d m) = (d ≡ e) × (m ≡ n)
IsFor w e n layer base source value _ = ⊥

abbrev pub FloorLine : Schedule → Line → List Line → Type 0
FloorLine w (Changed e n (Floor layer base source value)) later = Any (IsFor w e n layer base source value) later
FloorLine w _ later = ⊤

-- Each floor line is followed by what it is stored for.
abbrev pub FloorsAreFor : Schedule → List Line → Type 0
FloorsAreFor w [] = ⊤
FloorsAreFor w (l ∷ ls) = FloorLine w l ls × FloorsAreFor w ls

-- A floor that an answer stores is for a term that it accepts. The term has the floor's layer, base key and source,
-- and the floor is at most a block above its counter.
abbrev pub IsOfTerm : ℕ → Layer → Bytes → ℕ → ℕ → Term → Type 0
IsOfTerm block layer base source value t = (t.layer ≡ layer) × (t.base ≡ base) × (t.source ≡ source)
    × (value ≤ t.counter + block)

abbrev pub FloorOf : ℕ → List Term → Edit → Type 0
FloorOf block accepts (Floor layer base source value) = Any (IsOfTerm block layer base source value) accepts
FloorOf block accepts _ = ⊤
