-- Frames that stand one after the other in one text, each with its end.
use Rattle.std.specs.Prelude.{◌≡◌, ℕ, ◌+◌, ◌-◌, ◌≤◌, List, [], ◌∷◌, take, drop}
use Rattle.zb_base.specs.Limits.{longest_frame}

-- the frames of a text, of which the first starts at `start` and each ends where the next one starts
abbrev pub frames_in : List ℕ → ℕ → List ℕ → List (List ℕ)
frames_in bytes start [] = []
frames_in bytes start (end ∷ ends) = take (end - start) (drop start bytes) ∷ frames_in bytes end ends

-- frames of at most 127 bytes, the last of which ends where the text of `all` bytes does
abbrev pub AreEnds : ℕ → ℕ → List ℕ → Type 0
AreEnds all start [] = start ≡ all
AreEnds all start (end ∷ ends) = (start ≤ end) × (end ≤ start + longest_frame) × AreEnds all end ends
