-- Runs of frames, each with the bytes of its frames in one text.
use Rattle.std.specs.Prelude.{◌≡◌, ℕ, ◌+◌, ◌-◌, ◌≤◌, List, [], ◌∷◌, take, drop}
use Rattle.std.specs.List.{flat_map}
use Rattle.arrayvec.specs.ArrayVec.{ArrayVec}
use Rattle.zb_base.specs.Limits.{longest_frame}

-- The frames of a text. The first one starts at `start`, and each ends where the next one starts.
abbrev pub frames_in : List ℕ → ℕ → List ℕ → List (ArrayVec ℕ)
frames_in bytes start [] = []
frames_in bytes start (end ∷ ends) = record { items = take (end - start) (drop start bytes) }
    ∷ frames_in bytes end ends

-- Frames of at most 127 bytes. The last one ends where the text of `all` bytes ends.
abbrev pub AreEnds : ℕ → ℕ → List ℕ → Type 0
AreEnds all start [] = start ≡ all
AreEnds all start (end ∷ ends) = (start ≤ end) × (end ≤ start + longest_frame) × AreEnds all end ends

-- The frames of all runs, one run after the other.
abbrev pub all_runs : List (List (ArrayVec ℕ)) → List (ArrayVec ℕ)
all_runs runs = flat_map (λ run. run) runs
