-- The lockout of a removed device in plain words. It covers every seal that comes after the removal.
use Rattle.std.specs.Prelude.{ℕ, ◌≡◌, ◌⊎◌, List, [], ◌∷◌, ◌++◌, flat_map, ⊤}
use Rattle.zb_model.specs.Claims.{Each, HasTerm, HoldsNoneKnown, KeepsOut, before_group, seals_of, until_live}
use Rattle.zb_model.specs.Data.{Moved, Nwk, Removed}
use Rattle.zb_model.specs.Lines.{Accept, Changed, Line}
use Rattle.zb_model.specs.Secrets.{forged_in}
use Rattle.zb_model.specs.Tools.{Tools}

-- `h` are the lines up to the removal of the device, `after` all lines after it, `since` those of them before this
-- one. A node none of whose live network keys is known outside accepts at NWK no term that the device seals after its
-- removal, and none that was forged.
abbrev pub TakesNoneOf : Tools → ℕ → List Line → List Line → List Line → Line → Type 0
TakesNoneOf tools d h after since (Accept e n t) =
    t.layer ≡ Nwk → HoldsNoneKnown tools (before_group e (h ++ since)) n
    → HasTerm (flat_map (seals_of d) after) t ⊎ HasTerm (flat_map forged_in (h ++ since)) t → ⊥
TakesNoneOf tools d h after since _ = ⊤

-- until the device is admitted again
abbrev pub IsKeptOff : Tools → List Line → List Line → ℕ → Type 0
IsKeptOff tools h after d = Each (TakesNoneOf tools d h after) [] (until_live d after)

abbrev pub LockedOutLine : Tools → List Line → Line → List Line → Type 0
LockedOutLine tools h (Changed e n (Moved (Removed d))) after =
    KeepsOut tools (h ++ Changed e n (Moved (Removed d)) ∷ []) after d
    × IsKeptOff tools (h ++ Changed e n (Moved (Removed d)) ∷ []) after d
LockedOutLine tools h _ after = ⊤

abbrev pub LockedOutFrom : Tools → List Line → List Line → Type 0
LockedOutFrom tools h [] = ⊤
LockedOutFrom tools h (l ∷ ls) = LockedOutLine tools h l ls × LockedOutFrom tools (h ++ l ∷ []) ls

-- A removed device that isn't admitted again obtains no key that is drawn later, and nothing that it seals after its
-- removal is accepted by a node none of whose network keys is known outside.
abbrev pub LockedOut : Tools → List Line → Type 0
LockedOut tools lines = LockedOutFrom tools [] lines
