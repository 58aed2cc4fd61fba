-- The two halves of lockout, each by itself.
use Rattle.std.specs.Prelude.{List, [], ◌∷◌, ◌++◌, ⊤}
use Rattle.zb_model.specs.Data.{Removed, Moved}
use Rattle.zb_model.specs.Lines.{Line, Changed}
use Rattle.zb_model.specs.Tools.{Tools}
use Rattle.zb_model.specs.Claims.{KeepsOut, Refuses}

abbrev pub RefusesAfter : Tools → List Line → Line → List Line → Type 0
RefusesAfter tools h (Changed e n (Moved (Removed d))) after =
    Refuses tools (h ++ Changed e n (Moved (Removed d)) ∷ []) after d
RefusesAfter tools h _ after = ⊤

-- Outsiders are refused after each removal, up to the device's next admission. A node none of whose live network keys
-- is known outside accepts at NWK neither a term that the device sealed since the removal, nor one that was forged
-- before.
abbrev pub RefusesOutsiders : Tools → List Line → List Line → Type 0
RefusesOutsiders tools h [] = ⊤
RefusesOutsiders tools h (l ∷ ls) = RefusesAfter tools h l ls × RefusesOutsiders tools (h ++ l ∷ []) ls

abbrev pub KeepsOutAfter : Tools → List Line → Line → List Line → Type 0
KeepsOutAfter tools h (Changed e n (Moved (Removed d))) after =
    KeepsOut tools (h ++ Changed e n (Moved (Removed d)) ∷ []) after d
KeepsOutAfter tools h _ after = ⊤

-- After each removal, and up to the device's next admission: the device obtains no key that is drawn after the
-- removal.
abbrev pub KeepsRemovedOut : Tools → List Line → List Line → Type 0
KeepsRemovedOut tools h [] = ⊤
KeepsRemovedOut tools h (l ∷ ls) = KeepsOutAfter tools h l ls × KeepsRemovedOut tools (h ++ l ∷ []) ls
