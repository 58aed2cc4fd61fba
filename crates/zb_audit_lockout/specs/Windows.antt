-- The windows of a list of lines: from a removal to the end of the list, if the device isn't admitted in between.
use Rattle.std.specs.Prelude.{◌≡◌, ◌⊎◌, ℕ, Bool, false, List, [], ◌∷◌, ◌++◌}
use Rattle.std.specs.List.{list_any}
use Rattle.zb_audit_lockout.specs.Lockout.{admits}
use Rattle.zb_trace.specs.declared.line.Line.{Line}
use Rattle.zb_trace.specs.declared.line.Line.TheVariants as line

-- Whether a device is admitted by one of the lines.
abbrev pub is_shut : ℕ → List Line → Bool
is_shut d ls = list_any (admits d) ls

-- A claim about the lines up to a removal, the device, and the lines after it.
abbrev pub Claim : Type 1
Claim = List Line → ℕ → List Line → Type 0

-- The claim holds for each window; for some window.
abbrev pub EachAt : Claim → List Line → Line → List Line → Type 0
EachAt P h (line.Removed event device) ls = is_shut device.0 ls ≡ false
    → P (h ++ line.Removed event device ∷ []) device.0 ls
EachAt P h _ ls = Unit {0}

abbrev pub EachWindow : Claim → List Line → List Line → Type 0
EachWindow P h [] = Unit {0}
EachWindow P h (l ∷ ls) = EachAt P h l ls × EachWindow P (h ++ l ∷ []) ls

abbrev pub SomeAt : Claim → List Line → Line → List Line → Type 0
SomeAt P h (line.Removed event device) ls = (is_shut device.0 ls ≡ false)
    × P (h ++ line.Removed event device ∷ []) device.0 ls
SomeAt P h _ ls = ⊥

abbrev pub SomeWindow : Claim → List Line → List Line → Type 0
SomeWindow P h [] = ⊥
SomeWindow P h (l ∷ ls) = SomeAt P h l ls ⊎ SomeWindow P (h ++ l ∷ []) ls
