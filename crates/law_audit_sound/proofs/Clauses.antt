-- Tests that no line fails.
use Rattle.std.proofs.Common.{◌≡◌, ◌+◌, Bool, true, false, cond, List, [], ◌∷◌, ◌++◌, length, refl, ap, ◌∙◌}
use Rattle.zb_audit.specs.Failing.{failing_from}
use Rattle.law_audit_groups.specs.Printing.{printed}
use Rattle.zb_model.specs.Data.{Station}
use Rattle.zb_model.specs.Lines.{Line}
use Rattle.zb_trace_model.specs.Said.{line_for}
use Rattle.zb_trace.specs.declared.line.Line.{Line as Printed}

printed_snoc : (known : List Station) (h : List Line) (m : Line) → printed known h ++ line_for known m ∷ []
    ≡ printed known (h ++ m ∷ [])
printed_snoc known [] m = refl
printed_snoc known (x ∷ h) m = ap (λ ls. line_for known x ∷ ls) (printed_snoc known h m)

-- a test passes at each of the lines after those
abbrev pub Passes : (List Printed → Printed → Bool) → List Station → List Line → List Line → Type 0
Passes test known h [] = Unit {0}
Passes test known h (m ∷ ms) = (test (printed known h) (line_for known m) ≡ true) × Passes test known (h ++ m ∷ []) ms

pub none_fails : (test : List Printed → Printed → Bool) (known : List Station) (h ms : List Line)
    → Passes test known h ms → failing_from test (printed known h) (printed known ms) ≡ []
unfolding failing_from
none_fails test known h [] all = refl
none_fails test known h (m ∷ ms) all =
    ap (λ b. cond b [] ((length (printed known h) + 1) ∷ [])
    ++ failing_from test (printed known h ++ line_for known m ∷ []) (printed known ms)) all.0
    ∙ ap (λ ls. failing_from test ls (printed known ms)) (printed_snoc known h m) ∙ none_fails test known
    (h ++ m ∷ []) ms all.1

pub never_true : (b : Bool) → (b ≡ true → ⊥) → b ≡ false
never_true true f = absurd (f refl)
never_true false f = refl
