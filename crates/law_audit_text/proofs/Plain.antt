-- What an audit folds, collects and tests over lines whose names leave no room unused.
use Rattle.std.proofs.Common.{◌≡◌, suc, Bool, ◌||◌, List, [], ◌∷◌, ◌++◌, flat_map, fold, length, refl, ap, ◌∙◌}
use Rattle.std.specs.List.{list_any}
use Rattle.law_audit_text.specs.Plain.{plain, plains}
use Rattle.zb_trace.specs.declared.line.Line.{Line}

pub plains_snoc : (h : List Line) (l : Line) → plains h ++ plain l ∷ [] ≡ plains (h ++ l ∷ [])
plains_snoc [] l = refl
plains_snoc (x ∷ h) l = ap (λ xs. plain x ∷ xs) (plains_snoc h l)

pub plains_append : (h ls : List Line) → plains h ++ plains ls ≡ plains (h ++ ls)
plains_append [] ls = refl
plains_append (x ∷ h) ls = ap (λ xs. plain x ∷ xs) (plains_append h ls)

pub plains_length : (h : List Line) → length (plains h) ≡ length h
plains_length [] = refl
plains_length (l ∷ h) = ap suc (plains_length h)

pub any_plain : (test : Line → Bool) → ((l : Line) → test (plain l) ≡ test l) → (h : List Line)
    → list_any test (plains h) ≡ list_any test h
any_plain test each [] = refl
any_plain test each (l ∷ h) = ap (λ b. b || list_any test (plains h)) (each l) ∙ ap (λ b. test l || b)
    (any_plain test each h)

pub flat_plain : {A : Type 0} (says : Line → List A) → ((l : Line) → says (plain l) ≡ says l) → (h : List Line)
    → flat_map says (plains h) ≡ flat_map says h
flat_plain says each [] = refl
flat_plain says each (l ∷ h) = ap (λ xs. xs ++ flat_map says (plains h)) (each l) ∙ ap (λ xs. says l ++ xs)
    (flat_plain says each h)

pub fold_plain : {A : Type 0} (step : A → Line → A) → ((a : A) (l : Line) → step a (plain l) ≡ step a l)
    → (a : A) (h : List Line) → fold step a (plains h) ≡ fold step a h
fold_plain step each a [] = refl
fold_plain step each a (l ∷ h) = ap (λ b. fold step b (plains h)) (each a l) ∙ fold_plain step each (step a l) h
