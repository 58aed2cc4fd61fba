-- The seal lines of an event have the terms that its answer seals.
use Rattle.std.proofs.Common.{◌≡◌, ℕ, List, [], ◌∷◌, ◌++◌, map, flat_map, Option, Some, None, refl, ap, ◌∙◌, append-nil}
use Rattle.law_run.proofs.Basics.{flat_map-append}
use Rattle.zb_live.specs.Shown.{event_lines}
use Rattle.zb_model.specs.Answer.{Answer}
use Rattle.zb_model.specs.Claims.{sealed_in, sealed_terms}
use Rattle.zb_model.specs.Data.{Bytes, Edit, Place, Reason, Term}
use Rattle.zb_model.specs.Lines.{Line, Accept, Changed, Seal}
use Rattle.zb_model.specs.Play.{commit_lines, refuse_lines, send_lines, stored_lines, told_lines}

abbrev seals_in : List Line → List Term
seals_in lines = flat_map sealed_in lines

of_changes : (event n : ℕ) (es : List Edit) → seals_in (map (Changed event n) es) ≡ []
of_changes event n [] = refl
of_changes event n (e ∷ es) = of_changes event n es

of_commit : (event n : ℕ) (es : List Edit) → seals_in (commit_lines event n es) ≡ []
of_commit event n [] = refl
of_commit event n (e ∷ es) = refl

of_accepts : (event n : ℕ) (ts : List Term) → seals_in (map (Accept event n) ts) ≡ []
of_accepts event n [] = refl
of_accepts event n (t ∷ ts) = of_accepts event n ts

of_refusal : (event n : ℕ) (place : Place) (r : Option Reason) → seals_in (refuse_lines event n place r) ≡ []
of_refusal event n place None = refl
of_refusal event n place (Some r) = refl

of_seals : (event n : ℕ) (ts : List Term) → seals_in (map (Seal event n) ts) ≡ ts
of_seals event n [] = refl
of_seals event n (t ∷ ts) = ap (λ l. t ∷ l) (of_seals event n ts)

of_frame : (event : ℕ) (n : Option ℕ) (frame : ℕ) (bytes : Option Bytes) → seals_in (send_lines event n frame bytes)
    ≡ []
of_frame event n frame None = refl
of_frame event n frame (Some b) = refl

both_parts : (xs ys : List Line) (a b : List Term) → seals_in xs ≡ a → seals_in ys ≡ b → seals_in (xs ++ ys) ≡ a ++ b
both_parts xs ys a b p q = flat_map-append sealed_in xs ys ∙ ap (λ l. l ++ seals_in ys) p ∙ ap (λ l. a ++ l) q

pub event_seals_are : (event n frame : ℕ) (a : Answer) → sealed_terms (event_lines event n frame a) ≡ a.seals
unfolding sealed_terms event_lines stored_lines told_lines
event_seals_are event n frame a =
    both_parts (map (Changed event n) a.edits ++ commit_lines event n a.edits)
    (map (Accept event n) a.accepts
    ++ (refuse_lines event n a.place a.refusal
    ++ (map (Seal event n) a.seals ++ send_lines event (Some n) frame a.frame))) [] a.seals
    (both_parts (map (Changed event n) a.edits) (commit_lines event n a.edits) [] [] (of_changes event n a.edits)
    (of_commit event n a.edits))
    (both_parts (map (Accept event n) a.accepts)
    (refuse_lines event n a.place a.refusal
    ++ (map (Seal event n) a.seals ++ send_lines event (Some n) frame a.frame)) [] a.seals
    (of_accepts event n a.accepts)
    (both_parts (refuse_lines event n a.place a.refusal)
    (map (Seal event n) a.seals ++ send_lines event (Some n) frame a.frame) [] a.seals
    (of_refusal event n a.place a.refusal)
    (both_parts (map (Seal event n) a.seals) (send_lines event (Some n) frame a.frame) a.seals []
    (of_seals event n a.seals) (of_frame event (Some n) frame a.frame)
    ∙ append-nil a.seals)))
