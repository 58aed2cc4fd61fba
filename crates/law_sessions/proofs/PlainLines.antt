-- The lines of an answer without their numbers.
use Rattle.std.proofs.Common.{◌≡◌, ℕ, List, [], ◌∷◌, ◌++◌, ◌+◌, length, map, Option, Some, None, refl, ap, ◌∙◌}
use Rattle.law_run.proofs.Basics.{flat_map-append}
use Rattle.law_sessions.specs.Hubs.{own_part, without_numbers}
use Rattle.zb_model.specs.Answer.{Answer}
use Rattle.zb_model.specs.Data.{Bytes, Edit, Place, Reason, Term}
use Rattle.zb_model.specs.Lines.{Line, Accept, Changed, Seal}
use Rattle.law_run_steps.specs.Steps.{whole_lines}
use Rattle.zb_model.specs.Readings.{air}
use Rattle.zb_model.specs.Play.{commit_lines, refuse_lines, send_lines, stored_lines, told_lines}

-- the lines of an answer, with 0 for all numbers
abbrev pub plain_lines : ℕ → Answer → List Line
plain_lines n a = stored_lines 0 n a ++ told_lines 0 n 0 a

of_changes : (event n : ℕ) (es : List Edit) → without_numbers (map (Changed event n) es) ≡ map (Changed 0 n) es
of_changes event n [] = refl
of_changes event n (e ∷ es) = ap (λ l. Changed 0 n e ∷ l) (of_changes event n es)

of_commit : (event n : ℕ) (es : List Edit) → without_numbers (commit_lines event n es) ≡ commit_lines 0 n es
of_commit event n [] = refl
of_commit event n (e ∷ es) = refl

of_accepts : (event n : ℕ) (ts : List Term) → without_numbers (map (Accept event n) ts) ≡ map (Accept 0 n) ts
of_accepts event n [] = refl
of_accepts event n (t ∷ ts) = ap (λ l. Accept 0 n t ∷ l) (of_accepts event n ts)

of_refusal : (event n : ℕ) (place : Place) (r : Option Reason) → without_numbers (refuse_lines event n place r)
    ≡ refuse_lines 0 n place r
of_refusal event n place None = refl
of_refusal event n place (Some r) = refl

of_seals : (event n : ℕ) (ts : List Term) → without_numbers (map (Seal event n) ts) ≡ map (Seal 0 n) ts
of_seals event n [] = refl
of_seals event n (t ∷ ts) = ap (λ l. Seal 0 n t ∷ l) (of_seals event n ts)

of_frame : (event : ℕ) (n : Option ℕ) (frame : ℕ) (bytes : Option Bytes)
    → without_numbers (send_lines event n frame bytes) ≡ send_lines 0 n 0 bytes
of_frame event n frame None = refl
of_frame event n frame (Some b) = refl

pub both_parts : (xs ys us vs : List Line) → without_numbers xs ≡ us → without_numbers ys ≡ vs
    → without_numbers (xs ++ ys) ≡ us ++ vs
both_parts xs ys us vs p q = flat_map-append own_part xs ys ∙ ap (λ l. l ++ without_numbers ys) p ∙ ap (λ l. us ++ l) q

pub plain : (event n frame : ℕ) (a : Answer)
    → without_numbers (stored_lines event n a ++ told_lines event n frame a) ≡ plain_lines n a
unfolding stored_lines told_lines
plain event n frame a =
    both_parts (map (Changed event n) a.edits ++ commit_lines event n a.edits)
    (map (Accept event n) a.accepts
    ++ (refuse_lines event n a.place a.refusal
    ++ (map (Seal event n) a.seals ++ send_lines event (Some n) frame a.frame)))
    (map (Changed 0 n) a.edits ++ commit_lines 0 n a.edits)
    (map (Accept 0 n) a.accepts
    ++ (refuse_lines 0 n a.place a.refusal ++ (map (Seal 0 n) a.seals ++ send_lines 0 (Some n) 0 a.frame)))
    (both_parts (map (Changed event n) a.edits) (commit_lines event n a.edits) (map (Changed 0 n) a.edits)
    (commit_lines 0 n a.edits) (of_changes event n a.edits) (of_commit event n a.edits))
    (both_parts (map (Accept event n) a.accepts)
    (refuse_lines event n a.place a.refusal
    ++ (map (Seal event n) a.seals ++ send_lines event (Some n) frame a.frame)) (map (Accept 0 n) a.accepts)
    (refuse_lines 0 n a.place a.refusal ++ (map (Seal 0 n) a.seals ++ send_lines 0 (Some n) 0 a.frame))
    (of_accepts event n a.accepts)
    (both_parts (refuse_lines event n a.place a.refusal)
    (map (Seal event n) a.seals ++ send_lines event (Some n) frame a.frame) (refuse_lines 0 n a.place a.refusal)
    (map (Seal 0 n) a.seals ++ send_lines 0 (Some n) 0 a.frame)
    (of_refusal event n a.place a.refusal)
    (both_parts (map (Seal event n) a.seals) (send_lines event (Some n) frame a.frame) (map (Seal 0 n) a.seals)
    (send_lines 0 (Some n) 0 a.frame) (of_seals event n a.seals) (of_frame event (Some n) frame a.frame))))

pub plain_whole : (h : List Line) (number n : ℕ) (a : Answer)
    → without_numbers (whole_lines h number n a) ≡ plain_lines n a
unfolding stored_lines
plain_whole h number n a = plain number n (length (air h) + 1) a
