-- The lines of a run whose nodes are given disks, event by event.
use Rattle.std.proofs.Common.{◌≡◌, ℕ, zero, suc, ◌+◌, ◌<◌, List, [], ◌∷◌, ◌++◌, length, map, take, get_or, Option, refl, sym, ap, ◌∙◌, subst, arith, append_assoc, append-nil, add-zero}
use Rattle.zb_disk.specs.Memory.{Medium}
use Rattle.zb_model.specs.Lines.{Line}
use Rattle.zb_model.specs.Play.{Event, Schedule}
use Rattle.zb_model_real.specs.Real.{real}
use Rattle.law_run_steps.specs.Conditions.{Condition}
use Rattle.law_run_steps.specs.Swaps.{Passed, Stood, node_of, one_passed, swapped_groups}
use Rattle.zb_player.specs.Swapping.{AreFit, FitsAt, nodes_after}

-- what comes of one more event
abbrev pub next_passed : {E : Type 0} → Schedule → (ℕ → Option Stood) → (E → Event) → List Line → (ℕ → Condition) → ℕ
    → List E → ℕ → E → Passed
next_passed w gifts f h xs number es i d =
    one_passed real w gifts (h ++ swapped_groups real w gifts h xs number (map f (take i es)))
    (nodes_after w gifts h xs number (map f (take i es))) (number + i) (f (get_or es i d))

same_passed : (w : Schedule) (gifts : ℕ → Option Stood) (h k : List Line) (xs : ℕ → Condition) (number other : ℕ)
    (event : Event) → h ≡ k → number ≡ other
    → one_passed real w gifts h xs number event ≡ one_passed real w gifts k xs other event
same_passed w gifts h k xs number other event e f =
    ap (λ (l : List Line). one_passed real w gifts l xs number event) e ∙ ap
    (λ n. one_passed real w gifts k xs n event) f

pub swapped_take : {E : Type 0} (w : Schedule) (gifts : ℕ → Option Stood) (f : E → Event) (h : List Line)
    (xs : ℕ → Condition) (number : ℕ) (es : List E) (i : ℕ) (d : E) → i < length es
    → swapped_groups real w gifts h xs number (map f (take (suc i) es))
    ≡ swapped_groups real w gifts h xs number (map f (take i es)) ++ (next_passed w gifts f h xs number es i d).lines
unfolding swapped_groups nodes_after
swapped_take w gifts f h xs number [] i d bound = absurd (omega arith)
swapped_take w gifts f h xs number (e ∷ es) zero d bound =
    append-nil (one_passed real w gifts h xs number (f e)).lines
    ∙ ap (λ (g : Passed). g.lines)
    (same_passed w gifts h (h ++ []) xs number (number + 0) (f e) (sym (append-nil h)) (sym (add-zero number)))
swapped_take w gifts f h xs number (e ∷ es) (suc i) d bound =
    let g = one_passed real w gifts h xs number (f e) in
    let front = swapped_groups real w gifts (h ++ g.lines) g.nodes (number + 1) (map f (take i es)) in
    let later : number + 1 + i ≡ number + suc i = omega arith in
    ap (λ l. g.lines ++ l) (swapped_take w gifts f (h ++ g.lines) g.nodes (number + 1) es i d (omega arith))
    ∙ sym (append_assoc g.lines front (next_passed w gifts f (h ++ g.lines) g.nodes (number + 1) es i d).lines)
    ∙ ap (λ (s : Passed). (g.lines ++ front) ++ s.lines)
    (same_passed w gifts ((h ++ g.lines) ++ front) (h ++ (g.lines ++ front))
    (nodes_after w gifts (h ++ g.lines) g.nodes (number + 1) (map f (take i es)))
    (number + 1 + i) (number + suc i) (f (get_or es i d)) (append_assoc h g.lines front) later)

pub nodes_take : {E : Type 0} (w : Schedule) (gifts : ℕ → Option Stood) (f : E → Event) (h : List Line)
    (xs : ℕ → Condition) (number : ℕ) (es : List E) (i : ℕ) (d : E) → i < length es
    → nodes_after w gifts h xs number (map f (take (suc i) es)) ≡ (next_passed w gifts f h xs number es i d).nodes
unfolding swapped_groups nodes_after
nodes_take w gifts f h xs number [] i d bound = absurd (omega arith)
nodes_take w gifts f h xs number (e ∷ es) zero d bound =
    ap (λ (g : Passed). g.nodes)
    (same_passed w gifts h (h ++ []) xs number (number + 0) (f e) (sym (append-nil h)) (sym (add-zero number)))
nodes_take w gifts f h xs number (e ∷ es) (suc i) d bound =
    let g = one_passed real w gifts h xs number (f e) in
    let front = swapped_groups real w gifts (h ++ g.lines) g.nodes (number + 1) (map f (take i es)) in
    let later : number + 1 + i ≡ number + suc i = omega arith in
    nodes_take w gifts f (h ++ g.lines) g.nodes (number + 1) es i d (omega arith)
    ∙ ap (λ (s : Passed). s.nodes)
    (same_passed w gifts ((h ++ g.lines) ++ front) (h ++ (g.lines ++ front))
    (nodes_after w gifts (h ++ g.lines) g.nodes (number + 1) (map f (take i es)))
    (number + 1 + i) (number + suc i) (f (get_or es i d)) (append_assoc h g.lines front) later)

-- the lines of the first events are a prefix of those of all
pub swapped_rest : {E : Type 0} (w : Schedule) (gifts : ℕ → Option Stood) (f : E → Event) (h : List Line)
    (xs : ℕ → Condition) (number : ℕ) (es : List E) (i : ℕ)
    → ((rest : List Line) × (swapped_groups real w gifts h xs number (map f es)
    ≡ swapped_groups real w gifts h xs number (map f (take i es)) ++ rest))
unfolding swapped_groups
swapped_rest w gifts f h xs number [] zero = ([], refl)
swapped_rest w gifts f h xs number [] (suc i) = ([], refl)
swapped_rest w gifts f h xs number (e ∷ es) zero = (swapped_groups real w gifts h xs number (map f (e ∷ es)), refl)
swapped_rest w gifts f h xs number (e ∷ es) (suc i) =
    let g = one_passed real w gifts h xs number (f e) in
    let r = swapped_rest w gifts f (h ++ g.lines) g.nodes (number + 1) es i in (
      r.0,
      ap (λ l. g.lines ++ l) r.1 ∙ sym (append_assoc g.lines
          (swapped_groups real w gifts (h ++ g.lines) g.nodes (number + 1) (map f (take i es))) r.0),
    )

-- what is given before one of the events fits it
pub fit_at : {E : Type 0} (latest : ℕ) (w : Schedule) (gifts : ℕ → Option Stood) (given : ℕ → Option Medium)
    (f : E → Event) (h : List Line) (xs : ℕ → Condition) (number : ℕ) (es : List E) (i : ℕ) (d : E) → i < length es
    → AreFit latest w gifts given h xs number (map f es)
    → FitsAt latest (gifts (number + i)) (given (number + i)) (nodes_after w gifts h xs number (map f (take i es)))
    (node_of (f (get_or es i d)))
unfolding nodes_after
fit_at latest w gifts given f h xs number [] i d bound fit = absurd (omega arith)
fit_at latest w gifts given f h xs number (e ∷ es) zero d bound fit =
    subst (λ n. FitsAt latest (gifts n) (given n) xs (node_of (f e))) (sym (add-zero number)) fit.0
fit_at latest w gifts given f h xs number (e ∷ es) (suc i) d bound fit =
    let g = one_passed real w gifts h xs number (f e) in
    let later : number + 1 + i ≡ number + suc i = omega arith in
    subst (λ n. FitsAt latest (gifts n) (given n)
    (nodes_after w gifts (h ++ g.lines) g.nodes (number + 1) (map f (take i es))) (node_of (f (get_or es i d)))) later
    (fit_at latest w gifts given f (h ++ g.lines) g.nodes (number + 1) es i d (omega arith) fit.1)
