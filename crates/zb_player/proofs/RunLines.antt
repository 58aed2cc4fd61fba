-- The lines of a run, event by event.
use Rattle.std.proofs.Common.{◌≡◌, ℕ, zero, suc, ◌+◌, ◌<◌, List, [], ◌∷◌, ◌++◌, length, map, take, get_or, refl, sym, ap, ◌∙◌, arith, append_assoc, append-nil, add-zero}
use Rattle.zb_model.specs.Lines.{Line}
use Rattle.zb_model.specs.Play.{Disk, Event, Schedule, Step, groups, step}
use Rattle.zb_model_real.specs.Real.{real}
use Rattle.zb_player.specs.Runs.{disks_after}

-- the step of one more event
abbrev pub next_step : {E : Type 0} → Schedule → (E → Event) → List Line → List Disk → ℕ → List E → ℕ → E → Step
next_step w f h ds number es i d =
    step real w (h ++ groups real w h ds number (map f (take i es))) (disks_after w h ds number (map f (take i es)))
    (number + i) (f (get_or es i d))

same_step : (w : Schedule) (h k : List Line) (ds : List Disk) (number other : ℕ) (act : Event) → h ≡ k → number ≡ other
    → step real w h ds number act ≡ step real w k ds other act
same_step w h k ds number other act e f = ap (λ (l : List Line). step real w l ds number act) e ∙ ap
    (λ n. step real w k ds n act) f

pub groups_take : {E : Type 0} (w : Schedule) (f : E → Event) (h : List Line) (ds : List Disk) (number : ℕ)
    (es : List E) (i : ℕ) (d : E) → i < length es
    → groups real w h ds number (map f (take (suc i) es))
    ≡ groups real w h ds number (map f (take i es)) ++ (next_step w f h ds number es i d).lines
unfolding groups disks_after
groups_take w f h ds number [] i d bound = absurd (omega arith)
groups_take w f h ds number (e ∷ es) zero d bound =
    append-nil (step real w h ds number (f e)).lines
    ∙ ap (λ (g : Step). g.lines)
    (same_step w h (h ++ []) ds number (number + 0) (f e) (sym (append-nil h)) (sym (add-zero number)))
groups_take w f h ds number (e ∷ es) (suc i) d bound =
    let g = step real w h ds number (f e) in
    let front = groups real w (h ++ g.lines) g.disks (number + 1) (map f (take i es)) in
    let later : number + 1 + i ≡ number + suc i = omega arith in
    ap (λ l. g.lines ++ l) (groups_take w f (h ++ g.lines) g.disks (number + 1) es i d (omega arith))
    ∙ sym (append_assoc g.lines front (next_step w f (h ++ g.lines) g.disks (number + 1) es i d).lines)
    ∙ ap (λ (s : Step). (g.lines ++ front) ++ s.lines)
    (same_step w ((h ++ g.lines) ++ front) (h ++ (g.lines ++ front))
    (disks_after w (h ++ g.lines) g.disks (number + 1) (map f (take i es)))
    (number + 1 + i) (number + suc i) (f (get_or es i d)) (append_assoc h g.lines front) later)

pub disks_take : {E : Type 0} (w : Schedule) (f : E → Event) (h : List Line) (ds : List Disk) (number : ℕ)
    (es : List E) (i : ℕ) (d : E) → i < length es
    → disks_after w h ds number (map f (take (suc i) es)) ≡ (next_step w f h ds number es i d).disks
unfolding groups disks_after
disks_take w f h ds number [] i d bound = absurd (omega arith)
disks_take w f h ds number (e ∷ es) zero d bound =
    ap (λ (g : Step). g.disks)
    (same_step w h (h ++ []) ds number (number + 0) (f e) (sym (append-nil h)) (sym (add-zero number)))
disks_take w f h ds number (e ∷ es) (suc i) d bound =
    let g = step real w h ds number (f e) in
    let front = groups real w (h ++ g.lines) g.disks (number + 1) (map f (take i es)) in
    let later : number + 1 + i ≡ number + suc i = omega arith in
    disks_take w f (h ++ g.lines) g.disks (number + 1) es i d (omega arith)
    ∙ ap (λ (s : Step). s.disks)
    (same_step w ((h ++ g.lines) ++ front) (h ++ (g.lines ++ front))
    (disks_after w (h ++ g.lines) g.disks (number + 1) (map f (take i es)))
    (number + 1 + i) (number + suc i) (f (get_or es i d)) (append_assoc h g.lines front) later)

-- the lines of the first events are a prefix of those of all
pub groups_rest : {E : Type 0} (w : Schedule) (f : E → Event) (h : List Line) (ds : List Disk) (number : ℕ)
    (es : List E) (i : ℕ)
    → ((rest : List Line)
    × (groups real w h ds number (map f es) ≡ groups real w h ds number (map f (take i es)) ++ rest))
unfolding groups
groups_rest w f h ds number [] zero = ([], refl)
groups_rest w f h ds number [] (suc i) = ([], refl)
groups_rest w f h ds number (e ∷ es) zero = (groups real w h ds number (map f (e ∷ es)), refl)
groups_rest w f h ds number (e ∷ es) (suc i) =
    let g = step real w h ds number (f e) in
    let r = groups_rest w f (h ++ g.lines) g.disks (number + 1) es i in (
      r.0,
      ap (λ l. g.lines ++ l) r.1 ∙ sym
          (append_assoc g.lines (groups real w (h ++ g.lines) g.disks (number + 1) (map f (take i es))) r.0),
    )
