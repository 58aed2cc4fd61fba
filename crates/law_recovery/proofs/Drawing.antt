-- An event whose answer draws no key leaves the supply as it is.
use Rattle.std.proofs.Common.{◌≡◌, ℕ, ◌+◌, false, List, [], ◌∷◌, ◌++◌, fold, length, slice_get, refl, ap, ◌∙◌, subst, sym}
use Rattle.std.specs.List.{AllByRecursion}
use Rattle.std.proofs.lemmas.List.Sums.{fold-append}
use Rattle.zb_model.specs.Answer.{Answer}
use Rattle.zb_model.specs.Data.{Edit, Reserve, Floor}
use Rattle.zb_model.specs.Lines.{Line, Changed}
use Rattle.zb_model.specs.Play.{Schedule, Armed, Event, Step, answer_step, change_lines, commit_lines, falls, step, supply, told_lines}
use Rattle.zb_model.specs.Readings.{air, draw_line, draws_used}
use Rattle.zb_model.specs.Tools.{Tools}
use Rattle.law_recovery.proofs.Counting.{IsFloor}
use Rattle.law_recovery.specs.Fronts.{Front, IsReady, after_event}
use Rattle.law_run.proofs.FreshLines.{all-append}
use Rattle.law_run_steps.specs.Conditions.{calls_by, condition_of}
use Rattle.law_run_steps.specs.Steps.{falls_on, storing_lines, whole_lines}
use Rattle.law_run_steps.proofs.Answered.{is-answered}
use Rattle.law_run_steps.proofs.Walks.{commit-all, told-all}

-- a line that draws nothing
abbrev Idle : Line → Type 0
Idle l = (u : ℕ) → draw_line u l ≡ u

idle_edit : (number n : ℕ) (e : Edit) → IsFloor e → Idle (Changed number n e)
idle_edit number n (Reserve layer limit) is u = refl
idle_edit number n (Floor layer key sender value) is u = refl
idle_edit number n _ is u = absurd cc

idle_changes : (number n : ℕ) (es : List Edit) → AllByRecursion IsFloor es
    → AllByRecursion Idle (change_lines number n es)
idle_changes number n [] all = tt
idle_changes number n (e ∷ es) all = (idle_edit number n e all.0, idle_changes number n es all.1)

idle_lines : (h : List Line) (number n : ℕ) (a : Answer) → AllByRecursion IsFloor a.edits
    → AllByRecursion Idle (whole_lines h number n a)
idle_lines h number n a all =
    all-append Idle (storing_lines number n a) (told_lines number n (length (air h) + 1) a)
    (all-append Idle (change_lines number n a.edits) (commit_lines number n a.edits)
    (idle_changes number n a.edits all) (commit-all Idle number n (λ u. refl) a.edits))
    (told-all Idle number n
    (record {
      accept = λ t u. refl;
      refuse = λ place reason u. refl;
      seal = λ t u. refl;
      send = λ by frame bytes u. refl;
    }) (length (air h) + 1) a)

fold_idle : (ls : List Line) → AllByRecursion Idle ls → (u : ℕ) → fold draw_line u ls ≡ u
fold_idle [] all u = refl
fold_idle (l ∷ ls) all u = ap (λ n. fold draw_line n ls) (all.0 u) ∙ fold_idle ls all.1 u

drawn_none : (h g : List Line) → AllByRecursion Idle g → draws_used (h ++ g) ≡ draws_used h
unfolding draws_used
drawn_none h g all = fold-append draw_line 0 h g ∙ fold_idle g all (fold draw_line 0 h)

unarmed : (w : Schedule) (x : Front) (n : ℕ) (a : Answer) → IsReady x n
    → falls_on a (condition_of w x.lines x.disks n) ≡ false
unarmed w x n a r =
    ap (λ (armed : Armed). falls armed (calls_by (condition_of w x.lines x.disks n).commits a.edits)) r.unarmed

same_supply : (w : Schedule) (h g : List Line) → draws_used g ≡ draws_used h → supply w g ≡ supply w h
unfolding supply
same_supply w h g e = ap (λ n. slice_get w.draws n) e

pub supply_left : (tools : Tools) (w : Schedule) (x : Front) (n : ℕ) (a : Answer) (event : Event) → IsReady x n
    → step tools w x.lines x.disks x.number event ≡ answer_step x.lines x.disks x.number n a
    → AllByRecursion IsFloor a.edits → supply w (after_event tools w x event).lines ≡ supply w x.lines
unfolding after_event
supply_left tools w x n a event r is all =
    let g : Step = step tools w x.lines x.disks x.number event in
    let to = (is-answered w x.lines x.disks x.number n a g is).whole (unarmed w x n a r) in
    same_supply w x.lines (x.lines ++ g.lines)
    (drawn_none x.lines g.lines
    (subst (AllByRecursion Idle) (sym to.lines) (idle_lines x.lines x.number n a all)))
