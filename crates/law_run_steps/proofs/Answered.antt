-- The result of an event that is answered, whole and cut.
use Rattle.std.proofs.Common.{◌≡◌, ℕ, ◌+◌, Bool, true, false, cond, List, [], ◌∷◌, ◌++◌, map, length, fold, nat_eq, refl, sym, ap, ◌∙◌, subst, append_assoc}
use Rattle.std.proofs.lemmas.Bool.{false≢true}
use Rattle.std.proofs.lemmas.List.Sums.{fold-append}
use Rattle.std.specs.List.{AllByRecursion}
use Rattle.zb_model.specs.Data.{Edit, Term, Place, Reason}
use Rattle.zb_model.specs.Lines.{Line, Changed}
use Rattle.zb_model.specs.State.{NodeState, applied_all}
use Rattle.zb_model.specs.Answer.{Answer, answered}
use Rattle.zb_model.specs.Readings.{speaker, after, heard_line, state_of, power_line, is_up, commit_line, commits_of, air}
use Rattle.zb_model.specs.Play.{Schedule, Disk, DiskState, Step, Armed, NotArmed, StopAfter, FailAt, Calls, disk_of, with_disk, setting_of, falls, stands, leaves_both, calls_for, commit_lines, told_lines, stored_lines, group_of, cut_of, fallen_line, answer_step}
use Rattle.law_run.proofs.Basics.{append-nil', state-append}
use Rattle.law_run.proofs.FreshLines.{all-append}
use Rattle.law_run.proofs.GroupSeals.{stored-state}
use Rattle.law_run.proofs.GroupStates.{group-state}
use Rattle.law_run_steps.specs.Conditions.{condition_of, calls_by, commits_with, disk_left, after_whole, after_storing, after_fall}
use Rattle.law_run_steps.specs.Steps.{ComesTo, IsAnswered, storing_lines, whole_lines, falls_on}
use Rattle.law_run_steps.proofs.Disks.{nat_eq-refl, cond-same, own-disk}
use Rattle.law_run_steps.proofs.Walks.{OfTold, map-all, commit-all, fallen-all, told-all}
use Rattle.law_run_steps.proofs.Spared.{power-append, commits-append, fold-left, same-condition}

pub calls-are : (h : List Line) (n : ℕ) (es : List Edit) → calls_for h n es ≡ calls_by (commits_of h n) es
calls-are h n [] = refl
calls-are h n (e ∷ es) = refl

pub at-true : {X : Type 0} (b : Bool) (x y : X) → b ≡ true → cond b x y ≡ x
at-true true x y e = refl
at-true false x y e = absurd (false≢true e)

pub at-false : {X : Type 0} (b : Bool) (x y : X) → b ≡ false → cond b x y ≡ y
at-false false x y e = refl
at-false true x y e = absurd (false≢true (sym e))

-- How many commits there are

commit-counts : (number n k : ℕ) (es : List Edit) → fold (commit_line n) k (commit_lines number n es)
    ≡ commits_with k es
commit-counts number n k [] = refl
commit-counts number n k (e ∷ es) = ap (λ b. cond b (k + 1) k) (nat_eq-refl n)

storing-counts : (number n k : ℕ) (a : Answer) → fold (commit_line n) k (storing_lines number n a)
    ≡ commits_with k a.edits
storing-counts number n k a =
    fold-append (commit_line n) k (map (Changed number n) a.edits) (commit_lines number n a.edits)
    ∙ ap (λ z. fold (commit_line n) z (commit_lines number n a.edits))
    (fold-left (commit_line n) k (map (Changed number n) a.edits)
    (map-all (λ l. commit_line n k l ≡ k) (Changed number n) (λ e. refl) a.edits))
    ∙ commit-counts number n k a.edits

told-counts : (number n k : ℕ) → OfTold (λ l. commit_line n k l ≡ k) number n
told-counts number n k =
    record { accept = λ t. refl; refuse = λ place reason. refl; seal = λ t. refl; send = λ o frame bytes. refl }

group-counts : (number n k frame : ℕ) (a : Answer)
    → fold (commit_line n) k (storing_lines number n a ++ told_lines number n frame a) ≡ commits_with k a.edits
group-counts number n k frame a =
    fold-append (commit_line n) k (storing_lines number n a) (told_lines number n frame a)
    ∙ ap (λ z. fold (commit_line n) z (told_lines number n frame a)) (storing-counts number n k a)
    ∙ fold-left (commit_line n) (commits_with k a.edits) (told_lines number n frame a)
    (told-all (λ l. commit_line n (commits_with k a.edits) l ≡ commits_with k a.edits) number n
    (told-counts number n (commits_with k a.edits)) frame a)

-- Whether the node has power

abbrev KeepsPower : ℕ → Bool → Line → Type 0
KeepsPower n u l = power_line n u l ≡ u

told-power : (number n : ℕ) (u : Bool) → OfTold (KeepsPower n u) number n
unfolding speaker
told-power number n u = record {
  accept = λ t. cond-same (nat_eq n n) u;
  refuse = λ place reason. cond-same (nat_eq n n) u;
  seal = λ t. cond-same (nat_eq n n) u;
  send = λ o frame bytes. cond-same (nat_eq Rattle.zb_model.specs.Data.nobody n) u;
}

storing-power : (number n : ℕ) (u : Bool) (a : Answer) → AllByRecursion (KeepsPower n u) (storing_lines number n a)
unfolding speaker
storing-power number n u a = all-append (KeepsPower n u) (map (Changed number n) a.edits)
    (commit_lines number n a.edits)
    (map-all (KeepsPower n u) (Changed number n) (λ e. cond-same (nat_eq n n) u) a.edits)
    (commit-all (KeepsPower n u) number n (cond-same (nat_eq n n) u) a.edits)

group-power : (number n frame : ℕ) (u : Bool) (a : Answer)
    → fold (power_line n) u (storing_lines number n a ++ told_lines number n frame a) ≡ u
group-power number n frame u a =
    fold-left (power_line n) u (storing_lines number n a ++ told_lines number n frame a)
    (all-append (KeepsPower n u) (storing_lines number n a) (told_lines number n frame a) (storing-power number n u a)
    (told-all (KeepsPower n u) number n (told-power number n u) frame a))

-- A fall

fallen-power : (number n : ℕ) (u : Bool) (armed : Armed) (calls : Calls) → falls armed calls ≡ true
    → fold (power_line n) u (fallen_line armed number n) ≡ false
unfolding speaker
fallen-power number n u NotArmed calls p = absurd (false≢true p)
fallen-power number n u (StopAfter k torn) calls p = ap (λ b. cond b false u) (nat_eq-refl n)
fallen-power number n u (FailAt k) calls p = ap (λ b. cond b false u) (nat_eq-refl n)

fallen-state : (number n : ℕ) (s : NodeState) (armed : Armed) → fold (heard_line n) s (fallen_line armed number n) ≡ s
unfolding heard_line speaker after
fallen-state number n s armed = fold-left (heard_line n) s (fallen_line armed number n)
    (fallen-all (λ l. heard_line n s l ≡ s) number n (cond-same (nat_eq n n) s) (cond-same (nat_eq n n) s) armed)

fallen-counts : (number n k : ℕ) (armed : Armed) → fold (commit_line n) k (fallen_line armed number n) ≡ k
fallen-counts number n k armed = fold-left (commit_line n) k (fallen_line armed number n)
    (fallen-all (λ l. commit_line n k l ≡ k) number n refl refl armed)

-- after lines that lead to this state and this count of commits
pub fall-behind : (w : Schedule) (h xs : List Line) (ds : List Disk) (number n : ℕ) (armed : Armed) (calls : Calls)
    (d : DiskState) (s : NodeState) (k : ℕ) → falls armed calls ≡ true → state_of (h ++ xs) n ≡ s
    → commits_of (h ++ xs) n ≡ k
    → condition_of w (h ++ (xs ++ fallen_line armed number n)) (with_disk ds n d) n
    ≡ record { setting = setting_of w n; state = s; commits = k; up = false; disk = d }
fall-behind w h xs ds number n armed calls d s k p e c =
    same-condition (setting_of w n) (state_of (h ++ (xs ++ fallen)) n) s (commits_of (h ++ (xs ++ fallen)) n) k
    (is_up (h ++ (xs ++ fallen)) n) false (disk_of (with_disk ds n d) n) d
    (ap (λ z. state_of z n) (sym (append_assoc h xs fallen)) ∙ state-append (h ++ xs) fallen n ∙ fallen-state number n
    (state_of (h ++ xs) n) armed ∙ e)
    (ap (λ z. commits_of z n) (sym (append_assoc h xs fallen)) ∙ commits-append (h ++ xs) fallen n ∙ fallen-counts
    number n (commits_of (h ++ xs) n) armed ∙ c)
    (ap (λ z. is_up z n) (sym (append_assoc h xs fallen)) ∙ power-append (h ++ xs) fallen n ∙ fallen-power number n
    (is_up (h ++ xs) n) armed calls p)
    (own-disk ds n d)
  where
    fallen : List Line
    fallen = fallen_line armed number n

-- The whole group

group-condition : (w : Schedule) (h : List Line) (ds : List Disk) (number n : ℕ) (a : Answer)
    → condition_of w (h ++ group_of h number n a) ds n ≡ after_whole a (condition_of w h ds n)
unfolding group_of stored_lines
group-condition w h ds number n a =
    same-condition (setting_of w n) (state_of (h ++ ls) n) (answered a (state_of h n)) (commits_of (h ++ ls) n)
    (commits_with (commits_of h n) a.edits) (is_up (h ++ ls) n) (is_up h n) (disk_of ds n) (disk_of ds n)
    (group-state h h number n a)
    (commits-append h ls n ∙ group-counts number n (commits_of h n) (length (air h) + 1) a)
    (power-append h ls n ∙ group-power number n (length (air h) + 1) (is_up h n) a) refl
  where
    ls : List Line
    ls = whole_lines h number n a

cut-condition : (w : Schedule) (h : List Line) (ds : List Disk) (number n : ℕ) (a : Answer) (armed : Armed)
    (calls : Calls) (both b : Bool) → falls armed calls ≡ true
    → condition_of w (h ++ (cond b (storing_lines number n a) [] ++ fallen_line armed number n))
    (with_disk ds n (disk_left both)) n
    ≡ cond b (after_fall both (after_storing a.edits (condition_of w h ds n)))
    (after_fall both (condition_of w h ds n))
unfolding stored_lines
cut-condition w h ds number n a armed calls both true p =
    fall-behind w h (storing_lines number n a) ds number n armed calls (disk_left both)
    (applied_all a.edits (state_of h n)) (commits_with (commits_of h n) a.edits) p (stored-state h number n a)
    (commits-append h (storing_lines number n a) n ∙ storing-counts number n (commits_of h n) a)
cut-condition w h ds number n a armed calls both false p =
    fall-behind w h [] ds number n armed calls (disk_left both) (state_of h n) (commits_of h n) p
    (ap (λ z. state_of z n) (append-nil' h)) (ap (λ z. commits_of z n) (append-nil' h))

-- The step

abbrev whole : List Line → List Disk → ℕ → ℕ → Answer → Step
whole h ds number n a = record { lines = group_of h number n a; disks = ds }

abbrev cut : List Disk → ℕ → ℕ → Answer → Calls → Step
cut ds number n a calls =
    record {
      lines = cut_of (disk_of ds n).armed calls number n a;
      disks = with_disk ds n (disk_left (leaves_both (disk_of ds n).armed calls));
    }

whole-comes : (w : Schedule) (h : List Line) (ds : List Disk) (number n : ℕ) (a : Answer)
    → ComesTo w h n (whole h ds number n a) (whole_lines h number n a) (after_whole a (condition_of w h ds n))
unfolding group_of stored_lines
whole-comes w h ds number n a = record { lines = refl; condition = group-condition w h ds number n a }

-- the result of a fall on these calls
abbrev CutComes : Schedule → List Line → List Disk → ℕ → ℕ → Answer → Step → Calls → Type 0
CutComes w h ds number n a g calls =
    falls (disk_of ds n).armed calls ≡ true
    → ComesTo w h n g
    (cond (stands (disk_of ds n).armed calls) (storing_lines number n a) []
    ++ fallen_line (disk_of ds n).armed number n)
    (cond (stands (disk_of ds n).armed calls)
    (after_fall (leaves_both (disk_of ds n).armed calls) (after_storing a.edits (condition_of w h ds n)))
    (after_fall (leaves_both (disk_of ds n).armed calls) (condition_of w h ds n)))

cut-comes : (w : Schedule) (h : List Line) (ds : List Disk) (number n : ℕ) (a : Answer) (calls : Calls)
    → CutComes w h ds number n a (cut ds number n a calls) calls
unfolding cut_of stored_lines
cut-comes w h ds number n a calls p = record {
  lines = refl;
  condition = cut-condition w h ds number n a (disk_of ds n).armed calls (leaves_both (disk_of ds n).armed calls)
      (stands (disk_of ds n).armed calls) p;
}

step-cut : (w : Schedule) (h : List Line) (ds : List Disk) (number n : ℕ) (a : Answer) (g : Step) → g
    ≡ answer_step h ds number n a → CutComes w h ds number n a g (calls_for h n a.edits)
step-cut w h ds number n a g e p =
    subst (λ (y : Step). CutComes w h ds number n a y (calls_for h n a.edits))
    (sym (e ∙ at-true (falls (disk_of ds n).armed (calls_for h n a.edits))
    (cut ds number n a (calls_for h n a.edits)) (whole h ds number n a) p))
    (cut-comes w h ds number n a (calls_for h n a.edits)) p

pub is-answered : (w : Schedule) (h : List Line) (ds : List Disk) (number n : ℕ) (a : Answer) (g : Step) → g
    ≡ answer_step h ds number n a → IsAnswered w h number n a (condition_of w h ds n) g
is-answered w h ds number n a g e = record {
  whole = λ p. subst (λ (y : Step). ComesTo w h n y (whole_lines h number n a) (after_whole a (condition_of w h ds n)))
      (sym (e ∙ at-false (falls (disk_of ds n).armed (calls_for h n a.edits))
      (cut ds number n a (calls_for h n a.edits)) (whole h ds number n a)
      (subst (λ k. falls (disk_of ds n).armed k ≡ false) (sym (calls-are h n a.edits)) p)))
      (whole-comes w h ds number n a);
  cut = subst (λ k. CutComes w h ds number n a g k) (calls-are h n a.edits) (step-cut w h ds number n a g e);
}

pub whole-disks : (w : Schedule) (h : List Line) (ds : List Disk) (number n : ℕ) (a : Answer)
    → falls_on a (condition_of w h ds n) ≡ false → (answer_step h ds number n a).disks ≡ ds
whole-disks w h ds number n a p =
    ap (λ (y : Step). y.disks)
    (at-false (falls (disk_of ds n).armed (calls_for h n a.edits)) (cut ds number n a (calls_for h n a.edits))
    (whole h ds number n a) (subst (λ k. falls (disk_of ds n).armed k ≡ false) (sym (calls-are h n a.edits)) p))
