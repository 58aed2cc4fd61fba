-- What is claimed of the lines of a hub's run is claimed of its log too: numbers decide nothing, the start lines
-- accept and store nothing, and no claim is on what comes from outside.
use Rattle.std.proofs.Common.{◌≡◌, ℕ, List, [], ◌∷◌, ◌++◌, refl, sym, ap, ◌∙◌, subst, append_assoc}
use Rattle.std.specs.List.{AllByRecursion}
use Rattle.law_sessions.specs.Hubs.{own_part, without_numbers}
use Rattle.law_sessions.specs.Logs.{IsHubOf, hub_log, hub_tasks}
use Rattle.law_sessions.proofs.Claimed.{HasNodes, run_accepts, run_confirms}
use Rattle.law_sessions.proofs.LogRuns.{log_runs, opens_real}
use Rattle.law_run.specs.Commanding.{SpellsConfirm}
use Rattle.law_run.proofs.Basics.{append-nil', flat_map-append}
use Rattle.law_run.proofs.ConfirmsLines.{Calm, Settled}
use Rattle.law_run.proofs.FreshLines.{all-append}
use Rattle.law_run.proofs.OnceLines.{once-lines}
use Rattle.law_run_steps.proofs.Walks.{OfStart, start-all}
use Rattle.zb_live.specs.Living.{Found}
use Rattle.zb_model.specs.Claims.{ConfirmLine, Each, Once, OnceFrom, Rises, StoredVerified}
use Rattle.zb_model.specs.Data.{Bytes, DropLink, Edit, Moved, Row, Term, Verified}
use Rattle.zb_model.specs.Lines.{Line, Accept, Changed, Commit, Inject, Seal}
use Rattle.zb_model.specs.Play.{Schedule, groups, start}
use Rattle.zb_model.specs.Tools.{Tools}
use Rattle.zb_model.specs.Transcript.{run_lines}
use Rattle.zb_model_real.specs.Real.{real}

-- ---- a claim on each line by itself

plain_all : (P : Line → Type 0) → ((l : Line) → P l → AllByRecursion P (own_part l)) → (ls : List Line)
    → AllByRecursion P ls → AllByRecursion P (without_numbers ls)
plain_all P part [] all = tt
plain_all P part (l ∷ ls) all =
    all-append P (own_part l) (without_numbers ls) (part l all.0) (plain_all P part ls all.1)

-- ---- accepted counters

part_rises : (n : ℕ) (t : Term) (l : Line) → Rises n t l → AllByRecursion (Rises n t) (own_part l)
part_rises n t (Inject e frame bytes) is = tt
part_rises n t (Accept e m u) is = (is, tt)
part_rises n t _ is = (tt, tt)

first_rises : (n : ℕ) (t : Term) (l : Line) (rest : List Line) → AllByRecursion (Rises n t) (own_part l ++ rest)
    → Rises n t l × AllByRecursion (Rises n t) rest
first_rises n t (Inject e frame bytes) rest all = (tt, all)
first_rises n t (Accept e m u) rest all = (all.0, all.1)
first_rises n t _ rest all = (tt, all.1)

numbered_rise : (n : ℕ) (t : Term) (ls : List Line) → AllByRecursion (Rises n t) (without_numbers ls)
    → AllByRecursion (Rises n t) ls
numbered_rise n t [] all = tt
numbered_rise n t (l ∷ ls) all =
    let first = first_rises n t l (without_numbers ls) all in (first.0, numbered_rise n t ls first.1)

before_once : (l : Line) (ls rest : List Line)
    → ((n : ℕ) (t : Term) → AllByRecursion (Rises n t) ls → AllByRecursion (Rises n t) rest) → OnceFrom l ls
    → Once rest → Once (own_part l ++ rest)
before_once (Inject e frame bytes) ls rest same from more = more
before_once (Accept e n t) ls rest same from more = (same n t from, more)
before_once _ ls rest same from more = (tt, more)

plain_once : (ls : List Line) → Once ls → Once (without_numbers ls)
plain_once [] once = tt
plain_once (l ∷ ls) once =
    before_once l ls (without_numbers ls) (λ n t all. plain_all (Rises n t) (part_rises n t) ls all) once.0
    (plain_once ls once.1)

first_once : (l : Line) (ls rest : List Line)
    → ((n : ℕ) (t : Term) → AllByRecursion (Rises n t) rest → AllByRecursion (Rises n t) ls)
    → Once (own_part l ++ rest) → OnceFrom l ls × Once rest
first_once (Inject e frame bytes) ls rest same once = (tt, once)
first_once (Accept e n t) ls rest same once = (same n t once.0, once.1)
first_once _ ls rest same once = (tt, once.1)

numbered_once : (ls : List Line) → Once (without_numbers ls) → Once ls
numbered_once [] once = tt
numbered_once (l ∷ ls) once =
    let first = first_once l ls (without_numbers ls) (λ n t all. numbered_rise n t ls all) once in
    (first.0, numbered_once ls first.1)

rest_once : (xs ys : List Line) → Once (xs ++ ys) → Once ys
rest_once [] ys once = once
rest_once (x ∷ xs) ys once = rest_once xs ys once.1

pub log_once : (w : Schedule) (n : ℕ) (found : Found) (sessions : List (List Bytes)) → IsHubOf w n found sessions
    → HasNodes w → Once (hub_log n found sessions)
unfolding run_lines
log_once w n found sessions is nodes =
    numbered_once (hub_log n found sessions)
    (subst Once (sym (log_runs w n found sessions is))
    (plain_once (groups real w (start w) [] 1 w.events)
    (rest_once (start w) (groups real w (start w) [] 1 w.events)
    (once-lines [] (start w ++ groups real w (start w) [] 1 w.events)
    (run_accepts real opens_real w n (hub_tasks found sessions) is.events nodes is.named)))))

-- ---- confirmed keys

rest_of : List Line → List Line
rest_of [] = []
rest_of (l ∷ ls) = ls

first_or : Line → List Line → Line
first_or line [] = line
first_or line (l ∷ ls) = l

-- what is stored after a line that changes nothing is stored without it
stored_after : (c d : ℕ) (b : Bytes) (l : Line) (ls before between later : List Line) (e f : ℕ) → Calm l
    → l ∷ ls ≡ (before ++ Changed e c (Moved (Row d b Verified)) ∷ between) ++ Commit f c ∷ later
    → AllByRecursion (Settled c d b) (between ++ later) → StoredVerified ls c d b
unfolding Calm rest_of first_or
stored_after c d b l ls [] between later e f calm same settled = absurd (subst Calm (ap (first_or l) same) calm)
stored_after c d b l ls (x ∷ before) between later e f calm same settled = record {
  before = before;
  between = between;
  later = later;
  row_event = e;
  commit_event = f;
  shape = ap rest_of same;
  settled = settled;
}

stored_since : (c d : ℕ) (b : Bytes) (xs g : List Line) → AllByRecursion Calm xs → StoredVerified (xs ++ g) c d b
    → StoredVerified g c d b
stored_since c d b [] g calm s = s
stored_since c d b (x ∷ xs) g calm s =
    stored_since c d b xs g calm.1
    (stored_after c d b x (xs ++ g) s.before s.between s.later s.row_event s.commit_event calm.0 s.shape s.settled)

line_since : (tools : Tools) (c : ℕ) (xs g : List Line) (l : Line) → AllByRecursion Calm xs
    → ConfirmLine tools c (xs ++ g) l → ConfirmLine tools c g l
line_since tools c xs g (Seal e n t) calm is = λ d q. ((is d q).0, stored_since c d t.base xs g calm (is d q).1)
line_since tools c xs g _ calm is = tt

each_since : (tools : Tools) (c : ℕ) (xs g ls : List Line) → AllByRecursion Calm xs
    → Each (ConfirmLine tools c) (xs ++ g) ls → Each (ConfirmLine tools c) g ls
each_since tools c xs g [] calm each = tt
each_since tools c xs g (l ∷ ls) calm each = (
  line_since tools c xs g l calm each.0,
  each_since tools c xs (g ++ l ∷ []) ls calm
      (subst (λ h. Each (ConfirmLine tools c) h ls) (append_assoc xs g (l ∷ [])) each.1),
)

each_rest : (P : List Line → Line → Type 0) (h xs ys : List Line) → Each P h (xs ++ ys) → Each P (h ++ xs) ys
each_rest P h [] ys each = subst (λ g. Each P g ys) (sym (append-nil' h)) each
each_rest P h (x ∷ xs) ys each =
    subst (λ g. Each P g ys) (append_assoc h (x ∷ []) xs) (each_rest P (h ++ x ∷ []) xs ys each.1)

changed_settled : (c d e n : ℕ) (b : Bytes) (edit : Edit) → Settled c d b (Changed e n edit)
    → Settled c d b (Changed 0 n edit)
changed_settled c d e n b (Moved (DropLink partner key)) is = is
changed_settled c d e n b (Moved (Row partner key attribute)) is = is
changed_settled c d e n b _ is = is

part_settled : (c d : ℕ) (b : Bytes) (l : Line) → Settled c d b l → AllByRecursion (Settled c d b) (own_part l)
part_settled c d b (Inject e frame bytes) is = tt
part_settled c d b (Changed e n edit) is = (changed_settled c d e n b edit is, tt)
part_settled c d b _ is = (is, tt)

plain_stored : (g : List Line) (c d : ℕ) (b : Bytes) → StoredVerified g c d b
    → StoredVerified (without_numbers g) c d b
plain_stored g c d b s = record {
  before = without_numbers s.before;
  between = without_numbers s.between;
  later = without_numbers s.later;
  row_event = 0;
  commit_event = 0;
  shape = ap without_numbers s.shape
      ∙ flat_map-append own_part (s.before ++ Changed s.row_event c (Moved (Row d b Verified)) ∷ s.between)
      (Commit s.commit_event c ∷ s.later)
      ∙ ap (λ l. l ++ Commit 0 c ∷ without_numbers s.later)
      (flat_map-append own_part s.before (Changed s.row_event c (Moved (Row d b Verified)) ∷ s.between));
  settled = subst (AllByRecursion (Settled c d b)) (flat_map-append own_part s.between s.later)
      (plain_all (Settled c d b) (part_settled c d b) (s.between ++ s.later) s.settled);
}

part_confirms : (tools : Tools) (c : ℕ) (g : List Line) (l : Line) (rest : List Line) → ConfirmLine tools c g l
    → Each (ConfirmLine tools c) (without_numbers g ++ without_numbers (l ∷ [])) rest
    → Each (ConfirmLine tools c) (without_numbers g) (own_part l ++ rest)
part_confirms tools c g (Inject e frame bytes) rest is more =
    subst (λ h. Each (ConfirmLine tools c) h rest) (append-nil' (without_numbers g)) more
part_confirms tools c g (Seal e n t) rest is more =
    ((λ d q. ((is d q).0, plain_stored g c d t.base (is d q).1)), more)
part_confirms tools c g _ rest is more = (tt, more)

plain_confirms : (tools : Tools) (c : ℕ) (g ls : List Line) → Each (ConfirmLine tools c) g ls
    → Each (ConfirmLine tools c) (without_numbers g) (without_numbers ls)
plain_confirms tools c g [] each = tt
plain_confirms tools c g (l ∷ ls) each =
    part_confirms tools c g l (without_numbers ls) each.0
    (subst (λ h. Each (ConfirmLine tools c) h (without_numbers ls)) (flat_map-append own_part g (l ∷ []))
    (plain_confirms tools c (g ++ l ∷ []) ls each.1))

start_calm : OfStart Calm
unfolding Calm
start_calm = record {
  declared = λ p. tt;
  net = λ n key sequence. tt;
  link = λ n partner key. tt;
  counter = λ n layer limit. tt;
}

pub log_confirms : SpellsConfirm real → (w : Schedule) (n : ℕ) (found : Found) (sessions : List (List Bytes))
    → IsHubOf w n found sessions → HasNodes w
    → Each (ConfirmLine real n) [] (without_numbers (hub_log n found sessions))
unfolding run_lines
log_confirms spells w n found sessions is nodes =
    let g = groups real w (start w) [] 1 w.events in
    subst (Each (ConfirmLine real n) []) (sym (log_runs w n found sessions is))
    (plain_confirms real n [] g
    (each_since real n (start w) [] g (start-all Calm start_calm w)
    (subst (λ h. Each (ConfirmLine real n) h g) (sym (append-nil' (start w)))
    (each_rest (ConfirmLine real n) [] (start w) g
    (run_confirms real opens_real spells w n n (hub_tasks found sessions) is.events nodes (λ e. refl))))))
