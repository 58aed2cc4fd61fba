-- The lines before the group of one more line.
use Rattle.std.proofs.Common.{◌≡◌, ℕ, List, [], ◌∷◌, ◌++◌, Bool, true, false, Option, None, refl, ap, sym, ◌∙◌}
use Rattle.std.specs.Prelude.{if◌then◌else◌}
use Rattle.std.proofs.lemmas.List.Sums.{fold-append}
use Rattle.zb_audit_names.specs.Groups.{event_of, flat, groups, onto, same_event}
use Rattle.zb_audit_lockout.specs.Before.{all_but_last, before_group}
use Rattle.zb_audit_lockout.specs.Standing.{last_event}
use Rattle.zb_trace.specs.declared.line.Line.{Line}

-- A line after groups: it joins the last of them, or is a group of its own.
abbrev joined : Bool → List (List Line) → Line → List (List Line)
joined b [] l = (l ∷ []) ∷ []
joined b (g ∷ []) l = if b then (g ++ l ∷ []) ∷ [] else g ∷ (l ∷ []) ∷ []
joined b (g ∷ k ∷ gs) l = g ∷ joined b (k ∷ gs) l

abbrev put : Bool → Line → Line → List Line → List (List Line) → List (List Line)
put true m x run runs = (m ∷ x ∷ run) ∷ runs
put false m x run runs = (m ∷ []) ∷ (x ∷ run) ∷ runs

onto_run : (m x : Line) (run : List Line) (runs : List (List Line)) → onto m ((x ∷ run) ∷ runs)
    ≡ put (same_event (event_of m) (event_of x)) m x run runs
onto_run m x run runs = by (same_event (event_of m) (event_of x))
  where
    by : (e : Bool) → (if e then (m ∷ x ∷ run) ∷ runs else (m ∷ []) ∷ (x ∷ run) ∷ runs) ≡ put e m x run runs
    by true = refl
    by false = refl

abbrev run_joined : Bool → Line → Line → List Line → List (List Line) → List (List Line)
run_joined true l x run [] = (x ∷ (run ++ l ∷ [])) ∷ []
run_joined false l x run [] = (x ∷ run) ∷ (l ∷ []) ∷ []
run_joined b l x run (k ∷ gs) = (x ∷ run) ∷ joined b (k ∷ gs) l

joined_run : (b : Bool) (l x : Line) (run : List Line) (runs : List (List Line)) → joined b ((x ∷ run) ∷ runs) l
    ≡ run_joined b l x run runs
joined_run true l x run [] = refl
joined_run false l x run [] = refl
joined_run true l x run (k ∷ gs) = refl
joined_run false l x run (k ∷ gs) = refl

put_joined : (e b : Bool) (m l x : Line) (run : List Line) (runs : List (List Line))
    → same_event (event_of m) (event_of x) ≡ e
    → onto m (run_joined b l x run runs) ≡ joined b (put e m x run runs) l
put_joined true true m l x run [] is =
    onto_run m x (run ++ l ∷ []) [] ∙ ap (λ (e : Bool). put e m x (run ++ l ∷ []) []) is
put_joined false true m l x run [] is =
    onto_run m x (run ++ l ∷ []) [] ∙ ap (λ (e : Bool). put e m x (run ++ l ∷ []) []) is
put_joined true false m l x run [] is =
    onto_run m x run ((l ∷ []) ∷ []) ∙ ap (λ (e : Bool). put e m x run ((l ∷ []) ∷ [])) is
put_joined false false m l x run [] is =
    onto_run m x run ((l ∷ []) ∷ []) ∙ ap (λ (e : Bool). put e m x run ((l ∷ []) ∷ [])) is
put_joined true true m l x run (k ∷ gs) is = onto_run m x run (joined true (k ∷ gs) l) ∙ ap
    (λ (e : Bool). put e m x run (joined true (k ∷ gs) l)) is
put_joined true false m l x run (k ∷ gs) is = onto_run m x run (joined false (k ∷ gs) l) ∙ ap
    (λ (e : Bool). put e m x run (joined false (k ∷ gs) l)) is
put_joined false true m l x run (k ∷ gs) is = onto_run m x run (joined true (k ∷ gs) l) ∙ ap
    (λ (e : Bool). put e m x run (joined true (k ∷ gs) l)) is
put_joined false false m l x run (k ∷ gs) is = onto_run m x run (joined false (k ∷ gs) l) ∙ ap
    (λ (e : Bool). put e m x run (joined false (k ∷ gs) l)) is

onto_joined : (b : Bool) (m l x : Line) (run : List Line) (runs : List (List Line))
    → onto m (joined b ((x ∷ run) ∷ runs) l) ≡ joined b (onto m ((x ∷ run) ∷ runs)) l
onto_joined b m l x run runs =
    ap (onto m) (joined_run b l x run runs)
    ∙ (put_joined (same_event (event_of m) (event_of x)) b m l x run runs refl
    ∙ ap (λ (gs : List (List Line)). joined b gs l) (sym (onto_run m x run runs)))

-- The same, after a line that was put before groups.
onto_put : (e b : Bool) (m l x y : Line) (run : List Line) (runs : List (List Line))
    → onto m (joined b (put e x y run runs) l) ≡ joined b (onto m (put e x y run runs)) l
onto_put true b m l x y run runs = onto_joined b m l x (y ∷ run) runs
onto_put false b m l x y run runs = onto_joined b m l x [] ((y ∷ run) ∷ runs)

onto_onto : (b : Bool) (m l x : Line) (gs : List (List Line)) → onto m (joined b (onto x gs) l)
    ≡ joined b (onto m (onto x gs)) l
onto_onto b m l x [] = onto_joined b m l x [] []
onto_onto b m l x ([] ∷ runs) = onto_joined b m l x [] ([] ∷ runs)
onto_onto b m l x ((y ∷ run) ∷ runs) =
    ap (λ (gs : List (List Line)). onto m (joined b gs l)) (onto_run x y run runs)
    ∙ (onto_put (same_event (event_of x) (event_of y)) b m l x y run runs
    ∙ ap (λ (gs : List (List Line)). joined b (onto m gs) l) (sym (onto_run x y run runs)))

groups_more : (h : List Line) (l : Line) → groups (h ++ l ∷ []) ≡ joined (same_event (last_event h) (event_of l))
    (groups h) l
unfolding groups
groups_more [] l = refl
groups_more (m ∷ []) l = by (same_event (event_of m) (event_of l))
  where
    by : (b : Bool) → (if b then (m ∷ l ∷ []) ∷ [] else (m ∷ []) ∷ (l ∷ []) ∷ [])
        ≡ (if b then ((m ∷ []) ++ l ∷ []) ∷ [] else (m ∷ []) ∷ (l ∷ []) ∷ [])
    by true = refl
    by false = refl
groups_more (m ∷ x ∷ h) l =
    ap (onto m) (groups_more (x ∷ h) l) ∙ onto_onto (same_event (last_event (x ∷ h)) (event_of l)) m l x (groups h)

-- What comes before the last group

flat_onto : (l : Line) (gs : List (List Line)) → flat (onto l gs) ≡ l ∷ flat gs
flat_onto l [] = refl
flat_onto l ([] ∷ runs) = refl
flat_onto l ((x ∷ run) ∷ runs) = ap flat (onto_run l x run runs) ∙ by (same_event (event_of l) (event_of x))
  where
    by : (e : Bool) → flat (put e l x run runs) ≡ l ∷ flat ((x ∷ run) ∷ runs)
    by true = refl
    by false = refl

flat_groups : (h : List Line) → flat (groups h) ≡ h
unfolding groups
flat_groups [] = refl
flat_groups (l ∷ h) = flat_onto l (groups h) ∙ ap (λ (g : List Line). l ∷ g) (flat_groups h)

all_keep : (b : Bool) (g k : List Line) (gs : List (List Line)) (l : Line) → all_but_last (g ∷ joined b (k ∷ gs) l)
    ≡ g ∷ all_but_last (joined b (k ∷ gs) l)
all_keep true g k [] l = refl
all_keep false g k [] l = refl
all_keep true g k (j ∷ gs) l = refl
all_keep false g k (j ∷ gs) l = refl

before_joined : (b : Bool) (gs : List (List Line)) (l : Line) → flat (all_but_last (joined b gs l))
    ≡ (if b then flat (all_but_last gs) else flat gs)
before_joined true [] l = refl
before_joined false [] l = refl
before_joined true (g ∷ []) l = refl
before_joined false (g ∷ []) l = refl
before_joined true (g ∷ k ∷ gs) l = ap flat (all_keep true g k gs l) ∙ ap (λ (ls : List Line). g ++ ls)
    (before_joined true (k ∷ gs) l)
before_joined false (g ∷ k ∷ gs) l = ap flat (all_keep false g k gs l) ∙ ap (λ (ls : List Line). g ++ ls)
    (before_joined false (k ∷ gs) l)

pub before_more : (h : List Line) (l : Line) → before_group (h ++ l ∷ [])
    ≡ (if same_event (last_event h) (event_of l) then before_group h else h)
unfolding before_group
before_more h l =
    ap (λ (gs : List (List Line)). flat (all_but_last gs)) (groups_more h l)
    ∙ (before_joined (same_event (last_event h) (event_of l)) (groups h) l
    ∙ ap (λ (ls : List Line). if same_event (last_event h) (event_of l) then flat (all_but_last (groups h)) else ls)
    (flat_groups h))

pub last_more : (h : List Line) (l : Line) → last_event (h ++ l ∷ []) ≡ event_of l
last_more h l = fold-append (λ (was : Option ℕ) (m : Line). event_of m) None h (l ∷ [])

pub before_nothing : before_group [] ≡ []
unfolding before_group groups
before_nothing = refl
