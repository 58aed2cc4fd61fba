-- The readings and the groups of a list of lines with one more line.
use Rattle.std.proofs.Common.{◌≡◌, ℕ, ◌+◌, ◌≤◌, List, [], ◌∷◌, ◌++◌, Bool, true, false, ◌||◌, length, length-append, append-nil, append_assoc, Option, Some, None, refl, ap, sym, ◌∙◌, arith}
use Rattle.std.specs.List.{list_any, flat_map, AllByRecursion}
use Rattle.std.specs.Option.{option_or}
use Rattle.std.specs.Prelude.{if◌then◌else◌}
use Rattle.std.proofs.lemmas.List.Concat.{flat_map-append}
use Rattle.std.proofs.lemmas.List.Folds.{list_any-append}
use Rattle.std.proofs.lemmas.List.Sums.{fold-append}
use Rattle.zb_base.specs.declared.label.Layer.{Layer}
use Rattle.zb_audit_names.specs.Groups.{event_of, flat, groups, onto, same_event}
use Rattle.zb_model.specs.Data.{Bytes}
use Rattle.zb_audit_counters.specs.Counting.{accepted, accepted_in, first_of, is_counted, uncounted_from, uncounted_in}
use Rattle.zb_audit_counters.specs.Readings.{active, boots, is_key, last, limit_behind, limit_in, sealed_in, since_boot}
use Rattle.zb_audit_counters.specs.Recounting.{last_seal}
use Rattle.zb_trace.specs.declared.line.Line.{Line}
use Rattle.zb_audit_counters.proofs.Puts.{itself_number}

pub or_none : {A : Type 0} (o : Option A) → option_or o None ≡ o
or_none None = refl
or_none (Some x) = refl

pub or_or : {A : Type 0} (a b c : Option A) → option_or (option_or a b) c ≡ option_or a (option_or b c)
or_or None b c = refl
or_or (Some x) b c = refl

-- The last line about a thing

pub last_more : {A : Type 0} (speaks : Line → Option A) (h : List Line) (l : Line) → last speaks (h ++ l ∷ [])
    ≡ option_or (speaks l) (last speaks h)
unfolding last
last_more {A = A} speaks h l = fold-append (λ (found : Option A) (l : Line). option_or (speaks l) found) None h
    (l ∷ [])

pub since_boot_more : (n : Bytes) (h : List Line) (l : Line) → since_boot n (h ++ l ∷ [])
    ≡ (if boots n l then [] else since_boot n h ++ l ∷ [])
unfolding since_boot
since_boot_more n h l = fold-append (λ (run : List Line) (l : Line). if boots n l then [] else run ++ l ∷ []) [] h
    (l ∷ [])

none_sealed : (n : Bytes) (ly : Layer) (key : Option Bytes) (b : Bool) (h : List Line) (l : Line)
    → last (sealed_in n ly key) (if b then [] else h ++ l ∷ [])
    ≡ (if b then None else option_or (sealed_in n ly key l) (last (sealed_in n ly key) h))
unfolding last
none_sealed n ly key true h l = refl
none_sealed n ly key false h l = last_more (sealed_in n ly key) h l

pub last_seal_more : (n : Bytes) (ly : Layer) (key : Option Bytes) (h : List Line) (l : Line)
    → last_seal n ly key (h ++ l ∷ [])
    ≡ (if boots n l then None else option_or (sealed_in n ly key l) (last_seal n ly key h))
unfolding last_seal
last_seal_more n ly key h l = ap (last (sealed_in n ly key)) (since_boot_more n h l) ∙ none_sealed n ly key
    (boots n l) (since_boot n h) l

pub any_more : (test : Line → Bool) (h : List Line) (l : Line) → list_any test (h ++ l ∷ [])
    ≡ (list_any test h || test l)
any_more test h l = list_any-append test h (l ∷ []) ∙ ap (λ (b : Bool). list_any test h || b) (or_false (test l))
  where
    or_false : (b : Bool) → (b || false) ≡ b
    or_false true = refl
    or_false false = refl

pub accepted_more : (h : List Line) (l : Line) (n : Bytes) (ly : Layer) (key : Bytes) (sender : ℕ)
    → accepted (h ++ l ∷ []) n ly key sender ≡ accepted h n ly key sender ++ accepted_in n ly key sender l
unfolding accepted
accepted_more h l n ly key sender =
    flat_map-append (accepted_in n ly key sender) h (l ∷ []) ∙ ap
    (λ (xs : List ℕ). flat_map (accepted_in n ly key sender) h ++ xs) (append-nil (accepted_in n ly key sender l))

-- Groups as one list of lines

pub flat_more : (before : List (List Line)) (front : List Line) → flat (before ++ front ∷ []) ≡ flat before ++ front
flat_more before front = flat_map-append (λ (g : List Line). g) before (front ∷ []) ∙ ap
    (λ (xs : List Line). flat before ++ xs) (append-nil front)

-- The limit of a key, with one group more, and with one line more in the last group

pub limit_more : (h : List Line) (n key : Bytes) (before : List (List Line)) (group : List Line)
    → limit_behind h n key (before ++ group ∷ [])
    ≡ option_or (last (limit_in n key (is_key (active (h ++ flat before) n) key)) group)
    (limit_behind h n key before)
unfolding limit_behind
limit_more h n key [] group =
    ap (λ (x : List Line). last (limit_in n key (is_key (active x n) key)) group) (sym (append-nil h)) ∙ sym
    (or_none (last (limit_in n key (is_key (active (h ++ []) n) key)) group))
limit_more h n key (g ∷ before) group =
    ap (λ (o : Option ℕ). option_or o (last (limit_in n key (is_key (active h n) key)) g))
    (limit_more (h ++ g) n key before group)
    ∙ (or_or (last (limit_in n key (is_key (active ((h ++ g) ++ flat before) n) key)) group)
    (limit_behind (h ++ g) n key before) (last (limit_in n key (is_key (active h n) key)) g)
    ∙ ap (λ (x : List Line). option_or (last (limit_in n key (is_key (active x n) key)) group)
    (option_or (limit_behind (h ++ g) n key before) (last (limit_in n key (is_key (active h n) key)) g)))
    (append_assoc h g (flat before)))

pub limit_now : (n key : Bytes) (before : List (List Line)) (front : List Line) (l : Line)
    → limit_behind [] n key (before ++ (front ++ l ∷ []) ∷ [])
    ≡ option_or (limit_in n key (is_key (active (flat before) n) key) l)
    (limit_behind [] n key (before ++ front ∷ []))
limit_now n key before front l =
    limit_more [] n key before (front ++ l ∷ [])
    ∙ (ap (λ (o : Option ℕ). option_or o (limit_behind [] n key before))
    (last_more (limit_in n key (is_key (active (flat before) n) key)) front l)
    ∙ (or_or (limit_in n key (is_key (active (flat before) n) key) l)
    (last (limit_in n key (is_key (active (flat before) n) key)) front) (limit_behind [] n key before)
    ∙ ap (option_or (limit_in n key (is_key (active (flat before) n) key) l))
    (sym (limit_more [] n key before front))))

-- The limit before a group that has no lines yet.
pub limit_none : (n key : Bytes) (before : List (List Line)) → limit_behind [] n key (before ++ [] ∷ [])
    ≡ limit_behind [] n key before
unfolding last
limit_none n key before = limit_more [] n key before []

-- The numbers of lines that don't add up

pub first_append : (xs ys : List ℕ) → first_of (xs ++ ys) ≡ option_or (first_of xs) (first_of ys)
first_append [] ys = refl
first_append (x ∷ xs) ys = refl

pub uncounted_more : (before : List (List Line)) (group front : List Line) (number : ℕ) (xs : List Line) (l : Line)
    → uncounted_in before group front number (xs ++ l ∷ []) ≡ uncounted_in before group front number xs
    ++ (if is_counted before group (front ++ xs) l then [] else (number + length xs) ∷ [])
unfolding uncounted_in
uncounted_more before group front number [] l =
    append-nil (if is_counted before group front l then [] else number ∷ [])
    ∙ ap (λ (x : List Line). if is_counted before group x l then [] else number ∷ []) (sym (append-nil front))
    ∙ ap (λ (x : ℕ). if is_counted before group (front ++ []) l then [] else x ∷ []) (omega arith)
uncounted_more before group front number (x ∷ xs) l =
    ap (λ (more : List ℕ). (if is_counted before group front x then [] else number ∷ []) ++ more)
    (uncounted_more before group (front ++ x ∷ []) (number + 1) xs l
    ∙ (ap (λ (f : List Line). uncounted_in before group (front ++ x ∷ []) (number + 1) xs
    ++ (if is_counted before group f l then [] else (number + 1 + length xs) ∷ []))
    (append_assoc front (x ∷ []) xs)
    ∙ ap (λ (m : ℕ). uncounted_in before group (front ++ x ∷ []) (number + 1) xs
    ++ (if is_counted before group (front ++ x ∷ xs) l then [] else m ∷ [])) (omega arith)))
    ∙ sym (append_assoc (if is_counted before group front x then [] else number ∷ [])
    (uncounted_in before group (front ++ x ∷ []) (number + 1) xs) (if is_counted before group (front ++ x ∷ xs) l
    then [] else (number + length (x ∷ xs)) ∷ []))

pub uncounted_behind : (before : List (List Line)) (number : ℕ) (gs more : List (List Line))
    → uncounted_from before number (gs ++ more) ≡ uncounted_from before number gs
    ++ uncounted_from (before ++ gs) (number + length (flat gs)) more
unfolding uncounted_from
uncounted_behind before number [] more =
    ap (λ (b : List (List Line)). uncounted_from b number more) (sym (append-nil before)) ∙ ap
    (λ (m : ℕ). uncounted_from (before ++ []) m more) (omega arith)
uncounted_behind before number (g ∷ gs) more =
    ap (λ (xs : List ℕ). uncounted_in before g [] number g ++ xs)
    (uncounted_behind (before ++ g ∷ []) (number + length g) gs more
    ∙ (ap (λ (b : List (List Line)). uncounted_from (before ++ g ∷ []) (number + length g) gs
    ++ uncounted_from b (number + length g + length (flat gs)) more) (append_assoc before (g ∷ []) gs)
    ∙ ap (λ (m : ℕ). uncounted_from (before ++ g ∷ []) (number + length g) gs
    ++ uncounted_from (before ++ g ∷ gs) m more) (lengths number g gs)))
    ∙ sym (append_assoc (uncounted_in before g [] number g) (uncounted_from (before ++ g ∷ []) (number + length g) gs)
    (uncounted_from (before ++ g ∷ gs) (number + length (flat (g ∷ gs))) more))
  where
    lengths : (number : ℕ) (g : List Line) (gs : List (List Line)) → number + length g + length (flat gs)
        ≡ number + length (g ++ flat gs)
    lengths number g gs = let it = length-append g (flat gs) in omega arith

-- Runs of lines of one event

same_events : (e : ℕ) → same_event (Some e) (Some e) ≡ true
same_events e = itself_number e

begins : (l : Line) (gs : List (List Line)) → (run : List Line) × (runs : List (List Line))
    × (onto l gs ≡ (l ∷ run) ∷ runs)
begins l [] = ([], [], refl)
begins l ([] ∷ gs) = ([], [] ∷ gs, refl)
begins l ((m ∷ run) ∷ gs) = chosen (same_event (event_of l) (event_of m))
  where
    chosen : (b : Bool) → (r : List Line) × (rs : List (List Line))
        × ((if b then (l ∷ m ∷ run) ∷ gs else (l ∷ []) ∷ (m ∷ run) ∷ gs) ≡ (l ∷ r) ∷ rs)
    chosen true = (m ∷ run, gs, refl)
    chosen false = ([], (m ∷ run) ∷ gs, refl)

apart_onto : (m l : Line) (rest : List Line) → same_event (event_of m) (event_of l) ≡ false → groups (m ∷ l ∷ rest)
    ≡ (m ∷ []) ∷ groups (l ∷ rest)
unfolding groups
apart_onto m l rest apart =
    let it = begins l (groups rest) in
    ap (onto m) it.2 ∙
    (ap (λ (b : Bool). if b then (m ∷ l ∷ it.0) ∷ it.1 else (m ∷ []) ∷ (l ∷ it.0) ∷ it.1) apart ∙ ap
    (λ (gs : List (List Line)). (m ∷ []) ∷ gs) (sym it.2))

joined_onto : (m l : Line) (run : List Line) (runs : List (List Line)) (e : ℕ) → event_of m ≡ Some e → event_of l
    ≡ Some e → onto m ((l ∷ run) ∷ runs) ≡ (m ∷ l ∷ run) ∷ runs
joined_onto m l run runs e em el =
    ap (λ (o : Option ℕ). if same_event o (event_of l) then (m ∷ l ∷ run) ∷ runs else (m ∷ []) ∷ (l ∷ run) ∷ runs) em
    ∙ (ap (λ (o : Option ℕ). if same_event (Some e) o then (m ∷ l ∷ run) ∷ runs else (m ∷ []) ∷ (l ∷ run) ∷ runs) el
    ∙ ap (λ (b : Bool). if b then (m ∷ l ∷ run) ∷ runs else (m ∷ []) ∷ (l ∷ run) ∷ runs) (same_events e))

too_long : (m l : Line) (ms : List Line) → length (m ∷ l ∷ ms) ≤ 1 → ⊥
too_long m l ms h = absurd (omega arith)

event_known : (event : Option ℕ) (m l : Line) (ms : List Line) → (event ≡ None → length (m ∷ l ∷ ms) ≤ 1) → (e : ℕ)
    × (event ≡ Some e)
event_known None m l ms alone = absurd (too_long m l ms (alone refl))
event_known (Some e) m l ms alone = (e, refl)

-- If a line of another event follows a run, the run is a group.
pub ended : (event : Option ℕ) (m : Line) (ms : List Line) (l : Line) (rest : List Line)
    → AllByRecursion (λ (x : Line). event_of x ≡ event) (m ∷ ms) → (event ≡ None → length (m ∷ ms) ≤ 1)
    → same_event event (event_of l) ≡ false → groups ((m ∷ ms) ++ l ∷ rest) ≡ (m ∷ ms) ∷ groups (l ∷ rest)
unfolding groups
ended event m [] l rest alike alone apart =
    apart_onto m l rest (ap (λ (o : Option ℕ). same_event o (event_of l)) alike.0 ∙ apart)
ended event m (x ∷ ms) l rest alike alone apart =
    let known = event_known event m x ms alone in
    ap (onto m) (ended event x ms l rest alike.1 (λ none. absurd (nothing known.0 (sym known.1 ∙ none))) apart)
    ∙ joined_onto m x ms (groups (l ∷ rest)) known.0 (alike.0 ∙ known.1) (alike.1.0 ∙ known.1)
  where
    nothing : (e : ℕ) → Some e ≡ None → ⊥
    nothing e h = cc

pub whole : (event : Option ℕ) (m : Line) (ms : List Line) → AllByRecursion (λ (x : Line). event_of x ≡ event)
    (m ∷ ms) → (event ≡ None → length (m ∷ ms) ≤ 1) → groups (m ∷ ms) ≡ (m ∷ ms) ∷ []
unfolding groups
whole event m [] alike alone = refl
whole event m (x ∷ ms) alike alone =
    let known = event_known event m x ms alone in
    ap (onto m) (whole event x ms alike.1 (λ none. absurd (nothing known.0 (sym known.1 ∙ none)))) ∙ joined_onto m x
    ms [] known.0 (alike.0 ∙ known.1) (alike.1.0 ∙ known.1)
  where
    nothing : (e : ℕ) → Some e ≡ None → ⊥
    nothing e h = cc
