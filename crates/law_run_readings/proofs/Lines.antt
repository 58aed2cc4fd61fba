-- What lines say of a node, line by line and group by group.
use Rattle.std.proofs.Common.{◌≡◌, ℕ, ◌+◌, Bool, true, false, cond, List, [], ◌∷◌, ◌++◌, map, fold, Option, Some, None, nat_eq, flat_map, refl, sym, ap, ◌∙◌, subst, append_assoc, unwrap_or}
use Rattle.std.specs.List.{AllByRecursion}
use Rattle.std.specs.Option.{option_or}
use Rattle.std.proofs.lemmas.List.Sums.{fold-append}
use Rattle.zb_model.specs.Data.{Bytes, Layer, Nwk, Aps, Edit}
use Rattle.zb_model.specs.Lines.{Line, Declared, GivenNet, GivenLink, Counter, Changed, Commit, Accept, Refuse, Seal, Forge, Send, Inject, Stopped, DownReset, DownDisk, Boot, Dump, End}
use Rattle.zb_model.specs.State.{NodeState, is_active_key, applied}
use Rattle.zb_model.specs.Readings.{speaker, after, heard_line, state_of}
use Rattle.zb_model.specs.Claims.{Each}
use Rattle.law_run.proofs.Basics.{append-nil', state-snoc, flat_map-append}
use Rattle.law_run.proofs.Counters.{LineFits, StateFits}
use Rattle.law_run.proofs.Groups.{changed-line}
use Rattle.law_run_readings.specs.LastLines.{said_by, last_said, given_in, active_in, active, counter_in, reserve_in, limit_in, limit_from, flat, sealed_in, sealed_since, floor_in}
use Rattle.law_run_readings.proofs.SaidRows.{RowIs}
use Rattle.law_run_readings.proofs.Telling.{TellsLine, tells_more}
use Rattle.law_run_readings.proofs.ToldEdits.{TellAll}
use Rattle.law_run_readings.proofs.Rows.{row_at}
use Rattle.law_run_readings.proofs.Steps.{Said, Recalls, with_line, FitsEdit, FitsLine, line_says}
use Rattle.law_run_readings.proofs.Edits.{FitEdits}

-- ---- what is said, of values that are the same

pub record Alike (x y : Said) : Type 0 where
  pub lim : (key : Bytes) → x.lim key ≡ y.lim key
  pub sealed : (key : Bytes) → x.sealed key ≡ y.sealed key
  pub aps : x.aps ≡ y.aps
  pub given : x.given ≡ y.given
  pub active : x.active ≡ y.active
  pub counter : (layer : Layer) → x.counter layer ≡ y.counter layer
  pub reserve : x.reserve ≡ y.reserve
  pub floor : (layer : Layer) (key : Bytes) (sender : ℕ) → x.floor layer key sender ≡ y.floor layer key sender

pub alike_recalls : (x y : Said) (s : NodeState) → Alike x y → Recalls x s → Recalls y s
alike_recalls x y s a is = record {
  declared = is.declared ∙ ap (λ o. unwrap_or o 0) (a.counter Nwk);
  active = is.active ∙ ap (λ o. option_or o x.given) a.active ∙ ap (λ o. option_or y.active o) a.given;
  rows = λ key. subst (λ o. RowIs o (y.sealed key) s.declared (row_at key s.nets)) (a.lim key)
      (subst (λ o. RowIs (x.lim key) o s.declared (row_at key s.nets)) (a.sealed key) (is.rows key));
  aps_limit = is.aps_limit ∙ ap (λ o. unwrap_or o (unwrap_or (x.counter Aps) 0)) a.reserve ∙ ap
      (λ o. unwrap_or y.reserve (unwrap_or o 0)) (a.counter Aps);
  aps_next = λ v e. is.aps_next v (a.aps ∙ e);
  net_floors = λ key sender. is.net_floors key sender ∙ ap (λ o. unwrap_or o 0) (a.floor Nwk key sender);
  link_floors = λ key sender. is.link_floors key sender ∙ ap (λ o. unwrap_or o 0) (a.floor Aps key sender);
}

-- ---- one more line

pub last_snoc : {A : Type 0} (n : ℕ) (f : Line → Option A) (h : List Line) (l : Line) → last_said n f (h ++ l ∷ [])
    ≡ option_or (said_by n f l) (last_said n f h)
unfolding last_said
last_snoc n f h l = fold-append (λ found x. option_or (said_by n f x) found) None h (l ∷ [])

pub sealed_snoc : (n : ℕ) (layer : Layer) (key : Bytes) (h : List Line) (l : Line)
    → sealed_since n layer key (h ++ l ∷ [])
    ≡ cond (nat_eq (speaker l) n) (sealed_in layer key (sealed_since n layer key h) l) (sealed_since n layer key h)
unfolding sealed_since
sealed_snoc n layer key h l = fold-append (λ found x. cond (nat_eq (speaker x) n) (sealed_in layer key found x) found)
    None h (l ∷ [])

abbrev pub was_active : List (List Line) → ℕ → Bytes → Bool
was_active before n key = is_active_key (active (flat before) n) key

-- what is said after whole groups and the prefix of a further one
abbrev pub said_of : List (List Line) → List Line → ℕ → Said
said_of before front n = let h = flat before ++ front in record {
  lim = λ key. option_or (last_said n (limit_in key (was_active before n key)) front) (limit_from n key [] before);
  sealed = λ key. sealed_since n Nwk key h;
  aps = sealed_since n Aps [] h;
  given = last_said n given_in h;
  active = last_said n active_in h;
  counter = λ layer. last_said n (counter_in layer) h;
  reserve = last_said n (reserve_in Aps) h;
  floor = λ layer key sender. last_said n (floor_in layer key sender) h;
}

abbrev pub RecallsAt : List (List Line) → List Line → ℕ → Type 0
RecallsAt before front n = Recalls (said_of before front n) (state_of (flat before ++ front) n)

or_assoc : {A : Type 0} (a b c : Option A) → option_or a (option_or b c) ≡ option_or (option_or a b) c
or_assoc None b c = refl
or_assoc (Some x) b c = refl

own_said : {A : Type 0} (n : ℕ) (f : Line → Option A) (h front : List Line) (l : Line) → nat_eq (speaker l) n ≡ true
    → option_or (f l) (last_said n f (h ++ front)) ≡ last_said n f (h ++ (front ++ l ∷ []))
own_said n f h front l e = ap (λ b. option_or (cond b (f l) None) (last_said n f (h ++ front))) (sym e) ∙ sym
    (last_snoc n f (h ++ front) l) ∙ ap (last_said n f) (append_assoc h front (l ∷ []))

other_said : {A : Type 0} (n : ℕ) (f : Line → Option A) (h front : List Line) (l : Line) → nat_eq (speaker l) n
    ≡ false → last_said n f (h ++ front) ≡ last_said n f (h ++ (front ++ l ∷ []))
other_said n f h front l e = ap (λ b. option_or (cond b (f l) None) (last_said n f (h ++ front))) (sym e) ∙ sym
    (last_snoc n f (h ++ front) l) ∙ ap (last_said n f) (append_assoc h front (l ∷ []))

own_sealed : (n : ℕ) (layer : Layer) (key : Bytes) (h front : List Line) (l : Line) (b : Bool) → nat_eq (speaker l) n
    ≡ b
    → cond b (sealed_in layer key (sealed_since n layer key (h ++ front)) l) (sealed_since n layer key (h ++ front))
    ≡ sealed_since n layer key (h ++ (front ++ l ∷ []))
own_sealed n layer key h front l b e =
    ap (λ c. cond c (sealed_in layer key (sealed_since n layer key (h ++ front)) l)
    (sealed_since n layer key (h ++ front))) (sym e)
    ∙ sym (sealed_snoc n layer key (h ++ front) l) ∙ ap (sealed_since n layer key) (append_assoc h front (l ∷ []))

pub own_alike : (before : List (List Line)) (front : List Line) (l : Line) (n : ℕ) → nat_eq (speaker l) n ≡ true
    → Alike (with_line (was_active before n) l (said_of before front n)) (said_of before (front ++ l ∷ []) n)
own_alike before front l n e = record {
  lim = λ key.
      or_assoc (limit_in key (was_active before n key) l) (last_said n (limit_in key (was_active before n key)) front)
      (limit_from n key [] before)
      ∙ ap (λ o. option_or o (limit_from n key [] before))
      (own_said n (limit_in key (was_active before n key)) [] front l e);
  sealed = λ key. own_sealed n Nwk key (flat before) front l true e;
  aps = own_sealed n Aps [] (flat before) front l true e;
  given = own_said n given_in (flat before) front l e;
  active = own_said n active_in (flat before) front l e;
  counter = λ layer. own_said n (counter_in layer) (flat before) front l e;
  reserve = own_said n (reserve_in Aps) (flat before) front l e;
  floor = λ layer key sender. own_said n (floor_in layer key sender) (flat before) front l e;
}

other_alike : (before : List (List Line)) (front : List Line) (l : Line) (n : ℕ) → nat_eq (speaker l) n ≡ false
    → Alike (said_of before front n) (said_of before (front ++ l ∷ []) n)
other_alike before front l n e = record {
  lim = λ key. ap (λ o. option_or o (limit_from n key [] before))
      (other_said n (limit_in key (was_active before n key)) [] front l e);
  sealed = λ key. own_sealed n Nwk key (flat before) front l false e;
  aps = own_sealed n Aps [] (flat before) front l false e;
  given = other_said n given_in (flat before) front l e;
  active = other_said n active_in (flat before) front l e;
  counter = λ layer. other_said n (counter_in layer) (flat before) front l e;
  reserve = other_said n (reserve_in Aps) (flat before) front l e;
  floor = λ layer key sender. other_said n (floor_in layer key sender) (flat before) front l e;
}

pub heard_as : (n : ℕ) (h front : List Line) (l : Line) (b : Bool) → nat_eq (speaker l) n ≡ b
    → cond b (after l (state_of (h ++ front) n)) (state_of (h ++ front) n) ≡ state_of (h ++ (front ++ l ∷ [])) n
unfolding heard_line
heard_as n h front l b e =
    ap (λ c. cond c (after l (state_of (h ++ front) n)) (state_of (h ++ front) n)) (sym e) ∙ sym
    (state-snoc (h ++ front) l n) ∙ ap (λ x. state_of x n) (append_assoc h front (l ∷ []))

line_more : (before : List (List Line)) (front : List Line) (l : Line) (n : ℕ)
    → (nat_eq (speaker l) n ≡ true → FitsLine (was_active before n) l (state_of (flat before ++ front) n))
    → RecallsAt before front n → RecallsAt before (front ++ l ∷ []) n
line_more before front l n fits is = by_speaker (nat_eq (speaker l) n) refl
  where
    x : Said
    x = said_of before front n

    y : Said
    y = said_of before (front ++ l ∷ []) n

    s : NodeState
    s = state_of (flat before ++ front) n

    by_speaker : (b : Bool) → nat_eq (speaker l) n ≡ b → RecallsAt before (front ++ l ∷ []) n
    by_speaker true e =
        subst (Recalls y) (heard_as n (flat before) front l true e)
        (alike_recalls (with_line (was_active before n) l x) y (after l s) (own_alike before front l n e)
        (line_says (was_active before n) l x s (fits e) is))
    by_speaker false e = subst (Recalls y) (heard_as n (flat before) front l false e)
        (alike_recalls x y s (other_alike before front l n e) is)

-- ---- the lines of a group

-- what the changes among lines ask
abbrev pub FitsChange : (Bytes → Bool) → Line → NodeState → Type 0
FitsChange was (Declared p) s = ⊥
FitsChange was (GivenNet n k q) s = ⊥
FitsChange was (GivenLink n p k) s = ⊥
FitsChange was (Counter n layer v) s = ⊥
FitsChange was (Changed e n edit) s = FitsEdit was edit s
FitsChange was _ s = Unit {0}

both_fit : (was : Bytes → Bool) (l : Line) (s : NodeState) → FitsChange was l s → StateFits l s → FitsLine was l s
both_fit was (Declared p) s c f = c
both_fit was (GivenNet n k q) s c f = c
both_fit was (GivenLink n p k) s c f = c
both_fit was (Counter n layer v) s c f = c
both_fit was (Changed e n edit) s c f = c
both_fit was (Seal e n t) s c f = f.fits
both_fit was (Commit e n) s c f = tt
both_fit was (Accept e n t) s c f = tt
both_fit was (Refuse e n place reason) s c f = tt
both_fit was (Forge e t) s c f = tt
both_fit was (Send e n frame bytes) s c f = tt
both_fit was (Inject e frame bytes) s c f = tt
both_fit was (Stopped e n) s c f = tt
both_fit was (DownReset e n) s c f = tt
both_fit was (DownDisk e n) s c f = tt
both_fit was (Boot e n) s c f = tt
both_fit was (Dump e n bytes) s c f = tt
both_fit was (End events seals accepts refusals ideal private) s c f = tt

abbrev pub FitsChanges : List (List Line) → ℕ → List Line → List Line → Type 0
FitsChanges before n front [] = Unit {0}
FitsChanges before n front (l ∷ ls) =
    (nat_eq (speaker l) n ≡ true → FitsChange (was_active before n) l (state_of (flat before ++ front) n)
    × TellsLine l (state_of (flat before ++ front) n) ls)
    × FitsChanges before n (front ++ l ∷ []) ls

own_fits : (h front : List Line) (l : Line) (n : ℕ) → nat_eq (speaker l) n ≡ true → LineFits (h ++ front) l
    → StateFits l (state_of (h ++ front) n)
own_fits h front l n e f = subst (λ m. StateFits l (state_of (h ++ front) m))
    (Rattle.std.proofs.Common.eqb-true (speaker l) n e) f

pub lines_more : (before : List (List Line)) (front ls : List Line) (n : ℕ) → FitsChanges before n front ls
    → Each LineFits (flat before ++ front) ls → RecallsAt before front n → RecallsAt before (front ++ ls) n
lines_more before front [] n changes fits is = subst (λ x. RecallsAt before x n) (sym (append-nil' front)) is
lines_more before front (l ∷ ls) n changes fits is =
    subst (λ x. RecallsAt before x n) (append_assoc front (l ∷ []) ls)
    (lines_more before (front ++ l ∷ []) ls n changes.1
    (subst (λ x. Each LineFits x ls) (append_assoc (flat before) front (l ∷ [])) fits.1)
    (line_more before front l n
    (λ e. both_fit (was_active before n) l (state_of (flat before ++ front) n) (changes.0 e).0
    (own_fits (flat before) front l n e fits.0)) is))

-- ---- the next group

or_none : {A : Type 0} (o : Option A) → o ≡ option_or o None
or_none None = refl
or_none (Some x) = refl

pub limit_snoc : (n : ℕ) (key : Bytes) (h : List Line) (gs : List (List Line)) (g : List Line)
    → limit_from n key h (gs ++ g ∷ [])
    ≡ option_or (last_said n (limit_in key (is_active_key (active (h ++ flat gs) n) key)) g)
    (limit_from n key h gs)
unfolding limit_from
limit_snoc n key h [] g = ap (λ x. last_said n (limit_in key (is_active_key (active x n) key)) g)
    (sym (append-nil' h)) ∙ or_none (last_said n (limit_in key (is_active_key (active (h ++ []) n) key)) g)
limit_snoc n key h (k ∷ gs) g =
    let first = last_said n (limit_in key (is_active_key (active h n) key)) k in
    let rest = limit_from n key (h ++ k) gs in
    ap (λ o. option_or o first)
    (limit_snoc n key (h ++ k) gs g ∙ ap
    (λ x. option_or (last_said n (limit_in key (is_active_key (active x n) key)) g) rest)
    (append_assoc h k (flat gs)))
    ∙ sym (or_assoc (last_said n (limit_in key (is_active_key (active (h ++ (k ++ flat gs)) n) key)) g) rest first)

pub flat_snoc : (gs : List (List Line)) (g : List Line) → flat (gs ++ g ∷ []) ≡ flat gs ++ g
flat_snoc gs g = flat_map-append (λ (x : List Line). x) gs (g ∷ []) ∙ ap (λ x. flat gs ++ x) (append-nil' g)

whole_is : (gs : List (List Line)) (g : List Line) → flat (gs ++ g ∷ []) ++ [] ≡ flat gs ++ g
whole_is gs g = append-nil' (flat (gs ++ g ∷ [])) ∙ flat_snoc gs g

none_last : {A : Type 0} (n : ℕ) (f : Line → Option A) → last_said n f [] ≡ None
unfolding last_said
none_last n f = refl

pub group_more : (before : List (List Line)) (g : List Line) (n : ℕ) → RecallsAt before g n
    → RecallsAt (before ++ g ∷ []) [] n
group_more before g n is =
    subst (Recalls (said_of (before ++ g ∷ []) [] n)) (ap (λ x. state_of x n) (sym (whole_is before g)))
    (alike_recalls (said_of before g n) (said_of (before ++ g ∷ []) [] n) (state_of (flat before ++ g) n) (record {
      lim = λ key.
          sym (limit_snoc n key [] before g)
          ∙ ap (λ o. option_or o (limit_from n key [] (before ++ g ∷ [])))
          (sym (none_last n (limit_in key (was_active (before ++ g ∷ []) n key))));
      sealed = λ key. ap (sealed_since n Nwk key) (sym (whole_is before g));
      aps = ap (sealed_since n Aps []) (sym (whole_is before g));
      given = ap (last_said n given_in) (sym (whole_is before g));
      active = ap (last_said n active_in) (sym (whole_is before g));
      counter = λ layer. ap (last_said n (counter_in layer)) (sym (whole_is before g));
      reserve = ap (last_said n (reserve_in Aps)) (sym (whole_is before g));
      floor = λ layer key sender. ap (last_said n (floor_in layer key sender)) (sym (whole_is before g));
    }) is)

-- ---- lines without a change, and the changes of an answer

unfoldable pub NoChange : Line → Type 0
NoChange (Declared p) = ⊥
NoChange (GivenNet n k q) = ⊥
NoChange (GivenLink n p k) = ⊥
NoChange (Counter n layer v) = ⊥
NoChange (Changed e n edit) = ⊥
NoChange _ = Unit {0}

none_changes : (was : Bytes → Bool) (l : Line) (s : NodeState) → NoChange l → FitsChange was l s
unfolding NoChange
none_changes was (Declared p) s c = absurd c
none_changes was (GivenNet n k q) s c = absurd c
none_changes was (GivenLink n p k) s c = absurd c
none_changes was (Counter n layer v) s c = absurd c
none_changes was (Changed e n edit) s c = absurd c
none_changes was _ s c = tt

none_tells : (l : Line) (s : NodeState) (later : List Line) → NoChange l → TellsLine l s later
unfolding NoChange
none_tells (Changed e n edit) s later c = absurd c
none_tells _ s later c = tt

pub unchanged : (before : List (List Line)) (n : ℕ) (front ls : List Line) → AllByRecursion NoChange ls
    → FitsChanges before n front ls
unchanged before n front [] a = tt
unchanged before n front (l ∷ ls) a = (
  λ e. (
    none_changes (was_active before n) l (state_of (flat before ++ front) n) a.0,
    none_tells l (state_of (flat before ++ front) n) ls a.0,
  ),
  unchanged before n (front ++ l ∷ []) ls a.1,
)

pub changes_append : (before : List (List Line)) (n : ℕ) (front xs ys : List Line) → FitsChanges before n front xs
    → FitsChanges before n (front ++ xs) ys → FitsChanges before n front (xs ++ ys)
changes_append before n front [] ys a b = subst (λ x. FitsChanges before n x ys) (append-nil' front) b
changes_append before n front (x ∷ xs) ys a b = (
  λ own. ((a.0 own).0, tells_more x (state_of (flat before ++ front) n) xs ys (a.0 own).1),
  changes_append before n (front ++ x ∷ []) xs ys a.1
      (subst (λ z. FitsChanges before n z ys) (sym (append_assoc front (x ∷ []) xs)) b),
)

pub own_changes : (before : List (List Line)) (number n : ℕ) (front : List Line) (es : List Edit)
    → FitEdits (was_active before n) es (state_of (flat before ++ front) n)
    → TellAll number n es (state_of (flat before ++ front) n)
    → FitsChanges before n front (map (Changed number n) es)
own_changes before number n front [] fits tell = tt
own_changes before number n front (e ∷ es) fits tell = (
  λ own. (fits.0, tell.0),
  own_changes before number n (front ++ Changed number n e ∷ []) es
      (subst (FitEdits (was_active before n) es) (sym state_is) fits.1)
      (subst (TellAll number n es) (sym state_is) tell.1),
)
  where
    state_is : state_of (flat before ++ (front ++ Changed number n e ∷ [])) n
        ≡ applied e (state_of (flat before ++ front) n)
    state_is = ap (λ x. state_of x n) (sym (append_assoc (flat before) front (Changed number n e ∷ []))) ∙ state-snoc
        (flat before ++ front) (Changed number n e) n ∙ changed-line number n e (state_of (flat before ++ front) n)

pub others_changes : (before : List (List Line)) (number n m : ℕ) (front : List Line) (es : List Edit) → nat_eq n m
    ≡ false → FitsChanges before m front (map (Changed number n) es)
unfolding speaker
others_changes before number n m front [] other = tt
others_changes before number n m front (e ∷ es) other = (
  λ own. absurd (Rattle.std.proofs.lemmas.Bool.false≢true (sym other ∙ own)),
  others_changes before number n m
      (front ++ Changed number n e ∷ []) es other,
)
