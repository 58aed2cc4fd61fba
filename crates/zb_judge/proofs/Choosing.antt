-- The link row that is chosen for a frame, in the program's rows and in the model's.
use Rattle.std.proofs.Common.{◌≡◌, ℕ, List, [], ◌∷◌, ◌++◌, map, refl, sym, ap, ◌∙◌, Bool, true, false, if◌then◌else◌, ◌&&◌, Option, Some, None}
use Rattle.std.specs.Prelude.{filter, find, is_some, option_map, reverse}
use mathlib.Core.List.{reverse-cons}
use Rattle.std.proofs.lemmas.List.{map_push}
use Rattle.zb_model.specs.Data.{Bytes}
use Rattle.zb_model.specs.Judging.{candidates, chosen, chosen_row, opens_with}
use Rattle.zb_model.specs.State.{LinkKey, NodeState, is_live_of}
use Rattle.zb_model.specs.Tools.{Tools}
use Rattle.zb_record.specs.RowViews.{link_key}
use Rattle.zb_record.specs.declared.link_row.LinkRow.{LinkRow}

reverse-map : {X Y : Type 0} (view : X → Y) (xs : List X) → reverse (map view xs) ≡ map view (reverse xs)
reverse-map view [] = refl
reverse-map view (x ∷ xs) =
    reverse-cons (view x) (map view xs) ∙ ap (λ l. l ++ view x ∷ []) (reverse-map view xs)
    ∙ sym (map_push view (reverse xs) x) ∙ sym (ap (map view) (reverse-cons x xs))

find_map : {X Y : Type 0} (p : Y → Bool) (view : X → Y) (xs : List X) → find p (map view xs)
    ≡ option_map view (find (λ x. p (view x)) xs)
find_map p view [] = refl
find_map p view (x ∷ xs) = at_test (p (view x)) (find_map p view xs)
  where
    at_test : (b : Bool) → find p (map view xs) ≡ option_map view (find (λ y. p (view y)) xs)
        → (if b then Some (view x) else find p (map view xs))
        ≡ option_map view (if b then Some x else find (λ y. p (view y)) xs)
    at_test true e = refl
    at_test false e = e

-- the first item of a test among those of another one
find_filtered : {X : Type 0} (p q : X → Bool) (xs : List X) → find q (filter p xs) ≡ find (λ x. p x && q x) xs
find_filtered p q [] = refl
find_filtered p q (x ∷ xs) = at_test (p x) (find_filtered p q xs)
  where
    inner : (c : Bool) → find q (filter p xs) ≡ find (λ y. p y && q y) xs
        → (if c then Some x else find q (filter p xs)) ≡ (if c then Some x else find (λ y. p y && q y) xs)
    inner true e = refl
    inner false e = e

    at_test : (b : Bool) → find q (filter p xs) ≡ find (λ y. p y && q y) xs
        → find q (if b then x ∷ filter p xs else filter p xs)
        ≡ (if b && q x then Some x else find (λ y. p y && q y) xs)
    at_test true e = inner (q x) e
    at_test false e = e

found_in : {X Y : Type 0} (p q : Y → Bool) (view : X → Y) (xs : List X) → find q (filter p (reverse (map view xs)))
    ≡ option_map view (find (λ x. p (view x) && q (view x)) (reverse xs))
found_in p q view xs = ap (λ l. find q (filter p l)) (reverse-map view xs) ∙
    (find_filtered p q (map view (reverse xs)) ∙ find_map (λ y. p y && q y) view (reverse xs))

-- where none opens the frame, the first of them is chosen
first_in : (p : LinkKey → Bool) (rows : List LinkKey) → chosen None (filter p rows) ≡ find p rows
first_in p [] = refl
first_in p (r ∷ rows) = at_test (p r) (first_in p rows)
  where
    at_test : (b : Bool) → chosen None (filter p rows) ≡ find p rows → chosen None (if b then r ∷ filter p rows
        else filter p rows) ≡ (if b then Some r else find p rows)
    at_test true e = refl
    at_test false e = e

abbrev or_else : Option LinkRow → Option LinkRow → Option LinkRow
or_else (Some row) other = Some row
or_else None other = other

either : (q : LinkKey → Bool) (rows : List LinkKey) (opening first : Option LinkRow) → find q rows
    ≡ option_map link_key opening → option_map link_key first ≡ chosen None rows
    → option_map link_key (or_else opening first) ≡ chosen (find q rows) rows
either q rows (Some row) first e f = ap (λ o. chosen o rows) (sym e)
either q rows None first e f = f ∙ ap (λ o. chosen o rows) (sym e)

chosen_by : (tools : Tools) (bytes : Bytes) (source : ℕ) (s : NodeState) (rows : List LinkRow)
    (opening first : Option LinkRow) → map link_key rows ≡ s.links
    → opening ≡ find (λ (r : LinkRow). is_live_of source (link_key r) && opens_with tools bytes source (link_key r))
    (reverse rows)
    → first ≡ find (λ (r : LinkRow). is_live_of source (link_key r)) (reverse rows)
    → option_map link_key (or_else opening first) ≡ chosen_row tools bytes source (candidates s source)
unfolding candidates
chosen_by tools bytes source s rows opening first links is_opening is_first =
    let live : List LinkKey = filter (is_live_of source) (reverse (map link_key rows)) in
    let one : find (opens_with tools bytes source) live ≡ option_map link_key opening =
    found_in (is_live_of source) (opens_with tools bytes source) link_key rows ∙ ap (option_map link_key)
    (sym is_opening) in
    let other : option_map link_key first ≡ chosen None live =
    ap (option_map link_key) is_first ∙ sym (find_map (is_live_of source) link_key (reverse rows)) ∙ ap
    (find (is_live_of source)) (sym (reverse-map link_key rows))
    ∙ sym (first_in (is_live_of source) (reverse (map link_key rows))) in
    either (opens_with tools bytes source) live opening first one other
    ∙ ap (λ (l : List LinkKey). chosen_row tools bytes source (filter (is_live_of source) (reverse l))) links

pub chosen_some : (tools : Tools) (bytes : Bytes) (source : ℕ) (s : NodeState) (rows : List LinkRow) (row : LinkRow)
    → map link_key rows ≡ s.links
    → Some row ≡ find (λ (r : LinkRow). is_live_of source (link_key r) && opens_with tools bytes source (link_key r))
    (reverse rows)
    → Some (link_key row) ≡ chosen_row tools bytes source (candidates s source)
chosen_some tools bytes source s rows row links is = chosen_by tools bytes source s rows (Some row)
    (find (λ (r : LinkRow). is_live_of source (link_key r)) (reverse rows)) links is refl

pub chosen_none : (tools : Tools) (bytes : Bytes) (source : ℕ) (s : NodeState) (rows : List LinkRow)
    (first : Option LinkRow) → map link_key rows ≡ s.links
    → None ≡ find (λ (r : LinkRow). is_live_of source (link_key r) && opens_with tools bytes source (link_key r))
    (reverse rows)
    → first ≡ find (λ (r : LinkRow). is_live_of source (link_key r)) (reverse rows)
    → option_map link_key first ≡ chosen_row tools bytes source (candidates s source)
chosen_none tools bytes source s rows first links is is_first = chosen_by tools bytes source s rows None first links
    is is_first

-- what the first item of a test does where it meets another one, too
some_same : {X : Type 0} (x y : X) → Some x ≡ Some y → x ≡ y
some_same x y e = cc e

find_both : {X : Type 0} (p q : X → Bool) (xs : List X) (r : X) → find p xs ≡ Some r → q r ≡ true
    → find (λ x. p x && q x) xs ≡ Some r
find_both p q [] r e meets = cc e
find_both p q (x ∷ xs) r e meets = at_test (p x) (λ f. find_both p q xs r f meets) e
  where
    at_test : (b : Bool) → (find p xs ≡ Some r → find (λ y. p y && q y) xs ≡ Some r)
        → (if b then Some x else find p xs) ≡ Some r
        → (if b && q x then Some x else find (λ y. p y && q y) xs) ≡ Some r
    at_test true again f = let it : q x ≡ true = ap q (some_same x r f) ∙ meets in rw it f
    at_test false again f = again f

find_neither : {X : Type 0} (p q : X → Bool) (xs : List X) → find p xs ≡ None → find (λ x. p x && q x) xs ≡ None
find_neither p q [] e = refl
find_neither p q (x ∷ xs) e = at_test (p x) (λ f. find_neither p q xs f) e
  where
    at_test : (b : Bool) → (find p xs ≡ None → find (λ y. p y && q y) xs ≡ None)
        → (if b then Some x else find p xs) ≡ None
        → (if b && q x then Some x else find (λ y. p y && q y) xs) ≡ None
    at_test true again f = cc f
    at_test false again f = again f

-- the newest row in use is chosen where it opens the frame
pub chosen_newest : (tools : Tools) (bytes : Bytes) (source : ℕ) (s : NodeState) (rows : List LinkRow) (row : LinkRow)
    → map link_key rows ≡ s.links
    → Some row ≡ find (λ (r : LinkRow). is_live_of source (link_key r)) (reverse rows)
    → opens_with tools bytes source (link_key row) ≡ true
    → Some (link_key row) ≡ chosen_row tools bytes source (candidates s source)
chosen_newest tools bytes source s rows row links is opens = chosen_some tools bytes source s rows row links
    (sym (find_both (λ (r : LinkRow). is_live_of source (link_key r))
    (λ (r : LinkRow). opens_with tools bytes source (link_key r)) (reverse rows) row (sym is) opens))

-- and none where no row is in use
pub chosen_nobody : (tools : Tools) (bytes : Bytes) (source : ℕ) (s : NodeState) (rows : List LinkRow)
    → map link_key rows ≡ s.links
    → None ≡ find (λ (r : LinkRow). is_live_of source (link_key r)) (reverse rows)
    → None ≡ chosen_row tools bytes source (candidates s source)
chosen_nobody tools bytes source s rows links is = chosen_none tools bytes source s rows None links
    (sym (find_neither (λ (r : LinkRow). is_live_of source (link_key r))
    (λ (r : LinkRow). opens_with tools bytes source (link_key r)) (reverse rows) (sym is))) is

pub shown_some : {A B : Type 0} (view : A → B) (o : Option A) (x : Option B) → option_map view o ≡ x
    → is_some o ≡ true → is_some x ≡ true
shown_some view None x e some = cc some
shown_some view (Some t) x e some = ap is_some (sym e)
