-- A device knocks: the row of its code is its only live one of the centre, and provisional.
use Rattle.std.proofs.Common.{◌≡◌, ℕ, Bool, true, false, not, ◌&&◌, ◌||◌, if◌then◌else◌, List, [], ◌∷◌, ◌++◌, map, filter, find, flat_map, Option, Some, None, is_some, nat_eq, refl, sym, ap, ◌∙◌, subst, eqb-true}
use Rattle.std.specs.List.{AllByRecursion, list_any}
use Rattle.std.specs.Prelude.{is_none}
use Rattle.std.proofs.lemmas.Bool.{false≢true, not-true}
use Rattle.zb_model.specs.Data.{Bytes, Attribute, Provisional, Unverified, Verified, Knocked, NoKey, AtEvent, Move, Row, Became, DoKnock}
use Rattle.zb_model.specs.Fits.{keeps_rules}
use Rattle.zb_model.specs.Record.{attribute_byte}
use Rattle.zb_model.specs.Rules.{Setting, Does, found_or, centre_of, drop_others}
use Rattle.zb_model.specs.OwnEvents.{knock, own}
use Rattle.zb_model.specs.State.{LinkKey, NodeState, same_key, is_centre, is_unverified, is_verified, is_live_of, is_link, is_told, at_link, revived, with_link, code_row, current, offered, applied, applied_all}
use Rattle.zb_model.specs.Tools.{Tools}
use Rattle.zb_model.specs.Answer.{Answer, Counting, changes, move_edits, comes_to, may_seal, out_of, reserve_of, floor_of, edits_of, answer_by, counting_of, plan_of, answer, answered}
use Rattle.law_change_fits.proofs.Parts.{links_alike, rules_of, same_key_is, same_key_of}
use Rattle.law_change_fits.proofs.Tests.{both, never}
use Rattle.law_recovery.specs.Answering.{after_task}
use Rattle.law_recovery.proofs.Asking.{by_outcome}
use Rattle.law_recovery.proofs.Knocking.{knocks}
use Rattle.law_recovery.proofs.Once.{map_map}
use Rattle.law_recovery.specs.Obstacles.{obstacle_if}
use Rattle.law_recovery.proofs.Rows.{any_found, found_such, found_test, is_current, is_offer}
use Rattle.law_recovery.specs.Entering.{HasKnocked, why_no_knock}
use Rattle.law_recovery.proofs.Codes.{none_found}
use Rattle.law_recovery.proofs.Dropping.{all_by, all_named, dropped_by, dropped_links, dropped_not, kept_by, left_by, names_it, none_of, only_one, row_by_row, same_has, self}
use Rattle.law_recovery.proofs.Removing.{drops_all}

-- ---- the answer

knock_answer : (tools : Tools) (m : Setting) (t : NodeState) → is_centre m.me.role ≡ false → answer tools m t DoKnock
    ≡ by_outcome tools m t (knock m t)
unfolding answer plan_of own
knock_answer tools m t role = rw role refl

knock_reason : (tools : Tools) (m : Setting) (t : NodeState) (o : Option LinkKey) → code_row t (centre_of m.stations)
    ≡ o → (by_outcome tools m t (knock m t)).refusal ≡ obstacle_if (is_none o) NoKey
unfolding answer_by knock found_or
knock_reason tools m t None e = rw e refl
knock_reason tools m t (Some row) e = rw e refl

pub refuses : (tools : Tools) (m : Setting) (t : NodeState) → is_centre m.me.role ≡ false
    → (answer tools m t DoKnock).refusal ≡ why_no_knock t (centre_of m.stations)
unfolding why_no_knock
refuses tools m t role =
    ap (λ (a : Answer). a.refusal) (knock_answer tools m t role)
    ∙ knock_reason tools m t (code_row t (centre_of m.stations)) refl

-- ---- the state afterwards

abbrev is_there : ℕ → Bytes → LinkKey → Bool
is_there p key r =
    is_link p key r && (r.live && nat_eq (attribute_byte r.attribute) (attribute_byte Provisional))

abbrev knock_moves : NodeState → LinkKey → List Move
knock_moves t row = drop_others t row.partner row.key ++ (Row row.partner row.key Provisional ∷ Became Knocked ∷ [])

abbrev others : LinkKey → List LinkKey → List LinkKey
others row links = filter (λ (r : LinkKey). is_live_of row.partner r && not (same_key r.key row.key)) links

abbrev knocked_rows : LinkKey → Bool → Bool → List LinkKey → List LinkKey
knocked_rows row there told rows = if not there then with_link row.partner row.key Provisional told rows else rows

-- link rows and network rows after the last two moves
record Ends (s u : NodeState) (rows : List LinkKey) : Type 0 where
  links : u.links ≡ rows
  nets : u.nets ≡ s.nets

last_two : (t : NodeState) (k : Counting) (row : LinkKey) (there changed : Bool) (v : NodeState)
    → list_any (is_there row.partner row.key) t.links ≡ there → changes t (Became Knocked) ≡ changed
    → Ends v
    (applied_all
    (flat_map (move_edits k) (filter (changes t) (Row row.partner row.key Provisional ∷ Became Knocked ∷ []))) v)
    (knocked_rows row there (is_told v row.partner) v.links)
unfolding applied_all applied
last_two t k row true true v e f = rw (e, f) (record { links = refl; nets = refl })
last_two t k row true false v e f = rw (e, f) (record { links = refl; nets = refl })
last_two t k row false true v e f = rw (e, f) (record { links = refl; nets = refl })
last_two t k row false false v e f = rw (e, f) (record { links = refl; nets = refl })

knocked_so : (tools : Tools) (m : Setting) (t : NodeState) (row : LinkKey)
    → (told : Bool) × Ends t (answered (by_outcome tools m t (Does (knock_moves t row) None)) t)
    (knocked_rows row (list_any (is_there row.partner row.key) t.links) told
    (dropped_links (others row t.links) t.links))
unfolding answered answer_by counting_of edits_of out_of may_seal reserve_of floor_of drop_others applied_all
knocked_so tools m t row =
    let k = counting_of m t (comes_to [] AtEvent (Does (knock_moves t row) None)) in
    let v = record t { links = dropped_links (others row t.links) t.links } in
    let rest : List Move = Row row.partner row.key Provisional ∷ Became Knocked ∷ [] in
    let e = last_two t k row (list_any (is_there row.partner row.key) t.links) (changes t (Became Knocked)) v refl refl
    in (
      is_told v row.partner,
      subst (λ u. Ends t u (knocked_rows row (list_any (is_there row.partner row.key) t.links)
          (is_told v row.partner) v.links)) (sym (drops_all t k (others row t.links) rest t))
          (record { links = e.links; nets = e.nets }),
    )

knock_then : (tools : Tools) (m : Setting) (t : NodeState) (row : LinkKey) → is_centre m.me.role ≡ false
    → code_row t (centre_of m.stations) ≡ Some row
    → after_task tools m t DoKnock ≡ answered (by_outcome tools m t (Does (knock_moves t row) None)) t
unfolding after_task knock found_or
knock_then tools m t row role e =
    ap (λ a. answered a t) (knock_answer tools m t role) ∙ rw e refl

-- ---- which row is found

-- the row of the code, whose key no other row has
record IsCode (t : NodeState) (row : LinkKey) : Type 0 where
  among : list_any (is_link row.partner row.key) t.links ≡ true
  only : AllByRecursion (λ r. is_link row.partner row.key r ≡ true → r ≡ row) t.links

keys_alike : (p : ℕ) (key : Bytes) (a b : LinkKey) → is_link p key a ≡ true → is_link p key b ≡ true
    → links_alike a b ≡ true
keys_alike p key a b e f =
    same_key_of a.key b.key
    (same_key_is a.key key (both (nat_eq a.partner p) (same_key a.key key) e).1
    ∙ sym (same_key_is b.key key (both (nat_eq b.partner p) (same_key b.key key) f).1))

is_code : (t : NodeState) (row : LinkKey) → keeps_rules t ≡ true → code_row t row.partner ≡ Some row → IsCode t row
unfolding code_row
is_code t row rules e =
    let test = λ (r : LinkKey). nat_eq r.partner row.partner && r.code in
    let named : is_link row.partner row.key row ≡ true = rw (self row.partner, same_key_of row.key row.key refl) refl
    in
    record {
      among = any_found test (is_link row.partner row.key) t.links row e named;
      only = only_one links_alike (is_link row.partner row.key) test (keys_alike row.partner row.key) row named t.links
          (rules_of t rules).link_keys e;
    }

-- the rows that are dropped don't have the key
none_among : (f g : LinkKey → Bool) → ((x : LinkKey) → f x ≡ true → g x ≡ false) → (xs : List LinkKey)
    → list_any g (filter f xs) ≡ false
none_among f g each [] = refl
none_among f g each (x ∷ xs) = by_test (f x) refl (none_among f g each xs)
  where
    by_test : (b : Bool) → f x ≡ b → list_any g (filter f xs) ≡ false
        → list_any g (if b then x ∷ filter f xs else filter f xs) ≡ false
    by_test true e later = rw (each x e) later
    by_test false e later = later

unnamed : (row r x : LinkKey) → same_key r.key row.key ≡ true
    → (is_live_of row.partner x && not (same_key x.key row.key)) ≡ true → names_it r x ≡ false
unnamed row r x mine e = by_test (names_it r x) refl
  where
    other : same_key x.key row.key ≡ false
    other = not-true (same_key x.key row.key) (both (is_live_of row.partner x) (not (same_key x.key row.key)) e).1

    by_test : (b : Bool) → names_it r x ≡ b → b ≡ false
    by_test false f = refl
    by_test true f =
        let same = same_key_is r.key x.key (both (nat_eq r.partner x.partner) (same_key r.key x.key) f).1 in
        never (same_key x.key row.key) (same_key_of x.key row.key (sym same ∙ same_key_is r.key row.key mine)) other

left_as_is : (row r : LinkKey) (links : List LinkKey) → same_key r.key row.key ≡ true
    → dropped_by (others row links) r ≡ r
left_as_is row r links mine =
    left_by (others row links) r
    (none_among (λ x. is_live_of row.partner x && not (same_key x.key row.key)) (names_it r)
    (λ x e. unnamed row r x mine e) links)

-- what a row becomes
abbrev renewed_if : ℕ → Bytes → Bool → Bool → LinkKey → LinkKey
renewed_if p key there told r =
    if there then r else (if is_link p key r then revived Provisional told r else r)

abbrev turned : LinkKey → Bool → Bool → List LinkKey → LinkKey → LinkKey
turned row there told rows r = renewed_if row.partner row.key there told (dropped_by rows r)

abbrev IsOwn : LinkKey → LinkKey → Type 0
IsOwn row r = (r.key ≡ row.key) × ((r.kept ≡ row.kept) × (is_verified r.attribute ≡ false))

-- what is true of a row of the code, and of every other
record Turns (row r q : LinkKey) : Type 0 where
  own : is_link row.partner row.key r ≡ true → IsOwn row q × (is_current row.partner q ≡ true)
  other : is_link row.partner row.key r ≡ false → is_live_of row.partner q ≡ false

-- a live provisional row
record IsThere (r : LinkKey) : Type 0 where
  live : r.live ≡ true
  unproved : is_verified r.attribute ≡ false
  kept : is_unverified r.attribute ≡ false

provisional_is : (a : Attribute) → nat_eq (attribute_byte a) (attribute_byte Provisional) ≡ true
    → (is_verified a ≡ false) × (is_unverified a ≡ false)
provisional_is Provisional e = (refl, refl)
provisional_is Unverified e = absurd (false≢true e)
provisional_is Verified e = absurd (false≢true e)

there_is : (p : ℕ) (key : Bytes) (row : LinkKey) (xs : List LinkKey) → list_any (is_there p key) xs ≡ true
    → AllByRecursion (λ r. is_link p key r ≡ true → r ≡ row) xs → is_there p key row ≡ true
there_is p key row [] e all = absurd (false≢true e)
there_is p key row (x ∷ xs) e all = by_test (is_there p key x) refl e (λ f. there_is p key row xs f all.1)
  where
    by_test : (b : Bool) → is_there p key x ≡ b → (b || list_any (is_there p key) xs) ≡ true
        → (list_any (is_there p key) xs ≡ true → is_there p key row ≡ true) → is_there p key row ≡ true
    by_test true f e later =
        subst (λ r. is_there p key r ≡ true)
        (all.0
        (both (is_link p key x) (x.live && nat_eq (attribute_byte x.attribute) (attribute_byte Provisional)) f).0)
        f
    by_test false f e later = later e

row_there : (t : NodeState) (row : LinkKey) → IsCode t row → list_any (is_there row.partner row.key) t.links ≡ true
    → IsThere row
row_there t row k e =
    let rest = row.live && nat_eq (attribute_byte row.attribute) (attribute_byte Provisional) in
    let is = both (is_link row.partner row.key row) rest (there_is row.partner row.key row t.links e k.only) in
    let parts = both row.live (nat_eq (attribute_byte row.attribute) (attribute_byte Provisional)) is.1 in
    let kinds = provisional_is row.attribute parts.1 in
    record { live = parts.0; unproved = kinds.0; kept = kinds.1 }

own_turns : (row : LinkKey) (there told : Bool) (rows : List LinkKey) → (there ≡ true → IsThere row)
    → dropped_by rows row ≡ row
    → IsOwn row (turned row there told rows row) × (is_current row.partner (turned row there told rows row) ≡ true)
own_turns row true told rows is left =
    let i = is refl in
    subst (λ q. IsOwn row q × (is_current row.partner q ≡ true)) (sym left)
    ((refl, (refl, i.unproved)), rw (i.live, self row.partner, i.kept) refl)
own_turns row false told rows is left =
    let named : is_link row.partner row.key row ≡ true = rw (self row.partner, same_key_of row.key row.key refl) refl
    in
    subst (λ q. IsOwn row (if is_link row.partner row.key q then revived Provisional told q else q)
    × (is_current row.partner (if is_link row.partner row.key q then revived Provisional told q else q) ≡ true))
    (sym left)
    (subst (λ b. IsOwn row (if b then revived Provisional told row else row)
    × (is_current row.partner (if b then revived Provisional told row else row) ≡ true)) (sym named)
    ((refl, (refl, refl)), rw (self row.partner) refl))

other_turns : (row r : LinkKey) (there told : Bool) (rows : List LinkKey) → is_link row.partner row.key r ≡ false
    → is_live_of row.partner (dropped_by rows r) ≡ false
    → is_live_of row.partner (turned row there told rows r) ≡ false
other_turns row r true told rows e gone = gone
other_turns row r false told rows e gone =
    let k = kept_by rows r in
    let same : is_link row.partner row.key (dropped_by rows r) ≡ false =
    ap (λ n. nat_eq n row.partner && same_key (dropped_by rows r).key row.key) k.partner
    ∙ ap (λ y. nat_eq r.partner row.partner && same_key y row.key) k.key ∙ e in
    subst (λ b. is_live_of row.partner (if b then revived Provisional told (dropped_by rows r)
    else dropped_by rows r) ≡ false) (sym same) gone

live_other : (p : ℕ) (key : Bytes) (r : LinkKey) → is_link p key r ≡ false → is_live_of p r ≡ true
    → (is_live_of p r && not (same_key r.key key)) ≡ true
live_other p key r e live = by_test (same_key r.key key) refl
  where
    mine : nat_eq r.partner p ≡ true
    mine = (both r.live (nat_eq r.partner p) live).1

    by_test : (b : Bool) → same_key r.key key ≡ b → (is_live_of p r && not b) ≡ true
    by_test true f = never (is_link p key r) (rw (mine, f) refl) e
    by_test false f = rw live refl

turns : (row r : LinkKey) (links : List LinkKey) (there told : Bool) → (there ≡ true → IsThere row)
    → (is_link row.partner row.key r ≡ true → r ≡ row)
    → ((is_live_of row.partner r && not (same_key r.key row.key)) ≡ true → list_any (names_it r) (others row links)
    ≡ true)
    → Turns row r (turned row there told (others row links) r)
turns row r links there told is only among =
    record {
      own = λ e. subst (λ x. IsOwn row (turned row there told (others row links) x)
          × (is_current row.partner (turned row there told (others row links) x) ≡ true)) (sym (only e))
          (own_turns row there told (others row links) is
          (left_as_is row row links (same_key_of row.key row.key refl)));
      other = λ e. other_turns row r there told (others row links) e
          (dropped_not row.partner (others row links) r (λ live. among (live_other row.partner row.key r e live)));
    }

all_turn : (row : LinkKey) (links xs : List LinkKey) (there told : Bool) → (there ≡ true → IsThere row)
    → AllByRecursion (λ r. is_link row.partner row.key r ≡ true → r ≡ row) xs
    → AllByRecursion
    (λ r. (is_live_of row.partner r && not (same_key r.key row.key)) ≡ true → list_any (names_it r) (others row links)
    ≡ true) xs → AllByRecursion (λ r. Turns row r (turned row there told (others row links) r)) xs
all_turn row links [] there told is only among = tt
all_turn row links (r ∷ xs) there told is only among =
    (turns row r links there told is only.0 among.0, all_turn row links xs there told is only.1 among.1)

-- ---- what is found among them

dead_row : (p : ℕ) (q : LinkKey) → is_live_of p q ≡ false → (b : Bool) → (is_live_of p q && b) ≡ false
dead_row p q gone b = rw gone refl

current_own : (row r q : LinkKey) → Turns row r q → is_current row.partner q ≡ true → IsOwn row q
current_own row r q t e = by_test (is_link row.partner row.key r) refl
  where
    by_test : (b : Bool) → is_link row.partner row.key r ≡ b → IsOwn row q
    by_test true f = (t.own f).0
    by_test false f =
        never (is_current row.partner q) e (dead_row row.partner q (t.other f) (not (is_unverified q.attribute)))

none_offered : (row r q : LinkKey) → Turns row r q → is_offer row.partner q ≡ false
none_offered row r q t = by_test (is_link row.partner row.key r) refl
  where
    by_test : (b : Bool) → is_link row.partner row.key r ≡ b → is_offer row.partner q ≡ false
    by_test true f =
        let parts = both (is_live_of row.partner q) (not (is_unverified q.attribute)) (t.own f).1 in
        rw (parts.0, not-true (is_unverified q.attribute) parts.1) refl
    by_test false f = dead_row row.partner q (t.other f) (is_unverified q.attribute)

all_own : (row : LinkKey) (f : LinkKey → LinkKey) (xs : List LinkKey) → AllByRecursion (λ r. Turns row r (f r)) xs
    → AllByRecursion (λ q. is_current row.partner q ≡ true → IsOwn row q) (map f xs)
all_own row f [] all = tt
all_own row f (r ∷ xs) all = (current_own row r (f r) all.0, all_own row f xs all.1)

some_current : (row : LinkKey) (f : LinkKey → LinkKey) (xs : List LinkKey)
    → AllByRecursion (λ r. Turns row r (f r)) xs → list_any (is_link row.partner row.key) xs ≡ true
    → list_any (is_current row.partner) (map f xs) ≡ true
some_current row f [] all e = absurd (false≢true e)
some_current row f (r ∷ xs) all e =
    by_test (is_link row.partner row.key r) refl e (λ g. some_current row f xs all.1 g)
  where
    later : (b : Bool) → list_any (is_current row.partner) (map f xs) ≡ true
        → (b || list_any (is_current row.partner) (map f xs)) ≡ true
    later true g = refl
    later false g = g

    by_test : (b : Bool) → is_link row.partner row.key r ≡ b
        → (b || list_any (is_link row.partner row.key) xs) ≡ true
        → (list_any (is_link row.partner row.key) xs ≡ true
        → list_any (is_current row.partner) (map f xs) ≡ true)
        → (is_current row.partner (f r) || list_any (is_current row.partner) (map f xs)) ≡ true
    by_test true g e more = rw (all.0.own g).1 refl
    by_test false g e more = later (is_current row.partner (f r)) (more e)

-- the rows after a knock are the rows before, each turned
rows_turned : (t : NodeState) (row : LinkKey) (there told : Bool) → IsCode t row
    → knocked_rows row there told (dropped_links (others row t.links) t.links)
    ≡ map (turned row there told (others row t.links)) t.links
rows_turned t row true told k = row_by_row (others row t.links) t.links
rows_turned t row false told k =
    let rows = others row t.links in
    let has = same_has row.partner row.key rows t.links ∙ k.among in
    rw has (ap (at_link row.partner row.key (revived Provisional told)) (row_by_row rows t.links)
    ∙ map_map (renewed_if row.partner row.key false told) (dropped_by rows) t.links)

knocked_by : (t u : NodeState) (row : LinkKey) (told : Bool) → IsCode t row → u.state ≡ Knocked
    → Ends t u
    (knocked_rows row (list_any (is_there row.partner row.key) t.links) told
    (dropped_links (others row t.links) t.links)) → HasKnocked t u row.partner row
unfolding current offered
knocked_by t u row told k is e =
    let there = list_any (is_there row.partner row.key) t.links in
    let f = turned row there told (others row t.links) in
    let same : u.links ≡ map f t.links = e.links ∙ rows_turned t row there told k in
    let all = all_turn row t.links t.links there told (λ g. row_there t row k g) k.only
    (all_named (λ r. is_live_of row.partner r && not (same_key r.key row.key)) t.links) in
    let found = found_such (is_current row.partner) (IsOwn row) (map f t.links) (all_own row f t.links all)
    (some_current row f t.links all k.among) in
    record {
      knocked = is;
      row = found.item;
      is_current = ap (find (is_current row.partner)) same ∙ found.is;
      row_key = found.has.0;
      row_floor = found.has.1.0;
      provisional = found.has.1.1;
      none_offered = ap (find (is_offer row.partner)) same
          ∙ none_found (is_offer row.partner) (map f t.links)
          (none_of (is_offer row.partner) f t.links
          (all_by (λ r. Turns row r (f r)) (λ r. is_offer row.partner (f r) ≡ false)
          (λ r x. none_offered row r (f r) x) t.links all));
      nets = e.nets;
    }

own_partner : (t : NodeState) (p : ℕ) (row : LinkKey) → code_row t p ≡ Some row → row.partner ≡ p
unfolding code_row
own_partner t p row e =
    let test = λ (r : LinkKey). nat_eq r.partner p && r.code in
    eqb-true row.partner p (both (nat_eq row.partner p) row.code (found_test test t.links row e)).0

pub has_knocked : (tools : Tools) (m : Setting) (t : NodeState) (row : LinkKey) → is_centre m.me.role ≡ false
    → keeps_rules t ≡ true → code_row t (centre_of m.stations) ≡ Some row
    → HasKnocked t (after_task tools m t DoKnock) (centre_of m.stations) row
has_knocked tools m t row role rules e =
    let same = own_partner t (centre_of m.stations) row e in
    let u = after_task tools m t DoKnock in
    let so = knocked_so tools m t row in
    let ends = subst (λ x. Ends t x
    (knocked_rows row (list_any (is_there row.partner row.key) t.links) so.0
    (dropped_links (others row t.links) t.links))) (sym (knock_then tools m t row role e)) so.1 in
    subst (λ p. HasKnocked t u p row) same
    (knocked_by t u row so.0 (is_code t row rules (subst (λ p. code_row t p ≡ Some row) (sym same) e))
    (knocks tools m t role (ap is_some e)) ends)
