-- What a change of one row makes of tables whose network keys differ, and that each of a skip fits.
use Rattle.std.proofs.Common.{◌≡◌, ℕ, ◌<◌, ◌≤◌, ◌+◌, ◌^◌, min, max, Bool, true, false, not, ◌||◌, if◌then◌else◌, List, [], ◌∷◌, ◌++◌, map, find, length, take, drop, get_or, Some, refl, sym, ap, ◌∙◌, subst, arith}
use Rattle.std.specs.Prelude.{nat_le, nat_eq}
use Rattle.std.specs.List.{AllByRecursion, list_any, list_all}
use Rattle.std.proofs.lemmas.Bool.{not-true, le-leb, eqb-true}
use Rattle.std.proofs.lemmas.List.{append_assoc, append-nil, drop_more, drop_all, length-map, length-take-le, take-append-drop, take_all, map_more}
use Rattle.std.proofs.lemmas.List.Folds.{list_any-append}
use Rattle.zb_model.specs.Data.{Bytes, Nwk, Aps, Reserve, Start}
use Rattle.zb_model.specs.Fits.{all_apart, all_fit, fits, keeps_rules}
use Rattle.zb_model.specs.State.{LinkKey, NetKey, NodeState, SenderFloor, booted_floor, same_key, has_net, net_of, at_net, started_at, booted_net, booted_link, new_net, shown_net, greatest_counter, applied, applied_all, shown, after_boot, stored_limit}
use Rattle.law_change_fits.specs.Fitting.{leaves_rules}
use Rattle.law_change_fits.proofs.FitLaws.{fits_is}
use Rattle.law_change_fits.proofs.Parts.{rules_of, nets_alike, limit_rule, same_key_of, same_key_sym}
use Rattle.law_change_fits.proofs.Tests.{both, neither}
use Rattle.zb_node_types.specs.Changes.{edit, edits}
use Rattle.zb_node_types.specs.declared.change.Change.{Change}
use Rattle.zb_record.specs.Ranges.{FitsBytes, LinkFits, NetFits}
use Rattle.zb_record.specs.RowViews.{net_key}
use Rattle.zb_record.specs.declared.net_row.NetRow.{NetRow}
use Rattle.zb_centre_store.specs.Skipping.{Raises, StartsAt, counted_from, raised, skipped, skipped_limit, skipped_net}

-- a row among rows whose keys differ

none_here : {X : Type 0} (test : X → Bool) (before : List X) (r : X) (after : List X)
    → list_any test (before ++ r ∷ after) ≡ false → test r ≡ false
none_here test before r after e =
    (neither (test r) (list_any test after)
    (neither (list_any test before) _ (sym (list_any-append test before (r ∷ after)) ∙ e)).1).0

none_at : (f : NetKey → NetKey) (r : NetKey) (rows : List NetKey) → list_any (nets_alike r) rows ≡ false
    → at_net r.key f rows ≡ rows
none_at f r [] e = refl
none_at f r (x ∷ xs) e =
    let parts = neither (nets_alike r x) (list_any (nets_alike r) xs) e in
    rw (same_key_sym x.key r.key ∙ parts.0) (ap (λ l. x ∷ l) (none_at f r xs parts.1))

-- a change of its key changes it alone
pub at_here : (f : NetKey → NetKey) (before : List NetKey) (r : NetKey) (after : List NetKey)
    → all_apart nets_alike (before ++ r ∷ after) ≡ true
    → at_net r.key f (before ++ r ∷ after) ≡ before ++ f r ∷ after
at_here f [] r after e =
    let parts = both (not (list_any (nets_alike r) after)) (all_apart nets_alike after) e in
    rw (same_key_of r.key r.key refl) (ap (λ l. f r ∷ l) (none_at f r after (not-true _ parts.0)))
at_here f (x ∷ xs) r after e =
    let parts = both (not (list_any (nets_alike x) (xs ++ r ∷ after))) (all_apart nets_alike (xs ++ r ∷ after)) e in
    rw (none_here (nets_alike x) xs r after (not-true _ parts.0)) (ap (λ l. x ∷ l) (at_here f xs r after parts.1))

-- it is the one that its key finds
pub found_here : (before : List NetKey) (r : NetKey) (after : List NetKey)
    → all_apart nets_alike (before ++ r ∷ after) ≡ true
    → find (λ (x : NetKey). same_key x.key r.key) (before ++ r ∷ after) ≡ Some r
found_here [] r after e = rw (same_key_of r.key r.key refl) refl
found_here (x ∷ xs) r after e =
    let parts = both (not (list_any (nets_alike x) (xs ++ r ∷ after))) (all_apart nets_alike (xs ++ r ∷ after)) e in
    rw (none_here (nets_alike x) xs r after (not-true _ parts.0)) (found_here xs r after parts.1)

has_here : (before : List NetKey) (r : NetKey) (after : List NetKey) → has_net r.key (before ++ r ∷ after) ≡ true
has_here before r after = list_any-append (λ (x : NetKey). same_key x.key r.key) before (r ∷ after) ∙ rw
    (same_key_of r.key r.key refl) (or_true (list_any (λ (x : NetKey). same_key x.key r.key) before))
  where
    or_true : (b : Bool) → (b || true) ≡ true
    or_true true = refl
    or_true false = refl

-- what a rule of rows says of it
all_here : {X : Type 0} (test : X → Bool) (before : List X) (r : X) (after : List X)
    → list_all test (before ++ r ∷ after) ≡ true → test r ≡ true
all_here test [] r after e = (both (test r) (list_all test after) e).0
all_here test (x ∷ xs) r after e = all_here test xs r after (both (test x) (list_all test (xs ++ r ∷ after)) e).1

-- the changes of a skip fit

pub aps_fits : (by : ℕ) (s : NodeState) → keeps_rules s ≡ true → s.aps_limit < 2 ^ 32
    → fits (Reserve Aps (skipped_limit by s.aps_limit)) s ≡ true
unfolding leaves_rules
aps_fits by s kept small =
    let le : s.aps_limit ≤ skipped_limit by s.aps_limit = omega (arith, small) in
    fits_is (Reserve Aps (skipped_limit by s.aps_limit)) s kept ∙ rw (le-leb _ _ le) refl

pub aps_made : (by : ℕ) (s : NodeState) → shown s ≡ s → s.aps_limit < 2 ^ 32
    → shown (applied (Reserve Aps (skipped_limit by s.aps_limit)) s)
    ≡ record s { aps_limit = skipped_limit by s.aps_limit }
unfolding applied shown
aps_made by s forgets small =
    let same : max s.aps_limit (min (skipped_limit by s.aps_limit) greatest_counter) ≡ skipped_limit by s.aps_limit =
    omega (arith, small) in
    rw same (ap (λ (t : NodeState). record t { aps_limit = skipped_limit by s.aps_limit }) forgets)

-- the limit of a row isn't above the one that it skips to
no_lower : (by active : ℕ) (r : NetKey) → limit_rule r ≡ true → r.limit < 2 ^ 32 → r.limit
    ≤ skipped_limit by (counted_from active r)
no_lower by active r rule small = by_started r.started refl rule
  where
    by_started : (b : Bool) → r.started ≡ b → (b || nat_eq r.limit 0) ≡ true → r.limit
        ≤ skipped_limit by (if b then r.limit else active)
    by_started true is rule = omega (arith, small)
    by_started false is rule = let none : r.limit ≡ 0 = eqb-true r.limit 0 rule in omega (arith, none)

pub start_fits : (by active : ℕ) (s : NodeState) (before : List NetKey) (r : NetKey) (after : List NetKey)
    → keeps_rules s ≡ true → s.nets ≡ before ++ r ∷ after → r.limit < 2 ^ 32
    → fits (Start r.key (skipped_limit by (counted_from active r))) s ≡ true
unfolding leaves_rules
start_fits by active s before r after kept is small =
    let rules = rules_of s kept in
    let apart : all_apart nets_alike (before ++ r ∷ after) ≡ true = subst (λ l. all_apart nets_alike l ≡ true) is
    rules.net_keys in
    let limits : list_all limit_rule (before ++ r ∷ after) ≡ true = subst (λ l. list_all limit_rule l ≡ true) is
    rules.limits in
    let has : has_net r.key s.nets ≡ true = ap (has_net r.key) is ∙ has_here before r after in
    let found : net_of r.key s ≡ Some r = ap (find (λ (x : NetKey). same_key x.key r.key)) is ∙ found_here before r
    after apart in
    let le : nat_le r.limit (skipped_limit by (counted_from active r)) ≡ true =
    le-leb _ _ (no_lower by active r (all_here limit_rule before r after limits) small) in
    fits_is (Start r.key (skipped_limit by (counted_from active r))) s kept ∙ rw (has, found, le) refl

-- what they make

shown_at : (key : Bytes) (value : ℕ) (rows : List NetKey) → map shown_net (at_net key (started_at value) rows)
    ≡ at_net key (started_at value) (map shown_net rows)
shown_at key value [] = refl
shown_at key value (x ∷ xs) =
    rw (shown_at key value xs)
    (ap (λ y. y ∷ at_net key (started_at value) (map shown_net xs)) (at_test (same_key x.key key)))
  where
    at_test : (b : Bool) → shown_net (if b then started_at value x else x) ≡ (if b then started_at value (shown_net x)
        else shown_net x)
    at_test true = refl
    at_test false = refl

raised_is : (by active : ℕ) (r : NetKey) → limit_rule r ≡ true → r.limit < 2 ^ 32
    → started_at (skipped_limit by (counted_from active r)) r ≡ raised by active r
raised_is by active r rule small =
    let le : r.limit ≤ skipped_limit by (counted_from active r) = no_lower by active r rule small in
    let limit : max r.limit (min (skipped_limit by (counted_from active r)) greatest_counter)
    ≡ skipped_limit by (counted_from active r) = omega (arith, le) in
    let next : min (skipped_limit by (counted_from active r)) greatest_counter
    ≡ skipped_limit by (counted_from active r) = omega arith in
    rw (limit, next) refl

pub start_made : (by active : ℕ) (s : NodeState) (before : List NetKey) (r : NetKey) (after : List NetKey)
    → keeps_rules s ≡ true → shown s ≡ s → s.nets ≡ before ++ r ∷ after → r.limit < 2 ^ 32
    → shown (applied (Start r.key (skipped_limit by (counted_from active r))) s)
    ≡ record s { nets = before ++ raised by active r ∷ after }
unfolding applied shown
start_made by active s before r after kept forgets is small =
    let rules = rules_of s kept in
    let apart : all_apart nets_alike (before ++ r ∷ after) ≡ true = subst (λ l. all_apart nets_alike l ≡ true) is
    rules.net_keys in
    let limits : list_all limit_rule (before ++ r ∷ after) ≡ true = subst (λ l. list_all limit_rule l ≡ true) is
    rules.limits in
    let value = skipped_limit by (counted_from active r) in
    ap (λ l. record s { nets = l }) (
    shown_at r.key value s.nets
    ∙ ap (at_net r.key (started_at value)) (ap (λ (t : NodeState). t.nets) forgets ∙ is)
    ∙ at_here (started_at value) before r after apart
    ∙ ap (λ x. before ++ x ∷ after) (raised_is by active r (all_here limit_rule before r after limits) small)
    )

-- row by row

-- the first rows have skipped
abbrev pub half_way : ℕ → ℕ → ℕ → List NetKey → List NetKey
half_way by active i rows = map (raised by active) (take i rows) ++ drop i rows

module _ (by active i : ℕ) (rows : List NetKey) (d : NetKey) (lt : i < length rows) where
  split : half_way by active i rows ≡ map (raised by active) (take i rows) ++ get_or rows i d ∷ drop (i + 1) rows
  split = ap (λ l. map (raised by active) (take i rows) ++ l) (drop_more rows i d lt)

  long : length (map (raised by active) (take i rows)) ≡ i
  long = length-map (take i rows) (raised by active) ∙ length-take-le i rows (omega (arith, lt))

  joined : map (raised by active) (take i rows) ++ raised by active (get_or rows i d) ∷ drop (i + 1) rows
      ≡ half_way by active (i + 1) rows
  joined =
      sym (append_assoc (map (raised by active) (take i rows)) (raised by active (get_or rows i d) ∷ [])
      (drop (i + 1) rows))
      ∙ ap (λ l. l ++ drop (i + 1) rows) (sym (map_more (raised by active) rows i d lt))

pub half_more : (by active i aps : ℕ) (s t u : NodeState) → i < length s.nets → t
    ≡ record s { aps_limit = aps; nets = half_way by active i s.nets } → Raises by active i t u
    → u ≡ record s { aps_limit = aps; nets = half_way by active (i + 1) s.nets }
half_more by active i aps s t u lt is raises =
    let d : NetKey = new_net [] 0 in
    raises (map (raised by active) (take i s.nets)) (drop (i + 1) s.nets) (get_or s.nets i d)
    (ap (λ (x : NodeState). x.nets) is ∙ split by active i s.nets d lt) (long by active i s.nets d lt)
    ∙ ap (λ (x : NodeState). record x {
      nets = map (raised by active) (take i s.nets) ++ raised by active (get_or s.nets i d)
          ∷ drop (i + 1) s.nets;
    }) is
    ∙ ap (λ l. record s { aps_limit = aps; nets = l }) (joined by active i s.nets d lt)

-- all have
pub all_skipped : (by active i : ℕ) (s t : NodeState) → active ≡ stored_limit Nwk s → length s.nets ≤ i → t
    ≡ record s { aps_limit = skipped_limit by s.aps_limit; nets = half_way by active i s.nets } → after_boot t
    ≡ skipped by s
unfolding after_boot skipped
all_skipped by active i s t start long is =
    ap after_boot is
    ∙ ap (λ l. record s {
      aps_limit = skipped_limit by s.aps_limit;
      aps_next = skipped_limit by s.aps_limit;
      nets = l;
      links = map booted_link s.links;
    }) rows
  where
    each : (rows : List NetKey) → map booted_net (map (raised by active) rows)
        ≡ map booted_net (map (skipped_net by active) rows)
    each [] = refl
    each (r ∷ rs) = ap (λ l. booted_net (skipped_net by active r) ∷ l) (each rs)

    rows : map booted_net (half_way by active i s.nets)
        ≡ map booted_net (map (skipped_net by (stored_limit Nwk s)) s.nets)
    rows =
        ap (λ l. map booted_net (map (raised by active) l ++ drop i s.nets)) (take_all i s.nets long)
        ∙ ap (λ l. map booted_net (map (raised by active) s.nets ++ l)) (drop_all i s.nets long)
        ∙ ap (map booted_net) (append-nil (map (raised by active) s.nets))
        ∙ each s.nets
        ∙ ap (λ n. map booted_net (map (skipped_net by n) s.nets)) start

-- one change alone fits, and is made
pub one_fits : (c : Change) (s : NodeState) (old new : List Change) → old ≡ [] → new ≡ old ++ c ∷ [] → fits (edit c) s
    ≡ true → all_fit (edits new) s ≡ true
unfolding all_fit
one_fits c s old new none is fit = rw (is, none) (rw fit refl)

pub one_made : (c : Change) (s t : NodeState) (old new : List Change) → old ≡ [] → new ≡ old ++ c ∷ [] → t
    ≡ shown (applied_all (edits new) s) → t ≡ shown (applied (edit c) s)
unfolding applied_all
one_made c s t old new none is made = made ∙ ap (λ l. shown (applied_all (edits l) s))
    (is ∙ ap (λ l. l ++ c ∷ []) none)

-- the row at a place, for its change

pub split_at : (rows : List NetKey) (i : ℕ) (d : NetKey) → i < length rows → rows ≡ take i rows ++ get_or rows i d
    ∷ drop (i + 1) rows
split_at rows i d lt = sym (take-append-drop i rows) ∙ ap (λ l. take i rows ++ l) (drop_more rows i d lt)

pub place_fits : (by active i : ℕ) (s : NodeState) (rows : List NetKey) (c : Change) → rows ≡ s.nets → keeps_rules s
    ≡ true → i < length s.nets → StartsAt by active i rows c → fits (edit c) s ≡ true
place_fits by active i s rows c same kept lt starts =
    let d : NetKey = new_net [] 0 in
    let is : s.nets ≡ take i s.nets ++ get_or s.nets i d ∷ drop (i + 1) s.nets = split_at s.nets i d lt in
    let row = starts (take i s.nets) (drop (i + 1) s.nets) (get_or s.nets i d) (same ∙ is)
    (length-take-le i s.nets (omega (arith, lt))) in
    ap (λ e. fits e s) row.0 ∙ start_fits by active s (take i s.nets) (get_or s.nets i d) (drop (i + 1) s.nets) kept
    is row.1

pub place_made : (by active i : ℕ) (s t : NodeState) (rows : List NetKey) (c : Change) → rows ≡ s.nets → keeps_rules s
    ≡ true → shown s ≡ s → StartsAt by active i rows c → t ≡ shown (applied (edit c) s) → Raises by active i s t
place_made by active i s t rows c same kept forgets starts made before after r is long =
    let row = starts before after r (same ∙ is) long in
    made ∙ ap (λ e. shown (applied e s)) row.0 ∙ start_made by active s before r after kept forgets is row.1

-- the row at a place
pub row_here : {X : Type 0} (f : X → NetKey) (xs : List X) (before : List NetKey) (r : NetKey) (after : List NetKey)
    (d : X) → map f xs ≡ before ++ r ∷ after → f (get_or xs (length before) d) ≡ r
row_here f [] [] r after d e = absurd (cc)
row_here f [] (b ∷ bs) r after d e = absurd (cc)
row_here f (x ∷ xs) [] r after d e = cc
row_here f (x ∷ xs) (b ∷ bs) r after d e = let rest : map f xs ≡ bs ++ r ∷ after =
    cc in row_here f xs bs r after d rest

-- its limit, as a layer's
pub aps_limit_is : (s : NodeState) (n : ℕ) → n ≡ stored_limit Aps s → n ≡ s.aps_limit
unfolding stored_limit
aps_limit_is s n is = is

pub row_starts : (by active i : ℕ) (rows : List NetRow) (x d : NetRow) (c : Change) → x ≡ get_or rows i d → edit c
    ≡ Start (net_key x).key (skipped_limit by (counted_from active (net_key x))) → x.limit < 2 ^ 32
    → StartsAt by active i (map net_key rows) c
row_starts by active i rows x d c is edits small before after r e long =
    let same : net_key x ≡ r = ap net_key (is ∙ ap (λ n. get_or rows n d) (sym long)) ∙ row_here net_key rows before r
    after d e in (
      edits ∙ ap (λ (y : NetKey). Start y.key (skipped_limit by (counted_from active y))) same,
      subst (λ (y : NetKey). y.limit < 2 ^ 32) same small,
    )

pub rows_counted : {X : Type 0} (f : X → NetKey) (xs : List X) (s t : NodeState) (aps : ℕ) → map f xs ≡ t.nets → t
    ≡ record s { aps_limit = aps } → length xs ≡ length s.nets
rows_counted f xs s t aps same is = sym (length-map xs f) ∙ ap length (same ∙ ap (λ (x : NodeState). x.nets) is)

-- what is left of the tables before

abbrev FloorFits : SenderFloor → Type 0
FloorFits f = (f.sender < 2 ^ 64) × (f.stored < 2 ^ 32)

pub skipped_role : (by : ℕ) (s : NodeState) → (skipped by s).role ≡ s.role
unfolding skipped after_boot
skipped_role by s = refl

booted_twice : (rows : List NetKey) → map booted_net (map booted_net rows) ≡ map booted_net rows
booted_twice [] = refl
booted_twice (r ∷ rs) = ap (λ l. booted_net (booted_net r) ∷ l) (booted_twice rs) ∙ ap
    (λ l. record r { next = r.limit; floors = l } ∷ map booted_net rs) (floors_twice r.floors)
  where
    floors_twice : (fs : List SenderFloor) → map booted_floor (map booted_floor fs) ≡ map booted_floor fs
    floors_twice [] = refl
    floors_twice (f ∷ fs) = ap (λ l. booted_floor f ∷ l) (floors_twice fs)

links_twice : (rows : List LinkKey) → map booted_link (map booted_link rows) ≡ map booted_link rows
links_twice [] = refl
links_twice (r ∷ rs) = ap (λ l. booted_link r ∷ l) (links_twice rs)

pub skipped_booted : (by : ℕ) (s : NodeState) → after_boot (skipped by s) ≡ skipped by s
unfolding skipped after_boot
skipped_booted by s =
    let rows : List NetKey = map (skipped_net by (stored_limit Nwk s)) s.nets in
    let aps : ℕ = skipped_limit by s.aps_limit in
    ap (λ l. record s
    { aps_limit = aps; aps_next = aps; nets = l; links = map booted_link (map booted_link s.links) })
    (booted_twice rows)
    ∙ ap (λ l. record s { aps_limit = aps; aps_next = aps; nets = map booted_net rows; links = l })
    (links_twice s.links)

floors_fit : (fs : List SenderFloor) → AllByRecursion FloorFits fs → AllByRecursion FloorFits (map booted_floor fs)
floors_fit [] all = tt
floors_fit (f ∷ fs) all = (all.0, floors_fit fs all.1)

nets_fit : (by active : ℕ) (rows : List NetKey) → AllByRecursion NetFits rows
    → AllByRecursion NetFits (map booted_net (map (skipped_net by active) rows))
nets_fit by active [] all = tt
nets_fit by active (r ∷ rs) all = (
  record { key = all.0.key; limit = omega arith; floors = floors_fit r.floors all.0.floors },
  nets_fit by active rs all.1,
)

links_fit : (rows : List LinkKey) → AllByRecursion LinkFits rows → AllByRecursion LinkFits (map booted_link rows)
links_fit [] all = tt
links_fit (r ∷ rs) all =
    (record { partner = all.0.partner; key = all.0.key; stored = all.0.stored }, links_fit rs all.1)

pub skipped_fits : (by : ℕ) (s : NodeState) → FitsBytes s → FitsBytes (skipped by s)
unfolding skipped after_boot
skipped_fits by s fits = record {
  declared = fits.declared;
  aps_limit = omega arith;
  nets = nets_fit by (stored_limit Nwk s) s.nets fits.nets;
  links = links_fit s.links fits.links;
  pairs = fits.pairs;
}
