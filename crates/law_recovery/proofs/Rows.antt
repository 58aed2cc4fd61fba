-- What is found among bare rows, and what a row that comes, and one that takes the place of another, make of it.
use Rattle.std.proofs.Common.{◌≡◌, ℕ, Bool, true, false, not, ◌&&◌, ◌||◌, if◌then◌else◌, List, [], ◌∷◌, ◌++◌, map, filter, find, reverse, Option, Some, None, option_map, option_to_list, is_some, nat_eq, refl, sym, ap, ◌∙◌, eq-eqb, eqb-true}
use Rattle.std.specs.List.{AllByRecursion, list_any}
use Rattle.std.proofs.lemmas.Bool.{false≢true, not-true}
use mathlib.Core.List.{reverse_aux}
use Rattle.zb_model.specs.Data.{Bytes, Attribute, Provisional, Unverified, Verified}
use Rattle.zb_model.specs.Fits.{all_apart}
use Rattle.zb_model.specs.Record.{attribute_byte}
use Rattle.zb_model.specs.State.{NetKey, LinkKey, NodeState, same_key, is_link, has_net, has_link, new_net, is_live_of, is_unverified, is_verified, at_link, dropped_link, revived, net_of_active, active_row, may_use, live_nets, usable_nets, usable_of, current, offered}
use Rattle.law_change_fits.proofs.Parts.{kinds_alike, links_alike, same_key_is, same_key_of}
use Rattle.law_change_fits.proofs.Tests.{any_from, any_map, both, neither, never, not_apart}
use Rattle.law_recovery.proofs.Candidates.{one_left}
use Rattle.law_recovery.proofs.Once.{find_map, reverse_map}
use Rattle.law_recovery.specs.Meeting.{HasNetwork}
use Rattle.law_recovery.proofs.Baring.{bare_net, bare_link}

-- ---- what is found, through a change that leaves the test

-- what an item was before the change
pub record Before {X : Type 0} (f : X → X) (o : Option X) (y : X) : Type 0 where
  pub item : X
  pub is : o ≡ Some item
  pub seen : f item ≡ y

pub before : {X : Type 0} (f : X → X) (o : Option X) (y : X) → option_map f o ≡ Some y → Before f o y
before f None y e = absurd (false≢true (ap is_some e))
before {X} f (Some x) y e = record { item = x; is = refl; seen = same e }
  where
    same : Some (f x) ≡ Some y → f x ≡ y
    same d = cc

pub none_before : {X : Type 0} (f : X → X) (o : Option X) → option_map f o ≡ None → o ≡ None
none_before f None e = refl
none_before f (Some x) e = absurd (false≢true (sym (ap is_some e)))

-- ---- link rows

abbrev pub is_current : ℕ → LinkKey → Bool
is_current p r = is_live_of p r && not (is_unverified r.attribute)

abbrev pub is_offer : ℕ → LinkKey → Bool
is_offer p r = is_live_of p r && is_unverified r.attribute

pub current_bare : (s : NodeState) (p : ℕ) → option_map bare_link (current s p)
    ≡ find (is_current p) (map bare_link s.links)
unfolding current
current_bare s p = sym (find_map (is_current p) bare_link (λ r. refl) s.links)

pub offered_bare : (s : NodeState) (p : ℕ) → option_map bare_link (offered s p)
    ≡ find (is_offer p) (map bare_link s.links)
unfolding offered
offered_bare s p = sym (find_map (is_offer p) bare_link (λ r. refl) s.links)

pub last_bare : (s : NodeState) (p : ℕ) → option_map bare_link (find (is_live_of p) (reverse s.links))
    ≡ find (is_live_of p) (reverse (map bare_link s.links))
last_bare s p =
    sym (ap (find (is_live_of p)) (reverse_map bare_link s.links) ∙ find_map (is_live_of p) bare_link (λ r. refl)
    (reverse s.links))

pub found_before : {X : Type 0} (q : X → Bool) (xs ys : List X) (x : X) → find q xs ≡ Some x → find q (xs ++ ys)
    ≡ Some x
found_before q [] ys x e = absurd (false≢true (ap is_some e))
found_before {X} q (z ∷ xs) ys x e = by_test (q z) e (λ f. found_before q xs ys x f)
  where
    by_test : (b : Bool) → (if b then Some z else find q xs) ≡ Some x
        → (find q xs ≡ Some x → find q (xs ++ ys) ≡ Some x) → (if b then Some z else find q (xs ++ ys)) ≡ Some x
    by_test true e f = e
    by_test false e f = f e

pub found_last : {X : Type 0} (q : X → Bool) (xs : List X) (y : X) → find q xs ≡ None → q y ≡ true
    → find q (xs ++ y ∷ []) ≡ Some y
found_last q [] y e f = rw f refl
found_last {X} q (z ∷ xs) y e f = by_test (q z) e (λ g. found_last q xs y g f)
  where
    by_test : (b : Bool) → (if b then Some z else find q xs) ≡ None
        → (find q xs ≡ None → find q (xs ++ y ∷ []) ≡ Some y) → (if b then Some z else find q (xs ++ y ∷ [])) ≡ Some y
    by_test true e g = absurd (false≢true (sym (ap is_some e)))
    by_test false e g = g e

pub found_first : {X : Type 0} (q : X → Bool) (xs : List X) (x : X) → find q xs ≡ Some x → (ys : List X)
    × (filter q xs ≡ x ∷ ys)
found_first q [] x e = absurd (false≢true (ap is_some e))
found_first {X} q (z ∷ xs) x e = by_test (q z) e (λ f. found_first q xs x f)
  where
    by_test : (b : Bool) → (if b then Some z else find q xs) ≡ Some x
        → (find q xs ≡ Some x → (ys : List X) × (filter q xs ≡ x ∷ ys)) → (ys : List X)
        × ((if b then z ∷ filter q xs else filter q xs) ≡ x ∷ ys)
    by_test true e f = (filter q xs, same e)
      where
        same : Some z ≡ Some x → z ∷ filter q xs ≡ x ∷ filter q xs
        same d = cc
    by_test false e f = f e

pub found_test : {X : Type 0} (q : X → Bool) (xs : List X) (x : X) → find q xs ≡ Some x → q x ≡ true
found_test q [] x e = absurd (false≢true (ap is_some e))
found_test {X} q (z ∷ xs) x e = by_test (q z) refl e (λ f. found_test q xs x f)
  where
    by_test : (b : Bool) → q z ≡ b → (if b then Some z else find q xs) ≡ Some x → (find q xs ≡ Some x → q x ≡ true)
        → q x ≡ true
    by_test true t e f = cc
    by_test false t e f = f e

pub any_found : {X : Type 0} (q f : X → Bool) (xs : List X) (x : X) → find q xs ≡ Some x → f x ≡ true → list_any f xs
    ≡ true
any_found q f [] x e t = absurd (false≢true (ap is_some e))
any_found {X} q f (z ∷ xs) x e t = by_test (q z) e (λ g. any_found q f xs x g t)
  where
    later : (b : Bool) → list_any f xs ≡ true → (b || list_any f xs) ≡ true
    later true g = refl
    later false g = g

    here : Some z ≡ Some x → f z ≡ true
    here d = cc

    by_test : (b : Bool) → (if b then Some z else find q xs) ≡ Some x → (find q xs ≡ Some x → list_any f xs ≡ true)
        → (f z || list_any f xs) ≡ true
    by_test true e g = rw (here e) refl
    by_test false e g = later (f z) (g e)

-- if an item passes, and each that passes has a property, one is found, and has it
pub record Found {X : Type 0} (q : X → Bool) (P : X → Type 0) (xs : List X) : Type 0 where
  pub item : X
  pub is : find q xs ≡ Some item
  pub has : P item

pub found_such : {X : Type 0} (q : X → Bool) (P : X → Type 0) (xs : List X)
    → AllByRecursion (λ x. q x ≡ true → P x) xs → list_any q xs ≡ true → Found q P xs
found_such q P [] all some = absurd (false≢true some)
found_such {X} q P (x ∷ xs) all some = by_test (q x) refl some (λ e. found_such q P xs all.1 e)
  where
    by_test : (b : Bool) → q x ≡ b → (b || list_any q xs) ≡ true → (list_any q xs ≡ true → Found q P xs)
        → Found q P (x ∷ xs)
    by_test true e some later = record { item = x; is = rw e refl; has = all.0 e }
    by_test false e some later = let f = later some in record { item = f.item; is = rw e f.is; has = f.has }

-- ---- the one current row

alike : (p : ℕ) (a b : LinkKey) → is_current p a ≡ true → is_current p b ≡ true → kinds_alike a b ≡ true
alike p a b x y =
    let xa = both (is_live_of p a) (not (is_unverified a.attribute)) x in
    let yb = both (is_live_of p b) (not (is_unverified b.attribute)) y in
    let la = both a.live (nat_eq a.partner p) xa.0 in
    let lb = both b.live (nat_eq b.partner p) yb.0 in
    let same : nat_eq a.partner b.partner ≡ true =
    eq-eqb a.partner b.partner (eqb-true a.partner p la.1 ∙ sym (eqb-true b.partner p lb.1)) in
    rw (la.0, lb.0, same, not-true (is_unverified a.attribute) xa.1, not-true (is_unverified b.attribute) yb.1) refl

alike_offers : (p : ℕ) (a b : LinkKey) → is_offer p a ≡ true → is_offer p b ≡ true → kinds_alike a b ≡ true
alike_offers p a b x y =
    let xa = both (is_live_of p a) (is_unverified a.attribute) x in
    let yb = both (is_live_of p b) (is_unverified b.attribute) y in
    let la = both a.live (nat_eq a.partner p) xa.0 in
    let lb = both b.live (nat_eq b.partner p) yb.0 in
    let same : nat_eq a.partner b.partner ≡ true =
    eq-eqb a.partner b.partner (eqb-true a.partner p la.1 ∙ sym (eqb-true b.partner p lb.1)) in
    rw (la.0, lb.0, same, xa.1, yb.1) refl

-- any two that pass are alike
abbrev pub OfOneKind : {X : Type 0} → (X → X → Bool) → (X → Bool) → Type 0
OfOneKind {X} kind q = (a b : X) → q a ≡ true → q b ≡ true → kind a b ≡ true

none_passes : {X : Type 0} (kind : X → X → Bool) (q : X → Bool) → OfOneKind kind q → (row x : X) (xs : List X) → q x
    ≡ true → list_any (kind x) xs ≡ false → AllByRecursion (λ r. q r ≡ true → r ≡ row) xs
none_passes kind q of row x [] e apart = tt
none_passes kind q of row x (y ∷ ys) e apart =
    let parts = neither (kind x y) (list_any (kind x) ys) apart in
    (λ f. never (kind x y) (of x y e f) parts.0, none_passes kind q of row x ys e parts.1)

pub only_one : {X : Type 0} (kind : X → X → Bool) (q : X → Bool) → OfOneKind kind q → (row : X) (xs : List X)
    → all_apart kind xs ≡ true → find q xs ≡ Some row → AllByRecursion (λ r. q r ≡ true → r ≡ row) xs
only_one kind q of row [] apart e = tt
only_one {X} kind q of row (x ∷ xs) apart e =
    let parts = both (not (list_any (kind x) xs)) (all_apart kind xs) apart in
    by_test (q x) refl e (not-true (list_any (kind x) xs) parts.0) (λ f. only_one kind q of row xs parts.1 f)
  where
    by_test : (b : Bool) → q x ≡ b → (if b then Some x else find q xs) ≡ Some row → list_any (kind x) xs ≡ false
        → (find q xs ≡ Some row → AllByRecursion (λ r. q r ≡ true → r ≡ row) xs)
        → (q x ≡ true → x ≡ row) × AllByRecursion (λ r. q r ≡ true → r ≡ row) xs
    by_test true t e apart later = (λ f. same e, none_passes kind q of row x xs t apart)
      where
        same : Some x ≡ Some row → x ≡ row
        same d = cc
    by_test false t e apart later = (λ f. never (q x) f t, later e)

only_current : (p : ℕ) (row : LinkKey) (xs : List LinkKey) → all_apart kinds_alike xs ≡ true → find (is_current p) xs
    ≡ Some row → AllByRecursion (λ r. is_current p r ≡ true → r ≡ row) xs
only_current p row xs apart e = only_one kinds_alike (is_current p) (alike p) row xs apart e

-- one row of a partner is current, and one is offered
pub one_current : (p : ℕ) (row : LinkKey) (xs : List LinkKey) → all_apart kinds_alike xs ≡ true
    → find (is_current p) xs ≡ Some row → filter (is_current p) xs ≡ row ∷ []
one_current p row xs apart e = one_left kinds_alike (is_current p) (alike p) xs apart ∙ ap option_to_list e

pub one_offer : (p : ℕ) (row : LinkKey) (xs : List LinkKey) → all_apart kinds_alike xs ≡ true → find (is_offer p) xs
    ≡ Some row → filter (is_offer p) xs ≡ row ∷ []
one_offer p row xs apart e = one_left kinds_alike (is_offer p) (alike_offers p) xs apart ∙ ap option_to_list e

-- ---- the offered row takes the place of the current one

-- a row with this key, verified
abbrev pub IsProof : Bytes → LinkKey → Type 0
IsProof key r = (r.key ≡ key) × (is_verified r.attribute ≡ true)

row_after : (p : ℕ) (old new : Bytes) (told : Bool) (row r : LinkKey) (b d : Bool) → is_link p old r ≡ b
    → is_link p new r ≡ d → is_link p old row ≡ true → (is_current p r ≡ true → r ≡ row)
    → is_current p (if d then revived Verified told (if b then dropped_link r else r)
    else (if b then dropped_link r else r)) ≡ true
    → IsProof new (if d then revived Verified told (if b then dropped_link r else r)
    else (if b then dropped_link r else r))
row_after p old new told row r true true x y at only e =
    (same_key_is r.key new (both (nat_eq r.partner p) (same_key r.key new) y).1, refl)
row_after p old new told row r false true x y at only e =
    (same_key_is r.key new (both (nat_eq r.partner p) (same_key r.key new) y).1, refl)
row_after p old new told row r true false x y at only e = absurd (false≢true e)
row_after p old new told row r false false x y at only e = never (is_link p old r) (ap (is_link p old) (only e) ∙ at) x

each_after : (p : ℕ) (old new : Bytes) (told : Bool) (row : LinkKey) (xs : List LinkKey) → is_link p old row ≡ true
    → AllByRecursion (λ r. is_current p r ≡ true → r ≡ row) xs
    → AllByRecursion (λ r. is_current p r ≡ true → IsProof new r)
    (at_link p new (revived Verified told) (at_link p old dropped_link xs))
each_after p old new told row [] at all = tt
each_after p old new told row (r ∷ xs) at all =
    (λ e. by_tests (is_link p old r) refl e, each_after p old new told row xs at all.1)
  where
    same_link : (b : Bool) → is_link p new (if b then dropped_link r else r) ≡ is_link p new r
    same_link true = refl
    same_link false = refl

    by_tests : (b : Bool) → is_link p old r ≡ b
        → is_current p (if is_link p new (if b then dropped_link r else r)
        then revived Verified told (if b then dropped_link r else r) else (if b then dropped_link r else r)) ≡ true
        → IsProof new (if is_link p new (if b then dropped_link r else r)
        then revived Verified told (if b then dropped_link r else r) else (if b then dropped_link r else r))
    by_tests b x = row_after p old new told row r b (is_link p new (if b then dropped_link r else r)) x
        (sym (same_link b)) at all.0

abbrev is_offer_of : ℕ → Bytes → LinkKey → Bool
is_offer_of p key r = is_offer p r && same_key r.key key

promoted_is : (p : ℕ) (old new : Bytes) (told : Bool) (r : LinkKey) → is_offer_of p new r ≡ true
    → (b : Bool)
    → is_current p (if is_link p new (if b then dropped_link r else r)
    then revived Verified told (if b then dropped_link r else r) else (if b then dropped_link r else r)) ≡ true
promoted_is p old new told r e true =
    let parts = both (is_offer p r) (same_key r.key new) e in
    let live = both (is_live_of p r) (is_unverified r.attribute) parts.0 in
    let mine = both r.live (nat_eq r.partner p) live.0 in
    rw (mine.1, parts.1, mine.1) refl
promoted_is p old new told r e false =
    let parts = both (is_offer p r) (same_key r.key new) e in
    let live = both (is_live_of p r) (is_unverified r.attribute) parts.0 in
    let mine = both r.live (nat_eq r.partner p) live.0 in
    rw (mine.1, parts.1, mine.1) refl

some_after : (p : ℕ) (old new : Bytes) (told : Bool) (xs : List LinkKey) → list_any (is_offer_of p new) xs ≡ true
    → list_any (is_current p) (at_link p new (revived Verified told) (at_link p old dropped_link xs)) ≡ true
some_after p old new told xs some =
    any_map (is_current p) (λ (r : LinkKey). if is_link p new r then revived Verified told r
    else r) (at_link p old dropped_link xs)
    ∙ any_map (λ (r : LinkKey). is_current p (if is_link p new r then revived Verified told r else r))
    (λ (r : LinkKey). if is_link p old r then dropped_link r else r) xs
    ∙ any_from (is_offer_of p new)
    (λ (r : LinkKey). is_current p (if is_link p new (if is_link p old r then dropped_link r else r)
    then revived Verified told (if is_link p old r then dropped_link r else r)
    else (if is_link p old r then dropped_link r else r)))
    (λ r e. promoted_is p old new told r e (is_link p old r)) xs some

pub replaced_current : (p : ℕ) (new : Bytes) (told : Bool) (row offer : LinkKey) (xs : List LinkKey)
    → all_apart kinds_alike xs ≡ true → find (is_current p) xs ≡ Some row → find (is_offer p) xs ≡ Some offer
    → offer.key ≡ new
    → Found (is_current p) (IsProof new) (at_link p new (revived Verified told) (at_link p row.key dropped_link xs))
replaced_current p new told row offer xs apart here there key =
    let live = both (is_live_of p row) (not (is_unverified row.attribute)) (found_test (is_current p) xs row here) in
    let at : is_link p row.key row ≡ true =
    rw ((both row.live (nat_eq row.partner p) live.0).1, same_key_of row.key row.key refl) refl in
    let is : is_offer_of p new offer ≡ true = rw (found_test (is_offer p) xs offer there)
    (same_key_of offer.key new key) in
    found_such (is_current p) (IsProof new) (at_link p new (revived Verified told) (at_link p row.key dropped_link xs))
    (each_after p row.key new told row xs at (only_current p row xs apart here))
    (some_after p row.key new told xs (any_found (is_offer p) (is_offer_of p new) xs offer there is))

-- none is offered any more
no_offer_after : (p : ℕ) (new : Bytes) (told : Bool) (offer r : LinkKey) (b d t : Bool) → is_link p new r ≡ d
    → is_offer p r ≡ t → is_link p new offer ≡ true → (is_offer p r ≡ true → r ≡ offer)
    → is_offer p (if d then revived Verified told (if b then dropped_link r else r)
    else (if b then dropped_link r else r)) ≡ false
no_offer_after p new told offer r true true t x y at only =
    rw (both (nat_eq r.partner p) (same_key r.key new) x).0 refl
no_offer_after p new told offer r false true t x y at only =
    rw (both (nat_eq r.partner p) (same_key r.key new) x).0 refl
no_offer_after p new told offer r true false t x y at only = refl
no_offer_after p new told offer r false false true x y at only =
    never (is_link p new r) (ap (is_link p new) (only y) ∙ at) x
no_offer_after p new told offer r false false false x y at only = y

pub replaced_offer : (p : ℕ) (old new : Bytes) (told : Bool) (offer : LinkKey) (xs : List LinkKey)
    → is_link p new offer ≡ true → AllByRecursion (λ r. is_offer p r ≡ true → r ≡ offer) xs
    → find (is_offer p) (at_link p new (revived Verified told) (at_link p old dropped_link xs)) ≡ None
replaced_offer p old new told offer [] at all = refl
replaced_offer p old new told offer (r ∷ xs) at all =
    rw (by_test (is_link p old r)) (replaced_offer p old new told offer xs at all.1)
  where
    same_link : (b : Bool) → is_link p new (if b then dropped_link r else r) ≡ is_link p new r
    same_link true = refl
    same_link false = refl

    by_test : (b : Bool)
        → is_offer p (if is_link p new (if b then dropped_link r else r)
        then revived Verified told (if b then dropped_link r else r) else (if b then dropped_link r else r)) ≡ false
    by_test b = no_offer_after p new told offer r b (is_link p new (if b then dropped_link r else r)) (is_offer p r)
        (sym (same_link b)) refl at all.0

pub none_offered_then : (p : ℕ) (old new : Bytes) (told : Bool) (offer : LinkKey) (xs : List LinkKey)
    → all_apart kinds_alike xs ≡ true → find (is_offer p) xs ≡ Some offer → offer.key ≡ new
    → find (is_offer p) (at_link p new (revived Verified told) (at_link p old dropped_link xs)) ≡ None
none_offered_then p old new told offer xs apart there key =
    let live = both (is_live_of p offer) (is_unverified offer.attribute) (found_test (is_offer p) xs offer there) in
    let at : is_link p new offer ≡ true =
    rw ((both offer.live (nat_eq offer.partner p) live.0).1, same_key_of offer.key new key) refl in
    replaced_offer p old new told offer xs at (only_one kinds_alike (is_offer p) (alike_offers p) offer xs apart there)

-- a row of the offered key is there already verified: none is
none_verified : (p : ℕ) (new : Bytes) (xs : List LinkKey) → all_apart links_alike xs ≡ true
    → list_any (is_offer_of p new) xs ≡ true
    → list_any
    (λ (r : LinkKey). is_link p new r
    && (r.live && nat_eq (attribute_byte r.attribute) (attribute_byte Verified))) xs ≡ true → ⊥
none_verified p new xs apart some more =
    not_apart links_alike (is_offer_of p new)
    (λ (r : LinkKey). is_link p new r && (r.live && nat_eq (attribute_byte r.attribute) (attribute_byte Verified)))
    (λ x y e f. same_keys x y (both (is_offer p x) (same_key x.key new) e).1
    (both (nat_eq y.partner p) (same_key y.key new)
    (both (is_link p new y) (y.live && nat_eq (attribute_byte y.attribute) (attribute_byte Verified)) f).0).1)
    (λ x y e f. same_keys y x
    (both (nat_eq y.partner p) (same_key y.key new)
    (both (is_link p new y) (y.live && nat_eq (attribute_byte y.attribute) (attribute_byte Verified)) f).0).1
    (both (is_offer p x) (same_key x.key new) e).1)
    (λ x e f. differ x.attribute
    (both (is_live_of p x) (is_unverified x.attribute) (both (is_offer p x) (same_key x.key new) e).0).1
    (both x.live (nat_eq (attribute_byte x.attribute) (attribute_byte Verified))
    (both (is_link p new x) (x.live && nat_eq (attribute_byte x.attribute) (attribute_byte Verified)) f).1).1)
    xs some more apart
  where
    same_keys : (x y : LinkKey) → same_key x.key new ≡ true → same_key y.key new ≡ true → links_alike x y ≡ true
    same_keys x y e f = same_key_of x.key y.key (same_key_is x.key new e ∙ sym (same_key_is y.key new f))

    differ : (a : Attribute) → is_unverified a ≡ true → nat_eq (attribute_byte a) (attribute_byte Verified) ≡ true → ⊥
    differ Provisional e f = absurd (false≢true e)
    differ Unverified e f = absurd (false≢true f)
    differ Verified e f = absurd (false≢true e)

pub not_verified : (p : ℕ) (new : Bytes) (offer : LinkKey) (xs : List LinkKey) → all_apart links_alike xs ≡ true
    → find (is_offer p) xs ≡ Some offer → offer.key ≡ new
    → list_any
    (λ (r : LinkKey). is_link p new r
    && (r.live && nat_eq (attribute_byte r.attribute) (attribute_byte Verified))) xs ≡ false
not_verified p new offer xs apart there key =
    by_test
    (list_any
    (λ (r : LinkKey). is_link p new r && (r.live && nat_eq (attribute_byte r.attribute) (attribute_byte Verified)))
    xs) refl
  where
    is : is_offer_of p new offer ≡ true
    is = rw (found_test (is_offer p) xs offer there) (same_key_of offer.key new key)

    by_test : (b : Bool)
        → list_any
        (λ (r : LinkKey). is_link p new r
        && (r.live && nat_eq (attribute_byte r.attribute) (attribute_byte Verified))) xs ≡ b → b ≡ false
    by_test true e =
        absurd (none_verified p new xs apart (any_found (is_offer p) (is_offer_of p new) xs offer there is) e)
    by_test false e = refl

-- a row with the key is there
pub has_offer : (p : ℕ) (new : Bytes) (offer : LinkKey) (xs : List LinkKey) → find (is_offer p) xs ≡ Some offer
    → offer.key ≡ new → has_link p new xs ≡ true
has_offer p new offer xs there key =
    let live = both (is_live_of p offer) (is_unverified offer.attribute) (found_test (is_offer p) xs offer there) in
    any_found (is_offer p) (is_link p new) xs offer there
    (rw ((both offer.live (nat_eq offer.partner p) live.0).1, same_key_of offer.key new key) refl)

-- ---- network rows

abbrev of_nets : Option Bytes → List NetKey → Option NetKey
of_nets None rs = None
of_nets (Some key) rs = find (λ (r : NetKey). same_key r.key key) rs

active_is : (o : Option Bytes) (s : NodeState) → net_of_active o s ≡ of_nets o s.nets
active_is None s = refl
active_is (Some key) s = refl

of_bare : (o : Option Bytes) (rs : List NetKey) → option_map bare_net (of_nets o rs) ≡ of_nets o (map bare_net rs)
of_bare None rs = refl
of_bare (Some key) rs = sym (find_map (λ (r : NetKey). same_key r.key key) bare_net (λ r. refl) rs)

active_bare : (s : NodeState) → option_map bare_net (active_row s) ≡ of_nets s.active (map bare_net s.nets)
unfolding active_row
active_bare s = ap (option_map bare_net) (active_is s.active s) ∙ of_bare s.active s.nets

live_map : (rs : List NetKey) → filter (λ (r : NetKey). r.live) (map bare_net rs)
    ≡ map bare_net (filter (λ (r : NetKey). r.live) rs)
live_map [] = refl
live_map (r ∷ rs) = by_test r.live (live_map rs)
  where
    by_test : (b : Bool) → filter (λ (x : NetKey). x.live) (map bare_net rs)
        ≡ map bare_net (filter (λ (x : NetKey). x.live) rs)
        → (if b then bare_net r ∷ filter (λ (x : NetKey). x.live) (map bare_net rs)
        else filter (λ (x : NetKey). x.live) (map bare_net rs))
        ≡ map bare_net (if b then r ∷ filter (λ (x : NetKey). x.live) rs else filter (λ (x : NetKey). x.live) rs)
    by_test true e = ap (λ l. bare_net r ∷ l) e
    by_test false e = e

abbrev by_sequence : ℕ → List NetKey → Option NetKey
by_sequence sequence rs = find (λ (r : NetKey). nat_eq r.sequence sequence)
    (reverse (filter (λ (r : NetKey). r.live) rs))

sequence_bare : (sequence : ℕ) (rs : List NetKey) → option_map bare_net (by_sequence sequence rs)
    ≡ by_sequence sequence (map bare_net rs)
sequence_bare sequence rs =
    sym (ap (λ l. find (λ (r : NetKey). nat_eq r.sequence sequence) (reverse l)) (live_map rs)
    ∙ ap (find (λ (r : NetKey). nat_eq r.sequence sequence))
    (reverse_map bare_net (filter (λ (r : NetKey). r.live) rs))
    ∙ find_map (λ (r : NetKey). nat_eq r.sequence sequence) bare_net (λ r. refl)
    (reverse (filter (λ (r : NetKey). r.live) rs)))

usable_is : (s : NodeState) (sequence : ℕ) → may_use s ≡ true → usable_of s sequence ≡ by_sequence sequence s.nets
unfolding usable_of usable_nets
usable_is s sequence may = rw may refl

usable_found : (s : NodeState) (sequence : ℕ) (row : NetKey) → usable_of s sequence ≡ Some row → may_use s ≡ true
unfolding usable_of usable_nets
usable_found s sequence row e = by_may (may_use s) e
  where
    by_may : (b : Bool) → find (λ (r : NetKey). nat_eq r.sequence sequence) (reverse (if b then live_nets s else []))
        ≡ Some row → b ≡ true
    by_may true e = refl
    by_may false e = absurd (false≢true (ap is_some e))

pub may_use_of : (s : NodeState) (key : Bytes) (sequence : ℕ) → HasNetwork s key sequence → may_use s ≡ true
may_use_of s key sequence h = usable_found s sequence h.found h.is_found

pub same_network : (s u : NodeState) (key : Bytes) (sequence : ℕ) → HasNetwork s key sequence → map bare_net u.nets
    ≡ map bare_net s.nets → u.active ≡ s.active → may_use u ≡ true → HasNetwork u key sequence
same_network s u key sequence h nets active may =
    let a = before bare_net (active_row u) (bare_net h.active)
    (active_bare u ∙ ap (λ o. of_nets o (map bare_net u.nets)) active ∙ ap (of_nets s.active) nets ∙ sym
    (active_bare s) ∙ ap (option_map bare_net) h.is_active) in
    let f = before bare_net (usable_of u sequence) (bare_net h.found)
    (ap (option_map bare_net) (usable_is u sequence may) ∙ sequence_bare sequence u.nets ∙ ap (by_sequence sequence)
    nets ∙ sym (sequence_bare sequence s.nets)
    ∙ ap (option_map bare_net) (sym (usable_is s sequence (may_use_of s key sequence h)) ∙ h.is_found)) in
    record {
      active = a.item;
      is_active = a.is;
      active_key = ap (λ (r : NetKey). r.key) a.seen ∙ h.active_key;
      active_sequence = ap (λ (r : NetKey). r.sequence) a.seen ∙ h.active_sequence;
      found = f.item;
      is_found = f.is;
      found_key = ap (λ (r : NetKey). r.key) f.seen ∙ h.found_key;
    }

-- ---- a network key that is new becomes active

none_among : (key : Bytes) (rs : List NetKey) → has_net key rs ≡ false → find (λ (r : NetKey). same_key r.key key) rs
    ≡ None
none_among key [] e = refl
none_among key (r ∷ rs) e =
    let parts = neither (same_key r.key key) (has_net key rs) e in
    rw parts.0 (none_among key rs parts.1)

live_last : (rs : List NetKey) (r : NetKey) → r.live ≡ true → filter (λ (x : NetKey). x.live) (rs ++ r ∷ [])
    ≡ filter (λ (x : NetKey). x.live) rs ++ r ∷ []
live_last [] r e = rw e refl
live_last (x ∷ rs) r e = by_test x.live (live_last rs r e)
  where
    by_test : (b : Bool) → filter (λ (y : NetKey). y.live) (rs ++ r ∷ []) ≡ filter (λ (y : NetKey). y.live) rs ++ r
        ∷ []
        → (if b then x ∷ filter (λ (y : NetKey). y.live) (rs ++ r ∷ [])
        else filter (λ (y : NetKey). y.live) (rs ++ r ∷ [])) ≡ (if b then x ∷ filter (λ (y : NetKey). y.live) rs
        else filter (λ (y : NetKey). y.live) rs) ++ r ∷ []
    by_test true f = ap (λ l. x ∷ l) f
    by_test false f = f

turned_last : {X : Type 0} (xs ys : List X) (y : X) → reverse_aux (xs ++ y ∷ []) ys ≡ y ∷ reverse_aux xs ys
turned_last [] ys y = refl
turned_last (x ∷ xs) ys y = turned_last xs (x ∷ ys) y

pub last_first : {X : Type 0} (xs : List X) (y : X) → reverse (xs ++ y ∷ []) ≡ y ∷ reverse xs
last_first xs y = turned_last xs [] y

last_by_sequence : (sequence : ℕ) (rs : List NetKey) (r : NetKey) → r.live ≡ true → nat_eq r.sequence sequence ≡ true
    → by_sequence sequence (rs ++ r ∷ []) ≡ Some r
last_by_sequence sequence rs r live same =
    ap (λ l. find (λ (x : NetKey). nat_eq x.sequence sequence) (reverse l)) (live_last rs r live)
    ∙ ap (find (λ (x : NetKey). nat_eq x.sequence sequence)) (last_first (filter (λ (x : NetKey). x.live) rs) r) ∙ rw
    same refl

pub new_network : (u : NodeState) (rows : List NetKey) (key : Bytes) (sequence : ℕ) → map bare_net u.nets ≡ rows
    ++ new_net key sequence ∷ [] → u.active ≡ Some key → may_use u ≡ true → has_net key rows ≡ false
    → HasNetwork u key sequence
new_network u rows key sequence nets active may fresh =
    let row = new_net key sequence in
    let a =
    before bare_net (active_row u) row
    (active_bare u ∙ ap (λ o. of_nets o (map bare_net u.nets)) active ∙ ap (of_nets (Some key)) nets
    ∙ found_last (λ (r : NetKey). same_key r.key key) rows row (none_among key rows fresh) (same_key_of key key refl))
    in
    let f = before bare_net (usable_of u sequence) row
    (ap (option_map bare_net) (usable_is u sequence may) ∙ sequence_bare sequence u.nets ∙ ap (by_sequence sequence)
    nets ∙ last_by_sequence sequence rows row refl (eq-eqb sequence sequence refl)) in
    record {
      active = a.item;
      is_active = a.is;
      active_key = ap (λ (r : NetKey). r.key) a.seen;
      active_sequence = ap (λ (r : NetKey). r.sequence) a.seen;
      found = f.item;
      is_found = f.is;
      found_key = ap (λ (r : NetKey). r.key) f.seen;
    }
