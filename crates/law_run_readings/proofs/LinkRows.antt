-- Link rows after the changes of rows: the attribute of each, and whether it is live.
use Rattle.std.proofs.Common.{◌≡◌, ℕ, Bool, true, false, cond, ◌&&◌, ◌||◌, List, [], ◌∷◌, ◌++◌, Option, Some, None, option_map, find, map, nat_eq, refl, sym, ap, ◌∙◌, subst}
use Rattle.std.proofs.lemmas.Bool.{and_parts, eqb-true, false≢true}
use Rattle.zb_model.specs.Data.{Attribute, Bytes}
use Rattle.zb_model.specs.State.{LinkKey, at_link, dropped_link, has_link, is_link, new_link, revived, same_key, told_as, with_link, with_told, is_live_of}
use Rattle.law_run.proofs.Basics.{find-map, nat_eq-refl, same_key-eq, same_key-refl}
use Rattle.law_run.proofs.FreshLines.{all-append}
use Rattle.std.specs.List.{AllByRecursion, list_any}
use Rattle.std.proofs.lemmas.List.{map-append}
use Rattle.law_run_readings.specs.RowLines.{LinkSaid, dropped_said, given_as, is_live_row, is_row, link_said, with_row}

abbrev pub said_at : ℕ → Bytes → List LinkKey → Option LinkSaid
said_at partner key links = option_map link_said (find (is_link partner key) links)

abbrev found_said : Bool → LinkKey → Option LinkSaid → Option LinkSaid
found_said b r rest = cond b (Some (link_said r)) rest

-- one more row in front
said_cons : (partner : ℕ) (key : Bytes) (r : LinkKey) (rs : List LinkKey) → said_at partner key (r ∷ rs)
    ≡ found_said (is_link partner key r) r (said_at partner key rs)
said_cons partner key r rs = by_test (is_link partner key r)
  where
    by_test : (b : Bool) → option_map link_said (cond b (Some r) (find (is_link partner key) rs))
        ≡ found_said b r (said_at partner key rs)
    by_test true = refl
    by_test false = refl

-- what a change of rows keeps
pub record Keeps (f : LinkKey → LinkKey) : Type 0 where
  pub partner : (r : LinkKey) → (f r).partner ≡ r.partner
  pub key : (r : LinkKey) → (f r).key ≡ r.key

pub record KeepsSaid (f : LinkKey → LinkKey) : Type 0 where
  pub row : Keeps f
  pub said : (r : LinkKey) → link_said (f r) ≡ link_said r

is_same : (f : LinkKey → LinkKey) → Keeps f → (partner : ℕ) (key : Bytes) (r : LinkKey) → is_link partner key (f r)
    ≡ is_link partner key r
is_same f keeps partner key r = ap (λ p. nat_eq p partner && same_key (f r).key key) (keeps.partner r) ∙ ap
    (λ k. nat_eq r.partner partner && same_key k key) (keeps.key r)

pub said_same : (f : LinkKey → LinkKey) → KeepsSaid f → (partner : ℕ) (key : Bytes) (links : List LinkKey)
    → said_at partner key (map f links) ≡ said_at partner key links
said_same f keeps partner key [] = refl
said_same f keeps partner key (r ∷ rs) =
    said_cons partner key (f r) (map f rs) ∙ ap (λ b. found_said b (f r) (said_at partner key (map f rs)))
    (is_same f keeps.row partner key r)
    ∙ ap (λ (x : LinkSaid). cond (is_link partner key r) (Some x) (said_at partner key (map f rs))) (keeps.said r)
    ∙ ap (λ o. found_said (is_link partner key r) r o) (said_same f keeps partner key rs) ∙ sym
    (said_cons partner key r rs)

-- a change of some rows
some_keep : (f : LinkKey → LinkKey) → Keeps f → (test : LinkKey → Bool) → Keeps (λ r. cond (test r) (f r) r)
some_keep f keeps test = record { partner = λ r. by_partner (test r) r; key = λ r. by_key (test r) r }
  where
    by_partner : (b : Bool) (r : LinkKey) → (cond b (f r) r).partner ≡ r.partner
    by_partner true r = keeps.partner r
    by_partner false r = refl

    by_key : (b : Bool) (r : LinkKey) → (cond b (f r) r).key ≡ r.key
    by_key true r = keeps.key r
    by_key false r = refl

pub some_said : (f : LinkKey → LinkKey) → KeepsSaid f → (test : LinkKey → Bool)
    → KeepsSaid (λ r. cond (test r) (f r) r)
some_said f keeps test = record { row = some_keep f keeps.row test; said = λ r. by_test (test r) r }
  where
    by_test : (b : Bool) (r : LinkKey) → link_said (cond b (f r) r) ≡ link_said r
    by_test true r = keeps.said r
    by_test false r = refl

pub told_said : (told : Bool) → KeepsSaid (told_as told)
told_said told = record { row = record { partner = λ r. refl; key = λ r. refl }; said = λ r. refl }

pub with_told_said : (p : ℕ) (told : Bool) (partner : ℕ) (key : Bytes) (links : List LinkKey)
    → said_at partner key (with_told p told links) ≡ said_at partner key links
with_told_said p told partner key links = said_same (λ r. cond (is_live_of p r) (told_as told r) r)
    (some_said (told_as told) (told_said told) (is_live_of p)) partner key links

pub at_said : (f : LinkKey → LinkKey) → KeepsSaid f → (p : ℕ) (k : Bytes) (partner : ℕ) (key : Bytes)
    (links : List LinkKey) → said_at partner key (at_link p k f links) ≡ said_at partner key links
at_said f keeps p k partner key links = said_same (λ r. cond (is_link p k r) (f r) r)
    (some_said f keeps (is_link p k)) partner key links

-- ---- a change of the rows of one partner and key

-- a row of this partner and key is of that one if these are the same
row_is : (partner : ℕ) (key : Bytes) (p : ℕ) (k : Bytes) (r : LinkKey) → is_link partner key r ≡ true → is_link p k r
    ≡ is_row partner key p k
row_is partner key p k r own =
    let parts = and_parts (nat_eq r.partner partner) (same_key r.key key) own in
    ap (λ x. nat_eq x p && same_key r.key k) (eqb-true r.partner partner parts.0) ∙ ap
    (λ x. nat_eq partner p && same_key x k) (same_key-eq r.key key parts.1)

pub changed_said : (f : LinkKey → LinkKey) (g : LinkSaid → LinkSaid) → Keeps f
    → ((r : LinkKey) → link_said (f r) ≡ g (link_said r)) → (p : ℕ) (k : Bytes) (partner : ℕ) (key : Bytes)
    (links : List LinkKey)
    → said_at partner key (at_link p k f links)
    ≡ cond (is_row partner key p k) (option_map g (said_at partner key links)) (said_at partner key links)
changed_said f g keeps says p k partner key [] = by_test (is_row partner key p k)
  where
    by_test : (b : Bool) → said_at partner key [] ≡ cond b (option_map g (said_at partner key []))
        (said_at partner key [])
    by_test true = refl
    by_test false = refl
changed_said f g keeps says p k partner key (r ∷ rs) =
    said_cons partner key (cond (is_link p k r) (f r) r) (at_link p k f rs) ∙ ap
    (λ b. found_said b (cond (is_link p k r) (f r) r) (said_at partner key (at_link p k f rs)))
    (is_same (λ x. cond (is_link p k x) (f x) x) (some_keep f keeps (is_link p k)) partner key r)
    ∙ by_own (is_link partner key r) refl (changed_said f g keeps says p k partner key rs) ∙ ap
    (λ o. cond (is_row partner key p k) (option_map g o) o) (sym (said_cons partner key r rs))
  where
    here : (b : Bool) → Some (link_said (cond b (f r) r))
        ≡ cond b (option_map g (Some (link_said r))) (Some (link_said r))
    here true = ap (λ (x : LinkSaid). Some x) (says r)
    here false = refl

    by_own : (b : Bool) → is_link partner key r ≡ b → said_at partner key (at_link p k f rs)
        ≡ cond (is_row partner key p k) (option_map g (said_at partner key rs)) (said_at partner key rs)
        → found_said b (cond (is_link p k r) (f r) r) (said_at partner key (at_link p k f rs))
        ≡ cond (is_row partner key p k) (option_map g (found_said b r (said_at partner key rs)))
        (found_said b r (said_at partner key rs))
    by_own true own again =
        here (is_link p k r) ∙ ap (λ b. cond b (option_map g (Some (link_said r))) (Some (link_said r)))
        (row_is partner key p k r own)
    by_own false own again = again

pub dropped_keeps : Keeps dropped_link
dropped_keeps = record { partner = λ r. refl; key = λ r. refl }

pub said_dropped : (p : ℕ) (k : Bytes) (partner : ℕ) (key : Bytes) (links : List LinkKey)
    → said_at partner key (at_link p k dropped_link links)
    ≡ cond (is_row partner key p k) (option_map dropped_said (said_at partner key links))
    (said_at partner key links)
said_dropped p k partner key links = changed_said dropped_link dropped_said dropped_keeps (λ r. refl) p k partner key
    links

-- ---- a row that is given

revived_keeps : (attribute : Attribute) (told : Bool) → Keeps (revived attribute told)
revived_keeps attribute told = record { partner = λ r. refl; key = λ r. refl }

-- if there is a row, something is said of it
is_said : (partner : ℕ) (key : Bytes) (x : LinkSaid) (links : List LinkKey) → has_link partner key links ≡ true
    → option_map (λ (y : LinkSaid). x) (said_at partner key links) ≡ Some x
is_said partner key x [] has = absurd (false≢true has)
is_said partner key x (r ∷ rs) has = ap (option_map (λ (y : LinkSaid). x)) (said_cons partner key r rs) ∙ by_test
    (is_link partner key r) has (is_said partner key x rs)
  where
    by_test : (b : Bool) → (b || has_link partner key rs) ≡ true
        → (has_link partner key rs ≡ true → option_map (λ (y : LinkSaid). x) (said_at partner key rs) ≡ Some x)
        → option_map (λ (y : LinkSaid). x) (found_said b r (said_at partner key rs)) ≡ Some x
    by_test true more again = refl
    by_test false more again = again more

parts : (a b : Bool) → (a || b) ≡ false → (a ≡ false) × (b ≡ false)
parts true b e = absurd (false≢true (sym e))
parts false b e = (refl, e)

-- a row after rows of which none has its partner and key
said_behind : (x : LinkKey) (partner : ℕ) (key : Bytes) (links : List LinkKey) → has_link x.partner x.key links ≡ false
    → said_at partner key (links ++ x ∷ []) ≡ cond (is_row partner key x.partner x.key) (Some (link_said x))
    (said_at partner key links)
said_behind x partner key [] none = said_cons partner key x [] ∙ ap (λ b. cond b (Some (link_said x)) None)
    (turned (is_link partner key x) refl)
  where
    turned : (b : Bool) → is_link partner key x ≡ b → is_link partner key x ≡ is_row partner key x.partner x.key
    turned true own = own ∙ sym (sym (row_is partner key x.partner x.key x own) ∙ own_row)
      where
        own_row : is_link x.partner x.key x ≡ true
        own_row = ap (λ b. b && same_key x.key x.key) (nat_eq-refl x.partner) ∙ same_key-refl x.key
    turned false own = own ∙ sym (not_row (is_row partner key x.partner x.key) refl)
      where
        not_row : (b : Bool) → is_row partner key x.partner x.key ≡ b → is_row partner key x.partner x.key ≡ false
        not_row false is = is
        not_row true is =
            let both = and_parts (nat_eq partner x.partner) (same_key key x.key) is in
            let there : is_link partner key x ≡ true =
            ap (λ p. nat_eq p partner && same_key x.key key) (sym (eqb-true partner x.partner both.0)) ∙ ap
            (λ k. nat_eq partner partner && same_key k key) (sym (same_key-eq key x.key both.1))
            ∙ ap (λ b. b && same_key key key) (nat_eq-refl partner) ∙ same_key-refl key in
            absurd (false≢true (sym own ∙ there))
said_behind x partner key (r ∷ rs) none =
    said_cons partner key r (rs ++ x ∷ []) ∙ by_own (is_link partner key r) refl (said_behind x partner key rs) ∙ ap
    (λ o. cond (is_row partner key x.partner x.key) (Some (link_said x)) o) (sym (said_cons partner key r rs))
  where
    by_own : (b : Bool) → is_link partner key r ≡ b
        → (has_link x.partner x.key rs ≡ false → said_at partner key (rs ++ x ∷ [])
        ≡ cond (is_row partner key x.partner x.key) (Some (link_said x)) (said_at partner key rs))
        → found_said b r (said_at partner key (rs ++ x ∷ []))
        ≡ cond (is_row partner key x.partner x.key) (Some (link_said x)) (found_said b r (said_at partner key rs))
    by_own true own again =
        let other = sym (row_is partner key x.partner x.key r own) ∙
        (parts (is_link x.partner x.key r) (has_link x.partner x.key rs) none).0 in
        ap (λ b. cond b (Some (link_said x)) (Some (link_said r))) (sym other)
    by_own false own again = again (parts (is_link x.partner x.key r) (has_link x.partner x.key rs) none).1

pub said_given : (p : ℕ) (k : Bytes) (attribute : Attribute) (told : Bool) (partner : ℕ) (key : Bytes)
    (links : List LinkKey)
    → said_at partner key (with_link p k attribute told links) ≡ cond (is_row partner key p k) (given_as attribute)
    (said_at partner key links)
said_given p k attribute told partner key links = by_has (has_link p k links) refl
  where
    by_row : (b : Bool) → is_row partner key p k ≡ b → has_link p k links ≡ true
        → cond b
        (option_map (λ (y : LinkSaid). record { attribute = attribute; live = true }) (said_at partner key links))
        (said_at partner key links) ≡ cond b (given_as attribute) (said_at partner key links)
    by_row true is has =
        let both = and_parts (nat_eq partner p) (same_key key k) is in
        is_said partner key (record { attribute = attribute; live = true }) links
        (ap (λ x. has_link x key links) (eqb-true partner p both.0) ∙ ap (λ x. has_link p x links)
        (same_key-eq key k both.1) ∙ has)
    by_row false is has = refl

    by_has : (b : Bool) → has_link p k links ≡ b
        → said_at partner key
        (cond b (at_link p k (revived attribute told) links) (links ++ new_link p k attribute told ∷ []))
        ≡ cond (is_row partner key p k) (given_as attribute) (said_at partner key links)
    by_has true has =
        changed_said (revived attribute told) (λ (y : LinkSaid). record { attribute = attribute; live = true })
        (revived_keeps attribute told) (λ r. refl) p k partner key links ∙ by_row (is_row partner key p k) refl has
    by_has false has = said_behind (new_link p k attribute told) partner key links has

-- ---- the rows in their order

abbrev pub names : List LinkKey → List (ℕ × Bytes)
names links = map (λ (r : LinkKey). (r.partner, r.key)) links

pub names_same : (f : LinkKey → LinkKey) → Keeps f → (links : List LinkKey) → names (map f links) ≡ names links
names_same f keeps [] = refl
names_same f keeps (r ∷ rs) =
    ap (λ p. (p, (f r).key) ∷ names (map f rs)) (keeps.partner r) ∙ ap (λ k. (r.partner, k) ∷ names (map f rs))
    (keeps.key r) ∙ ap (λ ns. (r.partner, r.key) ∷ ns) (names_same f keeps rs)

pub names_at : (f : LinkKey → LinkKey) → Keeps f → (p : ℕ) (k : Bytes) (links : List LinkKey)
    → names (at_link p k f links) ≡ names links
names_at f keeps p k links = names_same (λ r. cond (is_link p k r) (f r) r) (some_keep f keeps (is_link p k)) links

pub told_keeps : (told : Bool) → Keeps (told_as told)
told_keeps told = record { partner = λ r. refl; key = λ r. refl }

pub names_told : (p : ℕ) (told : Bool) (links : List LinkKey) → names (with_told p told links) ≡ names links
names_told p told links = names_same (λ r. cond (is_live_of p r) (told_as told r) r)
    (some_keep (told_as told) (told_keeps told) (is_live_of p)) links

has_named : (p : ℕ) (k : Bytes) (links : List LinkKey) → has_link p k links
    ≡ list_any (λ (r : ℕ × Bytes). nat_eq r.0 p && same_key r.1 k) (names links)
has_named p k [] = refl
has_named p k (r ∷ rs) = ap (λ b. is_link p k r || b) (has_named p k rs)

pub names_given : (p : ℕ) (k : Bytes) (attribute : Attribute) (told : Bool) (links : List LinkKey)
    → names (with_link p k attribute told links) ≡ with_row p k (names links)
names_given p k attribute told links = by_has (has_link p k links) ∙ ap
    (λ b. cond b (names links) (names links ++ (p, k) ∷ [])) (has_named p k links)
  where
    by_has : (b : Bool)
        → names (cond b (at_link p k (revived attribute told) links) (links ++ new_link p k attribute told ∷ []))
        ≡ cond b (names links) (names links ++ (p, k) ∷ [])
    by_has true = names_at (revived attribute told) (revived_keeps attribute told) p k links
    by_has false = map-append (λ (r : LinkKey). (r.partner, r.key)) links (new_link p k attribute told ∷ [])

-- ---- no two rows have one partner and key: looking one up finds it

abbrev pub OwnRows : List LinkKey → List LinkKey → Type 0
OwnRows all rs = AllByRecursion (λ (r : LinkKey). find (is_link r.partner r.key) all ≡ Some r) rs

own_same : (f : LinkKey → LinkKey) → Keeps f → (all rs : List LinkKey) → OwnRows all rs
    → OwnRows (map f all) (map f rs)
own_same f keeps all [] own = tt
own_same f keeps all (r ∷ rs) own = (
  ap (λ p. find (is_link p (f r).key) (map f all)) (keeps.partner r) ∙ ap
      (λ k. find (is_link r.partner k) (map f all)) (keeps.key r)
      ∙ find-map (is_link r.partner r.key) f (is_same f keeps r.partner r.key) all ∙ ap (option_map f) own.0,
  own_same f keeps all rs own.1,
)

pub own_rows : (f : LinkKey → LinkKey) → Keeps f → (links : List LinkKey) → OwnRows links links
    → OwnRows (map f links) (map f links)
own_rows f keeps links own = own_same f keeps links links own

pub own_at : (f : LinkKey → LinkKey) → Keeps f → (p : ℕ) (k : Bytes) (links : List LinkKey) → OwnRows links links
    → OwnRows (at_link p k f links) (at_link p k f links)
own_at f keeps p k links own = own_rows (λ r. cond (is_link p k r) (f r) r) (some_keep f keeps (is_link p k)) links own

pub own_told : (p : ℕ) (told : Bool) (links : List LinkKey) → OwnRows links links
    → OwnRows (with_told p told links) (with_told p told links)
own_told p told links own = own_rows (λ r. cond (is_live_of p r) (told_as told r) r)
    (some_keep (told_as told) (told_keeps told) (is_live_of p)) links own

found_before : (test : LinkKey → Bool) (r x : LinkKey) (links : List LinkKey) → find test links ≡ Some r
    → find test (links ++ x ∷ []) ≡ Some r
found_before test r x [] found = absurd (no_row found)
  where
    is_row_there : Option LinkKey → Type 0
    is_row_there None = Unit {0}
    is_row_there (Some y) = ⊥

    no_row : None ≡ Some r → ⊥
    no_row e = subst is_row_there e tt
found_before test r x (y ∷ ys) found = by_test (test y) found (found_before test r x ys)
  where
    by_test : (b : Bool) → cond b (Some y) (find test ys) ≡ Some r
        → (find test ys ≡ Some r → find test (ys ++ x ∷ []) ≡ Some r)
        → cond b (Some y) (find test (ys ++ x ∷ [])) ≡ Some r
    by_test true found again = found
    by_test false found again = again found

found_behind : (test : LinkKey → Bool) (x : LinkKey) (links : List LinkKey) → list_any test links ≡ false
    → test x ≡ true → find test (links ++ x ∷ []) ≡ Some x
found_behind test x [] none is = ap (λ b. cond b (Some x) None) is
found_behind test x (y ∷ ys) none is =
    let others = parts (test y) (list_any test ys) none in
    ap (λ b. cond b (Some y) (find test (ys ++ x ∷ []))) others.0 ∙ found_behind test x ys others.1 is

own_more : (x : LinkKey) (all rs : List LinkKey) → OwnRows all rs → OwnRows (all ++ x ∷ []) rs
own_more x all [] own = tt
own_more x all (r ∷ rs) own = (found_before (is_link r.partner r.key) r x all own.0, own_more x all rs own.1)

pub own_given : (p : ℕ) (k : Bytes) (attribute : Attribute) (told : Bool) (links : List LinkKey)
    → OwnRows links links → OwnRows (with_link p k attribute told links) (with_link p k attribute told links)
own_given p k attribute told links own = by_has (has_link p k links) refl
  where
    x : LinkKey
    x = new_link p k attribute told

    itself : is_link p k x ≡ true
    itself = ap (λ b. b && same_key k k) (nat_eq-refl p) ∙ same_key-refl k

    by_has : (b : Bool) → has_link p k links ≡ b
        → OwnRows (cond b (at_link p k (revived attribute told) links) (links ++ x ∷ []))
        (cond b (at_link p k (revived attribute told) links) (links ++ x ∷ []))
    by_has true has = own_at (revived attribute told) (revived_keeps attribute told) p k links own
    by_has false has =
        all-append (λ (r : LinkKey). find (is_link r.partner r.key) (links ++ x ∷ []) ≡ Some r) links (x ∷ [])
        (own_more x links links own) (found_behind (is_link p k) x links has itself, tt)

-- ---- a device is live if one of its rows is

pub lives_in : (device : ℕ) (all rs : List LinkKey) → OwnRows all rs
    → list_any (λ (r : ℕ × Bytes). is_live_row (said_at r.0 r.1 all) && nat_eq r.0 device) (names rs)
    ≡ list_any (is_live_of device) rs
lives_in device all [] own = refl
lives_in device all (r ∷ rs) own =
    ap (λ o. is_live_row (option_map link_said o) && nat_eq r.partner device
    || list_any (λ (x : ℕ × Bytes). is_live_row (said_at x.0 x.1 all) && nat_eq x.0 device) (names rs)) own.0 ∙ ap
    (λ b. is_live_of device r || b) (lives_in device all rs own.1)
