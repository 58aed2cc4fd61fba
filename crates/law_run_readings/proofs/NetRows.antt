-- Network rows after the changes of rows: their keys in order, and whether each is live.
use Rattle.std.proofs.Common.{◌≡◌, Bool, true, false, cond, ◌||◌, List, [], ◌∷◌, ◌++◌, Option, Some, None, option_map, find, map, refl, sym, ap, ◌∙◌}
use Rattle.std.specs.List.{list_any}
use Rattle.std.proofs.lemmas.Bool.{false≢true}
use Rattle.std.proofs.lemmas.List.{map-append}
use Rattle.zb_model.specs.Data.{Bytes}
use Rattle.zb_model.specs.State.{NetKey, at_net, dropped_net, has_net, of_active, same_key}
use Rattle.law_run.proofs.Basics.{same_key-eq, same_key-refl}
use Rattle.law_run_readings.specs.RowLines.{first_given, with_key}

abbrev pub keys : List NetKey → List Bytes
keys nets = map (λ (r : NetKey). r.key) nets

abbrev pub live_at : Bytes → List NetKey → Option Bool
live_at key nets = option_map (λ (r : NetKey). r.live) (find (λ (r : NetKey). same_key r.key key) nets)

-- changes of rows that keep their keys
pub keys_same : (f : NetKey → NetKey) → ((r : NetKey) → (f r).key ≡ r.key) → (nets : List NetKey) → keys (map f nets)
    ≡ keys nets
keys_same f same [] = refl
keys_same f same (r ∷ rs) = ap (λ k. k ∷ keys (map f rs)) (same r) ∙ ap (λ ks. r.key ∷ ks) (keys_same f same rs)

-- and whether they are live
pub live_same : (f : NetKey → NetKey) → ((r : NetKey) → (f r).key ≡ r.key) → ((r : NetKey) → (f r).live ≡ r.live)
    → (key : Bytes) (nets : List NetKey) → live_at key (map f nets) ≡ live_at key nets
live_same f same live key [] = refl
live_same f same live key (r ∷ rs) =
    ap (λ k. option_map (λ (x : NetKey). x.live)
    (cond (same_key k key) (Some (f r)) (find (λ (x : NetKey). same_key x.key key) (map f rs)))) (same r) ∙
    by_test (same_key r.key key) (live_same f same live key rs)
  where
    by_test : (b : Bool) → live_at key (map f rs) ≡ live_at key rs
        → option_map (λ (x : NetKey). x.live)
        (cond b (Some (f r)) (find (λ (x : NetKey). same_key x.key key) (map f rs)))
        ≡ option_map (λ (x : NetKey). x.live) (cond b (Some r) (find (λ (x : NetKey). same_key x.key key) rs))
    by_test true again = ap (λ (b : Bool). Some b) (live r)
    by_test false again = again

-- a change of the rows of one key
if_key : (f : NetKey → NetKey) → ((r : NetKey) → (f r).key ≡ r.key) → (b : Bool) (r : NetKey) → (cond b (f r) r).key
    ≡ r.key
if_key f same true r = same r
if_key f same false r = refl

if_live : (f : NetKey → NetKey) → ((r : NetKey) → (f r).live ≡ r.live) → (b : Bool) (r : NetKey)
    → (cond b (f r) r).live ≡ r.live
if_live f same true r = same r
if_live f same false r = refl

pub keys_at : (f : NetKey → NetKey) → ((r : NetKey) → (f r).key ≡ r.key) → (k : Bytes) (nets : List NetKey)
    → keys (at_net k f nets) ≡ keys nets
keys_at f same k nets = keys_same (λ r. cond (same_key r.key k) (f r) r) (λ r. if_key f same (same_key r.key k) r) nets

pub live_of_at : (f : NetKey → NetKey) → ((r : NetKey) → (f r).key ≡ r.key) → ((r : NetKey) → (f r).live ≡ r.live)
    → (k key : Bytes) (nets : List NetKey) → live_at key (at_net k f nets) ≡ live_at key nets
live_of_at f same live k key nets = live_same (λ r. cond (same_key r.key k) (f r) r)
    (λ r. if_key f same (same_key r.key k) r) (λ r. if_live f live (same_key r.key k) r) key nets

pub keys_active : (f : NetKey → NetKey) → ((r : NetKey) → (f r).key ≡ r.key) → (o : Option Bytes) (nets : List NetKey)
    → keys (of_active f o nets) ≡ keys nets
keys_active f same None nets = refl
keys_active f same (Some k) nets = keys_at f same k nets

pub live_active : (f : NetKey → NetKey) → ((r : NetKey) → (f r).key ≡ r.key) → ((r : NetKey) → (f r).live ≡ r.live)
    → (o : Option Bytes) (key : Bytes) (nets : List NetKey) → live_at key (of_active f o nets) ≡ live_at key nets
live_active f same live None key nets = refl
live_active f same live (Some k) key nets = live_of_at f same live k key nets

-- ---- a drop

same_turned : (a b : Bytes) (t : Bool) → same_key a b ≡ t → same_key b a ≡ t
same_turned a b true is = ap (λ x. same_key b x) (same_key-eq a b is) ∙ same_key-refl b
same_turned a b false is = by_test (same_key b a) refl
  where
    by_test : (t : Bool) → same_key b a ≡ t → same_key b a ≡ false
    by_test true other =
        absurd (false≢true (sym is ∙ ap (λ x. same_key a x) (same_key-eq b a other) ∙ same_key-refl a))
    by_test false other = other

abbrev drops : Bool → Option Bool → Option Bool
drops b o = cond b (option_map (λ (live : Bool). false) o) o

live_here : (b : Bool) (r : NetKey) → option_map (λ (y : NetKey). y.live) (Some (cond b (dropped_net r) r))
    ≡ drops b (Some r.live)
live_here true r = refl
live_here false r = refl

pub live_dropped : (k key : Bytes) (nets : List NetKey) → live_at key (at_net k dropped_net nets)
    ≡ cond (same_key key k) (option_map (λ (live : Bool). false) (live_at key nets)) (live_at key nets)
live_dropped k key [] = by_test (same_key key k)
  where
    by_test : (b : Bool) → live_at key [] ≡ cond b (option_map (λ (live : Bool). false) (live_at key []))
        (live_at key [])
    by_test true = refl
    by_test false = refl
live_dropped k key (r ∷ rs) =
    ap (λ x. option_map (λ (y : NetKey). y.live)
    (cond (same_key x key) (Some (cond (same_key r.key k) (dropped_net r) r))
    (find (λ (y : NetKey). same_key y.key key) (at_net k dropped_net rs))))
    (if_key dropped_net (λ y. refl) (same_key r.key k) r)
    ∙ by_own (same_key r.key key) refl (live_dropped k key rs)
  where
    by_own : (b : Bool) → same_key r.key key ≡ b → live_at key (at_net k dropped_net rs)
        ≡ drops (same_key key k) (live_at key rs)
        → option_map (λ (y : NetKey). y.live)
        (cond b (Some (cond (same_key r.key k) (dropped_net r) r))
        (find (λ (y : NetKey). same_key y.key key) (at_net k dropped_net rs)))
        ≡ cond (same_key key k)
        (option_map (λ (live : Bool). false)
        (option_map (λ (y : NetKey). y.live) (cond b (Some r) (find (λ (y : NetKey). same_key y.key key) rs))))
        (option_map (λ (y : NetKey). y.live) (cond b (Some r) (find (λ (y : NetKey). same_key y.key key) rs)))
    by_own true is again = live_here (same_key r.key k) r ∙ ap (λ (x : Bytes). drops (same_key x k) (Some r.live))
        (same_key-eq r.key key is)
    by_own false is again = again

-- ---- one more row

has_as : (key : Bytes) (nets : List NetKey) → list_any (λ (k : Bytes). same_key k key) (keys nets) ≡ has_net key nets
has_as key [] = refl
has_as key (r ∷ rs) = ap (λ b. same_key r.key key || b) (has_as key rs)

pub keys_more : (x : NetKey) (nets : List NetKey) → keys (cond (has_net x.key nets) nets (nets ++ x ∷ []))
    ≡ with_key x.key (keys nets)
keys_more x nets = by_test (has_net x.key nets) ∙ ap (λ b. cond b (keys nets) (keys nets ++ x.key ∷ []))
    (sym (has_as x.key nets))
  where
    by_test : (b : Bool) → keys (cond b nets (nets ++ x ∷ [])) ≡ cond b (keys nets) (keys nets ++ x.key ∷ [])
    by_test true = refl
    by_test false = map-append (λ (r : NetKey). r.key) nets (x ∷ [])

-- after rows of which none has its key
live_behind : (x : NetKey) (key : Bytes) (nets : List NetKey) → x.live ≡ true → has_net x.key nets ≡ false
    → live_at key (nets ++ x ∷ []) ≡ cond (same_key key x.key) (first_given (live_at key nets)) (live_at key nets)
live_behind x key [] live none = by_test (same_key key x.key) refl
  where
    by_test : (b : Bool) → same_key key x.key ≡ b
        → option_map (λ (y : NetKey). y.live) (cond (same_key x.key key) (Some x) None) ≡ cond b (Some true) None
    by_test true is = ap (λ t. option_map (λ (y : NetKey). y.live) (cond t (Some x) None))
        (same_turned key x.key true is) ∙ ap (λ (b : Bool). Some b) live
    by_test false is = ap (λ t. option_map (λ (y : NetKey). y.live) (cond t (Some x) None))
        (same_turned key x.key false is)
live_behind x key (r ∷ rs) live none = by_own (same_key r.key key) refl (λ other. live_behind x key rs live other)
  where
    parts : (a b : Bool) → (a || b) ≡ false → (a ≡ false) × (b ≡ false)
    parts true b e = absurd (false≢true (sym e))
    parts false b e = (refl, e)

    other : same_key r.key key ≡ true → same_key key x.key ≡ false
    other is = ap (λ y. same_key y x.key) (sym (same_key-eq r.key key is)) ∙
        (parts (same_key r.key x.key) (has_net x.key rs) none).0

    by_own : (b : Bool) → same_key r.key key ≡ b
        → (has_net x.key rs ≡ false → live_at key (rs ++ x ∷ [])
        ≡ cond (same_key key x.key) (first_given (live_at key rs)) (live_at key rs))
        → option_map (λ (y : NetKey). y.live)
        (cond b (Some r) (find (λ (y : NetKey). same_key y.key key) (rs ++ x ∷ [])))
        ≡ cond (same_key key x.key)
        (first_given
        (option_map (λ (y : NetKey). y.live) (cond b (Some r) (find (λ (y : NetKey). same_key y.key key) rs))))
        (option_map (λ (y : NetKey). y.live) (cond b (Some r) (find (λ (y : NetKey). same_key y.key key) rs)))
    by_own true is again = ap (λ t. cond t (first_given (Some r.live)) (Some r.live)) (sym (other is))
    by_own false is again = again (parts (same_key r.key x.key) (has_net x.key rs) none).1

is_there : (key : Bytes) (nets : List NetKey) → has_net key nets ≡ true → first_given (live_at key nets)
    ≡ live_at key nets
is_there key [] has = absurd (false≢true has)
is_there key (r ∷ rs) has = by_test (same_key r.key key) has (is_there key rs)
  where
    by_test : (b : Bool) → (b || has_net key rs) ≡ true
        → (has_net key rs ≡ true → first_given (live_at key rs) ≡ live_at key rs)
        → first_given
        (option_map (λ (y : NetKey). y.live) (cond b (Some r) (find (λ (y : NetKey). same_key y.key key) rs)))
        ≡ option_map (λ (y : NetKey). y.live) (cond b (Some r) (find (λ (y : NetKey). same_key y.key key) rs))
    by_test true more again = refl
    by_test false more again = again more

pub live_more : (x : NetKey) (key : Bytes) (nets : List NetKey) → x.live ≡ true
    → live_at key (cond (has_net x.key nets) nets (nets ++ x ∷ []))
    ≡ cond (same_key key x.key) (first_given (live_at key nets)) (live_at key nets)
live_more x key nets live = by_has (has_net x.key nets) refl
  where
    by_key : (b : Bool) → same_key key x.key ≡ b → has_net x.key nets ≡ true → live_at key nets
        ≡ cond b (first_given (live_at key nets)) (live_at key nets)
    by_key true is has = sym (is_there key nets (ap (λ k. has_net k nets) (same_key-eq key x.key is) ∙ has))
    by_key false is has = refl

    by_has : (b : Bool) → has_net x.key nets ≡ b → live_at key (cond b nets (nets ++ x ∷ []))
        ≡ cond (same_key key x.key) (first_given (live_at key nets)) (live_at key nets)
    by_has true has = by_key (same_key key x.key) refl has
    by_has false has = live_behind x key nets live has
