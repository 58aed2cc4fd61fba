-- Rows by their place, and the row of the active key alone goes on where its counter is used.
use Rattle.std.proofs.Common.{◌≡◌, ℕ, zero, suc, ◌+◌, ◌<◌, ◌≤◌, List, [], ◌∷◌, length, map, get_or, refl, sym, ap, ◌∙◌, Bool, true, false, not, if◌then◌else◌, ◌&&◌, Option, Some, None}
use Rattle.std.specs.Prelude.{find, option_map, slice_get, nat_le, nat_lt}
use Rattle.std.specs.List.{list_any, list_all}
use Rattle.std.proofs.lemmas.Bool.{not-true}
use Rattle.std.proofs.lemmas.Option.{slice_get_read, slice_get_past, slice_get-map}
use Rattle.zb_model.specs.Data.{Bytes, Layer, Nwk, Aps}
use Rattle.zb_model.specs.State as model
use Rattle.zb_model.specs.State.{NodeState, SenderFloor, NetKey, same_key, net_of, active_row, at_net, of_active, next_at, next_counter, after_counting}
use Rattle.zb_model.specs.Fits.{keeps_rules, keys_differ, active_is_live, row_is_live, floors_are_kept, senders_ascend, most_senders, all_apart}
use Rattle.law_change_fits.proofs.Tests.{neither, any_same}
use Rattle.law_change_fits.proofs.Parts.{nets_alike, same_key_is, same_key_sym}
use Rattle.zb_keys.specs.Places.{gone_on, net_at, live_floors}
use Rattle.zb_keys.proofs.StateLemmas.{both, rules_of}

-- ---- what is at a place

pub at_some : {X : Type 0} (xs : List X) (place : ℕ) (x : X) → place < length xs → x ≡ get_or xs place x
    → Some x ≡ slice_get xs place
at_some xs place x lt is = sym (slice_get_read xs (length xs) place x refl lt is)

pub at_none : {X : Type 0} (xs : List X) (place : ℕ) → length xs ≤ place → None ≡ slice_get xs place
at_none xs place le = sym (slice_get_past xs place le)

-- the same of what is read of each item
pub read_some : {X Y Z : Type 0} (f : Y → Z) (view : X → Y) (xs : List X) (place : ℕ) (x : X) → place < length xs
    → x ≡ get_or xs place x
    → Some (f (view x)) ≡ slice_get (map f (map view xs)) place
read_some f view xs place x lt is =
    ap (λ o. option_map f (option_map view o)) (at_some xs place x lt is)
    ∙ ap (option_map f) (sym (slice_get-map view xs place)) ∙ sym (slice_get-map f (map view xs) place)

pub read_none : {X Y Z : Type 0} (f : Y → Z) (view : X → Y) (xs : List X) (place : ℕ) → length xs ≤ place
    → None ≡ slice_get (map f (map view xs)) place
read_none f view xs place le =
    ap (λ o. option_map f (option_map view o)) (at_none xs place le)
    ∙ ap (option_map f) (sym (slice_get-map view xs place)) ∙ sym (slice_get-map f (map view xs) place)

-- ---- a row that was found in the program's list, in the model's

pub seen_at : {X Y : Type 0} (view : X → Y) (o : Option X) (xs : List X) (ys : List Y) (place : ℕ)
    → o ≡ slice_get xs place → map view xs ≡ ys
    → option_map view o ≡ slice_get ys place
seen_at view o xs ys place is seen =
    ap (option_map view) is ∙ sym (slice_get-map view xs place) ∙ ap (λ l. slice_get l place) seen

-- ---- the floors at a place ascend

abbrev floors_ascend : NetKey → Bool
floors_ascend r =
    nat_le (length r.floors) most_senders
    && (list_all (λ (f : SenderFloor). nat_lt 0 f.stored) r.floors && senders_ascend r.floors)

ascends_in : (nets : List NetKey) (place : ℕ) → list_all floors_ascend nets ≡ true
    → senders_ascend (live_floors (slice_get nets place)) ≡ true
ascends_in [] place all = refl
ascends_in (r ∷ rs) zero all =
    let here = both (floors_ascend r) (list_all floors_ascend rs) all in
    let last = both (nat_le (length r.floors) most_senders) _ here.0 in
    by_live r.live (both (list_all (λ (f : SenderFloor). nat_lt 0 f.stored) r.floors) _ last.1).1
  where
    by_live : (b : Bool) → senders_ascend r.floors ≡ true → senders_ascend (if b then r.floors else []) ≡ true
    by_live true up = up
    by_live false up = refl
ascends_in (r ∷ rs) (suc place) all = ascends_in rs place (both (floors_ascend r) (list_all floors_ascend rs) all).1

pub ascends_at : (s : NodeState) (place : ℕ) → keeps_rules s ≡ true
    → senders_ascend (live_floors (net_at place s)) ≡ true
unfolding floors_are_kept
ascends_at s place kept = ascends_in s.nets place (rules_of s kept).floors

-- ---- the next counter of the active key is used

none_at : (key : Bytes) (f : NetKey → NetKey) (nets : List NetKey)
    → list_any (λ (r : NetKey). same_key r.key key) nets ≡ false → at_net key f nets ≡ nets
none_at key f [] none = refl
none_at key f (r ∷ rs) none =
    let parts = neither (same_key r.key key) (list_any (λ (x : NetKey). same_key x.key key) rs) none in
    ap (λ b. (if b then f r else r) ∷ at_net key f rs) parts.0 ∙ ap (λ l. r ∷ l) (none_at key f rs parts.1)

-- two changes that do the same to the one row of a key
one_row : (key : Bytes) (f g : NetKey → NetKey) (nets : List NetKey) (r : NetKey) → all_apart nets_alike nets ≡ true
    → find (λ (x : NetKey). same_key x.key key) nets ≡ Some r → f r ≡ g r → at_net key f nets ≡ at_net key g nets
one_row key f g [] r apart found same = refl
one_row key f g (x ∷ xs) r apart found same =
    let parts = both (not (list_any (nets_alike x) xs)) (all_apart nets_alike xs) apart in
    at_test (same_key x.key key) refl (not-true _ parts.0) found (λ e. one_row key f g xs r parts.1 e same)
  where
    at_test : (b : Bool) → same_key x.key key ≡ b → list_any (nets_alike x) xs ≡ false
        → (if b then Some x else find (λ (y : NetKey). same_key y.key key) xs) ≡ Some r
        → (find (λ (y : NetKey). same_key y.key key) xs ≡ Some r → at_net key f xs ≡ at_net key g xs)
        → ◌≡◌ {A = List NetKey} ((if b then f x else x) ∷ at_net key f xs) ((if b then g x else x) ∷ at_net key g xs)
    at_test true is alone found later =
        let here : x ≡ r = cc in
        let none : list_any (λ (y : NetKey). same_key y.key key) xs ≡ false =
        any_same (λ (y : NetKey). same_key y.key key) (nets_alike x)
        (λ y. same_key_sym y.key key ∙ ap (λ k. same_key k y.key) (sym (same_key_is x.key key is))) xs ∙ alone in
        ap (λ l. f x ∷ l) (none_at key f xs none) ∙ ap (λ y. y ∷ xs) (ap f here ∙ same ∙ ap g (sym here))
        ∙ ap (λ l. g x ∷ l) (sym (none_at key g xs none))
    at_test false is alone found later = ap (λ l. x ∷ l) (later found)

counted_row : (s : NodeState) (key : Bytes) → s.active ≡ Some key → keeps_rules s ≡ true
    → at_net key (next_at (next_counter Nwk s + 1)) s.nets ≡ at_net key (λ r. next_at (r.next + 1) r) s.nets
unfolding next_counter active_row active_is_live keys_differ
counted_row s key is kept =
    let live : row_is_live (net_of key s) ≡ true = rw is at (rules_of s kept).active in
    let apart = both (all_apart nets_alike s.nets) _ (rules_of s kept).keys in
    rw is (by_row (net_of key s) refl live apart.0)
  where
    by_row : (o : Option NetKey) → net_of key s ≡ o → row_is_live o ≡ true → all_apart nets_alike s.nets ≡ true
        → at_net key (next_at (model.next_of s.declared (net_of key s) + 1)) s.nets
        ≡ at_net key (λ r. next_at (r.next + 1) r) s.nets
    by_row None found live apart = absurd (cc)
    by_row (Some r) found live apart =
        ap (λ o. at_net key (next_at (model.next_of s.declared o + 1)) s.nets) found
        ∙ one_row key (next_at (r.next + 1)) (λ x. next_at (x.next + 1) x) s.nets r apart found refl

counted_aps : (s : NodeState) → gone_on Aps (next_counter Aps s + 1) s ≡ after_counting Aps s
unfolding next_counter after_counting
counted_aps s = refl

pub counted : (layer : Layer) (s : NodeState) → keeps_rules s ≡ true
    → gone_on layer (next_counter layer s + 1) s ≡ after_counting layer s
unfolding after_counting
counted Nwk s kept = by_active s.active refl
  where
    by_active : (o : Option Bytes) → s.active ≡ o
        → ◌≡◌ {A = NodeState} (record s { nets = of_active (next_at (next_counter Nwk s + 1)) o s.nets })
        (record s { nets = of_active (λ r. next_at (r.next + 1) r) o s.nets })
    by_active None is = refl
    by_active (Some key) is = ap (λ l. record s { nets = l }) (counted_row s key is kept)
counted Aps s kept = counted_aps s
