-- A floor is stored: the rules are kept after it if its sender has one, or if there is room and it isn't 0.
use Rattle.std.proofs.Common.{◌≡◌, ℕ, suc, ◌+◌, ◌<◌, ◌≤◌, List, [], ◌∷◌, length, refl, sym, ap, ◌∙◌, arith, Bool, true, false, not, if◌then◌else◌, ◌&&◌, ◌||◌, Option, Some, None, max}
use Rattle.std.specs.Prelude.{find, nat_le, nat_lt, nat_eq}
use Rattle.std.specs.List.{list_any, list_all}
use Rattle.std.proofs.lemmas.Bool.{not-true, lt-ltb, ltb-true, ltb-false, leb-true, le-leb, eq-eqb, ne_eqb, eqb-true, eqb-false}
use Rattle.zb_model.specs.Data.{Bytes}
use Rattle.zb_model.specs.State.{NodeState, SenderFloor, NetKey, same_key, net_of, at_net, net_floor, floor_stored}
use Rattle.zb_model.specs.Fits.{keeps_rules, senders_ascend, row_is_live, most_senders, all_apart}
use Rattle.law_change_fits.specs.Fitting.{has_floor, floor_has_room}
use Rattle.law_change_fits.proofs.Tests.{both, neither, same_both, all_from, any_same}
use Rattle.law_change_fits.proofs.Parts.{Rules, rules_of, floors_rule, nets_alike, same_key_is, same_key_sym}
use Rattle.law_change_fits.proofs.Nets.{Mild, mild_at, mild_kept}

abbrev above : ℕ → SenderFloor → Bool
above m g = nat_lt m g.sender

abbrev isnt_zero : SenderFloor → Bool
isnt_zero f = nat_lt 0 f.stored

abbrev new_floor : ℕ → ℕ → SenderFloor
new_floor sender value = record { sender = sender; kept = 0; stored = value }

abbrev raised_floor : ℕ → SenderFloor → SenderFloor
raised_floor value f = record f { stored = max f.stored value }

-- senders above are other senders
none_below : (sender m : ℕ) (fs : List SenderFloor) → sender ≤ m → list_all (above m) fs ≡ true → has_floor sender fs
    ≡ false
none_below sender m [] le all = refl
none_below sender m (f ∷ fs) le all =
    let parts = both (above m f) (list_all (above m) fs) all in
    let lt : m < f.sender = ltb-true _ _ parts.0 in
    let other : nat_eq f.sender sender ≡ false = ne_eqb f.sender sender (λ e. omega (arith, lt, le, e)) in
    rw other (none_below sender m fs le parts.1)

-- how the first floor compares
module _ (sender value : ℕ) (f : SenderFloor) (fs : List SenderFloor) (up : list_all (above f.sender) fs ≡ true) where
  lower : nat_lt sender f.sender ≡ true → has_floor sender (f ∷ fs) ≡ false
  lower lt =
      let less : sender < f.sender = ltb-true _ _ lt in
      let other : nat_eq f.sender sender ≡ false = ne_eqb f.sender sender (λ e. omega (arith, less, e)) in
      rw other (none_below sender f.sender fs (omega (arith, less)) up)

  here : nat_eq sender f.sender ≡ true → has_floor sender (f ∷ fs) ≡ true
  here e =
      let same : nat_eq f.sender sender ≡ true = eq-eqb _ _ (sym (eqb-true _ _ e)) in
      rw same refl

  higher : nat_eq sender f.sender ≡ false → has_floor sender (f ∷ fs) ≡ has_floor sender fs
  higher e =
      let other : nat_eq f.sender sender ≡ false = ne_eqb f.sender sender (λ k. eqb-false _ _ e (sym k)) in
      rw other refl

  greater : nat_lt sender f.sender ≡ false → nat_eq sender f.sender ≡ false → f.sender < sender
  greater l e = omega (arith, ltb-false _ _ l, eqb-false _ _ e)

stored_length : (sender value : ℕ) (fs : List SenderFloor) → senders_ascend fs ≡ true
    → length (floor_stored sender value fs) ≡ (if has_floor sender fs then length fs else length fs + 1)
stored_length sender value [] a = refl
stored_length sender value (f ∷ fs) a =
    let parts = both (list_all (above f.sender) fs) (senders_ascend fs) a in
    at_tests (nat_lt sender f.sender) (nat_eq sender f.sender) refl refl parts.0
    (stored_length sender value fs parts.1)
  where
    more : (b : Bool) (n k : ℕ) → n ≡ (if b then k else k + 1) → suc n ≡ (if b then suc k else suc k + 1)
    more true n k e = ap suc e
    more false n k e = omega (arith, e)

    at_tests : (b c : Bool) → nat_lt sender f.sender ≡ b → nat_eq sender f.sender ≡ c → list_all (above f.sender) fs
        ≡ true
        → length (floor_stored sender value fs) ≡ (if has_floor sender fs then length fs else length fs + 1)
        → length (if b then new_floor sender value ∷ f ∷ fs
        else (if c then raised_floor value f ∷ fs else f ∷ floor_stored sender value fs))
        ≡ (if has_floor sender (f ∷ fs) then length (f ∷ fs) else length (f ∷ fs) + 1)
    at_tests true c lt eq up e = let none = lower sender value f fs up lt in rw none (omega arith)
    at_tests false true lt eq up e = let is = here sender value f fs up eq in rw is refl
    at_tests false false lt eq up e =
        let later = higher sender value f fs up eq in
        rw later (more (has_floor sender fs) (length (floor_stored sender value fs)) (length fs) e)

stored_positive : (sender value : ℕ) (fs : List SenderFloor) → senders_ascend fs ≡ true → list_all isnt_zero fs ≡ true
    → list_all isnt_zero (floor_stored sender value fs) ≡ (has_floor sender fs || nat_lt 0 value)
stored_positive sender value [] a p = at_test (nat_lt 0 value)
  where
    at_test : (b : Bool) → (b && true) ≡ (false || b)
    at_test true = refl
    at_test false = refl
stored_positive sender value (f ∷ fs) a p =
    let parts = both (list_all (above f.sender) fs) (senders_ascend fs) a in
    let known = both (isnt_zero f) (list_all isnt_zero fs) p in
    at_tests (nat_lt sender f.sender) (nat_eq sender f.sender) refl refl parts.0 known.0 known.1
    (stored_positive sender value fs parts.1 known.1)
  where
    and_true : (b : Bool) → (b && true) ≡ b
    and_true true = refl
    and_true false = refl

    at_tests : (b c : Bool) → nat_lt sender f.sender ≡ b → nat_eq sender f.sender ≡ c → list_all (above f.sender) fs
        ≡ true → isnt_zero f ≡ true → list_all isnt_zero fs ≡ true
        → list_all isnt_zero (floor_stored sender value fs) ≡ (has_floor sender fs || nat_lt 0 value)
        → list_all isnt_zero (if b then new_floor sender value ∷ f ∷ fs
        else (if c then raised_floor value f ∷ fs else f ∷ floor_stored sender value fs))
        ≡ (has_floor sender (f ∷ fs) || nat_lt 0 value)
    at_tests true c lt eq up one all e = let none = lower sender value f fs up lt in rw (none, one, all)
        (and_true (nat_lt 0 value))
    at_tests false true lt eq up one all e =
        let is = here sender value f fs up eq in
        let some : nat_lt 0 (max f.stored value) ≡ true = lt-ltb _ _ (omega (arith, ltb-true 0 f.stored one)) in
        rw (is, some, all) refl
    at_tests false false lt eq up one all e =
        let later = higher sender value f fs up eq in
        rw (later, one) e

all_above : (m sender value : ℕ) (fs : List SenderFloor) → m < sender → list_all (above m) fs ≡ true
    → list_all (above m) (floor_stored sender value fs) ≡ true
all_above m sender value [] lt all = let first : nat_lt m sender ≡ true = lt-ltb _ _ lt in rw first refl
all_above m sender value (f ∷ fs) lt all =
    let parts = both (above m f) (list_all (above m) fs) all in
    at_tests (nat_lt sender f.sender) (nat_eq sender f.sender) (lt-ltb _ _ lt) parts.0 parts.1
    (all_above m sender value fs lt parts.1)
  where
    at_tests : (b c : Bool) → nat_lt m sender ≡ true → above m f ≡ true → list_all (above m) fs ≡ true
        → list_all (above m) (floor_stored sender value fs) ≡ true
        → list_all (above m) (if b then new_floor sender value ∷ f ∷ fs
        else (if c then raised_floor value f ∷ fs else f ∷ floor_stored sender value fs)) ≡ true
    at_tests true c new one all later = rw (new, one) all
    at_tests false true new one all later = rw one all
    at_tests false false new one all later = rw one later

stored_ascend : (sender value : ℕ) (fs : List SenderFloor) → senders_ascend fs ≡ true
    → senders_ascend (floor_stored sender value fs) ≡ true
stored_ascend sender value [] a = refl
stored_ascend sender value (f ∷ fs) a =
    let parts = both (list_all (above f.sender) fs) (senders_ascend fs) a in
    at_tests (nat_lt sender f.sender) (nat_eq sender f.sender) refl refl parts.0 parts.1
    (stored_ascend sender value fs parts.1)
  where
    at_tests : (b c : Bool) → nat_lt sender f.sender ≡ b → nat_eq sender f.sender ≡ c → list_all (above f.sender) fs
        ≡ true → senders_ascend fs ≡ true → senders_ascend (floor_stored sender value fs) ≡ true
        → senders_ascend (if b then new_floor sender value ∷ f ∷ fs
        else (if c then raised_floor value f ∷ fs else f ∷ floor_stored sender value fs)) ≡ true
    at_tests true c lt eq up asc later =
        let less : sender < f.sender = ltb-true _ _ lt in
        let wide : list_all (above sender) fs ≡ true = all_from (above f.sender) (above sender)
        (λ g e. lt-ltb _ _ (omega (arith, less, ltb-true f.sender g.sender e))) fs up in
        rw (lt, wide, up) asc
    at_tests false true lt eq up asc later = rw up asc
    at_tests false false lt eq up asc later =
        let wide = all_above f.sender sender value fs (greater sender value f fs up lt eq) up in
        rw wide later

-- the rule for the row in which the floor is stored
row_after : (sender value : ℕ) (r : NetKey) → floors_rule r ≡ true → floors_rule (net_floor sender value r)
    ≡ floor_has_room sender value (Some r)
row_after sender value r kept =
    let parts = both (nat_le (length r.floors) most_senders) _ kept in
    let more = both (list_all isnt_zero r.floors) (senders_ascend r.floors) parts.1 in
    rw (
      stored_length sender value r.floors more.1,
      stored_positive sender value r.floors more.1 more.0,
      stored_ascend sender value r.floors more.1,
    )
    (at_test (has_floor sender r.floors) (nat_lt 0 value) parts.0)
  where
    next : nat_le (length r.floors + 1) most_senders ≡ nat_lt (length r.floors) most_senders
    next = same_both _ _ (λ e. lt-ltb _ _ (omega (arith, leb-true (length r.floors + 1) 64 e)))
        (λ e. le-leb _ _ (omega (arith, ltb-true (length r.floors) 64 e)))

    swap : (a b : Bool) → (a && (b && true)) ≡ (b && a)
    swap true true = refl
    swap true false = refl
    swap false true = refl
    swap false false = refl

    at_test : (b c : Bool) → nat_le (length r.floors) most_senders ≡ true
        → (nat_le (if b then length r.floors else length r.floors + 1) most_senders && ((b || c) && true))
        ≡ (b || (c && nat_lt (length r.floors) most_senders))
    at_test true c room = rw room refl
    at_test false c room = rw next (swap (nat_lt (length r.floors) most_senders) c)

-- only one row has the key
none_at : (key : Bytes) (f : NetKey → NetKey) (nets : List NetKey)
    → list_any (λ (r : NetKey). same_key r.key key) nets ≡ false → at_net key f nets ≡ nets
none_at key f [] none = refl
none_at key f (r ∷ rs) none =
    let parts = neither (same_key r.key key) (list_any (λ (x : NetKey). same_key x.key key) rs) none in
    ap (λ b. (if b then f r else r) ∷ at_net key f rs) parts.0 ∙ ap (λ l. r ∷ l) (none_at key f rs parts.1)

floors_after : (key : Bytes) (f : NetKey → NetKey) (nets : List NetKey) (r : NetKey) → all_apart nets_alike nets
    ≡ true → list_all floors_rule nets ≡ true → find (λ (x : NetKey). same_key x.key key) nets ≡ Some r
    → list_all floors_rule (at_net key f nets) ≡ floors_rule (f r)
floors_after key f [] r apart all found = absurd (cc)
floors_after key f (x ∷ xs) r apart all found =
    let parts = both (not (list_any (nets_alike x) xs)) (all_apart nets_alike xs) apart in
    let rules = both (floors_rule x) (list_all floors_rule xs) all in
    at_test (same_key x.key key) refl (not-true _ parts.0) rules.0 rules.1 found
    (λ e. floors_after key f xs r parts.1 rules.1 e)
  where
    and_true : (b : Bool) → (b && true) ≡ b
    and_true true = refl
    and_true false = refl

    at_test : (b : Bool) → same_key x.key key ≡ b → list_any (nets_alike x) xs ≡ false → floors_rule x ≡ true
        → list_all floors_rule xs ≡ true
        → (if b then Some x else find (λ (y : NetKey). same_key y.key key) xs) ≡ Some r
        → (find (λ (y : NetKey). same_key y.key key) xs ≡ Some r → list_all floors_rule (at_net key f xs)
        ≡ floors_rule (f r))
        → (floors_rule (if b then f x else x) && list_all floors_rule (at_net key f xs)) ≡ floors_rule (f r)
    at_test true is alone one all found later =
        let same : x ≡ r = cc in
        let none : list_any (λ (y : NetKey). same_key y.key key) xs ≡ false =
        any_same (λ (y : NetKey). same_key y.key key) (nets_alike x)
        (λ y. same_key_sym y.key key ∙ ap (λ k. same_key k y.key) (sym (same_key_is x.key key is))) xs ∙ alone in
        ap (λ l. floors_rule (f x) && list_all floors_rule l) (none_at key f xs none)
        ∙ ap (λ b. floors_rule (f x) && b) all ∙ and_true (floors_rule (f x)) ∙ ap (λ y. floors_rule (f y)) same
    at_test false is alone one all found later = ap (λ b. b && list_all floors_rule (at_net key f xs)) one ∙ later
        found

floor_is_mild : (sender value : ℕ) → Mild (net_floor sender value)
floor_is_mild sender value = record { key = λ r. refl; live = λ r. refl; limit = λ r e. e }

pub floored_kept : (key : Bytes) (sender value : ℕ) (s : NodeState) → Rules s → (o : Option NetKey) → net_of key s ≡ o
    → row_is_live o ≡ true
    → keeps_rules (record s { nets = at_net key (net_floor sender value) s.nets }) ≡ floor_has_room sender value o
floored_kept key sender value s r None is live = absurd (cc)
floored_kept key sender value s r (Some row) is live =
    let now : NodeState = record s { nets = at_net key (net_floor sender value) s.nets } in
    let rule : floors_rule row ≡ true = found_rule s.nets r.floors is in
    let after : list_all floors_rule (at_net key (net_floor sender value) s.nets)
    ≡ floor_has_room sender value (Some row) =
    floors_after key (net_floor sender value) s.nets row r.net_keys r.floors is ∙ row_after sender value row rule in
    same_both (keeps_rules now) (floor_has_room sender value (Some row))
    (λ kept. sym after ∙ (rules_of now kept).floors)
    (λ fit. mild_kept (λ (x : NetKey). if same_key x.key key then net_floor sender value x
    else x) (mild_at key (net_floor sender value) (floor_is_mild sender value)) s r (after ∙ fit))
  where
    by_test : (b : Bool) (x : NetKey) (o : Option NetKey) → floors_rule x ≡ true
        → (o ≡ Some row → floors_rule row ≡ true) → (if b then Some x else o) ≡ Some row → floors_rule row ≡ true
    by_test true x o here later found = let same : x ≡ row = cc in rw (← same) here
    by_test false x o here later found = later found

    found_rule : (nets : List NetKey) → list_all floors_rule nets ≡ true
        → find (λ (x : NetKey). same_key x.key key) nets ≡ Some row → floors_rule row ≡ true
    found_rule [] all found = absurd (cc)
    found_rule (x ∷ xs) all found =
        let parts = both (floors_rule x) (list_all floors_rule xs) all in
        by_test (same_key x.key key) x (find (λ (y : NetKey). same_key y.key key) xs) parts.0
        (λ e. found_rule xs parts.1 e) found
