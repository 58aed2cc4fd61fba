-- Network rows: a row that a rule found is the one of its key; before a third live key comes one is dropped.
use Rattle.std.proofs.Common.{◌≡◌, ℕ, ◌<◌, ◌≤◌, List, [], ◌∷◌, ◌++◌, length, refl, sym, ap, ◌∙◌, arith, Bool, true, false, not, if◌then◌else◌, ◌&&◌, ◌||◌, Option, Some, None}
use Rattle.std.specs.Prelude.{find, filter, nat_lt, nat_le, is_none}
use Rattle.std.specs.List.{list_any}
use Rattle.std.proofs.lemmas.Bool.{not-true, lt-ltb, leb-true, leb-false}
use Rattle.std.proofs.lemmas.List.{length-map}
use Rattle.zb_model.specs.Data.{Bytes, State, Move, Install, Active, Became, Roll}
use Rattle.zb_model.specs.State.{NetKey, NodeState, same_key, is_centre, is_active_key, has_net, live_nets, at_net, dropped_net, new_net, moved}
use Rattle.zb_model.specs.Fits.{all_apart, row_is_live, live_net}
use Rattle.zb_model.specs.Rules.{nets_full, first_drop, drop_old}
use Rattle.zb_model.specs.Answer.{changes, activated}
use Rattle.law_change_fits.proofs.Tests.{both, neither, never, any_map, any_from, any_same, apart_filter}
use Rattle.law_change_fits.proofs.Parts.{Rules, nets_alike, same_key_is, same_key_of}
use Rattle.law_answer_storable.proofs.Lists.{Heads, heads_of, any_filter}
use Rattle.law_answer_storable.proofs.Moves.{move_fits, moves_fit}

abbrev of_key : Bytes → NetKey → Bool
of_key key r = same_key r.key key

-- what is found and has a property
abbrev pub has : (NetKey → Bool) → Option NetKey → Bool
has q None = false
has q (Some r) = q r

-- a row of a key that has a property: it is the one that is found, because no two have one key
pub found_has : (q : NetKey → Bool) (key : Bytes) (nets : List NetKey) → all_apart nets_alike nets ≡ true
    → list_any (λ (r : NetKey). q r && same_key r.key key) nets ≡ true
    → has q (find (λ (r : NetKey). same_key r.key key) nets) ≡ true
found_has q key [] apart some = absurd (cc)
found_has q key (x ∷ xs) apart some =
    let parts = both (not (list_any (nets_alike x) xs)) (all_apart nets_alike xs) apart in
    by_test (same_key x.key key) refl (not-true _ parts.0) some (found_has q key xs parts.1)
  where
    alike : same_key x.key key ≡ true → list_any (λ (r : NetKey). q r && same_key r.key key) xs ≡ true
        → list_any (nets_alike x) xs ≡ true
    alike is e = any_from (λ (r : NetKey). q r && same_key r.key key) (nets_alike x)
        (λ y k. same_key_of x.key y.key
        (same_key_is x.key key is ∙ sym (same_key_is y.key key (both (q y) (same_key y.key key) k).1))) xs e

    first : (b : Bool) → same_key x.key key ≡ true → list_any (nets_alike x) xs ≡ false
        → ((b && true) || list_any (λ (r : NetKey). q r && same_key r.key key) xs) ≡ true → b ≡ true
    first true is alone e = refl
    first false is alone e = never (list_any (nets_alike x) xs) (alike is e) alone

    drop_false : (b : Bool) (c : Bool) → ((b && false) || c) ≡ true → c ≡ true
    drop_false true c e = e
    drop_false false c e = e

    by_test : (b : Bool) → same_key x.key key ≡ b → list_any (nets_alike x) xs ≡ false
        → ((q x && b) || list_any (λ (r : NetKey). q r && same_key r.key key) xs) ≡ true
        → (list_any (λ (r : NetKey). q r && same_key r.key key) xs ≡ true → has q (find (of_key key) xs) ≡ true)
        → has q (if b then Some x else find (of_key key) xs) ≡ true
    by_test true is alone e later = first (q x) is alone e
    by_test false is alone e later =
        later (drop_false (q x) (list_any (λ (r : NetKey). q r && same_key r.key key) xs) e)

has_live : (o : Option NetKey) → has (λ (r : NetKey). r.live) o ≡ row_is_live o
has_live None = refl
has_live (Some r) = refl

pub live_found : (key : Bytes) (nets : List NetKey) → all_apart nets_alike nets ≡ true
    → list_any (λ (r : NetKey). r.live && same_key r.key key) nets ≡ true
    → row_is_live (find (λ (r : NetKey). same_key r.key key) nets) ≡ true
live_found key nets apart some = sym (has_live (find (λ (r : NetKey). same_key r.key key) nets)) ∙ found_has
    (λ (r : NetKey). r.live) key nets apart some

abbrev alive : NetKey → Bool
alive r = r.live

fewer_live : (key : Bytes) (nets : List NetKey) → length (filter alive (at_net key dropped_net nets))
    ≤ length (filter alive nets)
fewer_live key [] = omega arith
fewer_live key (x ∷ xs) = by_tests (same_key x.key key) x.live refl (fewer_live key xs)
  where
    by_tests : (b c : Bool) → x.live ≡ c → length (filter alive (at_net key dropped_net xs)) ≤ length (filter alive xs)
        → length (if (if b then dropped_net x else x).live then (if b then dropped_net x else x)
        ∷ filter alive (at_net key dropped_net xs) else filter alive (at_net key dropped_net xs))
        ≤ length (if c then x ∷ filter alive xs else filter alive xs)
    by_tests true true e le = omega (arith, le)
    by_tests true false e le = le
    by_tests false true e le = rw e (omega (arith, le))
    by_tests false false e le = rw e le

one_less : (key : Bytes) (nets : List NetKey) → list_any (λ (r : NetKey). r.live && same_key r.key key) nets ≡ true
    → length (filter alive (at_net key dropped_net nets)) < length (filter alive nets)
one_less key [] e = absurd (cc)
one_less key (x ∷ xs) e = by_tests (same_key x.key key) x.live refl e (fewer_live key xs) (one_less key xs)
  where
    by_tests : (b c : Bool) → x.live ≡ c → ((c && b) || list_any (λ (r : NetKey). r.live && same_key r.key key) xs)
        ≡ true → length (filter alive (at_net key dropped_net xs)) ≤ length (filter alive xs)
        → (list_any (λ (r : NetKey). r.live && same_key r.key key) xs ≡ true
        → length (filter alive (at_net key dropped_net xs)) < length (filter alive xs))
        → length (if (if b then dropped_net x else x).live then (if b then dropped_net x else x)
        ∷ filter alive (at_net key dropped_net xs) else filter alive (at_net key dropped_net xs))
        < length (if c then x ∷ filter alive xs else filter alive xs)
    by_tests true true is e le later = omega (arith, le)
    by_tests true false is e le later = later e
    by_tests false true is e le later = rw is (omega (arith, later e))
    by_tests false false is e le later = rw is (later e)

-- if two rows are live, one isn't the active one
not_all_active : (active : Option Bytes) (rows : List NetKey) → all_apart nets_alike rows ≡ true → 2 ≤ length rows
    → filter (λ (r : NetKey). not (is_active_key active r.key)) rows ≡ [] → ⊥
not_all_active active [] apart two none = absurd (omega (arith, two))
not_all_active active (x ∷ []) apart two none = absurd (omega (arith, two))
not_all_active active (x ∷ y ∷ rows) apart two none =
    by_tests (is_active_key active x.key) (is_active_key active y.key) refl refl none
  where
    both_active : (o : Option Bytes) → is_active_key o x.key ≡ true → is_active_key o y.key ≡ true
        → same_key x.key y.key ≡ true
    both_active None e f = absurd (cc)
    both_active (Some key) e f = same_key_of x.key y.key (sym (same_key_is key x.key e) ∙ same_key_is key y.key f)

    alone : same_key x.key y.key ≡ false
    alone =
        (neither (same_key x.key y.key) (list_any (nets_alike x) rows)
        (not-true _ (both (not (list_any (nets_alike x) (y ∷ rows))) (all_apart nets_alike (y ∷ rows)) apart).0)).0

    some : (r : NetKey) (rs : List NetKey) → r ∷ rs ≡ [] → ⊥
    some r rs e = absurd (omega (arith, ap (length {A = NetKey}) e))

    by_tests : (b c : Bool) → is_active_key active x.key ≡ b → is_active_key active y.key ≡ c
        → (if not b then x ∷ (if not c then y ∷ filter (λ (r : NetKey). not (is_active_key active r.key)) rows
        else filter (λ (r : NetKey). not (is_active_key active r.key)) rows)
        else (if not c then y ∷ filter (λ (r : NetKey). not (is_active_key active r.key)) rows
        else filter (λ (r : NetKey). not (is_active_key active r.key)) rows)) ≡ [] → ⊥
    by_tests true true e f g = never (same_key x.key y.key) (both_active active e f) alone
    by_tests true false e f g = some y _ g
    by_tests false c e f g = some x _ g

-- the new row is live
new_live : (key : Bytes) (sequence : ℕ) (nets : List NetKey) → has_net key nets ≡ false
    → row_is_live (find (of_key key) (nets ++ new_net key sequence ∷ [])) ≡ true
new_live key sequence [] none = rw (same_key_of key key refl) refl
new_live key sequence (x ∷ xs) none =
    let parts = neither (same_key x.key key) (has_net key xs) none in
    rw parts.0 (new_live key sequence xs parts.1)

-- a key that is installed, and what comes after it
abbrev Behind : NodeState → NodeState → Bytes → List Move → Type 0
Behind start s key rest = (nets : List NetKey) → row_is_live (find (λ (r : NetKey). same_key r.key key) nets) ≡ true
    → moves_fit start rest (record s { nets = nets }) ≡ true

install_then : (start s : NodeState) (key : Bytes) (sequence : ℕ) (nets : List NetKey) (rest : List Move)
    → has_net key nets ≡ false → length nets < 256 → length (filter alive nets) < 2 → Behind start s key rest
    → moves_fit start (Install key sequence ∷ rest) (record s { nets = nets }) ≡ true
install_then start s key sequence nets rest new room two behind =
    let a : nat_lt (length nets) 256 ≡ true = lt-ltb _ _ room in
    let b : nat_lt (length (filter alive nets)) 2 ≡ true = lt-ltb _ _ two in
    rw (new, a, b) (behind (nets ++ new_net key sequence ∷ []) (new_live key sequence nets new))

pub old_then : (start s : NodeState) → Rules s → (key : Bytes) (sequence : ℕ) (rest : List Move) → has_net key s.nets
    ≡ false → nets_full s ≡ false → Behind start s key rest
    → moves_fit start (drop_old s ++ (Install key sequence ∷ rest)) s ≡ true
unfolding drop_old
old_then start s r key sequence rest new full behind = by_test (nat_le 2 (length (live_nets s))) refl
  where
    room : length s.nets < 256
    room = leb-false 256 (length s.nets) full

    dropping : (rows : List NetKey) → filter (λ (x : NetKey). not (is_active_key s.active x.key)) (live_nets s) ≡ rows
        → Heads (λ (x : NetKey). not (is_active_key s.active x.key)) (live_nets s) rows → 2 ≤ length (live_nets s)
        → moves_fit start (first_drop rows ++ (Install key sequence ∷ rest)) s ≡ true
    dropping [] is heads two =
        absurd (not_all_active s.active (live_nets s) (apart_filter nets_alike alive s.nets r.net_keys) two is)
    dropping (x ∷ xs) is heads two =
        let there : list_any (λ (y : NetKey). y.live && same_key y.key x.key) s.nets ≡ true =
        any_filter (λ (y : NetKey). same_key y.key x.key) alive s.nets
        (heads.1 (λ (y : NetKey). same_key y.key x.key) (same_key_of x.key x.key refl)) in
        let live : row_is_live (find (λ (y : NetKey). same_key y.key x.key) s.nets) ≡ true =
        live_found x.key s.nets r.net_keys there in
        rw (live, heads.0)
        (install_then start s key sequence (at_net x.key dropped_net s.nets) rest
        (any_map (of_key key) (λ (y : NetKey). if same_key y.key x.key then dropped_net y else y) s.nets ∙ any_same
        (λ (y : NetKey). same_key (if same_key y.key x.key then dropped_net y else y).key key) (of_key key)
        (λ y. by_key (same_key y.key x.key) y) s.nets ∙ new)
        (omega (arith, room, length-map s.nets (λ (y : NetKey). if same_key y.key x.key then dropped_net y else y)))
        (omega (arith, one_less x.key s.nets there, r.two))
        behind)
      where
        by_key : (b : Bool) (y : NetKey) → same_key (if b then dropped_net y else y).key key ≡ same_key y.key key
        by_key true y = refl
        by_key false y = refl

    by_test : (b : Bool) → nat_le 2 (length (live_nets s)) ≡ b
        → moves_fit start
        ((if b then first_drop (filter (λ (x : NetKey). not (is_active_key s.active x.key)) (live_nets s))
        else []) ++ (Install key sequence ∷ rest)) s ≡ true
    by_test true two = dropping (filter (λ (x : NetKey). not (is_active_key s.active x.key)) (live_nets s)) refl
        (heads_of (λ (x : NetKey). not (is_active_key s.active x.key)) (live_nets s))
        (leb-true 2 (length (live_nets s)) two)
    by_test false two = install_then start s key sequence s.nets rest new room
        (leb-false 2 (length (live_nets s)) two) behind

pub few_old : (s : NodeState) (rest : List Move) → length rest ≤ 4 → length (drop_old s ++ rest) ≤ 5
unfolding drop_old
few_old s rest few = by_test (nat_le 2 (length (live_nets s)))
  where
    first : (rows : List NetKey) → length (first_drop rows ++ rest) ≤ 5
    first [] = omega (arith, few)
    first (x ∷ xs) = omega (arith, few)

    by_test : (b : Bool)
        → length
        ((if b then first_drop (filter (λ (x : NetKey). not (is_active_key s.active x.key)) (live_nets s)) else [])
        ++ rest) ≤ 5
    by_test true = first (filter (λ (x : NetKey). not (is_active_key s.active x.key)) (live_nets s))
    by_test false = omega (arith, few)

-- a live key becomes active
pub active_then : (start u : NodeState) (key : Bytes) (sending : Bool) → sending ≡ false → live_net key u ≡ true
    → moves_fit start (Active key ∷ Roll sending ∷ []) u ≡ true
active_then start u key true off live = absurd (cc)
active_then start u key false off live = by_test (changes start (Active key))
  where
    by_test : (b : Bool) → (if b then (move_fits (Active key) u && true) && true else true) ≡ true
    by_test true = rw live refl
    by_test false = refl

pub active_alone : (start u : NodeState) (key : Bytes) → live_net key u ≡ true → moves_fit start (Active key ∷ []) u
    ≡ true
active_alone start u key live = by_test (changes start (Active key))
  where
    by_test : (b : Bool) → (if b then (move_fits (Active key) u && true) && true else true) ≡ true
    by_test true = rw live refl
    by_test false = refl

pub activated_fit : (start u : NodeState) (key : Bytes) (state : State) (a w : Bool) → live_net key u ≡ true
    → is_centre u.role ≡ false
    → moves_fit start ((if a then Active key ∷ [] else []) ++ (if w then Became state ∷ [] else [])) u ≡ true
activated_fit start u key state true true live part =
    by_tests (changes start (Active key)) (changes start (Became state))
  where
    by_tests : (b c : Bool)
        → (if b then (move_fits (Active key) u && is_none (activated start (if c then Became state ∷ [] else [])))
        && (if c then (move_fits (Became state) (moved (Active key) u) && true) && true else true)
        else (if c then (move_fits (Became state) u && true) && true else true)) ≡ true
    by_tests true true = rw (live, part) refl
    by_tests true false = rw live refl
    by_tests false true = rw part refl
    by_tests false false = refl
activated_fit start u key state true false live part = active_alone start u key live
activated_fit start u key state false true live part = by_test (changes start (Became state))
  where
    by_test : (c : Bool) → (if c then (move_fits (Became state) u && true) && true else true) ≡ true
    by_test true = rw part refl
    by_test false = refl
activated_fit start u key state false false live part = refl
