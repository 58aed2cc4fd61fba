-- A link row that is entered after those that were dropped: it has room and no rival.
use Rattle.std.proofs.Common.{◌≡◌, ℕ, ◌+◌, ◌≤◌, List, [], ◌∷◌, ◌++◌, length, map, refl, ap, ◌∙◌, arith, Bool, true, false, not, if◌then◌else◌, ◌&&◌, ◌||◌, Option, Some, None, nat_eq, length-append}
use Rattle.std.specs.Prelude.{find, filter, option_to_list, nat_lt, nat_le}
use Rattle.std.specs.List.{list_any}
use Rattle.std.proofs.lemmas.Bool.{eq-eqb, lt-ltb, leb-false}
use Rattle.std.proofs.lemmas.List.{length-map}
use Rattle.std.proofs.lemmas.List.Folds.{list_any-append}
use Rattle.zb_model.specs.Data.{Bytes, Attribute, Unverified, Verified, State, Move, Row, Became}
use Rattle.zb_model.specs.State.{LinkKey, NodeState, same_key, is_centre, is_link, has_link, is_live_of, is_live, is_told, is_unverified, at_link, revived, new_link, other_user, moved}
use Rattle.zb_model.specs.Fits.{most_links, same_bool}
use Rattle.zb_model.specs.Rules.{links_full, drop_link, drop_row}
use Rattle.zb_model.specs.Answer.{changes}
use Rattle.law_change_fits.specs.Fitting.{is_rival, key_is_used}
use Rattle.law_change_fits.proofs.Tests.{both, none_both, any_map, any_from, or_true}
use Rattle.law_change_fits.proofs.Parts.{Rules, kinds_alike}
use Rattle.law_answer_storable.proofs.Lists.{found_none, one_left}
use Rattle.law_answer_storable.proofs.Moves.{move_fits, moves_fit}
use Rattle.law_answer_storable.proofs.Drops.{Dropped, kind_alike}

-- the row is there, or there is room and its key is new
abbrev pub room_for : ℕ → Bytes → NodeState → Bool
room_for partner key s = has_link partner key s.links
    || (nat_lt (length s.links) (most_links s.role) && not (key_is_used key s.links))

pub row_after : (partner : ℕ) (key : Bytes) (attribute : Attribute) (s : NodeState) (q : LinkKey → Bool)
    (left : List LinkKey) → Dropped q s.links left → room_for partner key s ≡ true
    → ((r : LinkKey) → q r ≡ false → is_rival partner key attribute r ≡ false)
    → move_fits (Row partner key attribute) (record s { links = left }) ≡ true
row_after partner key attribute s q left d room rivals =
    rw (
      d.same (is_link partner key) (λ r. refl),
      d.room,
      d.same (λ (r : LinkKey). same_key r.key key) (λ r. refl),
      d.gone (is_rival partner key attribute) (λ r. refl) rivals,
    )
    (rw room refl)

-- what the rules that install a key have asked
pub room_asked : (partner : ℕ) (key : Bytes) (s : NodeState) → (not (has_link partner key s.links) && links_full s)
    ≡ false → other_user s partner key ≡ None → room_for partner key s ≡ true
unfolding other_user
room_asked partner key s room unused = by_test (has_link partner key s.links) refl room
  where
    by_key : (r : LinkKey) → is_link partner key r ≡ false → (same_key r.key key && not (nat_eq r.partner partner))
        ≡ false → same_key r.key key ≡ false
    by_key r a b = tests (nat_eq r.partner partner) (same_key r.key key) a b
      where
        tests : (x y : Bool) → (x && y) ≡ false → (y && not x) ≡ false → y ≡ false
        tests true y a b = a
        tests false true a b = b
        tests false false a b = refl

    by_test : (b : Bool) → has_link partner key s.links ≡ b → (not b && nat_le (most_links s.role) (length s.links))
        ≡ false → (b || (nat_lt (length s.links) (most_links s.role) && not (key_is_used key s.links))) ≡ true
    by_test true is full = refl
    by_test false is full =
        let room : nat_lt (length s.links) (most_links s.role) ≡ true = lt-ltb _ _ (leb-false _ _ full) in
        let new : key_is_used key s.links ≡ false =
        none_both (is_link partner key) (λ (r : LinkKey). same_key r.key key && not (nat_eq r.partner partner))
        (λ (r : LinkKey). same_key r.key key) by_key s.links is
        (found_none (λ (r : LinkKey). same_key r.key key && not (nat_eq r.partner partner)) s.links unused) in
        rw (room, new) refl

-- rivals are among the rows that were dropped

pub rival_of_partner : (partner : ℕ) (key : Bytes) (attribute : Attribute) (r : LinkKey) → is_live_of partner r
    ≡ false → is_rival partner key attribute r ≡ false
rival_of_partner partner key attribute r e = tests (is_live_of partner r) (not (is_link partner key r))
    (same_bool (is_unverified r.attribute) (is_unverified attribute)) e
  where
    tests : (a b c : Bool) → a ≡ false → ((a && b) && c) ≡ false
    tests true b c e = absurd (cc)
    tests false b c e = refl

pub rival_of_others : (partner : ℕ) (key : Bytes) (attribute : Attribute) (r : LinkKey)
    → (is_live_of partner r && not (same_key r.key key)) ≡ false → is_rival partner key attribute r ≡ false
rival_of_others partner key attribute r e = tests r.live (nat_eq r.partner partner) (same_key r.key key)
    (same_bool (is_unverified r.attribute) (is_unverified attribute)) e
  where
    tests : (a b c d : Bool) → ((a && b) && not c) ≡ false → (((a && b) && not (b && c)) && d) ≡ false
    tests true true true d e = refl
    tests true true false d e = absurd (cc)
    tests true false c d e = refl
    tests false b c d e = refl

pub rival_of_current : (partner : ℕ) (key : Bytes) (r : LinkKey)
    → (is_live_of partner r && not (is_unverified r.attribute)) ≡ false → is_rival partner key Verified r ≡ false
rival_of_current partner key r e = tests (is_live_of partner r) (not (is_link partner key r))
    (is_unverified r.attribute) e
  where
    tests : (a b c : Bool) → (a && not c) ≡ false → ((a && b) && same_bool c false) ≡ false
    tests true true true e = refl
    tests true true false e = e
    tests true false c e = refl
    tests false b c e = refl

pub rival_of_offered : (partner : ℕ) (key : Bytes) (r : LinkKey) → (is_live_of partner r && is_unverified r.attribute)
    ≡ false → is_rival partner key Unverified r ≡ false
rival_of_offered partner key r e = tests (is_live_of partner r) (not (is_link partner key r))
    (is_unverified r.attribute) e
  where
    tests : (a b c : Bool) → (a && c) ≡ false → ((a && b) && same_bool c true) ≡ false
    tests true true true e = e
    tests true true false e = refl
    tests true false c e = refl
    tests false b c e = refl

pub kind_of_current : (partner : ℕ) (r : LinkKey) → (is_live_of partner r && not (is_unverified r.attribute)) ≡ true
    → (is_live_of partner r && same_bool (is_unverified r.attribute) false) ≡ true
kind_of_current partner r e = tests (is_live_of partner r) (is_unverified r.attribute) e
  where
    tests : (a b : Bool) → (a && not b) ≡ true → (a && same_bool b false) ≡ true
    tests a true e = e
    tests a false e = e

pub kind_of_offered : (partner : ℕ) (r : LinkKey) → (is_live_of partner r && is_unverified r.attribute) ≡ true
    → (is_live_of partner r && same_bool (is_unverified r.attribute) true) ≡ true
kind_of_offered partner r e = tests (is_live_of partner r) (is_unverified r.attribute) e
  where
    tests : (a b : Bool) → (a && b) ≡ true → (a && same_bool b true) ≡ true
    tests a true e = e
    tests a false e = e

-- a row alone, or with what comes after it

pub row_alone : (start u : NodeState) (partner : ℕ) (key : Bytes) (attribute : Attribute)
    → move_fits (Row partner key attribute) u ≡ true → moves_fit start (Row partner key attribute ∷ []) u ≡ true
row_alone start u partner key attribute fit = by_test (changes start (Row partner key attribute))
  where
    by_test : (b : Bool) → (if b then (move_fits (Row partner key attribute) u && true) && true else true) ≡ true
    by_test true = rw fit refl
    by_test false = refl

pub state_alone : (start u : NodeState) (state : State) → is_centre u.role ≡ false
    → moves_fit start (Became state ∷ []) u ≡ true
state_alone start u state part = by_test (changes start (Became state))
  where
    by_test : (b : Bool) → (if b then (move_fits (Became state) u && true) && true else true) ≡ true
    by_test true = rw part refl
    by_test false = refl

pub row_then_state : (start u : NodeState) (partner : ℕ) (key : Bytes) (attribute : Attribute) (state : State)
    → move_fits (Row partner key attribute) u ≡ true → is_centre u.role ≡ false
    → moves_fit start (Row partner key attribute ∷ Became state ∷ []) u ≡ true
row_then_state start u partner key attribute state fit part = by_test (changes start (Row partner key attribute))
  where
    by_test : (b : Bool)
        → (if b then (move_fits (Row partner key attribute) u && true)
        && moves_fit start (Became state ∷ []) (moved (Row partner key attribute) u)
        else moves_fit start (Became state ∷ []) u) ≡ true
    by_test true = rw (fit, state_alone start (moved (Row partner key attribute) u) state part) refl
    by_test false = state_alone start u state part

-- after it the partner is live
pub live_with_row : (partner : ℕ) (key : Bytes) (attribute : Attribute) (u : NodeState)
    → is_live (moved (Row partner key attribute) u) partner ≡ true
unfolding is_live
live_with_row partner key attribute u = by_test (has_link partner key u.links) refl
  where
    told : Bool
    told = is_told u partner

    revives : (b : Bool) (r : LinkKey) → is_link partner key r ≡ b → b ≡ true
        → is_live_of partner (if b then revived attribute told r else r) ≡ true
    revives true r is e = (both (nat_eq r.partner partner) (same_key r.key key) is).0
    revives false r is e = absurd (cc)

    by_test : (b : Bool) → has_link partner key u.links ≡ b
        → list_any (is_live_of partner) (if b then at_link partner key (revived attribute told) u.links
        else u.links ++ new_link partner key attribute told ∷ []) ≡ true
    by_test true is =
        any_map (is_live_of partner) (λ (r : LinkKey). if is_link partner key r then revived attribute told r
        else r) u.links
        ∙ any_from (is_link partner key)
        (λ (r : LinkKey). is_live_of partner (if is_link partner key r then revived attribute told r else r))
        (λ r e. revives (is_link partner key r) r refl e) u.links is
    by_test false is =
        let here : nat_eq partner partner ≡ true = eq-eqb partner partner refl in
        list_any-append (is_live_of partner) u.links (new_link partner key attribute told ∷ [])
        ∙ or_true (list_any (is_live_of partner) u.links) ((true && nat_eq partner partner) || false) (rw here refl)

-- few rows are dropped

few_found : (o : Option LinkKey) → length (option_to_list o) ≤ 1
few_found None = omega arith
few_found (Some r) = omega arith

two_kinds : (q u : LinkKey → Bool) (xs : List LinkKey) → length (filter q xs)
    ≤ length (filter (λ r. q r && u r) xs) + length (filter (λ r. q r && not (u r)) xs)
two_kinds q u [] = omega arith
two_kinds q u (x ∷ xs) = by_tests (q x) (u x) (two_kinds q u xs)
  where
    by_tests : (b c : Bool) → length (filter q xs)
        ≤ length (filter (λ r. q r && u r) xs) + length (filter (λ r. q r && not (u r)) xs)
        → length (if b then x ∷ filter q xs else filter q xs) ≤ length (if b && c then x ∷ filter (λ r. q r && u r) xs
        else filter (λ r. q r && u r) xs) + length (if b && not c then x ∷ filter (λ r. q r && not (u r)) xs
        else filter (λ r. q r && not (u r)) xs)
    by_tests true true le = omega (arith, le)
    by_tests true false le = omega (arith, le)
    by_tests false c le = le

pub few_of_partner : (s : NodeState) → Rules s → (partner : ℕ) (q : LinkKey → Bool)
    → ((r : LinkKey) → q r ≡ true → is_live_of partner r ≡ true) → length (filter q s.links) ≤ 2
few_of_partner s r partner q of =
    omega (
      arith,
      two_kinds q (λ x. is_unverified x.attribute) s.links,
      ap (length {A = LinkKey})
          (one_left kinds_alike (λ x. q x && is_unverified x.attribute)
          (λ x y e f. kind_alike partner true x y (offered_kind x e) (offered_kind y f)) s.links r.kinds),
      ap (length {A = LinkKey})
          (one_left kinds_alike (λ x. q x && not (is_unverified x.attribute))
          (λ x y e f. kind_alike partner false x y (current_kind x e) (current_kind y f)) s.links r.kinds),
      few_found (find (λ x. q x && is_unverified x.attribute) s.links),
      few_found (find (λ x. q x && not (is_unverified x.attribute)) s.links),
    )
  where
    offered_kind : (x : LinkKey) → (q x && is_unverified x.attribute) ≡ true
        → (is_live_of partner x && same_bool (is_unverified x.attribute) true) ≡ true
    offered_kind x e = let parts = both (q x) (is_unverified x.attribute) e in kind_of_offered partner x
        (rw (of x parts.0, parts.1) refl)

    current_kind : (x : LinkKey) → (q x && not (is_unverified x.attribute)) ≡ true
        → (is_live_of partner x && same_bool (is_unverified x.attribute) false) ≡ true
    current_kind x e = let parts = both (q x) (not (is_unverified x.attribute)) e in kind_of_current partner x
        (rw (of x parts.0, parts.1) refl)

pub few_dropped : (xs : List LinkKey) (rest : List Move) → length xs ≤ 2 → length rest ≤ 3
    → length (map drop_link xs ++ rest) ≤ 5
few_dropped xs rest few more = omega (arith, length-append (map drop_link xs) rest, length-map xs drop_link, few, more)

pub few_row : (o : Option LinkKey) (rest : List Move) → length rest ≤ 4 → length (drop_row o ++ rest) ≤ 5
few_row None rest more = omega (arith, more)
few_row (Some r) rest more = omega (arith, more)
