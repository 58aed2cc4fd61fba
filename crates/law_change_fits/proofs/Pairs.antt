-- Changes of pairs, of the state and of the rollover, and whether the rules are kept after them.
use Rattle.std.proofs.Common.{◌≡◌, ℕ, ◌+◌, ◌<◌, ◌≤◌, List, [], ◌∷◌, ◌++◌, length, filter, refl, sym, ap, ◌∙◌, arith, Bool, true, false, not, if◌then◌else◌, ◌&&◌, ◌||◌, Some, min, max, length-append}
use Rattle.std.specs.Prelude.{find, nat_lt, nat_eq, is_none}
use Rattle.std.specs.List.{list_any, list_all}
use Rattle.std.proofs.lemmas.Bool.{lt-ltb, ltb-true, eq-eqb, eqb-true}
use Rattle.std.proofs.lemmas.List.Folds.{list_all-append}
use Rattle.zb_model.specs.Data.{Bytes, State}
use Rattle.zb_model.specs.State.{NodeState, PairKey, is_centre, names, names_two, with_pair, pair_of}
use Rattle.zb_model.specs.Fits.{keeps_rules, role_is_kept, active_is_live, all_apart, is_fresh, most_pairs}
use Rattle.law_change_fits.proofs.Tests.{both, same_both, any_same, all_filter, apart_filter, apart_snoc, filter_shorter}
use Rattle.law_change_fits.proofs.Parts.{Rules, rules_of, rules_back, pairs_alike, pair_rule}

-- what the rules ask of pairs, and of the role that the node has
pub record PairRules (s : NodeState) (pairs : List PairKey) : Type 0 where
  pub room : length pairs ≤ most_pairs
  pub command : list_all pair_rule pairs ≡ true
  pub names : all_apart pairs_alike pairs ≡ true
  pub role_kept : role_is_kept (record s { pairs = pairs }) ≡ true

pub pairs_kept : (s : NodeState) (pairs : List PairKey) → Rules s → PairRules s pairs
    → keeps_rules (record s { pairs = pairs }) ≡ true
unfolding active_is_live
pairs_kept s pairs r p =
    rules_back (record s { pairs = pairs }) (record {
      nets_room = r.nets_room;
      links_room = r.links_room;
      pairs_room = p.room;
      net_keys = r.net_keys;
      link_keys = r.link_keys;
      two = r.two;
      active = r.active;
      kinds = r.kinds;
      told = r.told;
      marks = r.marks;
      floors = r.floors;
      limits = r.limits;
      role_kept = p.role_kept;
      pairs = p.command;
      pair_names = p.names;
    })

-- outside the centre there are no pairs
role_fewer : (s : NodeState) (pairs : List PairKey) → length pairs ≤ length s.pairs → role_is_kept s ≡ true
    → role_is_kept (record s { pairs = pairs }) ≡ true
unfolding role_is_kept
role_fewer s pairs le kept = at_test (is_centre s.role) kept
  where
    at_test : (b : Bool) → (if b then is_fresh s.state else not s.sending && nat_eq (length s.pairs) 0) ≡ true
        → (if b then is_fresh s.state else not s.sending && nat_eq (length pairs) 0) ≡ true
    at_test true e = e
    at_test false e =
        let parts = both (not s.sending) (nat_eq (length s.pairs) 0) e in
        let none : nat_eq (length pairs) 0 ≡ true =
        eq-eqb _ _ (omega (arith, le, eqb-true (length s.pairs) 0 parts.1)) in
        rw (parts.0, none) refl

pub removed_kept : (device : ℕ) (s : NodeState) → Rules s
    → keeps_rules (record s { pairs = filter (λ (p : PairKey). not (names device p)) s.pairs }) ≡ true
removed_kept device s r =
    let stays : PairKey → Bool = λ p. not (names device p) in
    let shorter = filter_shorter stays s.pairs in
    pairs_kept s (filter stays s.pairs) r (record {
      room = omega (arith, shorter, r.pairs_room);
      command = all_filter pair_rule stays s.pairs r.pairs;
      names = apart_filter pairs_alike stays s.pairs r.pair_names;
      role_kept = role_fewer s (filter stays s.pairs) shorter r.role_kept;
    })

none_found : {X : Type 0} (p : X → Bool) (xs : List X) → is_none (find p xs) ≡ true → list_any p xs ≡ false
none_found p [] e = refl
none_found p (x ∷ xs) e = at_test (p x) e (λ k. none_found p xs k)
  where
    at_test : (b : Bool) → is_none (if b then Some x else find p xs) ≡ true
        → (is_none (find p xs) ≡ true → list_any p xs ≡ false) → (b || list_any p xs) ≡ false
    at_test true e later = absurd (cc)
    at_test false e later = later e

pub paired_kept : (first second : ℕ) (key : Bytes) (s : NodeState) → Rules s → is_none (pair_of s first second) ≡ true
    → keeps_rules (record s { pairs = with_pair first second key s.pairs })
    ≡ (is_centre s.role && (nat_lt (length s.pairs) most_pairs && nat_lt first second))
unfolding pair_of role_is_kept
paired_kept first second key s r none =
    let absent : list_any (names_two first second) s.pairs ≡ false = none_found (names_two first second) s.pairs none
    in
    rw absent (added absent)
  where
    new : PairKey
    new = record { first = first; second = second; key = key }

    now : NodeState
    now = record s { pairs = s.pairs ++ record { first = first; second = second; key = key } ∷ [] }

    longer : length (s.pairs ++ record { first = first; second = second; key = key } ∷ []) ≡ length s.pairs + 1
    longer = length-append s.pairs (record { first = first; second = second; key = key } ∷ [])

    at_end : list_all pair_rule (s.pairs ++ record { first = first; second = second; key = key } ∷ []) ≡ true
        → nat_lt first second ≡ true
    at_end all =
        (both (nat_lt first second) true
        ((both (list_all pair_rule s.pairs) _
        (sym (list_all-append pair_rule s.pairs (record { first = first; second = second; key = key } ∷ [])) ∙
        all)).1)).0

    centre_of : (b : Bool) → is_centre s.role ≡ b → role_is_kept now ≡ true → b ≡ true
    centre_of true is kept = refl
    centre_of false is kept =
        let parts =
        both (not s.sending)
        (nat_eq (length (s.pairs ++ record { first = first; second = second; key = key } ∷ [])) 0) (rw is at kept)
        in
        absurd (omega (
          arith,
          eqb-true (length (s.pairs ++ record { first = first; second = second; key = key } ∷ [])) 0
              parts.1,
          longer,
        ))

    role_stays : is_centre s.role ≡ true → role_is_kept s ≡ true → role_is_kept now ≡ true
    role_stays is kept = rw is (rw is at kept)

    sorted : first < second → (p : PairKey) → (nat_eq p.first first && nat_eq p.second second)
        ≡ names_two first second p
    sorted lt p =
        let a : first ≡ min first second = omega arith in
        let b : second ≡ max first second = omega arith in
        ap (λ n. nat_eq p.first n && nat_eq p.second second) a ∙ ap
        (λ n. nat_eq p.first (min first second) && nat_eq p.second n) b

    added : list_any (names_two first second) s.pairs ≡ false
        → keeps_rules (record s { pairs = s.pairs ++ record { first = first; second = second; key = key } ∷ [] })
        ≡ (is_centre s.role && (nat_lt (length s.pairs) most_pairs && nat_lt first second))
    added absent =
        same_both (keeps_rules now) (is_centre s.role && (nat_lt (length s.pairs) most_pairs && nat_lt first second))
        (λ kept.
        let n = rules_of now kept in
        let room : nat_lt (length s.pairs) most_pairs ≡ true = lt-ltb _ _ (omega (arith, n.pairs_room, longer)) in
        let centre : is_centre s.role ≡ true = centre_of (is_centre s.role) refl n.role_kept in
        rw (centre, room, at_end n.pairs) refl)
        (λ fit.
        let one = both (is_centre s.role) _ fit in
        let two = both (nat_lt (length s.pairs) most_pairs) (nat_lt first second) one.1 in
        let lt : first < second = ltb-true _ _ two.1 in
        let free : list_any (λ (p : PairKey). nat_eq p.first first && nat_eq p.second second) s.pairs ≡ false =
        any_same (λ (p : PairKey). nat_eq p.first first && nat_eq p.second second) (names_two first second)
        (sorted lt) s.pairs ∙ absent in
        pairs_kept s (s.pairs ++ new ∷ []) r (record {
          room = omega (arith, ltb-true (length s.pairs) 256 two.0, longer);
          command = list_all-append pair_rule s.pairs (new ∷ []) ∙ rw (r.pairs, two.1) refl;
          names = apart_snoc pairs_alike s.pairs new ∙ rw (r.pair_names, free) refl;
          role_kept = role_stays one.0 r.role_kept;
        }))

-- the state, and the rollover
pub staged_kept : (state : State) (s : NodeState) → Rules s → keeps_rules (record s { state = state })
    ≡ (not (is_centre s.role) || is_fresh state)
unfolding role_is_kept active_is_live
staged_kept state s r =
    let now : NodeState = record s { state = state } in
    same_both (keeps_rules now) (not (is_centre s.role) || is_fresh state)
    (λ kept. fresh_of (is_centre s.role) (rules_of now kept).role_kept)
    (λ fit. rules_back now (record {
      nets_room = r.nets_room;
      links_room = r.links_room;
      pairs_room = r.pairs_room;
      net_keys = r.net_keys;
      link_keys = r.link_keys;
      two = r.two;
      active = r.active;
      kinds = r.kinds;
      told = r.told;
      marks = r.marks;
      floors = r.floors;
      limits = r.limits;
      role_kept = role_of (is_centre s.role) r.role_kept fit;
      pairs = r.pairs;
      pair_names = r.pair_names;
    }))
  where
    fresh_of : (b : Bool) → (if b then is_fresh state else not s.sending && nat_eq (length s.pairs) 0) ≡ true
        → (not b || is_fresh state) ≡ true
    fresh_of true e = e
    fresh_of false e = refl

    role_of : (b : Bool) → (if b then is_fresh s.state else not s.sending && nat_eq (length s.pairs) 0) ≡ true
        → (not b || is_fresh state) ≡ true
        → (if b then is_fresh state else not s.sending && nat_eq (length s.pairs) 0) ≡ true
    role_of true old fit = fit
    role_of false old fit = old

pub rolled_kept : (sending : Bool) (s : NodeState) → Rules s → keeps_rules (record s { sending = sending })
    ≡ (not sending || is_centre s.role)
unfolding role_is_kept active_is_live
rolled_kept sending s r =
    let now : NodeState = record s { sending = sending } in
    same_both (keeps_rules now) (not sending || is_centre s.role)
    (λ kept. idle_of (is_centre s.role) sending (rules_of now kept).role_kept)
    (λ fit. rules_back now (record {
      nets_room = r.nets_room;
      links_room = r.links_room;
      pairs_room = r.pairs_room;
      net_keys = r.net_keys;
      link_keys = r.link_keys;
      two = r.two;
      active = r.active;
      kinds = r.kinds;
      told = r.told;
      marks = r.marks;
      floors = r.floors;
      limits = r.limits;
      role_kept = role_of (is_centre s.role) sending r.role_kept fit;
      pairs = r.pairs;
      pair_names = r.pair_names;
    }))
  where
    idle_of : (b c : Bool) → (if b then is_fresh s.state else not c && nat_eq (length s.pairs) 0) ≡ true
        → (not c || b) ≡ true
    idle_of true true e = refl
    idle_of true false e = refl
    idle_of false true e = absurd (cc)
    idle_of false false e = refl

    role_of : (b c : Bool) → (if b then is_fresh s.state else not s.sending && nat_eq (length s.pairs) 0) ≡ true
        → (not c || b) ≡ true → (if b then is_fresh s.state else not c && nat_eq (length s.pairs) 0) ≡ true
    role_of true c old fit = old
    role_of false true old fit = absurd (cc)
    role_of false false old fit = (both (not s.sending) (nat_eq (length s.pairs) 0) old).1
