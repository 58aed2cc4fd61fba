-- The drops of a partner's rows, one after the other.
use Rattle.std.proofs.Common.{◌≡◌, ℕ, ◌+◌, ◌<◌, ◌≤◌, List, [], ◌∷◌, ◌++◌, map, length, take, drop, get_or, refl, sym, ap, ◌∙◌, arith, Bool, true, false, not, if◌then◌else◌, ◌&&◌, Option, Some, None, append_assoc, append-nil, length-append}
use Rattle.std.specs.Prelude.{filter, nat_eq}
use Rattle.std.specs.List.{list_any}
use borrow.Author.Tests.{eqb-true, eq-eqb}
use Rattle.std.proofs.lemmas.Bool.{not-true}
use Rattle.std.proofs.lemmas.List.{map_push, map_more, map-append, length_push, take_all, take-append-drop}
use Rattle.std.proofs.lemmas.List.Elements.{filter-append}
use Rattle.zb_node_types.specs.declared.change.Change.{Change}
use Rattle.zb_node_types.specs.Changes.{edits}
use Rattle.zb_model.specs.Data.{Bytes, Edit, Moved}
use Rattle.zb_model.specs.State.{NodeState, LinkKey, is_live_of, is_unverified}
use Rattle.zb_model.specs.Fits.{keeps_rules, partners_agree, all_apart, like_rows, same_bool}
use Rattle.law_change_fits.proofs.Tests.{both, neither}
use Rattle.zb_model.specs.Rules.{drop_link, drop_partner, drop_others}
use Rattle.zb_record.specs.declared.link_row.LinkRow.{LinkRow}
use Rattle.zb_record.specs.RowViews.{link_key}
use Rattle.zb_keys.proofs.RuleLemmas.{filter_same_tests}
use Rattle.zb_keys.proofs.StateLemmas.{rules_of}
use Rattle.zb_rows.specs.Asking.{goes, is_spared}

-- At most two rows in use of a partner: one that is only offered, and one other.
none_pass : (p q : LinkKey → Bool) → ((x : LinkKey) → p x ≡ true → q x ≡ true) → (xs : List LinkKey) → list_any q xs
    ≡ false → filter p xs ≡ []
none_pass p q each [] none = refl
none_pass p q each (x ∷ xs) none =
    let parts = neither (q x) (list_any q xs) none in
    at_test (p x) refl parts.0 (none_pass p q each xs parts.1) (each x)
  where
    at_test : (b : Bool) → p x ≡ b → q x ≡ false → filter p xs ≡ [] → (p x ≡ true → q x ≡ true)
        → (if p x then x ∷ filter p xs else filter p xs) ≡ []
    at_test true is isnt e each = let clash : true ≡ false = sym (each is) ∙ isnt in absurd (cc)
    at_test false is isnt e each = rw is e

abbrev of_class : ℕ → Bool → LinkKey → Bool
of_class partner class r = is_live_of partner r && same_bool (is_unverified r.attribute) class

same_bool_is : (a b : Bool) → same_bool a b ≡ true → a ≡ b
same_bool_is true true e = refl
same_bool_is true false e = absurd (cc)
same_bool_is false true e = absurd (cc)
same_bool_is false false e = refl

same_bool_self : (a : Bool) → same_bool a a ≡ true
same_bool_self true = refl
same_bool_self false = refl

alike_of : (partner : ℕ) (class : Bool) (r x : LinkKey) → of_class partner class r ≡ true → of_class partner class x
    ≡ true → (like_rows r x && same_bool (is_unverified r.attribute) (is_unverified x.attribute)) ≡ true
alike_of partner class r x a b =
    let ra = both (is_live_of partner r) (same_bool (is_unverified r.attribute) class) a in
    let xa = both (is_live_of partner x) (same_bool (is_unverified x.attribute) class) b in
    let rl = both r.live (nat_eq r.partner partner) ra.0 in
    let xl = both x.live (nat_eq x.partner partner) xa.0 in
    let same : r.partner ≡ x.partner = eqb-true _ _ rl.1 ∙ sym (eqb-true _ _ xl.1) in
    let partners : nat_eq r.partner x.partner ≡ true = eq-eqb _ _ same in
    let classes : is_unverified r.attribute ≡ is_unverified x.attribute =
    same_bool_is _ _ ra.1 ∙ sym (same_bool_is _ _ xa.1) in
    let equal : same_bool (is_unverified r.attribute) (is_unverified x.attribute) ≡ true =
    rw classes (same_bool_self (is_unverified x.attribute)) in
    rw (rl.0, xl.0, partners, equal) refl

one_of_class : (partner : ℕ) (class : Bool) (links : List LinkKey)
    → all_apart
    (λ (a b : LinkKey). like_rows a b && same_bool (is_unverified a.attribute) (is_unverified b.attribute)) links
    ≡ true → length (filter (of_class partner class) links) ≤ 1
one_of_class partner class [] apart = omega arith
one_of_class partner class (r ∷ rs) apart =
    let parts =
    both (not
    (list_any
    (λ (b : LinkKey). like_rows r b && same_bool (is_unverified r.attribute) (is_unverified b.attribute)) rs)) _
    apart in
    at_test (of_class partner class r) refl (not-true _ parts.0) (one_of_class partner class rs parts.1)
  where
    at_test : (b : Bool) → of_class partner class r ≡ b
        → list_any
        (λ (x : LinkKey). like_rows r x && same_bool (is_unverified r.attribute) (is_unverified x.attribute)) rs
        ≡ false
        → length (filter (of_class partner class) rs) ≤ 1
        → length (if of_class partner class r then r ∷ filter (of_class partner class) rs
        else filter (of_class partner class) rs) ≤ 1
    at_test true is alone few =
        let none : filter (of_class partner class) rs
        ≡ [] = none_pass (of_class partner class)
        (λ (x : LinkKey). like_rows r x && same_bool (is_unverified r.attribute) (is_unverified x.attribute))
        (λ x passes. alike_of partner class r x is passes) rs alone in
        rw (is, none) (omega arith)
    at_test false is alone few = rw is few

two_classes : (partner : ℕ) (links : List LinkKey) → length (filter (is_live_of partner) links)
    ≤ length (filter (of_class partner true) links) + length (filter (of_class partner false) links)
two_classes partner [] = omega arith
two_classes partner (r ∷ rs) = at_test (is_live_of partner r) (is_unverified r.attribute) (two_classes partner rs)
  where
    at_test : (b u : Bool) → length (filter (is_live_of partner) rs)
        ≤ length (filter (of_class partner true) rs) + length (filter (of_class partner false) rs)
        → length (if b then r ∷ filter (is_live_of partner) rs else filter (is_live_of partner) rs)
        ≤ length (if b && same_bool u true then r ∷ filter (of_class partner true) rs
        else filter (of_class partner true) rs) + length
        (if b && same_bool u false then r ∷ filter (of_class partner false) rs
        else filter (of_class partner false) rs)
    at_test true true few = omega arith
    at_test true false few = omega arith
    at_test false u few = few

few_live : (s : NodeState) (partner : ℕ) → keeps_rules s ≡ true → length (filter (is_live_of partner) s.links) ≤ 2
unfolding partners_agree
few_live s partner kept =
    let apart =
    (both (all_apart
    (λ (a b : LinkKey). like_rows a b && same_bool (is_unverified a.attribute) (is_unverified b.attribute))
    s.links) _ (rules_of s kept).partners).0 in
    omega (
      arith,
      two_classes partner s.links,
      one_of_class partner true s.links apart,
      one_of_class partner false s.links apart,
    )

-- the drops of the rows that satisfy a test, up to a place
pub record Dropping (test : LinkKey → Bool) (rows : List LinkRow) (i : ℕ) (old new : List Change) : Type 0 where
  pub made : edits new ≡ edits old ++ map Moved (map drop_link (filter test (map link_key (take i rows))))
  pub room : length new ≤ length old + length (filter test (map link_key (take i rows)))

upto : (test : LinkKey → Bool) (rows : List LinkRow) (i : ℕ) (d : LinkRow) (b : Bool) → i < length rows
    → test (link_key (get_or rows i d)) ≡ b
    → filter test (map link_key (take (i + 1) rows)) ≡ filter test (map link_key (take i rows))
    ++ (if b then link_key (get_or rows i d) ∷ [] else [])
upto test rows i d b lt is =
    ap (filter test) (map_more link_key rows i d lt)
    ∙ filter-append test (map link_key (take i rows)) (link_key (get_or rows i d) ∷ [])
    ∙ ap (λ t. filter test (map link_key (take i rows)) ++ (if t then link_key (get_or rows i d) ∷ [] else [])) is

pub drops_one : (test : LinkKey → Bool) (rows : List LinkRow) (i : ℕ) (d : LinkRow) (x : Edit) (a b c : List Change)
    → i < length rows → test (link_key (get_or rows i d)) ≡ true
    → x ≡ Moved (drop_link (link_key (get_or rows i d))) → Dropping test rows i a b → edits c ≡ edits b ++ x ∷ []
    → length c ≤ length b + 1 → Dropping test rows (i + 1) a c
drops_one test rows i d x a b c lt goes is so one longer =
    let before = filter test (map link_key (take i rows)) in
    let step = upto test rows i d true lt goes in
    let pieces : map Moved (map drop_link (filter test (map link_key (take (i + 1) rows))))
    ≡ map Moved (map drop_link before) ++ x ∷ [] =
    ap (λ l. map Moved (map drop_link l)) step ∙ ap (map Moved)
    (map_push drop_link before (link_key (get_or rows i d))) ∙ map_push Moved (map drop_link before)
    (drop_link (link_key (get_or rows i d)))
    ∙ ap (λ e. map Moved (map drop_link before) ++ e ∷ []) (sym is) in
    let number : length before + 1 ≡ length (filter test (map link_key (take (i + 1) rows))) =
    sym (ap (length {A = LinkKey}) step ∙ length_push before (link_key (get_or rows i d))) in
    record {
      made = one ∙ ap (λ l. l ++ x ∷ []) so.made ∙ append_assoc (edits a) (map Moved (map drop_link before)) (x ∷ [])
          ∙ ap (λ l. edits a ++ l) (sym pieces);
      room = omega (arith, longer, so.room, number);
    }

pub drops_over : (test : LinkKey → Bool) (rows : List LinkRow) (i : ℕ) (d : LinkRow) (a b : List Change) → i
    < length rows → test (link_key (get_or rows i d)) ≡ false → Dropping test rows i a b
    → Dropping test rows (i + 1) a b
drops_over test rows i d a b lt stays so =
    let step = upto test rows i d false lt stays ∙ append-nil _ in
    record {
      made = so.made ∙ ap (λ l. edits a ++ map Moved (map drop_link l)) (sym step);
      room = omega (arith, so.room, ap (length {A = LinkKey}) step);
    }

pub drops_room : (test : LinkKey → Bool) (rows : List LinkRow) (i : ℕ) (d : LinkRow) (old new : List Change)
    → length (filter test (map link_key rows)) ≤ 2 → i < length rows
    → test (link_key (get_or rows i d)) ≡ true → Dropping test rows i old new → length old ≤ 14 → length new < 16
drops_room test rows i d old new all lt goes so room =
    let step = ap (length {A = LinkKey}) (upto test rows i d true lt goes) ∙ length_push _ _ in
    let part : length (filter test (map link_key (take (i + 1) rows))) ≤ length (filter test (map link_key rows)) =
    let split : filter test (map link_key rows) ≡ filter test (map link_key (take (i + 1) rows))
    ++ filter test (map link_key (drop (i + 1) rows)) =
    ap (λ l. filter test (map link_key l)) (sym (take-append-drop (i + 1) rows)) ∙ ap (filter test)
    (map-append link_key (take (i + 1) rows) (drop (i + 1) rows))
    ∙ filter-append test (map link_key (take (i + 1) rows)) (map link_key (drop (i + 1) rows)) in
    omega (
      arith,
      ap (length {A = LinkKey}) split,
      length-append (filter test (map link_key (take (i + 1) rows)))
          (filter test (map link_key (drop (i + 1) rows))),
    ) in
    omega (arith, so.room, all, step, part)

pub drops_made : (test : LinkKey → Bool) (rows : List LinkRow) (n : ℕ) (old new : List Change) → length rows ≤ n
    → Dropping test rows n old new → edits new ≡ edits old
    ++ map Moved (map drop_link (filter test (map link_key rows)))
drops_made test rows n old new long so =
    so.made ∙ ap (λ l. edits old ++ map Moved (map drop_link (filter test (map link_key l)))) (take_all n rows long)

pub drops_few : (test : LinkKey → Bool) (rows : List LinkRow) (n : ℕ) (old new : List Change)
    → length (filter test (map link_key rows)) ≤ 2 → length rows ≤ n → Dropping test rows n old new → length new
    ≤ length old + 2
drops_few test rows n old new few long so =
    omega (arith, so.room, few, ap (λ l. length {A = LinkKey} (filter test (map link_key l))) (take_all n rows long))

-- a partner has at most two rows in use, so at most two are dropped
fewer : (p q : LinkKey → Bool) → ((x : LinkKey) → p x ≡ true → q x ≡ true) → (xs : List LinkKey)
    → length (filter p xs) ≤ length (filter q xs)
fewer p q each [] = omega arith
fewer p q each (x ∷ xs) = at_tests (p x) (q x) (each x) (fewer p q each xs)
  where
    at_tests : (a b : Bool) → (a ≡ true → b ≡ true) → length (filter p xs) ≤ length (filter q xs)
        → length (if a then x ∷ filter p xs else filter p xs) ≤ length (if b then x ∷ filter q xs else filter q xs)
    at_tests true true e few = omega arith
    at_tests true false e few = let clash : false ≡ true = e refl in absurd (cc)
    at_tests false true e few = omega arith
    at_tests false false e few = few

first_part : (a b : Bool) → (a && b) ≡ true → a ≡ true
first_part true b e = refl
first_part false b e = e

pub few_go : (s : NodeState) (partner : ℕ) (spared : Option Bytes) (links : List LinkKey) → keeps_rules s ≡ true
    → links ≡ s.links → length (filter (goes partner spared) links) ≤ 2
few_go s partner spared links kept is =
    omega (
      arith,
      fewer (goes partner spared) (is_live_of partner)
          (λ x e. first_part (is_live_of partner x) (not (is_spared spared x.key)) e) links,
      ap (λ l. length {A = LinkKey} (filter (is_live_of partner) l)) is,
      few_live s partner kept,
    )

and_true : (b : Bool) → (b && true) ≡ b
and_true true = refl
and_true false = refl

pub all_go : (s : NodeState) (partner : ℕ) (links : List LinkKey) → links ≡ s.links
    → map Moved (map drop_link (filter (goes partner None) links)) ≡ map Moved (drop_partner s partner)
unfolding drop_partner
all_go s partner links is =
    ap (λ l. map Moved (map drop_link l))
    (filter_same_tests (goes partner None) (is_live_of partner) (λ x. and_true (is_live_of partner x)) links)
    ∙ ap (λ l. map Moved (map drop_link (filter (is_live_of partner) l))) is

pub others_go : (s : NodeState) (partner : ℕ) (key : Bytes) (links : List LinkKey) → links ≡ s.links
    → map Moved (map drop_link (filter (goes partner (Some key)) links)) ≡ map Moved (drop_others s partner key)
unfolding drop_others
others_go s partner key links is = ap (λ l. map Moved (map drop_link (filter (goes partner (Some key)) l))) is
