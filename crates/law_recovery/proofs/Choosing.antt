-- A node that offers a partner a key has two candidates for the partner's frames. If only one of them opens a frame,
-- that one is chosen, wherever it is in the list.
use Rattle.std.proofs.Common.{◌≡◌, Bool, true, false, not, ◌&&◌, if◌then◌else◌, List, [], ◌∷◌, filter, find, reverse, Option, Some, None, is_some, refl, sym, ap, ◌∙◌, subst}
use Rattle.std.specs.List.{AllByRecursion}
use Rattle.zb_model.specs.Data.{Bytes}
use Rattle.zb_model.specs.Fits.{keeps_rules}
use Rattle.zb_model.specs.Judging.{candidates, opens_with}
use Rattle.zb_model.specs.State.{LinkKey, NodeState, is_live_of, is_unverified, current, offered}
use Rattle.zb_model.specs.Tools.{Tools}
use Rattle.law_change_fits.proofs.Parts.{rules_of}
use Rattle.law_change_fits.proofs.Tests.{both}
use Rattle.law_recovery.proofs.Candidates.{filter_turned}
use Rattle.law_recovery.specs.CommandFrames.{LinkFrame, IsUnsealed, sealed_content}
use Rattle.law_recovery.specs.Meeting.{HasBoth}
use Rattle.law_recovery.proofs.Judged.{opens_it}
use Rattle.law_recovery.proofs.Rows.{found_test, is_current, is_offer, one_current, one_offer}

-- ---- lists

-- what is true of all that pass two tests, and of all that pass the first alone
all_of : {X : Type 0} (P : X → Type 0) (a b : X → Bool) (xs : List X) → AllByRecursion P (filter (λ x. a x && b x) xs)
    → AllByRecursion P (filter (λ x. a x && not (b x)) xs) → AllByRecursion P (filter a xs)
all_of P a b [] p q = tt
all_of {X} P a b (x ∷ xs) p q = by_tests (a x) (b x) p q (λ f g. all_of P a b xs f g)
  where
    by_tests : (s t : Bool)
        → AllByRecursion P (if s && t then x ∷ filter (λ y. a y && b y) xs else filter (λ y. a y && b y) xs)
        → AllByRecursion P (if s && not t then x ∷ filter (λ y. a y && not (b y)) xs
        else filter (λ y. a y && not (b y)) xs)
        → (AllByRecursion P (filter (λ y. a y && b y) xs) → AllByRecursion P (filter (λ y. a y && not (b y)) xs)
        → AllByRecursion P (filter a xs)) → AllByRecursion P (if s then x ∷ filter a xs else filter a xs)
    by_tests true true p q later = (p.0, later p.1 q)
    by_tests true false p q later = (q.0, later p q.1)
    by_tests false t p q later = later p q

same_found : {X : Type 0} (q b : X → Bool) (xs : List X) → AllByRecursion (λ x. q x ≡ b x) xs → find q xs ≡ find b xs
same_found q b [] all = refl
same_found q b (x ∷ xs) all =
    ap (λ t. if t then Some x else find q xs) all.0 ∙ ap (λ o. if b x then Some x else o) (same_found q b xs all.1)

found_among : {X : Type 0} (a b : X → Bool) (xs : List X) → find b (filter a xs) ≡ find (λ x. a x && b x) xs
found_among a b [] = refl
found_among {X} a b (x ∷ xs) = by_test (a x) (found_among a b xs)
  where
    by_test : (s : Bool) → find b (filter a xs) ≡ find (λ y. a y && b y) xs
        → find b (if s then x ∷ filter a xs else filter a xs) ≡ (if s && b x then Some x
        else find (λ y. a y && b y) xs)
    by_test true e = ap (λ o. if b x then Some x else o) e
    by_test false e = e

abbrev head_of : {X : Type 0} → List X → Option X
head_of [] = None
head_of (x ∷ xs) = Some x

head_found : {X : Type 0} (q : X → Bool) (xs : List X) → find q xs ≡ head_of (filter q xs)
head_found q [] = refl
head_found {X} q (x ∷ xs) = by_test (q x) (head_found q xs)
  where
    by_test : (b : Bool) → find q xs ≡ head_of (filter q xs)
        → (if b then Some x else find q xs) ≡ head_of (if b then x ∷ filter q xs else filter q xs)
    by_test true e = refl
    by_test false e = e

one_turned : {X : Type 0} (q : X → Bool) (xs : List X) (x : X) → filter q xs ≡ x ∷ [] → filter q (reverse xs) ≡ x ∷ []
one_turned q xs x e = filter_turned q xs [] ∙ ap reverse e

-- ---- the two candidates

abbrev Opens : Tools → LinkFrame → LinkKey → Type 0
Opens tools l r = opens_with tools (sealed_content tools l) l.source r ≡ not (is_unverified r.attribute)

pub chosen_of_two : (tools : Tools) (s : NodeState) (l : LinkFrame) (key : Bytes) → keeps_rules s ≡ true
    → IsUnsealed tools l → (h : HasBoth s l.source l.link key)
    → tools.open_aps (sealed_content tools l) key l.source ≡ None
    → find (opens_with tools (sealed_content tools l) l.source) (candidates s l.source) ≡ Some h.row
unfolding candidates current offered
chosen_of_two tools s l key rules a h closed =
    let p = l.source in
    let q = opens_with tools (sealed_content tools l) p in
    let unverified = λ (r : LinkKey). is_unverified r.attribute in
    let turned = reverse s.links in
    let kinds = (rules_of s rules).kinds in
    let row : filter (is_current p) turned ≡ h.row ∷ [] =
    one_turned (is_current p) s.links h.row (one_current p h.row s.links kinds h.is_current) in
    let other : filter (is_offer p) turned ≡ h.offer ∷ [] =
    one_turned (is_offer p) s.links h.offer (one_offer p h.offer s.links kinds h.is_offered) in
    let opens : q h.row ≡ true = ap is_some (opens_it tools l h.row a h.row_key) in
    let stays : q h.offer ≡ false =
    ap is_some (ap (λ k. tools.open_aps (sealed_content tools l) k p) h.offer_key ∙ closed) in
    let current_kind = (both (is_live_of p h.row) (not (is_unverified h.row.attribute))
    (found_test (is_current p) s.links h.row h.is_current)).1 in
    let offer_kind = (both (is_live_of p h.offer) (is_unverified h.offer.attribute)
    (found_test (is_offer p) s.links h.offer h.is_offered)).1 in
    let all : AllByRecursion (Opens tools l) (filter (is_live_of p) turned) =
    all_of (Opens tools l) (is_live_of p) unverified turned
    (subst (AllByRecursion (Opens tools l)) (sym other) (stays ∙ sym (ap not offer_kind), tt))
    (subst (AllByRecursion (Opens tools l)) (sym row) (opens ∙ sym current_kind, tt)) in
    same_found q (λ r. not (is_unverified r.attribute)) (filter (is_live_of p) turned) all
    ∙ found_among (is_live_of p) (λ (r : LinkKey). not (is_unverified r.attribute)) turned
    ∙ head_found (is_current p) turned
    ∙ ap head_of row
