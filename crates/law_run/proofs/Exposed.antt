-- Keys that become known: more lines, more terms and more keys at the start expose no fewer keys.
use Rattle.std.proofs.Common.{◌≡◌, ℕ, zero, suc, ◌≤◌, Bool, true, false, cond, ◌||◌, List, [], ◌∷◌, ◌++◌, length, Option, Some, None, option_to_list, fold, flat_map, refl, sym, ap, ◌∙◌, subst, append_assoc, le_of_suc-le-suc, not-suc-le-zero, length-append, le-add_right, ◌⊎◌, inl, inr, ⊎_elim}
use Rattle.std.proofs.lemmas.Bool.{false≢true, or_cases}
use Rattle.std.proofs.lemmas.List.Sums.{fold-append}
use Rattle.zb_model.specs.Data.{Bytes, Station, Term}
use Rattle.zb_model.specs.Lines.{Line}
use Rattle.zb_model.specs.State.{same_key}
use Rattle.zb_model.specs.Tools.{Tools}
use Rattle.zb_model.specs.Readings.{station_line}
use Rattle.zb_model.specs.Secrets.{holds, with_key, carried, terms_in, terms_of, opened_by, a_round, rounds, exposed, ever_in, ever_from, ever, removed_in, removed_devices, outside, well_known}
use Rattle.zb_model.specs.Claims.{Among}
use Rattle.law_run.proofs.Basics.{same_key-eq, same_key-refl, flat_map-append}
use Rattle.law_run.proofs.Judged.{In}

-- each key of the one list is in the other
abbrev pub Within : List Bytes → List Bytes → Type 0
Within xs ys = (k : Bytes) → holds xs k ≡ true → holds ys k ≡ true

or-left : (a b : Bool) → a ≡ true → (a || b) ≡ true
or-left true b e = refl
or-left false b e = absurd (false≢true e)

or-right : (a b : Bool) → b ≡ true → (a || b) ≡ true
or-right true b e = refl
or-right false b e = e

pub holds-left : (xs ys : List Bytes) (k : Bytes) → holds xs k ≡ true → holds (xs ++ ys) k ≡ true
holds-left [] ys k e = absurd (false≢true e)
holds-left (x ∷ xs) ys k e = ⊎_elim (λ a. or-left (same_key k x) (holds (xs ++ ys) k) a)
    (λ a. or-right (same_key k x) (holds (xs ++ ys) k) (holds-left xs ys k a)) (or_cases (same_key k x) (holds xs k) e)

pub holds-right : (xs ys : List Bytes) (k : Bytes) → holds ys k ≡ true → holds (xs ++ ys) k ≡ true
holds-right [] ys k e = e
holds-right (x ∷ xs) ys k e = or-right (same_key k x) (holds (xs ++ ys) k) (holds-right xs ys k e)

pub holds-cases : (xs ys : List Bytes) (k : Bytes) → holds (xs ++ ys) k ≡ true → (holds xs k ≡ true)
    ⊎ (holds ys k ≡ true)
holds-cases [] ys k e = inr e
holds-cases (x ∷ xs) ys k e =
    ⊎_elim (λ a. inl (or-left (same_key k x) (holds xs k) a))
    (λ a. ⊎_elim (λ b. inl (or-right (same_key k x) (holds xs k) b)) (λ b. inr b) (holds-cases xs ys k a))
    (or_cases (same_key k x) (holds (xs ++ ys) k) e)

pub holds-one : (k : Bytes) → holds (k ∷ []) k ≡ true
holds-one k = or-left (same_key k k) false (same_key-refl k)

one-holds : (x k : Bytes) → holds (x ∷ []) k ≡ true → k ≡ x
one-holds x k e = ⊎_elim (λ a. same_key-eq k x a) (λ a. absurd (false≢true a)) (or_cases (same_key k x) false e)

-- one more key

with-grows-by : (b : Bool) (xs : List Bytes) (x : Bytes) → Within xs (cond b xs (xs ++ x ∷ []))
with-grows-by true xs x k e = e
with-grows-by false xs x k e = holds-left xs (x ∷ []) k e

with-grows : (xs : List Bytes) (x : Bytes) → Within xs (with_key xs x)
with-grows xs x = with-grows-by (holds xs x) xs x

with-has-by : (b : Bool) (xs : List Bytes) (x : Bytes) → holds xs x ≡ b → holds (cond b xs (xs ++ x ∷ [])) x ≡ true
with-has-by true xs x e = e
with-has-by false xs x e = holds-right xs (x ∷ []) x (holds-one x)

with-has : (xs : List Bytes) (x : Bytes) → holds (with_key xs x) x ≡ true
with-has xs x = with-has-by (holds xs x) xs x refl

pub with-cases-by : (b : Bool) (xs : List Bytes) (x k : Bytes) → holds (cond b xs (xs ++ x ∷ [])) k ≡ true
    → (holds xs k ≡ true) ⊎ (k ≡ x)
with-cases-by true xs x k e = inl e
with-cases-by false xs x k e = ⊎_elim (λ a. inl a) (λ a. inr (one-holds x k a)) (holds-cases xs (x ∷ []) k e)

with-mono : (xs ys : List Bytes) (x : Bytes) → Within xs ys → Within (with_key xs x) (with_key ys x)
with-mono xs ys x w k e =
    ⊎_elim (λ a. with-grows ys x k (w k a)) (λ a. subst (λ j. holds (with_key ys x) j ≡ true) (sym a) (with-has ys x))
    (with-cases-by (holds xs x) xs x k e)

abbrev added : List Bytes → Option Bytes → List Bytes
added keys o = fold with_key keys (option_to_list o)

added-grows : (keys : List Bytes) (o : Option Bytes) → Within keys (added keys o)
added-grows keys None k e = e
added-grows keys (Some x) k e = with-grows keys x k e

added-mono : (xs ys : List Bytes) (o : Option Bytes) → Within xs ys → Within (added xs o) (added ys o)
added-mono xs ys None w = w
added-mono xs ys (Some x) w = with-mono xs ys x w

opened-grows-by : (b : Bool) (keys : List Bytes) (o : Option Bytes) → Within keys (cond b (added keys o) keys)
opened-grows-by true keys o k e = added-grows keys o k e
opened-grows-by false keys o k e = e

opened-grows : (tools : Tools) (keys : List Bytes) (t : Term) → Within keys (opened_by tools keys t)
opened-grows tools keys t = opened-grows-by (holds keys t.base) keys (carried tools t)

opened-mono-by : (b c : Bool) (xs ys : List Bytes) (o : Option Bytes) → (b ≡ true → c ≡ true) → Within xs ys
    → Within (cond b (added xs o) xs) (cond c (added ys o) ys)
opened-mono-by true true xs ys o k w j e = added-mono xs ys o w j e
opened-mono-by true false xs ys o k w j e = absurd (false≢true (k refl))
opened-mono-by false c xs ys o k w j e = opened-grows-by c ys o j (w j e)

opened-mono : (tools : Tools) (xs ys : List Bytes) (t : Term) → Within xs ys
    → Within (opened_by tools xs t) (opened_by tools ys t)
opened-mono tools xs ys t w = opened-mono-by (holds xs t.base) (holds ys t.base) xs ys (carried tools t) (w t.base) w

-- a round, and several

round-grows : (tools : Tools) (ts : List Term) (keys : List Bytes) → Within keys (fold (opened_by tools) keys ts)
round-grows tools [] keys k e = e
round-grows tools (t ∷ ts) keys k e = round-grows tools ts (opened_by tools keys t) k (opened-grows tools keys t k e)

round-mono : (tools : Tools) (ts : List Term) (xs ys : List Bytes) → Within xs ys
    → Within (fold (opened_by tools) xs ts) (fold (opened_by tools) ys ts)
round-mono tools [] xs ys w = w
round-mono tools (t ∷ ts) xs ys w = round-mono tools ts (opened_by tools xs t) (opened_by tools ys t)
    (opened-mono tools xs ys t w)

round-more : (tools : Tools) (ts us : List Term) (xs ys : List Bytes) → Within xs ys
    → Within (a_round tools ts xs) (a_round tools (ts ++ us) ys)
unfolding a_round
round-more tools ts us xs ys w k e =
    subst (λ l. holds l k ≡ true) (sym (fold-append (opened_by tools) ys ts us))
    (round-grows tools us (fold (opened_by tools) ys ts) k (round-mono tools ts xs ys w k e))

round-keeps : (tools : Tools) (ts : List Term) (keys : List Bytes) → Within keys (a_round tools ts keys)
unfolding a_round
round-keeps tools ts keys = round-grows tools ts keys

rounds-grow : (n : ℕ) (tools : Tools) (ts : List Term) (keys : List Bytes) → Within keys (rounds n tools ts keys)
unfolding rounds
rounds-grow zero tools ts keys k e = e
rounds-grow (suc n) tools ts keys k e = rounds-grow n tools ts (a_round tools ts keys) k
    (round-keeps tools ts keys k e)

rounds-mono : (n m : ℕ) (tools : Tools) (ts us : List Term) (xs ys : List Bytes) → n ≤ m → Within xs ys
    → Within (rounds n tools ts xs) (rounds m tools (ts ++ us) ys)
unfolding rounds
rounds-mono zero m tools ts us xs ys le w k e = rounds-grow m tools (ts ++ us) ys k (w k e)
rounds-mono (suc n) zero tools ts us xs ys le w k e = absurd (not-suc-le-zero le)
rounds-mono (suc n) (suc m) tools ts us xs ys le w k e = rounds-mono n m tools ts us (a_round tools ts xs)
    (a_round tools (ts ++ us) ys) (le_of_suc-le-suc le) (round-more tools ts us xs ys w) k e

pub terms-append : (h g : List Line) → terms_of (h ++ g) ≡ terms_of h ++ terms_of g
unfolding terms_of
terms-append h g = flat_map-append terms_in h g

pub exposed-mono : (tools : Tools) (h g : List Line) (xs ys : List Bytes) → Within xs ys
    → Within (exposed tools h xs) (exposed tools (h ++ g) ys)
unfolding exposed
exposed-mono tools h g xs ys w k e =
    subst (λ ts. holds (rounds (length (h ++ g)) tools ts ys) k ≡ true) (sym (terms-append h g))
    (rounds-mono (length h) (length (h ++ g)) tools (terms_of h) (terms_of g) xs ys
    (subst (λ n. length h ≤ n) (sym (length-append h g)) (le-add_right (length h) (length g))) w k e)

pub exposed-start : (tools : Tools) (h : List Line) (xs : List Bytes) → Within xs (exposed tools h xs)
unfolding exposed
exposed-start tools h xs = rounds-grow (length h) tools (terms_of h) xs

-- what is known outside

pub flat-in : {X : Type 0} (f : X → List Bytes) (x : X) (xs : List X) → In x xs → Within (f x) (flat_map f xs)
unfolding In
flat-in f x [] i k e = absurd i
flat-in f x (y ∷ ys) (inl q) k e = holds-left (f y) (flat_map f ys) k (subst (λ z. holds (f z) k ≡ true) (sym q) e)
flat-in f x (y ∷ ys) (inr i) k e = holds-right (f y) (flat_map f ys) k (flat-in f x ys i k e)

flat-mono : {X : Type 0} (f g : X → List Bytes) (xs ys : List X) → ((x : X) → Within (f x) (g x))
    → Within (flat_map f xs) (flat_map g (xs ++ ys))
flat-mono f g [] ys w k e = absurd (false≢true e)
flat-mono f g (x ∷ xs) ys w k e =
    ⊎_elim (λ a. holds-left (g x) (flat_map g (xs ++ ys)) k (w x k a))
    (λ a. holds-right (g x) (flat_map g (xs ++ ys)) k (flat-mono f g xs ys w k a))
    (holds-cases (f x) (flat_map f xs) k e)

pub ever-append : (known : List Station) (d : ℕ) (h g : List Line) → ever_from known d (h ++ g) ≡ ever_from known d h
    ++ ever_from (fold station_line known h) d g
ever-append known d [] g = refl
ever-append known d (l ∷ ls) g =
    ap (λ x. ever_in known d l ++ x) (ever-append (station_line known l) d ls g)
    ∙ sym (append_assoc (ever_in known d l) (ever_from (station_line known l) d ls)
    (ever_from (fold station_line (station_line known l) ls) d g))

pub ever-mono : (h g : List Line) (d : ℕ) → Within (ever h d) (ever (h ++ g) d)
unfolding ever
ever-mono h g d k e = subst (λ l. holds l k ≡ true) (sym (ever-append [] d h g))
    (holds-left (ever_from [] d h) (ever_from (fold station_line [] h) d g) k e)

removed-append : (h g : List Line) → removed_devices (h ++ g) ≡ removed_devices h ++ removed_devices g
unfolding removed_devices
removed-append h g = flat_map-append removed_in h g

pub outside-mono : (h g : List Line) → Within (outside h) (outside (h ++ g))
unfolding outside
outside-mono h g k e = ⊎_elim (λ a. or-left (same_key k well_known) later a)
    (λ a. or-right (same_key k well_known) later (more a))
    (or_cases (same_key k well_known) (holds (flat_map (ever h) (removed_devices h)) k) e)
  where
    later : Bool
    later = holds (flat_map (ever (h ++ g)) (removed_devices (h ++ g))) k

    more : holds (flat_map (ever h) (removed_devices h)) k ≡ true → later ≡ true
    more a = subst (λ ds. holds (flat_map (ever (h ++ g)) ds) k ≡ true) (sym (removed-append h g))
        (flat-mono (ever h) (ever (h ++ g)) (removed_devices h) (removed_devices g) (λ d. ever-mono h g d) k a)

pub known-mono : (tools : Tools) (h g : List Line)
    → Within (exposed tools h (outside h)) (exposed tools (h ++ g) (outside (h ++ g)))
known-mono tools h g = exposed-mono tools h g (outside h) (outside (h ++ g)) (outside-mono h g)

-- what a removed device ever held is known outside
pub ever-outside : (tools : Tools) (h : List Line) (d : ℕ) → In d (removed_devices h)
    → Within (ever h d) (exposed tools h (outside h))
unfolding outside
ever-outside tools h d i k e =
    exposed-start tools h (outside h) k
    (or-right (same_key k well_known) (holds (flat_map (ever h) (removed_devices h)) k)
    (flat-in (ever h) d (removed_devices h) i k e))

-- a key that is held is among them
among-later : (x key : Bytes) (xs : List Bytes) → Among xs key → Among (x ∷ xs) key
among-later x key xs a = Rattle.law_run.proofs.AnyLemmas.any-later (λ k. k ≡ key) x xs a

pub holds-among : (xs : List Bytes) (key : Bytes) → holds xs key ≡ true → Among xs key
holds-among [] key e = absurd (false≢true e)
holds-among (x ∷ xs) key e =
    ⊎_elim (λ a. Rattle.law_run.proofs.AnyLemmas.any-first (λ k. k ≡ key) x xs (sym (same_key-eq key x a)))
    (λ a. among-later x key xs (holds-among xs key a)) (or_cases (same_key key x) (holds xs key) e)
