-- What removed devices seal, and what is forged, is sealed under keys that are known outside.
use Rattle.std.proofs.Common.{◌≡◌, ℕ, Bool, true, false, cond, ◌||◌, List, [], ◌∷◌, ◌++◌, Option, Some, None, find, flat_map, nat_eq, refl, sym, ap, ◌∙◌, subst, eqb-true, append_assoc, ◌⊎◌, inl, inr, ⊎_elim, eq-eqb}
use Rattle.std.proofs.lemmas.Bool.{false≢true, and_parts}
use Rattle.std.specs.List.{AllByRecursion, list_any}
use Rattle.zb_model.specs.Data.{Bytes, Layer, Nwk, Aps, Term, Removed, Moved}
use Rattle.zb_model.specs.Lines.{Line, Declared, Changed, Accept, Seal, Forge}
use Rattle.zb_model.specs.State.{NetKey}
use Rattle.zb_model.specs.Tools.{Tools}
use Rattle.zb_model.specs.Readings.{state_of, speaker}
use Rattle.zb_model.specs.Secrets.{holds, ever, outside, exposed, removed_in, removed_devices, each_line, based_line, forged_in}
use Rattle.zb_model.specs.Claims.{Each, HoldsNoneKnown, before_group, seals_of, is_live_line, until_live, RefusesLine}
use Rattle.law_run.specs.Lockout.{RefusesAfter, RefusesOutsiders}
use Rattle.law_run.proofs.Basics.{append-nil', flat_map-append, same_key-eq}
use Rattle.law_run.proofs.Nets.{Holds, at_key, Gives}
use Rattle.law_run.proofs.Counters.{SealFitsAt, LineFits, found-key}
use Rattle.law_run.proofs.FreshLines.{all-append, all-map}
use Rattle.law_run.proofs.Judged.{In, all-in, found-element}
use Rattle.law_run.proofs.AnyLemmas.{any-in}
use Rattle.law_run.proofs.Exposed.{known-mono, ever-outside}
use Rattle.law_run.proofs.Given.{nets-given, given-within, givens}

-- The terms that devices seal after their removal

abbrev late_in : List ℕ → Line → List Term
late_in gone (Seal e n t) = cond (list_any (λ d. nat_eq d n) gone) (t ∷ []) []
late_in gone _ = []

abbrev pub late : List ℕ → List Line → List Term
late gone [] = []
late gone (l ∷ ls) = late_in gone l ++ late (gone ++ removed_in l) ls

abbrev pub removals : List Line → List ℕ
removals h = flat_map removed_in h

pub late-append : (gone : List ℕ) (xs ys : List Line) → late gone (xs ++ ys) ≡ late gone xs
    ++ late (gone ++ removals xs) ys
late-append gone [] ys = ap (λ g. late g ys) (sym (append-nil' gone))
late-append gone (x ∷ xs) ys =
    ap (λ l. late_in gone x ++ l)
    (late-append (gone ++ removed_in x) xs ys ∙ ap (λ g. late (gone ++ removed_in x) xs ++ late g ys)
    (append_assoc gone (removed_in x) (removals xs)))
    ∙ sym (append_assoc (late_in gone x) (late (gone ++ removed_in x) xs)
    (late (gone ++ (removed_in x ++ removals xs)) ys))

in-left : {X : Type 0} (x : X) (xs ys : List X) → In x xs → In x (xs ++ ys)
unfolding In
in-left x [] ys i = absurd i
in-left x (z ∷ xs) ys (inl e) = inl e
in-left x (z ∷ xs) ys (inr i) = inr (in-left x xs ys i)

in-right : {X : Type 0} (x : X) (xs ys : List X) → In x ys → In x (xs ++ ys)
unfolding In
in-right x [] ys i = i
in-right x (z ∷ xs) ys i = inr (in-right x xs ys i)

in-either : {X : Type 0} (x : X) (xs ys : List X) → In x (xs ++ ys) → In x xs ⊎ In x ys
unfolding In
in-either x [] ys i = inr i
in-either x (z ∷ xs) ys (inl e) = inl (inl e)
in-either x (z ∷ xs) ys (inr i) = ⊎_elim (λ a. inl (inr a)) (λ a. inr a) (in-either x xs ys i)

in-empty : {X : Type 0} (x : X) → In x [] → ⊥
unfolding In
in-empty x i = i

gone-true : (d n : ℕ) (gone : List ℕ) → In d gone → d ≡ n → list_any (λ x. nat_eq x n) gone ≡ true
unfolding In
gone-true d n [] i e = absurd i
gone-true d n (x ∷ gone) (inl q) e = or-left (nat_eq x n) (list_any (λ x. nat_eq x n) gone) (eq-eqb x n (q ∙ e))
  where
    or-left : (a b : Bool) → a ≡ true → (a || b) ≡ true
    or-left true b e = refl
    or-left false b e = absurd (false≢true e)
gone-true d n (x ∷ gone) (inr i) e = or-right (nat_eq x n) (list_any (λ x. nat_eq x n) gone) (gone-true d n gone i e)
  where
    or-right : (a b : Bool) → b ≡ true → (a || b) ≡ true
    or-right true b e = refl
    or-right false b e = e

true-gone : (n : ℕ) (gone : List ℕ) → list_any (λ x. nat_eq x n) gone ≡ true → In n gone
unfolding In
true-gone n [] e = absurd (false≢true e)
true-gone n (x ∷ gone) e = by-test (nat_eq x n) refl e (true-gone n gone)
  where
    by-test : (b : Bool) → nat_eq x n ≡ b → (b || list_any (λ x. nat_eq x n) gone) ≡ true
        → (list_any (λ x. nat_eq x n) gone ≡ true → In n gone) → (x ≡ n) ⊎ In n gone
    by-test true q e k = inl (eqb-true x n q)
    by-test false q e k = inr (k e)

-- a seal of a removed device is among them
seal-late : (d : ℕ) (t : Term) (gone : List ℕ) (l : Line) → In d gone → In t (seals_of d l) → In t (late_in gone l)
seal-late d t gone (Seal e n u) g i = by-test (nat_eq n d) refl i
  where
    by-test : (b : Bool) → nat_eq n d ≡ b → In t (cond b (u ∷ []) [])
        → In t (cond (list_any (λ x. nat_eq x n) gone) (u ∷ []) [])
    by-test true q i = subst (λ b. In t (cond b (u ∷ []) [])) (sym (gone-true d n gone g (sym (eqb-true n d q)))) i
    by-test false q i = absurd (in-empty t i)
seal-late d t gone l g i = absurd (in-empty t i)

pub seals-late : (d : ℕ) (t : Term) (gone : List ℕ) (since : List Line) → In d gone
    → In t (flat_map (seals_of d) since) → In t (late gone since)
seals-late d t gone [] g i = i
seals-late d t gone (l ∷ ls) g i =
    ⊎_elim (λ a. in-left t (late_in gone l) (late (gone ++ removed_in l) ls) (seal-late d t gone l g a))
    (λ a. in-right t (late_in gone l) (late (gone ++ removed_in l) ls)
    (seals-late d t (gone ++ removed_in l) ls (in-left d gone (removed_in l) g) a))
    (in-either t (seals_of d l) (flat_map (seals_of d) ls) i)

-- What is known outside

abbrev pub Known : Tools → List Line → Term → Type 0
Known tools h t = t.layer ≡ Nwk → holds (exposed tools h (outside h)) t.base ≡ true

pub record Bad (tools : Tools) (h : List Line) : Type 0 where
  pub seals : AllByRecursion (Known tools h) (late [] h)
  pub forges : AllByRecursion (Known tools h) (flat_map forged_in h)

unfoldable pub NotDeclared : Line → Type 0
NotDeclared (Declared p) = ⊥
NotDeclared _ = Unit {0}

known-snoc : (tools : Tools) (h : List Line) (l : Line) → NotDeclared l → (t : Term) → Known tools h t
    → Known tools (h ++ l ∷ []) t
known-snoc tools h l k t p e = known-mono tools h (l ∷ []) t.base (p e)

-- the base key of a NWK seal was given to its node
holds-row : (c : ℕ) (keys : List Bytes) (base : Bytes) (nets : List NetKey)
    → AllByRecursion (λ (r : NetKey). holds keys r.key ≡ true) nets → (o : Option NetKey) → find (at_key base) nets
    ≡ o → Holds (Gives c) o → holds keys base ≡ true
unfolding Holds
holds-row c keys base nets a None e h = absurd h
holds-row c keys base nets a (Some r) e h =
    subst (λ k. holds keys k ≡ true) (same_key-eq r.key base (found-key base nets r e))
    (all-in (λ (x : NetKey). holds keys x.key ≡ true) nets a r (found-element (at_key base) nets r e).0)

seal-given : (h : List Line) (n : ℕ) (layer : Layer) (t : Term) → SealFitsAt layer t (state_of h n) → layer ≡ Nwk
    → holds (ever h n) t.base ≡ true
unfolding SealFitsAt
seal-given h n Nwk t f e =
    given-within h n t.base
    (holds-row t.counter (givens n h) t.base (state_of h n).nets (nets-given h n)
    (find (at_key t.base) (state_of h n).nets) refl f.2)
seal-given h n Aps t f e = absurd (layers-apart e)
  where
    IsAps : Layer → Type 0
    IsAps Aps = Unit {0}
    IsAps Nwk = ⊥

    layers-apart : Aps ≡ Nwk → ⊥
    layers-apart e = subst IsAps e tt

removed-gone : (n : ℕ) (h : List Line) → In n (removals h) → In n (removed_devices h)
unfolding removed_devices
removed-gone n h i = i

-- a forged term's base key is known outside before it
abbrev pub Based : Tools → List Line → Line → Type 0
Based tools h l = based_line tools h l ≡ true

new-seals : (tools : Tools) (h : List Line) (l : Line) → NotDeclared l → LineFits h l
    → AllByRecursion (Known tools (h ++ l ∷ [])) (late_in (removals h) l)
unfolding NotDeclared speaker
new-seals tools h (Seal e n t) k f = by-test (list_any (λ x. nat_eq x n) (removals h)) refl
  where
    known : list_any (λ x. nat_eq x n) (removals h) ≡ true → Known tools (h ++ Seal e n t ∷ []) t
    known q layer = known-mono tools h (Seal e n t ∷ []) t.base
        (ever-outside tools h n (gone q) t.base (seal-given h n t.layer t f.fits layer))
      where
        gone : list_any (λ x. nat_eq x n) (removals h) ≡ true → In n (removed_devices h)
        gone q = removed-gone n h (true-gone n (removals h) q)

    by-test : (b : Bool) → list_any (λ x. nat_eq x n) (removals h) ≡ b
        → AllByRecursion (Known tools (h ++ Seal e n t ∷ [])) (cond b (t ∷ []) [])
    by-test true q = (known q, tt)
    by-test false q = tt
new-seals tools h l k f = tt

new-forges : (tools : Tools) (h : List Line) (l : Line) → NotDeclared l → Based tools h l
    → AllByRecursion (Known tools (h ++ l ∷ [])) (forged_in l)
unfolding NotDeclared
new-forges tools h (Forge e t) k b = ((λ layer. known-mono tools h (Forge e t ∷ []) t.base b), tt)
new-forges tools h l k b = tt

pub bad-snoc : (tools : Tools) (h : List Line) (l : Line) → NotDeclared l → LineFits h l → Based tools h l
    → Bad tools h → Bad tools (h ++ l ∷ [])
bad-snoc tools h l k f b bad = record {
  seals = subst (λ ts. AllByRecursion (Known tools (h ++ l ∷ [])) ts)
      (sym (late-append [] h (l ∷ []) ∙ ap (λ x. late [] h ++ x) (append-nil' (late_in (removals h) l))))
      (all-append (Known tools (h ++ l ∷ [])) (late [] h) (late_in (removals h) l)
      (all-map (Known tools h) (Known tools (h ++ l ∷ [])) (known-snoc tools h l k) (late [] h) bad.seals)
      (new-seals tools h l k f));
  forges = subst (λ ts. AllByRecursion (Known tools (h ++ l ∷ [])) ts)
      (sym (flat_map-append forged_in h (l ∷ []) ∙ ap (λ x. flat_map forged_in h ++ x) (append-nil' (forged_in l))))
      (all-append (Known tools (h ++ l ∷ [])) (flat_map forged_in h) (forged_in l)
      (all-map (Known tools h) (Known tools (h ++ l ∷ [])) (known-snoc tools h l k) (flat_map forged_in h)
      bad.forges) (new-forges tools h l k b));
}

-- the lines that a claim is made of: none declares a node
pub bad-lines : (tools : Tools) (h ls : List Line) → AllByRecursion NotDeclared ls → Each LineFits h ls
    → Each (Based tools) h ls → Bad tools h → Bad tools (h ++ ls)
bad-lines tools h [] k f b bad = subst (Bad tools) (sym (append-nil' h)) bad
bad-lines tools h (l ∷ ls) k f b bad = subst (Bad tools) (append_assoc h (l ∷ []) ls)
    (bad-lines tools (h ++ l ∷ []) ls k.1 f.1 b.1 (bad-snoc tools h l k.0 f.0 b.0 bad))

-- private lines are based, one by one
pub based-each : (tools : Tools) (h ls : List Line) → each_line (based_line tools) h ls ≡ true
    → Each (Based tools) h ls
unfolding each_line
based-each tools h [] e = tt
based-each tools h (l ∷ ls) e = (
  (and_parts (based_line tools h l) (each_line (based_line tools) (h ++ l ∷ []) ls) e).0,
  based-each tools (h ++ l ∷ []) ls
      (and_parts (based_line tools h l) (each_line (based_line tools) (h ++ l ∷ []) ls) e).1,
)

-- The claim on an accept line, and the second half of lockout from it

abbrev pub NoOutsider : Tools → List Line → Line → Type 0
NoOutsider tools h (Accept e n t) = t.layer ≡ Nwk → HoldsNoneKnown tools (before_group e h) n → In t (late [] h)
    ⊎ In t (flat_map forged_in h) → ⊥
NoOutsider tools h _ = Unit {0}

one-line : (tools : Tools) (d : ℕ) (p since : List Line) (l : Line) → In d (removals p)
    → NoOutsider tools (p ++ since) l → RefusesLine tools d p since l
one-line tools d p since (Accept e n t) g q = λ layer holds_none bad.
    q layer holds_none (⊎_elim
    (λ a. inl
    (subst (In t) (sym (late-append [] p since))
    (in-right t (late [] p) (late (removals p) since)
    (seals-late d t (removals p) since g (any-in (flat_map (seals_of d) since) t a)))))
    (λ a. inr (any-in (flat_map forged_in (p ++ since)) t a)) bad)
one-line tools d p since l g q = tt

refuses-from : (tools : Tools) (d : ℕ) (p since rest : List Line) → In d (removals p)
    → Each (NoOutsider tools) (p ++ since) rest → Each (RefusesLine tools d p) since (until_live d rest)
refuses-from tools d p since [] g q = tt
refuses-from tools d p since (l ∷ ls) g q = by-test (is_live_line d l) (one-line tools d p since l g q.0)
    (refuses-from tools d p (since ++ l ∷ []) ls g
    (subst (λ x. Each (NoOutsider tools) x ls) (append_assoc p since (l ∷ [])) q.1))
  where
    by-test : (b : Bool) → RefusesLine tools d p since l → Each (RefusesLine tools d p) (since ++ l ∷ [])
        (until_live d ls) → Each (RefusesLine tools d p) since (cond b [] (l ∷ until_live d ls))
    by-test true a r = tt
    by-test false a r = (a, r)

last-removed : (h : List Line) (e n d : ℕ) → In d (removals (h ++ Changed e n (Moved (Removed d)) ∷ []))
unfolding In
last-removed h e n d = subst (In d) (sym (flat_map-append removed_in h (Changed e n (Moved (Removed d)) ∷ [])))
    (in-right d (removals h) (d ∷ []) (inl refl))

refuses-at : (tools : Tools) (h : List Line) (l : Line) (after : List Line)
    → Each (NoOutsider tools) (h ++ l ∷ []) after → RefusesAfter tools h l after
refuses-at tools h (Changed e n (Moved (Removed d))) after q =
    refuses-from tools d (h ++ Changed e n (Moved (Removed d)) ∷ []) [] after (last-removed h e n d)
    (subst (λ x. Each (NoOutsider tools) x after) (sym (append-nil' (h ++ Changed e n (Moved (Removed d)) ∷ [])))
    q)
refuses-at tools h l after q = tt

pub refuses-outsiders : (tools : Tools) (h ls : List Line) → Each (NoOutsider tools) h ls → RefusesOutsiders tools h ls
refuses-outsiders tools h [] q = tt
refuses-outsiders tools h (l ∷ ls) q = (refuses-at tools h l ls q.1, refuses-outsiders tools (h ++ l ∷ []) ls q.1)
