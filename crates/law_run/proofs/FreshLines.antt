-- If the seals of lines fit, no two of them have one key and nonce.
use Rattle.std.proofs.Common.{◌≡◌, ℕ, ◌<◌, ◌+◌, ◌^◌, Bool, true, false, cond, List, [], ◌∷◌, ◌++◌, Option, Some, None, find, nat_eq, flat_map, take, drop, get_or, refl, sym, ap, ◌∙◌, subst, arith, eqb-true, append_assoc, lt_irrefl}
use Rattle.std.specs.List.{AllByRecursion}
use Rattle.std.specs.Int.{w32, w64, from_le_bytes}
use Rattle.std.proofs.lemmas.Nat.{from_le_bytes-to_le_bytes_4, from_le_bytes-to_le_bytes_8}
use Rattle.zb_model.specs.Data.{Bytes, Layer, Nwk, Aps, ForNetwork, Term}
use Rattle.zb_model.specs.Lines.{Line, Seal}
use Rattle.zb_model.specs.State.{greatest_counter, NetKey, NodeState, at_net, next_at, after_sealing, sealed_at}
use Rattle.zb_model.specs.Frames.{nwk_control}
use Rattle.zb_model.specs.Tools.{Tools, sealing_key}
use Rattle.zb_model.specs.Readings.{state_of, heard_line, after, speaker}
use Rattle.zb_model.specs.Claims.{Each, stamp, nonce, sealed_in, sealed_terms, AreApart}
use Rattle.law_run.proofs.Basics.{nat_eq-refl, state-snoc, flat_map-append, append-nil'}
use Rattle.law_run.proofs.Nets.{Holds, On, at_key, Covers, Gives}
use Rattle.law_run.proofs.Counters.{SealFitsAt, SealFits, StateFits, LineFits, ApsCovers, Commanded, covers-after, aps-after, commanded-after}

-- lists

pub all-append : {X : Type 0} (P : X → Type 0) (xs ys : List X) → AllByRecursion P xs → AllByRecursion P ys
    → AllByRecursion P (xs ++ ys)
all-append P [] ys a b = b
all-append P (x ∷ xs) ys a b = (a.0, all-append P xs ys a.1 b)

pub all-map : {X : Type 0} (P Q : X → Type 0) → ((x : X) → P x → Q x) → (xs : List X) → AllByRecursion P xs
    → AllByRecursion Q xs
all-map P Q k [] a = tt
all-map P Q k (x ∷ xs) a = (k x a.0, all-map P Q k xs a.1)

-- what a node's state keeps under its own lines, and under those of others
by-speaker : (Φ : NodeState → Type 0) (l : Line) (s : NodeState) (b : Bool) → (b ≡ true → Φ (after l s)) → Φ s
    → Φ (cond b (after l s) s)
by-speaker Φ l s true k h = k refl
by-speaker Φ l s false k h = h

pub heard-keeps : (Φ : NodeState → Type 0) (n : ℕ) (l : Line) (s : NodeState) → (speaker l ≡ n → Φ (after l s)) → Φ s
    → Φ (heard_line n s l)
unfolding heard_line
heard-keeps Φ n l s k h = by-speaker Φ l s (nat_eq (speaker l) n) (λ b. k (eqb-true (speaker l) n b)) h

pub line-keeps : (Φ : NodeState → Type 0) (h : List Line) (l : Line) (n : ℕ) → LineFits h l
    → (StateFits l (state_of h n) → Φ (state_of h n) → Φ (after l (state_of h n))) → Φ (state_of h n)
    → Φ (state_of (h ++ l ∷ []) n)
line-keeps Φ h l n fits k p =
    subst Φ (sym (state-snoc h l n))
    (heard-keeps Φ n l (state_of h n) (λ e. k (subst (λ m. StateFits l (state_of h m)) e fits) p) p)

-- a term that was sealed: its counter stays below what its node seals next
unfoldable pub Below : Layer → Term → NodeState → Type 0
Below Nwk t s = (t.label ≡ ForNetwork) × (t.control ≡ nwk_control) × On (Covers t.counter) t.base s.nets
Below Aps t s = (t.control ≡ nwk_control → ⊥) × ApsCovers t.counter s

pub record Marked (h : List Line) (t : Term) : Type 0 where
  pub small : t.counter < greatest_counter
  pub eui : t.source < 2 ^ 64
  pub below : Below t.layer t (state_of h t.source)

below-after : (layer : Layer) (t : Term) (l : Line) (s : NodeState) → StateFits l s → Below layer t s
    → Below layer t (after l s)
unfolding Below
below-after Nwk t l s m b = (b.0, b.1, covers-after t.counter t.base l s m b.2)
below-after Aps t l s m b = (b.0, aps-after t.counter l s m b.1)

marked-snoc : (h : List Line) (l : Line) → LineFits h l → (t : Term) → Marked h t → Marked (h ++ l ∷ []) t
marked-snoc h l fits t m = record {
  small = m.small;
  eui = m.eui;
  below = line-keeps (λ s. Below t.layer t s) h l t.source fits
      (λ f b. below-after t.layer t l (state_of h t.source) f b) m.below;
}

-- a term that is sealed now is below it at once
gives-then-covers : (c : ℕ) (r : NetKey) → Gives c r → Gives c r → Covers c (next_at (c + 1) r)
gives-then-covers c r p q = (p.0, omega arith, p.2)

new-below : (layer : Layer) (t : Term) (s : NodeState) → SealFitsAt layer t s → Below layer t (sealed_at layer t s)
unfolding Below SealFitsAt
new-below Nwk t s f = (f.0, f.1, on-given t.counter t.base s.nets f.2)
  where
    on-given : (c : ℕ) (base : Bytes) (nets : List NetKey) → On (Gives c) base nets
        → On (Covers c) base (at_net base (next_at (c + 1)) nets)
    on-given c base nets g = Rattle.law_run.proofs.Nets.on-map-found (Gives c) (Covers c) (next_at (c + 1)) base nets
        (λ r. refl) (λ r p. gives-then-covers c r p p) g
new-below Aps t s f = (f.0, (omega arith, f.2))

own-seal : (e n : ℕ) (t : Term) (s : NodeState) → heard_line n s (Seal e n t) ≡ sealed_at t.layer t s
unfolding heard_line speaker after after_sealing
own-seal e n t s = ap (λ b. cond b (sealed_at t.layer t s) s) (nat_eq-refl n)

seal-marked : (h : List Line) (e n : ℕ) (t : Term) → SealFits n t (state_of h n) → Marked (h ++ Seal e n t ∷ []) t
seal-marked h e n t f = record {
  small = f.small;
  eui = subst (λ m. m < 2 ^ 64) (sym f.source) f.eui;
  below = subst (λ m. Below t.layer t (state_of (h ++ Seal e n t ∷ []) m)) (sym f.source)
      (subst (λ s. Below t.layer t s) (sym (state-snoc h (Seal e n t) n ∙ own-seal e n t (state_of h n)))
      (new-below t.layer t (state_of h n) f.fits));
}

-- two terms with one nonce have one source, counter and control

same-source : (u t : Term) → u.source < 2 ^ 64 → t.source < 2 ^ 64 → nonce u ≡ nonce t → u.source ≡ t.source
unfolding nonce
same-source u t a b e = sym (from_le_bytes-to_le_bytes_8 u.source a) ∙ ap (λ l. from_le_bytes w64 l)
    (ap (λ l. take 8 l) e) ∙ from_le_bytes-to_le_bytes_8 t.source b

same-counter : (u t : Term) → u.counter < 2 ^ 32 → t.counter < 2 ^ 32 → nonce u ≡ nonce t → u.counter ≡ t.counter
unfolding nonce
same-counter u t a b e = sym (from_le_bytes-to_le_bytes_4 u.counter a) ∙ ap (λ l. from_le_bytes w32 l)
    (ap (λ l. take 4 (drop 8 l)) e) ∙ from_le_bytes-to_le_bytes_4 t.counter b

same-control : (u t : Term) → nonce u ≡ nonce t → u.control ≡ t.control
unfolding nonce
same-control u t e = ap (λ l. get_or l 12 0) e

holds-both : (P Q : NetKey → Type 0) (o : Option NetKey) → Holds P o → Holds Q o → ((r : NetKey) → P r → Q r → ⊥) → ⊥
unfolding Holds
holds-both P Q None p q k = absurd p
holds-both P Q (Some r) p q k = k r p q

same-base : (tools : Tools) (u t : Term) → u.label ≡ ForNetwork → t.label ≡ ForNetwork
    → sealing_key tools u.label u.base ≡ sealing_key tools t.label t.base → u.base ≡ t.base
unfolding sealing_key
same-base tools u t a b e = ap (λ l. sealing_key tools l u.base) (sym a) ∙ e ∙ ap (λ l. sealing_key tools l t.base) b

differ-at : (tools : Tools) (lu lt : Layer) (u t : Term) (s : NodeState) → Below lu u s → SealFitsAt lt t s
    → u.control ≡ t.control → u.counter ≡ t.counter → sealing_key tools u.label u.base
    ≡ sealing_key tools t.label t.base → ⊥
unfolding Below SealFitsAt
differ-at tools Nwk Nwk u t s b f control counter key =
    holds-both (Covers u.counter) (Gives t.counter) (find (at_key u.base) s.nets) b.2
    (subst (λ k. On (Gives t.counter) k s.nets) (sym (same-base tools u t b.0 f.0 key)) f.2)
    (λ r p q. lt_irrefl u.counter (omega (arith, p.1, q.1, counter)))
differ-at tools Nwk Aps u t s b f control counter key = f.0 (sym control ∙ b.1)
differ-at tools Aps Nwk u t s b f control counter key = b.0 (control ∙ f.1)
differ-at tools Aps Aps u t s b f control counter key = lt_irrefl u.counter (omega (arith, b.1.0, f.1, counter))

differ : (tools : Tools) (h : List Line) (n : ℕ) (t : Term) → SealFits n t (state_of h n) → (u : Term) → Marked h u
    → stamp tools u ≡ stamp tools t → ⊥
unfolding stamp
differ tools h n t f u m e =
    differ-at tools u.layer t.layer u t (state_of h n) (subst (λ k. Below u.layer u (state_of h k)) source m.below)
    f.fits
    (same-control u t nonces) (same-counter u t (omega (arith, m.small)) (omega (arith, f.small)) nonces)
    (ap (λ x. x.key) e)
  where
    nonces : nonce u ≡ nonce t
    nonces = ap (λ x. x.nonce) e

    source : u.source ≡ n
    source = same-source u t m.eui (subst (λ k. k < 2 ^ 64) (sym f.source) f.eui) nonces ∙ f.source

-- the invariant

pub record Inv (tools : Tools) (h : List Line) : Type 0 where
  pub commanded : (n : ℕ) → Commanded (state_of h n)
  pub below : AllByRecursion (Marked h) (sealed_terms h)
  pub apart : AreApart tools (sealed_terms h)

apart-snoc : (tools : Tools) (ts : List Term) (t : Term) → AreApart tools ts
    → AllByRecursion (λ u. stamp tools u ≡ stamp tools t → ⊥) ts → AreApart tools (ts ++ t ∷ [])
apart-snoc tools [] t a d = (tt, tt)
apart-snoc tools (u ∷ us) t a d =
    (all-append (λ v. stamp tools u ≡ stamp tools v → ⊥) us (t ∷ []) a.0 (d.0, tt), apart-snoc tools us t a.1 d.1)

terms-snoc : (h : List Line) (l : Line) → sealed_terms (h ++ l ∷ []) ≡ sealed_terms h ++ sealed_in l
unfolding sealed_terms
terms-snoc h l = flat_map-append sealed_in h (l ∷ []) ∙ ap (λ x. flat_map sealed_in h ++ x) (append-nil' (sealed_in l))

at-speaker : (h : List Line) (e n : ℕ) (t : Term) → LineFits h (Seal e n t) → SealFits n t (state_of h n)
unfolding speaker
at-speaker h e n t f = f

-- the terms of a line that is not a seal, and of one that is
inv-terms : (tools : Tools) (h : List Line) (l : Line) → LineFits h l → Inv tools h
    → AllByRecursion (Marked (h ++ l ∷ [])) (sealed_terms h ++ sealed_in l)
    × AreApart tools (sealed_terms h ++ sealed_in l)
inv-terms tools h (Seal e n t) f i = (
  all-append (Marked (h ++ Seal e n t ∷ [])) (sealed_terms h) (t ∷ [])
      (all-map (Marked h) (Marked (h ++ Seal e n t ∷ [])) (marked-snoc h (Seal e n t) f) (sealed_terms h) i.below)
      (seal-marked h e n t (at-speaker h e n t f), tt),
  apart-snoc tools (sealed_terms h) t i.apart
      (all-map (Marked h) (λ u. stamp tools u ≡ stamp tools t → ⊥) (differ tools h n t (at-speaker h e n t f))
      (sealed_terms h) i.below),
)
inv-terms tools h l f i = (
  subst (λ x. AllByRecursion (Marked (h ++ l ∷ [])) x) (sym (append-nil' (sealed_terms h)))
      (all-map (Marked h) (Marked (h ++ l ∷ [])) (marked-snoc h l f) (sealed_terms h) i.below),
  subst (λ x. AreApart tools x) (sym (append-nil' (sealed_terms h))) i.apart,
)

pub inv-snoc : (tools : Tools) (h : List Line) (l : Line) → LineFits h l → Inv tools h → Inv tools (h ++ l ∷ [])
inv-snoc tools h l f i = record {
  commanded = λ n. line-keeps Commanded h l n f (λ m o. commanded-after l (state_of h n) m o) (i.commanded n);
  below = subst (λ x. AllByRecursion (Marked (h ++ l ∷ [])) x) (sym (terms-snoc h l)) (inv-terms tools h l f i).0;
  apart = subst (λ x. AreApart tools x) (sym (terms-snoc h l)) (inv-terms tools h l f i).1;
}

pub inv-lines : (tools : Tools) (h ls : List Line) → Each LineFits h ls → Inv tools h → Inv tools (h ++ ls)
inv-lines tools h [] f i = subst (λ x. Inv tools x) (sym (append-nil' h)) i
inv-lines tools h (l ∷ ls) f i = subst (λ x. Inv tools x) (append_assoc h (l ∷ []) ls)
    (inv-lines tools (h ++ l ∷ []) ls f.1 (inv-snoc tools h l f.0 i))
