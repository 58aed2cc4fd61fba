-- If the accepted terms of lines fit, the lines accept each counter of a sender once: an accepted counter stays below
-- the floor, in memory and stored.
use Rattle.std.proofs.Common.{◌≡◌, ℕ, ◌<◌, ◌≤◌, ◌+◌, max, Bool, true, false, cond, List, [], ◌∷◌, ◌++◌, map, Option, Some, None, option_map, find, nat_eq, refl, sym, ap, ◌∙◌, subst, arith, eqb-true}
use Rattle.std.proofs.lemmas.Bool.{and_parts}
use Rattle.std.specs.List.{AllByRecursion}
use Rattle.zb_model.specs.Data.{Bytes, Layer, Nwk, Aps, Attribute, Term, Move, Draw, DropNet, DropLink, Install, Active, Row, Pair, Became, Live, Removed, Roll, Told, Untold, Edit, Reserve, Floor, Start, Moved}
use Rattle.zb_model.specs.Lines.{Line, Declared, GivenNet, GivenLink, Counter, Changed, Accept, Seal, Boot}
use Rattle.zb_model.specs.State.{SenderFloor, NetKey, LinkKey, NodeState, same_key, has_net, has_link, is_link, is_live_of, is_told, at_link, new_link, revived, dropped_link, told_as, link_floor, link_kept, booted_link, net_kept, booted_net, declared_at, given_net, next_at, applied, moved, after_sealing, sealed_at, after_boot, after_hearing, after_accepting, with_given_net, with_given_link, with_declared}
use Rattle.zb_model.specs.Readings.{state_of, heard_line, after, speaker}
use Rattle.zb_model.specs.Claims.{Each, Rises, OnceFrom, Once}
use Rattle.law_run.proofs.Basics.{same_key-eq, nat_eq-refl, find-map, state-snoc}
use Rattle.law_run.proofs.Finds.{HoldsOf, Finds, finds-map, finds-append}
use Rattle.law_run.proofs.Nets.{Holds, On, at_key, Keeps, Closed, Mild, on-map, on-add, on-applied, on-at, on-map-found}
use Rattle.law_run.proofs.Counters.{on-sealed}
use Rattle.law_run.proofs.FreshLines.{heard-keeps}
use Rattle.law_run.proofs.FloorRows.{Sorted, FloorAt, Takes, Over, sorted-stored, stored-keeps, sorted-kept, sorted-booted, kept-over, kept-new, booted-over}

-- A network row whose floor of a source is over a counter, or takes it; a link row likewise.
abbrev pub RowOver : ℕ → ℕ → NetKey → Type 0
RowOver c source r = Sorted r.floors × FloorAt (Over c) source r.floors

abbrev pub RowTakes : ℕ → ℕ → NetKey → Type 0
RowTakes c source r = Sorted r.floors × FloorAt (Takes c) source r.floors

abbrev pub LinkOver : ℕ → LinkKey → Type 0
LinkOver c r = (c < r.kept) × (c < r.stored)

abbrev pub LinkTakes : ℕ → LinkKey → Type 0
LinkTakes c r = (r.kept ≤ c) × (c < r.stored)

-- A slot of floors in a state: a counter stays under its floors, or is taken by them.
unfoldable pub OverAt : Layer → ℕ → Bytes → ℕ → NodeState → Type 0
OverAt Nwk c base source s = On (RowOver c source) base s.nets
OverAt Aps c base source s = Finds (LinkOver c) (is_link source base) s.links

unfoldable pub TakesAt : Layer → ℕ → Bytes → ℕ → NodeState → Type 0
TakesAt Nwk c base source s = On (RowTakes c source) base s.nets
TakesAt Aps c base source s = Finds (LinkTakes c) (is_link source base) s.links

abbrev pub AcceptState : Line → NodeState → Type 0
AcceptState (Accept e n t) s = TakesAt t.layer t.counter t.base t.source s
AcceptState _ s = Unit {0}

abbrev pub AcceptFits : List Line → Line → Type 0
AcceptFits h l = AcceptState l (state_of h (speaker l))

-- network rows

pub over-closed : (c source : ℕ) → Closed (RowOver c source)
over-closed c source = record {
  reserves = λ limit. record { key = λ r. refl; kept = λ r h. h };
  drops = record { key = λ r. refl; kept = λ r h. h };
  floors =
      λ sender value.
      record {
        key = λ r. refl;
        kept = λ r h. (
          sorted-stored sender value r.floors h.0,
          stored-keeps (Over c) (λ v f p. (p.0, omega (arith, p.1))) sender
              value source r.floors h.0 h.1,
        );
      };
}

over-mild : (c source : ℕ) (e : Edit) → Mild (RowOver c source) e
over-mild c source (Start key value) = record { key = λ r. refl; kept = λ r h. h }
over-mild c source (Reserve layer limit) = tt
over-mild c source (Floor layer key sender value) = tt
over-mild c source (Moved m) = tt

pub over-booted : (c source : ℕ) → Keeps (RowOver c source) booted_net
over-booted c source =
    record { key = λ r. refl; kept = λ r h. (sorted-booted r.floors h.0, booted-over c source r.floors h.1) }

declared-keeps : (c source v : ℕ) → Keeps (RowOver c source) (declared_at v)
declared-keeps c source v = record { key = λ r. key r.started r; kept = λ r h. kept r.started r h }
  where
    raised : NetKey → NetKey
    raised r = record r { limit = max r.limit v; next = max r.next v }

    key : (b : Bool) (r : NetKey) → (cond b (raised r) r).key ≡ r.key
    key true r = refl
    key false r = refl

    kept : (b : Bool) (r : NetKey) → RowOver c source r → RowOver c source (cond b (raised r) r)
    kept true r h = h
    kept false r h = h

-- link rows

abbrev SameSlot : (LinkKey → LinkKey) → Type 0
SameSlot f = (p : ℕ) (k : Bytes) (r : LinkKey) → is_link p k (f r) ≡ is_link p k r

cond-slot : (f : LinkKey → LinkKey) (test : LinkKey → Bool) → SameSlot f → SameSlot (λ r. cond (test r) (f r) r)
cond-slot f test same p k r = by-test (test r)
  where
    by-test : (b : Bool) → is_link p k (cond b (f r) r) ≡ is_link p k r
    by-test true = same p k r
    by-test false = refl

cond-row : (P : LinkKey → Type 0) (f : LinkKey → LinkKey) (test : LinkKey → Bool) → ((r : LinkKey) → P r → P (f r))
    → (r : LinkKey) → P r → P (cond (test r) (f r) r)
cond-row P f test k r h = by-test (test r)
  where
    by-test : (b : Bool) → P (cond b (f r) r)
    by-test true = k r h
    by-test false = h

pub links-if : (P : LinkKey → Type 0) (f : LinkKey → LinkKey) (test : LinkKey → Bool) → SameSlot f
    → ((r : LinkKey) → P r → P (f r)) → (p : ℕ) (k : Bytes) (links : List LinkKey) → Finds P (is_link p k) links
    → Finds P (is_link p k) (map (λ r. cond (test r) (f r) r) links)
links-if P f test same kept p k links h = finds-map P P (is_link p k) (λ r. cond (test r) (f r) r)
    (cond-slot f test same p k) (cond-row P f test kept) links h

-- P is kept by what changes do to link rows
pub record LinkClosed (P : LinkKey → Type 0) : Type 0 where
  pub drops : (r : LinkKey) → P r → P (dropped_link r)
  pub revives : (attribute : Attribute) (told : Bool) (r : LinkKey) → P r → P (revived attribute told r)
  pub tells : (told : Bool) (r : LinkKey) → P r → P (told_as told r)
  pub floors : (value : ℕ) (r : LinkKey) → P r → P (link_floor value r)

with-link : (P : LinkKey → Type 0) → LinkClosed P → (b : Bool) (partner : ℕ) (key : Bytes) (attribute : Attribute)
    (told : Bool) (p : ℕ) (k : Bytes) (links : List LinkKey) → Finds P (is_link p k) links
    → Finds P (is_link p k)
    (cond b (at_link partner key (revived attribute told) links)
    (links ++ new_link partner key attribute told ∷ []))
with-link P c true partner key attribute told p k links h = links-if P (revived attribute told) (is_link partner key)
    (λ p k r. refl) (c.revives attribute told) p k links h
with-link P c false partner key attribute told p k links h =
    finds-append P (is_link p k) links (new_link partner key attribute told ∷ []) h

rolled : (P : LinkKey → Type 0) → LinkClosed P → (b : Bool) (p : ℕ) (k : Bytes) (links : List LinkKey)
    → Finds P (is_link p k) links → Finds P (is_link p k) (cond b (map (told_as false) links) links)
rolled P c true p k links h = finds-map P P (is_link p k) (told_as false) (λ r. refl) (c.tells false) links h
rolled P c false p k links h = h

pub links-moved : (P : LinkKey → Type 0) → LinkClosed P → (p : ℕ) (k : Bytes) (m : Move) (s : NodeState)
    → Finds P (is_link p k) s.links → Finds P (is_link p k) (moved m s).links
links-moved P c p k (Draw key) s h = h
links-moved P c p k (DropNet key) s h = h
links-moved P c p k (DropLink partner key) s h = links-if P dropped_link (is_link partner key) (λ p k r. refl) c.drops
    p k s.links h
links-moved P c p k (Install key q) s h = h
links-moved P c p k (Active key) s h = h
links-moved P c p k (Row partner key attribute) s h = with-link P c (has_link partner key s.links) partner key
    attribute (is_told s partner) p k s.links h
links-moved P c p k (Pair a b key) s h = h
links-moved P c p k (Became g) s h = h
links-moved P c p k (Live d) s h = links-if P (told_as false) (is_live_of d) (λ p k r. refl) (c.tells false) p k
    s.links h
links-moved P c p k (Removed d) s h = h
links-moved P c p k (Roll b) s h = rolled P c b p k s.links h
links-moved P c p k (Told d) s h = links-if P (told_as true) (is_live_of d) (λ p k r. refl) (c.tells true) p k s.links
    h
links-moved P c p k (Untold d) s h = links-if P (told_as false) (is_live_of d) (λ p k r. refl) (c.tells false) p k
    s.links h

pub links-applied : (P : LinkKey → Type 0) → LinkClosed P → (p : ℕ) (k : Bytes) (e : Edit) (s : NodeState)
    → Finds P (is_link p k) s.links → Finds P (is_link p k) (applied e s).links
unfolding applied
links-applied P c p k (Reserve Nwk v) s h = h
links-applied P c p k (Reserve Aps v) s h = h
links-applied P c p k (Floor Nwk key sender value) s h = h
links-applied P c p k (Floor Aps key sender value) s h = links-if P (link_floor value) (is_link sender key)
    (λ p k r. refl) (c.floors value) p k s.links h
links-applied P c p k (Start key value) s h = h
links-applied P c p k (Moved m) s h = links-moved P c p k m s h

pub over-links : (c : ℕ) → LinkClosed (LinkOver c)
over-links c =
    record {
      drops = λ r h. h;
      revives = λ t b r h. h;
      tells = λ b r h. h;
      floors = λ v r h. (h.0, omega (arith, h.1));
    }

-- an accepted counter moves the floor of its own slot

found-link : (p : ℕ) (k : Bytes) (links : List LinkKey) (r : LinkKey) → find (is_link p k) links ≡ Some r
    → is_link p k r ≡ true
found-link p k links r e = subst IsFound e (in-list links)
  where
    IsFound : Option LinkKey → Type 0
    IsFound None = Unit {0}
    IsFound (Some x) = is_link p k x ≡ true

    in-list : (links : List LinkKey) → IsFound (find (is_link p k) links)
    in-list [] = tt
    in-list (x ∷ xs) = first (is_link p k x) refl (in-list xs)
      where
        first : (b : Bool) → is_link p k x ≡ b → IsFound (find (is_link p k) xs)
            → IsFound (cond b (Some x) (find (is_link p k) xs))
        first true e r = e
        first false e r = r

same-slot : (p q : ℕ) (k j : Bytes) (r : LinkKey) → is_link p k r ≡ true → is_link q j r ≡ true → (p ≡ q) × (k ≡ j)
same-slot p q k j r a b = (
  sym (eqb-true r.partner p (and_parts (nat_eq r.partner p) (same_key r.key k) a).0) ∙ eqb-true r.partner q
      (and_parts (nat_eq r.partner q) (same_key r.key j) b).0,
  sym (same_key-eq r.key k (and_parts (nat_eq r.partner p) (same_key r.key k) a).1) ∙ same_key-eq r.key j
      (and_parts (nat_eq r.partner q) (same_key r.key j) b).1,
)

pub link-heard : (P Q R : LinkKey → Type 0) (f : LinkKey → LinkKey) → SameSlot f → ((r : LinkKey) → P r → R r)
    → ((r : LinkKey) → P r → Q r → R (f r)) → (p q : ℕ) (k j : Bytes) (links : List LinkKey)
    → Finds P (is_link p k) links → Finds Q (is_link q j) links → Finds R (is_link p k) (at_link q j f links)
unfolding HoldsOf
link-heard P Q R f same stay move p q k j links h t =
    subst (λ o. HoldsOf R o)
    (sym (find-map (is_link p k) (λ r. cond (is_link q j r) (f r) r) (cond-slot f (is_link q j) same p k) links))
    (by-found (find (is_link p k) links) refl h)
  where
    by-found : (o : Option LinkKey) → find (is_link p k) links ≡ o → HoldsOf P o
        → HoldsOf R (option_map (λ r. cond (is_link q j r) (f r) r) o)
    by-found None e h = h
    by-found (Some r) e h = by-test (is_link q j r) refl
      where
        there : is_link q j r ≡ true → Q r
        there b = subst (λ o. HoldsOf Q o) e
            (subst (λ x. HoldsOf Q (find (is_link x k) links))
            (sym (same-slot p q k j r (found-link p k links r e) b).0)
            (subst (λ x. HoldsOf Q (find (is_link q x) links))
            (sym (same-slot p q k j r (found-link p k links r e) b).1) t))

        by-test : (b : Bool) → is_link q j r ≡ b → R (cond b (f r) r)
        by-test true b = move r h (there b)
        by-test false b = stay r h

over-heard : (layer of : Layer) (c : ℕ) (base : Bytes) (source : ℕ) (key : Bytes) (sender counter : ℕ) (s : NodeState)
    → TakesAt of counter key sender s → OverAt layer c base source s
    → OverAt layer c base source (after_hearing of key sender counter s)
unfolding OverAt TakesAt after_hearing
over-heard Nwk Nwk c base source key sender counter s t h =
    on-sealed (RowOver c source) (RowTakes counter sender) (net_kept sender (counter + 1)) base key s.nets (λ r. refl)
    (λ r p q. (sorted-kept sender (counter + 1) r.floors p.0, kept-over c source sender counter r.floors p.1 q.1)) h t
over-heard Nwk Aps c base source key sender counter s t h = h
over-heard Aps Nwk c base source key sender counter s t h = h
over-heard Aps Aps c base source key sender counter s t h =
    link-heard (LinkOver c) (LinkTakes counter) (LinkOver c) (link_kept (counter + 1)) (λ p k r. refl) (λ r p. p)
    (λ r p q. (omega (arith, p.0, q.0), p.1)) source sender base key s.links h t

over-applied : (layer : Layer) (c : ℕ) (base : Bytes) (source : ℕ) (e : Edit) (s : NodeState)
    → OverAt layer c base source s → OverAt layer c base source (applied e s)
unfolding OverAt
over-applied Nwk c base source e s h = on-applied (RowOver c source) (over-closed c source) base e s
    (over-mild c source e) h
over-applied Aps c base source e s h = links-applied (LinkOver c) (over-links c) source base e s h

over-net : (layer : Layer) (c : ℕ) (base : Bytes) (source : ℕ) (key : Bytes) (q : ℕ) (s : NodeState)
    → OverAt layer c base source s → OverAt layer c base source (with_given_net key q s)
unfolding OverAt with_given_net
over-net Nwk c base source key q s h = on-add (RowOver c source) (has_net key s.nets) base s.nets
    (given_net s.declared key q ∷ []) h
over-net Aps c base source key q s h = h

over-given : (layer : Layer) (c : ℕ) (base : Bytes) (source p : ℕ) (key : Bytes) (s : NodeState)
    → OverAt layer c base source s → OverAt layer c base source (with_given_link p key s)
unfolding OverAt with_given_link
over-given Nwk c base source p key s h = h
over-given Aps c base source p key s h = with-link (LinkOver c) (over-links c) (has_link p key s.links) p key
    Rattle.zb_model.specs.Data.Attribute.Provisional false source base s.links h

over-declared : (layer of : Layer) (c : ℕ) (base : Bytes) (source v : ℕ) (s : NodeState)
    → OverAt layer c base source s → OverAt layer c base source (with_declared of v s)
unfolding OverAt with_declared
over-declared Nwk Nwk c base source v s h = on-map (RowOver c source) (declared_at v) (declared-keeps c source v) base
    s.nets h
over-declared Nwk Aps c base source v s h = h
over-declared Aps Nwk c base source v s h = h
over-declared Aps Aps c base source v s h = h

over-sealed : (layer of : Layer) (c : ℕ) (base : Bytes) (source : ℕ) (t : Term) (s : NodeState)
    → OverAt layer c base source s → OverAt layer c base source (sealed_at of t s)
unfolding OverAt
over-sealed Nwk Nwk c base source t s h = on-at (RowOver c source) (next_at (t.counter + 1))
    (record { key = λ r. refl; kept = λ r h. h }) t.base base s.nets h
over-sealed Nwk Aps c base source t s h = h
over-sealed Aps Nwk c base source t s h = h
over-sealed Aps Aps c base source t s h = h

over-boot : (layer : Layer) (c : ℕ) (base : Bytes) (source : ℕ) (s : NodeState) → OverAt layer c base source s
    → OverAt layer c base source (after_boot s)
unfolding OverAt after_boot
over-boot Nwk c base source s h = on-map (RowOver c source) booted_net (over-booted c source) base s.nets h
over-boot Aps c base source s h = finds-map (LinkOver c) (LinkOver c) (is_link source base) booted_link (λ r. refl)
    (λ r p. (p.1, p.1)) s.links h

over-same : (layer : Layer) (c : ℕ) (base : Bytes) (source : ℕ) (p : Rattle.zb_model.specs.Data.Role) (s : NodeState)
    → OverAt layer c base source s → OverAt layer c base source (record s { role = p })
unfolding OverAt
over-same Nwk c base source p s h = h
over-same Aps c base source p s h = h

pub over-after : (layer : Layer) (c : ℕ) (base : Bytes) (source : ℕ) (l : Line) (s : NodeState) → AcceptState l s
    → OverAt layer c base source s → OverAt layer c base source (after l s)
unfolding after after_accepting after_sealing
over-after layer c base source (Declared p) s m h = over-same layer c base source p.role s h
over-after layer c base source (GivenNet n key q) s m h = over-net layer c base source key q s h
over-after layer c base source (GivenLink n p key) s m h = over-given layer c base source p key s h
over-after layer c base source (Counter n of v) s m h = over-declared layer of c base source v s h
over-after layer c base source (Changed e n edit) s m h = over-applied layer c base source edit s h
over-after layer c base source (Accept e n t) s m h = over-heard layer t.layer c base source t.base t.source t.counter
    s m h
over-after layer c base source (Seal e n t) s m h = over-sealed layer t.layer c base source t s h
over-after layer c base source (Boot e n) s m h = over-boot layer c base source s h
over-after layer c base source _ s m h = h

-- a counter that was accepted is below the floors then
pub link-own : (P R : LinkKey → Type 0) (f : LinkKey → LinkKey) → SameSlot f → ((r : LinkKey) → P r → R (f r))
    → (p : ℕ) (k : Bytes) (links : List LinkKey) → Finds P (is_link p k) links
    → Finds R (is_link p k) (at_link p k f links)
unfolding HoldsOf
link-own P R f same move p k links h =
    subst (λ o. HoldsOf R o)
    (sym (find-map (is_link p k) (λ r. cond (is_link p k r) (f r) r) (cond-slot f (is_link p k) same p k) links))
    (by-found (find (is_link p k) links) refl h)
  where
    by-found : (o : Option LinkKey) → find (is_link p k) links ≡ o → HoldsOf P o
        → HoldsOf R (option_map (λ r. cond (is_link p k r) (f r) r) o)
    by-found None e h = h
    by-found (Some r) e h = subst (λ b. R (cond b (f r) r)) (sym (found-link p k links r e)) (move r h)

taken-over : (layer : Layer) (c : ℕ) (base : Bytes) (source : ℕ) (s : NodeState) → TakesAt layer c base source s
    → OverAt layer c base source (after_hearing layer base source c s)
unfolding OverAt TakesAt after_hearing
taken-over Nwk c base source s t = on-map-found (RowTakes c source) (RowOver c source) (net_kept source (c + 1)) base
    s.nets (λ r. refl) (λ r q. (sorted-kept source (c + 1) r.floors q.0, kept-new source c r.floors q.1)) t
taken-over Aps c base source s t = link-own (LinkTakes c) (LinkOver c) (link_kept (c + 1)) (λ p k r. refl)
    (λ r p. (omega arith, p.1)) source base s.links t

-- and no counter that is accepted later is as small
finds-fact : {X : Type 0} (P Q : X → Type 0) (C : Type 0) → ((x : X) → P x → Q x → C) → (o : Option X) → HoldsOf P o
    → HoldsOf Q o → C
unfolding HoldsOf
finds-fact P Q C k None p q = absurd p
finds-fact P Q C k (Some x) p q = k x p q

holds-fact : (P Q : NetKey → Type 0) (C : Type 0) → ((x : NetKey) → P x → Q x → C) → (o : Option NetKey) → Holds P o
    → Holds Q o → C
unfolding Holds
holds-fact P Q C k None p q = absurd p
holds-fact P Q C k (Some x) p q = k x p q

takes-more : (layer : Layer) (c d : ℕ) (base : Bytes) (source : ℕ) (s : NodeState) → OverAt layer c base source s
    → TakesAt layer d base source s → c < d
unfolding OverAt TakesAt
takes-more Nwk c d base source s o t =
    holds-fact (RowOver c source) (RowTakes d source) (c < d)
    (λ r p q. finds-fact (Over c) (Takes d) (c < d) (λ f a b. omega (arith, a.0, b.0))
    (find (λ (f : SenderFloor). nat_eq f.sender source) r.floors) p.1 q.1) (find (at_key base) s.nets) o t
takes-more Aps c d base source s o t = finds-fact (LinkOver c) (LinkTakes d) (c < d)
    (λ r p q. omega (arith, p.0, q.0)) (find (is_link source base) s.links) o t

-- The law

line-goes-on : (Φ : NodeState → Type 0) (h : List Line) (l : Line) (n : ℕ) → AcceptFits h l
    → (AcceptState l (state_of h n) → Φ (state_of h n) → Φ (after l (state_of h n))) → Φ (state_of h n)
    → Φ (state_of (h ++ l ∷ []) n)
line-goes-on Φ h l n fits k p =
    subst Φ (sym (state-snoc h l n))
    (heard-keeps Φ n l (state_of h n) (λ e. k (subst (λ m. AcceptState l (state_of h m)) e fits) p) p)

abbrev Under : List Line → ℕ → Term → Type 0
Under h n t = OverAt t.layer t.counter t.base t.source (state_of h n)

rises : (h : List Line) (n : ℕ) (t : Term) (l : Line) → AcceptFits h l → Under h n t → Rises n t l
unfolding speaker
rises h n t (Accept e m u) f o = λ same layer base source. takes-more t.layer t.counter u.counter t.base t.source
    (state_of h n) o (there same layer base source)
  where
    there : n ≡ m → t.layer ≡ u.layer → t.base ≡ u.base → t.source ≡ u.source
        → TakesAt t.layer u.counter t.base t.source (state_of h n)
    there same layer base source =
        subst (λ x. TakesAt x u.counter t.base t.source (state_of h n)) (sym layer)
        (subst (λ x. TakesAt u.layer u.counter x t.source (state_of h n)) (sym base)
        (subst (λ x. TakesAt u.layer u.counter u.base x (state_of h n)) (sym source)
        (subst (λ x. TakesAt u.layer u.counter u.base u.source (state_of h x)) (sym same) f)))
rises h n t _ f o = tt

later-rise : (h ls : List Line) (n : ℕ) (t : Term) → Each AcceptFits h ls → Under h n t → AllByRecursion (Rises n t) ls
later-rise h [] n t f o = tt
later-rise h (l ∷ ls) n t f o = (
  rises h n t l f.0 o,
  later-rise (h ++ l ∷ []) ls n t f.1
      (line-goes-on (λ s. OverAt t.layer t.counter t.base t.source s) h l n f.0
      (λ a p. over-after t.layer t.counter t.base t.source l (state_of h n) a p) o),
)

accept-line : (e n : ℕ) (t : Term) (s : NodeState) → heard_line n s (Accept e n t)
    ≡ after_hearing t.layer t.base t.source t.counter s
unfolding heard_line speaker after after_accepting
accept-line e n t s = ap (λ b. cond b (after_hearing t.layer t.base t.source t.counter s) s) (nat_eq-refl n)

once-line : (h : List Line) (l : Line) (ls : List Line) → AcceptFits h l → Each AcceptFits (h ++ l ∷ []) ls
    → OnceFrom l ls
unfolding speaker
once-line h (Accept e n t) ls f fs =
    later-rise (h ++ Accept e n t ∷ []) ls n t fs
    (subst (λ s. OverAt t.layer t.counter t.base t.source s)
    (sym (state-snoc h (Accept e n t) n ∙ accept-line e n t (state_of h n)))
    (taken-over t.layer t.counter t.base t.source (state_of h n) f))
once-line h _ ls f fs = tt

pub once-lines : (h ls : List Line) → Each AcceptFits h ls → Once ls
once-lines h [] f = tt
once-lines h (l ∷ ls) f = (once-line h l ls f.0 f.1, once-lines (h ++ l ∷ []) ls f.1)
