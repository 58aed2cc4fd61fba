-- Counters over lines: no limit is after its counter, and what was sealed stays below.
use Rattle.std.proofs.Common.{◌≡◌, ℕ, ◌<◌, ◌≤◌, ◌+◌, ◌^◌, max, Bool, true, false, cond, List, [], ◌∷◌, ◌++◌, map, Option, Some, None, option_map, find, refl, sym, ap, ◌∙◌, subst, arith, le_refl}
use Rattle.zb_model.specs.Data.{Bytes, Layer, Nwk, Aps, ForNetwork, Term, Move, Draw, DropNet, DropLink, Install, Active, Row, Pair, Became, Live, Removed, Roll, Told, Untold, Edit, Reserve, Floor, Start, Moved}
use Rattle.zb_model.specs.Lines.{Line, Declared, GivenNet, GivenLink, Counter, Changed, Accept, Seal, Boot}
use Rattle.zb_model.specs.State.{greatest_counter, NetKey, NodeState, same_key, has_net, at_net, of_active, new_net, given_net, reserved, started_at, dropped_net, net_floor, net_kept, next_at, booted_net, declared_at, applied, moved, after_sealing, sealed_at, after_boot, after_hearing, after_accepting, with_given_net, with_given_link, with_declared}
use Rattle.zb_model.specs.Frames.{nwk_control}
use Rattle.zb_model.specs.Readings.{state_of, after, speaker}
use Rattle.law_run.proofs.Basics.{same_key-eq, find-map}
use Rattle.law_run.proofs.Nets.{Holds, On, at_key, Keeps, Mild, Covers, Gives, covers-closed, covers-heard, covers-started, covers-booted, on-map, on-add, on-applied, on-accepted, on-booted}

-- What a seal needs of the state before it: its counter is the next one, and is below the stored limit.
unfoldable pub SealFitsAt : Layer → Term → NodeState → Type 0
SealFitsAt Nwk t s = (t.label ≡ ForNetwork) × (t.control ≡ nwk_control) × On (Gives t.counter) t.base s.nets
SealFitsAt Aps t s = (t.control ≡ nwk_control → ⊥) × (t.counter ≡ s.aps_next) × (t.counter < s.aps_limit)

pub record SealFits (n : ℕ) (t : Term) (s : NodeState) : Type 0 where
  pub source : t.source ≡ n
  pub small : t.counter < greatest_counter
  pub eui : n < 2 ^ 64
  pub fits : SealFitsAt t.layer t s

abbrev pub StateFits : Line → NodeState → Type 0
StateFits (Seal e n t) s = SealFits n t s
StateFits _ s = Unit {0}

abbrev pub LineFits : List Line → Line → Type 0
LineFits h l = StateFits l (state_of h (speaker l))

-- The row that is found has the key.
abbrev IsKept : Bytes → Option NetKey → Type 0
IsKept key None = Unit {0}
IsKept key (Some y) = same_key y.key key ≡ true

abbrev IsMissing : Option NetKey → Type 0
IsMissing None = Unit {0}
IsMissing (Some y) = ⊥

pub none-some : (x : NetKey) → None ≡ Some x → ⊥
none-some x e = subst (λ o. IsMissing o) e tt

found-test : (key : Bytes) (x r : NetKey) (o : Option NetKey) (b : Bool) → at_key key x ≡ b
    → (o ≡ Some r → same_key r.key key ≡ true) → cond b (Some x) o ≡ Some r → same_key r.key key ≡ true
found-test key x r o true h k e = subst (λ o. IsKept key o) e h
found-test key x r o false h k e = k e

pub found-key : (key : Bytes) (nets : List NetKey) (r : NetKey) → find (at_key key) nets ≡ Some r → same_key r.key key
    ≡ true
found-key key [] r e = absurd (none-some r e)
found-key key (x ∷ nets) r e = found-test key x r (find (at_key key) nets) (at_key key x) refl (found-key key nets r) e

-- A row's next counter moves when a term is sealed under its key.
moved-row : (P Q : NetKey → Type 0) (f : NetKey → NetKey) (key base : Bytes) (nets : List NetKey)
    → ((r : NetKey) → P r → Q r → P (f r)) → (o : Option NetKey) → find (at_key key) nets ≡ o → Holds P o
    → On Q base nets → Holds P (option_map (λ r. cond (same_key r.key base) (f r) r) o)
unfolding Holds
moved-row P Q f key base nets k None e h q = h
moved-row P Q f key base nets k (Some r) e h q = by-test (same_key r.key base) refl
  where
    same : same_key r.key base ≡ true → key ≡ base
    same b = sym (same_key-eq r.key key (found-key key nets r e)) ∙ same_key-eq r.key base b

    there : same_key r.key base ≡ true → Q r
    there b = subst (λ o. Holds Q o) e (subst (λ k. On Q k nets) (sym (same b)) q)

    by-test : (b : Bool) → same_key r.key base ≡ b → P (cond b (f r) r)
    by-test true b = k r h (there b)
    by-test false b = h

at-key-kept : (f : NetKey → NetKey) (base key : Bytes) → ((r : NetKey) → (f r).key ≡ r.key) → (r : NetKey)
    → at_key key (cond (same_key r.key base) (f r) r) ≡ at_key key r
at-key-kept f base key k r = by-test (same_key r.key base)
  where
    by-test : (b : Bool) → at_key key (cond b (f r) r) ≡ at_key key r
    by-test true = ap (λ x. same_key x key) (k r)
    by-test false = refl

pub on-sealed : (P Q : NetKey → Type 0) (f : NetKey → NetKey) (key base : Bytes) (nets : List NetKey)
    → ((r : NetKey) → (f r).key ≡ r.key) → ((r : NetKey) → P r → Q r → P (f r)) → On P key nets → On Q base nets
    → On P key (at_net base f nets)
on-sealed P Q f key base nets same k h q =
    subst (λ o. Holds P o)
    (sym (find-map (at_key key) (λ r. cond (same_key r.key base) (f r) r) (at-key-kept f base key same) nets))
    (moved-row P Q f key base nets k (find (at_key key) nets) refl h q)

-- A used counter stays covered after each line.

mild-covers : (c : ℕ) (e : Edit) → Mild (Covers c) e
mild-covers c (Start key value) = covers-started c value
mild-covers c (Reserve layer limit) = tt
mild-covers c (Floor layer key sender value) = tt
mild-covers c (Moved m) = tt

covers-declared : (c value : ℕ) → Keeps (Covers c) (declared_at value)
covers-declared c value = record { key = λ r. key (r.started) r; kept = λ r h. kept (r.started) r h }
  where
    raised : NetKey → NetKey
    raised r = record r { limit = max r.limit value; next = max r.next value }

    key : (b : Bool) (r : NetKey) → (cond b (raised r) r).key ≡ r.key
    key true r = refl
    key false r = refl

    kept : (b : Bool) (r : NetKey) → Covers c r → Covers c (cond b (raised r) r)
    kept true r h = (h.0, omega (arith, h.1), omega (arith, h.2))
    kept false r h = h

covers-sealed : (layer : Layer) (c : ℕ) (key : Bytes) (t : Term) (s : NodeState) → SealFitsAt layer t s
    → On (Covers c) key s.nets → On (Covers c) key (sealed_at layer t s).nets
unfolding SealFitsAt
covers-sealed Nwk c key t s m h =
    on-sealed (Covers c) (Gives t.counter) (next_at (t.counter + 1)) key t.base s.nets (λ r. refl)
    (λ r p q. (p.0, omega (arith, p.1, q.1), p.2)) h m.2
covers-sealed Aps c key t s m h = h

pub covers-after : (c : ℕ) (key : Bytes) (l : Line) (s : NodeState) → StateFits l s → On (Covers c) key s.nets
    → On (Covers c) key (after l s).nets
unfolding after with_given_net with_given_link with_declared after_sealing
covers-after c key (GivenNet n k q) s m h = on-add (Covers c) (has_net k s.nets) key s.nets
    (given_net s.declared k q ∷ []) h
covers-after c key (Counter n Nwk v) s m h = on-map (Covers c) (declared_at v) (covers-declared c v) key s.nets h
covers-after c key (Counter n Aps v) s m h = h
covers-after c key (Changed e n edit) s m h = on-applied (Covers c) (covers-closed c) key edit s (mild-covers c edit) h
covers-after c key (Accept e n t) s m h = on-accepted (Covers c) (covers-heard c) key t s h
covers-after c key (Seal e n t) s m h = covers-sealed t.layer c key t s m.fits h
covers-after c key (Boot e n) s m h = on-booted (Covers c) (covers-booted c) key s h
covers-after c key _ s m h = h

abbrev pub ApsCovers : ℕ → NodeState → Type 0
ApsCovers c s = (c < s.aps_next) × (c < s.aps_limit)

aps-moved : (c : ℕ) (m : Move) (s : NodeState) → ApsCovers c s → ApsCovers c (moved m s)
aps-moved c (Draw k) s h = h
aps-moved c (DropNet k) s h = h
aps-moved c (DropLink p k) s h = h
aps-moved c (Install k q) s h = h
aps-moved c (Active k) s h = h
aps-moved c (Row p k t) s h = h
aps-moved c (Pair a b k) s h = h
aps-moved c (Became g) s h = h
aps-moved c (Live d) s h = h
aps-moved c (Removed d) s h = h
aps-moved c (Roll b) s h = h
aps-moved c (Told d) s h = h
aps-moved c (Untold d) s h = h

aps-applied : (c : ℕ) (e : Edit) (s : NodeState) → ApsCovers c s → ApsCovers c (applied e s)
unfolding applied
aps-applied c (Reserve Nwk v) s h = h
aps-applied c (Reserve Aps v) s h = (h.0, omega (arith, h.1))
aps-applied c (Floor Nwk k p v) s h = h
aps-applied c (Floor Aps k p v) s h = h
aps-applied c (Start k v) s h = h
aps-applied c (Moved m) s h = aps-moved c m s h

aps-heard : (c : ℕ) (layer : Layer) (k : Bytes) (sender counter : ℕ) (s : NodeState) → ApsCovers c s
    → ApsCovers c (after_hearing layer k sender counter s)
unfolding after_hearing
aps-heard c Nwk k sender counter s h = h
aps-heard c Aps k sender counter s h = h

aps-sealed : (layer : Layer) (c : ℕ) (t : Term) (s : NodeState) → SealFitsAt layer t s → ApsCovers c s
    → ApsCovers c (sealed_at layer t s)
unfolding SealFitsAt
aps-sealed Nwk c t s m h = h
aps-sealed Aps c t s m h = (omega (arith, m.1, h.0), h.1)

pub aps-after : (c : ℕ) (l : Line) (s : NodeState) → StateFits l s → ApsCovers c s → ApsCovers c (after l s)
unfolding after with_given_net with_given_link with_declared after_sealing after_accepting after_boot
aps-after c (GivenNet n k q) s m h = h
aps-after c (Counter n Nwk v) s m h = h
aps-after c (Counter n Aps v) s m h = (omega (arith, h.0), omega (arith, h.1))
aps-after c (Changed e n edit) s m h = aps-applied c edit s h
aps-after c (Accept e n t) s m h = aps-heard c t.layer t.base t.source t.counter s h
aps-after c (Seal e n t) s m h = aps-sealed t.layer c t s m.fits h
aps-after c (Boot e n) s m h = (h.1, h.1)
aps-after c _ s m h = h

-- No next counter is above its limit.

abbrev pub IfHolds : (NetKey → Type 0) → Option NetKey → Type 0
IfHolds P None = Unit {0}
IfHolds P (Some r) = P r

-- and a row with a limit has started
unfoldable pub Behind : NetKey → Type 0
Behind r = (r.next ≤ r.limit) × (0 < r.limit → r.started ≡ true)

none-below : 0 < 0 → ⊥
none-below p = omega (arith, p)

behind-new : (k : Bytes) (q : ℕ) → Behind (new_net k q)
unfolding Behind
behind-new k q = (le_refl 0, λ p. absurd (none-below p))

pub record Commanded (s : NodeState) : Type 0 where
  pub nets : (key : Bytes) → IfHolds Behind (find (at_key key) s.nets)
  pub aps : s.aps_next ≤ s.aps_limit

if-map : (f : NetKey → NetKey) → ((r : NetKey) → Behind r → Behind (f r)) → (o : Option NetKey) → IfHolds Behind o
    → IfHolds Behind (option_map f o)
if-map f k None h = h
if-map f k (Some r) h = k r h

if-at : (f : NetKey → NetKey) (base : Bytes) → ((r : NetKey) → (f r).key ≡ r.key)
    → ((r : NetKey) → Behind r → Behind (f r)) → (nets : List NetKey)
    → ((key : Bytes) → IfHolds Behind (find (at_key key) nets)) → (key : Bytes)
    → IfHolds Behind (find (at_key key) (at_net base f nets))
if-at f base same k nets h key =
    subst (λ o. IfHolds Behind o)
    (sym (find-map (at_key key) (λ r. cond (same_key r.key base) (f r) r) (at-key-kept f base key same) nets))
    (if-map (λ r. cond (same_key r.key base) (f r) r) (λ r p. by-test (same_key r.key base) r p)
    (find (at_key key) nets) (h key))
  where
    by-test : (b : Bool) (r : NetKey) → Behind r → Behind (cond b (f r) r)
    by-test true r p = k r p
    by-test false r p = p

if-all : (f : NetKey → NetKey) → ((r : NetKey) → (f r).key ≡ r.key) → ((r : NetKey) → Behind r → Behind (f r))
    → (nets : List NetKey) → ((key : Bytes) → IfHolds Behind (find (at_key key) nets)) → (key : Bytes)
    → IfHolds Behind (find (at_key key) (map f nets))
if-all f same k nets h key =
    subst (λ o. IfHolds Behind o) (sym (find-map (at_key key) f (λ r. ap (λ x. same_key x key) (same r)) nets))
    (if-map f k (find (at_key key) nets) (h key))

if-one : (x : NetKey) → Behind x → (b : Bool) → IfHolds Behind (cond b (Some x) None)
if-one x p true = p
if-one x p false = tt

if-cons : (y : NetKey) (b : Bool) (o q : Option NetKey) → (IfHolds Behind o → IfHolds Behind q)
    → IfHolds Behind (cond b (Some y) o) → IfHolds Behind (cond b (Some y) q)
if-cons y true o q k h = h
if-cons y false o q k h = k h

if-new : (x : NetKey) → Behind x → (nets : List NetKey) (key : Bytes) → IfHolds Behind (find (at_key key) nets)
    → IfHolds Behind (find (at_key key) (nets ++ x ∷ []))
if-new x p [] key h = if-one x p (at_key key x)
if-new x p (y ∷ nets) key h = if-cons y (at_key key y) (find (at_key key) nets) (find (at_key key) (nets ++ x ∷ []))
    (if-new x p nets key) h

if-add : (b : Bool) (x : NetKey) → Behind x → (nets : List NetKey)
    → ((key : Bytes) → IfHolds Behind (find (at_key key) nets)) → (key : Bytes)
    → IfHolds Behind (find (at_key key) (cond b nets (nets ++ x ∷ [])))
if-add true x p nets h key = h key
if-add false x p nets h key = if-new x p nets key (h key)

commanded-moved : (m : Move) (s : NodeState) → Commanded s → Commanded (moved m s)
unfolding Behind
commanded-moved (Draw k) s o = o
commanded-moved (DropNet k) s o =
    record { nets = if-at dropped_net k (λ r. refl) (λ r p. p) s.nets o.nets; aps = o.aps }
commanded-moved (DropLink p k) s o = record { nets = o.nets; aps = o.aps }
commanded-moved (Install k q) s o =
    record { nets = if-add (has_net k s.nets) (new_net k q) (behind-new k q) s.nets o.nets; aps = o.aps }
commanded-moved (Active k) s o = record { nets = o.nets; aps = o.aps }
commanded-moved (Row p k t) s o = record { nets = o.nets; aps = o.aps }
commanded-moved (Pair a b k) s o = record { nets = o.nets; aps = o.aps }
commanded-moved (Became g) s o = record { nets = o.nets; aps = o.aps }
commanded-moved (Live d) s o = record { nets = o.nets; aps = o.aps }
commanded-moved (Removed d) s o = record { nets = o.nets; aps = o.aps }
commanded-moved (Roll b) s o = record { nets = o.nets; aps = o.aps }
commanded-moved (Told d) s o = record { nets = o.nets; aps = o.aps }
commanded-moved (Untold d) s o = record { nets = o.nets; aps = o.aps }

if-active : (active : Option Bytes) (v : ℕ) (nets : List NetKey)
    → ((key : Bytes) → IfHolds Behind (find (at_key key) nets)) → (key : Bytes)
    → IfHolds Behind (find (at_key key) (of_active (reserved v) active nets))
unfolding Behind
if-active None v nets h key = h key
if-active (Some a) v nets h key = if-at (reserved v) a (λ r. refl) (λ r p. (omega (arith, p.0), λ q. refl)) nets h key

pub commanded-applied : (e : Edit) (s : NodeState) → Commanded s → Commanded (applied e s)
unfolding applied Behind
commanded-applied (Reserve Nwk v) s o = record { nets = if-active s.active v s.nets o.nets; aps = o.aps }
commanded-applied (Reserve Aps v) s o = record { nets = o.nets; aps = omega (arith, o.aps) }
commanded-applied (Floor Nwk k p v) s o =
    record { nets = if-at (net_floor p v) k (λ r. refl) (λ r p. p) s.nets o.nets; aps = o.aps }
commanded-applied (Floor Aps k p v) s o = record { nets = o.nets; aps = o.aps }
commanded-applied (Start k v) s o =
    record {
      nets = if-at (started_at v) k (λ r. refl) (λ r p. (omega (arith, p.0), λ q. refl)) s.nets o.nets;
      aps = o.aps;
    }
commanded-applied (Moved m) s o = commanded-moved m s o

commanded-heard : (layer : Layer) (k : Bytes) (sender counter : ℕ) (s : NodeState) → Commanded s
    → Commanded (after_hearing layer k sender counter s)
unfolding after_hearing Behind
commanded-heard Nwk k sender counter s o =
    record { nets = if-at (net_kept sender (counter + 1)) k (λ r. refl) (λ r p. p) s.nets o.nets; aps = o.aps }
commanded-heard Aps k sender counter s o = record { nets = o.nets; aps = o.aps }

pub commanded-accepted : (t : Term) (s : NodeState) → Commanded s → Commanded (after_accepting t s)
unfolding after_accepting
commanded-accepted t s o = commanded-heard t.layer t.base t.source t.counter s o

if-moved : (c : ℕ) (key base : Bytes) (nets : List NetKey) (o : Option NetKey) → find (at_key key) nets ≡ o
    → IfHolds Behind o → On (Gives c) base nets
    → IfHolds Behind (option_map (λ r. cond (same_key r.key base) (next_at (c + 1) r) r) o)
unfolding Holds Behind
if-moved c key base nets None e h q = tt
if-moved c key base nets (Some r) e h q = by-test (same_key r.key base) refl
  where
    same : same_key r.key base ≡ true → key ≡ base
    same b = sym (same_key-eq r.key key (found-key key nets r e)) ∙ same_key-eq r.key base b

    there : same_key r.key base ≡ true → Gives c r
    there b = subst (λ o. Holds (Gives c) o) e (subst (λ k. On (Gives c) k nets) (sym (same b)) q)

    limit : Gives c r → c + 1 ≤ r.limit
    limit g = omega (arith, g.2)

    by-test : (b : Bool) → same_key r.key base ≡ b → Behind (cond b (next_at (c + 1) r) r)
    by-test true b = (limit (there b), h.1)
    by-test false b = h

commanded-sealed : (layer : Layer) (t : Term) (s : NodeState) → SealFitsAt layer t s → Commanded s
    → Commanded (sealed_at layer t s)
unfolding SealFitsAt
commanded-sealed Nwk t s m o = record {
  nets = λ key. subst (λ x. IfHolds Behind x)
      (sym (find-map (at_key key) (λ r. cond (same_key r.key t.base) (next_at (t.counter + 1) r) r)
      (at-key-kept (next_at (t.counter + 1)) t.base key (λ r. refl)) s.nets))
      (if-moved t.counter key t.base s.nets (find (at_key key) s.nets) refl (o.nets key) m.2);
  aps = o.aps;
}
commanded-sealed Aps t s m o = record { nets = o.nets; aps = omega (arith, m.2) }

behind-declared : (v : ℕ) (b : Bool) (r : NetKey) → r.started ≡ b → Behind r
    → Behind (cond b (record r { limit = max r.limit v; next = max r.next v }) r)
unfolding Behind
behind-declared v true r e p = (omega (arith, p.0), λ q. e)
behind-declared v false r e p = p

key-declared : (v : ℕ) (b : Bool) (r : NetKey)
    → (cond b (record r { limit = max r.limit v; next = max r.next v }) r).key ≡ r.key
key-declared v true r = refl
key-declared v false r = refl

pub commanded-after : (l : Line) (s : NodeState) → StateFits l s → Commanded s → Commanded (after l s)
unfolding after with_given_net with_given_link with_declared after_sealing after_boot Behind
commanded-after (Declared p) s m o = record { nets = o.nets; aps = o.aps }
commanded-after (GivenNet n k q) s m o =
    record {
      nets = if-add (has_net k s.nets) (given_net s.declared k q) (le_refl s.declared, λ p. refl) s.nets
          o.nets;
      aps = o.aps;
    }
commanded-after (GivenLink n p k) s m o = record { nets = o.nets; aps = o.aps }
commanded-after (Counter n Nwk v) s m o =
    record {
      nets = if-all (declared_at v) (λ r. key-declared v r.started r)
          (λ r p. behind-declared v r.started r refl p) s.nets o.nets;
      aps = o.aps;
    }
commanded-after (Counter n Aps v) s m o = record { nets = o.nets; aps = omega (arith, o.aps) }
commanded-after (Changed e n edit) s m o = commanded-applied edit s o
commanded-after (Accept e n t) s m o = commanded-accepted t s o
commanded-after (Seal e n t) s m o = commanded-sealed t.layer t s m.fits o
commanded-after (Boot e n) s m o =
    record {
      nets = if-all booted_net (λ r. refl) (λ r p. (le_refl r.limit, p.1)) s.nets o.nets;
      aps = le_refl s.aps_limit;
    }
commanded-after _ s m o = o
