-- The network row of a key, and what is kept of it by the changes of rows.
use Rattle.std.proofs.Common.{◌≡◌, ℕ, ◌<◌, ◌≤◌, ◌+◌, Bool, true, false, cond, List, [], ◌∷◌, ◌++◌, map, Option, Some, None, option_map, find, refl, sym, ap, ◌∙◌, subst, arith}
use Rattle.zb_model.specs.Data.{Bytes, Layer, Nwk, Aps, Move, Draw, DropNet, DropLink, Install, Active, Row, Pair, Became, Live, Removed, Roll, Told, Untold, Edit, Reserve, Floor, Start, Moved, Term}
use Rattle.zb_model.specs.State.{NetKey, NodeState, same_key, has_net, at_net, of_active, new_net, reserved, started_at, dropped_net, net_floor, net_kept, booted_net, applied, moved, after_boot, after_hearing, after_accepting}
use Rattle.law_run.proofs.Basics.{find-map}

unfoldable pub Holds : (NetKey → Type 0) → Option NetKey → Type 0
Holds P None = ⊥
Holds P (Some r) = P r

abbrev pub at_key : Bytes → NetKey → Bool
at_key key r = same_key r.key key

-- the row of the key is there, and P is true of it
abbrev pub On : (NetKey → Type 0) → Bytes → List NetKey → Type 0
On P key nets = Holds P (find (at_key key) nets)

-- P is kept by f, which leaves the key
pub record Keeps (P : NetKey → Type 0) (f : NetKey → NetKey) : Type 0 where
  pub key : (r : NetKey) → (f r).key ≡ r.key
  pub kept : (r : NetKey) → P r → P (f r)

holds-map : (P : NetKey → Type 0) (f : NetKey → NetKey) → ((r : NetKey) → P r → P (f r)) → (o : Option NetKey)
    → Holds P o → Holds P (option_map f o)
unfolding Holds
holds-map P f k None h = h
holds-map P f k (Some r) h = k r h

pub on-map : (P : NetKey → Type 0) (f : NetKey → NetKey) → Keeps P f → (key : Bytes) (nets : List NetKey)
    → On P key nets → On P key (map f nets)
on-map P f k key nets h =
    subst (λ o. Holds P o) (sym (find-map (at_key key) f (λ r. ap (λ x. same_key x key) (k.key r)) nets))
    (holds-map P f k.kept (find (at_key key) nets) h)

cond-key : (b : Bool) (f : NetKey → NetKey) (r : NetKey) → ((r : NetKey) → (f r).key ≡ r.key) → (cond b (f r) r).key
    ≡ r.key
cond-key true f r k = k r
cond-key false f r k = refl

cond-kept : (P : NetKey → Type 0) (b : Bool) (f : NetKey → NetKey) (r : NetKey) → ((r : NetKey) → P r → P (f r)) → P r
    → P (cond b (f r) r)
cond-kept P true f r k h = k r h
cond-kept P false f r k h = h

pub only-if : (P : NetKey → Type 0) (f : NetKey → NetKey) (test : NetKey → Bool) → Keeps P f
    → Keeps P (λ r. cond (test r) (f r) r)
only-if P f test k = record { key = λ r. cond-key (test r) f r k.key; kept = λ r h. cond-kept P (test r) f r k.kept h }

pub on-at : (P : NetKey → Type 0) (f : NetKey → NetKey) → Keeps P f → (other key : Bytes) (nets : List NetKey)
    → On P key nets → On P key (at_net other f nets)
on-at P f k other key nets h = on-map P (λ r. cond (same_key r.key other) (f r) r)
    (only-if P f (λ r. same_key r.key other) k) key nets h

pub on-of-active : (P : NetKey → Type 0) (f : NetKey → NetKey) → Keeps P f
    → (active : Option Bytes) (key : Bytes) (nets : List NetKey) → On P key nets → On P key (of_active f active nets)
on-of-active P f k None key nets h = h
on-of-active P f k (Some a) key nets h = on-at P f k a key nets h

found-append : (P : NetKey → Type 0) (b : Bool) (x : NetKey) (o p : Option NetKey) → (Holds P o → Holds P p)
    → Holds P (cond b (Some x) o) → Holds P (cond b (Some x) p)
found-append P true x o p k h = h
found-append P false x o p k h = k h

pub on-append : (P : NetKey → Type 0) (key : Bytes) (nets more : List NetKey) → On P key nets → On P key (nets ++ more)
unfolding Holds
on-append P key [] more h = absurd h
on-append P key (x ∷ nets) more h = found-append P (at_key key x) x (find (at_key key) nets)
    (find (at_key key) (nets ++ more)) (on-append P key nets more) h

pub on-add : (P : NetKey → Type 0) (b : Bool) (key : Bytes) (nets more : List NetKey) → On P key nets
    → On P key (cond b nets (nets ++ more))
on-add P true key nets more h = h
on-add P false key nets more h = on-append P key nets more h

-- What each change of a row keeps: P is closed under all of them.
pub record Closed (P : NetKey → Type 0) : Type 0 where
  pub reserves : (limit : ℕ) → Keeps P (reserved limit)
  pub drops : Keeps P dropped_net
  pub floors : (sender value : ℕ) → Keeps P (net_floor sender value)

-- changes other than a start: P stays true of a key's row
pub on-moved : (P : NetKey → Type 0) → Closed P → (key : Bytes) (m : Move) (s : NodeState) → On P key s.nets
    → On P key (moved m s).nets
on-moved P c key (Draw k) s h = h
on-moved P c key (DropNet k) s h = on-at P dropped_net c.drops k key s.nets h
on-moved P c key (DropLink p k) s h = h
on-moved P c key (Install k q) s h = on-add P (has_net k s.nets) key s.nets (new_net k q ∷ []) h
on-moved P c key (Active k) s h = h
on-moved P c key (Row p k t) s h = h
on-moved P c key (Pair a b k) s h = h
on-moved P c key (Became g) s h = h
on-moved P c key (Live d) s h = h
on-moved P c key (Removed d) s h = h
on-moved P c key (Roll b) s h = h
on-moved P c key (Told d) s h = h
on-moved P c key (Untold d) s h = h

-- a start keeps P, if P is kept by that start
abbrev pub Mild : (NetKey → Type 0) → Edit → Type 0
Mild P (Start key value) = Keeps P (started_at value)
Mild P _ = Unit {0}

pub on-applied : (P : NetKey → Type 0) → Closed P → (key : Bytes) (e : Edit) (s : NodeState) → Mild P e
    → On P key s.nets → On P key (applied e s).nets
unfolding applied
on-applied P c key (Reserve Nwk limit) s m h = on-of-active P (reserved limit) (c.reserves limit) s.active key s.nets h
on-applied P c key (Reserve Aps limit) s m h = h
on-applied P c key (Floor Nwk k sender value) s m h = on-at P (net_floor sender value) (c.floors sender value) k key
    s.nets h
on-applied P c key (Floor Aps k sender value) s m h = h
on-applied P c key (Start k value) s m h = on-at P (started_at value) m k key s.nets h
on-applied P c key (Moved m) s x h = on-moved P c key m s h

-- P is kept when an accepted counter moves a floor
abbrev pub KeepsHeard : (NetKey → Type 0) → Type 0
KeepsHeard P = (sender kept : ℕ) → Keeps P (net_kept sender kept)

pub on-heard : (P : NetKey → Type 0) → KeepsHeard P → (key : Bytes) (layer : Layer) (k : Bytes) (sender counter : ℕ)
    (s : NodeState) → On P key s.nets → On P key (after_hearing layer k sender counter s).nets
unfolding after_hearing
on-heard P c key Nwk k sender counter s h = on-at P (net_kept sender (counter + 1)) (c sender (counter + 1)) k key
    s.nets h
on-heard P c key Aps k sender counter s h = h

pub on-accepted : (P : NetKey → Type 0) → KeepsHeard P → (key : Bytes) (t : Term) (s : NodeState) → On P key s.nets
    → On P key (after_accepting t s).nets
unfolding after_accepting
on-accepted P c key t s h = on-heard P c key t.layer t.base t.source t.counter s h

pub on-booted : (P : NetKey → Type 0) → Keeps P booted_net → (key : Bytes) (s : NodeState) → On P key s.nets
    → On P key (after_boot s).nets
unfolding after_boot
on-booted P k key s h = on-map P booted_net k key s.nets h

-- The two properties that seals need of a row, for a counter c.

-- c was used: the next counter is above it, and so is the stored limit
abbrev pub Covers : ℕ → NetKey → Type 0
Covers c r = (r.started ≡ true) × (c < r.next) × (c < r.limit)

-- c is the next counter, and is below the stored limit
abbrev pub Gives : ℕ → NetKey → Type 0
Gives c r = (r.started ≡ true) × (r.next ≡ c) × (c < r.limit)

pub covers-closed : (c : ℕ) → Closed (Covers c)
covers-closed c = record {
  reserves = λ limit. record { key = λ r. refl; kept = λ r h. (refl, h.1, omega (arith, h.2)) };
  drops = record { key = λ r. refl; kept = λ r h. h };
  floors = λ sender value. record { key = λ r. refl; kept = λ r h. h };
}

pub covers-heard : (c : ℕ) → KeepsHeard (Covers c)
covers-heard c sender kept = record { key = λ r. refl; kept = λ r h. h }

pub gives-heard : (c : ℕ) → KeepsHeard (Gives c)
gives-heard c sender kept = record { key = λ r. refl; kept = λ r h. h }

pub covers-started : (c value : ℕ) → Keeps (Covers c) (started_at value)
covers-started c value = record { key = λ r. refl; kept = λ r h. (refl, omega (arith, h.1), omega (arith, h.2)) }

pub covers-booted : (c : ℕ) → Keeps (Covers c) booted_net
covers-booted c = record { key = λ r. refl; kept = λ r h. (h.0, h.2, h.2) }

pub gives-closed : (c : ℕ) → Closed (Gives c)
gives-closed c = record {
  reserves = λ limit. record { key = λ r. refl; kept = λ r h. (refl, h.1, omega (arith, h.2)) };
  drops = record { key = λ r. refl; kept = λ r h. h };
  floors = λ sender value. record { key = λ r. refl; kept = λ r h. h };
}

pub gives-started : (c value : ℕ) → value ≤ c → Keeps (Gives c) (started_at value)
gives-started c value le = record { key = λ r. refl; kept = λ r h. (refl, omega (arith, h.1, le), omega (arith, h.2)) }

pub on-map-found : (P Q : NetKey → Type 0) (f : NetKey → NetKey) (base : Bytes) (nets : List NetKey)
    → ((r : NetKey) → (f r).key ≡ r.key) → ((r : NetKey) → P r → Q (f r)) → On P base nets
    → On Q base (at_net base f nets)
unfolding Holds
on-map-found P Q f base [] same k h = absurd h
on-map-found P Q f base (x ∷ nets) same k h = first (at_key base x) refl h (on-map-found P Q f base nets same k)
  where
    first : (b : Bool) → at_key base x ≡ b → Holds P (cond b (Some x) (find (at_key base) nets))
        → (On P base nets → On Q base (at_net base f nets))
        → Holds Q
        (cond (at_key base (cond b (f x) x)) (Some (cond b (f x) x)) (find (at_key base) (at_net base f nets)))
    first true e h more = rw (ap (λ y. same_key y base) (same x) ∙ e) (k x h)
    first false e h more = rw e (more h)
