-- What each answer keeps of link rows: at the centre each partner with an offered row has a current one, and a router
-- or device in Offered has an offered row of the centre.
use Rattle.std.proofs.Common.{◌≡◌, ℕ, Bool, true, false, cond, not, ◌&&◌, List, [], ◌∷◌, ◌++◌, map, filter, Option, Some, None, flat_map, find, is_some, nat_eq, refl, sym, ap, ◌∙◌, subst, eqb-true, eq-eqb, ◌⊎◌, inl, inr}
use Rattle.std.proofs.lemmas.Bool.{false≢true, and_parts}
use Rattle.std.specs.List.{AllByRecursion, list_any}
use Rattle.zb_model.specs.Data.{Bytes, Attribute, Provisional, Unverified, Verified, Offered, Moved, Move, Draw, DropNet, DropLink, Install, Active, Row, Pair, Became, Live, Removed, Roll, Told, Untold, Task}
use Rattle.zb_model.specs.State.{LinkKey, NodeState, is_centre, is_unverified, is_link, is_live_of, has_link, is_told, at_link, dropped_link, revived, new_link, applied, applied_all, current, offered, is_live}
use Rattle.zb_model.specs.Record.{attribute_byte}
use Rattle.zb_model.specs.Rules.{Setting, drop_link, drop_row, drop_partner}
use Rattle.zb_model.specs.Answer.{Counting, changes, move_edits}
use Rattle.law_run.proofs.Basics.{flat_map-append}
use Rattle.law_run.proofs.Groups.{applied-all-append}
use Rattle.law_run.proofs.Judged.{In, found-element, all-in}
use Rattle.law_run.proofs.Sound.{Sound, link_test}
use Rattle.law_run.proofs.ConfirmsLines.{From, in-map, slot-eq, eq-slot}
use Rattle.law_run.proofs.LockoutRows.{in-mapped, in-right, any-in}
use Rattle.law_run.proofs.LockoutDeeds.{Still, OnlyOf, IsNew, draw_of, Deed, member, nothing, quiet, verifies, rolls, offers, pairs, enters, removes, current-found}
use Rattle.law_run.proofs.LockoutMoves.{new-by, new-rows}
use Rattle.law_run_lookups.proofs.Alike.{Has, Alike, alike-then, Spares, kept_edits, moves-alike}

abbrev pub Current : ℕ → List LinkKey → Type 0
Current q links = (k : Bytes) × Has q k false links

abbrev pub Offer : ℕ → List LinkKey → Type 0
Offer q links = (k : Bytes) × Has q k true links

-- at the centre
abbrev pub CurrentHeld : NodeState → Type 0
CurrentHeld s = (q : ℕ) (k : Bytes) → Has q k true s.links → Current q s.links

-- in a router or device
abbrev pub OfferHeld : ℕ → NodeState → Type 0
OfferHeld centre s = s.state ≡ Offered → Offer centre s.links

-- A row that is added

found-row : (q : ℕ) (k : Bytes) (t : Attribute) (told : Bool) (links : List LinkKey) (r : LinkKey) → In r links
    → is_link q k r ≡ true → Has q k (is_unverified t) (at_link q k (revived t told) links)
found-row q k t told links r i e = record {
  row = revived t told r;
  among = subst (λ b. In (cond b (revived t told r) r) (at_link q k (revived t told) links)) e
      (in-mapped (λ (x : LinkKey). cond (is_link q k x) (revived t told x) x) r links i);
  live = refl;
  partner = (slot-eq q k r e).0;
  key = (slot-eq q k r e).1;
  kind = refl;
}

row-by : (q : ℕ) (k : Bytes) (t : Attribute) (told : Bool) (links : List LinkKey) (b : Bool) → has_link q k links ≡ b
    → Has q k (is_unverified t) (cond b (at_link q k (revived t told) links) (links ++ new_link q k t told ∷ []))
unfolding In
row-by q k t told links true e = by-any (any-in (is_link q k) links e)
  where
    by-any : (r : LinkKey) × In r links × (is_link q k r ≡ true)
        → Has q k (is_unverified t) (at_link q k (revived t told) links)
    by-any a = found-row q k t told links a.0 a.1 a.2
row-by q k t told links false e =
    record {
      row = new_link q k t told;
      among = in-right (new_link q k t told) links (new_link q k t told ∷ [])
          (inl refl);
      live = refl;
      partner = refl;
      key = refl;
      kind = refl;
    }

row-there : (q : ℕ) (k : Bytes) (t : Attribute) (s : NodeState)
    → Has q k (is_unverified t) (applied (Moved (Row q k t)) s).links
unfolding applied
row-there q k t s = row-by q k t (is_told s q) s.links (has_link q k s.links) refl

-- a row whose addition changes nothing is there already
kind-same : (x a : Attribute) → nat_eq (attribute_byte x) (attribute_byte a) ≡ true → is_unverified x ≡ is_unverified a
kind-same Provisional Provisional e = refl
kind-same Provisional Unverified e = absurd (false≢true e)
kind-same Provisional Verified e = absurd (false≢true e)
kind-same Unverified Provisional e = absurd (false≢true e)
kind-same Unverified Unverified e = refl
kind-same Unverified Verified e = absurd (false≢true e)
kind-same Verified Provisional e = absurd (false≢true e)
kind-same Verified Unverified e = absurd (false≢true e)
kind-same Verified Verified e = refl

pub not-false : (b : Bool) → not b ≡ false → b ≡ true
not-false true e = refl
not-false false e = absurd (false≢true (sym e))

there-before : (s : NodeState) (q : ℕ) (k : Bytes) (a : Attribute) → changes s (Row q k a) ≡ false
    → Has q k (is_unverified a) s.links
there-before s q k a e =
    by-any (any-in
    (λ (r : LinkKey). is_link q k r && (r.live && nat_eq (attribute_byte r.attribute) (attribute_byte a))) s.links
    (not-false
    (list_any (λ (r : LinkKey). is_link q k r && (r.live && nat_eq (attribute_byte r.attribute) (attribute_byte a)))
    s.links) e))
  where
    by-any : (r : LinkKey) × In r s.links
        × ((is_link q k r && (r.live && nat_eq (attribute_byte r.attribute) (attribute_byte a))) ≡ true)
        → Has q k (is_unverified a) s.links
    by-any f =
        record {
          row = f.0;
          among = f.1;
          live = rest.0;
          partner = (slot-eq q k f.0 parts.0).0;
          key = (slot-eq q k f.0 parts.0).1;
          kind = kind-same f.0.attribute a rest.1;
        }
      where
        parts : (is_link q k f.0 ≡ true)
            × ((f.0.live && nat_eq (attribute_byte f.0.attribute) (attribute_byte a)) ≡ true)
        parts = and_parts (is_link q k f.0) (f.0.live && nat_eq (attribute_byte f.0.attribute) (attribute_byte a)) f.2

        rest : (f.0.live ≡ true) × (nat_eq (attribute_byte f.0.attribute) (attribute_byte a) ≡ true)
        rest = and_parts f.0.live (nat_eq (attribute_byte f.0.attribute) (attribute_byte a)) parts.1

-- moves in two parts
filter-appended : {X : Type 0} (test : X → Bool) (xs ys : List X) → filter test (xs ++ ys) ≡ filter test xs
    ++ filter test ys
filter-appended test [] ys = refl
filter-appended test (x ∷ xs) ys = by-test (test x) (filter-appended test xs ys)
  where
    by-test : (b : Bool) → filter test (xs ++ ys) ≡ filter test xs ++ filter test ys
        → cond b (x ∷ filter test (xs ++ ys)) (filter test (xs ++ ys)) ≡ cond b (x ∷ filter test xs) (filter test xs)
        ++ filter test ys
    by-test true e = ap (λ l. x ∷ l) e
    by-test false e = e

pub kept-appended : (kk : Counting) (s0 : NodeState) (xs ys : List Move) (s : NodeState)
    → applied_all (kept_edits kk s0 (xs ++ ys)) s
    ≡ applied_all (kept_edits kk s0 ys) (applied_all (kept_edits kk s0 xs) s)
kept-appended kk s0 xs ys s =
    ap (λ es. applied_all es s)
    (ap (flat_map (move_edits kk)) (filter-appended (changes s0) xs ys) ∙ flat_map-append (move_edits kk)
    (filter (changes s0) xs) (filter (changes s0) ys))
    ∙ applied-all-append (kept_edits kk s0 xs) (kept_edits kk s0 ys) s

abbrev pub same_rows : NodeState → NodeState → Type 0
same_rows s t = (q : ℕ) (k : Bytes) → Alike q k s.links t.links

-- a row is there after the moves that add it
pub settle : (kk : Counting) (s0 s1 : NodeState) → same_rows s0 s1
    → (q : ℕ) (k : Bytes) (a : Attribute) (before later : List Move) → AllByRecursion (Spares q k) before
    → AllByRecursion (Spares q k) later
    → Has q k (is_unverified a) (applied_all (kept_edits kk s0 (before ++ Row q k a ∷ later)) s1).links
unfolding applied_all
settle kk s0 s1 same q k a before later u v = subst (λ s. Has q k (is_unverified a) s.links)
    (sym (kept-appended kk s0 before (Row q k a ∷ later) s1)) (by-test (changes s0 (Row q k a)) refl)
  where
    sb : NodeState
    sb = applied_all (kept_edits kk s0 before) s1

    by-test : (b : Bool) → changes s0 (Row q k a) ≡ b
        → Has q k (is_unverified a)
        (applied_all
        (flat_map (move_edits kk) (cond b (Row q k a ∷ filter (changes s0) later) (filter (changes s0) later)))
        sb).links
    by-test true e = (moves-alike q k kk s0 later v (applied (Moved (Row q k a)) sb) (is_unverified a)).0
        (row-there q k a sb)
    by-test false e = (moves-alike q k kk s0 later v sb (is_unverified a)).0
        ((moves-alike q k kk s0 before u s1 (is_unverified a)).0
        ((same q k (is_unverified a)).0 (there-before s0 q k a e)))

-- Which moves leave a row

pub still-spares : (q : ℕ) (k : Bytes) (ms : List Move) → AllByRecursion Still ms → AllByRecursion (Spares q k) ms
still-spares q k [] a = tt
still-spares q k (DropLink p j ∷ ms) a = absurd a.0
still-spares q k (Row p j t ∷ ms) a = absurd a.0
still-spares q k (Became g ∷ ms) a = absurd a.0
still-spares q k (Draw j ∷ ms) a = (tt, still-spares q k ms a.1)
still-spares q k (DropNet j ∷ ms) a = (tt, still-spares q k ms a.1)
still-spares q k (Install j n ∷ ms) a = (tt, still-spares q k ms a.1)
still-spares q k (Active j ∷ ms) a = (tt, still-spares q k ms a.1)
still-spares q k (Pair x y j ∷ ms) a = (tt, still-spares q k ms a.1)
still-spares q k (Live d ∷ ms) a = (tt, still-spares q k ms a.1)
still-spares q k (Removed d ∷ ms) a = (tt, still-spares q k ms a.1)
still-spares q k (Roll b ∷ ms) a = (tt, still-spares q k ms a.1)
still-spares q k (Told d ∷ ms) a = (tt, still-spares q k ms a.1)
still-spares q k (Untold d ∷ ms) a = (tt, still-spares q k ms a.1)

pub only-spares : (p q : ℕ) (k : Bytes) → (p ≡ q → ⊥) → (ms : List Move) → AllByRecursion (OnlyOf p) ms
    → AllByRecursion (Spares q k) ms
only-spares p q k other [] a = tt
only-spares p q k other (DropLink r j ∷ ms) a = (λ e f. other (sym a.0 ∙ e), only-spares p q k other ms a.1)
only-spares p q k other (Row r j t ∷ ms) a = (λ e f. other (sym a.0 ∙ e), only-spares p q k other ms a.1)
only-spares p q k other (Became g ∷ ms) a = absurd a.0
only-spares p q k other (Draw j ∷ ms) a = (tt, only-spares p q k other ms a.1)
only-spares p q k other (DropNet j ∷ ms) a = (tt, only-spares p q k other ms a.1)
only-spares p q k other (Install j n ∷ ms) a = (tt, only-spares p q k other ms a.1)
only-spares p q k other (Active j ∷ ms) a = (tt, only-spares p q k other ms a.1)
only-spares p q k other (Pair x y j ∷ ms) a = (tt, only-spares p q k other ms a.1)
only-spares p q k other (Live d ∷ ms) a = (tt, only-spares p q k other ms a.1)
only-spares p q k other (Removed d ∷ ms) a = (tt, only-spares p q k other ms a.1)
only-spares p q k other (Roll b ∷ ms) a = (tt, only-spares p q k other ms a.1)
only-spares p q k other (Told d ∷ ms) a = (tt, only-spares p q k other ms a.1)
only-spares p q k other (Untold d ∷ ms) a = (tt, only-spares p q k other ms a.1)

-- Rows that are found

live-of : (p : ℕ) (r : LinkKey) → is_live_of p r ≡ true → (r.live ≡ true) × (r.partner ≡ p)
live-of p r e =
    ((and_parts r.live (nat_eq r.partner p) e).0, eqb-true r.partner p (and_parts r.live (nat_eq r.partner p) e).1)

pub offered-has : (s : NodeState) (q : ℕ) (r : LinkKey) → offered s q ≡ Some r → Has q r.key true s.links
unfolding offered
offered-has s q r e =
    record {
      row = r;
      among = found.0;
      live = (live-of q r parts.0).0;
      partner = (live-of q r parts.0).1;
      key = refl;
      kind = parts.1;
    }
  where
    found : In r s.links × ((is_live_of q r && is_unverified r.attribute) ≡ true)
    found = found-element (λ (x : LinkKey). is_live_of q x && is_unverified x.attribute) s.links r e

    parts : (is_live_of q r ≡ true) × (is_unverified r.attribute ≡ true)
    parts = and_parts (is_live_of q r) (is_unverified r.attribute) found.1

pub offered-some : (s : NodeState) (q : ℕ) (o : Option LinkKey) → offered s q ≡ o → is_some o ≡ true → Offer q s.links
offered-some s q None e f = absurd (false≢true f)
offered-some s q (Some r) e f = (r.key, offered-has s q r e)

pub not-true : (b : Bool) → not b ≡ true → b ≡ false
not-true true e = absurd (false≢true e)
not-true false e = refl

current-has : (s : NodeState) (q : ℕ) (r : LinkKey) → current s q ≡ Some r → Has q r.key false s.links
current-has s q r e =
    record {
      row = r;
      among = (current-found s q r e).0;
      live = (live-of q r parts.0).0;
      partner = (live-of q r parts.0).1;
      key = refl;
      kind = not-true (is_unverified r.attribute) parts.1;
    }
  where
    parts : (is_live_of q r ≡ true) × (not (is_unverified r.attribute) ≡ true)
    parts = and_parts (is_live_of q r) (not (is_unverified r.attribute)) (current-found s q r e).1

current-partner : (s : NodeState) (q : ℕ) (r : LinkKey) → current s q ≡ Some r → r.partner ≡ q
current-partner s q r e =
    (live-of q r (and_parts (is_live_of q r) (not (is_unverified r.attribute)) (current-found s q r e).1).0).1

-- rows of one partner and key are one row
one-row : (s : NodeState) → Sound s → (q : ℕ) (k : Bytes) → Has q k true s.links → Has q k false s.links → ⊥
one-row s o q k a b = false≢true (sym b.kind ∙ ap (λ r. is_unverified r.attribute) (same a.row b.row first) ∙ a.kind)
  where
    some-row : (x y : LinkKey) → Some x ≡ Some y → y ≡ x
    some-row x y e = sym (ap (λ p. Rattle.std.specs.Prelude.unwrap_or p x) e)

    same : (x y : LinkKey) → Some x ≡ Some y → y ≡ x
    same x y e = some-row x y e

    found-same : find (is_link a.row.partner a.row.key) s.links ≡ find (is_link b.row.partner b.row.key) s.links
    found-same = ap (λ n. find (is_link n a.row.key) s.links) (a.partner ∙ sym b.partner) ∙ ap
        (λ j. find (is_link b.row.partner j) s.links) (a.key ∙ sym b.key)

    first : Some a.row ≡ Some b.row
    first = sym (all-in (λ x. find (link_test x) s.links ≡ Some x) s.links o.links a.row a.among) ∙ found-same ∙
        all-in (λ x. find (link_test x) s.links ≡ Some x) s.links o.links b.row b.among

-- a live device
pub live-has : (s : NodeState) (q : ℕ) → CurrentHeld s → is_live s q ≡ true → Current q s.links
unfolding is_live
live-has s q c e = by-any (any-in (is_live_of q) s.links e)
  where
    by-kind : (r : LinkKey) → In r s.links → r.live ≡ true → r.partner ≡ q → (b : Bool) → is_unverified r.attribute
        ≡ b → Current q s.links
    by-kind r i l p true f = c q r.key (record { row = r; among = i; live = l; partner = p; key = refl; kind = f })
    by-kind r i l p false f = (r.key, record { row = r; among = i; live = l; partner = p; key = refl; kind = f })

    by-any : (r : LinkKey) × In r s.links × (is_live_of q r ≡ true) → Current q s.links
    by-any a = by-kind a.0 a.1 (live-of q a.0 a.2).0 (live-of q a.0 a.2).1 (is_unverified a.0.attribute) refl

-- The centre's answers

-- the rows after the moves
abbrev pub rows_after : Counting → NodeState → NodeState → List Move → List LinkKey
rows_after kk s s1 ms = (applied_all (kept_edits kk s ms) s1).links

pub through : (kk : Counting) (s s1 : NodeState) → same_rows s s1 → (q : ℕ) (k : Bytes) (ms : List Move)
    → AllByRecursion (Spares q k) ms → Alike q k s.links (rows_after kk s s1 ms)
through kk s s1 same q k ms a = alike-then q k s.links s1.links (rows_after kk s s1 ms) (same q k)
    (moves-alike q k kk s ms a s1)

spared : (kk : Counting) (s s1 : NodeState) → same_rows s s1 → CurrentHeld s → (q : ℕ) (ms : List Move)
    → ((k : Bytes) → AllByRecursion (Spares q k) ms) → (k : Bytes) → Has q k true (rows_after kk s s1 ms)
    → Current q (rows_after kk s s1 ms)
spared kk s s1 same c q ms a k h = found (c q k ((through kk s s1 same q k ms (a k) true).1 h))
  where
    found : Current q s.links → Current q (rows_after kk s s1 ms)
    found f = (f.0, (through kk s s1 same q f.0 ms (a f.0) false).0 f.1)

-- of one partner, and of all others
apart : (kk : Counting) (s s1 : NodeState) → same_rows s s1 → CurrentHeld s → (p : ℕ) (ms : List Move)
    → AllByRecursion (OnlyOf p) ms
    → ((k : Bytes) → Has p k true (rows_after kk s s1 ms) → Current p (rows_after kk s s1 ms)) → (q : ℕ) (k : Bytes)
    → Has q k true (rows_after kk s s1 ms) → Current q (rows_after kk s s1 ms)
apart kk s s1 same c p ms only here q k h = by-test (nat_eq p q) refl
  where
    other : nat_eq p q ≡ false → p ≡ q → ⊥
    other e f = false≢true (sym e ∙ eq-eqb p q f)

    by-test : (b : Bool) → nat_eq p q ≡ b → Current q (rows_after kk s s1 ms)
    by-test true e = subst (λ n. Current n (rows_after kk s s1 ms)) (eqb-true p q e)
        (here k (subst (λ n. Has n k true (rows_after kk s s1 ms)) (sym (eqb-true p q e)) h))
    by-test false e = spared kk s s1 same c q ms (λ j. only-spares p q j (other e) ms only) k h

-- the rows that are dropped stay dropped
dropped-back : (q : ℕ) (k : Bytes) (p : ℕ) (j : Bytes) (t : Bool) (links : List LinkKey)
    → Has q k t (at_link p j dropped_link links) → Has q k t links × (p ≡ q → j ≡ k → ⊥)
dropped-back q k p j t links h =
    by-from (in-map (λ (r : LinkKey). cond (is_link p j r) (dropped_link r) r) links h.row h.among)
  where
    by-test : (x : LinkKey) → In x links → (b : Bool) → is_link p j x ≡ b → cond b (dropped_link x) x ≡ h.row
        → Has q k t links × (p ≡ q → j ≡ k → ⊥)
    by-test x i true e f = absurd (false≢true (ap (λ (r : LinkKey). r.live) f ∙ h.live))
    by-test x i false e f = (
      record {
        row = h.row;
        among = subst (λ y. In y links) f i;
        live = h.live;
        partner = h.partner;
        key = h.key;
        kind = h.kind;
      },
      λ a b. false≢true
          (sym e ∙ eq-slot p j x (ap (λ (r : LinkKey). r.partner) f ∙ h.partner ∙ sym a)
          (ap (λ (r : LinkKey). r.key) f ∙ h.key ∙ sym b)),
    )

    by-from : From (λ (r : LinkKey). cond (is_link p j r) (dropped_link r) r) links h.row → Has q k t links
        × (p ≡ q → j ≡ k → ⊥)
    by-from x = by-test x.origin x.among (is_link p j x.origin) refl x.same

drop-applied : (p : ℕ) (j : Bytes) (s : NodeState) → (applied (Moved (DropLink p j)) s).links
    ≡ at_link p j dropped_link s.links
unfolding applied
drop-applied p j s = refl

abbrev Missed : ℕ → Bytes → LinkKey → Type 0
Missed q k r = r.partner ≡ q → r.key ≡ k → ⊥

drops-back : (kk : Counting) (s0 : NodeState) (q : ℕ) (k : Bytes) (t : Bool) (rs : List LinkKey) (s : NodeState)
    → Has q k t (applied_all (kept_edits kk s0 (map drop_link rs)) s).links → Has q k t s.links
    × AllByRecursion (Missed q k) rs
unfolding applied_all
drops-back kk s0 q k t [] s h = (h, tt)
drops-back kk s0 q k t (r ∷ rs) s h =
    joined (drops-back kk s0 q k t rs (applied (Moved (DropLink r.partner r.key)) s) h)
  where
    joined : Has q k t (applied (Moved (DropLink r.partner r.key)) s).links × AllByRecursion (Missed q k) rs
        → Has q k t s.links × AllByRecursion (Missed q k) (r ∷ rs)
    joined f = let first = dropped-back q k r.partner r.key t s.links
        (subst (Has q k t) (drop-applied r.partner r.key s) f.0) in (first.0, (first.1, f.1))

missed-in : (test : LinkKey → Bool) (q : ℕ) (k : Bytes) (xs : List LinkKey)
    → AllByRecursion (Missed q k) (filter test xs) → (r : LinkKey) → In r xs → test r ≡ true → r.partner ≡ q → r.key
    ≡ k → ⊥
unfolding In
missed-in test q k [] a r i e p j = i
missed-in test q k (x ∷ xs) a r i e p j = by-in (test x) refl a i (missed-in test q k xs)
  where
    by-in : (b : Bool) → test x ≡ b → AllByRecursion (Missed q k) (cond b (x ∷ filter test xs) (filter test xs))
        → (x ≡ r) ⊎ In r xs
        → (AllByRecursion (Missed q k) (filter test xs) → (r : LinkKey) → In r xs → test r ≡ true → r.partner ≡ q
        → r.key ≡ k → ⊥) → ⊥
    by-in true f a (inl g) more = a.0 (ap (λ (y : LinkKey). y.partner) g ∙ p) (ap (λ (y : LinkKey). y.key) g ∙ j)
    by-in false f a (inl g) more = false≢true (sym f ∙ ap test g ∙ e)
    by-in true f a (inr g) more = more a.1 r g e p j
    by-in false f a (inr g) more = more a r g e p j

pub both-true : (a b : Bool) → a ≡ true → b ≡ true → (a && b) ≡ true
both-true true b e f = f
both-true false b e f = absurd (false≢true e)

removed-none : (kk : Counting) (s s1 : NodeState) → same_rows s s1 → (p : ℕ) (k : Bytes)
    → Has p k true (rows_after kk s s1 (drop_partner s p ++ (Removed p ∷ []))) → ⊥
unfolding drop_partner
removed-none kk s s1 same p k h = gone (drops-back kk s p k true (filter (is_live_of p) s.links) s1 dropped)
  where
    dropped : Has p k true (applied_all (kept_edits kk s (map drop_link (filter (is_live_of p) s.links))) s1).links
    dropped =
        (moves-alike p k kk s (Removed p ∷ []) (tt, tt)
        (applied_all (kept_edits kk s (map drop_link (filter (is_live_of p) s.links))) s1) true).1
        (subst (λ x. Has p k true x.links)
        (kept-appended kk s (map drop_link (filter (is_live_of p) s.links)) (Removed p ∷ []) s1) h)

    at : Has p k true s.links → AllByRecursion (Missed p k) (filter (is_live_of p) s.links) → ⊥
    at a b = missed-in (is_live_of p) p k s.links b a.row a.among
        (both-true a.row.live (nat_eq a.row.partner p) a.live (eq-eqb a.row.partner p a.partner)) a.partner a.key

    gone : Has p k true s1.links × AllByRecursion (Missed p k) (filter (is_live_of p) s.links) → ⊥
    gone f = at ((same p k true).1 f.0) f.1

partner-only : (p : ℕ) (rs : List LinkKey) (more : List Move) → AllByRecursion (OnlyOf p) more
    → AllByRecursion (OnlyOf p) (map drop_link (filter (is_live_of p) rs) ++ more)
partner-only p [] more a = a
partner-only p (r ∷ rs) more a = by-test (is_live_of p r) refl (partner-only p rs more a)
  where
    by-test : (b : Bool) → is_live_of p r ≡ b
        → AllByRecursion (OnlyOf p) (map drop_link (filter (is_live_of p) rs) ++ more)
        → AllByRecursion (OnlyOf p) (map drop_link (cond b (r ∷ filter (is_live_of p) rs) (filter (is_live_of p) rs))
        ++ more)
    by-test true e f = ((live-of p r e).1, f)
    by-test false e f = f

removes-only : (s : NodeState) (p : ℕ) → AllByRecursion (OnlyOf p) (drop_partner s p ++ (Removed p ∷ []))
unfolding drop_partner
removes-only s p = partner-only p s.links (Removed p ∷ []) (tt, tt)

row-only : (p : ℕ) (o : Option LinkKey) (more : List Move) → ((r : LinkKey) → o ≡ Some r → r.partner ≡ p)
    → AllByRecursion (OnlyOf p) more → AllByRecursion (OnlyOf p) (drop_row o ++ more)
row-only p None more f a = a
row-only p (Some r) more f a = (f r refl, a)

pub row-spares : (q : ℕ) (k : Bytes) (o : Option LinkKey)
    → ((r : LinkKey) → o ≡ Some r → r.partner ≡ q → r.key ≡ k → ⊥) → AllByRecursion (Spares q k) (drop_row o)
row-spares q k None f = tt
row-spares q k (Some r) f = (f r refl, tt)

pub still-append : (xs ys : List Move) → AllByRecursion Still xs → AllByRecursion Still ys
    → AllByRecursion Still (xs ++ ys)
still-append [] ys a b = b
still-append (x ∷ xs) ys a b = (a.0, still-append xs ys a.1 b)

-- no row has a new key
new-apart : (s : NodeState) (draw : Option Bytes) (k : Bytes) → IsNew s draw k → (q : ℕ) (j : Bytes) (t : Bool)
    → Has q j t s.links → k ≡ j → ⊥
new-apart s draw k new q j t h e =
    new-rows s k (new-by s draw k new).1 q
    (record { row = h.row; among = h.among; partner = h.partner; key = h.key ∙ sym e })

offer-kept : (kk : Counting) (s s1 : NodeState) → same_rows s s1 → CurrentHeld s
    → (draw : Option Bytes) (p : ℕ) (k : Bytes) → IsNew s draw k → is_live s p ≡ true → (q : ℕ) (j : Bytes)
    → Has q j true (rows_after kk s s1 (Draw k ∷ Row p k Unverified ∷ []))
    → Current q (rows_after kk s s1 (Draw k ∷ Row p k Unverified ∷ []))
offer-kept kk s s1 same c draw p k new live q j h = apart kk s s1 same c p (Draw k ∷ Row p k Unverified ∷ [])
    (tt, (refl, tt)) (λ i g. there (live-has s p c live)) q j h
  where
    there : Current p s.links → Current p (rows_after kk s s1 (Draw k ∷ Row p k Unverified ∷ []))
    there f = (
      f.0,
      (through kk s s1 same p f.0 (Draw k ∷ Row p k Unverified ∷ [])
          (tt, ((λ a b. new-apart s draw k new p f.0 false f.1 b), tt)) false).0 f.1,
    )

pub centre-kept : (c : Setting) (s : NodeState) (task : Task) (moves : List Move) (kk : Counting) (s1 : NodeState)
    → Sound s → same_rows s s1 → is_centre c.me.role ≡ true → Deed c s task moves → CurrentHeld s
    → CurrentHeld (applied_all (kept_edits kk s moves) s1)
centre-kept c s task moves kk s1 o same m (member n a d) held q k h = absurd (false≢true (sym n ∙ m))
centre-kept c s task moves kk s1 o same m (nothing e) held q k h =
    spared kk s s1 same held q moves (λ j. subst (AllByRecursion (Spares q j)) (sym e) tt) k h
centre-kept c s task moves kk s1 o same m (quiet n a y) held q k h =
    spared kk s s1 same held q moves (λ j. still-spares q j moves y) k h
centre-kept c s task moves kk s1 o same m (rolls n j i drops new a y e) held q k h =
    spared kk s s1 same held q moves
    (λ x. subst (AllByRecursion (Spares q x)) (sym e) (
      tt,
      still-spares q x (drops ++ (Install j i ∷ Roll true ∷ []))
          (still-append drops (Install j i ∷ Roll true ∷ []) y (tt, (tt, tt))),
    )) k h
centre-kept c s task moves kk s1 o same m (pairs n a b j new la lb e) held q k h =
    spared kk s s1 same held q moves (λ x. subst (AllByRecursion (Spares q x)) (sym e) (tt, (tt, tt))) k h
centre-kept c s task moves kk s1 o same m (offers n p j new live e) held q k h =
    subst (λ ms. Current q (rows_after kk s s1 ms)) (sym e)
    (offer-kept kk s s1 same held (draw_of task) p j new live q k
    (subst (λ ms. Has q k true (rows_after kk s s1 ms)) e h))
centre-kept c s task moves kk s1 o same m (enters n p j by dead none e) held q k h =
    subst (λ ms. Current q (rows_after kk s s1 ms)) (sym e)
    (apart kk s s1 same held p (Row p j Provisional ∷ Live p ∷ []) (refl, (tt, tt))
    (λ i g. (j, settle kk s s1 same p j Provisional [] (Live p ∷ []) tt (tt, tt))) q k
    (subst (λ ms. Has q k true (rows_after kk s s1 ms)) e h))
centre-kept c s task moves kk s1 o same m (verifies n p row f a e) held q k h =
    subst (λ ms. Current q (rows_after kk s s1 ms)) (sym e)
    (apart kk s s1 same held p (drop_row (current s p) ++ (Row p row.key Verified ∷ []))
    (row-only p (current s p) (Row p row.key Verified ∷ []) (λ r g. current-partner s p r g) (refl, tt))
    (λ i g. (
      row.key,
      settle kk s s1 same p row.key Verified (drop_row (current s p)) []
          (row-spares p row.key (current s p)
          (λ r x y z. one-row s o p row.key (offered-has s p row f)
          (subst (λ w. Has p w false s.links) z (current-has s p r x)))) tt,
    ))
    q k (subst (λ ms. Has q k true (rows_after kk s s1 ms)) e h))
centre-kept c s task moves kk s1 o same m (removes n p live e) held q k h =
    subst (λ ms. Current q (rows_after kk s s1 ms)) (sym e)
    (apart kk s s1 same held p (drop_partner s p ++ (Removed p ∷ [])) (removes-only s p)
    (λ i g. absurd (removed-none kk s s1 same p i g)) q k (subst (λ ms. Has q k true (rows_after kk s s1 ms)) e h))
