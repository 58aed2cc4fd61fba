-- The live link row of a partner with a key: which changes leave it as it is.
use Rattle.std.proofs.Common.{◌≡◌, ℕ, ◌+◌, Bool, true, false, cond, List, [], ◌∷◌, ◌++◌, map, filter, Option, Some, None, flat_map, refl, sym, ap, ◌∙◌, ⊎_elim}
use Rattle.std.specs.List.{AllByRecursion}
use Rattle.zb_model.specs.Data.{Bytes, Layer, Nwk, Aps, Attribute, Term, Edit, Reserve, Floor, Start, Moved, Move, Draw, DropNet, DropLink, Install, Active, Row, Pair, Became, Live, Removed, Roll, Told, Untold}
use Rattle.zb_model.specs.State.{LinkKey, NodeState, is_unverified, is_link, is_live_of, has_link, is_told, at_link, dropped_link, revived, new_link, told_as, link_floor, link_kept, booted_link, applied, moved, applied_all, after_accepting, after_hearing, after_sealing, sealed_at, after_boot}
use Rattle.zb_model.specs.Answer.{Counting, changes, move_edits, start_edit}
use Rattle.law_run.proofs.FreshLines.{all-append}
use Rattle.law_run.proofs.Judged.{In}
use Rattle.law_run.proofs.ConfirmsLines.{From, in-map, in-append', slot-eq}
use Rattle.law_run.proofs.LockoutRows.{in-mapped, in-left}

-- a live row of the partner with the key, unverified or not
pub record Has (q : ℕ) (k : Bytes) (t : Bool) (links : List LinkKey) : Type 0 where
  pub row : LinkKey
  pub among : In row links
  pub live : row.live ≡ true
  pub partner : row.partner ≡ q
  pub key : row.key ≡ k
  pub kind : is_unverified row.attribute ≡ t

abbrev pub Alike : ℕ → Bytes → List LinkKey → List LinkKey → Type 0
Alike q k xs ys = (t : Bool) → (Has q k t xs → Has q k t ys) × (Has q k t ys → Has q k t xs)

pub alike-same : (q : ℕ) (k : Bytes) (xs : List LinkKey) → Alike q k xs xs
alike-same q k xs t = (λ h. h, λ h. h)

pub alike-then : (q : ℕ) (k : Bytes) (xs ys zs : List LinkKey) → Alike q k xs ys → Alike q k ys zs → Alike q k xs zs
alike-then q k xs ys zs a b t = (λ h. (b t).0 ((a t).0 h), λ h. (a t).1 ((b t).1 h))

-- a change of rows that keeps their partners and keys, and all else that matters in those with this partner and key
record Plain (q : ℕ) (k : Bytes) (f : LinkKey → LinkKey) : Type 0 where
  partner : (r : LinkKey) → (f r).partner ≡ r.partner
  key : (r : LinkKey) → (f r).key ≡ r.key
  live : (r : LinkKey) → r.partner ≡ q → r.key ≡ k → (f r).live ≡ r.live
  attribute : (r : LinkKey) → r.partner ≡ q → r.key ≡ k → (f r).attribute ≡ r.attribute

forth : (q : ℕ) (k : Bytes) (f : LinkKey → LinkKey) → Plain q k f → (t : Bool) (xs : List LinkKey) → Has q k t xs
    → Has q k t (map f xs)
forth q k f m t xs h = record {
  row = f h.row;
  among = in-mapped f h.row xs h.among;
  live = m.live h.row h.partner h.key ∙ h.live;
  partner = m.partner h.row ∙ h.partner;
  key = m.key h.row ∙ h.key;
  kind = ap is_unverified (m.attribute h.row h.partner h.key) ∙ h.kind;
}

back-from : (q : ℕ) (k : Bytes) (f : LinkKey → LinkKey) → Plain q k f → (t : Bool) (xs : List LinkKey) (x z : LinkKey)
    → In x xs → f x ≡ z → z.live ≡ true → z.partner ≡ q → z.key ≡ k → is_unverified z.attribute ≡ t → Has q k t xs
back-from q k f m t xs x z i e l p j a = record {
  row = x;
  among = i;
  live = sym (m.live x here there) ∙ ap (λ r. r.live) e ∙ l;
  partner = here;
  key = there;
  kind = ap is_unverified (sym (m.attribute x here there) ∙ ap (λ r. r.attribute) e) ∙ a;
}
  where
    here : x.partner ≡ q
    here = sym (m.partner x) ∙ ap (λ r. r.partner) e ∙ p

    there : x.key ≡ k
    there = sym (m.key x) ∙ ap (λ r. r.key) e ∙ j

alike-map : (q : ℕ) (k : Bytes) (f : LinkKey → LinkKey) → Plain q k f → (xs : List LinkKey) → Alike q k xs (map f xs)
alike-map q k f m xs t = (forth q k f m t xs, λ h. back h (in-map f xs h.row h.among))
  where
    back : (h : Has q k t (map f xs)) → From f xs h.row → Has q k t xs
    back h from = back-from q k f m t xs from.origin h.row from.among from.same h.live h.partner h.key h.kind

-- one test of the rows
plain-if : (q : ℕ) (k : Bytes) (f : LinkKey → LinkKey) (test : LinkKey → Bool)
    → ((r : LinkKey) → (f r).partner ≡ r.partner) → ((r : LinkKey) → (f r).key ≡ r.key)
    → ((r : LinkKey) → r.partner ≡ q → r.key ≡ k → test r ≡ true → ((f r).live ≡ r.live)
    × ((f r).attribute ≡ r.attribute)) → Plain q k (λ r. cond (test r) (f r) r)
plain-if q k f test p j s =
    record {
      partner = λ r. partner (test r) r;
      key = λ r. key (test r) r;
      live = λ r a b. live (test r) r refl a b;
      attribute = λ r a b. attribute (test r) r refl a b;
    }
  where
    partner : (b : Bool) (r : LinkKey) → (cond b (f r) r).partner ≡ r.partner
    partner true r = p r
    partner false r = refl

    key : (b : Bool) (r : LinkKey) → (cond b (f r) r).key ≡ r.key
    key true r = j r
    key false r = refl

    live : (b : Bool) (r : LinkKey) → test r ≡ b → r.partner ≡ q → r.key ≡ k → (cond b (f r) r).live ≡ r.live
    live true r e a c = (s r a c e).0
    live false r e a c = refl

    attribute : (b : Bool) (r : LinkKey) → test r ≡ b → r.partner ≡ q → r.key ≡ k → (cond b (f r) r).attribute
        ≡ r.attribute
    attribute true r e a c = (s r a c e).1
    attribute false r e a c = refl

-- rows of another partner or key
plain-other : (q : ℕ) (k : Bytes) (p : ℕ) (j : Bytes) (f : LinkKey → LinkKey)
    → ((r : LinkKey) → (f r).partner ≡ r.partner) → ((r : LinkKey) → (f r).key ≡ r.key) → (p ≡ q → j ≡ k → ⊥)
    → Plain q k (λ r. cond (is_link p j r) (f r) r)
plain-other q k p j f a b other =
    plain-if q k f (is_link p j) a b
    (λ r x y e. absurd (other (sym (slot-eq p j r e).0 ∙ x) (sym (slot-eq p j r e).1 ∙ y)))

plain-all : (q : ℕ) (k : Bytes) (f : LinkKey → LinkKey) → ((r : LinkKey) → (f r).partner ≡ r.partner)
    → ((r : LinkKey) → (f r).key ≡ r.key) → ((r : LinkKey) → (f r).live ≡ r.live)
    → ((r : LinkKey) → (f r).attribute ≡ r.attribute) → Plain q k f
plain-all q k f a b c d = record { partner = a; key = b; live = λ r x y. c r; attribute = λ r x y. d r }

plain-each : (q : ℕ) (k : Bytes) (f : LinkKey → LinkKey) (test : LinkKey → Bool)
    → ((r : LinkKey) → (f r).partner ≡ r.partner) → ((r : LinkKey) → (f r).key ≡ r.key)
    → ((r : LinkKey) → (f r).live ≡ r.live) → ((r : LinkKey) → (f r).attribute ≡ r.attribute)
    → Plain q k (λ r. cond (test r) (f r) r)
plain-each q k f test a b c d = plain-if q k f test a b (λ r x y e. (c r, d r))

alike-new : (q : ℕ) (k : Bytes) (x : LinkKey) (xs : List LinkKey) → (x.partner ≡ q → x.key ≡ k → ⊥)
    → Alike q k xs (xs ++ x ∷ [])
unfolding In
alike-new q k x xs other t = (
  λ h. record {
    row = h.row;
    among = in-left h.row xs (x ∷ []) h.among;
    live = h.live;
    partner = h.partner;
    key = h.key;
    kind = h.kind;
  },
  λ h. ⊎_elim (λ i. record { row = h.row; among = i; live = h.live; partner = h.partner; key = h.key; kind = h.kind })
      (λ i. ⊎_elim (λ e. absurd (other (ap (λ r. r.partner) e ∙ h.partner) (ap (λ r. r.key) e ∙ h.key)))
      (λ j. absurd j) i) (in-append' h.row xs (x ∷ []) h.among),
)

-- Changes

-- a change of other rows
abbrev pub Spares : ℕ → Bytes → Move → Type 0
Spares q k (DropLink p j) = p ≡ q → j ≡ k → ⊥
Spares q k (Row p j t) = p ≡ q → j ≡ k → ⊥
Spares q k _ = Unit {0}

abbrev pub SparesEdit : ℕ → Bytes → Edit → Type 0
SparesEdit q k (Moved m) = Spares q k m
SparesEdit q k _ = Unit {0}

row-alike : (q : ℕ) (k : Bytes) (p : ℕ) (j : Bytes) (a : Attribute) (told : Bool) (links : List LinkKey) (b : Bool)
    → (p ≡ q → j ≡ k → ⊥)
    → Alike q k links (cond b (at_link p j (revived a told) links) (links ++ new_link p j a told ∷ []))
row-alike q k p j a told links true other =
    alike-map q k _ (plain-other q k p j (revived a told) (λ r. refl) (λ r. refl) other) links
row-alike q k p j a told links false other = alike-new q k (new_link p j a told) links other

roll-alike : (q : ℕ) (k : Bytes) (b : Bool) (links : List LinkKey)
    → Alike q k links (cond b (map (told_as false) links) links)
roll-alike q k true links =
    alike-map q k (told_as false) (plain-all q k (told_as false) (λ r. refl) (λ r. refl) (λ r. refl) (λ r. refl)) links
roll-alike q k false links = alike-same q k links

told-alike : (q : ℕ) (k : Bytes) (told : Bool) (d : ℕ) (links : List LinkKey)
    → Alike q k links (map (λ (r : LinkKey). cond (is_live_of d r) (told_as told r) r) links)
told-alike q k told d links =
    alike-map q k _ (plain-each q k (told_as told) (is_live_of d) (λ r. refl) (λ r. refl) (λ r. refl) (λ r. refl))
    links

moved-alike : (q : ℕ) (k : Bytes) (m : Move) → Spares q k m → (s : NodeState) → Alike q k s.links (moved m s).links
moved-alike q k (DropLink p j) a s = alike-map q k _ (plain-other q k p j dropped_link (λ r. refl) (λ r. refl) a)
    s.links
moved-alike q k (Row p j t) a s = row-alike q k p j t (is_told s p) s.links (has_link p j s.links) a
moved-alike q k (Roll b) a s = roll-alike q k b s.links
moved-alike q k (Live d) a s = told-alike q k false d s.links
moved-alike q k (Told d) a s = told-alike q k true d s.links
moved-alike q k (Untold d) a s = told-alike q k false d s.links
moved-alike q k (Draw j) a s = alike-same q k s.links
moved-alike q k (DropNet j) a s = alike-same q k s.links
moved-alike q k (Install j n) a s = alike-same q k s.links
moved-alike q k (Active j) a s = alike-same q k s.links
moved-alike q k (Pair x y j) a s = alike-same q k s.links
moved-alike q k (Became g) a s = alike-same q k s.links
moved-alike q k (Removed d) a s = alike-same q k s.links

pub edit-alike : (q : ℕ) (k : Bytes) (e : Edit) → SparesEdit q k e → (s : NodeState)
    → Alike q k s.links (applied e s).links
unfolding applied
edit-alike q k (Reserve Nwk v) a s = alike-same q k s.links
edit-alike q k (Reserve Aps v) a s = alike-same q k s.links
edit-alike q k (Floor Nwk j p v) a s = alike-same q k s.links
edit-alike q k (Floor Aps j p v) a s =
    alike-map q k _ (plain-each q k (link_floor v) (is_link p j) (λ r. refl) (λ r. refl) (λ r. refl) (λ r. refl))
    s.links
edit-alike q k (Start j v) a s = alike-same q k s.links
edit-alike q k (Moved m) a s = moved-alike q k m a s

pub edits-alike : (q : ℕ) (k : Bytes) (es : List Edit) → AllByRecursion (SparesEdit q k) es → (s : NodeState)
    → Alike q k s.links (applied_all es s).links
unfolding applied_all
edits-alike q k [] a s = alike-same q k s.links
edits-alike q k (e ∷ es) a s = alike-then q k s.links (applied e s).links (applied_all es (applied e s)).links
    (edit-alike q k e a.0 s) (edits-alike q k es a.1 (applied e s))

heard-alike : (q : ℕ) (k : Bytes) (layer : Layer) (j : Bytes) (sender counter : ℕ) (s : NodeState)
    → Alike q k s.links (after_hearing layer j sender counter s).links
unfolding after_hearing
heard-alike q k Nwk j sender counter s = alike-same q k s.links
heard-alike q k Aps j sender counter s =
    alike-map q k _
    (plain-each q k (link_kept (counter + 1)) (is_link sender j) (λ r. refl) (λ r. refl) (λ r. refl) (λ r. refl))
    s.links

pub accept-alike : (q : ℕ) (k : Bytes) (t : Term) (s : NodeState) → Alike q k s.links (after_accepting t s).links
unfolding after_accepting
accept-alike q k t s = heard-alike q k t.layer t.base t.source t.counter s

sealed-alike : (q : ℕ) (k : Bytes) (layer : Layer) (t : Term) (s : NodeState)
    → Alike q k s.links (sealed_at layer t s).links
sealed-alike q k Nwk t s = alike-same q k s.links
sealed-alike q k Aps t s = alike-same q k s.links

pub seal-alike : (q : ℕ) (k : Bytes) (t : Term) (s : NodeState) → Alike q k s.links (after_sealing t s).links
unfolding after_sealing
seal-alike q k t s = sealed-alike q k t.layer t s

pub boot-alike : (q : ℕ) (k : Bytes) (s : NodeState) → Alike q k s.links (after_boot s).links
unfolding after_boot
boot-alike q k s =
    alike-map q k booted_link (plain-all q k booted_link (λ r. refl) (λ r. refl) (λ r. refl) (λ r. refl)) s.links

-- the changes of moves, of which those that change nothing are left out
start-spares : (q : ℕ) (k : Bytes) (key : Bytes) (o : Option ℕ) → AllByRecursion (SparesEdit q k) (start_edit key o)
start-spares q k key None = tt
start-spares q k key (Some v) = (tt, tt)

move-spares : (q : ℕ) (k : Bytes) (kk : Counting) (m : Move) → Spares q k m
    → AllByRecursion (SparesEdit q k) (move_edits kk m)
move-spares q k kk (Active key) a = (tt, start-spares q k key kk.start)
move-spares q k kk (Draw key) a = (tt, tt)
move-spares q k kk (DropNet key) a = (tt, tt)
move-spares q k kk (DropLink p key) a = (a, tt)
move-spares q k kk (Install key n) a = (tt, tt)
move-spares q k kk (Row p key t) a = (a, tt)
move-spares q k kk (Pair x y key) a = (tt, tt)
move-spares q k kk (Became g) a = (tt, tt)
move-spares q k kk (Live d) a = (tt, tt)
move-spares q k kk (Removed d) a = (tt, tt)
move-spares q k kk (Roll b) a = (tt, tt)
move-spares q k kk (Told d) a = (tt, tt)
move-spares q k kk (Untold d) a = (tt, tt)

abbrev pub kept_edits : Counting → NodeState → List Move → List Edit
kept_edits kk s0 ms = flat_map (move_edits kk) (filter (changes s0) ms)

pub kept-spares : (q : ℕ) (k : Bytes) (kk : Counting) (s0 : NodeState) (ms : List Move)
    → AllByRecursion (Spares q k) ms → AllByRecursion (SparesEdit q k) (kept_edits kk s0 ms)
kept-spares q k kk s0 [] a = tt
kept-spares q k kk s0 (m ∷ ms) a = by-test (changes s0 m) (kept-spares q k kk s0 ms a.1)
  where
    by-test : (b : Bool) → AllByRecursion (SparesEdit q k) (kept_edits kk s0 ms)
        → AllByRecursion (SparesEdit q k)
        (flat_map (move_edits kk) (cond b (m ∷ filter (changes s0) ms) (filter (changes s0) ms)))
    by-test true more = all-append (SparesEdit q k) (move_edits kk m) (kept_edits kk s0 ms) (move-spares q k kk m a.0)
        more
    by-test false more = more

pub moves-alike : (q : ℕ) (k : Bytes) (kk : Counting) (s0 : NodeState) (ms : List Move)
    → AllByRecursion (Spares q k) ms → (s : NodeState) → Alike q k s.links (applied_all (kept_edits kk s0 ms) s).links
moves-alike q k kk s0 ms a s = edits-alike q k (kept_edits kk s0 ms) (kept-spares q k kk s0 ms a) s
