-- Only stored keys are confirmed: each live verified link row of the centre was stored as verified, line by line.
use Rattle.std.proofs.Common.{◌≡◌, ℕ, ◌+◌, Bool, true, false, cond, ◌&&◌, List, [], ◌∷◌, ◌++◌, map, nat_eq, refl, sym, ap, ◌∙◌, subst, append_assoc, eqb-true, ◌⊎◌, inl, inr, ⊎_elim}
use Rattle.std.proofs.lemmas.Bool.{false≢true, and_parts}
use Rattle.std.specs.List.{AllByRecursion}
use Rattle.zb_model.specs.Data.{Bytes, Layer, Nwk, Aps, Attribute, Provisional, Unverified, Verified, Term, Move, Draw, DropNet, DropLink, Install, Active, Row, Pair, Became, Live, Removed, Roll, Told, Untold, Edit, Reserve, Floor, Start, Moved}
use Rattle.zb_model.specs.Lines.{Line, Declared, GivenNet, GivenLink, Counter, Changed, Commit, Accept, Seal, Boot}
use Rattle.zb_model.specs.State.{LinkKey, NodeState, same_key, has_link, is_link, is_live_of, is_told, at_link, with_told, new_link, revived, dropped_link, told_as, link_floor, link_kept, booted_link, applied, moved, after_sealing, sealed_at, after_boot, after_hearing, after_accepting, with_given_net, with_given_link, with_declared}
use Rattle.zb_model.specs.Readings.{state_of, heard_line, after, speaker}
use Rattle.zb_model.specs.Claims.{Unsettles, StoredVerified}
use Rattle.law_run.proofs.Basics.{same_key-eq, same_key-refl, nat_eq-refl, append-nil', state-snoc}
use Rattle.law_run.proofs.FreshLines.{all-append, heard-keeps}
use Rattle.law_run.proofs.Judged.{In}
use Rattle.law_run.proofs.LockoutDeeds.{any-of}

-- What was stored stays stored until something unsettles it

abbrev pub Settled : ℕ → ℕ → Bytes → Line → Type 0
Settled c d b l = Unsettles c d b l → ⊥

pub stored-snoc : (h : List Line) (c d : ℕ) (b : Bytes) (l : Line) → StoredVerified h c d b → Settled c d b l
    → StoredVerified (h ++ l ∷ []) c d b
stored-snoc h c d b l s q = record {
  before = s.before;
  between = s.between;
  later = s.later ++ l ∷ [];
  row_event = s.row_event;
  commit_event = s.commit_event;
  shape = ap (λ x. x ++ l ∷ []) s.shape ∙ append_assoc
      (s.before ++ Changed s.row_event c (Moved (Row d b Verified)) ∷ s.between) (Commit s.commit_event c ∷ s.later)
      (l ∷ []);
  settled = subst (λ x. AllByRecursion (Settled c d b) x) (append_assoc s.between s.later (l ∷ []))
      (all-append (Settled c d b) (s.between ++ s.later) (l ∷ []) s.settled (q, tt));
}

pub stored-lines : (h : List Line) (c d : ℕ) (b : Bytes) (ls : List Line) → StoredVerified h c d b
    → AllByRecursion (Settled c d b) ls → StoredVerified (h ++ ls) c d b
stored-lines h c d b [] s q = subst (λ x. StoredVerified x c d b) (sym (append-nil' h)) s
stored-lines h c d b (l ∷ ls) s q = subst (λ x. StoredVerified x c d b) (append_assoc h (l ∷ []) ls)
    (stored-lines (h ++ l ∷ []) c d b ls (stored-snoc h c d b l s q.0) q.1)

-- the row is verified, and the commit comes later
pub record Pending (h : List Line) (c d : ℕ) (b : Bytes) : Type 0 where
  pub before : List Line
  pub between : List Line
  pub row_event : ℕ
  pub shape : h ≡ before ++ Changed row_event c (Moved (Row d b Verified)) ∷ between
  pub settled : AllByRecursion (Settled c d b) between

pending-snoc : (h : List Line) (c d : ℕ) (b : Bytes) (l : Line) → Pending h c d b → Settled c d b l
    → Pending (h ++ l ∷ []) c d b
pending-snoc h c d b l s q = record {
  before = s.before;
  between = s.between ++ l ∷ [];
  row_event = s.row_event;
  shape = ap (λ x. x ++ l ∷ []) s.shape ∙ append_assoc s.before
      (Changed s.row_event c (Moved (Row d b Verified)) ∷ s.between) (l ∷ []);
  settled = all-append (Settled c d b) s.between (l ∷ []) s.settled (q, tt);
}

pub pending-commit : (h : List Line) (c d e : ℕ) (b : Bytes) → Pending h c d b
    → StoredVerified (h ++ Commit e c ∷ []) c d b
pending-commit h c d e b s = record {
  before = s.before;
  between = s.between;
  later = [];
  row_event = s.row_event;
  commit_event = e;
  shape = ap (λ x. x ++ Commit e c ∷ []) s.shape;
  settled = subst (λ x. AllByRecursion (Settled c d b) x) (sym (append-nil' s.between)) s.settled;
}

-- Every live verified row of the centre is stored; among the changes of a node's group, or to be stored by that node.

abbrev pub Seen : ℕ → List Line → ℕ → ℕ → Bytes → Type 0
Seen n h c d b = StoredVerified h c d b ⊎ (Pending h c d b × (n ≡ c))

abbrev pub RowsMeet : (ℕ → Bytes → Type 0) → List LinkKey → Type 0
RowsMeet P links = (r : LinkKey) → In r links → r.live ≡ true → r.attribute ≡ Verified → P r.partner r.key

unfoldable pub Backed : ℕ → List Line → ℕ → Type 0
Backed n h c = RowsMeet (Seen n h c) (state_of h c).links

unfoldable pub Firm : List Line → ℕ → Type 0
Firm h c = RowsMeet (StoredVerified h c) (state_of h c).links

pub firm-backed : (n : ℕ) (h : List Line) (c : ℕ) → Firm h c → Backed n h c
unfolding Firm Backed
firm-backed n h c f r i l v = inl (f r i l v)

-- A change that leaves what is read of a row

pub record Alike (f : LinkKey → LinkKey) : Type 0 where
  pub partner : (r : LinkKey) → (f r).partner ≡ r.partner
  pub key : (r : LinkKey) → (f r).key ≡ r.key
  pub live : (r : LinkKey) → (f r).live ≡ r.live
  pub attribute : (r : LinkKey) → (f r).attribute ≡ r.attribute

alike-if : (f : LinkKey → LinkKey) (test : LinkKey → Bool) → Alike f → Alike (λ r. cond (test r) (f r) r)
alike-if f test a =
    record {
      partner = λ r. p (test r) r;
      key = λ r. k (test r) r;
      live = λ r. l (test r) r;
      attribute = λ r. t (test r) r;
    }
  where
    p : (b : Bool) (r : LinkKey) → (cond b (f r) r).partner ≡ r.partner
    p true r = a.partner r
    p false r = refl

    k : (b : Bool) (r : LinkKey) → (cond b (f r) r).key ≡ r.key
    k true r = a.key r
    k false r = refl

    l : (b : Bool) (r : LinkKey) → (cond b (f r) r).live ≡ r.live
    l true r = a.live r
    l false r = refl

    t : (b : Bool) (r : LinkKey) → (cond b (f r) r).attribute ≡ r.attribute
    t true r = a.attribute r
    t false r = refl

-- an element of a map comes from one
pub record From {X : Type 0} (f : X → X) (xs : List X) (y : X) : Type 0 where
  pub origin : X
  pub among : In origin xs
  pub same : f origin ≡ y

pub in-map : {X : Type 0} (f : X → X) (xs : List X) (y : X) → In y (map f xs) → From f xs y
unfolding In
in-map f [] y i = absurd i
in-map f (x ∷ xs) y (inl e) = record { origin = x; among = inl refl; same = e }
in-map f (x ∷ xs) y (inr i) = later (in-map f xs y i)
  where
    later : From f xs y → From f (x ∷ xs) y
    later o = record { origin = o.origin; among = inr o.among; same = o.same }

pub in-append' : {X : Type 0} (y : X) (xs ys : List X) → In y (xs ++ ys) → In y xs ⊎ In y ys
unfolding In
in-append' y [] ys i = inr i
in-append' y (x ∷ xs) ys (inl e) = inl (inl e)
in-append' y (x ∷ xs) ys (inr i) = ⊎_elim (λ a. inl (inr a)) (λ a. inr a) (in-append' y xs ys i)

meet-alike : (P : ℕ → Bytes → Type 0) (f : LinkKey → LinkKey) → Alike f → (links : List LinkKey) → RowsMeet P links
    → RowsMeet P (map f links)
meet-alike P f a links m y i live attribute = meet (in-map f links y i)
  where
    meet : From f links y → P y.partner y.key
    meet o = subst (λ n. P n y.key) (sym (a.partner o.origin) ∙ ap (λ z. z.partner) o.same)
        (subst (λ k. P o.origin.partner k) (sym (a.key o.origin) ∙ ap (λ z. z.key) o.same)
        (m o.origin o.among (sym (a.live o.origin) ∙ ap (λ z. z.live) o.same ∙ live)
        (sym (a.attribute o.origin) ∙ ap (λ z. z.attribute) o.same ∙ attribute)))

meet-if : (P : ℕ → Bytes → Type 0) (f : LinkKey → LinkKey) (test : LinkKey → Bool) → Alike f → (links : List LinkKey)
    → RowsMeet P links → RowsMeet P (map (λ r. cond (test r) (f r) r) links)
meet-if P f test a links m = meet-alike P (λ r. cond (test r) (f r) r) (alike-if f test a) links m

alike-told : (told : Bool) → Alike (told_as told)
alike-told told = record { partner = λ r. refl; key = λ r. refl; live = λ r. refl; attribute = λ r. refl }

alike-floor : (v : ℕ) → Alike (link_floor v)
alike-floor v = record { partner = λ r. refl; key = λ r. refl; live = λ r. refl; attribute = λ r. refl }

alike-kept : (v : ℕ) → Alike (link_kept v)
alike-kept v = record { partner = λ r. refl; key = λ r. refl; live = λ r. refl; attribute = λ r. refl }

alike-booted : Alike booted_link
alike-booted = record { partner = λ r. refl; key = λ r. refl; live = λ r. refl; attribute = λ r. refl }

pub slot-eq : (p : ℕ) (k : Bytes) (r : LinkKey) → is_link p k r ≡ true → (r.partner ≡ p) × (r.key ≡ k)
slot-eq p k r e = (
  eqb-true r.partner p (and_parts (nat_eq r.partner p) (same_key r.key k) e).0,
  same_key-eq r.key k (and_parts (nat_eq r.partner p) (same_key r.key k) e).1,
)

pub eq-slot : (p : ℕ) (k : Bytes) (r : LinkKey) → r.partner ≡ p → r.key ≡ k → is_link p k r ≡ true
eq-slot p k r e f = subst (λ j. (nat_eq r.partner p && same_key r.key j) ≡ true) f
    (subst (λ n. (nat_eq r.partner n && same_key r.key r.key) ≡ true) e
    (rw (nat_eq-refl r.partner) (same_key-refl r.key)))

-- a drop: the row is dead, and others are others
meet-drop : (P : ℕ → Bytes → Type 0) (p : ℕ) (k : Bytes) (links : List LinkKey)
    → ((r : LinkKey) → In r links → r.live ≡ true → r.attribute ≡ Verified → ((r.partner ≡ p) × (r.key ≡ k) → ⊥)
    → P r.partner r.key) → RowsMeet P (at_link p k dropped_link links)
meet-drop P p k links m y i live attribute = meet (in-map (λ r. cond (is_link p k r) (dropped_link r) r) links y i)
  where
    by-test : (r : LinkKey) → In r links → (b : Bool) → is_link p k r ≡ b → cond b (dropped_link r) r ≡ y
        → P y.partner y.key
    by-test r j true e s = absurd (false≢true (ap (λ z. z.live) s ∙ live))
    by-test r j false e s =
        subst (λ z. P z.partner z.key) s
        (m r j (ap (λ z. z.live) s ∙ live) (ap (λ z. z.attribute) s ∙ attribute)
        (λ q. false≢true (sym e ∙ eq-slot p k r q.0 q.1)))

    meet : From (λ r. cond (is_link p k r) (dropped_link r) r) links y → P y.partner y.key
    meet o = by-test o.origin o.among (is_link p k o.origin) refl o.same

-- a row that comes: it has its own attribute, and others are others
meet-row : (P : ℕ → Bytes → Type 0) (p : ℕ) (k : Bytes) (t : Attribute) (told : Bool) (links : List LinkKey)
    (b : Bool) → has_link p k links ≡ b
    → ((r : LinkKey) → In r links → r.live ≡ true → r.attribute ≡ Verified → ((r.partner ≡ p) × (r.key ≡ k) → ⊥)
    → P r.partner r.key) → (t ≡ Verified → P p k)
    → RowsMeet P (cond b (at_link p k (revived t told) links) (links ++ new_link p k t told ∷ []))
unfolding In
meet-row P p k t told links true h m own y i live attribute =
    meet (in-map (λ r. cond (is_link p k r) (revived t told r) r) links y i)
  where
    by-test : (r : LinkKey) → In r links → (b : Bool) → is_link p k r ≡ b → cond b (revived t told r) r ≡ y
        → P y.partner y.key
    by-test r j true e s =
        subst (λ z. P z.partner z.key) s
        (subst (λ n. P n r.key) (sym (slot-eq p k r e).0)
        (subst (λ x. P p x) (sym (slot-eq p k r e).1) (own (ap (λ z. z.attribute) s ∙ attribute))))
    by-test r j false e s =
        subst (λ z. P z.partner z.key) s
        (m r j (ap (λ z. z.live) s ∙ live) (ap (λ z. z.attribute) s ∙ attribute)
        (λ q. false≢true (sym e ∙ eq-slot p k r q.0 q.1)))

    meet : From (λ r. cond (is_link p k r) (revived t told r) r) links y → P y.partner y.key
    meet o = by-test o.origin o.among (is_link p k o.origin) refl o.same
meet-row P p k t told links false h m own y i live attribute =
    ⊎_elim old new (in-append' y links (new_link p k t told ∷ []) i)
  where
    old : In y links → P y.partner y.key
    old j = m y j live attribute (λ q. false≢true (sym h ∙ any-of (is_link p k) y links j (eq-slot p k y q.0 q.1)))

    one : In y (new_link p k t told ∷ []) → new_link p k t told ≡ y
    one (inl e) = e
    one (inr j) = absurd j

    new : In y (new_link p k t told ∷ []) → P y.partner y.key
    new j = subst (λ z. P z.partner z.key) (one j) (own (ap (λ z. z.attribute) (one j) ∙ attribute))

-- Lines

seen-snoc : (n : ℕ) (h : List Line) (c d : ℕ) (b : Bytes) (l : Line) → Settled c d b l → Seen n h c d b
    → Seen n (h ++ l ∷ []) c d b
seen-snoc n h c d b l q (inl s) = inl (stored-snoc h c d b l s q)
seen-snoc n h c d b l q (inr s) = inr (pending-snoc h c d b l s.0 q, s.1)

all-snoc : (P Q : ℕ → Bytes → Type 0) (links : List LinkKey) → ((d : ℕ) (b : Bytes) → P d b → Q d b)
    → RowsMeet P links → RowsMeet Q links
all-snoc P Q links k m r i live attribute = k r.partner r.key (m r i live attribute)

-- a change of the node n
own-pending : (h : List Line) (e c d : ℕ) (b : Bytes) → Pending (h ++ Changed e c (Moved (Row d b Verified)) ∷ []) c d
    b
own-pending h e c d b = record { before = h; between = []; row_event = e; shape = refl; settled = tt }

rolled-meet : (P : ℕ → Bytes → Type 0) (b : Bool) (links : List LinkKey) → RowsMeet P links
    → RowsMeet P (cond b (map (told_as false) links) links)
rolled-meet P true links m = meet-alike P (told_as false) (alike-told false) links m
rolled-meet P false links m = m

moved-backed : (n e : ℕ) (h : List Line) (c : ℕ) (m : Move) (s : NodeState) → n ≡ c → RowsMeet (Seen n h c) s.links
    → RowsMeet (Seen n (h ++ Changed e n (Moved m) ∷ []) c) (moved m s).links
moved-backed n e h c (DropLink p k) s q f =
    meet-drop (Seen n (h ++ Changed e n (Moved (DropLink p k)) ∷ []) c) p k s.links
    (λ r i live attribute other. seen-snoc n h c r.partner r.key (Changed e n (Moved (DropLink p k)))
    (λ u. other (sym u.1, sym u.2)) (f r i live attribute))
moved-backed n e h c (Row p k t) s q f =
    meet-row (Seen n (h ++ Changed e n (Moved (Row p k t)) ∷ []) c) p k t (is_told s p) s.links (has_link p k s.links)
    refl
    (λ r i live attribute other. seen-snoc n h c r.partner r.key (Changed e n (Moved (Row p k t)))
    (λ u. other (sym u.1, sym u.2)) (f r i live attribute))
    (λ v. inr (
      subst (λ x. Pending (h ++ Changed e n (Moved (Row p k x)) ∷ []) c p k) (sym v)
          (subst (λ x. Pending (h ++ Changed e x (Moved (Row p k Verified)) ∷ []) c p k) (sym q)
          (own-pending h e c p k)),
      q,
    ))
moved-backed n e h c (Live d) s q f = all-snoc (Seen n h c) (Seen n (h ++ Changed e n (Moved (Live d)) ∷ []) c)
    (with_told d false s.links) (λ d' b. seen-snoc n h c d' b (Changed e n (Moved (Live d))) (λ u. u))
    (meet-if (Seen n h c) (told_as false) (is_live_of d) (alike-told false) s.links f)
moved-backed n e h c (Told d) s q f = all-snoc (Seen n h c) (Seen n (h ++ Changed e n (Moved (Told d)) ∷ []) c)
    (with_told d true s.links) (λ d' b. seen-snoc n h c d' b (Changed e n (Moved (Told d))) (λ u. u))
    (meet-if (Seen n h c) (told_as true) (is_live_of d) (alike-told true) s.links f)
moved-backed n e h c (Untold d) s q f = all-snoc (Seen n h c) (Seen n (h ++ Changed e n (Moved (Untold d)) ∷ []) c)
    (with_told d false s.links) (λ d' b. seen-snoc n h c d' b (Changed e n (Moved (Untold d))) (λ u. u))
    (meet-if (Seen n h c) (told_as false) (is_live_of d) (alike-told false) s.links f)
moved-backed n e h c (Roll b) s q f = all-snoc (Seen n h c) (Seen n (h ++ Changed e n (Moved (Roll b)) ∷ []) c)
    (cond b (map (told_as false) s.links) s.links)
    (λ d' b'. seen-snoc n h c d' b' (Changed e n (Moved (Roll b))) (λ u. u)) (rolled-meet (Seen n h c) b s.links f)
moved-backed n e h c (Draw k) s q f = all-snoc (Seen n h c) (Seen n (h ++ Changed e n (Moved (Draw k)) ∷ []) c)
    s.links (λ d' b. seen-snoc n h c d' b (Changed e n (Moved (Draw k))) (λ u. u)) f
moved-backed n e h c (DropNet k) s q f = all-snoc (Seen n h c) (Seen n (h ++ Changed e n (Moved (DropNet k)) ∷ []) c)
    s.links (λ d' b. seen-snoc n h c d' b (Changed e n (Moved (DropNet k))) (λ u. u)) f
moved-backed n e h c (Install k i) s q f =
    all-snoc (Seen n h c) (Seen n (h ++ Changed e n (Moved (Install k i)) ∷ []) c) s.links
    (λ d' b. seen-snoc n h c d' b (Changed e n (Moved (Install k i))) (λ u. u)) f
moved-backed n e h c (Active k) s q f = all-snoc (Seen n h c) (Seen n (h ++ Changed e n (Moved (Active k)) ∷ []) c)
    s.links (λ d' b. seen-snoc n h c d' b (Changed e n (Moved (Active k))) (λ u. u)) f
moved-backed n e h c (Pair x y k) s q f =
    all-snoc (Seen n h c) (Seen n (h ++ Changed e n (Moved (Pair x y k)) ∷ []) c) s.links
    (λ d' b. seen-snoc n h c d' b (Changed e n (Moved (Pair x y k))) (λ u. u)) f
moved-backed n e h c (Became g) s q f = all-snoc (Seen n h c) (Seen n (h ++ Changed e n (Moved (Became g)) ∷ []) c)
    s.links (λ d' b. seen-snoc n h c d' b (Changed e n (Moved (Became g))) (λ u. u)) f
moved-backed n e h c (Removed d) s q f = all-snoc (Seen n h c) (Seen n (h ++ Changed e n (Moved (Removed d)) ∷ []) c)
    s.links (λ d' b. seen-snoc n h c d' b (Changed e n (Moved (Removed d))) (λ u. u)) f

applied-backed : (n e : ℕ) (h : List Line) (c : ℕ) (x : Edit) (s : NodeState) → n ≡ c → RowsMeet (Seen n h c) s.links
    → RowsMeet (Seen n (h ++ Changed e n x ∷ []) c) (applied x s).links
unfolding applied
applied-backed n e h c (Reserve Nwk v) s q f =
    all-snoc (Seen n h c) (Seen n (h ++ Changed e n (Reserve Nwk v) ∷ []) c) s.links
    (λ d' b. seen-snoc n h c d' b (Changed e n (Reserve Nwk v)) (λ u. u)) f
applied-backed n e h c (Reserve Aps v) s q f =
    all-snoc (Seen n h c) (Seen n (h ++ Changed e n (Reserve Aps v) ∷ []) c) s.links
    (λ d' b. seen-snoc n h c d' b (Changed e n (Reserve Aps v)) (λ u. u)) f
applied-backed n e h c (Floor Nwk k p v) s q f =
    all-snoc (Seen n h c) (Seen n (h ++ Changed e n (Floor Nwk k p v) ∷ []) c) s.links
    (λ d' b. seen-snoc n h c d' b (Changed e n (Floor Nwk k p v)) (λ u. u)) f
applied-backed n e h c (Floor Aps k p v) s q f =
    all-snoc (Seen n h c) (Seen n (h ++ Changed e n (Floor Aps k p v) ∷ []) c) (at_link p k (link_floor v) s.links)
    (λ d' b. seen-snoc n h c d' b (Changed e n (Floor Aps k p v)) (λ u. u))
    (meet-if (Seen n h c) (link_floor v) (is_link p k) (alike-floor v) s.links f)
applied-backed n e h c (Start k v) s q f = all-snoc (Seen n h c) (Seen n (h ++ Changed e n (Start k v) ∷ []) c)
    s.links (λ d' b. seen-snoc n h c d' b (Changed e n (Start k v)) (λ u. u)) f
applied-backed n e h c (Moved m) s q f = moved-backed n e h c m s q f

-- of another node's change
settled-other : (c d n e : ℕ) (b : Bytes) (x : Edit) → (n ≡ c → ⊥) → Settled c d b (Changed e n x)
settled-other c d n e b (Moved (DropLink p k)) o u = o u.0
settled-other c d n e b (Moved (Row p k t)) o u = o u.0
settled-other c d n e b _ o u = u

change-state : (n e : ℕ) (x : Edit) (s : NodeState) (c : ℕ) (b : Bool) → nat_eq n c ≡ b
    → heard_line c s (Changed e n x) ≡ cond b (applied x s) s
unfolding heard_line speaker after
change-state n e x s c b q = ap (λ b. cond b (applied x s) s) q

pub change-backed : (n e : ℕ) (h : List Line) (c : ℕ) (x : Edit) → Backed n h c → Backed n (h ++ Changed e n x ∷ []) c
unfolding Backed
change-backed n e h c x f = by-test (nat_eq n c) refl
  where
    Claim : NodeState → Type 0
    Claim s = RowsMeet (Seen n (h ++ Changed e n x ∷ []) c) s.links

    by-test : (b : Bool) → nat_eq n c ≡ b
        → RowsMeet (Seen n (h ++ Changed e n x ∷ []) c) (state_of (h ++ Changed e n x ∷ []) c).links
    by-test true q = subst Claim (sym (state-snoc h (Changed e n x) c ∙ change-state n e x (state_of h c) c true q))
        (applied-backed n e h c x (state_of h c) (eqb-true n c q) f)
    by-test false q = subst Claim (sym (state-snoc h (Changed e n x) c ∙ change-state n e x (state_of h c) c false q))
        (all-snoc (Seen n h c) (Seen n (h ++ Changed e n x ∷ []) c) (state_of h c).links
        (λ d b. seen-snoc n h c d b (Changed e n x)
        (settled-other c d n e b x (Rattle.std.proofs.lemmas.Bool.eqb-false n c q))) f)

pub changes-backed : (n e : ℕ) (h : List Line) (c : ℕ) (xs : List Edit) → Backed n h c
    → Backed n (h ++ map (Changed e n) xs) c
changes-backed n e h c [] f = subst (λ x. Backed n x c) (sym (append-nil' h)) f
changes-backed n e h c (x ∷ xs) f =
    subst (λ y. Backed n y c) (append_assoc h (Changed e n x ∷ []) (map (Changed e n) xs))
    (changes-backed n e (h ++ Changed e n x ∷ []) c xs (change-backed n e h c x f))

-- a commit of the node stores what it changed
same-state : (n e : ℕ) (h : List Line) (c : ℕ) → state_of (h ++ Commit e n ∷ []) c ≡ state_of h c
unfolding heard_line after
same-state n e h c = state-snoc h (Commit e n) c ∙ by-test (nat_eq (speaker (Commit e n)) c)
  where
    by-test : (b : Bool) → cond b (state_of h c) (state_of h c) ≡ state_of h c
    by-test true = refl
    by-test false = refl

pub commit-firm : (n e : ℕ) (h : List Line) (c : ℕ) → Backed n h c → Firm (h ++ Commit e n ∷ []) c
unfolding Backed Firm
commit-firm n e h c f =
    subst Claim (sym (same-state n e h c))
    (all-snoc (Seen n h c) (StoredVerified (h ++ Commit e n ∷ []) c) (state_of h c).links store f)
  where
    Claim : NodeState → Type 0
    Claim s = RowsMeet (StoredVerified (h ++ Commit e n ∷ []) c) s.links

    store : (d : ℕ) (b : Bytes) → Seen n h c d b → StoredVerified (h ++ Commit e n ∷ []) c d b
    store d b (inl s) = stored-snoc h c d b (Commit e n) s (λ u. u)
    store d b (inr s) = subst (λ m. StoredVerified (h ++ Commit e m ∷ []) c d b) (sym s.1)
        (pending-commit h c d e b s.0)

-- Lines that change no row's attribute

unfoldable pub Calm : Line → Type 0
Calm (Changed e n x) = ⊥
Calm _ = Unit {0}

pub calm-settled : (c d : ℕ) (b : Bytes) (l : Line) → Calm l → Settled c d b l
unfolding Calm
calm-settled c d b (Changed e n x) k u = k
calm-settled c d b _ k u = u

heard-meet : (P : ℕ → Bytes → Type 0) (layer : Layer) (k : Bytes) (sender counter : ℕ) (s : NodeState)
    → RowsMeet P s.links → RowsMeet P (after_hearing layer k sender counter s).links
unfolding after_hearing
heard-meet P Nwk k sender counter s m = m
heard-meet P Aps k sender counter s m = meet-if P (link_kept (counter + 1)) (is_link sender k)
    (alike-kept (counter + 1)) s.links m

sealed-meet : (P : ℕ → Bytes → Type 0) (layer : Layer) (t : Term) (s : NodeState) → RowsMeet P s.links
    → RowsMeet P (sealed_at layer t s).links
sealed-meet P Nwk t s m = m
sealed-meet P Aps t s m = m

provisional-meet : (P : ℕ → Bytes → Type 0) (p : ℕ) (k : Bytes) (s : NodeState) → RowsMeet P s.links
    → RowsMeet P (with_given_link p k s).links
unfolding with_given_link
provisional-meet P p k s m = meet-row P p k Provisional false s.links (has_link p k s.links) refl
    (λ r i live attribute other. m r i live attribute) (λ v. absurd (apart v))
  where
    IsProvisional : Attribute → Type 0
    IsProvisional Provisional = Unit {0}
    IsProvisional Unverified = ⊥
    IsProvisional Verified = ⊥

    apart : Provisional ≡ Verified → ⊥
    apart v = subst IsProvisional v tt

declared-meet : (P : ℕ → Bytes → Type 0) (layer : Layer) (v : ℕ) (s : NodeState) → RowsMeet P s.links
    → RowsMeet P (with_declared layer v s).links
unfolding with_declared
declared-meet P Nwk v s m = m
declared-meet P Aps v s m = m

calm-meet : (P : ℕ → Bytes → Type 0) (l : Line) (s : NodeState) → Calm l → RowsMeet P s.links
    → RowsMeet P (after l s).links
unfolding after Calm with_given_net after_sealing after_accepting after_boot
calm-meet P (Declared p) s k m = m
calm-meet P (GivenNet n key q) s k m = m
calm-meet P (GivenLink n p key) s k m = provisional-meet P p key s m
calm-meet P (Counter n layer v) s k m = declared-meet P layer v s m
calm-meet P (Changed e n x) s k m = absurd k
calm-meet P (Accept e n t) s k m = heard-meet P t.layer t.base t.source t.counter s m
calm-meet P (Seal e n t) s k m = sealed-meet P t.layer t s m
calm-meet P (Boot e n) s k m = meet-alike P booted_link alike-booted s.links m
calm-meet P _ s k m = m

pub firm-calm : (h : List Line) (c : ℕ) (l : Line) → Calm l → Firm h c → Firm (h ++ l ∷ []) c
unfolding Firm
firm-calm h c l k f =
    subst Claim (sym (state-snoc h l c))
    (heard-keeps Claim c l (state_of h c) (λ e. calm-meet (StoredVerified (h ++ l ∷ []) c) l (state_of h c) k more)
    more)
  where
    Claim : NodeState → Type 0
    Claim s = RowsMeet (StoredVerified (h ++ l ∷ []) c) s.links

    more : RowsMeet (StoredVerified (h ++ l ∷ []) c) (state_of h c).links
    more = all-snoc (StoredVerified h c) (StoredVerified (h ++ l ∷ []) c) (state_of h c).links
        (λ d b s. stored-snoc h c d b l s (calm-settled c d b l k)) f

pub firm-lines : (h : List Line) (c : ℕ) (ls : List Line) → AllByRecursion Calm ls → Firm h c → Firm (h ++ ls) c
firm-lines h c [] k f = subst (λ x. Firm x c) (sym (append-nil' h)) f
firm-lines h c (l ∷ ls) k f = subst (λ x. Firm x c) (append_assoc h (l ∷ []) ls)
    (firm-lines (h ++ l ∷ []) c ls k.1 (firm-calm h c l k.0 f))
