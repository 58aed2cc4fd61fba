-- Where the rows of a state come from: each is an old one, or its line adds it; and no row is lost.
use Rattle.std.proofs.Common.{◌≡◌, ℕ, ◌+◌, max, Bool, true, false, cond, not, List, [], ◌∷◌, ◌++◌, map, Option, Some, None, nat_eq, refl, sym, ap, ◌∙◌, subst, eqb-true, ◌⊎◌, inl, inr, ⊎_elim}
use Rattle.std.proofs.lemmas.Bool.{false≢true, and_parts}
use Rattle.std.specs.List.{AllByRecursion, list_any}
use Rattle.zb_model.specs.Data.{Bytes, Layer, Nwk, Aps, Attribute, Provisional, Term, Move, Draw, DropNet, DropLink, Install, Active, Row, Pair, Became, Live, Removed, Roll, Told, Untold, Edit, Reserve, Floor, Start, Moved}
use Rattle.zb_model.specs.Lines.{Line, Declared, GivenNet, GivenLink, Counter, Changed, Commit, Accept, Refuse, Seal, Forge, Send, Inject, Stopped, DownReset, DownDisk, Boot, Dump, End}
use Rattle.zb_model.specs.State.{NetKey, LinkKey, PairKey, NodeState, same_key, has_net, has_link, is_link, is_live_of, is_told, at_net, at_link, of_active, new_net, given_net, new_link, revived, dropped_net, dropped_link, reserved, started_at, net_floor, net_kept, next_at, booted_net, booted_link, declared_at, told_as, link_floor, link_kept, names_two, names, applied, moved, after_sealing, sealed_at, after_boot, after_hearing, after_accepting, with_given_net, with_given_link, with_declared}
use Rattle.zb_model.specs.Readings.{state_of, heard_line, after, speaker}
use Rattle.law_run.proofs.Basics.{same_key-eq, state-snoc}
use Rattle.law_run.proofs.Judged.{In, in-filter}
use Rattle.law_run.proofs.LockoutDeeds.{HasRow, HasNet}
use Rattle.law_run.proofs.ConfirmsLines.{From, in-map, in-append'}

-- Elements

pub in-mapped : {X Y : Type 0} (f : X → Y) (x : X) (xs : List X) → In x xs → In (f x) (map f xs)
unfolding In
in-mapped f x [] i = absurd i
in-mapped f x (y ∷ ys) (inl e) = inl (ap f e)
in-mapped f x (y ∷ ys) (inr i) = inr (in-mapped f x ys i)

pub in-left : {X : Type 0} (x : X) (xs ys : List X) → In x xs → In x (xs ++ ys)
unfolding In
in-left x [] ys i = absurd i
in-left x (z ∷ xs) ys (inl e) = inl e
in-left x (z ∷ xs) ys (inr i) = inr (in-left x xs ys i)

pub in-right : {X : Type 0} (x : X) (xs ys : List X) → In x ys → In x (xs ++ ys)
unfolding In
in-right x [] ys i = i
in-right x (z ∷ xs) ys i = inr (in-right x xs ys i)

in-one : {X : Type 0} (x y : X) → In y (x ∷ []) → x ≡ y
unfolding In
in-one x y (inl e) = e
in-one x y (inr i) = absurd i

-- Link rows

-- an old row of the same partner and key, live if this one is
pub record OldLink (links : List LinkKey) (y : LinkKey) : Type 0 where
  pub row : LinkKey
  pub among : In row links
  pub partner : row.partner ≡ y.partner
  pub key : row.key ≡ y.key
  pub live : y.live ≡ true → row.live ≡ true

pub record SameLink (links : List LinkKey) (y : LinkKey) : Type 0 where
  pub row : LinkKey
  pub among : In row links
  pub partner : row.partner ≡ y.partner
  pub key : row.key ≡ y.key

itself : (links : List LinkKey) (y : LinkKey) → In y links → OldLink links y
itself links y i = record { row = y; among = i; partner = refl; key = refl; live = λ e. e }

-- partner and key stay, and no row is revived
record Tame (f : LinkKey → LinkKey) : Type 0 where
  partner : (r : LinkKey) → (f r).partner ≡ r.partner
  key : (r : LinkKey) → (f r).key ≡ r.key
  live : (r : LinkKey) → (f r).live ≡ true → r.live ≡ true

tame-if : (f : LinkKey → LinkKey) (test : LinkKey → Bool) → Tame f → Tame (λ r. cond (test r) (f r) r)
tame-if f test t = record { partner = λ r. p (test r) r; key = λ r. k (test r) r; live = λ r. l (test r) r }
  where
    p : (b : Bool) (r : LinkKey) → (cond b (f r) r).partner ≡ r.partner
    p true r = t.partner r
    p false r = refl

    k : (b : Bool) (r : LinkKey) → (cond b (f r) r).key ≡ r.key
    k true r = t.key r
    k false r = refl

    l : (b : Bool) (r : LinkKey) → (cond b (f r) r).live ≡ true → r.live ≡ true
    l true r e = t.live r e
    l false r e = e

back-map : (f : LinkKey → LinkKey) → Tame f → (links : List LinkKey) (y : LinkKey) → In y (map f links)
    → OldLink links y
back-map f t links y i = back (in-map f links y i)
  where
    back : From f links y → OldLink links y
    back o = record {
      row = o.origin;
      among = o.among;
      partner = sym (t.partner o.origin) ∙ ap (λ z. z.partner) o.same;
      key = sym (t.key o.origin) ∙ ap (λ z. z.key) o.same;
      live = λ e. t.live o.origin (ap (λ z. z.live) o.same ∙ e);
    }

back-if : (f : LinkKey → LinkKey) (test : LinkKey → Bool) → Tame f → (links : List LinkKey) (y : LinkKey)
    → In y (map (λ r. cond (test r) (f r) r) links) → OldLink links y
back-if f test t links y i = back-map (λ r. cond (test r) (f r) r) (tame-if f test t) links y i

forth-map : (f : LinkKey → LinkKey) → ((r : LinkKey) → (f r).partner ≡ r.partner)
    → ((r : LinkKey) → (f r).key ≡ r.key) → (links : List LinkKey) (y : LinkKey) → In y links
    → SameLink (map f links) y
forth-map f p k links y i = record { row = f y; among = in-mapped f y links i; partner = p y; key = k y }

forth-if : (f : LinkKey → LinkKey) (test : LinkKey → Bool) → ((r : LinkKey) → (f r).partner ≡ r.partner)
    → ((r : LinkKey) → (f r).key ≡ r.key) → (links : List LinkKey) (y : LinkKey) → In y links
    → SameLink (map (λ r. cond (test r) (f r) r) links) y
forth-if f test p k links y i = forth-map (λ r. cond (test r) (f r) r) (λ r. pp (test r) r) (λ r. kk (test r) r) links
    y i
  where
    pp : (b : Bool) (r : LinkKey) → (cond b (f r) r).partner ≡ r.partner
    pp true r = p r
    pp false r = refl

    kk : (b : Bool) (r : LinkKey) → (cond b (f r) r).key ≡ r.key
    kk true r = k r
    kk false r = refl

still : (links : List LinkKey) (y : LinkKey) → In y links → SameLink links y
still links y i = record { row = y; among = i; partner = refl; key = refl }

tame-dropped : Tame dropped_link
tame-dropped = record { partner = λ r. refl; key = λ r. refl; live = λ r e. absurd (false≢true e) }

tame-told : (b : Bool) → Tame (told_as b)
tame-told b = record { partner = λ r. refl; key = λ r. refl; live = λ r e. e }

tame-floor : (v : ℕ) → Tame (link_floor v)
tame-floor v = record { partner = λ r. refl; key = λ r. refl; live = λ r e. e }

tame-kept : (v : ℕ) → Tame (link_kept v)
tame-kept v = record { partner = λ r. refl; key = λ r. refl; live = λ r e. e }

tame-booted : Tame booted_link
tame-booted = record { partner = λ r. refl; key = λ r. refl; live = λ r e. e }

abbrev IsRow : ℕ → Bytes → LinkKey → Type 0
IsRow p k y = (p ≡ y.partner) × (k ≡ y.key)

slot-eq : (p : ℕ) (k : Bytes) (r : LinkKey) → is_link p k r ≡ true → (r.partner ≡ p) × (r.key ≡ k)
slot-eq p k r e = (
  eqb-true r.partner p (and_parts (nat_eq r.partner p) (same_key r.key k) e).0,
  same_key-eq r.key k (and_parts (nat_eq r.partner p) (same_key r.key k) e).1,
)

back-row : (p : ℕ) (k : Bytes) (t : Attribute) (told : Bool) (links : List LinkKey) (b : Bool) (y : LinkKey)
    → In y (cond b (at_link p k (revived t told) links) (links ++ new_link p k t told ∷ [])) → OldLink links y
    ⊎ IsRow p k y
back-row p k t told links true y i = back (in-map (λ r. cond (is_link p k r) (revived t told r) r) links y i)
  where
    by-test : (r : LinkKey) → In r links → (b : Bool) → is_link p k r ≡ b → cond b (revived t told r) r ≡ y
        → OldLink links y ⊎ IsRow p k y
    by-test r j true e s =
        inr (sym (slot-eq p k r e).0 ∙ ap (λ z. z.partner) s, sym (slot-eq p k r e).1 ∙ ap (λ z. z.key) s)
    by-test r j false e s = inl (itself links y (subst (λ z. In z links) s j))

    back : From (λ r. cond (is_link p k r) (revived t told r) r) links y → OldLink links y ⊎ IsRow p k y
    back o = by-test o.origin o.among (is_link p k o.origin) refl o.same
back-row p k t told links false y i =
    ⊎_elim (λ j. inl (itself links y j))
    (λ j. inr
    (ap (λ z. z.partner) (in-one (new_link p k t told) y j), ap (λ z. z.key) (in-one (new_link p k t told) y j)))
    (in-append' y links (new_link p k t told ∷ []) i)

forth-row : (p : ℕ) (k : Bytes) (t : Attribute) (told : Bool) (links : List LinkKey) (b : Bool) (y : LinkKey)
    → In y links → SameLink (cond b (at_link p k (revived t told) links) (links ++ new_link p k t told ∷ [])) y
forth-row p k t told links true y i = forth-if (revived t told) (is_link p k) (λ r. refl) (λ r. refl) links y i
forth-row p k t told links false y i =
    record { row = y; among = in-left y links (new_link p k t told ∷ []) i; partner = refl; key = refl }

abbrev pub IsAny : (LinkKey → Bool) → List LinkKey → Type 0
IsAny test links = (r : LinkKey) × In r links × (test r ≡ true)

pub any-in : (test : LinkKey → Bool) (links : List LinkKey) → list_any test links ≡ true → IsAny test links
unfolding In
any-in test [] e = absurd (false≢true e)
any-in test (x ∷ xs) e = by-test (test x) refl e (any-in test xs)
  where
    by-test : (b : Bool) → test x ≡ b → Rattle.std.specs.Prelude.◌||◌ b (list_any test xs) ≡ true
        → (list_any test xs ≡ true → IsAny test xs) → IsAny test (x ∷ xs)
    by-test true q e k = (x, inl refl, q)
    by-test false q e k = later (k e)
      where
        later : IsAny test xs → IsAny test (x ∷ xs)
        later a = (a.0, inr a.1, a.2)

-- the row is there then
new-row : (p : ℕ) (k : Bytes) (t : Attribute) (told : Bool) (links : List LinkKey) (b : Bool) → has_link p k links ≡ b
    → (r : LinkKey) × In r (cond b (at_link p k (revived t told) links) (links ++ new_link p k t told ∷ []))
    × (r.partner ≡ p) × (r.key ≡ k)
unfolding In
new-row p k t told links true e = found (any-in (is_link p k) links e)
  where
    found : IsAny (is_link p k) links → (r : LinkKey) × In r (at_link p k (revived t told) links) × (r.partner ≡ p)
        × (r.key ≡ k)
    found a = place (forth-if (revived t told) (is_link p k) (λ r. refl) (λ r. refl) links a.0 a.1)
      where
        place : SameLink (at_link p k (revived t told) links) a.0 → (r : LinkKey)
            × In r (at_link p k (revived t told) links) × (r.partner ≡ p) × (r.key ≡ k)
        place s = (s.row, s.among, s.partner ∙ (slot-eq p k a.0 a.2).0, s.key ∙ (slot-eq p k a.0 a.2).1)
new-row p k t told links false e =
    (new_link p k t told, in-right (new_link p k t told) links (new_link p k t told ∷ []) (inl refl), refl, refl)

rolled-back : (b : Bool) (links : List LinkKey) (y : LinkKey) → In y (cond b (map (told_as false) links) links)
    → OldLink links y
rolled-back true links y i = back-map (told_as false) (tame-told false) links y i
rolled-back false links y i = itself links y i

rolled-forth : (b : Bool) (links : List LinkKey) (y : LinkKey) → In y links
    → SameLink (cond b (map (told_as false) links) links) y
rolled-forth true links y i = forth-map (told_as false) (λ r. refl) (λ r. refl) links y i
rolled-forth false links y i = still links y i

-- what a line brings its own node
abbrev pub RowOf : Line → LinkKey → Type 0
RowOf (Changed e n (Moved (Row p k t))) y = IsRow p k y
RowOf (GivenLink n p k) y = IsRow p k y
RowOf _ y = ⊥

moved-back : (e n : ℕ) (m : Move) (s : NodeState) (y : LinkKey) → In y (moved m s).links → OldLink s.links y
    ⊎ RowOf (Changed e n (Moved m)) y
moved-back e n (Draw k) s y i = inl (itself s.links y i)
moved-back e n (DropNet k) s y i = inl (itself s.links y i)
moved-back e n (DropLink p k) s y i = inl (back-if dropped_link (is_link p k) tame-dropped s.links y i)
moved-back e n (Install k q) s y i = inl (itself s.links y i)
moved-back e n (Active k) s y i = inl (itself s.links y i)
moved-back e n (Row p k t) s y i = back-row p k t (is_told s p) s.links (has_link p k s.links) y i
moved-back e n (Pair a b k) s y i = inl (itself s.links y i)
moved-back e n (Became g) s y i = inl (itself s.links y i)
moved-back e n (Live d) s y i = inl (back-if (told_as false) (is_live_of d) (tame-told false) s.links y i)
moved-back e n (Removed d) s y i = inl (itself s.links y i)
moved-back e n (Roll b) s y i = inl (rolled-back b s.links y i)
moved-back e n (Told d) s y i = inl (back-if (told_as true) (is_live_of d) (tame-told true) s.links y i)
moved-back e n (Untold d) s y i = inl (back-if (told_as false) (is_live_of d) (tame-told false) s.links y i)

moved-forth : (m : Move) (s : NodeState) (y : LinkKey) → In y s.links → SameLink (moved m s).links y
moved-forth (Draw k) s y i = still s.links y i
moved-forth (DropNet k) s y i = still s.links y i
moved-forth (DropLink p k) s y i = forth-if dropped_link (is_link p k) (λ r. refl) (λ r. refl) s.links y i
moved-forth (Install k q) s y i = still s.links y i
moved-forth (Active k) s y i = still s.links y i
moved-forth (Row p k t) s y i = forth-row p k t (is_told s p) s.links (has_link p k s.links) y i
moved-forth (Pair a b k) s y i = still s.links y i
moved-forth (Became g) s y i = still s.links y i
moved-forth (Live d) s y i = forth-if (told_as false) (is_live_of d) (λ r. refl) (λ r. refl) s.links y i
moved-forth (Removed d) s y i = still s.links y i
moved-forth (Roll b) s y i = rolled-forth b s.links y i
moved-forth (Told d) s y i = forth-if (told_as true) (is_live_of d) (λ r. refl) (λ r. refl) s.links y i
moved-forth (Untold d) s y i = forth-if (told_as false) (is_live_of d) (λ r. refl) (λ r. refl) s.links y i

pub applied-back : (e n : ℕ) (x : Edit) (s : NodeState) (y : LinkKey) → In y (applied x s).links → OldLink s.links y
    ⊎ RowOf (Changed e n x) y
unfolding applied
applied-back e n (Reserve Nwk v) s y i = inl (itself s.links y i)
applied-back e n (Reserve Aps v) s y i = inl (itself s.links y i)
applied-back e n (Floor Nwk k p v) s y i = inl (itself s.links y i)
applied-back e n (Floor Aps k p v) s y i = inl (back-if (link_floor v) (is_link p k) (tame-floor v) s.links y i)
applied-back e n (Start k v) s y i = inl (itself s.links y i)
applied-back e n (Moved m) s y i = moved-back e n m s y i

applied-forth : (x : Edit) (s : NodeState) (y : LinkKey) → In y s.links → SameLink (applied x s).links y
unfolding applied
applied-forth (Reserve Nwk v) s y i = still s.links y i
applied-forth (Reserve Aps v) s y i = still s.links y i
applied-forth (Floor Nwk k p v) s y i = still s.links y i
applied-forth (Floor Aps k p v) s y i = forth-if (link_floor v) (is_link p k) (λ r. refl) (λ r. refl) s.links y i
applied-forth (Start k v) s y i = still s.links y i
applied-forth (Moved m) s y i = moved-forth m s y i

heard-back : (layer : Layer) (k : Bytes) (sender counter : ℕ) (s : NodeState) (y : LinkKey)
    → In y (after_hearing layer k sender counter s).links → OldLink s.links y
unfolding after_hearing
heard-back Nwk k sender counter s y i = itself s.links y i
heard-back Aps k sender counter s y i = back-if (link_kept (counter + 1)) (is_link sender k) (tame-kept (counter + 1))
    s.links y i

heard-forth : (layer : Layer) (k : Bytes) (sender counter : ℕ) (s : NodeState) (y : LinkKey) → In y s.links
    → SameLink (after_hearing layer k sender counter s).links y
unfolding after_hearing
heard-forth Nwk k sender counter s y i = still s.links y i
heard-forth Aps k sender counter s y i = forth-if (link_kept (counter + 1)) (is_link sender k) (λ r. refl) (λ r. refl)
    s.links y i

sealed-back : (layer : Layer) (t : Term) (s : NodeState) (y : LinkKey) → In y (sealed_at layer t s).links
    → OldLink s.links y
sealed-back Nwk t s y i = itself s.links y i
sealed-back Aps t s y i = itself s.links y i

sealed-forth : (layer : Layer) (t : Term) (s : NodeState) (y : LinkKey) → In y s.links
    → SameLink (sealed_at layer t s).links y
sealed-forth Nwk t s y i = still s.links y i
sealed-forth Aps t s y i = still s.links y i

declared-back : (layer : Layer) (v : ℕ) (s : NodeState) (y : LinkKey) → In y (with_declared layer v s).links
    → OldLink s.links y
unfolding with_declared
declared-back Nwk v s y i = itself s.links y i
declared-back Aps v s y i = itself s.links y i

declared-forth : (layer : Layer) (v : ℕ) (s : NodeState) (y : LinkKey) → In y s.links
    → SameLink (with_declared layer v s).links y
unfolding with_declared
declared-forth Nwk v s y i = still s.links y i
declared-forth Aps v s y i = still s.links y i

pub after-back : (l : Line) (s : NodeState) (y : LinkKey) → In y (after l s).links → OldLink s.links y ⊎ RowOf l y
unfolding after with_given_net with_given_link after_sealing after_accepting after_boot
after-back (Declared p) s y i = inl (itself s.links y i)
after-back (GivenNet n k q) s y i = inl (itself s.links y i)
after-back (GivenLink n p k) s y i = back-row p k Provisional false s.links (has_link p k s.links) y i
after-back (Counter n layer v) s y i = inl (declared-back layer v s y i)
after-back (Changed e n x) s y i = applied-back e n x s y i
after-back (Commit e n) s y i = inl (itself s.links y i)
after-back (Accept e n t) s y i = inl (heard-back t.layer t.base t.source t.counter s y i)
after-back (Refuse e n a r) s y i = inl (itself s.links y i)
after-back (Seal e n t) s y i = inl (sealed-back t.layer t s y i)
after-back (Forge e t) s y i = inl (itself s.links y i)
after-back (Send e n f b) s y i = inl (itself s.links y i)
after-back (Inject e f b) s y i = inl (itself s.links y i)
after-back (Stopped e n) s y i = inl (itself s.links y i)
after-back (DownReset e n) s y i = inl (itself s.links y i)
after-back (DownDisk e n) s y i = inl (itself s.links y i)
after-back (Boot e n) s y i = inl (back-map booted_link tame-booted s.links y i)
after-back (Dump e n b) s y i = inl (itself s.links y i)
after-back (End a b c d e f) s y i = inl (itself s.links y i)

after-forth : (l : Line) (s : NodeState) (y : LinkKey) → In y s.links → SameLink (after l s).links y
unfolding after with_given_net with_given_link after_sealing after_accepting after_boot
after-forth (GivenLink n p k) s y i = forth-row p k Provisional false s.links (has_link p k s.links) y i
after-forth (Counter n layer v) s y i = declared-forth layer v s y i
after-forth (Changed e n x) s y i = applied-forth x s y i
after-forth (Accept e n t) s y i = heard-forth t.layer t.base t.source t.counter s y i
after-forth (Seal e n t) s y i = sealed-forth t.layer t s y i
after-forth (Boot e n) s y i = forth-map booted_link (λ r. refl) (λ r. refl) s.links y i
after-forth _ s y i = still s.links y i

-- Lines

pub link-back : (h : List Line) (l : Line) (c : ℕ) (y : LinkKey) → In y (state_of (h ++ l ∷ []) c).links
    → OldLink (state_of h c).links y ⊎ ((speaker l ≡ c) × RowOf l y)
unfolding heard_line
link-back h l c y i = by-test (nat_eq (speaker l) c) refl (subst (λ s. In y s.links) (state-snoc h l c) i)
  where
    by-test : (b : Bool) → nat_eq (speaker l) c ≡ b → In y (cond b (after l (state_of h c)) (state_of h c)).links
        → OldLink (state_of h c).links y ⊎ ((speaker l ≡ c) × RowOf l y)
    by-test true e j = ⊎_elim (λ o. inl o) (λ r. inr (eqb-true (speaker l) c e, r)) (after-back l (state_of h c) y j)
    by-test false e j = inl (itself (state_of h c).links y j)

pub link-forth : (h : List Line) (l : Line) (c : ℕ) (y : LinkKey) → In y (state_of h c).links
    → SameLink (state_of (h ++ l ∷ []) c).links y
unfolding heard_line
link-forth h l c y i = subst (λ s. SameLink s.links y) (sym (state-snoc h l c)) (by-test (nat_eq (speaker l) c))
  where
    by-test : (b : Bool) → SameLink (cond b (after l (state_of h c)) (state_of h c)).links y
    by-test true = after-forth l (state_of h c) y i
    by-test false = still (state_of h c).links y i

pub row-forth : (h : List Line) (l : Line) (c p : ℕ) (k : Bytes) → HasRow (state_of h c) p k
    → HasRow (state_of (h ++ l ∷ []) c) p k
row-forth h l c p k r = place (link-forth h l c r.row r.among)
  where
    place : SameLink (state_of (h ++ l ∷ []) c).links r.row → HasRow (state_of (h ++ l ∷ []) c) p k
    place s = record { row = s.row; among = s.among; partner = s.partner ∙ r.partner; key = s.key ∙ r.key }

pub row-new : (h : List Line) (e c p : ℕ) (k : Bytes) (t : Attribute)
    → HasRow (state_of (h ++ Changed e c (Moved (Row p k t)) ∷ []) c) p k
unfolding heard_line speaker after applied
row-new h e c p k t =
    subst (λ s. HasRow s p k)
    (sym (state-snoc h (Changed e c (Moved (Row p k t))) c ∙ ap
    (λ b. cond b (moved (Row p k t) (state_of h c)) (state_of h c)) (Rattle.law_run.proofs.Basics.nat_eq-refl c)))
    (place (new-row p k t (is_told (state_of h c) p) (state_of h c).links (has_link p k (state_of h c).links) refl))
  where
    place : ((r : LinkKey) × In r (moved (Row p k t) (state_of h c)).links × (r.partner ≡ p) × (r.key ≡ k))
        → HasRow (moved (Row p k t) (state_of h c)) p k
    place r = record { row = r.0; among = r.1; partner = r.2; key = r.3 }

-- Network rows

pub record SameNet (nets : List NetKey) (y : NetKey) : Type 0 where
  pub row : NetKey
  pub among : In row nets
  pub key : row.key ≡ y.key

abbrev SameKey : (NetKey → NetKey) → Type 0
SameKey f = (r : NetKey) → (f r).key ≡ r.key

key-if : (f : NetKey → NetKey) (test : NetKey → Bool) → SameKey f → SameKey (λ r. cond (test r) (f r) r)
key-if f test k r = by-test (test r)
  where
    by-test : (b : Bool) → (cond b (f r) r).key ≡ r.key
    by-test true = k r
    by-test false = refl

net-self : (nets : List NetKey) (y : NetKey) → In y nets → SameNet nets y
net-self nets y i = record { row = y; among = i; key = refl }

net-map-back : (f : NetKey → NetKey) → SameKey f → (nets : List NetKey) (y : NetKey) → In y (map f nets)
    → SameNet nets y
net-map-back f k nets y i = back (in-map f nets y i)
  where
    back : From f nets y → SameNet nets y
    back o = record { row = o.origin; among = o.among; key = sym (k o.origin) ∙ ap (λ z. z.key) o.same }

net-map-forth : (f : NetKey → NetKey) → SameKey f → (nets : List NetKey) (y : NetKey) → In y nets
    → SameNet (map f nets) y
net-map-forth f k nets y i = record { row = f y; among = in-mapped f y nets i; key = k y }

-- a change of network rows that leaves their keys
pub record Keyed (f : List NetKey → List NetKey) : Type 0 where
  pub back : (nets : List NetKey) (y : NetKey) → In y (f nets) → SameNet nets y
  pub forth : (nets : List NetKey) (y : NetKey) → In y nets → SameNet (f nets) y

keyed-map : (f : NetKey → NetKey) → SameKey f → Keyed (λ nets. map f nets)
keyed-map f k = record { back = net-map-back f k; forth = net-map-forth f k }

keyed-at : (key : Bytes) (f : NetKey → NetKey) → SameKey f → Keyed (λ nets. at_net key f nets)
keyed-at key f k = keyed-map (λ r. cond (same_key r.key key) (f r) r) (key-if f (λ r. same_key r.key key) k)

keyed-same : Keyed (λ nets. nets)
keyed-same = record { back = net-self; forth = net-self }

keyed-active : (f : NetKey → NetKey) → SameKey f → (o : Option Bytes) → Keyed (λ nets. of_active f o nets)
keyed-active f k None = keyed-same
keyed-active f k (Some key) = keyed-at key f k

abbrev pub NetOf : Line → NetKey → Type 0
NetOf (Changed e n (Moved (Install k q))) y = k ≡ y.key
NetOf (GivenNet n k q) y = k ≡ y.key
NetOf _ y = ⊥

net-add-back : (b : Bool) (x : NetKey) (nets : List NetKey) (y : NetKey) → In y (cond b nets (nets ++ x ∷ []))
    → SameNet nets y ⊎ (x.key ≡ y.key)
net-add-back true x nets y i = inl (net-self nets y i)
net-add-back false x nets y i = ⊎_elim (λ j. inl (net-self nets y j)) (λ j. inr (ap (λ z. z.key) (in-one x y j)))
    (in-append' y nets (x ∷ []) i)

net-add-forth : (b : Bool) (x : NetKey) (nets : List NetKey) (y : NetKey) → In y nets
    → SameNet (cond b nets (nets ++ x ∷ [])) y
net-add-forth true x nets y i = net-self nets y i
net-add-forth false x nets y i = record { row = y; among = in-left y nets (x ∷ []) i; key = refl }

nets-moved-back : (e n : ℕ) (m : Move) (s : NodeState) (y : NetKey) → In y (moved m s).nets → SameNet s.nets y
    ⊎ NetOf (Changed e n (Moved m)) y
nets-moved-back e n (Draw k) s y i = inl (net-self s.nets y i)
nets-moved-back e n (DropNet k) s y i = inl ((keyed-at k dropped_net (λ r. refl)).back s.nets y i)
nets-moved-back e n (DropLink p k) s y i = inl (net-self s.nets y i)
nets-moved-back e n (Install k q) s y i = net-add-back (has_net k s.nets) (new_net k q) s.nets y i
nets-moved-back e n (Active k) s y i = inl (net-self s.nets y i)
nets-moved-back e n (Row p k t) s y i = inl (net-self s.nets y i)
nets-moved-back e n (Pair a b k) s y i = inl (net-self s.nets y i)
nets-moved-back e n (Became g) s y i = inl (net-self s.nets y i)
nets-moved-back e n (Live d) s y i = inl (net-self s.nets y i)
nets-moved-back e n (Removed d) s y i = inl (net-self s.nets y i)
nets-moved-back e n (Roll b) s y i = inl (net-self s.nets y i)
nets-moved-back e n (Told d) s y i = inl (net-self s.nets y i)
nets-moved-back e n (Untold d) s y i = inl (net-self s.nets y i)

nets-moved-forth : (m : Move) (s : NodeState) (y : NetKey) → In y s.nets → SameNet (moved m s).nets y
nets-moved-forth (DropNet k) s y i = (keyed-at k dropped_net (λ r. refl)).forth s.nets y i
nets-moved-forth (Install k q) s y i = net-add-forth (has_net k s.nets) (new_net k q) s.nets y i
nets-moved-forth (Draw k) s y i = net-self s.nets y i
nets-moved-forth (DropLink p k) s y i = net-self s.nets y i
nets-moved-forth (Active k) s y i = net-self s.nets y i
nets-moved-forth (Row p k t) s y i = net-self s.nets y i
nets-moved-forth (Pair a b k) s y i = net-self s.nets y i
nets-moved-forth (Became g) s y i = net-self s.nets y i
nets-moved-forth (Live d) s y i = net-self s.nets y i
nets-moved-forth (Removed d) s y i = net-self s.nets y i
nets-moved-forth (Roll b) s y i = net-self s.nets y i
nets-moved-forth (Told d) s y i = net-self s.nets y i
nets-moved-forth (Untold d) s y i = net-self s.nets y i

pub nets-applied-back : (e n : ℕ) (x : Edit) (s : NodeState) (y : NetKey) → In y (applied x s).nets → SameNet s.nets y
    ⊎ NetOf (Changed e n x) y
unfolding applied
nets-applied-back e n (Reserve Nwk v) s y i = inl ((keyed-active (reserved v) (λ r. refl) s.active).back s.nets y i)
nets-applied-back e n (Reserve Aps v) s y i = inl (net-self s.nets y i)
nets-applied-back e n (Floor Nwk k p v) s y i = inl ((keyed-at k (net_floor p v) (λ r. refl)).back s.nets y i)
nets-applied-back e n (Floor Aps k p v) s y i = inl (net-self s.nets y i)
nets-applied-back e n (Start k v) s y i = inl ((keyed-at k (started_at v) (λ r. refl)).back s.nets y i)
nets-applied-back e n (Moved m) s y i = nets-moved-back e n m s y i

nets-applied-forth : (x : Edit) (s : NodeState) (y : NetKey) → In y s.nets → SameNet (applied x s).nets y
unfolding applied
nets-applied-forth (Reserve Nwk v) s y i = (keyed-active (reserved v) (λ r. refl) s.active).forth s.nets y i
nets-applied-forth (Reserve Aps v) s y i = net-self s.nets y i
nets-applied-forth (Floor Nwk k p v) s y i = (keyed-at k (net_floor p v) (λ r. refl)).forth s.nets y i
nets-applied-forth (Floor Aps k p v) s y i = net-self s.nets y i
nets-applied-forth (Start k v) s y i = (keyed-at k (started_at v) (λ r. refl)).forth s.nets y i
nets-applied-forth (Moved m) s y i = nets-moved-forth m s y i

declared-key : (v : ℕ) (b : Bool) (r : NetKey)
    → (cond b (record r { limit = max r.limit v; next = max r.next v }) r).key ≡ r.key
declared-key v true r = refl
declared-key v false r = refl

keyed-declared : (v : ℕ) → Keyed (λ nets. map (declared_at v) nets)
keyed-declared v = keyed-map (declared_at v) (λ r. declared-key v r.started r)

nets-declared : (layer : Layer) (v : ℕ) (s : NodeState) (y : NetKey)
    → (In y (with_declared layer v s).nets → SameNet s.nets y)
    × (In y s.nets → SameNet (with_declared layer v s).nets y)
unfolding with_declared
nets-declared Nwk v s y = ((keyed-declared v).back s.nets y, (keyed-declared v).forth s.nets y)
nets-declared Aps v s y = (net-self s.nets y, net-self s.nets y)

nets-heard : (layer : Layer) (k : Bytes) (sender counter : ℕ) (s : NodeState) (y : NetKey)
    → (In y (after_hearing layer k sender counter s).nets → SameNet s.nets y)
    × (In y s.nets → SameNet (after_hearing layer k sender counter s).nets y)
unfolding after_hearing
nets-heard Nwk k sender counter s y = (
  (keyed-at k (net_kept sender (counter + 1)) (λ r. refl)).back s.nets y,
  (keyed-at k (net_kept sender (counter + 1)) (λ r. refl)).forth s.nets y,
)
nets-heard Aps k sender counter s y = (net-self s.nets y, net-self s.nets y)

nets-sealed : (layer : Layer) (t : Term) (s : NodeState) (y : NetKey)
    → (In y (sealed_at layer t s).nets → SameNet s.nets y) × (In y s.nets → SameNet (sealed_at layer t s).nets y)
nets-sealed Nwk t s y = (
  (keyed-at t.base (next_at (t.counter + 1)) (λ r. refl)).back s.nets y,
  (keyed-at t.base (next_at (t.counter + 1)) (λ r. refl)).forth s.nets y,
)
nets-sealed Aps t s y = (net-self s.nets y, net-self s.nets y)

pub nets-after-back : (l : Line) (s : NodeState) (y : NetKey) → In y (after l s).nets → SameNet s.nets y ⊎ NetOf l y
unfolding after with_given_net with_given_link after_sealing after_accepting after_boot
nets-after-back (GivenNet n k q) s y i = net-add-back (has_net k s.nets) (given_net s.declared k q) s.nets y i
nets-after-back (Changed e n x) s y i = nets-applied-back e n x s y i
nets-after-back (Declared p) s y i = inl (net-self s.nets y i)
nets-after-back (GivenLink n p k) s y i = inl (net-self s.nets y i)
nets-after-back (Counter n layer v) s y i = inl ((nets-declared layer v s y).0 i)
nets-after-back (Commit e n) s y i = inl (net-self s.nets y i)
nets-after-back (Accept e n t) s y i = inl ((nets-heard t.layer t.base t.source t.counter s y).0 i)
nets-after-back (Refuse e n a r) s y i = inl (net-self s.nets y i)
nets-after-back (Seal e n t) s y i = inl ((nets-sealed t.layer t s y).0 i)
nets-after-back (Forge e t) s y i = inl (net-self s.nets y i)
nets-after-back (Send e n f b) s y i = inl (net-self s.nets y i)
nets-after-back (Inject e f b) s y i = inl (net-self s.nets y i)
nets-after-back (Stopped e n) s y i = inl (net-self s.nets y i)
nets-after-back (DownReset e n) s y i = inl (net-self s.nets y i)
nets-after-back (DownDisk e n) s y i = inl (net-self s.nets y i)
nets-after-back (Boot e n) s y i = inl ((keyed-map booted_net (λ r. refl)).back s.nets y i)
nets-after-back (Dump e n b) s y i = inl (net-self s.nets y i)
nets-after-back (End a b c d e f) s y i = inl (net-self s.nets y i)

nets-after-forth : (l : Line) (s : NodeState) (y : NetKey) → In y s.nets → SameNet (after l s).nets y
unfolding after with_given_net with_given_link after_sealing after_accepting after_boot
nets-after-forth (GivenNet n k q) s y i = net-add-forth (has_net k s.nets) (given_net s.declared k q) s.nets y i
nets-after-forth (Counter n layer v) s y i = (nets-declared layer v s y).1 i
nets-after-forth (Changed e n x) s y i = nets-applied-forth x s y i
nets-after-forth (Accept e n t) s y i = (nets-heard t.layer t.base t.source t.counter s y).1 i
nets-after-forth (Seal e n t) s y i = (nets-sealed t.layer t s y).1 i
nets-after-forth (Boot e n) s y i = (keyed-map booted_net (λ r. refl)).forth s.nets y i
nets-after-forth _ s y i = net-self s.nets y i

pub net-back : (h : List Line) (l : Line) (c : ℕ) (y : NetKey) → In y (state_of (h ++ l ∷ []) c).nets
    → SameNet (state_of h c).nets y ⊎ ((speaker l ≡ c) × NetOf l y)
unfolding heard_line
net-back h l c y i = by-test (nat_eq (speaker l) c) refl (subst (λ s. In y s.nets) (state-snoc h l c) i)
  where
    by-test : (b : Bool) → nat_eq (speaker l) c ≡ b → In y (cond b (after l (state_of h c)) (state_of h c)).nets
        → SameNet (state_of h c).nets y ⊎ ((speaker l ≡ c) × NetOf l y)
    by-test true e j = ⊎_elim (λ o. inl o) (λ r. inr (eqb-true (speaker l) c e, r))
        (nets-after-back l (state_of h c) y j)
    by-test false e j = inl (net-self (state_of h c).nets y j)

pub net-forth : (h : List Line) (l : Line) (c : ℕ) (k : Bytes) → HasNet (state_of h c) k
    → HasNet (state_of (h ++ l ∷ []) c) k
unfolding heard_line
net-forth h l c k r =
    place (subst (λ s. SameNet s.nets r.row) (sym (state-snoc h l c)) (by-test (nat_eq (speaker l) c)))
  where
    by-test : (b : Bool) → SameNet (cond b (after l (state_of h c)) (state_of h c)).nets r.row
    by-test true = nets-after-forth l (state_of h c) r.row r.among
    by-test false = net-self (state_of h c).nets r.row r.among

    place : SameNet (state_of (h ++ l ∷ []) c).nets r.row → HasNet (state_of (h ++ l ∷ []) c) k
    place s = record { row = s.row; among = s.among; key = s.key ∙ r.key }

-- Pairs

abbrev pub PairOf : Line → PairKey → Type 0
PairOf (Changed e n (Moved (Pair a b k))) y = k ≡ y.key
PairOf _ y = ⊥

pair-add : (a b : ℕ) (k : Bytes) (pairs : List PairKey) (t : Bool) (y : PairKey)
    → In y (cond t pairs (pairs ++ record { first = a; second = b; key = k } ∷ [])) → In y pairs ⊎ (k ≡ y.key)
pair-add a b k pairs true y i = inl i
pair-add a b k pairs false y i =
    ⊎_elim (λ j. inl j) (λ j. inr (ap (λ z. z.key) (in-one (record { first = a; second = b; key = k }) y j)))
    (in-append' y pairs (record { first = a; second = b; key = k } ∷ []) i)

pairs-moved : (e n : ℕ) (m : Move) (s : NodeState) (y : PairKey) → In y (moved m s).pairs → In y s.pairs
    ⊎ PairOf (Changed e n (Moved m)) y
pairs-moved e n (Pair a b k) s y i = pair-add a b k s.pairs (list_any (names_two a b) s.pairs) y i
pairs-moved e n (Removed d) s y i = inl (in-filter (λ (p : PairKey). not (names d p)) y s.pairs i)
pairs-moved e n (Draw k) s y i = inl i
pairs-moved e n (DropNet k) s y i = inl i
pairs-moved e n (DropLink p k) s y i = inl i
pairs-moved e n (Install k q) s y i = inl i
pairs-moved e n (Active k) s y i = inl i
pairs-moved e n (Row p k t) s y i = inl i
pairs-moved e n (Became g) s y i = inl i
pairs-moved e n (Live d) s y i = inl i
pairs-moved e n (Roll b) s y i = inl i
pairs-moved e n (Told d) s y i = inl i
pairs-moved e n (Untold d) s y i = inl i

pairs-applied : (e n : ℕ) (x : Edit) (s : NodeState) (y : PairKey) → In y (applied x s).pairs → In y s.pairs
    ⊎ PairOf (Changed e n x) y
unfolding applied
pairs-applied e n (Reserve Nwk v) s y i = inl i
pairs-applied e n (Reserve Aps v) s y i = inl i
pairs-applied e n (Floor Nwk k p v) s y i = inl i
pairs-applied e n (Floor Aps k p v) s y i = inl i
pairs-applied e n (Start k v) s y i = inl i
pairs-applied e n (Moved m) s y i = pairs-moved e n m s y i

pairs-declared : (layer : Layer) (v : ℕ) (s : NodeState) (y : PairKey) → In y (with_declared layer v s).pairs
    → In y s.pairs
unfolding with_declared
pairs-declared Nwk v s y i = i
pairs-declared Aps v s y i = i

pairs-heard : (layer : Layer) (k : Bytes) (sender counter : ℕ) (s : NodeState) (y : PairKey)
    → In y (after_hearing layer k sender counter s).pairs → In y s.pairs
unfolding after_hearing
pairs-heard Nwk k sender counter s y i = i
pairs-heard Aps k sender counter s y i = i

pairs-sealed : (layer : Layer) (t : Term) (s : NodeState) (y : PairKey) → In y (sealed_at layer t s).pairs
    → In y s.pairs
pairs-sealed Nwk t s y i = i
pairs-sealed Aps t s y i = i

pairs-after : (l : Line) (s : NodeState) (y : PairKey) → In y (after l s).pairs → In y s.pairs ⊎ PairOf l y
unfolding after with_given_net with_given_link after_sealing after_accepting after_boot
pairs-after (Changed e n x) s y i = pairs-applied e n x s y i
pairs-after (Declared p) s y i = inl i
pairs-after (GivenNet n k q) s y i = inl i
pairs-after (GivenLink n p k) s y i = inl i
pairs-after (Counter n layer v) s y i = inl (pairs-declared layer v s y i)
pairs-after (Commit e n) s y i = inl i
pairs-after (Accept e n t) s y i = inl (pairs-heard t.layer t.base t.source t.counter s y i)
pairs-after (Refuse e n a r) s y i = inl i
pairs-after (Seal e n t) s y i = inl (pairs-sealed t.layer t s y i)
pairs-after (Forge e t) s y i = inl i
pairs-after (Send e n f b) s y i = inl i
pairs-after (Inject e f b) s y i = inl i
pairs-after (Stopped e n) s y i = inl i
pairs-after (DownReset e n) s y i = inl i
pairs-after (DownDisk e n) s y i = inl i
pairs-after (Boot e n) s y i = inl i
pairs-after (Dump e n b) s y i = inl i
pairs-after (End a b c d e f) s y i = inl i

pub pair-back : (h : List Line) (l : Line) (c : ℕ) (y : PairKey) → In y (state_of (h ++ l ∷ []) c).pairs
    → In y (state_of h c).pairs ⊎ ((speaker l ≡ c) × PairOf l y)
unfolding heard_line
pair-back h l c y i = by-test (nat_eq (speaker l) c) refl (subst (λ s. In y s.pairs) (state-snoc h l c) i)
  where
    by-test : (b : Bool) → nat_eq (speaker l) c ≡ b → In y (cond b (after l (state_of h c)) (state_of h c)).pairs
        → In y (state_of h c).pairs ⊎ ((speaker l ≡ c) × PairOf l y)
    by-test true e j = ⊎_elim (λ o. inl o) (λ r. inr (eqb-true (speaker l) c e, r)) (pairs-after l (state_of h c) y j)
    by-test false e j = inl j
