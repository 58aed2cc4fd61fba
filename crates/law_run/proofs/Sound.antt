-- What is true of a node's state after any lines: each row is found under its own key, and floors ascend.
use Rattle.std.proofs.Common.{◌≡◌, ℕ, ◌+◌, max, Bool, true, false, cond, ◌&&◌, ◌||◌, List, [], ◌∷◌, ◌++◌, map, Option, Some, None, option_map, find, nat_eq, fold, refl, sym, ap, ◌∙◌, subst}
use Rattle.std.proofs.lemmas.Bool.{false≢true}
use Rattle.std.specs.List.{AllByRecursion, list_any}
use Rattle.zb_model.specs.Data.{Bytes, Role, Layer, Nwk, Aps, Attribute, Provisional, Term, Move, Draw, DropNet, DropLink, Install, Active, Row, Pair, Became, Live, Removed, Roll, Told, Untold, Edit, Reserve, Floor, Start, Moved}
use Rattle.zb_model.specs.Lines.{Line, Declared, GivenNet, GivenLink, Counter, Changed, Accept, Seal, Boot}
use Rattle.zb_model.specs.State.{NetKey, LinkKey, NodeState, new_node, same_key, has_net, has_link, is_link, is_live_of, is_told, at_net, at_link, of_active, with_link, new_net, new_link, given_net, reserved, started_at, dropped_net, net_floor, net_kept, next_at, booted_net, booted_link, declared_at, revived, dropped_link, told_as, link_floor, link_kept, applied, moved, after_sealing, sealed_at, after_boot, after_hearing, after_accepting, with_given_net, with_given_link, with_declared, with_told}
use Rattle.zb_model.specs.Readings.{state_of, heard_line, after}
use Rattle.law_run.proofs.Basics.{same_key-refl, nat_eq-refl}
use Rattle.law_run.proofs.FreshLines.{all-append, heard-keeps}
use Rattle.law_run.proofs.FloorRows.{Sorted, sorted-stored, sorted-kept, sorted-booted}

-- each item is found by its own test
abbrev pub EachFound : {X : Type 0} → (X → X → Bool) → List X → List X → Type 0
EachFound t xs ys = AllByRecursion (λ x. find (t x) ys ≡ Some x) xs

map-some : {X : Type 0} (f : X → X) (o : Option X) (x : X) → o ≡ Some x → option_map f o ≡ Some (f x)
map-some f o x e = ap (λ p. option_map f p) e

cond-map : {X : Type 0} (f : X → X) (b : Bool) (x : X) (r s : Option X) → r ≡ option_map f s → cond b (Some (f x)) r
    ≡ option_map f (cond b (Some x) s)
cond-map f true x r s e = refl
cond-map f false x r s e = e

find-through : {X : Type 0} (t : X → X → Bool) (f : X → X) → ((x y : X) → t (f x) (f y) ≡ t x y)
    → (x : X) (ys : List X) → find (t (f x)) (map f ys) ≡ option_map f (find (t x) ys)
find-through t f same x [] = refl
find-through t f same x (y ∷ ys) =
    rw (same x y) (cond-map f (t x y) y (find (t (f x)) (map f ys)) (find (t x) ys) (find-through t f same x ys))

pub each-map : {X : Type 0} (t : X → X → Bool) (f : X → X) → ((x y : X) → t (f x) (f y) ≡ t x y) → (xs ys : List X)
    → EachFound t xs ys → EachFound t (map f xs) (map f ys)
each-map t f same [] ys a = tt
each-map t f same (x ∷ xs) ys a =
    (find-through t f same x ys ∙ map-some f (find (t x) ys) x a.0, each-map t f same xs ys a.1)

-- and so is a new one, if no item was found by its test
found-cons : {X : Type 0} (b : Bool) (y x : X) (o q : Option X) → (o ≡ Some x → q ≡ Some x) → cond b (Some y) o
    ≡ Some x → cond b (Some y) q ≡ Some x
found-cons true y x o q k e = e
found-cons false y x o q k e = k e

abbrev NoSome : {X : Type 0} → Option X → Type 0
NoSome None = Unit {0}
NoSome (Some x) = ⊥

found-append : {X : Type 0} (test : X → Bool) (x : X) (ys more : List X) → find test ys ≡ Some x
    → find test (ys ++ more) ≡ Some x
found-append test x [] more e = absurd (subst NoSome e tt)
found-append test x (y ∷ ys) more e = found-cons (test y) y x (find test ys) (find test (ys ++ more))
    (found-append test x ys more) e

each-more : {X : Type 0} (t : X → X → Bool) (xs ys more : List X) → EachFound t xs ys → EachFound t xs (ys ++ more)
each-more t [] ys more a = tt
each-more t (x ∷ xs) ys more a = (found-append (t x) x ys more a.0, each-more t xs ys more a.1)

or-false : (a b : Bool) → (a || b) ≡ false → (a ≡ false) × (b ≡ false)
or-false true b e = absurd (false≢true (sym e))
or-false false b e = (refl, e)

found-last : {X : Type 0} (test : X → Bool) (x : X) (ys : List X) → list_any test ys ≡ false → test x ≡ true
    → find test (ys ++ x ∷ []) ≡ Some x
found-last test x [] e h = ap (λ b. cond b (Some x) None) h
found-last test x (y ∷ ys) e h = ap (λ b. cond b (Some y) (find test (ys ++ x ∷ [])))
    (or-false (test y) (list_any test ys) e).0 ∙ found-last test x ys (or-false (test y) (list_any test ys) e).1 h

pub each-new : {X : Type 0} (t : X → X → Bool) (x : X) (ys : List X) → list_any (t x) ys ≡ false → t x x ≡ true
    → EachFound t ys ys → EachFound t (ys ++ x ∷ []) (ys ++ x ∷ [])
each-new t x ys e h a = all-append (λ z. find (t z) (ys ++ x ∷ []) ≡ Some z) ys (x ∷ [])
    (each-more t ys ys (x ∷ []) a) (found-last (t x) x ys e h, tt)

-- the tests
abbrev pub net_test : NetKey → NetKey → Bool
net_test r x = same_key x.key r.key

abbrev pub link_test : LinkKey → LinkKey → Bool
link_test r x = is_link r.partner r.key x

pub record Sound (s : NodeState) : Type 0 where
  pub nets : EachFound net_test s.nets s.nets
  pub links : EachFound link_test s.links s.links
  pub floors : AllByRecursion (λ (r : NetKey). Sorted r.floors) s.nets

-- changes of network rows: the key stays, and floors that ascend still do
record RowMap (f : NetKey → NetKey) : Type 0 where
  key : (r : NetKey) → (f r).key ≡ r.key
  floors : (r : NetKey) → Sorted r.floors → Sorted (f r).floors

all-mapped : (f : NetKey → NetKey) → ((r : NetKey) → Sorted r.floors → Sorted (f r).floors) → (nets : List NetKey)
    → AllByRecursion (λ (r : NetKey). Sorted r.floors) nets → AllByRecursion (λ (r : NetKey). Sorted r.floors)
    (map f nets)
all-mapped f k [] a = tt
all-mapped f k (r ∷ rs) a = (k r a.0, all-mapped f k rs a.1)

record NetsSound (nets : List NetKey) : Type 0 where
  found : EachFound net_test nets nets
  floors : AllByRecursion (λ (r : NetKey). Sorted r.floors) nets

nets-map : (f : NetKey → NetKey) → RowMap f → (nets : List NetKey) → NetsSound nets → NetsSound (map f nets)
nets-map f m nets s = record {
  found = each-map net_test f (λ x y. ap (λ k. same_key k (f x).key) (m.key y) ∙ ap (λ k. same_key y.key k) (m.key x))
      nets nets s.found;
  floors = all-mapped f m.floors nets s.floors;
}

row-cond : (f : NetKey → NetKey) (test : NetKey → Bool) → RowMap f → RowMap (λ r. cond (test r) (f r) r)
row-cond f test m = record { key = λ r. key (test r) r; floors = λ r s. floors (test r) r s }
  where
    key : (b : Bool) (r : NetKey) → (cond b (f r) r).key ≡ r.key
    key true r = m.key r
    key false r = refl

    floors : (b : Bool) (r : NetKey) → Sorted r.floors → Sorted (cond b (f r) r).floors
    floors true r s = m.floors r s
    floors false r s = s

nets-at : (f : NetKey → NetKey) → RowMap f → (key : Bytes) (nets : List NetKey) → NetsSound nets
    → NetsSound (at_net key f nets)
nets-at f m key nets s = nets-map (λ r. cond (same_key r.key key) (f r) r) (row-cond f (λ r. same_key r.key key) m)
    nets s

nets-active : (f : NetKey → NetKey) → RowMap f → (active : Option Bytes) (nets : List NetKey) → NetsSound nets
    → NetsSound (of_active f active nets)
nets-active f m None nets s = s
nets-active f m (Some key) nets s = nets-at f m key nets s

nets-add : (b : Bool) (x : NetKey) (nets : List NetKey) → has_net x.key nets ≡ b → x.floors ≡ [] → NetsSound nets
    → NetsSound (cond b nets (nets ++ x ∷ []))
unfolding Sorted
nets-add true x nets e empty s = s
nets-add false x nets e empty s = record {
  found = each-new net_test x nets e (same_key-refl x.key) s.found;
  floors = all-append (λ (r : NetKey). Sorted r.floors) nets (x ∷ []) s.floors (subst Sorted (sym empty) tt, tt);
}

plain-row : (f : NetKey → NetKey) → ((r : NetKey) → (f r).key ≡ r.key) → ((r : NetKey) → (f r).floors ≡ r.floors)
    → RowMap f
plain-row f k e = record { key = k; floors = λ r s. subst Sorted (sym (e r)) s }

declared-row : (v : ℕ) → RowMap (declared_at v)
declared-row v = row-cond (λ r. record r { limit = max r.limit v; next = max r.next v }) (λ r. r.started)
    (plain-row (λ r. record r { limit = max r.limit v; next = max r.next v }) (λ r. refl) (λ r. refl))

-- changes of link rows: partner and key stay
links-map : (f : LinkKey → LinkKey) (test : LinkKey → Bool) → ((r : LinkKey) → (f r).partner ≡ r.partner)
    → ((r : LinkKey) → (f r).key ≡ r.key) → (links : List LinkKey) → EachFound link_test links links
    → EachFound link_test (map (λ r. cond (test r) (f r) r) links) (map (λ r. cond (test r) (f r) r) links)
links-map f test p k links s = each-map link_test (λ r. cond (test r) (f r) r) same links links s
  where
    partner : (r : LinkKey) → (cond (test r) (f r) r).partner ≡ r.partner
    partner r = by (test r)
      where
        by : (b : Bool) → (cond b (f r) r).partner ≡ r.partner
        by true = p r
        by false = refl

    key : (r : LinkKey) → (cond (test r) (f r) r).key ≡ r.key
    key r = by (test r)
      where
        by : (b : Bool) → (cond b (f r) r).key ≡ r.key
        by true = k r
        by false = refl

    same : (x y : LinkKey) → link_test (cond (test x) (f x) x) (cond (test y) (f y) y) ≡ link_test x y
    same x y =
        ap (λ n. nat_eq (cond (test y) (f y) y).partner n
        && same_key (cond (test y) (f y) y).key (cond (test x) (f x) x).key) (partner x)
        ∙ ap (λ n. nat_eq n x.partner && same_key (cond (test y) (f y) y).key (cond (test x) (f x) x).key) (partner y)
        ∙ ap (λ j. nat_eq y.partner x.partner && same_key j (cond (test x) (f x) x).key) (key y)
        ∙ ap (λ j. nat_eq y.partner x.partner && same_key y.key j) (key x)

links-all : (f : LinkKey → LinkKey) → ((r : LinkKey) → (f r).partner ≡ r.partner)
    → ((r : LinkKey) → (f r).key ≡ r.key) → (links : List LinkKey) → EachFound link_test links links
    → EachFound link_test (map f links) (map f links)
links-all f p k links s =
    each-map link_test f
    (λ x y. ap (λ n. nat_eq (f y).partner n && same_key (f y).key (f x).key) (p x) ∙ ap
    (λ n. nat_eq n x.partner && same_key (f y).key (f x).key) (p y) ∙ ap
    (λ j. nat_eq y.partner x.partner && same_key j (f x).key) (k y) ∙ ap
    (λ j. nat_eq y.partner x.partner && same_key y.key j) (k x)) links links s

link-self : (r : LinkKey) → link_test r r ≡ true
link-self r = ap (λ b. b && same_key r.key r.key) (nat_eq-refl r.partner) ∙ same_key-refl r.key

links-with : (b : Bool) (partner : ℕ) (key : Bytes) (attribute : Attribute) (told : Bool) (links : List LinkKey)
    → has_link partner key links ≡ b → EachFound link_test links links
    → EachFound link_test
    (cond b (at_link partner key (revived attribute told) links)
    (links ++ new_link partner key attribute told ∷ []))
    (cond b (at_link partner key (revived attribute told) links)
    (links ++ new_link partner key attribute told ∷ []))
links-with true partner key attribute told links e s = links-map (revived attribute told) (is_link partner key)
    (λ r. refl) (λ r. refl) links s
links-with false partner key attribute told links e s = each-new link_test (new_link partner key attribute told) links
    e (link-self (new_link partner key attribute told)) s

links-rolled : (b : Bool) (links : List LinkKey) → EachFound link_test links links
    → EachFound link_test (cond b (map (told_as false) links) links) (cond b (map (told_as false) links) links)
links-rolled true links s = links-all (told_as false) (λ r. refl) (λ r. refl) links s
links-rolled false links s = s

of-nets : (s : NodeState) → Sound s → NetsSound s.nets
of-nets s o = record { found = o.nets; floors = o.floors }

with-nets : (s : NodeState) (x : List NetKey) → NetsSound x → Sound s → Sound (record s { nets = x })
with-nets s x n o = record { nets = n.found; links = o.links; floors = n.floors }

with-links : (s : NodeState) (x : List LinkKey) → EachFound link_test x x → Sound s → Sound (record s { links = x })
with-links s x l o = record { nets = o.nets; links = l; floors = o.floors }

sound-moved : (m : Move) (s : NodeState) → Sound s → Sound (moved m s)
sound-moved (Draw k) s o = o
sound-moved (DropNet k) s o = with-nets s (at_net k dropped_net s.nets)
    (nets-at dropped_net (plain-row dropped_net (λ r. refl) (λ r. refl)) k s.nets (of-nets s o)) o
sound-moved (DropLink p k) s o = with-links s (at_link p k dropped_link s.links)
    (links-map dropped_link (is_link p k) (λ r. refl) (λ r. refl) s.links o.links) o
sound-moved (Install k q) s o = with-nets s (cond (has_net k s.nets) s.nets (s.nets ++ new_net k q ∷ []))
    (nets-add (has_net k s.nets) (new_net k q) s.nets refl refl (of-nets s o)) o
sound-moved (Active k) s o = record { nets = o.nets; links = o.links; floors = o.floors }
sound-moved (Row p k t) s o = with-links s (with_link p k t (is_told s p) s.links)
    (links-with (has_link p k s.links) p k t (is_told s p) s.links refl o.links) o
sound-moved (Pair a b k) s o = record { nets = o.nets; links = o.links; floors = o.floors }
sound-moved (Became g) s o = record { nets = o.nets; links = o.links; floors = o.floors }
sound-moved (Live d) s o = with-links s (with_told d false s.links)
    (links-map (told_as false) (is_live_of d) (λ r. refl) (λ r. refl) s.links o.links) o
sound-moved (Removed d) s o = record { nets = o.nets; links = o.links; floors = o.floors }
sound-moved (Roll b) s o = record { nets = o.nets; links = links-rolled b s.links o.links; floors = o.floors }
sound-moved (Told d) s o =
    with-links s (with_told d true s.links)
    (links-map (told_as true) (is_live_of d) (λ r. refl) (λ r. refl) s.links o.links) o
sound-moved (Untold d) s o = with-links s (with_told d false s.links)
    (links-map (told_as false) (is_live_of d) (λ r. refl) (λ r. refl) s.links o.links) o

pub sound-applied : (e : Edit) (s : NodeState) → Sound s → Sound (applied e s)
unfolding applied
sound-applied (Reserve Nwk v) s o = with-nets s (of_active (reserved v) s.active s.nets)
    (nets-active (reserved v) (plain-row (reserved v) (λ r. refl) (λ r. refl)) s.active s.nets (of-nets s o)) o
sound-applied (Reserve Aps v) s o = record { nets = o.nets; links = o.links; floors = o.floors }
sound-applied (Floor Nwk k p v) s o = with-nets s (at_net k (net_floor p v) s.nets)
    (nets-at (net_floor p v) (record { key = λ r. refl; floors = λ r x. sorted-stored p v r.floors x }) k s.nets
    (of-nets s o)) o
sound-applied (Floor Aps k p v) s o = with-links s (at_link p k (link_floor v) s.links)
    (links-map (link_floor v) (is_link p k) (λ r. refl) (λ r. refl) s.links o.links) o
sound-applied (Start k v) s o = with-nets s (at_net k (started_at v) s.nets)
    (nets-at (started_at v) (plain-row (started_at v) (λ r. refl) (λ r. refl)) k s.nets (of-nets s o)) o
sound-applied (Moved m) s o = sound-moved m s o

sound-heard : (layer : Layer) (k : Bytes) (sender counter : ℕ) (s : NodeState) → Sound s
    → Sound (after_hearing layer k sender counter s)
unfolding after_hearing
sound-heard Nwk k sender counter s o = with-nets s (at_net k (net_kept sender (counter + 1)) s.nets)
    (nets-at (net_kept sender (counter + 1))
    (record { key = λ r. refl; floors = λ r x. sorted-kept sender (counter + 1) r.floors x }) k s.nets (of-nets s o)) o
sound-heard Aps k sender counter s o = with-links s (at_link sender k (link_kept (counter + 1)) s.links)
    (links-map (link_kept (counter + 1)) (is_link sender k) (λ r. refl) (λ r. refl) s.links o.links) o

sound-sealed : (layer : Layer) (t : Term) (s : NodeState) → Sound s → Sound (sealed_at layer t s)
sound-sealed Nwk t s o = with-nets s (at_net t.base (next_at (t.counter + 1)) s.nets)
    (nets-at (next_at (t.counter + 1)) (plain-row (next_at (t.counter + 1)) (λ r. refl) (λ r. refl)) t.base s.nets
    (of-nets s o)) o
sound-sealed Aps t s o = record { nets = o.nets; links = o.links; floors = o.floors }

sound-booted : (s : NodeState) → Sound s → Sound (after_boot s)
unfolding after_boot
sound-booted s o = record {
  nets = (nets-map booted_net booted s.nets (of-nets s o)).found;
  links = links-all booted_link (λ r. refl) (λ r. refl) s.links o.links;
  floors = (nets-map booted_net booted s.nets (of-nets s o)).floors;
}
  where
    booted : RowMap booted_net
    booted = record { key = λ r. refl; floors = λ r x. sorted-booted r.floors x }

sound-after : (l : Line) (s : NodeState) → Sound s → Sound (after l s)
unfolding after with_given_net with_given_link with_declared after_sealing after_accepting
sound-after (Declared p) s o = record { nets = o.nets; links = o.links; floors = o.floors }
sound-after (GivenNet n k q) s o = record { nets = (given k q).found; links = o.links; floors = (given k q).floors }
  where
    given : (k : Bytes) (q : ℕ) → NetsSound (cond (has_net k s.nets) s.nets (s.nets ++ given_net s.declared k q ∷ []))
    given k q = nets-add (has_net k s.nets) (given_net s.declared k q) s.nets refl refl (of-nets s o)
sound-after (GivenLink n p k) s o = with-links s (with_link p k Provisional false s.links)
    (links-with (has_link p k s.links) p k Provisional false s.links refl o.links) o
sound-after (Counter n Nwk v) s o =
    record {
      nets = (nets-map (declared_at v) (declared-row v) s.nets (of-nets s o)).found;
      links = o.links;
      floors = (nets-map (declared_at v) (declared-row v) s.nets (of-nets s o)).floors;
    }
sound-after (Counter n Aps v) s o = record { nets = o.nets; links = o.links; floors = o.floors }
sound-after (Changed e n edit) s o = sound-applied edit s o
sound-after (Accept e n t) s o = sound-heard t.layer t.base t.source t.counter s o
sound-after (Seal e n t) s o = sound-sealed t.layer t s o
sound-after (Boot e n) s o = sound-booted s o
sound-after _ s o = o

sound-fold : (n : ℕ) (ls : List Line) (s : NodeState) → Sound s → Sound (fold (heard_line n) s ls)
sound-fold n [] s o = o
sound-fold n (l ∷ ls) s o = sound-fold n ls (heard_line n s l) (heard-keeps Sound n l s (λ e. sound-after l s o) o)

pub sound : (h : List Line) (n : ℕ) → Sound (state_of h n)
unfolding state_of
sound h n = sound-fold n h (new_node Role.Device) (record { nets = tt; links = tt; floors = tt })
