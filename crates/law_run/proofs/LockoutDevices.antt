-- A device is entered, and removed; and the changes of routers and devices keep the invariants of lockout.
use Rattle.std.proofs.Common.{◌≡◌, ℕ, Bool, true, false, cond, not, ◌&&◌, ◌||◌, List, [], ◌∷◌, ◌++◌, map, filter, Option, Some, None, option_to_list, find, flat_map, nat_eq, is_some, refl, sym, ap, ◌∙◌, subst, append_assoc, eqb-true, eq-eqb, ◌⊎◌, inl, inr, ⊎_elim}
use Rattle.std.proofs.lemmas.Bool.{false≢true, and_parts, or_cases}
use Rattle.std.specs.List.{AllByRecursion, list_any}
use Rattle.zb_model.specs.Data.{Bytes, Role, Centre, Router, Device, Provisional, Station, Term, DropLink, Row, Live, Removed, Edit, Moved}
use Rattle.zb_model.specs.Lines.{Line, GivenLink, Changed}
use Rattle.zb_model.specs.State.{LinkKey, NodeState, same_key, is_centre, has_link, is_link, is_live_of, at_link, dropped_link, is_live, other_user, applied, moved}
use Rattle.zb_model.specs.Tools.{Tools}
use Rattle.zb_model.specs.Rules.{centre_of, station_of, drop_link, drop_partner}
use Rattle.zb_model.specs.Answer.{Counting, move_edits, changes}
use Rattle.zb_model.specs.Readings.{state_of, heard_line, after, speaker, station_line, stations_of}
use Rattle.zb_model.specs.Secrets.{holds, carried, terms_of, ever, ever_in, ever_from, is_the_centre, bases, base_in, codes_of, code_in, brings, came_by, joins}
use Rattle.zb_model.specs.Play.{Node, stations}
use Rattle.zb_model.specs.Schedules.{Names}
use Rattle.law_run.specs.Commanding.{OneCentre}
use Rattle.law_run.specs.KeysApart.{IsNoneOf, keys_of_others, given_keys, network_key}
use Rattle.law_run.proofs.Basics.{same_key-eq, same_key-refl, nat_eq-refl, append-nil', state-snoc}
use Rattle.law_run.proofs.FreshLines.{all-map}
use Rattle.law_run.proofs.Judged.{In, all-in, found-element}
use Rattle.law_run.proofs.LockoutDeeds.{HasRow, HasNet, OfMember, IdleMove, any-of}
use Rattle.law_run.proofs.ConfirmsLines.{From, in-map, in-append'}
use Rattle.law_run.proofs.LockoutRows.{OldLink, link-back, any-in, IsAny, RowOf}
use Rattle.law_run.proofs.LockoutKept.{late_line, away, away-snoc, drawn, Known, Unseen, NoLive, dead-step, holds-in}
use Rattle.law_run.proofs.LockoutSteps.{Case, centre, given_to, InNet, InGiven, IsKept, IsLedger, Whole, IsIdle, RowComes, row-step, row-kept, live-kept, removed-step, Comes}
use Rattle.law_run.proofs.LockoutMoves.{Honest, GoesOn, goes-append, goes-line, goes-cons, goes-idle, moves_lines, lines-append, moves-idle, Same, live-not-centre, Entered, none-at, none-in, none-flat, here-in}

-- A code is entered

abbrev MissedBy : {X : Type 0} → (X → Bool) → List X → Option X → Type 0
MissedBy test xs None = AllByRecursion (λ x. test x ≡ false) xs
MissedBy test xs (Some y) = Unit {0}

missed : {X : Type 0} (test : X → Bool) (xs : List X) → MissedBy test xs (find test xs)
missed {X = X} test [] = tt
missed {X = X} test (x ∷ xs) = by-test (test x) refl (missed test xs)
  where
    more : (o : Option X) → test x ≡ false → MissedBy test xs o → MissedBy test (x ∷ xs) o
    more None e m = (e, m)
    more (Some y) e m = tt

    by-test : (b : Bool) → test x ≡ b → MissedBy test xs (find test xs)
        → MissedBy test (x ∷ xs) (cond b (Some x) (find test xs))
    by-test true e m = tt
    by-test false e m = more (find test xs) e m

none-found : {X : Type 0} (test : X → Bool) (xs : List X) → find test xs ≡ None → (x : X) → In x xs → test x ≡ false
none-found test xs e x i = all-in (λ y. test y ≡ false) xs (subst (λ o. MissedBy test xs o) e (missed test xs)) x i

not-other : (a b : Bool) → a ≡ true → (a && not b) ≡ false → b ≡ true
not-other true true e f = refl
not-other true false e f = absurd (false≢true (sym f))
not-other false b e f = absurd (false≢true e)

user-is : (s : NodeState) (p : ℕ) (k : Bytes) → other_user s p k ≡ None → (q : ℕ) → HasRow s q k → q ≡ p
unfolding other_user
user-is s p k e q r = sym r.partner ∙ eqb-true r.row.partner p
    (not-other (same_key r.row.key k) (nat_eq r.row.partner p)
    (subst (λ y. same_key r.row.key y ≡ true) r.key (same_key-refl r.row.key))
    (none-found (λ (y : LinkKey). same_key y.key k && not (nat_eq y.partner p)) s.links e r.row r.among))

none-right : (k : Bytes) (xs ys : List Bytes) → IsNoneOf (xs ++ ys) k → IsNoneOf ys k
none-right k [] ys a = a
none-right k (z ∷ xs) ys a = none-right k xs ys a.1

not-given : (d p : ℕ) (k : Bytes) (m : Node) → (p ≡ d → ⊥) → IsNoneOf (keys_of_others p m) k → In k (given_to d m) → ⊥
unfolding In
not-given d p k m apart none i = by-device (nat_eq m.station.eui d) refl i
  where
    by-partner : (b : Bool) → nat_eq m.station.eui p ≡ b → m.station.eui ≡ d
        → IsNoneOf ((cond b [] (option_to_list m.code)) ++ network_key m.network) k → In k (given_keys m) → ⊥
    by-partner true e q a j = apart (sym (eqb-true m.station.eui p e) ∙ q)
    by-partner false e q a j = none-in k (given_keys m) a j

    by-device : (b : Bool) → nat_eq m.station.eui d ≡ b → In k (cond b (given_keys m) []) → ⊥
    by-device true e j = by-partner (nat_eq m.station.eui p) refl (eqb-true m.station.eui d e) none j
    by-device false e j = j

-- a key that is entered isn't drawn
not-drawn : (x : Case) (g : List Line) (p : ℕ) (k : Bytes) → Entered x p k → Whole x g → In k (drawn g) → ⊥
not-drawn x g p k e v i = none-at k x.schedule.draws (v.ledger.drawn_from k i).0 e.draws (v.ledger.drawn_from k i).2

not-net : (x : Case) (g : List Line) (p : ℕ) (k : Bytes) → Entered x p k → Whole x g
    → HasNet (state_of g (centre x)) k → ⊥
not-net x g p k e v r = ⊎_elim (λ i. not-drawn x g p k e v i)
    (λ i. none-flat (λ (m : Node). network_key m.network) k x.schedule.nodes
    (all-map (λ (m : Node). IsNoneOf (keys_of_others p m) k) (λ (m : Node). In k (network_key m.network) → ⊥)
    (λ m a j. none-in k (network_key m.network)
    (none-right k (cond (nat_eq m.station.eui p) [] (option_to_list m.code)) (network_key m.network) a) j)
    x.schedule.nodes e.others) i)
    (v.ledger.net_known k r)

entered-row : (x : Case) (g : List Line) (n p : ℕ) (k : Bytes) → n ≡ centre x → (x.device ≡ centre x → ⊥)
    → Entered x p k → ((q : ℕ) → HasRow (state_of g (centre x)) q k → q ≡ p) → InNet x k → Whole x g
    → RowComes x g n p k
entered-row x g n p k mine apart e one net v = record {
  at_centre = mine;
  apart = apart;
  fits = record {
    one = one;
    net = not-net x g p k e v;
    pair = λ r. not-drawn x g p k e v (v.ledger.pair_drawn k r);
    centre = e.at_centre;
    well = e.well;
    known = net;
  };
  own = λ d s. ⊎_elim (λ i. not-drawn x g p k e v (v.kept.late_drawn k i)) (λ o. o.not_it (one o.partner o.row ∙ d)) s;
  others = λ d. by-test d (has_link p k (state_of g (centre x)).links) refl;
}
  where
    has : HasRow (state_of g (centre x)) p k → has_link p k (state_of g (centre x)).links ≡ true
    has r = any-of (is_link p k) r.row (state_of g (centre x)).links r.among (both r.row r.partner r.key)
      where
        both : (y : LinkKey) → y.partner ≡ p → y.key ≡ k → is_link p k y ≡ true
        both y a b = subst (λ j. (nat_eq y.partner p && same_key y.key j) ≡ true) b
            (subst (λ m. (nat_eq y.partner m && same_key y.key y.key) ≡ true) a
            (rw (nat_eq-refl y.partner) (same_key-refl y.key)))

    unknown : has_link p k (state_of g (centre x)).links ≡ false → Known (centre x) g k → ⊥
    unknown q (inl i) = not-drawn x g p k e v i
    unknown q (inr (inl r)) =
        false≢true (sym q ∙ has (subst (λ m. HasRow (state_of g (centre x)) m k) (one r.0 r.1) r.1))
    unknown q (inr (inr r)) = not-net x g p k e v r

    given : (p ≡ x.device → ⊥) → InGiven x k → ⊥
    given d i = none-flat (given_to x.device) k x.schedule.nodes
        (all-map (λ (m : Node). IsNoneOf (keys_of_others p m) k) (λ (m : Node). In k (given_to x.device m) → ⊥)
        (λ m a j. not-given x.device p k m d a j) x.schedule.nodes e.others) i

    found : IsAny (is_link p k) (state_of g (centre x)).links → HasRow (state_of g (centre x)) p k
    found a =
        record {
          row = a.0;
          among = a.1;
          partner = eqb-true a.0.partner p
              (and_parts (nat_eq a.0.partner p) (same_key a.0.key k) a.2).0;
          key =
              same_key-eq a.0.key k (and_parts (nat_eq a.0.partner p) (same_key a.0.key k) a.2).1;
        }

    by-test : (p ≡ x.device → ⊥) → (b : Bool) → has_link p k (state_of g (centre x)).links ≡ b
        → HasRow (state_of g (centre x)) p k ⊎ Unseen x.tools x.device g k
    by-test d true q = inl (found (any-in (is_link p k) (state_of g (centre x)).links q))
    by-test d false q =
        inr (
          λ t i c. unknown q (v.kept.terms_known t i k c net),
          λ i. ⊎_elim (λ a. unknown q a) (λ a. given d a)
              (v.kept.ever_known k i net),
        )

-- and the device is admitted
live-gone : (x : Case) (h : List Line) (e n p : ℕ) (b : Bool) → nat_eq p x.device ≡ b
    → (cond b (record { gone = false; keys = [] }) (away x.device h)).gone ≡ true → (b ≡ false)
    × ((away x.device h).gone ≡ true)
live-gone x h e n p true q g = absurd (false≢true g)
live-gone x h e n p false q g = (refl, g)

live-step : (x : Case) (h : List Line) (e n p : ℕ) → Whole x h → Whole x (h ++ Changed e n (Moved (Live p)) ∷ [])
live-step x h e n p w = record {
  kept = (live-kept x h e n p w.kept w.ledger).0;
  ledger = (live-kept x h e n p w.kept w.ledger).1;
  dead = dead-step (centre x) x.device h (Changed e n (Moved (Live p))) w.dead
      (record { came = λ g q k c r. absurd r; went = λ g. inl (live-gone x h e n p (nat_eq p x.device) refl g).1 });
}

live-after : (x : Case) (h : List Line) (e n p : ℕ) → p ≡ x.device → IsKept x h → IsLedger x h
    → Whole x (h ++ Changed e n (Moved (Live p)) ∷ [])
live-after x h e n p d k g = record {
  kept = (live-kept x h e n p k g).0;
  ledger = (live-kept x h e n p k g).1;
  dead = λ q. absurd
      (false≢true
      (sym (gone (nat_eq p x.device) (eq-eqb p x.device d)) ∙ ap (λ a. a.gone)
      (sym (away-snoc x.device h (Changed e n (Moved (Live p))))) ∙ q));
}
  where
    gone : (b : Bool) → nat_eq p x.device ≡ true
        → (late_line x.device (away x.device h) (Changed e n (Moved (Live p)))).gone ≡ false
    gone b e = ap (λ t. (cond t (record { gone = false; keys = [] }) (away x.device h)).gone) e

pub enters-goes : (x : Case) (h : List Line) → (x.device ≡ centre x → ⊥) → (g : List Line) → Same x h g
    → (number n : ℕ) → n ≡ centre x → (kk : Counting) (s0 : NodeState) (p : ℕ) (k : Bytes) → Entered x p k
    → other_user (state_of h (centre x)) p k ≡ None
    → GoesOn x g (moves_lines number n s0 kk (Row p k Provisional ∷ Live p ∷ []))
enters-goes x h apart g s number n mine kk s0 p k e none = by-test (changes s0 (Row p k Provisional))
  where
    l1 : Line
    l1 = Changed number n (Moved (Row p k Provisional))

    l2 : Line
    l2 = Changed number n (Moved (Live p))

    one : (q : ℕ) → HasRow (state_of g (centre x)) q k → q ≡ p
    one q r = user-is (state_of h (centre x)) p k none q (s.rows q k r)

    comes : Honest x g l1 → Whole x g → RowComes x g n p k
    comes o v = entered-row x g n p k mine apart e one (o.net k (here-in k [])) v

    both : (b : Bool) → nat_eq p x.device ≡ b → GoesOn x g (l1 ∷ l2 ∷ [])
    both true q o v = record {
      before = ((v.kept, v.ledger), (row, tt));
      whole = subst (Whole x) (append_assoc g (l1 ∷ []) (l2 ∷ []))
          (live-after x (g ++ l1 ∷ []) number n p (eqb-true p x.device q) row.0 row.1);
      removals = (tt, (tt, tt));
    }
      where
        row : IsKept x (g ++ l1 ∷ []) × IsLedger x (g ++ l1 ∷ [])
        row = row-kept x g number n p k Provisional (comes o.0 v) v
    both false q o v =
        goes-cons x g l1 (l2 ∷ [])
        (λ a u. (
          row-step x g number n p k Provisional (comes a u) (λ d. absurd (false≢true (sym q ∙ eq-eqb p x.device d))) u,
          tt,
        ))
        (goes-line x (g ++ l1 ∷ []) l2 (λ a u. (live-step x (g ++ l1 ∷ []) number n p u, tt))) o v

    by-test : (b : Bool)
        → GoesOn x g
        (map (Changed number n) (flat_map (move_edits kk) (cond b (Row p k Provisional ∷ Live p ∷ []) (Live p ∷ []))))
    by-test true = both (nat_eq p x.device) refl
    by-test false = goes-line x g l2 (λ a u. (live-step x g number n p u, tt))

-- A device is removed: none of its rows is live then

drop-dead : (p : ℕ) (k : Bytes) (links : List LinkKey) (y : LinkKey) → In y (at_link p k dropped_link links) → y.live
    ≡ true → y.partner ≡ p → y.key ≡ k → ⊥
drop-dead p k links y i live a b = back (in-map (λ r. cond (is_link p k r) (dropped_link r) r) links y i)
  where
    slot : (r : LinkKey) → r.partner ≡ p → r.key ≡ k → is_link p k r ≡ true
    slot r a b = subst (λ j. (nat_eq r.partner p && same_key r.key j) ≡ true) b
        (subst (λ m. (nat_eq r.partner m && same_key r.key r.key) ≡ true) a
        (rw (nat_eq-refl r.partner) (same_key-refl r.key)))

    by-test : (r : LinkKey) (t : Bool) → is_link p k r ≡ t → cond t (dropped_link r) r ≡ y → ⊥
    by-test r true e s = false≢true (ap (λ z. z.live) s ∙ live)
    by-test r false e s = false≢true (sym e ∙ slot r (ap (λ z. z.partner) s ∙ a) (ap (λ z. z.key) s ∙ b))

    back : From (λ r. cond (is_link p k r) (dropped_link r) r) links y → ⊥
    back o = by-test o.origin (is_link p k o.origin) refl o.same

old-of : (links : List LinkKey) (y z : LinkKey) → z.partner ≡ y.partner → z.key ≡ y.key
    → (y.live ≡ true → z.live ≡ true) → OldLink links z → OldLink links y
old-of links y z p k l o =
    record { row = o.row; among = o.among; partner = o.partner ∙ p; key = o.key ∙ k; live = λ e. o.live (l e) }

row-of-idle : (l : Line) → IsIdle l → (y : LinkKey) → RowOf l y → ⊥
unfolding IsIdle
row-of-idle (Changed e n (Moved (Row p k t))) i y r = i
row-of-idle (GivenLink n p k) i y r = i
row-of-idle _ i y r = r

idle-old : (x : Case) (g : List Line) (l : Line) → IsIdle l → (y : LinkKey)
    → In y (state_of (g ++ l ∷ []) (centre x)).links → OldLink (state_of g (centre x)).links y
idle-old x g l i y j = ⊎_elim (λ o. o) (λ r. absurd (row-of-idle l i y r.1)) (link-back g l (centre x) y j)

-- over several lines
lines-old : (x : Case) (g ls : List Line) → AllByRecursion IsIdle ls → (y : LinkKey)
    → In y (state_of (g ++ ls) (centre x)).links → OldLink (state_of g (centre x)).links y
lines-old x g [] i y j =
    record {
      row = y;
      among = subst (λ h. In y (state_of h (centre x)).links) (append-nil' g) j;
      partner = refl;
      key = refl;
      live = λ e. e;
    }
lines-old x g (l ∷ ls) i y j =
    through
    (lines-old x (g ++ l ∷ []) ls i.1 y
    (subst (λ h. In y (state_of h (centre x)).links) (sym (append_assoc g (l ∷ []) ls)) j))
  where
    through : OldLink (state_of (g ++ l ∷ []) (centre x)).links y → OldLink (state_of g (centre x)).links y
    through o = old-of (state_of g (centre x)).links y o.row o.partner o.key o.live (idle-old x g l i.0 o.row o.among)

-- the rows that are dropped
abbrev Dropped : List LinkKey → LinkKey → Type 0
Dropped rs y = (r : LinkKey) → In r rs → r.partner ≡ y.partner → r.key ≡ y.key → ⊥

dropped-line : (g : List Line) (e c p : ℕ) (k : Bytes)
    → (state_of (g ++ Changed e c (Moved (DropLink p k)) ∷ []) c).links ≡ at_link p k dropped_link (state_of g c).links
unfolding heard_line speaker after applied
dropped-line g e c p k =
    ap (λ s. s.links)
    (state-snoc g (Changed e c (Moved (DropLink p k))) c ∙ ap
    (λ b. cond b (moved (DropLink p k) (state_of g c)) (state_of g c)) (nat_eq-refl c))

drops-live : (x : Case) (number : ℕ) (s0 : NodeState) (kk : Counting) (rs : List LinkKey) (g : List Line)
    (y : LinkKey) → In y (state_of (g ++ moves_lines number (centre x) s0 kk (map drop_link rs)) (centre x)).links
    → y.live ≡ true
    → OldLink (state_of g (centre x)).links y × Dropped rs y
unfolding In IsIdle
drops-live x number s0 kk [] g y i live = (
  record {
    row = y;
    among = subst (λ h. In y (state_of h (centre x)).links) (append-nil' g) i;
    partner = refl;
    key = refl;
    live = λ e. e;
  },
  λ r j. absurd j,
)
drops-live x number s0 kk (r ∷ rs) g y i live =
    through
    (drops-live x number s0 kk rs (g ++ l ∷ []) y
    (subst (λ h. In y (state_of h (centre x)).links)
    (sym (append_assoc g (l ∷ []) (moves_lines number (centre x) s0 kk (map drop_link rs)))) i) live)
  where
    l : Line
    l = Changed number (centre x) (Moved (DropLink r.partner r.key))

    through : OldLink (state_of (g ++ l ∷ []) (centre x)).links y × Dropped rs y
        → OldLink (state_of g (centre x)).links y × Dropped (r ∷ rs) y
    through o = (
      old-of (state_of g (centre x)).links y o.0.row o.0.partner o.0.key o.0.live
          (idle-old x g l tt o.0.row o.0.among),
      dropped,
    )
      where
        here : r.partner ≡ y.partner → r.key ≡ y.key → ⊥
        here a b = drop-dead r.partner r.key (state_of g (centre x)).links o.0.row
            (subst (λ ls. In o.0.row ls) (dropped-line g number (centre x) r.partner r.key) o.0.among) (o.0.live live)
            (o.0.partner ∙ sym a) (o.0.key ∙ sym b)

        dropped : Dropped (r ∷ rs) y
        dropped z (inl e) a b = here (ap (λ w. w.partner) e ∙ a) (ap (λ w. w.key) e ∙ b)
        dropped z (inr j) a b = o.1 z j a b

in-filtered : {X : Type 0} (test : X → Bool) (x : X) (xs : List X) → In x xs → test x ≡ true → In x (filter test xs)
unfolding In
in-filtered test x [] i e = i
in-filtered test x (y ∷ ys) i e = by-test (test y) refl i (λ j. in-filtered test x ys j e)
  where
    by-test : (b : Bool) → test y ≡ b → (y ≡ x) ⊎ In x ys → (In x ys → In x (filter test ys))
        → In x (cond b (y ∷ filter test ys) (filter test ys))
    by-test true q (inl s) k = inl s
    by-test true q (inr j) k = inr (k j)
    by-test false q (inl s) k = absurd (false≢true (sym q ∙ ap test s ∙ e))
    by-test false q (inr j) k = k j

drops-idle : (rs : List LinkKey) → AllByRecursion IdleMove (map drop_link rs)
drops-idle [] = tt
drops-idle (r ∷ rs) = (tt, drops-idle rs)

pub removes-goes : (x : Case) (h : List Line) → Whole x h → (ms : List Line) → AllByRecursion IsIdle ms
    → (number n : ℕ) → n ≡ centre x → (kk : Counting) (p : ℕ) → is_live (state_of h (centre x)) p ≡ true
    → GoesOn x (h ++ ms) (moves_lines number n (state_of h n) kk (drop_partner (state_of h n) p ++ (Removed p ∷ [])))
unfolding drop_partner
removes-goes x h w ms idle_ number n mine kk p live =
    subst (λ m. GoesOn x (h ++ ms)
    (moves_lines number m (state_of h m) kk
    (map drop_link (filter (is_live_of p) (state_of h m).links) ++ (Removed p ∷ [])))) (sym mine)
    (subst (λ l. GoesOn x (h ++ ms) l) (sym (lines-append number (centre x) s kk (map drop_link rs) (Removed p ∷ [])))
    (goes-append x (h ++ ms) drops (Changed number (centre x) (Moved (Removed p)) ∷ [])
    (goes-idle x (h ++ ms) drops (moves-idle number (centre x) s kk (map drop_link rs) (drops-idle rs)))
    (goes-line x ((h ++ ms) ++ drops) (Changed number (centre x) (Moved (Removed p)))
    (λ o v.
    (removed-step x ((h ++ ms) ++ drops) number (centre x) p (λ d. dead d) v, live-not-centre x h w p live)))))
  where
    s : NodeState
    s = state_of h (centre x)

    rs : List LinkKey
    rs = filter (is_live_of p) s.links

    drops : List Line
    drops = moves_lines number (centre x) s kk (map drop_link rs)

    dead : p ≡ x.device → NoLive (state_of ((h ++ ms) ++ drops) (centre x)) x.device
    dead d y i alive partner = away_ (drops-live x number s kk rs (h ++ ms) y i alive)
      where
        away_ : OldLink (state_of (h ++ ms) (centre x)).links y × Dropped rs y → ⊥
        away_ o = at_start (lines-old x h ms idle_ o.0.row o.0.among)
          where
            at_start : OldLink s.links o.0.row → ⊥
            at_start b =
                o.1 b.row
                (in-filtered (is_live_of p) b.row s.links b.among
                (both b.row.live (nat_eq b.row.partner p) (b.live (o.0.live alive))
                (eq-eqb b.row.partner p (b.partner ∙ o.0.partner ∙ partner ∙ sym d)))) (b.partner ∙ o.0.partner)
                (b.key ∙ o.0.key)
              where
                both : (u v : Bool) → u ≡ true → v ≡ true → (u && v) ≡ true
                both true v e f = f
                both false v e f = absurd (false≢true e)

-- The changes of routers and devices

pub is-the-centre : (ps : List Station) (n : ℕ) (o : Option Station) → find (λ (p : Station). is_centre p.role) ps ≡ o
    → is_the_centre ps n ≡ true → n ≡ centre_of ps
unfolding centre_of
is-the-centre ps n None e t = absurd (false≢true (sym (shape e) ∙ t))
  where
    shape : find (λ (p : Station). is_centre p.role) ps ≡ None → is_the_centre ps n ≡ false
    shape e = rw e refl
is-the-centre ps n (Some p) e t = sym (eqb-true p.eui n (sym (shape e) ∙ t)) ∙ sym (value e)
  where
    shape : find (λ (p : Station). is_centre p.role) ps ≡ Some p → is_the_centre ps n ≡ nat_eq p.eui n
    shape e = rw e refl

    value : find (λ (p : Station). is_centre p.role) ps ≡ Some p
        → Rattle.zb_model.specs.Rules.eui_or 18446744073709551616 (find (λ (p : Station). is_centre p.role) ps) ≡ p.eui
    value e = ap (λ o. Rattle.zb_model.specs.Rules.eui_or 18446744073709551616 o) e

-- a node that isn't the centre joins
joins-by : (h : List Line) (n : ℕ) (p : Station) (d : Role) → station_of (stations_of h) n ≡ Some p → p.role ≡ d
    → (d ≡ Centre → ⊥) → joins h n ≡ true
joins-by h n p Centre e q k = absurd (k refl)
joins-by h n p Router e q k = rw e (rw q refl)
joins-by h n p Device e q k = rw e (rw q refl)

named-role : (ps : List Station) (c n : ℕ) (h : List Line) (o : Option Station) → station_of (stations_of h) n ≡ o
    → is_some o ≡ true → AllByRecursion (λ (p : Station). is_centre p.role ≡ true → p.eui ≡ c) ps → stations_of h ≡ ps
    → (n ≡ c → ⊥) → joins h n ≡ true
unfolding station_of
named-role ps c n h None e q one same other = absurd (false≢true q)
named-role ps c n h (Some p) e q one same other =
    joins-by h n p p.role e refl
    (λ d. other
    (sym (eqb-true p.eui n found.1) ∙ all-in (λ (y : Station). is_centre y.role ≡ true → y.eui ≡ c) ps one p found.0
    (ap is_centre d)))
  where
    found : In p ps × (nat_eq p.eui n ≡ true)
    found = found-element (λ (y : Station). nat_eq y.eui n) ps p
        (subst (λ ss. find (λ (y : Station). nat_eq y.eui n) ss ≡ Some p) same e)

-- keys that a device had are among those that it ever had

base-ever : (known : List Station) (d : ℕ) (l : Line) (k : Bytes) → In k (base_in d l) → In k (ever_in known d l)
base-ever known d (GivenLink m p key) k i = i
base-ever known d (Changed e m (Moved (Row p key t))) k i = by-test (nat_eq m d) i
  where
    by-test : (b : Bool) → In k (cond b (key ∷ []) [])
        → In k (cond (b || (is_the_centre known m && nat_eq p d)) (key ∷ []) [])
    by-test true i = i
    by-test false i = absurd (Rattle.law_run.proofs.Judged.nowhere k i)
base-ever known d _ k i = absurd (Rattle.law_run.proofs.Judged.nowhere k i)

code-ever : (known : List Station) (d : ℕ) (l : Line) (k : Bytes) → In k (code_in d l) → In k (ever_in known d l)
code-ever known d (GivenLink m p key) k i = i
code-ever known d _ k i = absurd (Rattle.law_run.proofs.Judged.nowhere k i)

pub from-ever : (f : ℕ → Line → List Bytes)
    → ((known : List Station) (d : ℕ) (l : Line) (k : Bytes) → In k (f d l) → In k (ever_in known d l))
    → (known : List Station) (d : ℕ) (h : List Line) (k : Bytes) → In k (flat_map (f d) h) → In k (ever_from known d h)
from-ever f step known d [] k i = i
from-ever f step known d (l ∷ ls) k i =
    ⊎_elim (λ a. Rattle.law_run.proofs.LockoutRows.in-left k (ever_in known d l)
    (ever_from (station_line known l) d ls) (step known d l k a))
    (λ a. Rattle.law_run.proofs.LockoutRows.in-right k (ever_in known d l) (ever_from (station_line known l) d ls)
    (from-ever f step (station_line known l) d ls k a)) (in-append' k (f d l) (flat_map (f d) ls) i)

bases-ever : (h : List Line) (d : ℕ) (k : Bytes) → In k (bases h d) → In k (ever h d)
unfolding bases ever
bases-ever h d k i = from-ever base_in base-ever [] d h k i

codes-ever : (h : List Line) (d : ℕ) (k : Bytes) → In k (codes_of h d) → In k (ever h d)
unfolding codes_of ever
codes-ever h d k i = from-ever code_in code-ever [] d h k i

-- a key that comes to a device is not safe, if the run is ideal

any-term : (test : Term → Bool) (ts : List Term) → list_any test ts ≡ true → (t : Term) × In t ts × (test t ≡ true)
unfolding In
any-term test [] e = absurd (false≢true e)
any-term test (t ∷ ts) e = by-test (test t) refl e (any-term test ts)
  where
    by-test : (b : Bool) → test t ≡ b → (b || list_any test ts) ≡ true
        → (list_any test ts ≡ true → (u : Term) × In u ts × (test u ≡ true)) → (u : Term) × In u (t ∷ ts)
        × (test u ≡ true)
    by-test true q e k = (t, inl refl, q)
    by-test false q e k = later (k e)
      where
        later : ((u : Term) × In u ts × (test u ≡ true)) → (u : Term) × In u (t ∷ ts) × (test u ≡ true)
        later o = (o.0, inr o.1, o.2)

brings-key : (tools : Tools) (keys : List Bytes) (k : Bytes) (t : Term) (o : Option Bytes) → carried tools t ≡ o
    → brings tools keys k t ≡ true → (holds keys t.base ≡ true) × (carried tools t ≡ Some k)
brings-key tools keys k t None e b =
    absurd (false≢true (and_parts (holds keys t.base) false (subst (λ x. x ≡ true) (rw e refl) b)).1)
brings-key tools keys k t (Some j) e b = (parts.0, e ∙ ap Some (same_key-eq j k parts.1))
  where
    parts : (holds keys t.base ≡ true) × (same_key j k ≡ true)
    parts = and_parts (holds keys t.base) (same_key j k) (subst (λ x. x ≡ true) (shape e) b)
      where
        shape : carried tools t ≡ Some j → brings tools keys k t ≡ (holds keys t.base && same_key j k)
        shape e = rw e refl

came : (x : Case) (h : List Line) (k : Bytes) → Whole x h → came_by x.tools h x.device k ≡ true → Comes x h k
unfolding came_by
came x h k w e = ⊎_elim (λ a. code (holds-in (codes_of h x.device) k a))
    (λ a. term (any-term (brings x.tools (bases h x.device) k) (terms_of h) a))
    (or_cases (holds (codes_of h x.device) k) (list_any (brings x.tools (bases h x.device) k) (terms_of h)) e)
  where
    code : In k (codes_of h x.device) → Comes x h k
    code i =
        record {
          safe = w.kept.out k (codes-ever h x.device k i);
          known = λ n. w.kept.ever_known k
              (codes-ever h x.device k i) n;
        }

    term : ((t : Term) × In t (terms_of h) × (brings x.tools (bases h x.device) k t ≡ true)) → Comes x h k
    term o = record {
      safe = λ s. w.kept.out o.0.base (bases-ever h x.device o.0.base (holds-in (bases h x.device) o.0.base found.0))
          (inr (w.kept.closed o.0 o.1 k found.1 s));
      known = λ n. inl (w.kept.terms_known o.0 o.1 k found.1 n);
    }
      where
        found : (holds (bases h x.device) o.0.base ≡ true) × (carried x.tools o.0 ≡ Some k)
        found = brings-key x.tools (bases h x.device) k o.0 (carried x.tools o.0) refl o.2

-- what the lemmas on a line of a node that isn't the centre ask of a run
pub record Elsewhere (x : Case) (n : ℕ) : Type 0 where
  pub one : OneCentre x.schedule
  pub named : Names x.schedule n
  pub other : n ≡ centre x → ⊥

pub ideal-comes : (x : Case) (h : List Line) (n : ℕ) (k : Bytes) → Elsewhere x n → stations_of h ≡ stations x.schedule
    → n ≡ x.device → (not (joins h n) || came_by x.tools h n k) ≡ true → Whole x h → Comes x h k
ideal-comes x h n k f same mine e w =
    came x h k w
    (subst (λ m. came_by x.tools h m k ≡ true) mine (subst (λ b. (not b || came_by x.tools h n k) ≡ true) joined e))
  where
    joined : joins h n ≡ true
    joined = named-role (stations x.schedule) (centre x) n h (station_of (stations_of h) n) refl
        (subst (λ ss. is_some (station_of ss n) ≡ true) (sym same) f.named) f.one same f.other

abbrev pub OfMemberEdit : Edit → Type 0
OfMemberEdit (Moved m) = OfMember m
OfMemberEdit _ = Unit {0}
