-- The changes that a group makes keep the invariants of lockout, deed by deed.
use Rattle.std.proofs.Common.{◌≡◌, ℕ, zero, suc, ◌<◌, Bool, true, false, cond, ◌&&◌, ◌||◌, List, [], ◌∷◌, ◌++◌, map, filter, slice_get, Option, Some, None, flat_map, nat_eq, refl, sym, ap, ◌∙◌, subst, append_assoc, eqb-true, lt_irrefl, ◌⊎◌, inl, inr, ⊎_elim}
use Rattle.std.proofs.lemmas.Bool.{false≢true, and_parts}
use Rattle.std.specs.List.{AllByRecursion, list_any}
use Rattle.zb_model.specs.Data.{Bytes, Attribute, Unverified, Term, Move, Draw, DropNet, DropLink, Install, Active, Row, Pair, Became, Live, Removed, Roll, Told, Untold, Edit, Reserve, Floor, Start, Moved, Task}
use Rattle.zb_model.specs.Lines.{Line, Changed}
use Rattle.zb_model.specs.State.{NetKey, LinkKey, NodeState, same_key, has_net, is_link, is_live_of, is_live}
use Rattle.zb_model.specs.Record.{attribute_byte}
use Rattle.zb_model.specs.Rules.{unless_held}
use Rattle.zb_model.specs.Answer.{Counting, start_edit, move_edits, changes}
use Rattle.zb_model.specs.Readings.{state_of, draw_line, draws_used}
use Rattle.zb_model.specs.Secrets.{carried, network_in, forged_in, ideal_line, well_known}
use Rattle.zb_model.specs.Play.{Node, supply}
use Rattle.zb_model.specs.Claims.{Each}
use Rattle.law_run.specs.KeysApart.{IsNoneOf, AllDiffer, IsNewKey, keys_of_others, given_keys, KeysApart}
use Rattle.law_run.proofs.Basics.{same_key-eq, same_key-refl, append-nil', flat_map-append, each-append}
use Rattle.law_run.proofs.FreshLines.{all-append, all-map}
use Rattle.law_run.proofs.Judged.{In}
use Rattle.law_run.proofs.OutsiderRuns.{each-split}
use Rattle.law_run.proofs.LockoutDeeds.{HasRow, HasNet, IsNew, draw_of, EnteredBy, Quiet, IdleMove, any-of}
use Rattle.law_run.proofs.ConfirmsLines.{in-append'}
use Rattle.law_run.proofs.ConfirmsRuns.{Mere, not-any}
use Rattle.law_run.proofs.LockoutRows.{row-forth, any-in, IsAny}
use Rattle.law_run.proofs.LockoutKept.{away, away-snoc, row-back, has-net-back, drawn, drawn-new, drawn-more, Known, used-snoc}
use Rattle.law_run.proofs.LockoutSteps.{Case, centre, given_to, InNet, InGiven, IsKept, IsLedger, Whole, IsIdle, idle, idle-one, Fresh, fresh-bare, draw-bare, draw-step, RowComes, row-step, row-there, present-own, pair-step, net-step}

-- What is known of each line of the run: it is ideal, its new keys are keys of the network, and what it forges carries
-- none.

pub record Honest (x : Case) (h : List Line) (l : Line) : Type 0 where
  pub ideal : ideal_line x.tools h l ≡ true
  pub net : (k : Bytes) → In k (network_in l) → InNet x k
  pub forged : (t : Term) → In t (forged_in l) → (k : Bytes) → carried x.tools t ≡ Some k → InNet x k → ⊥

abbrev pub RemovesOther : Case → Line → Type 0
RemovesOther x (Changed e n (Moved (Removed p))) = p ≡ centre x → ⊥
RemovesOther x _ = Unit {0}

-- The lines keep the invariants: two are true before each of them, and all are true after them.
abbrev pub Standing : Case → List Line → Type 0
Standing x g = IsKept x g × IsLedger x g

pub record Goes (x : Case) (h ls : List Line) : Type 0 where
  pub before : Each (λ g l. Standing x g) h ls
  pub whole : Whole x (h ++ ls)
  pub removals : AllByRecursion (RemovesOther x) ls

abbrev pub GoesOn : Case → List Line → List Line → Type 0
GoesOn x h ls = Each (Honest x) h ls → Whole x h → Goes x h ls

pub goes-none : (x : Case) (h : List Line) → GoesOn x h []
goes-none x h o w = record { before = tt; whole = subst (Whole x) (sym (append-nil' h)) w; removals = tt }

pub goes-append : (x : Case) (h xs ys : List Line) → GoesOn x h xs → GoesOn x (h ++ xs) ys → GoesOn x h (xs ++ ys)
goes-append x h xs ys f g o w = record {
  before = each-append (λ g l. Standing x g) h xs ys first.before second.before;
  whole = subst (Whole x) (append_assoc h xs ys) second.whole;
  removals = all-append (RemovesOther x) xs ys first.removals second.removals;
}
  where
    first : Goes x h xs
    first = f (each-split (Honest x) h xs ys o).0 w

    second : Goes x (h ++ xs) ys
    second = g (each-split (Honest x) h xs ys o).1 first.whole

pub goes-line : (x : Case) (h : List Line) (l : Line)
    → (Honest x h l → Whole x h → Whole x (h ++ l ∷ []) × RemovesOther x l) → GoesOn x h (l ∷ [])
goes-line x h l f o w = record { before = ((w.kept, w.ledger), tt); whole = (f o.0 w).0; removals = ((f o.0 w).1, tt) }

pub goes-cons : (x : Case) (h : List Line) (l : Line) (ls : List Line)
    → (Honest x h l → Whole x h → Whole x (h ++ l ∷ []) × RemovesOther x l) → GoesOn x (h ++ l ∷ []) ls
    → GoesOn x h (l ∷ ls)
goes-cons x h l ls f g = goes-append x h (l ∷ []) ls (goes-line x h l f) g

idle-removes : (x : Case) (l : Line) → IsIdle l → RemovesOther x l
unfolding IsIdle
idle-removes x (Changed e n (Moved (Removed p))) i = absurd i
idle-removes x _ i = tt

pub goes-idle : (x : Case) (h ls : List Line) → AllByRecursion IsIdle ls → GoesOn x h ls
goes-idle x h [] i = goes-none x h
goes-idle x h (l ∷ ls) i = goes-cons x h l ls (λ o w. (idle-one x h l i.0 w, idle-removes x l i.0))
    (goes-idle x (h ++ l ∷ []) ls i.1)

-- Idle lines

pub map-append : {X Y : Type 0} (f : X → Y) (xs ys : List X) → map f (xs ++ ys) ≡ map f xs ++ map f ys
map-append f [] ys = refl
map-append f (z ∷ xs) ys = ap (λ l. f z ∷ l) (map-append f xs ys)

pub mere-idle : (number n : ℕ) (es : List Edit) → AllByRecursion Mere es
    → AllByRecursion IsIdle (map (Changed number n) es)
unfolding IsIdle
mere-idle number n [] a = tt
mere-idle number n (Reserve l v ∷ es) a = (tt, mere-idle number n es a.1)
mere-idle number n (Floor l k p v ∷ es) a = (tt, mere-idle number n es a.1)
mere-idle number n (Start k v ∷ es) a = (tt, mere-idle number n es a.1)
mere-idle number n (Moved m ∷ es) a = absurd a.0

pub start-idle : (number n : ℕ) (key : Bytes) (o : Option ℕ)
    → AllByRecursion IsIdle (map (Changed number n) (start_edit key o))
unfolding IsIdle
start-idle number n key None = tt
start-idle number n key (Some v) = (tt, tt)

pub move-idle : (number n : ℕ) (k : Counting) (m : Move) → IdleMove m
    → AllByRecursion IsIdle (map (Changed number n) (move_edits k m))
unfolding IsIdle
move-idle number n k (Active key) i = (tt, start-idle number n key k.start)
move-idle number n k (DropNet key) i = (tt, tt)
move-idle number n k (DropLink p key) i = (tt, tt)
move-idle number n k (Became g) i = (tt, tt)
move-idle number n k (Roll b) i = (tt, tt)
move-idle number n k (Told d) i = (tt, tt)
move-idle number n k (Untold d) i = (tt, tt)
move-idle number n k (Draw key) i = absurd i
move-idle number n k (Install key q) i = absurd i
move-idle number n k (Row p key t) i = absurd i
move-idle number n k (Pair a b key) i = absurd i
move-idle number n k (Live d) i = absurd i
move-idle number n k (Removed d) i = absurd i

-- the lines of the policy's changes
abbrev pub moves_lines : ℕ → ℕ → NodeState → Counting → List Move → List Line
moves_lines number n s k ms = map (Changed number n) (flat_map (move_edits k) (filter (changes s) ms))

pub lines-append : (number n : ℕ) (s : NodeState) (k : Counting) (xs ys : List Move)
    → moves_lines number n s k (xs ++ ys) ≡ moves_lines number n s k xs ++ moves_lines number n s k ys
lines-append number n s k xs ys =
    ap (λ ms. map (Changed number n) (flat_map (move_edits k) ms)) (filter-appended (changes s) xs ys)
    ∙ ap (map (Changed number n)) (flat_map-append (move_edits k) (filter (changes s) xs) (filter (changes s) ys))
    ∙ map-append (Changed number n) (flat_map (move_edits k) (filter (changes s) xs))
    (flat_map (move_edits k) (filter (changes s) ys))
  where
    filter-appended : {X : Type 0} (test : X → Bool) (xs ys : List X) → filter test (xs ++ ys) ≡ filter test xs
        ++ filter test ys
    filter-appended test [] ys = refl
    filter-appended test (z ∷ xs) ys = by-test (test z) (filter-appended test xs ys)
      where
        by-test : (b : Bool) → filter test (xs ++ ys) ≡ filter test xs ++ filter test ys
            → cond b (z ∷ filter test (xs ++ ys)) (filter test (xs ++ ys))
            ≡ cond b (z ∷ filter test xs) (filter test xs) ++ filter test ys
        by-test true e = ap (λ l. z ∷ l) e
        by-test false e = e

pub moves-idle : (number n : ℕ) (s : NodeState) (k : Counting) (ms : List Move) → AllByRecursion IdleMove ms
    → AllByRecursion IsIdle (moves_lines number n s k ms)
moves-idle number n s k [] a = tt
moves-idle number n s k (m ∷ ms) a = by-test (changes s m) (moves-idle number n s k ms a.1)
  where
    by-test : (b : Bool) → AllByRecursion IsIdle (moves_lines number n s k ms)
        → AllByRecursion IsIdle
        (map (Changed number n) (flat_map (move_edits k) (cond b (m ∷ filter (changes s) ms) (filter (changes s) ms))))
    by-test true more =
        subst (λ l. AllByRecursion IsIdle l)
        (sym (map-append (Changed number n) (move_edits k m) (flat_map (move_edits k) (filter (changes s) ms))))
        (all-append IsIdle (map (Changed number n) (move_edits k m)) (moves_lines number n s k ms)
        (move-idle number n k m a.0) more)
    by-test false more = more

-- What idle lines leave as it was

idle-used : (n : ℕ) (l : Line) → IsIdle l → draw_line n l ≡ n
unfolding IsIdle
idle-used n (Changed e m (Moved (Draw k))) i = absurd i
idle-used n _ i = refl

pub record Same (x : Case) (h g : List Line) : Type 0 where
  pub rows : (p : ℕ) (k : Bytes) → HasRow (state_of g (centre x)) p k → HasRow (state_of h (centre x)) p k
  pub more : (p : ℕ) (k : Bytes) → HasRow (state_of h (centre x)) p k → HasRow (state_of g (centre x)) p k
  pub nets : (k : Bytes) → HasNet (state_of g (centre x)) k → HasNet (state_of h (centre x)) k
  pub away_ : away x.device g ≡ away x.device h
  pub used : draws_used g ≡ draws_used h

pub same-self : (x : Case) (h : List Line) → Same x h h
same-self x h = record { rows = λ p k r. r; more = λ p k r. r; nets = λ k r. r; away_ = refl; used = refl }

pub same-idle : (x : Case) (h g : List Line) (l : Line) → IsIdle l → Same x h g → Same x h (g ++ l ∷ [])
same-idle x h g l i s = record {
  rows = λ p k r. ⊎_elim (λ a. s.rows p k a) (λ a. absurd ((idle x g l i).bare.rows p k a.0 a.1))
      (row-back g l (centre x) p k r);
  more = λ p k r. row-forth g l (centre x) p k (s.more p k r);
  nets = λ k r. ⊎_elim (λ a. s.nets k a) (λ a. absurd ((idle x g l i).bare.nets k a.0 a.1))
      (has-net-back g l (centre x) k r);
  away_ = away-snoc x.device g l ∙ (idle x g l i).away ∙ s.away_;
  used = used-snoc g l ∙ idle-used (draws_used g) l i ∙ s.used;
}

pub same-lines : (x : Case) (h g ls : List Line) → AllByRecursion IsIdle ls → Same x h g → Same x h (g ++ ls)
same-lines x h g [] i s = subst (Same x h) (sym (append-nil' g)) s
same-lines x h g (l ∷ ls) i s = subst (Same x h) (append_assoc g (l ∷ []) ls)
    (same-lines x h (g ++ l ∷ []) ls i.1 (same-idle x h g l i.0 s))

-- a row that was there is added again
same-row : (x : Case) (h g : List Line) (e n p : ℕ) (k : Bytes) (t : Attribute) → HasRow (state_of h (centre x)) p k
    → Same x h g → Same x h (g ++ Changed e n (Moved (Row p k t)) ∷ [])
same-row x h g e n p k t r s = record {
  rows = λ q j a. ⊎_elim (λ b. s.rows q j b)
      (λ b. subst (λ m. HasRow (state_of h (centre x)) m j) b.1.0
      (subst (λ y. HasRow (state_of h (centre x)) p y) b.1.1 r))
      (row-back g (Changed e n (Moved (Row p k t))) (centre x) q j a);
  more = λ q j a. row-forth g (Changed e n (Moved (Row p k t))) (centre x) q j (s.more q j a);
  nets = λ j a. ⊎_elim (λ b. s.nets j b) (λ b. absurd b.1)
      (has-net-back g (Changed e n (Moved (Row p k t))) (centre x) j a);
  away_ = away-snoc x.device g (Changed e n (Moved (Row p k t))) ∙ s.away_;
  used = used-snoc g (Changed e n (Moved (Row p k t))) ∙ s.used;
}

-- A live device is present

live-some : (s : NodeState) (p : ℕ) → is_live s p ≡ true → (r : LinkKey) × In r s.links × (r.live ≡ true)
    × (r.partner ≡ p)
unfolding is_live
live-some s p e = some (any-in (is_live_of p) s.links e)
  where
    some : IsAny (is_live_of p) s.links → (r : LinkKey) × In r s.links × (r.live ≡ true) × (r.partner ≡ p)
    some a = (
      a.0,
      a.1,
      (and_parts a.0.live (nat_eq a.0.partner p) a.2).0,
      eqb-true a.0.partner p (and_parts a.0.live (nat_eq a.0.partner p) a.2).1,
    )

pub present : (x : Case) (h : List Line) → Whole x h → is_live (state_of h (centre x)) x.device ≡ true
    → (away x.device h).gone ≡ false
present x h w e = by-gone (away x.device h).gone refl (live-some (state_of h (centre x)) x.device e)
  where
    by-gone : (b : Bool) → (away x.device h).gone ≡ b
        → ((r : LinkKey) × In r (state_of h (centre x)).links × (r.live ≡ true) × (r.partner ≡ x.device))
        → (away x.device h).gone ≡ false
    by-gone true q r = absurd (w.dead q r.0 r.1 r.2 r.3)
    by-gone false q r = q

pub live-not-centre : (x : Case) (h : List Line) → Whole x h → (p : ℕ) → is_live (state_of h (centre x)) p ≡ true → p
    ≡ centre x → ⊥
live-not-centre x h w p e = not_it (live-some (state_of h (centre x)) p e)
  where
    not_it : ((r : LinkKey) × In r (state_of h (centre x)).links × (r.live ≡ true) × (r.partner ≡ p)) → p ≡ centre x
        → ⊥
    not_it r = w.ledger.centre p r.0.key (record { row = r.0; among = r.1; partner = r.3; key = refl })

-- What the laws on keys ask of the schedule of a run

pub record Entered (x : Case) (p : ℕ) (k : Bytes) : Type 0 where
  pub at_centre : p ≡ centre x → ⊥
  pub well : k ≡ well_known → ⊥
  pub draws : IsNoneOf x.schedule.draws k
  pub others : AllByRecursion (λ (m : Node). IsNoneOf (keys_of_others p m) k) x.schedule.nodes

pub record TaskFits (x : Case) (h : List Line) (task : Task) : Type 0 where
  pub draw : (draw_of task ≡ None) ⊎ (draw_of task ≡ supply x.schedule h)
  pub entered : (p : ℕ) (k : Bytes) → EnteredBy task p k → Entered x p k

-- New keys of the supply

pub some-key : (a b : Bytes) → Some a ≡ Some b → a ≡ b
some-key a b e = subst Is e refl
  where
    Is : Option Bytes → Type 0
    Is None = Unit {0}
    Is (Some y) = a ≡ y

pub no-key : (b : Bytes) → None ≡ Some b → ⊥
no-key b e = subst Is e tt
  where
    Is : Option Bytes → Type 0
    Is None = Unit {0}
    Is (Some y) = ⊥

pub or-none : (a b : Bool) → (a || b) ≡ false → (a ≡ false) × (b ≡ false)
or-none true b e = absurd (false≢true (sym e))
or-none false b e = (refl, e)

abbrev pub HeldBy : NodeState → Bytes → Bool
HeldBy s k = has_net k s.nets || list_any (λ (r : LinkKey). same_key r.key k) s.links

pub new-by : (s : NodeState) (draw : Option Bytes) (k : Bytes) → unless_held s draw ≡ Some k → (draw ≡ Some k)
    × (HeldBy s k ≡ false)
new-by s None k e = absurd (no-key k e)
new-by s (Some j) k e = by-test (HeldBy s j) refl e
  where
    by-test : (b : Bool) → HeldBy s j ≡ b → cond b None (Some j) ≡ Some k → (Some j ≡ Some k) × (HeldBy s k ≡ false)
    by-test true q e = absurd (no-key k e)
    by-test false q e = (e, subst (λ y. HeldBy s y ≡ false) (some-key j k e) q)

pub new-rows : (s : NodeState) (k : Bytes) → HeldBy s k ≡ false → (p : ℕ) → HasRow s p k → ⊥
new-rows s k e p r =
    false≢true
    (sym (or-none (has_net k s.nets) (list_any (λ (y : LinkKey). same_key y.key k) s.links) e).1 ∙ any-of
    (λ (y : LinkKey). same_key y.key k) r.row s.links r.among
    (subst (λ y. same_key r.row.key y ≡ true) r.key (same_key-refl r.row.key)))

new-nets : (s : NodeState) (k : Bytes) → HeldBy s k ≡ false → HasNet s k → ⊥
new-nets s k e r =
    false≢true
    (sym (or-none (has_net k s.nets) (list_any (λ (y : LinkKey). same_key y.key k) s.links) e).0 ∙ any-of
    (λ (y : NetKey). same_key y.key k) r.row s.nets r.among
    (subst (λ y. same_key r.row.key y ≡ true) r.key (same_key-refl r.row.key)))

pub none-at : (k : Bytes) (keys : List Bytes) (i : ℕ) → IsNoneOf keys k → slice_get keys i ≡ Some k → ⊥
none-at k [] i a e = no-key k e
none-at k (j ∷ keys) zero a e = a.0 (some-key j k e)
none-at k (j ∷ keys) (suc i) a e = none-at k keys i a.1 e

pub places-one : (keys : List Bytes) (i j : ℕ) (k : Bytes) → AllDiffer keys → slice_get keys i ≡ Some k
    → slice_get keys j ≡ Some k → i ≡ j
places-one [] i j k d a b = absurd (no-key k a)
places-one (y ∷ keys) zero zero k d a b = refl
places-one (y ∷ keys) zero (suc j) k d a b = absurd (none-at k keys j (subst (IsNoneOf keys) (some-key y k a) d.0) b)
places-one (y ∷ keys) (suc i) zero k d a b = absurd (none-at k keys i (subst (IsNoneOf keys) (some-key y k b) d.0) a)
places-one (y ∷ keys) (suc i) (suc j) k d a b = ap suc (places-one keys i j k d.1 a b)

pub all-at : (P : Bytes → Type 0) (keys : List Bytes) (i : ℕ) (k : Bytes) → AllByRecursion P keys → slice_get keys i
    ≡ Some k → P k
all-at P [] i k a e = absurd (no-key k e)
all-at P (j ∷ keys) zero k a e = subst P (some-key j k e) a.0
all-at P (j ∷ keys) (suc i) k a e = all-at P keys i k a.1 e

pub none-in : (k : Bytes) (keys : List Bytes) → IsNoneOf keys k → In k keys → ⊥
unfolding In
none-in k [] a i = i
none-in k (j ∷ keys) a (inl e) = a.0 e
none-in k (j ∷ keys) a (inr i) = none-in k keys a.1 i

pub none-flat : (f : Node → List Bytes) (k : Bytes) (ms : List Node)
    → AllByRecursion (λ (m : Node). In k (f m) → ⊥) ms → In k (flat_map f ms) → ⊥
unfolding In
none-flat f k [] a i = i
none-flat f k (m ∷ ms) a i = ⊎_elim (λ j. a.0 j) (λ j. none-flat f k ms a.1 j) (in-append' k (f m) (flat_map f ms) i)

pub in-cond : (b : Bool) (k : Bytes) (ks : List Bytes) → In k (cond b ks []) → In k ks
unfolding In
in-cond true k ks i = i
in-cond false k ks i = absurd i

-- a fresh key is fresh
pub fresh-new : (x : Case) → KeysApart x.schedule → (h : List Line) (k : Bytes) → Whole x h
    → ((p : ℕ) → HasRow (state_of h (centre x)) p k → ⊥) → (HasNet (state_of h (centre x)) k → ⊥)
    → slice_get x.schedule.draws (draws_used h) ≡ Some k → InNet x k → Fresh x h k
fresh-new x apart h k w rows nets at net = record {
  rows = rows;
  nets = nets;
  pairs = λ r. not_drawn (w.ledger.pair_drawn k r);
  unseen = (
    λ t i e. unknown (w.kept.terms_known t i k e net),
    λ i. ⊎_elim (λ a. unknown a) (λ a. given a)
        (w.kept.ever_known k i net),
  );
}
  where
    not_drawn : In k (drawn h) → ⊥
    not_drawn i =
        lt_irrefl (draws_used h)
        (subst (λ m. m < draws_used h)
        (places-one x.schedule.draws (w.ledger.drawn_from k i).0 (draws_used h) k apart.draws_differ
        (w.ledger.drawn_from k i).2 at) (w.ledger.drawn_from k i).1)

    unknown : Known (centre x) h k → ⊥
    unknown (inl i) = not_drawn i
    unknown (inr (inl r)) = rows r.0 r.1
    unknown (inr (inr r)) = nets r

    given : InGiven x k → ⊥
    given i = none-flat (given_to x.device) k x.schedule.nodes
        (all-map (λ (m : Node). IsNoneOf (given_keys m) k) (λ (m : Node). In k (given_to x.device m) → ⊥)
        (λ m a j. none-in k (given_keys m) a (in-cond (nat_eq m.station.eui x.device) k (given_keys m) j))
        x.schedule.nodes
        (all-at (IsNewKey x.schedule) x.schedule.draws (draws_used h) k apart.draws_new at).1) i

pub new-well : (x : Case) → KeysApart x.schedule → (i : ℕ) (k : Bytes) → slice_get x.schedule.draws i ≡ Some k → k
    ≡ well_known → ⊥
new-well x apart i k at = (all-at (IsNewKey x.schedule) x.schedule.draws i k apart.draws_new at).0

-- the key of a task is the next of the supply
task-key : (x : Case) (h : List Line) (task : Task) → TaskFits x h task → (s : NodeState) (k : Bytes)
    → IsNew s (draw_of task) k → slice_get x.schedule.draws (draws_used h) ≡ Some k
unfolding supply
task-key x h task f s k new = ⊎_elim (λ e. absurd (no-key k (sym e ∙ (new-by s (draw_of task) k new).0)))
    (λ e. sym e ∙ (new-by s (draw_of task) k new).0) f.draw

-- Each deed

pub quiet-goes : (x : Case) (h : List Line) → Whole x h → (x.device ≡ centre x → ⊥) → (g : List Line) → Same x h g
    → (number n : ℕ) → n ≡ centre x → (k : Counting) (ms : List Move) → AllByRecursion (Quiet (state_of h (centre x)))
    ms → GoesOn x g (moves_lines number n (state_of h n) k ms)
quiet-goes x h w apart g s number n mine k [] a = goes-none x g
quiet-goes x h w apart g s number n mine k (m ∷ ms) a =
    by-test (λ y same. quiet-goes x h w apart y same number n mine k ms a.1) (changes (state_of h n) m)
  where
    Rest : Type 0
    Rest = (y : List Line) → Same x h y → GoesOn x y (moves_lines number n (state_of h n) k ms)

    idle-first : Rest → AllByRecursion IsIdle (map (Changed number n) (move_edits k m))
        → GoesOn x g (map (Changed number n) (move_edits k m) ++ moves_lines number n (state_of h n) k ms)
    idle-first more i = goes-append x g (map (Changed number n) (move_edits k m))
        (moves_lines number n (state_of h n) k ms) (goes-idle x g (map (Changed number n) (move_edits k m)) i)
        (more (g ++ map (Changed number n) (move_edits k m))
        (same-lines x h g (map (Changed number n) (move_edits k m)) i s))

    row-first : Rest → (p : ℕ) (key : Bytes) (t : Attribute) → HasRow (state_of h (centre x)) p key
        → is_live (state_of h (centre x)) p ≡ true
        → GoesOn x g (Changed number n (Moved (Row p key t)) ∷ moves_lines number n (state_of h n) k ms)
    row-first more p key t r l = goes-cons x g (Changed number n (Moved (Row p key t)))
        (moves_lines number n (state_of h n) k ms)
        (λ o v. (row-step x g number n p key t (comes v) (λ d. here d) v, tt))
        (more (g ++ Changed number n (Moved (Row p key t)) ∷ []) (same-row x h g number n p key t r s))
      where
        here : p ≡ x.device → (away x.device g).gone ≡ false
        here d = ap (λ y. y.gone) s.away_ ∙ present x h w (subst (λ q. is_live (state_of h (centre x)) q ≡ true) d l)

        comes : Whole x g → RowComes x g n p key
        comes v = record {
          at_centre = mine;
          apart = apart;
          fits = row-there x g p key v (s.more p key r);
          own = λ d. present-own x g key v (here d) (λ q y. v.ledger.one q p key y (s.more p key r) ∙ d);
          others = λ d. inl (s.more p key r);
        }

    first : (m : Move) → Quiet (state_of h (centre x)) m
        → (IdleMove m
        ⊎ ((p : ℕ) × (key : Bytes) × (t : Attribute) × (m ≡ Row p key t) × HasRow (state_of h (centre x)) p key
        × (is_live (state_of h (centre x)) p ≡ true)))
    first (Row p key t) q = inr (p, key, t, refl, q.0, q.1)
    first (Draw key) q = absurd q
    first (Install key i) q = absurd q
    first (Pair u v key) q = absurd q
    first (Live d) q = absurd q
    first (Removed d) q = absurd q
    first (DropNet key) q = inl tt
    first (DropLink p key) q = inl tt
    first (Active key) q = inl tt
    first (Became g') q = inl tt
    first (Roll b) q = inl tt
    first (Told d) q = inl tt
    first (Untold d) q = inl tt

    by-test : Rest → (b : Bool)
        → GoesOn x g
        (map (Changed number n)
        (flat_map (move_edits k)
        (cond b (m ∷ filter (changes (state_of h n)) ms) (filter (changes (state_of h n)) ms))))
    by-test more true =
        subst (λ l. GoesOn x g l)
        (sym (map-append (Changed number n) (move_edits k m)
        (flat_map (move_edits k) (filter (changes (state_of h n)) ms))))
        (⊎_elim (λ i. idle-first more (move-idle number n k m i))
        (λ r. subst
        (λ y. GoesOn x g (map (Changed number n) (move_edits k y) ++ moves_lines number n (state_of h n) k ms))
        (sym r.3) (row-first more r.0 r.1 r.2 r.4 r.5)) (first m a.0))
    by-test more false = more g s

-- the key that a deed draws, after lines that leave all as it was
drawn-fresh : (x : Case) → KeysApart x.schedule → (h g : List Line) → Same x h g → (task : Task) → TaskFits x h task
    → (k : Bytes) → IsNew (state_of h (centre x)) (draw_of task) k → InNet x k → Whole x g → Fresh x g k
drawn-fresh x apart h g s task f k new net v =
    fresh-new x apart g k v (λ p r. new-rows (state_of h (centre x)) k held p (s.rows p k r))
    (λ r. new-nets (state_of h (centre x)) k held (s.nets k r))
    (subst (λ m. slice_get x.schedule.draws m ≡ Some k) (sym s.used)
    (task-key x h task f (state_of h (centre x)) k new)) net
  where
    held : HeldBy (state_of h (centre x)) k ≡ false
    held = (new-by (state_of h (centre x)) (draw_of task) k new).1

pub here-in : {X : Type 0} (y : X) (ys : List X) → In y (y ∷ ys)
unfolding In
here-in y ys = inl refl

draw-first : (x : Case) → KeysApart x.schedule → (h g : List Line) → Same x h g → (task : Task) → TaskFits x h task
    → (k : Bytes) → IsNew (state_of h (centre x)) (draw_of task) k → (number n : ℕ) (ls : List Line)
    → ((Whole x (g ++ Changed number n (Moved (Draw k)) ∷ []) → Fresh x (g ++ Changed number n (Moved (Draw k)) ∷ [])
    k → InNet x k → In k (drawn (g ++ Changed number n (Moved (Draw k)) ∷ []))
    → GoesOn x (g ++ Changed number n (Moved (Draw k)) ∷ []) ls))
    → GoesOn x g (Changed number n (Moved (Draw k)) ∷ ls)
draw-first x apart h g s task f k new number n ls more o v = record {
  before = ((v.kept, v.ledger), rest.before);
  whole = subst (Whole x) (append_assoc g (l ∷ []) ls) rest.whole;
  removals = (tt, rest.removals);
}
  where
    l : Line
    l = Changed number n (Moved (Draw k))

    net : InNet x k
    net = o.0.net k (here-in k [])

    fresh : Fresh x g k
    fresh = drawn-fresh x apart h g s task f k new net v

    after_ : Whole x (g ++ l ∷ [])
    after_ =
        draw-step x g number n k fresh net
        (subst (λ m. slice_get x.schedule.draws m ≡ Some k) (sym s.used)
        (task-key x h task f (state_of h (centre x)) k new)) v

    rest : Goes x (g ++ l ∷ []) ls
    rest = more after_ (fresh-bare x g l k (draw-bare x g number n k) fresh) net (drawn-new g l k (here-in k [])) o.1
        after_

-- a device stays present while a key is drawn
draw-present : (x : Case) (g : List Line) (number n : ℕ) (k : Bytes) → (away x.device g).gone ≡ false
    → (away x.device (g ++ Changed number n (Moved (Draw k)) ∷ [])).gone ≡ false
draw-present x g number n k e = ap (λ a. a.gone) (away-snoc x.device g (Changed number n (Moved (Draw k)))) ∙ by-gone
    (away x.device g).gone refl e
  where
    by-gone : (b : Bool) → (away x.device g).gone ≡ b → (away x.device g).gone ≡ false
        → (cond b (record { gone = true; keys = k ∷ (away x.device g).keys }) (away x.device g)).gone ≡ false
    by-gone true q e = absurd (false≢true (sym e ∙ q))
    by-gone false q e = e

pub row-is-new : (s : NodeState) (p : ℕ) (k : Bytes) (t : Attribute) → ((q : ℕ) → HasRow s q k → ⊥)
    → changes s (Row p k t) ≡ true
row-is-new s p k t none =
    rw (not-any (λ (r : LinkKey). is_link p k r && (r.live && nat_eq (attribute_byte r.attribute) (attribute_byte t)))
    s.links
    (λ r i e. none r.partner
    (record {
      row = r;
      among = i;
      partner = refl;
      key = same_key-eq r.key k
          (and_parts (nat_eq r.partner p) (same_key r.key k)
          (and_parts (is_link p k r) (r.live && nat_eq (attribute_byte r.attribute) (attribute_byte t)) e).0).1;
    }))) refl

pub offers-goes : (x : Case) → KeysApart x.schedule → (h : List Line) → Whole x h → (x.device ≡ centre x → ⊥)
    → (g : List Line) → Same x h g → (number n : ℕ) → n ≡ centre x → (kk : Counting) (task : Task) → TaskFits x h task
    → (p : ℕ) (k : Bytes) → IsNew (state_of h (centre x)) (draw_of task) k → is_live (state_of h (centre x)) p ≡ true
    → GoesOn x g (moves_lines number n (state_of h n) kk (Draw k ∷ Row p k Unverified ∷ []))
offers-goes x keys h w apart g s number n mine kk task f p k new live =
    subst (λ b. GoesOn x g
    (map (Changed number n) (flat_map (move_edits kk) (Draw k ∷ cond b (Row p k Unverified ∷ []) []))))
    (sym changed)
    (draw-first x keys h g s task f k new number n (Changed number n (Moved (Row p k Unverified)) ∷ [])
    (λ v fresh net d. goes-line x (g ++ Changed number n (Moved (Draw k)) ∷ [])
    (Changed number n (Moved (Row p k Unverified)))
    (λ o u. (
      row-step x (g ++ Changed number n (Moved (Draw k)) ∷ []) number n p k Unverified (comes fresh net u)
          (λ q. here q) u,
      tt,
    ))))
  where
    held : HeldBy (state_of h (centre x)) k ≡ false
    held = (new-by (state_of h (centre x)) (draw_of task) k new).1

    changed : changes (state_of h n) (Row p k Unverified) ≡ true
    changed = subst (λ m. changes (state_of h m) (Row p k Unverified) ≡ true) (sym mine)
        (row-is-new (state_of h (centre x)) p k Unverified (new-rows (state_of h (centre x)) k held))

    here : p ≡ x.device → (away x.device (g ++ Changed number n (Moved (Draw k)) ∷ [])).gone ≡ false
    here d =
        draw-present x g number n k
        (ap (λ y. y.gone) s.away_ ∙ present x h w (subst (λ q. is_live (state_of h (centre x)) q ≡ true) d live))

    comes : Fresh x (g ++ Changed number n (Moved (Draw k)) ∷ []) k → InNet x k
        → Whole x (g ++ Changed number n (Moved (Draw k)) ∷ [])
        → RowComes x (g ++ Changed number n (Moved (Draw k)) ∷ []) n p k
    comes fresh net u = record {
      at_centre = mine;
      apart = apart;
      fits = record {
        one = λ q r. absurd (fresh.rows q r);
        net = fresh.nets;
        pair = fresh.pairs;
        centre = live-not-centre x h w p live;
        well = new-well x keys (draws_used h) k (task-key x h task f (state_of h (centre x)) k new);
        known = net;
      };
      own = λ d. present-own x (g ++ Changed number n (Moved (Draw k)) ∷ []) k u (here d)
          (λ q r. absurd (fresh.rows q r));
      others = λ d. inr fresh.unseen;
    }

pub pairs-goes : (x : Case) → KeysApart x.schedule → (h : List Line) → Whole x h → (g : List Line) → Same x h g
    → (number n : ℕ) (kk : Counting) (s0 : NodeState) (task : Task) → TaskFits x h task
    → (a b : ℕ) (k : Bytes) → IsNew (state_of h (centre x)) (draw_of task) k → is_live (state_of h (centre x)) a
    ≡ true → is_live (state_of h (centre x)) b ≡ true
    → GoesOn x g (moves_lines number n s0 kk (Draw k ∷ Pair a b k ∷ []))
pairs-goes x keys h w g s number n kk s0 task f a b k new live_a live_b =
    draw-first x keys h g s task f k new number n (Changed number n (Moved (Pair a b k)) ∷ [])
    (λ v fresh net d. goes-line x (g ++ Changed number n (Moved (Draw k)) ∷ []) (Changed number n (Moved (Pair a b k)))
    (λ o u. (pair-step x (g ++ Changed number n (Moved (Draw k)) ∷ []) number n a b k fresh d here u, tt)))
  where
    here : a ≡ x.device ⊎ b ≡ x.device → (away x.device (g ++ Changed number n (Moved (Draw k)) ∷ [])).gone ≡ false
    here q =
        draw-present x g number n k
        (ap (λ y. y.gone) s.away_ ∙ present x h w
        (⊎_elim (λ e. subst (λ m. is_live (state_of h (centre x)) m ≡ true) e live_a)
        (λ e. subst (λ m. is_live (state_of h (centre x)) m ≡ true) e live_b) q))

pub fresh-idle : (x : Case) (g ls : List Line) (k : Bytes) → AllByRecursion IsIdle ls → Fresh x g k
    → Fresh x (g ++ ls) k
fresh-idle x g [] k i f = subst (λ y. Fresh x y k) (sym (append-nil' g)) f
fresh-idle x g (l ∷ ls) k i f = subst (λ y. Fresh x y k) (append_assoc g (l ∷ []) ls)
    (fresh-idle x (g ++ l ∷ []) ls k i.1 (fresh-bare x g l k (idle x g l i.0).bare f))

pub drawn-lines : (g ls : List Line) (k : Bytes) → In k (drawn g) → In k (drawn (g ++ ls))
drawn-lines g [] k i = subst (λ y. In k (drawn y)) (sym (append-nil' g)) i
drawn-lines g (l ∷ ls) k i = subst (λ y. In k (drawn y)) (append_assoc g (l ∷ []) ls)
    (drawn-lines (g ++ l ∷ []) ls k (drawn-more g l k i))

pub rolls-goes : (x : Case) → KeysApart x.schedule → (h : List Line) → (x.device ≡ centre x → ⊥) → (g : List Line)
    → Same x h g → (number n : ℕ) → n ≡ centre x → (kk : Counting) (s0 : NodeState) (task : Task) → TaskFits x h task
    → (k : Bytes) (q : ℕ) (drops : List Move) → IsNew (state_of h (centre x)) (draw_of task) k
    → AllByRecursion IdleMove drops
    → GoesOn x g (moves_lines number n s0 kk (Draw k ∷ drops ++ (Install k q ∷ Roll true ∷ [])))
unfolding IsIdle
rolls-goes x keys h apart g s number n mine kk s0 task f k q drops new i =
    draw-first x keys h g s task f k new number n
    (moves_lines number n s0 kk (drops ++ (Install k q ∷ Roll true ∷ [])))
    (λ v fresh net d. subst (λ l. GoesOn x g1 l)
    (sym (lines-append number n s0 kk drops (Install k q ∷ Roll true ∷ [])))
    (goes-append x g1 (moves_lines number n s0 kk drops)
    (Changed number n (Moved (Install k q)) ∷ Changed number n (Moved (Roll true)) ∷ [])
    (goes-idle x g1 (moves_lines number n s0 kk drops) (moves-idle number n s0 kk drops i))
    (goes-cons x g2 (Changed number n (Moved (Install k q))) (Changed number n (Moved (Roll true)) ∷ [])
    (λ o u. (
      net-step x g2 number n k q mine apart
          (fresh-idle x g1 (moves_lines number n s0 kk drops) k (moves-idle number n s0 kk drops i) fresh)
          (drawn-lines g1 (moves_lines number n s0 kk drops) k d) u,
      tt,
    ))
    (goes-idle x (g2 ++ Changed number n (Moved (Install k q)) ∷ []) (Changed number n (Moved (Roll true)) ∷ [])
    (tt, tt)))))
  where
    g1 : List Line
    g1 = g ++ Changed number n (Moved (Draw k)) ∷ []

    g2 : List Line
    g2 = g1 ++ moves_lines number n s0 kk drops
