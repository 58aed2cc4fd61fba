-- Only seals use counters. A boot, a first counter and a limit at the start set those of their own node and row.
use Rattle.std.proofs.Common.{◌≡◌, ℕ, ◌+◌, Bool, true, false, cond, ◌&&◌, List, [], ◌∷◌, ◌++◌, map, length, Option, Some, None, option_map, find, nat_eq, refl, sym, ap, ◌∙◌, subst, arith, min, max}
use Rattle.std.proofs.lemmas.Bool.{false≢true}
use Rattle.zb_model.specs.Data.{Bytes, Layer, Nwk, Aps, Term, Move, Draw, DropNet, DropLink, Install, Active, Row, Pair, Became, Live, Removed, Roll, Told, Untold, Edit, Reserve, Floor, Start, Moved}
use Rattle.zb_model.specs.Lines.{Line, Declared, GivenNet, GivenLink, Counter, Changed, Commit, Accept, Refuse, Seal, Forge, Send, Inject, Stopped, DownReset, DownDisk, Boot, Dump, End}
use Rattle.zb_model.specs.State.{greatest_counter, NetKey, NodeState, same_key, has_net, at_net, of_active, net_of, new_net, given_net, reserved, dropped_net, net_floor, net_kept, next_at, started_at, booted_net, declared_at, applied, moved, after_sealing, sealed_at, after_hearing, after_accepting, after_boot, with_given_net, with_given_link, with_declared, same_layer}
use Rattle.zb_model.specs.Readings.{state_of, heard_line, after, speaker}
use Rattle.zb_model.specs.Claims.{Each}
use Rattle.zb_model.specs.Play.{Schedule}
use Rattle.zb_model.specs.Schedules.{IsSchedule}
use Rattle.zb_model.specs.Tools.{Tools}
use Rattle.zb_model.specs.Transcript.{transcript}
use Rattle.law_run.specs.Counting.{NextIs, TakesNext}
use Rattle.law_run.specs.Spent.{taken_aps, taken_nwk, aps_behind, nwk_behind, TakesAll}
use Rattle.law_run.proofs.Basics.{find-map, same_key-eq, same_key-refl, state-snoc}
use Rattle.law_run.proofs.Counters.{found-key}
use Rattle.law_run.proofs.CountedRuns.{takes-next}

abbrev row_of : Bytes → List NetKey → Option NetKey
row_of key nets = find (λ (r : NetKey). same_key r.key key) nets

abbrev next_in : Bytes → List NetKey → Option ℕ
next_in key nets = option_map (λ (r : NetKey). r.next) (row_of key nets)

-- each row stays, with its next counter
abbrev NextsStay : List NetKey → List NetKey → Type 0
NextsStay nets more = (key : Bytes) (r : NetKey) → row_of key nets ≡ Some r → next_in key more ≡ Some r.next

same-nets : (nets : List NetKey) → NextsStay nets nets
same-nets nets key r e = ap (λ o. option_map (λ (x : NetKey). x.next) o) e

map-nets : (f : NetKey → NetKey) → ((r : NetKey) → (f r).key ≡ r.key) → ((r : NetKey) → (f r).next ≡ r.next)
    → (nets : List NetKey) → NextsStay nets (map f nets)
map-nets f k n nets key r e =
    ap (λ o. option_map (λ (x : NetKey). x.next) o)
    (find-map (λ (x : NetKey). same_key x.key key) f (λ x. ap (λ y. same_key y key) (k x)) nets ∙ ap
    (λ o. option_map f o) e) ∙ ap Some (n r)

at-nets : (base : Bytes) (f : NetKey → NetKey) → ((r : NetKey) → (f r).key ≡ r.key)
    → ((r : NetKey) → (f r).next ≡ r.next) → (nets : List NetKey) → NextsStay nets (at_net base f nets)
at-nets base f k n nets = map-nets (λ r. cond (same_key r.key base) (f r) r) (λ r. by-key (same_key r.key base) r)
    (λ r. by-next (same_key r.key base) r) nets
  where
    by-key : (b : Bool) (r : NetKey) → (cond b (f r) r).key ≡ r.key
    by-key true r = k r
    by-key false r = refl

    by-next : (b : Bool) (r : NetKey) → (cond b (f r) r).next ≡ r.next
    by-next true r = n r
    by-next false r = refl

active-nets : (v : ℕ) (o : Option Bytes) (nets : List NetKey) → NextsStay nets (of_active (reserved v) o nets)
active-nets v None nets = same-nets nets
active-nets v (Some key) nets = at-nets key (reserved v) (λ r. refl) (λ r. refl) nets

abbrev NoneOf : Option NetKey → Type 0
NoneOf None = Unit {0}
NoneOf (Some r) = ⊥

found-more : (test : NetKey → Bool) (nets more : List NetKey) (r : NetKey) → find test nets ≡ Some r
    → find test (nets ++ more) ≡ Some r
found-more test [] more r e = absurd (subst NoneOf e tt)
found-more test (x ∷ nets) more r e = by-test (test x) e (found-more test nets more r)
  where
    by-test : (b : Bool) → cond b (Some x) (find test nets) ≡ Some r
        → (find test nets ≡ Some r → find test (nets ++ more) ≡ Some r) → cond b (Some x) (find test (nets ++ more))
        ≡ Some r
    by-test true e k = e
    by-test false e k = k e

add-nets : (b : Bool) (x : NetKey) (nets : List NetKey) → NextsStay nets (cond b nets (nets ++ x ∷ []))
add-nets true x nets key r e = same-nets nets key r e
add-nets false x nets key r e = ap (λ o. option_map (λ (y : NetKey). y.next) o)
    (found-more (λ (y : NetKey). same_key y.key key) nets (x ∷ []) r e)

record Stays (s t : NodeState) : Type 0 where
  aps : t.aps_next ≡ s.aps_next
  nets : NextsStay s.nets t.nets

moved-stays : (m : Move) (s : NodeState) → Stays s (moved m s)
moved-stays (Draw k) s = record { aps = refl; nets = same-nets s.nets }
moved-stays (DropNet k) s = record { aps = refl; nets = at-nets k dropped_net (λ r. refl) (λ r. refl) s.nets }
moved-stays (DropLink p k) s = record { aps = refl; nets = same-nets s.nets }
moved-stays (Install k q) s = record { aps = refl; nets = add-nets (has_net k s.nets) (new_net k q) s.nets }
moved-stays (Active k) s = record { aps = refl; nets = same-nets s.nets }
moved-stays (Row p k t) s = record { aps = refl; nets = same-nets s.nets }
moved-stays (Pair a b k) s = record { aps = refl; nets = same-nets s.nets }
moved-stays (Became g) s = record { aps = refl; nets = same-nets s.nets }
moved-stays (Live d) s = record { aps = refl; nets = same-nets s.nets }
moved-stays (Removed d) s = record { aps = refl; nets = same-nets s.nets }
moved-stays (Roll b) s = record { aps = refl; nets = same-nets s.nets }
moved-stays (Told d) s = record { aps = refl; nets = same-nets s.nets }
moved-stays (Untold d) s = record { aps = refl; nets = same-nets s.nets }

heard-stays : (layer : Layer) (k : Bytes) (sender counter : ℕ) (s : NodeState)
    → Stays s (after_hearing layer k sender counter s)
unfolding after_hearing
heard-stays Nwk k sender counter s =
    record { aps = refl; nets = at-nets k (net_kept sender (counter + 1)) (λ r. refl) (λ r. refl) s.nets }
heard-stays Aps k sender counter s = record { aps = refl; nets = same-nets s.nets }

-- what a line that moves no counter does
abbrev Keeps : Line → Type 0
Keeps l = (s : NodeState) → Stays s (after l s)

-- a change that sets no first counter
abbrev NoStart : Edit → Type 0
NoStart (Start k v) = ⊥
NoStart _ = Unit {0}

edit-keeps : (e n : ℕ) (x : Edit) → NoStart x → Keeps (Changed e n x)
unfolding after applied
edit-keeps e n (Reserve Nwk v) w = λ s. record { aps = refl; nets = active-nets v s.active s.nets }
edit-keeps e n (Reserve Aps v) w = λ s. record { aps = refl; nets = same-nets s.nets }
edit-keeps e n (Floor Nwk k p v) w =
    λ s. record { aps = refl; nets = at-nets k (net_floor p v) (λ r. refl) (λ r. refl) s.nets }
edit-keeps e n (Floor Aps k p v) w = λ s. record { aps = refl; nets = same-nets s.nets }
edit-keeps e n (Start k v) w = absurd w
edit-keeps e n (Moved m) w = λ s. moved-stays m s

abbrev MovesNone : Line → Type 0
MovesNone (Seal e n t) = ⊥
MovesNone (Boot e n) = ⊥
MovesNone (Counter n layer v) = ⊥
MovesNone (Changed e n x) = NoStart x
MovesNone _ = Unit {0}

line-keeps : (l : Line) → MovesNone l → Keeps l
unfolding after with_given_net with_given_link after_accepting
line-keeps (Declared p) k = λ s. record { aps = refl; nets = same-nets s.nets }
line-keeps (GivenNet n key q) k =
    λ s. record { aps = refl; nets = add-nets (has_net key s.nets) (given_net s.declared key q) s.nets }
line-keeps (GivenLink n p key) k = λ s. record { aps = refl; nets = same-nets s.nets }
line-keeps (Counter n layer v) k = absurd k
line-keeps (Changed e n x) k = edit-keeps e n x k
line-keeps (Commit e n) k = λ s. record { aps = refl; nets = same-nets s.nets }
line-keeps (Accept e n t) k = λ s. heard-stays t.layer t.base t.source t.counter s
line-keeps (Refuse e n a r) k = λ s. record { aps = refl; nets = same-nets s.nets }
line-keeps (Seal e n t) k = absurd k
line-keeps (Forge e t) k = λ s. record { aps = refl; nets = same-nets s.nets }
line-keeps (Send e n f b) k = λ s. record { aps = refl; nets = same-nets s.nets }
line-keeps (Inject e f b) k = λ s. record { aps = refl; nets = same-nets s.nets }
line-keeps (Stopped e n) k = λ s. record { aps = refl; nets = same-nets s.nets }
line-keeps (DownReset e n) k = λ s. record { aps = refl; nets = same-nets s.nets }
line-keeps (DownDisk e n) k = λ s. record { aps = refl; nets = same-nets s.nets }
line-keeps (Boot e n) k = absurd k
line-keeps (Dump e n b) k = λ s. record { aps = refl; nets = same-nets s.nets }
line-keeps (End a b c d e f) k = λ s. record { aps = refl; nets = same-nets s.nets }

-- that many counters used
abbrev Takes : ℕ → (Bytes → ℕ) → NodeState → NodeState → Type 0
Takes a b s t = (t.aps_next ≡ s.aps_next + a)
    × ((key : Bytes) (r : NetKey) → row_of key s.nets ≡ Some r → next_in key t.nets ≡ Some (r.next + b key))

no-more : (n : ℕ) → n ≡ n + 0
no-more n = omega arith

takes-none : (s t : NodeState) → Stays s t → Takes 0 (λ key. 0) s t
takes-none s t k = (k.aps ∙ no-more s.aps_next, λ key r e. k.nets key r e ∙ ap Some (no-more r.next))

-- a seal

number-is : (x y : ℕ) → Some x ≡ Some y → x ≡ y
number-is x y e = subst Is e refl
  where
    Is : Option ℕ → Type 0
    Is None = Unit {0}
    Is (Some z) = x ≡ z

one-more : (x c : ℕ) → x ≡ c → c + 1 ≡ x + 1
one-more x c e = ap (λ y. y + 1) (sym e)

sealed-net : (t : Term) (s : NodeState) → NextIs Nwk t s → (key : Bytes) (r : NetKey) → row_of key s.nets ≡ Some r
    → next_in key (at_net t.base (next_at (t.counter + 1)) s.nets) ≡ Some (r.next + cond (same_key t.base key) 1 0)
sealed-net t s next key r e =
    ap (λ o. option_map (λ (x : NetKey). x.next) o)
    (find-map (λ (x : NetKey). same_key x.key key) F (λ x. by-key (same_key x.key t.base) x) s.nets ∙ ap
    (λ o. option_map F o) e)
    ∙ ap Some (by-base (same_key t.base key) refl)
  where
    F : NetKey → NetKey
    F x = cond (same_key x.key t.base) (next_at (t.counter + 1) x) x

    by-key : (b : Bool) (x : NetKey) → same_key (cond b (next_at (t.counter + 1) x) x).key key ≡ same_key x.key key
    by-key true x = refl
    by-key false x = refl

    own : r.key ≡ key
    own = same_key-eq r.key key (found-key key s.nets r e)

    by-row : (b : Bool) → same_key r.key t.base ≡ b → same_key t.base key ≡ false
        → (cond b (next_at (t.counter + 1) r) r).next ≡ r.next + 0
    by-row true q f =
        absurd (false≢true
        (sym f ∙ subst (λ k. same_key t.base k ≡ true) (sym (same_key-eq r.key t.base q) ∙ own)
        (same_key-refl t.base)))
    by-row false q f = no-more r.next

    by-base : (b : Bool) → same_key t.base key ≡ b → (cond (same_key r.key t.base) (next_at (t.counter + 1) r) r).next
        ≡ r.next + cond b 1 0
    by-base true q =
        ap (λ c. (cond c (next_at (t.counter + 1) r) r).next)
        (ap (λ k. same_key k t.base) (own ∙ sym (same_key-eq t.base key q)) ∙ same_key-refl t.base)
        ∙ one-more r.next t.counter
        (number-is r.next t.counter
        (sym (ap (λ o. option_map (λ (x : NetKey). x.next) o)
        (ap (λ k. net_of k s) (same_key-eq t.base key q) ∙ e)) ∙ next))
    by-base false q = by-row (same_key r.key t.base) refl q

sealed-takes : (layer : Layer) (t : Term) (s : NodeState) → NextIs layer t s
    → Takes (cond (same_layer layer Aps) 1 0) (λ key. cond (same_layer layer Nwk && same_key t.base key) 1 0) s
    (sealed_at layer t s)
sealed-takes Nwk t s n = (no-more s.aps_next, λ key r e. sealed-net t s n key r e)
sealed-takes Aps t s n =
    (one-more s.aps_next t.counter n, λ key r e. same-nets s.nets key r e ∙ ap Some (no-more r.next))

seal-takes : (m e n : ℕ) (t : Term) (s : NodeState) → (n ≡ m → NextIs t.layer t s)
    → Takes (taken_aps m (Seal e n t)) (λ key. taken_nwk m key (Seal e n t)) s (heard_line m s (Seal e n t))
unfolding heard_line speaker after after_sealing
seal-takes m e n t s k = by-test (nat_eq n m) refl
  where
    by-test : (b : Bool) → nat_eq n m ≡ b → Takes (cond (b && same_layer t.layer Aps) 1 0)
        (λ key. cond (b && (same_layer t.layer Nwk && same_key t.base key)) 1 0) s (cond b (sealed_at t.layer t s) s)
    by-test true q = sealed-takes t.layer t s (k (Rattle.std.proofs.Common.eqb-true n m q))
    by-test false q = takes-none s s (record { aps = refl; nets = same-nets s.nets })

-- a line that moves none: each next counter stays
abbrev StaysOf : ℕ → NodeState → NodeState → Type 0
StaysOf m s t = (t.aps_next ≡ s.aps_next)
    × ((key : Bytes) (r : NetKey) → row_of key s.nets ≡ Some r → next_in key t.nets ≡ Some r.next)

heard-stays-of : (m : ℕ) (l : Line) (s : NodeState) → Keeps l → StaysOf m s (heard_line m s l)
unfolding heard_line
heard-stays-of m l s k = by-test (nat_eq (speaker l) m)
  where
    by-test : (b : Bool) → StaysOf m s (cond b (after l s) s)
    by-test true = ((k s).aps, (k s).nets)
    by-test false = (refl, same-nets s.nets)

quiet-takes : (h : List Line) (l : Line) → Keeps l → (m : ℕ) → StaysOf m (state_of h m) (state_of (h ++ l ∷ []) m)
quiet-takes h l k m = subst (λ s. StaysOf m (state_of h m) s) (sym (state-snoc h l m))
    (heard-stays-of m l (state_of h m) k)

-- a line that raises its own node's
abbrev Set : ℕ → (NodeState → ℕ) → (Bytes → NetKey → ℕ) → NodeState → NodeState → Type 0
Set m a b s t = (t.aps_next ≡ a s)
    × ((key : Bytes) (r : NetKey) → row_of key s.nets ≡ Some r → next_in key t.nets ≡ Some (b key r))

mapped-next : (f : NetKey → NetKey) → ((r : NetKey) → (f r).key ≡ r.key)
    → (key : Bytes) (nets : List NetKey) (r : NetKey) → row_of key nets ≡ Some r → next_in key (map f nets)
    ≡ Some (f r).next
mapped-next f k key nets r e = ap (λ o. option_map (λ (x : NetKey). x.next) o)
    (find-map (λ (x : NetKey). same_key x.key key) f (λ x. ap (λ y. same_key y key) (k x)) nets ∙ ap
    (λ o. option_map f o) e)

boot-sets : (m e n : ℕ) (s : NodeState)
    → Set m (λ x. aps_behind m (Boot e n) x) (λ key r. nwk_behind m key (Boot e n) r) s (heard_line m s (Boot e n))
unfolding heard_line speaker after after_boot
boot-sets m e n s = by-test (nat_eq n m)
  where
    by-test : (b : Bool) → Set m (λ x. cond b x.aps_limit x.aps_next) (λ key r. cond b r.limit r.next) s
        (cond b (Rattle.zb_model.specs.State.after_boot s) s)
    by-test true = (refl, λ key r f. mapped-next booted_net (λ x. refl) key s.nets r f)
    by-test false = (refl, same-nets s.nets)

raised-next : (v : ℕ) (b : Bool) (r : NetKey) → (cond b (started_at v r) r).next
    ≡ cond b (max r.next (min v greatest_counter)) r.next
raised-next v true r = refl
raised-next v false r = refl

started-next : (k : Bytes) (v : ℕ) (key : Bytes) (nets : List NetKey) (r : NetKey) → row_of key nets ≡ Some r
    → next_in key (at_net k (started_at v) nets)
    ≡ Some (cond (same_key key k) (max r.next (min v greatest_counter)) r.next)
started-next k v key nets r e =
    mapped-next (λ x. cond (same_key x.key k) (started_at v x) x) (λ x. by-key (same_key x.key k) x) key nets r e
    ∙ ap Some (raised-next v (same_key r.key k) r) ∙ ap
    (λ y. Some (cond (same_key y k) (max r.next (min v greatest_counter)) r.next))
    (same_key-eq r.key key (found-key key nets r e))
  where
    by-key : (b : Bool) (x : NetKey) → (cond b (started_at v x) x).key ≡ x.key
    by-key true x = refl
    by-key false x = refl

start-sets : (m e n : ℕ) (k : Bytes) (v : ℕ) (s : NodeState)
    → Set m (λ x. x.aps_next) (λ key r. nwk_behind m key (Changed e n (Start k v)) r) s
    (heard_line m s (Changed e n (Start k v)))
unfolding heard_line speaker after applied
start-sets m e n k v s = by-test (nat_eq n m)
  where
    by-test : (b : Bool)
        → Set m (λ x. x.aps_next) (λ key r. cond (b && same_key key k) (max r.next (min v greatest_counter)) r.next) s
        (cond b (record s { nets = at_net k (started_at v) s.nets }) s)
    by-test true = (refl, λ key r f. started-next k v key s.nets r f)
    by-test false = (refl, same-nets s.nets)

declared-next : (v : ℕ) (b : Bool) (r : NetKey)
    → (cond b (record r { limit = max r.limit v; next = max r.next v }) r).next ≡ cond b (max r.next v) r.next
declared-next v true r = refl
declared-next v false r = refl

declared-key : (v : ℕ) (b : Bool) (r : NetKey)
    → (cond b (record r { limit = max r.limit v; next = max r.next v }) r).key ≡ r.key
declared-key v true r = refl
declared-key v false r = refl

counter-sets : (layer : Layer) (m n v : ℕ) (s : NodeState) → Set m (λ x. aps_behind m (Counter n layer v) x)
    (λ key r. nwk_behind m key (Counter n layer v) r) s (heard_line m s (Counter n layer v))
unfolding heard_line speaker after with_declared
counter-sets Nwk m n v s = by-test (nat_eq n m)
  where
    by-test : (b : Bool) → Set m (λ x. x.aps_next) (λ key r. cond (b && r.started) (max r.next v) r.next) s
        (cond b (record s { declared = v; nets = map (declared_at v) s.nets }) s)
    by-test true = (
      refl,
      λ key r f. mapped-next (declared_at v) (λ x. declared-key v x.started x) key s.nets r f ∙ ap Some
          (declared-next v r.started r),
    )
    by-test false = (refl, same-nets s.nets)
counter-sets Aps m n v s = by-test (nat_eq n m)
  where
    by-test : (b : Bool) → Set m (λ x. cond b (max x.aps_next v) x.aps_next) (λ key r. r.next) s
        (cond b (record s { aps_limit = max s.aps_limit v; aps_next = max s.aps_next v }) s)
    by-test true = (refl, same-nets s.nets)
    by-test false = (refl, same-nets s.nets)

set-of : (h : List Line) (l : Line) (m : ℕ) (a : NodeState → ℕ) (b : Bytes → NetKey → ℕ)
    → Set m a b (state_of h m) (heard_line m (state_of h m) l) → Set m a b (state_of h m) (state_of (h ++ l ∷ []) m)
set-of h l m a b k = subst (λ s. Set m a b (state_of h m) s) (sym (state-snoc h l m)) k

edit-takes : (h : List Line) (e n : ℕ) (x : Edit) → TakesAll h (Changed e n x)
edit-takes h e n (Start k v) = λ m. set-of h (Changed e n (Start k v)) m (λ s. s.aps_next)
    (λ key r. nwk_behind m key (Changed e n (Start k v)) r) (start-sets m e n k v (state_of h m))
edit-takes h e n (Reserve layer v) = quiet-takes h (Changed e n (Reserve layer v))
    (edit-keeps e n (Reserve layer v) tt)
edit-takes h e n (Floor layer k p v) = quiet-takes h (Changed e n (Floor layer k p v))
    (edit-keeps e n (Floor layer k p v) tt)
edit-takes h e n (Moved x) = quiet-takes h (Changed e n (Moved x)) (edit-keeps e n (Moved x) tt)

line-takes : (h : List Line) (l : Line) → TakesNext h l → TakesAll h l
line-takes h (Seal e n t) k =
    λ m. subst (λ s. Takes (taken_aps m (Seal e n t)) (λ key. taken_nwk m key (Seal e n t)) (state_of h m) s)
    (sym (state-snoc h (Seal e n t) m))
    (seal-takes m e n t (state_of h m) (λ q. subst (λ x. NextIs t.layer t (state_of h x)) q k.2))
line-takes h (Counter n Nwk v) k = λ m. set-of h (Counter n Nwk v) m (λ s. s.aps_next)
    (λ key r. nwk_behind m key (Counter n Nwk v) r) (counter-sets Nwk m n v (state_of h m))
line-takes h (Counter n Aps v) k = λ m. set-of h (Counter n Aps v) m (λ s. aps_behind m (Counter n Aps v) s)
    (λ key r. r.next) (counter-sets Aps m n v (state_of h m))
line-takes h (Boot e n) k = λ m. set-of h (Boot e n) m (λ s. aps_behind m (Boot e n) s)
    (λ key r. nwk_behind m key (Boot e n) r) (boot-sets m e n (state_of h m))
line-takes h (Changed e n x) k = edit-takes h e n x
line-takes h (Declared p) k = quiet-takes h (Declared p) (line-keeps (Declared p) tt)
line-takes h (GivenNet n key q) k = quiet-takes h (GivenNet n key q) (line-keeps (GivenNet n key q) tt)
line-takes h (GivenLink n p key) k = quiet-takes h (GivenLink n p key) (line-keeps (GivenLink n p key) tt)
line-takes h (Commit e n) k = quiet-takes h (Commit e n) (line-keeps (Commit e n) tt)
line-takes h (Accept e n t) k = quiet-takes h (Accept e n t) (line-keeps (Accept e n t) tt)
line-takes h (Refuse e n a r) k = quiet-takes h (Refuse e n a r) (line-keeps (Refuse e n a r) tt)
line-takes h (Forge e t) k = quiet-takes h (Forge e t) (line-keeps (Forge e t) tt)
line-takes h (Send e n f b) k = quiet-takes h (Send e n f b) (line-keeps (Send e n f b) tt)
line-takes h (Inject e f b) k = quiet-takes h (Inject e f b) (line-keeps (Inject e f b) tt)
line-takes h (Stopped e n) k = quiet-takes h (Stopped e n) (line-keeps (Stopped e n) tt)
line-takes h (DownReset e n) k = quiet-takes h (DownReset e n) (line-keeps (DownReset e n) tt)
line-takes h (DownDisk e n) k = quiet-takes h (DownDisk e n) (line-keeps (DownDisk e n) tt)
line-takes h (Dump e n b) k = quiet-takes h (Dump e n b) (line-keeps (Dump e n b) tt)
line-takes h (End a b c d e f) k = quiet-takes h (End a b c d e f) (line-keeps (End a b c d e f) tt)

each-takes-all : (h ls : List Line) → Each TakesNext h ls → Each TakesAll h ls
each-takes-all h [] a = tt
each-takes-all h (l ∷ ls) a = (line-takes h l a.0, each-takes-all (h ++ l ∷ []) ls a.1)

pub takes-all : (tools : Tools) (w : Schedule) → IsSchedule w → Each TakesAll [] (transcript tools w)
takes-all tools w i = each-takes-all [] (transcript tools w) (takes-next tools w i)
