-- Floors are of declared nodes, so there is room for each: rows-full never occurs at NWK.
use Rattle.std.proofs.Common.{◌≡◌, ℕ, zero, suc, ◌<◌, ◌≤◌, ◌+◌, max, Bool, true, false, cond, not, ◌&&◌, List, [], ◌∷◌, ◌++◌, map, filter, find, length, Option, Some, None, option_map, option_to_list, is_some, flat_map, nat_eq, nat_lt, nat_le, refl, sym, ap, ◌∙◌, subst, arith, eq-eqb, eqb-true, lt_irrefl, ◌⊎◌, inl, inr, ⊎_elim}
use Rattle.std.proofs.lemmas.Bool.{false≢true}
use Rattle.std.proofs.lemmas.List.{length-map}
use Rattle.std.specs.List.{AllByRecursion}
use Rattle.zb_model.specs.Data.{Bytes, Layer, Nwk, Aps, Station, Term, Edit, Reserve, Floor, Start, Moved, Move, Draw, DropNet, DropLink, Install, Active, Row, Pair, Became, Live, Removed, Roll, Told, Untold, Place, Task, Received}
use Rattle.zb_model.specs.Lines.{Line, Declared, GivenNet, GivenLink, Counter}
use Rattle.zb_model.specs.State.{SenderFloor, NetKey, NodeState, same_key, has_net, at_net, of_active, new_net, given_net, declared_at, with_given_net, with_given_link, with_declared, dropped_net, reserved, started_at, net_floor, net_kept, next_at, booted_net, booted_floor, floor_stored, floor_kept, applied, applied_all, after_accepting, after_hearing, after_sealing, sealed_at, after_boot, sender_floor}
use Rattle.zb_model.specs.Tools.{Tools, NwkShown, ApsShown, ApsAuxiliary, CommandShown, Known, Unknown, Broken, LeaveShown, Leave, Other, NoCommand}
use Rattle.zb_model.specs.Judging.{Verdict, Not, Good, Carrier, judge_nwk, payload_of, Unsealed, judge_aps}
use Rattle.zb_model.specs.Rules.{Setting, Plan, Does, is_declared, station_of}
use Rattle.zb_model.specs.Answer.{Counting, answer_by, plan_of, counting_of, comes_to, nwk_command, aps_command, clear_part, sealed_part, by_security, aps_part, net_part, received_as, edits_of, reserve_edit, floor_edit, start_edit, move_edits, changes, moves_of}
use Rattle.zb_model.specs.Readings.{state_of, after}
use Rattle.zb_model.specs.Play.{Schedule, Event, Node, stations, setting_of, without_blocks, start}
use Rattle.law_run.specs.Events.{BeforeEach}
use Rattle.law_run.specs.Opening.{Opens}
use Rattle.law_run.proofs.FreshLines.{all-append}
use Rattle.law_run.proofs.EventStates.{IsKept, AllKeep, answer_to, kept-before}
use Rattle.law_run.proofs.FloorRows.{Sorted}
use Rattle.law_run.proofs.Judged.{In, all-in, OnGood, Judged, aps-good, usable-row}
use Rattle.law_run.proofs.LockoutDeeds.{IfDeclared, nwk-declared}
use Rattle.law_run.proofs.Sound.{Sound, sound}
use Rattle.law_run_lookups.specs.Granted.{HasRoom}
use Rattle.law_run_lookups.proofs.Standing.{Begins, start-begins, lines-with, before-map}

-- What a plan accepts at NWK is of a declared node

abbrev Declares : Setting → List Term → Type 0
Declares c ts = AllByRecursion (λ (t : Term). t.layer ≡ Nwk → is_declared c t.source ≡ true) ts

not-nwk : Aps ≡ Nwk → ⊥
not-nwk e = subst IsAps e tt
  where
    IsAps : Layer → Type 0
    IsAps Aps = Unit {0}
    IsAps Nwk = ⊥

of-nwk : (c : Setting) (o : Option Term) → IfDeclared c o → Declares c (option_to_list o)
of-nwk c None g = tt
of-nwk c (Some t) g = (λ e. g, tt)

of-both : (c : Setting) (s : NodeState) (o : Option Term) (u : Term) → IfDeclared c o → Judged Aps s u
    → Declares c (option_to_list o ++ u ∷ [])
of-both c s None u g h = (λ e. absurd (not-nwk (sym h.at ∙ e)), tt)
of-both c s (Some t) u g h = (λ e. g, (λ e. absurd (not-nwk (sym h.at ∙ e)), tt))

-- the rules leave what was accepted
command-accepts : (tools : Tools) (c : Setting) (s : NodeState) (draw : Option Bytes) (ts : List Term)
    (m : Rattle.zb_model.specs.Commands.Heard) (o : CommandShown) → Declares c ts
    → Declares c (aps_command tools c s draw ts m o).accepts
command-accepts tools c s draw ts m (Known command) g = g
command-accepts tools c s draw ts m Unknown g = g
command-accepts tools c s draw ts m Broken g = g

either-plan : (c : Setting) (b : Bool) (p q : Plan) → Declares c p.accepts → Declares c q.accepts
    → Declares c (cond b p q).accepts
either-plan c true p q a b = a
either-plan c false p q a b = b

clear-accepts : (tools : Tools) (c : Setting) (s : NodeState) (draw : Option Bytes) (nwk : Option Term) (a : ApsShown)
    → IfDeclared c nwk → Declares c (clear_part tools c s draw nwk a).accepts
clear-accepts tools c s draw nwk a g =
    either-plan c a.is_command
    (aps_command tools c s draw (option_to_list nwk) (Rattle.zb_model.specs.Answer.heard_clear nwk)
    (tools.read_command a.body)) (comes_to (option_to_list nwk) Place.AtAps (Does [] None))
    (command-accepts tools c s draw (option_to_list nwk) (Rattle.zb_model.specs.Answer.heard_clear nwk)
    (tools.read_command a.body) (of-nwk c nwk g)) (of-nwk c nwk g)

sealed-accepts : (tools : Tools) (c : Setting) (s : NodeState) (draw : Option Bytes) (nwk : Option Term)
    (a : ApsShown) (aux : ApsAuxiliary) (v : Verdict Unsealed) → IfDeclared c nwk
    → OnGood (λ (u : Unsealed). Judged Aps s u.term) v → Declares c (sealed_part tools c s draw nwk a aux v).accepts
sealed-accepts tools c s draw nwk a aux (Not place reason) g h = of-nwk c nwk g
sealed-accepts tools c s draw nwk a aux (Good u) g h =
    either-plan c a.is_command
    (aps_command tools c s draw (option_to_list nwk ++ u.term ∷ [])
    (Rattle.zb_model.specs.Answer.heard_sealed nwk aux u) (tools.read_command u.term.content))
    (comes_to (option_to_list nwk ++ u.term ∷ []) Place.AtAps (Does [] None))
    (command-accepts tools c s draw (option_to_list nwk ++ u.term ∷ [])
    (Rattle.zb_model.specs.Answer.heard_sealed nwk aux u) (tools.read_command u.term.content)
    (of-both c s nwk u.term g h)) (of-both c s nwk u.term g h)

security-accepts : (tools : Tools) → Opens tools → (c : Setting) (s : NodeState) → Sound s
    → (draw : Option Bytes) (f : NwkShown) (nwk : Option Term) (a : ApsShown) (x : Option ApsAuxiliary)
    → tools.read_aps (payload_of f nwk) ≡ Some a → a.auxiliary ≡ x → IfDeclared c nwk
    → Declares c (by_security tools c s draw f nwk a x).accepts
security-accepts tools opens c s o draw f nwk a None read shown g = clear-accepts tools c s draw nwk a g
security-accepts tools opens c s o draw f nwk a (Some aux) read shown g =
    sealed-accepts tools c s draw nwk a aux (judge_aps tools c s f (payload_of f nwk) aux) g
    (aps-good tools opens c s o f (payload_of f nwk) a aux read shown)

aps-accepts : (tools : Tools) → Opens tools → (c : Setting) (s : NodeState) → Sound s
    → (draw : Option Bytes) (f : NwkShown) (nwk : Option Term) (x : Option ApsShown)
    → tools.read_aps (payload_of f nwk) ≡ x → IfDeclared c nwk → Declares c (aps_part tools c s draw f nwk x).accepts
aps-accepts tools opens c s o draw f nwk None read g = of-nwk c nwk g
aps-accepts tools opens c s o draw f nwk (Some a) read g = security-accepts tools opens c s o draw f nwk a a.auxiliary
    read refl g

leave-accepts : (c : Setting) (s : NodeState) (t : Term) (l : LeaveShown) → is_declared c t.source ≡ true
    → Declares c (nwk_command c t l).accepts
leave-accepts c s t (Leave options) g = (λ e. g, tt)
leave-accepts c s t Other g = (λ e. g, tt)
leave-accepts c s t NoCommand g = (λ e. g, tt)

net-accepts : (tools : Tools) → Opens tools → (c : Setting) (s : NodeState) → Sound s
    → (draw : Option Bytes) (f : NwkShown) (nwk : Option Term) → IfDeclared c nwk
    → Declares c (net_part tools c s draw f nwk).accepts
net-accepts tools opens c s o draw f None g = aps-accepts tools opens c s o draw f None (tools.read_aps f.body) refl tt
net-accepts tools opens c s o draw f (Some t) g =
    either-plan c f.is_command (nwk_command c t (tools.read_leave t.content))
    (aps_part tools c s draw f (Some t) (tools.read_aps t.content))
    (leave-accepts c s t (tools.read_leave t.content) g)
    (aps-accepts tools opens c s o draw f (Some t) (tools.read_aps t.content) refl g)

received-accepts : (tools : Tools) → Opens tools → (c : Setting) (s : NodeState) → Sound s
    → (draw : Option Bytes) (v : Verdict Carrier) → OnGood (λ (k : Carrier). IfDeclared c k.term) v
    → Declares c (received_as tools c s draw v).accepts
received-accepts tools opens c s o draw (Not place reason) g = tt
received-accepts tools opens c s o draw (Good k) g = net-accepts tools opens c s o draw k.frame k.term g

pub plan-accepts : (tools : Tools) → Opens tools → (c : Setting) (s : NodeState) → Sound s → (task : Task)
    → Declares c (plan_of tools c s task).accepts
unfolding plan_of
plan-accepts tools opens c s o (Received bytes draw) =
    received-accepts tools opens c s o draw (judge_nwk tools c s bytes) (nwk-declared tools opens c s bytes)
plan-accepts tools opens c s o _ = tt

-- Floors of declared nodes

abbrev FloorsOf : Setting → NetKey → Type 0
FloorsOf c r = AllByRecursion (λ (f : SenderFloor). is_declared c f.sender ≡ true) r.floors

abbrev NetsOf : Setting → List NetKey → Type 0
NetsOf c nets = AllByRecursion (FloorsOf c) nets

nets-map : (c : Setting) (f : NetKey → NetKey) → ((r : NetKey) → FloorsOf c r → FloorsOf c (f r))
    → (nets : List NetKey) → NetsOf c nets → NetsOf c (map f nets)
nets-map c f k [] a = tt
nets-map c f k (r ∷ rs) a = (k r a.0, nets-map c f k rs a.1)

nets-at : (c : Setting) (f : NetKey → NetKey) → ((r : NetKey) → FloorsOf c r → FloorsOf c (f r))
    → (key : Bytes) (nets : List NetKey) → NetsOf c nets → NetsOf c (at_net key f nets)
nets-at c f k key nets a = nets-map c (λ r. cond (same_key r.key key) (f r) r)
    (λ r p. by-test (same_key r.key key) r p) nets a
  where
    by-test : (b : Bool) (r : NetKey) → FloorsOf c r → FloorsOf c (cond b (f r) r)
    by-test true r p = k r p
    by-test false r p = p

nets-active : (c : Setting) (v : ℕ) (o : Option Bytes) (nets : List NetKey) → NetsOf c nets
    → NetsOf c (of_active (reserved v) o nets)
nets-active c v None nets a = a
nets-active c v (Some key) nets a = nets-at c (reserved v) (λ r p. p) key nets a

nets-add : (c : Setting) (b : Bool) (key : Bytes) (q : ℕ) (nets : List NetKey) → NetsOf c nets
    → NetsOf c (cond b nets (nets ++ new_net key q ∷ []))
nets-add c true key q nets a = a
nets-add c false key q nets a = all-append (FloorsOf c) nets (new_net key q ∷ []) a (tt, tt)

stored-of : (c : Setting) (sender value : ℕ) → is_declared c sender ≡ true → (fs : List SenderFloor)
    → AllByRecursion (λ (f : SenderFloor). is_declared c f.sender ≡ true) fs
    → AllByRecursion (λ (f : SenderFloor). is_declared c f.sender ≡ true) (floor_stored sender value fs)
stored-of c sender value d [] a = (d, tt)
stored-of c sender value d (f ∷ fs) a = by-tests (nat_lt sender f.sender) (nat_eq sender f.sender)
    (stored-of c sender value d fs a.1)
  where
    by-tests : (b e : Bool) → AllByRecursion (λ (g : SenderFloor). is_declared c g.sender ≡ true)
        (floor_stored sender value fs)
        → AllByRecursion (λ (g : SenderFloor). is_declared c g.sender ≡ true)
        (cond b (record { sender = sender; kept = 0; stored = value } ∷ f ∷ fs)
        (cond e (record f { stored = max f.stored value } ∷ fs) (f ∷ floor_stored sender value fs)))
    by-tests true e more = (d, a)
    by-tests false true more = (a.0, a.1)
    by-tests false false more = (a.0, more)

kept-of : (c : Setting) (sender kept : ℕ) (fs : List SenderFloor)
    → AllByRecursion (λ (f : SenderFloor). is_declared c f.sender ≡ true) fs
    → AllByRecursion (λ (f : SenderFloor). is_declared c f.sender ≡ true) (floor_kept sender kept fs)
kept-of c sender kept [] a = tt
kept-of c sender kept (f ∷ fs) a = (by-test (nat_eq f.sender sender), kept-of c sender kept fs a.1)
  where
    by-test : (b : Bool) → is_declared c (cond b (record f { kept = kept }) f).sender ≡ true
    by-test true = a.0
    by-test false = a.0

booted-of : (c : Setting) (fs : List SenderFloor)
    → AllByRecursion (λ (f : SenderFloor). is_declared c f.sender ≡ true) fs
    → AllByRecursion (λ (f : SenderFloor). is_declared c f.sender ≡ true) (map booted_floor fs)
booted-of c [] a = tt
booted-of c (f ∷ fs) a = (a.0, booted-of c fs a.1)

abbrev EditOk : Setting → Edit → Type 0
EditOk c (Floor layer k sender v) = layer ≡ Nwk → is_declared c sender ≡ true
EditOk c _ = Unit {0}

edit-of : (c : Setting) (e : Edit) → EditOk c e → (s : NodeState) → NetsOf c s.nets → NetsOf c (applied e s).nets
unfolding applied
edit-of c (Reserve Nwk v) k s a = nets-active c v s.active s.nets a
edit-of c (Reserve Aps v) k s a = a
edit-of c (Floor Nwk key p v) k s a = nets-at c (net_floor p v) (λ r x. stored-of c p v (k refl) r.floors x) key
    s.nets a
edit-of c (Floor Aps key p v) k s a = a
edit-of c (Start key v) k s a = nets-at c (started_at v) (λ r x. x) key s.nets a
edit-of c (Moved (DropNet j)) k s a = nets-at c dropped_net (λ r x. x) j s.nets a
edit-of c (Moved (Install j n)) k s a = nets-add c (has_net j s.nets) j n s.nets a
edit-of c (Moved (Draw j)) k s a = a
edit-of c (Moved (DropLink p j)) k s a = a
edit-of c (Moved (Active j)) k s a = a
edit-of c (Moved (Row p j t)) k s a = a
edit-of c (Moved (Pair x y j)) k s a = a
edit-of c (Moved (Became g)) k s a = a
edit-of c (Moved (Live d)) k s a = a
edit-of c (Moved (Removed d)) k s a = a
edit-of c (Moved (Roll b)) k s a = a
edit-of c (Moved (Told d)) k s a = a
edit-of c (Moved (Untold d)) k s a = a

edits-of : (c : Setting) (es : List Edit) → AllByRecursion (EditOk c) es → (s : NodeState) → NetsOf c s.nets
    → NetsOf c (applied_all es s).nets
unfolding applied_all
edits-of c [] k s a = a
edits-of c (e ∷ es) k s a = edits-of c es k.1 (applied e s) (edit-of c e k.0 s a)

-- the changes of an answer
reserve-ok : (c : Setting) (layer : Layer) (o : Option ℕ)
    → AllByRecursion (EditOk c) (option_to_list (option_map (Reserve layer) o))
reserve-ok c layer None = tt
reserve-ok c layer (Some v) = (tt, tt)

floor-ok : (c : Setting) (t : Term) (o : Option ℕ) → (t.layer ≡ Nwk → is_declared c t.source ≡ true)
    → AllByRecursion (EditOk c) (option_to_list (option_map (Floor t.layer t.base t.source) o))
floor-ok c t None d = tt
floor-ok c t (Some v) d = (d, tt)

floors-ok : (c : Setting) (k : Counting) (ts : List Term) → Declares c ts
    → AllByRecursion (EditOk c) (flat_map (floor_edit k) ts)
floors-ok c k [] d = tt
floors-ok c k (t ∷ ts) d = all-append (EditOk c) (floor_edit k t) (flat_map (floor_edit k) ts)
    (floor-ok c t (k.floor t.layer) d.0) (floors-ok c k ts d.1)

start-ok : (c : Setting) (key : Bytes) (o : Option ℕ) → AllByRecursion (EditOk c) (start_edit key o)
start-ok c key None = tt
start-ok c key (Some v) = (tt, tt)

move-ok : (c : Setting) (k : Counting) (m : Move) → AllByRecursion (EditOk c) (move_edits k m)
move-ok c k (Active key) = (tt, start-ok c key k.start)
move-ok c k _ = (tt, tt)

moves-ok : (c : Setting) (k : Counting) (ms : List Move) → AllByRecursion (EditOk c) (flat_map (move_edits k) ms)
moves-ok c k [] = tt
moves-ok c k (m ∷ ms) = all-append (EditOk c) (move_edits k m) (flat_map (move_edits k) ms) (move-ok c k m)
    (moves-ok c k ms)

all-ok : (c : Setting) (s : NodeState) (k : Counting) (p : Plan) → Declares c p.accepts
    → AllByRecursion (EditOk c) (edits_of s k p)
unfolding edits_of
all-ok c s k p d =
    all-append (EditOk c) (reserve_edit k Nwk ++ reserve_edit k Aps)
    (flat_map (floor_edit k) p.accepts ++ flat_map (move_edits k) (filter (changes s) (moves_of p.outcome)))
    (all-append (EditOk c) (reserve_edit k Nwk) (reserve_edit k Aps) (reserve-ok c Nwk (k.reserve Nwk))
    (reserve-ok c Aps (k.reserve Aps)))
    (all-append (EditOk c) (flat_map (floor_edit k) p.accepts)
    (flat_map (move_edits k) (filter (changes s) (moves_of p.outcome))) (floors-ok c k p.accepts d)
    (moves-ok c k (filter (changes s) (moves_of p.outcome))))

heard-of : (c : Setting) (layer : Layer) (k : Bytes) (sender counter : ℕ) (s : NodeState) → NetsOf c s.nets
    → NetsOf c (after_hearing layer k sender counter s).nets
unfolding after_hearing
heard-of c Nwk k sender counter s a = nets-at c (net_kept sender (counter + 1))
    (λ r x. kept-of c sender (counter + 1) r.floors x) k s.nets a
heard-of c Aps k sender counter s a = a

accept-of : (c : Setting) (t : Term) (s : NodeState) → NetsOf c s.nets → NetsOf c (after_accepting t s).nets
unfolding after_accepting
accept-of c t s a = heard-of c t.layer t.base t.source t.counter s a

sealed-of : (c : Setting) (layer : Layer) (t : Term) (s : NodeState) → NetsOf c s.nets
    → NetsOf c (sealed_at layer t s).nets
sealed-of c Nwk t s a = nets-at c (next_at (t.counter + 1)) (λ r x. x) t.base s.nets a
sealed-of c Aps t s a = a

seal-of : (c : Setting) (t : Term) (s : NodeState) → NetsOf c s.nets → NetsOf c (after_sealing t s).nets
unfolding after_sealing
seal-of c t s a = sealed-of c t.layer t s a

boot-of : (c : Setting) (s : NodeState) → NetsOf c s.nets → NetsOf c (after_boot s).nets
unfolding after_boot
boot-of c s a = nets-map c booted_net (λ r x. booted-of c r.floors x) s.nets a

answers-of : (tools : Tools) → Opens tools → (w : Schedule) (h : List Line) (n : ℕ) (task : Task)
    → NetsOf (setting_of w n) (state_of h n).nets
    → NetsOf (setting_of w n) (applied_all (answer_to tools w h n task).edits (state_of h n)).nets
unfolding answer_by
answers-of tools opens w h n task a =
    edits-of (setting_of w n) _
    (all-ok (setting_of w n) (state_of h n) _ (plan_of tools (setting_of w n) (state_of h n) task)
    (plan-accepts tools opens (setting_of w n) (state_of h n) (sound h n) task)) (state_of h n) a

abbrev pub AnyEvent : Event → Type 0
AnyEvent event = Unit {0}

senders-kept : (tools : Tools) → Opens tools → (w : Schedule)
    → IsKept tools w AnyEvent (λ h n s. NetsOf (setting_of w n) s.nets)
senders-kept tools opens w = record {
  more = λ h ls n s p. p;
  answers = λ h number n task is all. answers-of tools opens w h n task (all n);
  accepts = λ h n t s p. accept-of (setting_of w n) t s p;
  seals = λ h n t s p. seal-of (setting_of w n) t s p;
  boots = λ h n s p. boot-of (setting_of w n) s p;
}

-- As many as there are nodes

Distinct : List ℕ → Type 0
Distinct [] = Unit {0}
Distinct (x ∷ xs) = AllByRecursion (λ y. y ≡ x → ⊥) xs × Distinct xs

without : ℕ → List ℕ → List ℕ
without x [] = []
without x (y ∷ ys) = cond (nat_eq y x) ys (y ∷ without x ys)

without-less : (x : ℕ) (ys : List ℕ) → In x ys → length (without x ys) + 1 ≤ length ys
unfolding without In
without-less x [] i = absurd i
without-less x (y ∷ ys) i = by-test (nat_eq y x) refl i (without-less x ys)
  where
    by-test : (b : Bool) → nat_eq y x ≡ b → (y ≡ x) ⊎ In x ys → (In x ys → length (without x ys) + 1 ≤ length ys)
        → length (cond b ys (y ∷ without x ys)) + 1 ≤ length (y ∷ ys)
    by-test true e j more = omega arith
    by-test false e (inl f) more = absurd (false≢true (sym e ∙ eq-eqb y x f))
    by-test false e (inr j) more = omega (arith, more j)

without-has : (x z : ℕ) (ys : List ℕ) → In z ys → (z ≡ x → ⊥) → In z (without x ys)
unfolding without In
without-has x z [] i other = i
without-has x z (y ∷ ys) i other = by-test (nat_eq y x) refl i (λ j. without-has x z ys j other)
  where
    by-test : (b : Bool) → nat_eq y x ≡ b → (y ≡ z) ⊎ In z ys → (In z ys → In z (without x ys))
        → In z (cond b ys (y ∷ without x ys))
    by-test true e (inl f) more = absurd (other (sym f ∙ eqb-true y x e))
    by-test true e (inr j) more = j
    by-test false e (inl f) more = inl f
    by-test false e (inr j) more = inr (more j)

no-more-than : (xs ys : List ℕ) → Distinct xs → ((x : ℕ) → In x xs → In x ys) → length xs ≤ length ys
unfolding Distinct In
no-more-than [] ys d k = omega arith
no-more-than (x ∷ xs) ys d k =
    omega (
      arith,
      without-less x ys (k x (inl refl)),
      no-more-than xs (without x ys) d.1
          (λ z i. without-has x z ys (k z (inr i)) (all-in (λ y. y ≡ x → ⊥) xs d.0 z i)),
    )

-- the senders other than one
abbrev others : ℕ → List SenderFloor → List SenderFloor
others source fs = filter (λ (f : SenderFloor). not (nat_eq f.sender source)) fs

abbrev senders : List SenderFloor → List ℕ
senders fs = map (λ (f : SenderFloor). f.sender) fs

above-all : (m : ℕ) (source : ℕ) (fs : List SenderFloor) → AllByRecursion (λ (g : SenderFloor). m < g.sender) fs
    → AllByRecursion (λ y. y ≡ m → ⊥) (senders (others source fs))
above-all m source [] a = tt
above-all m source (f ∷ fs) a = by-test (nat_eq f.sender source) (above-all m source fs a.1)
  where
    apart : f.sender ≡ m → ⊥
    apart e = lt_irrefl m (subst (λ k. m < k) e a.0)

    by-test : (b : Bool) → AllByRecursion (λ y. y ≡ m → ⊥) (senders (others source fs))
        → AllByRecursion (λ y. y ≡ m → ⊥) (senders (cond (not b) (f ∷ others source fs) (others source fs)))
    by-test true more = more
    by-test false more = (apart, more)

others-distinct : (source : ℕ) (fs : List SenderFloor) → Sorted fs → Distinct (senders (others source fs))
unfolding Distinct Sorted
others-distinct source [] s = tt
others-distinct source (f ∷ fs) s = by-test (nat_eq f.sender source) (others-distinct source fs s.1)
  where
    by-test : (b : Bool) → Distinct (senders (others source fs))
        → Distinct (senders (cond (not b) (f ∷ others source fs) (others source fs)))
    by-test true more = more
    by-test false more = (above-all f.sender source fs s.0, more)

others-apart : (source : ℕ) (fs : List SenderFloor) → AllByRecursion (λ y. y ≡ source → ⊥) (senders (others source fs))
others-apart source [] = tt
others-apart source (f ∷ fs) = by-test (nat_eq f.sender source) refl (others-apart source fs)
  where
    by-test : (b : Bool) → nat_eq f.sender source ≡ b
        → AllByRecursion (λ y. y ≡ source → ⊥) (senders (others source fs))
        → AllByRecursion (λ y. y ≡ source → ⊥) (senders (cond (not b) (f ∷ others source fs) (others source fs)))
    by-test true e more = more
    by-test false e more = (λ g. false≢true (sym e ∙ eq-eqb f.sender source g), more)

others-all : (P : ℕ → Type 0) (source : ℕ) (fs : List SenderFloor) → AllByRecursion (λ (f : SenderFloor). P f.sender)
    fs → AllByRecursion P (senders (others source fs))
others-all P source [] a = tt
others-all P source (f ∷ fs) a = by-test (nat_eq f.sender source) (others-all P source fs a.1)
  where
    by-test : (b : Bool) → AllByRecursion P (senders (others source fs))
        → AllByRecursion P (senders (cond (not b) (f ∷ others source fs) (others source fs)))
    by-test true more = more
    by-test false more = (a.0, more)

declared-in : (ps : List Station) (n : ℕ) → is_some (station_of ps n) ≡ true → In n (map (λ (p : Station). p.eui) ps)
unfolding station_of In
declared-in [] n e = absurd (false≢true e)
declared-in (p ∷ ps) n e = by-test (nat_eq p.eui n) refl e (declared-in ps n)
  where
    by-test : (b : Bool) → nat_eq p.eui n ≡ b → is_some (cond b (Some p) (find (λ (q : Station). nat_eq q.eui n) ps))
        ≡ true → (is_some (find (λ (q : Station). nat_eq q.eui n) ps) ≡ true → In n (map (λ (q : Station). q.eui) ps))
        → (p.eui ≡ n) ⊎ In n (map (λ (q : Station). q.eui) ps)
    by-test true f g more = inl (eqb-true p.eui n f)
    by-test false f g more = inr (more g)

few : (c : Setting) → length c.stations ≤ 64 → (source : ℕ) (fs : List SenderFloor) → Sorted fs
    → AllByRecursion (λ (f : SenderFloor). is_declared c f.sender ≡ true) fs → is_declared c source ≡ true
    → length (others source fs) < 64
unfolding Distinct In
few c most source fs s a d =
    omega (
      arith,
      most,
      length-map c.stations (λ (p : Station). p.eui),
      length-map (others source fs) (λ (f : SenderFloor). f.sender),
      no-more-than (source ∷ senders (others source fs)) (map (λ (p : Station). p.eui) c.stations)
          (others-apart source fs, others-distinct source fs s)
          (λ x i. declared-in c.stations x
          (⊎_elim (λ e. subst (λ n. is_declared c n ≡ true) e d)
          (λ j. all-in (λ n. is_declared c n ≡ true) (senders (others source fs))
          (others-all (λ n. is_declared c n ≡ true) source fs a) x j) i)),
    )

not-le : (n : ℕ) → n < 64 → (b : Bool) → nat_le 64 n ≡ b → b ≡ false
not-le n lt true e = absurd (lt_irrefl n (omega (arith, lt, Rattle.std.proofs.Common.leb-true 64 n e)))
not-le n lt false e = refl

and-false : (a b : Bool) → b ≡ false → (a && b) ≡ false
and-false true b e = e
and-false false b e = refl

few-stations : (w : Schedule) (n : ℕ) → length w.nodes ≤ 64 → length (setting_of w n).stations ≤ 64
unfolding setting_of
few-stations w n less =
    omega (arith, less, length-map (stations w) without_blocks, length-map w.nodes (λ (m : Node). m.station))

room-of : (w : Schedule) → length w.nodes ≤ 64 → (h : List Line) (n : ℕ) → NetsOf (setting_of w n) (state_of h n).nets
    → HasRoom w h n
room-of w less h n a sequence row e source counter d =
    and-false (nat_le (sender_floor source row).stored counter) (nat_le 64 (length (others source row.floors)))
    (not-le (length (others source row.floors))
    (few (setting_of w n) (few-stations w n less) source row.floors
    (all-in (λ (x : NetKey). Sorted x.floors) (state_of h n).nets (sound h n).floors row
    (usable-row (state_of h n) sequence row e))
    (all-in (FloorsOf (setting_of w n)) (state_of h n).nets a row (usable-row (state_of h n) sequence row e)) d)
    (nat_le 64 (length (others source row.floors))) refl)

-- The start, and every event

given-add : (c : Setting) (b : Bool) (d : ℕ) (key : Bytes) (q : ℕ) (nets : List NetKey) → NetsOf c nets
    → NetsOf c (cond b nets (nets ++ given_net d key q ∷ []))
given-add c true d key q nets a = a
given-add c false d key q nets a = all-append (FloorsOf c) nets (given_net d key q ∷ []) a (tt, tt)

declared-floors : (c : Setting) (v : ℕ) (b : Bool) (r : NetKey) → FloorsOf c r
    → FloorsOf c (cond b (record r { limit = max r.limit v; next = max r.next v }) r)
declared-floors c v true r a = a
declared-floors c v false r a = a

begins-of : (c : Setting) (l : Line) (s : NodeState) → Begins l → NetsOf c s.nets → NetsOf c (after l s).nets
unfolding after with_given_net with_given_link with_declared
begins-of c (Declared p) s b a = a
begins-of c (GivenNet n key q) s b a = given-add c (has_net key s.nets) s.declared key q s.nets a
begins-of c (GivenLink n p key) s b a = a
begins-of c (Counter n Nwk v) s b a = nets-map c (declared_at v) (λ r x. declared-floors c v r.started r x) s.nets a
begins-of c (Counter n Aps v) s b a = a
begins-of c _ s b a = absurd b

no-nets : (c : Setting) (n : ℕ) → NetsOf c (state_of [] n).nets
unfolding state_of
no-nets c n = tt

start-of : (w : Schedule) → AllKeep (λ h n s. NetsOf (setting_of w n) s.nets) (start w)
start-of w n = lines-with (λ s. NetsOf (setting_of w n) s.nets) Begins (begins-of (setting_of w n)) [] (start w)
    (start-begins w) (no-nets (setting_of w n)) n

any-events : (events : List Event) → AllByRecursion AnyEvent events
any-events [] = tt
any-events (e ∷ es) = (tt, any-events es)

pub has-room : (tools : Tools) → Opens tools → (w : Schedule) → length w.nodes ≤ 64
    → BeforeEach (λ h event. (n : ℕ) → HasRoom w h n) tools w (start w) [] 1 w.events
has-room tools opens w less =
    before-map (λ h event. AnyEvent event × AllKeep (λ x n s. NetsOf (setting_of w n) s.nets) h)
    (λ h event. (n : ℕ) → HasRoom w h n) (λ h event a n. room-of w less h n (a.1 n)) tools w (start w) [] 1
    w.events
    (kept-before tools w AnyEvent (λ h n s. NetsOf (setting_of w n) s.nets) (senders-kept tools opens w) (start w) []
    1 w.events (any-events w.events) (start-of w))
