-- A node with a network key has an active row: a network key that is installed makes a key active, if none is.
use Rattle.std.proofs.Common.{◌≡◌, ℕ, ◌+◌, Bool, true, false, cond, not, List, [], ◌∷◌, ◌++◌, map, filter, Option, Some, None, flat_map, is_some, refl, sym, ap, ◌∙◌, subst}
use Rattle.std.proofs.lemmas.Bool.{false≢true}
use Rattle.std.specs.List.{AllByRecursion}
use Rattle.zb_model.specs.Data.{Bytes, Layer, Nwk, Aps, Term, Edit, Reserve, Floor, Start, Moved, Move, Draw, DropNet, DropLink, Install, Active, Row, Pair, Became, Live, Removed, Roll, Told, Untold}
use Rattle.zb_model.specs.Lines.{Line, Declared, GivenNet, GivenLink, Counter}
use Rattle.zb_model.specs.State.{NetKey, NodeState, is_active_key, net_of_active, active_row, of_active, at_net, reserved, net_floor, started_at, net_kept, next_at, dropped_net, booted_net, declared_at, applied, applied_all, after_accepting, after_hearing, after_sealing, sealed_at, after_boot, with_given_net, with_given_link, with_declared}
use Rattle.zb_model.specs.Answer.{Counting, row_is_started, changes, move_edits, start_edit, edits_of, moves_of}
use Rattle.zb_model.specs.Rules.{Plan}
use Rattle.zb_model.specs.Readings.{after}
use Rattle.law_run.proofs.ConfirmsRuns.{Mere, rest_edits, rests-mere}
use Rattle.law_run.proofs.Groups.{applied-all-append}
use Rattle.law_run.proofs.LockoutGroups.{edits-parts}
use Rattle.law_run_counters.proofs.Started.{ActiveStarted}
use Rattle.law_run_lookups.proofs.Standing.{Begins}

-- an active row is there
abbrev pub Awake : NodeState → Type 0
Awake s = is_some (active_row s) ≡ true

-- without an active key there is no network key
abbrev pub Rests : NodeState → Type 0
Rests s = is_some s.active ≡ false → s.nets ≡ []

-- after the moves a key is active; after each network key that is installed, one is
abbrev pub Wakes : List Move → Type 0
Wakes [] = ⊥
Wakes (Active k ∷ ms) = Unit {0}
Wakes (_ ∷ ms) = Wakes ms

abbrev pub Leads : List Move → Type 0
Leads [] = Unit {0}
Leads (Install k q ∷ ms) = Wakes ms
Leads (Active k ∷ ms) = Unit {0}
Leads (_ ∷ ms) = Leads ms

-- An active key stays

move-active : (m : Move) (s : NodeState) → is_some s.active ≡ true → is_some (applied (Moved m) s).active ≡ true
unfolding applied
move-active (Active k) s e = refl
move-active (Draw k) s e = e
move-active (DropNet k) s e = e
move-active (DropLink p k) s e = e
move-active (Install k q) s e = e
move-active (Row p k t) s e = e
move-active (Pair a b k) s e = e
move-active (Became g) s e = e
move-active (Live d) s e = e
move-active (Removed d) s e = e
move-active (Roll b) s e = e
move-active (Told d) s e = e
move-active (Untold d) s e = e

edit-active : (x : Edit) (s : NodeState) → is_some s.active ≡ true → is_some (applied x s).active ≡ true
unfolding applied
edit-active (Reserve Nwk v) s e = e
edit-active (Reserve Aps v) s e = e
edit-active (Floor Nwk k p v) s e = e
edit-active (Floor Aps k p v) s e = e
edit-active (Start k v) s e = e
edit-active (Moved m) s e = move-active m s e

edits-active : (es : List Edit) (s : NodeState) → is_some s.active ≡ true → is_some (applied_all es s).active ≡ true
unfolding applied_all
edits-active [] s e = e
edits-active (x ∷ es) s e = edits-active es (applied x s) (edit-active x s e)

awake-rests : (s : NodeState) → is_some s.active ≡ true → Rests s
awake-rests s e f = absurd (false≢true (sym f ∙ e))

-- Without an active key, and without a network key

record Bare (s : NodeState) : Type 0 where
  active : is_some s.active ≡ false
  nets : s.nets ≡ []

of-none : (f : NetKey → NetKey) (o : Option Bytes) (nets : List NetKey) → nets ≡ [] → of_active f o nets ≡ []
of-none f None nets e = e
of-none f (Some k) nets e = ap (at_net k f) e

mere-bare : (x : Edit) → Mere x → (s : NodeState) → Bare s → Bare (applied x s)
unfolding applied
mere-bare (Reserve Nwk v) q s b = record { active = b.active; nets = of-none (reserved v) s.active s.nets b.nets }
mere-bare (Reserve Aps v) q s b = record { active = b.active; nets = b.nets }
mere-bare (Floor Nwk k p v) q s b = record { active = b.active; nets = ap (at_net k (net_floor p v)) b.nets }
mere-bare (Floor Aps k p v) q s b = record { active = b.active; nets = b.nets }
mere-bare (Start k v) q s b = record { active = b.active; nets = ap (at_net k (started_at v)) b.nets }
mere-bare (Moved m) q s b = absurd q

mere-bares : (es : List Edit) → AllByRecursion Mere es → (s : NodeState) → Bare s → Bare (applied_all es s)
unfolding applied_all
mere-bares [] a s b = b
mere-bares (x ∷ es) a s b = mere-bares es a.1 (applied x s) (mere-bare x a.0 s b)

-- The changes of moves, seen from a state without an active key

abbrev kept : Counting → NodeState → List Move → List Edit
kept k s0 ms = flat_map (move_edits k) (filter (changes s0) ms)

-- a move after which the rest continues, whether or not it changes anything
abbrev Woken : Counting → NodeState → List Move → Type 0
Woken k s0 ms = (s : NodeState) → is_some (applied_all (kept k s0 ms) s).active ≡ true

by-either : (k : Counting) (s0 : NodeState) (m : Move) (ms : List Move) (b : Bool) → Woken k s0 ms → (s : NodeState)
    → is_some
    (applied_all (flat_map (move_edits k) (cond b (m ∷ filter (changes s0) ms) (filter (changes s0) ms))) s).active
    ≡ true
by-either k s0 m ms true w s =
    subst (λ x. is_some x.active ≡ true) (sym (applied-all-append (move_edits k m) (kept k s0 ms) s))
    (w (applied_all (move_edits k m) s))
by-either k s0 m ms false w s = w s

-- the key that is made active isn't the active one
is-new : (o : Option Bytes) (key : Bytes) → is_some o ≡ false → not (is_active_key o key) ≡ true
is-new None key e = refl
is-new (Some a) key e = absurd (false≢true (sym e))

active-kept : (k : Counting) (s0 : NodeState) (key : Bytes) (ms : List Move) (b : Bool) → b ≡ true → (s : NodeState)
    → is_some
    (applied_all (flat_map (move_edits k) (cond b (Active key ∷ filter (changes s0) ms) (filter (changes s0) ms)))
    s).active ≡ true
unfolding applied_all applied
active-kept k s0 key ms true e s = edits-active (start_edit key k.start ++ kept k s0 ms)
    (record s { active = Some key }) refl
active-kept k s0 key ms false e s = absurd (false≢true e)

woken : (k : Counting) (s0 : NodeState) → is_some s0.active ≡ false → (ms : List Move) → Wakes ms → Woken k s0 ms
woken k s0 none [] w s = absurd w
woken k s0 none (Active key ∷ ms) w s = active-kept k s0 key ms (not (is_active_key s0.active key))
    (is-new s0.active key none) s
woken k s0 none (Draw j ∷ ms) w s = by-either k s0 (Draw j) ms (changes s0 (Draw j)) (woken k s0 none ms w) s
woken k s0 none (DropNet j ∷ ms) w s = by-either k s0 (DropNet j) ms (changes s0 (DropNet j)) (woken k s0 none ms w) s
woken k s0 none (DropLink p j ∷ ms) w s = by-either k s0 (DropLink p j) ms (changes s0 (DropLink p j))
    (woken k s0 none ms w) s
woken k s0 none (Install j q ∷ ms) w s = by-either k s0 (Install j q) ms (changes s0 (Install j q))
    (woken k s0 none ms w) s
woken k s0 none (Row p j t ∷ ms) w s = by-either k s0 (Row p j t) ms (changes s0 (Row p j t)) (woken k s0 none ms w) s
woken k s0 none (Pair a b j ∷ ms) w s = by-either k s0 (Pair a b j) ms (changes s0 (Pair a b j))
    (woken k s0 none ms w) s
woken k s0 none (Became g ∷ ms) w s = by-either k s0 (Became g) ms (changes s0 (Became g)) (woken k s0 none ms w) s
woken k s0 none (Live d ∷ ms) w s = by-either k s0 (Live d) ms (changes s0 (Live d)) (woken k s0 none ms w) s
woken k s0 none (Removed d ∷ ms) w s = by-either k s0 (Removed d) ms (changes s0 (Removed d)) (woken k s0 none ms w) s
woken k s0 none (Roll b ∷ ms) w s = by-either k s0 (Roll b) ms (changes s0 (Roll b)) (woken k s0 none ms w) s
woken k s0 none (Told d ∷ ms) w s = by-either k s0 (Told d) ms (changes s0 (Told d)) (woken k s0 none ms w) s
woken k s0 none (Untold d ∷ ms) w s = by-either k s0 (Untold d) ms (changes s0 (Untold d)) (woken k s0 none ms w) s

-- moves that bring no network key and make none active leave the state bare
abbrev Idle : Move → Type 0
Idle (Install k q) = ⊥
Idle (Active k) = ⊥
Idle _ = Unit {0}

idle-bare : (k : Counting) (m : Move) → Idle m → (s : NodeState) → Bare s → Bare (applied_all (move_edits k m) s)
unfolding applied_all applied
idle-bare k (Active j) i s b = absurd i
idle-bare k (Install j q) i s b = absurd i
idle-bare k (Draw j) i s b = b
idle-bare k (DropNet j) i s b = record { active = b.active; nets = ap (at_net j dropped_net) b.nets }
idle-bare k (DropLink p j) i s b = record { active = b.active; nets = b.nets }
idle-bare k (Row p j t) i s b = record { active = b.active; nets = b.nets }
idle-bare k (Pair x y j) i s b = record { active = b.active; nets = b.nets }
idle-bare k (Became g) i s b = record { active = b.active; nets = b.nets }
idle-bare k (Live d) i s b = record { active = b.active; nets = b.nets }
idle-bare k (Removed d) i s b = record { active = b.active; nets = b.nets }
idle-bare k (Roll c) i s b = record { active = b.active; nets = b.nets }
idle-bare k (Told d) i s b = record { active = b.active; nets = b.nets }
idle-bare k (Untold d) i s b = record { active = b.active; nets = b.nets }

abbrev Calms : Counting → NodeState → List Move → Type 0
Calms k s0 ms = (s : NodeState) → Bare s → Rests (applied_all (kept k s0 ms) s)

idle-either : (k : Counting) (s0 : NodeState) (m : Move) (ms : List Move) (b : Bool) → Idle m → Calms k s0 ms
    → (s : NodeState) → Bare s
    → Rests (applied_all (flat_map (move_edits k) (cond b (m ∷ filter (changes s0) ms) (filter (changes s0) ms))) s)
idle-either k s0 m ms true i c s b = subst Rests (sym (applied-all-append (move_edits k m) (kept k s0 ms) s))
    (c (applied_all (move_edits k m) s) (idle-bare k m i s b))
idle-either k s0 m ms false i c s b = c s b

calm : (k : Counting) (s0 : NodeState) → is_some s0.active ≡ false → (ms : List Move) → Leads ms → Calms k s0 ms
unfolding applied_all
calm k s0 none [] l s b = λ e. b.nets
calm k s0 none (Active key ∷ ms) l s b = awake-rests (applied_all (kept k s0 (Active key ∷ ms)) s)
    (woken k s0 none (Active key ∷ ms) tt s)
calm k s0 none (Install j q ∷ ms) l s b = awake-rests (applied_all (kept k s0 (Install j q ∷ ms)) s)
    (woken k s0 none (Install j q ∷ ms) l s)
calm k s0 none (Draw j ∷ ms) l s b = idle-either k s0 (Draw j) ms (changes s0 (Draw j)) tt (calm k s0 none ms l) s b
calm k s0 none (DropNet j ∷ ms) l s b = idle-either k s0 (DropNet j) ms (changes s0 (DropNet j)) tt
    (calm k s0 none ms l) s b
calm k s0 none (DropLink p j ∷ ms) l s b = idle-either k s0 (DropLink p j) ms (changes s0 (DropLink p j)) tt
    (calm k s0 none ms l) s b
calm k s0 none (Row p j t ∷ ms) l s b = idle-either k s0 (Row p j t) ms (changes s0 (Row p j t)) tt
    (calm k s0 none ms l) s b
calm k s0 none (Pair x y j ∷ ms) l s b = idle-either k s0 (Pair x y j) ms (changes s0 (Pair x y j)) tt
    (calm k s0 none ms l) s b
calm k s0 none (Became g ∷ ms) l s b = idle-either k s0 (Became g) ms (changes s0 (Became g)) tt (calm k s0 none ms l)
    s b
calm k s0 none (Live d ∷ ms) l s b = idle-either k s0 (Live d) ms (changes s0 (Live d)) tt (calm k s0 none ms l) s b
calm k s0 none (Removed d ∷ ms) l s b = idle-either k s0 (Removed d) ms (changes s0 (Removed d)) tt
    (calm k s0 none ms l) s b
calm k s0 none (Roll c ∷ ms) l s b = idle-either k s0 (Roll c) ms (changes s0 (Roll c)) tt (calm k s0 none ms l) s b
calm k s0 none (Told d ∷ ms) l s b = idle-either k s0 (Told d) ms (changes s0 (Told d)) tt (calm k s0 none ms l) s b
calm k s0 none (Untold d ∷ ms) l s b = idle-either k s0 (Untold d) ms (changes s0 (Untold d)) tt (calm k s0 none ms l)
    s b

-- a whole answer

in-two : (s : NodeState) (k : Counting) (p : Plan) → applied_all (edits_of s k p) s
    ≡ applied_all (kept k s (moves_of p.outcome)) (applied_all (rest_edits k p.accepts) s)
in-two s k p = ap (λ es. applied_all es s) (edits-parts s k p) ∙ applied-all-append (rest_edits k p.accepts)
    (kept k s (moves_of p.outcome)) s

pub answer-rests : (s : NodeState) (k : Counting) (p : Plan) → (is_some s.active ≡ false → Leads (moves_of p.outcome))
    → Rests s → Rests (applied_all (edits_of s k p) s)
answer-rests s k p leads rests = by-test (is_some s.active) refl
  where
    by-test : (b : Bool) → is_some s.active ≡ b → Rests (applied_all (edits_of s k p) s)
    by-test true e = awake-rests (applied_all (edits_of s k p) s) (edits-active (edits_of s k p) s e)
    by-test false e = subst Rests (sym (in-two s k p))
        (calm k s e (moves_of p.outcome) (leads e) (applied_all (rest_edits k p.accepts) s)
        (mere-bares (rest_edits k p.accepts) (rests-mere k p.accepts) s (record { active = e; nets = rests e })))

-- Terms that are accepted and sealed, and boots

heard-rests : (layer : Layer) (key : Bytes) (sender counter : ℕ) (s : NodeState) → Rests s
    → Rests (after_hearing layer key sender counter s)
unfolding after_hearing
heard-rests Nwk key sender counter s r = λ e. ap (at_net key (net_kept sender (counter + 1))) (r e)
heard-rests Aps key sender counter s r = r

pub accept-rests : (t : Term) (s : NodeState) → Rests s → Rests (after_accepting t s)
unfolding after_accepting
accept-rests t s r = heard-rests t.layer t.base t.source t.counter s r

sealed-rests : (layer : Layer) (t : Term) (s : NodeState) → Rests s → Rests (sealed_at layer t s)
sealed-rests Nwk t s r = λ e. ap (at_net t.base (next_at (t.counter + 1))) (r e)
sealed-rests Aps t s r = r

pub seal-rests : (t : Term) (s : NodeState) → Rests s → Rests (after_sealing t s)
unfolding after_sealing
seal-rests t s r = sealed-rests t.layer t s r

pub boot-rests : (s : NodeState) → Rests s → Rests (after_boot s)
unfolding after_boot
boot-rests s r = λ e. ap (map booted_net) (r e)

-- the lines of the start
pub begin-rests : (l : Line) (s : NodeState) → Begins l → Rests s → Rests (after l s)
unfolding after with_given_net with_given_link with_declared
begin-rests (Declared p) s b r = r
begin-rests (GivenNet n key q) s b r = λ e. absurd (false≢true (sym e))
begin-rests (GivenLink n p key) s b r = r
begin-rests (Counter n Nwk v) s b r = λ e. ap (map (declared_at v)) (r e)
begin-rests (Counter n Aps v) s b r = r
begin-rests _ s b r = absurd b

-- The result: an active row, if there is a network key

row-some : (o : Option NetKey) → row_is_started o ≡ true → is_some o ≡ true
row-some None e = e
row-some (Some r) e = refl

awake-by : (s : NodeState) (o : Option Bytes) → s.active ≡ o → is_some o ≡ true → ActiveStarted s
    → is_some (net_of_active o s) ≡ true
awake-by s None e f a = absurd (false≢true f)
awake-by s (Some key) e f a = row-some (net_of_active (Some key) s) (a key e)

pub wakes-up : (s : NodeState) → (s.nets ≡ [] → ⊥) → Rests s → ActiveStarted s → Awake s
unfolding active_row
wakes-up s some rests a = by-test (is_some s.active) refl
  where
    by-test : (b : Bool) → is_some s.active ≡ b → is_some (net_of_active s.active s) ≡ true
    by-test true e = awake-by s s.active refl e a
    by-test false e = absurd (some (rests e))
