-- Before each event of a run, the row of the active key is there and has started.
use Rattle.std.proofs.Common.{◌≡◌, ℕ, Bool, true, false, cond, List, [], ◌∷◌, ◌++◌, filter, Option, Some, None, flat_map, refl, sym, ap, ◌∙◌, subst, ◌⊎◌, inl, inr}
use Rattle.std.specs.List.{AllByRecursion}
use Rattle.zb_model.specs.Data.{Bytes, Layer, Nwk, Aps, Term, Edit, Reserve, Floor, Start, Moved, Move, Draw, DropNet, DropLink, Install, Active, Row, Pair, Became, Live, Removed, Roll, Told, Untold, Task}
use Rattle.zb_model.specs.Lines.{Line}
use Rattle.zb_model.specs.State.{NetKey, NodeState, has_net, at_net, new_net, dropped_net, net_floor, booted_net, applied, moved, applied_all, after_accepting, after_hearing, after_sealing, sealed_at, after_boot}
use Rattle.zb_model.specs.Tools.{Tools}
use Rattle.zb_model.specs.Rules.{Outcome, Stop, Does, Plan}
use Rattle.zb_model.specs.Answer.{Counting, answer_by, plan_of, counting_of, edits_of, reserve_edit, floor_edit, start_edit, changes, moves_of, activated, start_for, is_started_key}
use Rattle.zb_model.specs.Readings.{state_of}
use Rattle.zb_model.specs.Play.{Schedule, Event, Disk, setting_of, step}
use Rattle.law_run.proofs.EventStates.{IsKept, answer_to, step-kept}
use Rattle.law_run.proofs.Groups.{applied-all-append}
use Rattle.law_run_counters.proofs.Shown.{NoActive, MovesFit, Fits, plan-fits}
use Rattle.law_run_counters.proofs.Sections.{IsReserve, IsFloor, are-reserves, are-floors, kept_moves}
use Rattle.law_run_counters.proofs.Calls.{edits_by, filter-fits}
use Rattle.law_run_counters.proofs.Started.{started, started-map, started-at, started-moved, started-heard, started-sealed, reserve-same, start-at, plain-row, or-yes, Within, same-nets, install-nets, drop-nets, floors-within, reserves-within, ActiveStarted}

pub moves-fit : (s : NodeState) (o : Outcome) → Fits s o → MovesFit s.nets (filter (changes s) (moves_of o))
moves-fit s (Stop reason) f = tt
moves-fit s (Does moves send) f = filter-fits s s.nets moves f.0

-- a started row stays started
abbrev Grows : NodeState → NodeState → Type 0
Grows s t = (k : Bytes) → started k s.nets ≡ true → started k t.nets ≡ true

-- what keeps the active key and the started rows
from : (s t : NodeState) → t.active ≡ s.active → ((k : Bytes) → started k t.nets ≡ started k s.nets) → ActiveStarted s
    → ActiveStarted t
from s t e same active a found = same a ∙ active a (sym e ∙ found)

-- reserves and floors

mild-active : (e : Edit) → IsReserve e ⊎ IsFloor e → (s : NodeState) → (applied e s).active ≡ s.active
unfolding applied
mild-active (Reserve Nwk v) q s = refl
mild-active (Reserve Aps v) q s = refl
mild-active (Floor Nwk k p v) q s = refl
mild-active (Floor Aps k p v) q s = refl
mild-active (Start k v) q s = refl
mild-active (Moved m) (inl q) s = absurd q
mild-active (Moved m) (inr q) s = absurd q

mild-rows : (e : Edit) → IsReserve e ⊎ IsFloor e → (s : NodeState) → ActiveStarted s → (key : Bytes)
    → started key (applied e s).nets ≡ started key s.nets
unfolding applied
mild-rows (Reserve Nwk v) q s active key = reserve-same v s.active key s.nets active
mild-rows (Reserve Aps v) q s active key = refl
mild-rows (Floor Nwk k p v) q s active key =
    started-at (net_floor p v) (plain-row (net_floor p v) (λ r. refl) (λ r. refl)) key k s.nets
mild-rows (Floor Aps k p v) q s active key = refl
mild-rows (Start k v) (inl q) s active key = absurd q
mild-rows (Start k v) (inr q) s active key = absurd q
mild-rows (Moved m) (inl q) s active key = absurd q
mild-rows (Moved m) (inr q) s active key = absurd q

and-before : (s t u : NodeState) → ((key : Bytes) → started key t.nets ≡ started key s.nets) → ActiveStarted u
    × Grows t u → ActiveStarted u × Grows s u
and-before s t u same more = (more.0, λ k f. more.1 k (same k ∙ f))

mild-all : (es : List Edit) → AllByRecursion (λ e. IsReserve e ⊎ IsFloor e) es → (s : NodeState) → ActiveStarted s
    → ActiveStarted (applied_all es s) × Grows s (applied_all es s)
unfolding applied_all
mild-all [] a s active = (active, λ k e. e)
mild-all (e ∷ es) a s active = and-before s (applied e s) (applied_all es (applied e s)) (mild-rows e a.0 s active)
    (mild-all es a.1 (applied e s) (from s (applied e s) (mild-active e a.0 s) (mild-rows e a.0 s active) active))

-- moves

moved-active : (m : Move) → NoActive m → (s : NodeState) → (applied (Moved m) s).active ≡ s.active
unfolding applied
moved-active (Active key) n s = absurd n
moved-active (Draw k) n s = refl
moved-active (DropNet k) n s = refl
moved-active (DropLink p k) n s = refl
moved-active (Install k q) n s = refl
moved-active (Row p k t) n s = refl
moved-active (Pair x y k) n s = refl
moved-active (Became g) n s = refl
moved-active (Live d) n s = refl
moved-active (Removed d) n s = refl
moved-active (Roll b) n s = refl
moved-active (Told d) n s = refl
moved-active (Untold d) n s = refl

moved-rows : (m : Move) (s : NodeState) (key : Bytes) → started key (applied (Moved m) s).nets ≡ started key s.nets
unfolding applied
moved-rows m s key = started-moved key m s

move-active : (m : Move) → NoActive m → (s : NodeState) → ActiveStarted s → ActiveStarted (applied (Moved m) s)
move-active m n s active = from s (applied (Moved m) s) (moved-active m n s) (moved-rows m s) active

rest-active : (k : Counting) (ms : List Move) → AllByRecursion NoActive ms → (s : NodeState) → ActiveStarted s
    → ActiveStarted (applied_all (edits_by k ms) s)
unfolding applied_all
rest-active k [] a s active = active
rest-active k (Active key ∷ ms) a s active = absurd a.0
rest-active k (Draw key ∷ ms) a s active = rest-active k ms a.1 (applied (Moved (Draw key)) s)
    (move-active (Draw key) tt s active)
rest-active k (DropNet key ∷ ms) a s active = rest-active k ms a.1 (applied (Moved (DropNet key)) s)
    (move-active (DropNet key) tt s active)
rest-active k (DropLink p key ∷ ms) a s active = rest-active k ms a.1 (applied (Moved (DropLink p key)) s)
    (move-active (DropLink p key) tt s active)
rest-active k (Install key q ∷ ms) a s active = rest-active k ms a.1 (applied (Moved (Install key q)) s)
    (move-active (Install key q) tt s active)
rest-active k (Row p key t ∷ ms) a s active = rest-active k ms a.1 (applied (Moved (Row p key t)) s)
    (move-active (Row p key t) tt s active)
rest-active k (Pair x y key ∷ ms) a s active = rest-active k ms a.1 (applied (Moved (Pair x y key)) s)
    (move-active (Pair x y key) tt s active)
rest-active k (Became g ∷ ms) a s active = rest-active k ms a.1 (applied (Moved (Became g)) s)
    (move-active (Became g) tt s active)
rest-active k (Live d ∷ ms) a s active = rest-active k ms a.1 (applied (Moved (Live d)) s)
    (move-active (Live d) tt s active)
rest-active k (Removed d ∷ ms) a s active = rest-active k ms a.1 (applied (Moved (Removed d)) s)
    (move-active (Removed d) tt s active)
rest-active k (Roll b ∷ ms) a s active = rest-active k ms a.1 (applied (Moved (Roll b)) s)
    (move-active (Roll b) tt s active)
rest-active k (Told d ∷ ms) a s active = rest-active k ms a.1 (applied (Moved (Told d)) s)
    (move-active (Told d) tt s active)
rest-active k (Untold d ∷ ms) a s active = rest-active k ms a.1 (applied (Moved (Untold d)) s)
    (move-active (Untold d) tt s active)

-- the key that becomes active starts, unless it has before
abbrev StartsAs : NodeState → Bytes → Option ℕ → Type 0
StartsAs s0 key o = o ≡ start_for s0 (Some key)

test-none : (b : Bool) (v : ℕ) → None ≡ cond b None (Some v) → b ≡ true
test-none true v e = refl
test-none false v e = absurd (none≢some v e)
  where
    is-none : Option ℕ → Type 0
    is-none None = Unit {0}
    is-none (Some n) = ⊥

    none≢some : (n : ℕ) → None ≡ Some n → ⊥
    none≢some n e = subst is-none e tt

pub one-active : (key a : Bytes) → Some key ≡ Some a → key ≡ a
one-active key a e = ap (λ o. Rattle.std.specs.Prelude.unwrap_or o key) e

activates : (s0 : NodeState) (key : Bytes) (o : Option ℕ) → StartsAs s0 key o → (s : NodeState) → Grows s0 s
    → has_net key s.nets ≡ true → ActiveStarted (applied_all (start_edit key o) (applied (Moved (Active key)) s))
unfolding applied_all applied
activates s0 key None e s g h a found = subst (λ k. started k s.nets ≡ true) (one-active key a found)
    (g key (test-none (is_started_key s0 key) (Rattle.zb_model.specs.Answer.first_counter s0) e))
activates s0 key (Some v) e s g h a found =
    start-at v key a s.nets h ∙ sym
    (or-yes (started a s.nets) (Rattle.zb_model.specs.State.same_key key a)
    (subst (λ k. Rattle.zb_model.specs.State.same_key key k ≡ true) (one-active key a found)
    (Rattle.law_run.proofs.Basics.same_key-refl key)))

grown : (s0 : NodeState) (m : Move) (s : NodeState) → Grows s0 s → Grows s0 (applied (Moved m) s)
grown s0 m s g k e = moved-rows m s k ∙ g k e

moves-active : (s0 : NodeState) (k : Counting) (nets : List NetKey) (s : NodeState) (ms : List Move)
    → MovesFit nets ms → Within nets s.nets → k.start ≡ start_for s0 (activated s0 ms) → Grows s0 s → ActiveStarted s
    → ActiveStarted (applied_all (edits_by k ms) s)
unfolding applied_all
moves-active s0 k nets s [] f w e g active = active
moves-active s0 k nets s (Active key ∷ ms) f w e g active =
    subst ActiveStarted
    (sym (applied-all-append (start_edit key k.start) (edits_by k ms) (applied (Moved (Active key)) s)))
    (rest-active k ms f.1 (applied_all (start_edit key k.start) (applied (Moved (Active key)) s))
    (activates s0 key k.start e s g (w key f.0)))
moves-active s0 k nets s (Draw key ∷ ms) f w e g active = moves-active s0 k nets (applied (Moved (Draw key)) s) ms f
    (same-nets nets (Draw key) s refl w) e (grown s0 (Draw key) s g) (move-active (Draw key) tt s active)
moves-active s0 k nets s (DropNet key ∷ ms) f w e g active = moves-active s0 k (at_net key dropped_net nets)
    (applied (Moved (DropNet key)) s) ms f (drop-nets nets key s w) e (grown s0 (DropNet key) s g)
    (move-active (DropNet key) tt s active)
moves-active s0 k nets s (DropLink p key ∷ ms) f w e g active =
    moves-active s0 k nets (applied (Moved (DropLink p key)) s) ms f (same-nets nets (DropLink p key) s refl w) e
    (grown s0 (DropLink p key) s g) (move-active (DropLink p key) tt s active)
moves-active s0 k nets s (Install key q ∷ ms) f w e g active =
    moves-active s0 k (cond (has_net key nets) nets (nets ++ new_net key q ∷ [])) (applied (Moved (Install key q)) s)
    ms f (install-nets nets key q s w) e (grown s0 (Install key q) s g) (move-active (Install key q) tt s active)
moves-active s0 k nets s (Row p key t ∷ ms) f w e g active = moves-active s0 k nets (applied (Moved (Row p key t)) s)
    ms f (same-nets nets (Row p key t) s refl w) e (grown s0 (Row p key t) s g) (move-active (Row p key t) tt s active)
moves-active s0 k nets s (Pair x y key ∷ ms) f w e g active =
    moves-active s0 k nets (applied (Moved (Pair x y key)) s) ms f (same-nets nets (Pair x y key) s refl w) e
    (grown s0 (Pair x y key) s g) (move-active (Pair x y key) tt s active)
moves-active s0 k nets s (Became q ∷ ms) f w e g active = moves-active s0 k nets (applied (Moved (Became q)) s) ms f
    (same-nets nets (Became q) s refl w) e (grown s0 (Became q) s g) (move-active (Became q) tt s active)
moves-active s0 k nets s (Live d ∷ ms) f w e g active = moves-active s0 k nets (applied (Moved (Live d)) s) ms f
    (same-nets nets (Live d) s refl w) e (grown s0 (Live d) s g) (move-active (Live d) tt s active)
moves-active s0 k nets s (Removed d ∷ ms) f w e g active = moves-active s0 k nets (applied (Moved (Removed d)) s) ms f
    (same-nets nets (Removed d) s refl w) e (grown s0 (Removed d) s g) (move-active (Removed d) tt s active)
moves-active s0 k nets s (Roll b ∷ ms) f w e g active = moves-active s0 k nets (applied (Moved (Roll b)) s) ms f
    (same-nets nets (Roll b) s refl w) e (grown s0 (Roll b) s g) (move-active (Roll b) tt s active)
moves-active s0 k nets s (Told d ∷ ms) f w e g active = moves-active s0 k nets (applied (Moved (Told d)) s) ms f
    (same-nets nets (Told d) s refl w) e (grown s0 (Told d) s g) (move-active (Told d) tt s active)
moves-active s0 k nets s (Untold d ∷ ms) f w e g active = moves-active s0 k nets (applied (Moved (Untold d)) s) ms f
    (same-nets nets (Untold d) s refl w) e (grown s0 (Untold d) s g) (move-active (Untold d) tt s active)

-- all edits of an answer

each-mild : (P Q : Edit → Type 0) → ((e : Edit) → P e → Q e) → (es : List Edit) → AllByRecursion P es
    → AllByRecursion Q es
each-mild P Q k [] a = tt
each-mild P Q k (e ∷ es) a = (k e a.0, each-mild P Q k es a.1)

pub edits-active : (s : NodeState) (k : Counting) (p : Plan) → k.start ≡ start_for s (activated s (kept_moves s p))
    → MovesFit s.nets (kept_moves s p) → ActiveStarted s → ActiveStarted (applied_all (edits_of s k p) s)
unfolding edits_of
edits-active s k p e moves active =
    subst ActiveStarted
    (sym (applied-all-append first (second ++ edits_by k (kept_moves s p)) s ∙ applied-all-append second
    (edits_by k (kept_moves s p)) (applied_all first s)))
    (moves-active s k s.nets (applied_all second (applied_all first s)) (kept_moves s p) moves
    (λ j h. floors-within second (are-floors k p.accepts) (applied_all first s) j
    (reserves-within first (are-reserves k) s j h)) e
    (λ j f. floored.1 j (reserved.1 j f)) floored.0)
  where
    first : List Edit
    first = reserve_edit k Nwk ++ reserve_edit k Aps

    second : List Edit
    second = flat_map (floor_edit k) p.accepts

    reserved : ActiveStarted (applied_all first s) × Grows s (applied_all first s)
    reserved =
        mild-all first (each-mild IsReserve (λ x. IsReserve x ⊎ IsFloor x) (λ x q. inl q) first (are-reserves k)) s
        active

    floored : ActiveStarted (applied_all second (applied_all first s))
        × Grows (applied_all first s) (applied_all second (applied_all first s))
    floored =
        mild-all second
        (each-mild IsFloor (λ x. IsReserve x ⊎ IsFloor x) (λ x q. inr q) second (are-floors k p.accepts))
        (applied_all first s) reserved.0

-- over a run

heard-active : (layer : Layer) (k : Bytes) (sender counter : ℕ) (s : NodeState)
    → (after_hearing layer k sender counter s).active ≡ s.active
unfolding after_hearing
heard-active Nwk k sender counter s = refl
heard-active Aps k sender counter s = refl

sealed-active : (layer : Layer) (t : Term) (s : NodeState) → (sealed_at layer t s).active ≡ s.active
sealed-active Nwk t s = refl
sealed-active Aps t s = refl

accept-active : (t : Term) (s : NodeState) → ActiveStarted s → ActiveStarted (after_accepting t s)
unfolding after_accepting
accept-active t s active = from s (after_hearing t.layer t.base t.source t.counter s)
    (heard-active t.layer t.base t.source t.counter s) (λ k. started-heard k t.layer t.base t.source t.counter s)
    active

seal-active : (t : Term) (s : NodeState) → ActiveStarted s → ActiveStarted (after_sealing t s)
unfolding after_sealing
seal-active t s active = from s (sealed_at t.layer t s) (sealed-active t.layer t s)
    (λ k. started-sealed k t.layer t s) active

boot-active : (s : NodeState) → ActiveStarted s → ActiveStarted (after_boot s)
unfolding after_boot
boot-active s active =
    from s (after_boot s) refl (λ k. started-map booted_net (plain-row booted_net (λ r. refl) (λ r. refl)) k s.nets)
    active

abbrev pub AnyEvent : Event → Type 0
AnyEvent event = Unit {0}

abbrev pub AllActive : List Line → Type 0
AllActive h = (n : ℕ) → ActiveStarted (state_of h n)

answers-active : (tools : Tools) (w : Schedule) (h : List Line) (n : ℕ) (task : Task) → ActiveStarted (state_of h n)
    → ActiveStarted (applied_all (answer_to tools w h n task).edits (state_of h n))
unfolding answer_by counting_of
answers-active tools w h n task active =
    edits-active (state_of h n) _ (plan_of tools (setting_of w n) (state_of h n) task) refl
    (moves-fit (state_of h n) (plan_of tools (setting_of w n) (state_of h n) task).outcome
    (plan-fits tools (setting_of w n) (state_of h n) task)) active

pub active-kept : (tools : Tools) (w : Schedule) (E : Event → Type 0) → IsKept tools w E (λ h n s. ActiveStarted s)
active-kept tools w E = record {
  more = λ h ls n s p. p;
  answers = λ h number n task is all. answers-active tools w h n task (all n);
  accepts = λ h n t s p. accept-active t s p;
  seals = λ h n t s p. seal-active t s p;
  boots = λ h n s p. boot-active s p;
}

pub active-step : (tools : Tools) (w : Schedule) (h : List Line) (disks : List Disk) (number : ℕ) (event : Event)
    → AllActive h → AllActive (h ++ (step tools w h disks number event).lines)
active-step tools w h disks number event all = step-kept tools w AnyEvent (λ h n s. ActiveStarted s)
    (active-kept tools w AnyEvent) h disks number event tt all
