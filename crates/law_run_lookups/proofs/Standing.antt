-- What the rules take for granted is true of every node before each event of a run.
use Rattle.std.proofs.Common.{◌≡◌, ℕ, ◌<◌, ◌≤◌, ◌+◌, Bool, true, false, cond, ◌&&◌, ◌||◌, not, List, [], ◌∷◌, ◌++◌, map, find, Option, Some, None, option_to_list, is_some, flat_map, slice_get, nat_eq, refl, sym, ap, ◌∙◌, subst, append_assoc, arith, le_refl, eq-eqb, ◌⊎◌, inl, inr}
use Rattle.std.proofs.lemmas.Bool.{false≢true}
use Rattle.std.specs.List.{AllByRecursion, list_any}
use Rattle.zb_model.specs.Data.{Bytes, Layer, Nwk, Aps, Station, State, Fresh, Joined, Offered, Provisional, Term, Edit, Reserve, Floor, Start, Moved, Move, Task}
use Rattle.zb_model.specs.Lines.{Line, Declared, GivenNet, GivenLink, Counter, Changed}
use Rattle.zb_model.specs.State.{NetKey, LinkKey, NodeState, same_key, is_centre, is_unverified, is_link, is_live_of, has_net, has_link, at_link, revived, new_link, applied_all, after_accepting, after_sealing, after_boot, after_hearing, sealed_at, net_of_active, active_row, current, offered, with_given_net, with_given_link, with_declared}
use Rattle.zb_model.specs.Tools.{Tools}
use Rattle.zb_model.specs.Rules.{Setting, Plan, Outcome, Stop, Does, centre_of, unless_held}
use Rattle.zb_model.specs.Answer.{Counting, row_is_started, answer_by, plan_of, counting_of, moves_of, edits_of}
use Rattle.zb_model.specs.Readings.{state_of, after, draws_used}
use Rattle.zb_model.specs.Play.{Schedule, Node, Event, Disk, stations, setting_of, supply, step, start, net_line, link_line, limit_line, stored_lines, commit_lines}
use Rattle.law_run.specs.Events.{BeforeEach}
use Rattle.law_run.specs.KeysApart.{KeysApart, EntersOwn, IsNoneOf, IsNewKey, given_keys, network_key}
use Rattle.law_run.specs.Opening.{Opens}
use Rattle.law_run.proofs.Basics.{append-nil', state-snoc}
use Rattle.law_run.proofs.FreshLines.{all-append, heard-keeps}
use Rattle.law_run.proofs.Groups.{applied-all-append}
use Rattle.law_run.proofs.EventStates.{IsKept, TaskOf, AllKeep, answer_to, kept-before}
use Rattle.law_run.proofs.Judged.{In}
use Rattle.law_run.proofs.Sound.{sound}
use Rattle.law_run.proofs.ConfirmsRuns.{Mere, rest_edits, rests-mere}
use Rattle.law_run.proofs.LockoutDeeds.{HasRow, HasNet, MemberDeed, still, Deed, member, nothing, quiet, verifies, rolls, offers, pairs, enters, removes, OutcomeFits, plan-fits}
use Rattle.law_run.proofs.LockoutGroups.{edits-parts}
use Rattle.law_run.proofs.LockoutMoves.{all-at}
use Rattle.law_run_counters.proofs.Started.{ActiveStarted}
use Rattle.law_run_counters.proofs.ActiveRows.{active-kept}
use Rattle.law_run_counters.proofs.Events.{start-grounded}
use Rattle.law_run_lookups.specs.Granted.{Granted}
use Rattle.law_run_lookups.proofs.Alike.{Has, SparesEdit, kept_edits, edits-alike, accept-alike, seal-alike, boot-alike}
use Rattle.law_run_lookups.proofs.Held.{Current, Offer, CurrentHeld, OfferHeld, same_rows, live-has, centre-kept}
use Rattle.law_run_lookups.proofs.Joining.{KeepsStateEdit, edits-state, member-kept}
use Rattle.law_run_lookups.proofs.Drawn.{Lacks, BringsNone, Draws, lacks-edits, lacks-after, lacks-accepted, lacks-sealed, lacks-booted, kept-brings, used-more, used-drawn, deed-brings}

-- The claim on states that answers keep

pub record Standing (w : Schedule) (h : List Line) (n : ℕ) (s : NodeState) : Type 0 where
  pub current_rows : is_centre (setting_of w n).me.role ≡ true → CurrentHeld s
  pub lacks : is_centre (setting_of w n).me.role ≡ true → (i : ℕ) (k : Bytes) → draws_used h ≤ i → slice_get w.draws i
      ≡ Some k → Lacks k s
  pub offer : is_centre (setting_of w n).me.role ≡ false → OfferHeld (centre_of (setting_of w n).stations) s
  pub active : ActiveStarted s

standing-more : (w : Schedule) (h ls : List Line) (n : ℕ) (s : NodeState) → Standing w h n s → Standing w (h ++ ls) n s
standing-more w h ls n s p = record {
  current_rows = p.current_rows;
  lacks = λ m i k less at. p.lacks m i k (omega (arith, used-more h ls, less)) at;
  offer = p.offer;
  active = p.active;
}

-- rows that are as they were

current-alike : (s t : NodeState) → same_rows s t → CurrentHeld s → CurrentHeld t
current-alike s t same c q k h = onward (c q k ((same q k true).1 h))
  where
    onward : Current q s.links → Current q t.links
    onward f = (f.0, (same q f.0 false).0 f.1)

offer-alike : (centre : ℕ) (s t : NodeState) → same_rows s t → t.state ≡ s.state → OfferHeld centre s
    → OfferHeld centre t
offer-alike centre s t same at o e = onward (o (sym at ∙ e))
  where
    onward : Offer centre s.links → Offer centre t.links
    onward f = (f.0, (same centre f.0 true).0 f.1)

heard-state : (layer : Layer) (k : Bytes) (sender counter : ℕ) (s : NodeState)
    → (after_hearing layer k sender counter s).state ≡ s.state
unfolding after_hearing
heard-state Nwk k sender counter s = refl
heard-state Aps k sender counter s = refl

accepted-state : (t : Term) (s : NodeState) → (after_accepting t s).state ≡ s.state
unfolding after_accepting
accepted-state t s = heard-state t.layer t.base t.source t.counter s

sealed-at-state : (layer : Layer) (t : Term) (s : NodeState) → (sealed_at layer t s).state ≡ s.state
sealed-at-state Nwk t s = refl
sealed-at-state Aps t s = refl

sealed-state : (t : Term) (s : NodeState) → (after_sealing t s).state ≡ s.state
unfolding after_sealing
sealed-state t s = sealed-at-state t.layer t s

booted-state : (s : NodeState) → (after_boot s).state ≡ s.state
unfolding after_boot
booted-state s = refl

-- An answer

mere-spares : (q : ℕ) (k : Bytes) (es : List Edit) → AllByRecursion Mere es → AllByRecursion (SparesEdit q k) es
mere-spares q k [] a = tt
mere-spares q k (Moved m ∷ es) a = absurd a.0
mere-spares q k (Reserve l v ∷ es) a = (tt, mere-spares q k es a.1)
mere-spares q k (Floor l j p v ∷ es) a = (tt, mere-spares q k es a.1)
mere-spares q k (Start j v ∷ es) a = (tt, mere-spares q k es a.1)

mere-keeps : (es : List Edit) → AllByRecursion Mere es → AllByRecursion KeepsStateEdit es
mere-keeps [] a = tt
mere-keeps (Moved m ∷ es) a = absurd a.0
mere-keeps (Reserve l v ∷ es) a = (tt, mere-keeps es a.1)
mere-keeps (Floor l j p v ∷ es) a = (tt, mere-keeps es a.1)
mere-keeps (Start j v ∷ es) a = (tt, mere-keeps es a.1)

mere-brings : (k : Bytes) (es : List Edit) → AllByRecursion Mere es → AllByRecursion (BringsNone k) es
mere-brings k [] a = tt
mere-brings k (Moved m ∷ es) a = absurd a.0
mere-brings k (Reserve l v ∷ es) a = (tt, mere-brings k es a.1)
mere-brings k (Floor l j p v ∷ es) a = (tt, mere-brings k es a.1)
mere-brings k (Start j v ∷ es) a = (tt, mere-brings k es a.1)

outcome-deed : (c : Setting) (s : NodeState) (task : Task) (o : Outcome) → OutcomeFits c s task o
    → Deed c s task (moves_of o)
outcome-deed c s task (Stop reason) f = nothing refl
outcome-deed c s task (Does moves sending) f = f.deed

member-deed : (c : Setting) (s : NodeState) (task : Task) (moves : List Move) → is_centre c.me.role ≡ false
    → Deed c s task moves → MemberDeed (centre_of c.stations) s moves
member-deed c s task moves e (member m a d) = d
member-deed c s task moves e (nothing q) =
    still (subst (AllByRecursion Rattle.law_run.proofs.LockoutDeeds.Still) (sym q) tt)
member-deed c s task moves e (quiet m a y) = absurd (false≢true (sym e ∙ m))
member-deed c s task moves e (verifies m p row o a q) = absurd (false≢true (sym e ∙ m))
member-deed c s task moves e (rolls m k q drops new a y r) = absurd (false≢true (sym e ∙ m))
member-deed c s task moves e (offers m p k new live q) = absurd (false≢true (sym e ∙ m))
member-deed c s task moves e (pairs m a b k new la lb q) = absurd (false≢true (sym e ∙ m))
member-deed c s task moves e (enters m p k by dead none q) = absurd (false≢true (sym e ∙ m))
member-deed c s task moves e (removes m p live q) = absurd (false≢true (sym e ∙ m))

-- the state after reserves and floors
middle : NodeState → Counting → Plan → NodeState
middle s kk p = applied_all (rest_edits kk p.accepts) s

in-two : (s : NodeState) (kk : Counting) (p : Plan) → applied_all (edits_of s kk p) s
    ≡ applied_all (kept_edits kk s (moves_of p.outcome)) (middle s kk p)
unfolding middle
in-two s kk p = ap (λ es. applied_all es s) (edits-parts s kk p) ∙ applied-all-append (rest_edits kk p.accepts)
    (kept_edits kk s (moves_of p.outcome)) s

middle-rows : (s : NodeState) (kk : Counting) (p : Plan) → same_rows s (middle s kk p)
unfolding middle
middle-rows s kk p q k = edits-alike q k (rest_edits kk p.accepts)
    (mere-spares q k (rest_edits kk p.accepts) (rests-mere kk p.accepts)) s

middle-state : (s : NodeState) (kk : Counting) (p : Plan) → (middle s kk p).state ≡ s.state
unfolding middle
middle-state s kk p =
    edits-state (rest_edits kk p.accepts) (mere-keeps (rest_edits kk p.accepts) (rests-mere kk p.accepts)) s

-- a draw of the plan is used after the lines that store it
draw-used : (h : List Line) (number n : ℕ) (s : NodeState) (kk : Counting) (p : Plan) (more : List Line) (j : Bytes)
    → Draws j (moves_of p.outcome) → draws_used h
    < draws_used (h ++ (map (Changed number n) (edits_of s kk p) ++ more))
draw-used h number n s kk p more j d =
    subst (λ es. draws_used h < draws_used (h ++ (map (Changed number n) es ++ more)))
    (sym (edits-parts s kk p ∙ ap (λ ms. rest_edits kk p.accepts ++ kept_edits kk s ms) d.1))
    (used-drawn h number n (rest_edits kk p.accepts) j (kept_edits kk s d.0) more)

answer-lacks : (w : Schedule) → KeysApart w → (h : List Line) (number n : ℕ) (task : Task)
    → TaskOf (EntersOwn w) w h n task → (s : NodeState) (kk : Counting) (p : Plan)
    → Deed (setting_of w n) s task (moves_of p.outcome)
    → is_centre (setting_of w n).me.role ≡ true → (more : List Line)
    → ((i : ℕ) (k : Bytes) → draws_used h ≤ i → slice_get w.draws i ≡ Some k → Lacks k s)
    → (i : ℕ) (k : Bytes) → draws_used (h ++ (map (Changed number n) (edits_of s kk p) ++ more)) ≤ i
    → slice_get w.draws i ≡ Some k → Lacks k (applied_all (edits_of s kk p) s)
answer-lacks w apart h number n task is s kk p deed m more before i k less at =
    lacks-edits k (edits_of s kk p)
    (subst (AllByRecursion (BringsNone k)) (sym (edits-parts s kk p))
    (all-append (BringsNone k) (rest_edits kk p.accepts) (kept_edits kk s (moves_of p.outcome))
    (mere-brings k (rest_edits kk p.accepts) (rests-mere kk p.accepts))
    (kept-brings k kk s (moves_of p.outcome)
    (deed-brings w apart h n (setting_of w n) s task is m (moves_of p.outcome) deed i k at
    (λ j d. omega (arith, draw-used h number n s kk p more j d, less))
    (before i k (omega (arith, used-more h (map (Changed number n) (edits_of s kk p) ++ more), less)) at)))))
    s (before i k (omega (arith, used-more h (map (Changed number n) (edits_of s kk p) ++ more), less)) at)

answers-standing : (tools : Tools) → Opens tools → (w : Schedule) → KeysApart w
    → (h : List Line) (number n : ℕ) (task : Task) → TaskOf (EntersOwn w) w h n task → AllKeep (Standing w) h
    → ActiveStarted (applied_all (answer_to tools w h n task).edits (state_of h n))
    → Standing w (h ++ stored_lines number n (answer_to tools w h n task)) n
    (applied_all (answer_to tools w h n task).edits (state_of h n))
unfolding answer_by stored_lines
answers-standing tools opens w apart h number n task is all active = record {
  current_rows = λ m. subst CurrentHeld (sym (in-two s kk p))
      (centre-kept (setting_of w n) s task (moves_of p.outcome) kk (middle s kk p) (sound h n) (middle-rows s kk p) m
      deed ((all n).current_rows m));
  lacks = λ m i k less at. answer-lacks w apart h number n task is s kk p deed m
      (commit_lines number n (edits_of s kk p)) ((all n).lacks m) i k less at;
  offer = λ m. subst (OfferHeld (centre_of (setting_of w n).stations)) (sym (in-two s kk p))
      (member-kept (centre_of (setting_of w n).stations) s (moves_of p.outcome) kk (middle s kk p)
      (middle-rows s kk p) (middle-state s kk p) (member-deed (setting_of w n) s task (moves_of p.outcome) m deed)
      ((all n).offer m));
  active = active;
}
  where
    s : NodeState
    s = state_of h n

    p : Plan
    p = plan_of tools (setting_of w n) (state_of h n) task

    kk : Counting
    kk = counting_of (setting_of w n) (state_of h n) (plan_of tools (setting_of w n) (state_of h n) task)

    deed : Deed (setting_of w n) s task (moves_of p.outcome)
    deed = outcome-deed (setting_of w n) s task p.outcome (plan-fits tools opens (setting_of w n) s task)

pub standing-kept : (tools : Tools) → Opens tools → (w : Schedule) → KeysApart w
    → IsKept tools w (EntersOwn w) (Standing w)
standing-kept tools opens w apart = record {
  more = standing-more w;
  answers = λ h number n task is all. answers-standing tools opens w apart h number n task is all
      (kept.answers h number n task is (λ m. (all m).active));
  accepts =
      λ h n t s p.
      record {
        current_rows = λ m. current-alike s (after_accepting t s) (λ q k. accept-alike q k t s)
            (p.current_rows m);
        lacks = λ m i k less at. lacks-accepted k t s (p.lacks m i k less at);
        offer =
            λ m. offer-alike (centre_of (setting_of w n).stations) s (after_accepting t s)
            (λ q k. accept-alike q k t s)
            (accepted-state t s) (p.offer m);
        active = kept.accepts h n t s p.active;
      };
  seals =
      λ h n t s p.
      record {
        current_rows = λ m. current-alike s (after_sealing t s) (λ q k. seal-alike q k t s) (p.current_rows m);
        lacks = λ m i k less at. lacks-sealed k t s (p.lacks m i k less at);
        offer =
            λ m. offer-alike (centre_of (setting_of w n).stations) s (after_sealing t s) (λ q k. seal-alike q k t s)
            (sealed-state t s) (p.offer m);
        active = kept.seals h n t s p.active;
      };
  boots =
      λ h n s p.
      record {
        current_rows = λ m. current-alike s (after_boot s) (λ q k. boot-alike q k s) (p.current_rows m);
        lacks = λ m i k less at. lacks-booted k s (p.lacks m i k less at);
        offer =
            λ m. offer-alike (centre_of (setting_of w n).stations) s (after_boot s) (λ q k. boot-alike q k s)
            (booted-state s) (p.offer m);
        active = kept.boots h n s p.active;
      };
}
  where
    kept : IsKept tools w (EntersOwn w) (λ h n s. ActiveStarted s)
    kept = active-kept tools w (EntersOwn w)

-- The start

pub lines-with : (Φ : NodeState → Type 0) (Q : Line → Type 0)
    → ((l : Line) (s : NodeState) → Q l → Φ s → Φ (after l s)) → (h ls : List Line) → AllByRecursion Q ls
    → ((n : ℕ) → Φ (state_of h n)) → (n : ℕ) → Φ (state_of (h ++ ls) n)
lines-with Φ Q k h [] a j n = subst (λ x. Φ (state_of x n)) (sym (append-nil' h)) (j n)
lines-with Φ Q k h (l ∷ ls) a j n =
    subst (λ x. Φ (state_of x n)) (append_assoc h (l ∷ []) ls)
    (lines-with Φ Q k (h ++ l ∷ []) ls a.1
    (λ m. subst Φ (sym (state-snoc h l m))
    (heard-keeps Φ m l (state_of h m) (λ e. k l (state_of h m) a.0 (j m)) (j m))) n)

-- no row is offered yet
NotOffered : LinkKey → Type 0
NotOffered r = is_unverified r.attribute ≡ false

record Calm (s : NodeState) : Type 0 where
  rows : AllByRecursion NotOffered s.links
  state : s.state ≡ Offered → ⊥

abbrev IsOffered : State → Type 0
IsOffered Offered = Unit {0}
IsOffered _ = ⊥

fresh-or-joined : (b : Bool) → cond b Fresh Joined ≡ Offered → ⊥
fresh-or-joined true e = subst IsOffered (sym e) tt
fresh-or-joined false e = subst IsOffered (sym e) tt

code-rows : (p : ℕ) (k : Bytes) (links : List LinkKey) → AllByRecursion NotOffered links
    → AllByRecursion NotOffered (at_link p k (revived Provisional false) links)
unfolding NotOffered
code-rows p k [] a = tt
code-rows p k (r ∷ rs) a = (by-test (is_link p k r), code-rows p k rs a.1)
  where
    by-test : (b : Bool) → is_unverified (cond b (revived Provisional false r) r).attribute ≡ false
    by-test true = refl
    by-test false = a.0

code-by : (p : ℕ) (k : Bytes) (links : List LinkKey) (b : Bool) → AllByRecursion NotOffered links
    → AllByRecursion NotOffered
    (cond b (at_link p k (revived Provisional false) links) (links ++ new_link p k Provisional false ∷ []))
unfolding NotOffered
code-by p k links true a = code-rows p k links a
code-by p k links false a = all-append NotOffered links (new_link p k Provisional false ∷ []) a (refl, tt)

-- a line of the start, with another key than this
abbrev GivesOther : Bytes → Line → Type 0
GivesOther k (Declared p) = Unit {0}
GivesOther k (GivenNet n j q) = j ≡ k → ⊥
GivesOther k (GivenLink n p j) = j ≡ k → ⊥
GivesOther k (Counter n layer v) = Unit {0}
GivesOther k _ = ⊥

abbrev pub Begins : Line → Type 0
Begins (Declared p) = Unit {0}
Begins (GivenNet n j q) = Unit {0}
Begins (GivenLink n p j) = Unit {0}
Begins (Counter n layer v) = Unit {0}
Begins _ = ⊥

calm-after : (l : Line) (s : NodeState) → Begins l → Calm s → Calm (after l s)
unfolding after with_given_net with_given_link with_declared
calm-after (Declared p) s b c = record { rows = c.rows; state = c.state }
calm-after (GivenNet n j q) s b c = record { rows = c.rows; state = fresh-or-joined (is_centre s.role) }
calm-after (GivenLink n p j) s b c =
    record { rows = code-by p j s.links (has_link p j s.links) c.rows; state = c.state }
calm-after (Counter n Nwk v) s b c = record { rows = c.rows; state = c.state }
calm-after (Counter n Aps v) s b c = record { rows = c.rows; state = c.state }
calm-after _ s b c = absurd b

lacks-line : (k : Bytes) (l : Line) (s : NodeState) → GivesOther k l → Lacks k s → Lacks k (after l s)
lacks-line k (Declared p) s g a = lacks-after k (Declared p) (λ y e f. f) (λ y e f. f) s a
lacks-line k (GivenNet n j q) s g a = lacks-after k (GivenNet n j q) (λ y e f. g (f ∙ e)) (λ y e f. f) s a
lacks-line k (GivenLink n p j) s g a = lacks-after k (GivenLink n p j) (λ y e f. f) (λ y e f. g (f.1 ∙ e)) s a
lacks-line k (Counter n layer v) s g a = lacks-after k (Counter n layer v) (λ y e f. f) (λ y e f. f) s a
lacks-line k _ s g a = absurd g

-- the lines of the start
flat-with : (Q : Line → Type 0) (P : Node → Type 0) (f : Node → List Line)
    → ((m : Node) → P m → AllByRecursion Q (f m)) → (ms : List Node) → AllByRecursion P ms
    → AllByRecursion Q (flat_map f ms)
flat-with Q P f k [] a = tt
flat-with Q P f k (m ∷ ms) a = all-append Q (f m) (flat_map f ms) (k m a.0) (flat-with Q P f k ms a.1)

record StartsWith (Q : Line → Type 0) (P : Node → Type 0) : Type 0 where
  declared : (p : Station) → Q (Declared p)
  net : (m : Node) → P m → AllByRecursion Q (net_line m.station.eui m.network)
  link : (c : ℕ) (m : Node) → P m → AllByRecursion Q (link_line c m.station.eui m.code)
  limit : (n : ℕ) (layer : Layer) (v : ℕ) → Q (Counter n layer v)

all-declared : (Q : Line → Type 0) → ((p : Station) → Q (Declared p)) → (ps : List Station)
    → AllByRecursion Q (map Declared ps)
all-declared Q k [] = tt
all-declared Q k (p ∷ ps) = (k p, all-declared Q k ps)

limit-by : (Q : Line → Type 0) (l : Line) (b : Bool) → Q l → AllByRecursion Q (cond b [] (l ∷ []))
limit-by Q l true q = tt
limit-by Q l false q = (q, tt)

start-with : (Q : Line → Type 0) (P : Node → Type 0) → StartsWith Q P → (w : Schedule) → AllByRecursion P w.nodes
    → AllByRecursion Q (start w)
unfolding start
start-with Q P k w a =
    all-append Q (map Declared (stations w)) _ (all-declared Q k.declared (stations w))
    (all-append Q (flat_map (λ (m : Node). net_line m.station.eui m.network) w.nodes) _
    (flat-with Q P (λ (m : Node). net_line m.station.eui m.network) k.net w.nodes a)
    (all-append Q (flat_map (λ (m : Node). link_line (centre_of (stations w)) m.station.eui m.code) w.nodes) _
    (flat-with Q P (λ (m : Node). link_line (centre_of (stations w)) m.station.eui m.code)
    (k.link (centre_of (stations w))) w.nodes a)
    (flat-with Q P (λ (m : Node). limit_line m.station.eui Nwk m.start_nwk ++ limit_line m.station.eui Aps m.start_aps)
    (λ m p. all-append Q (limit_line m.station.eui Nwk m.start_nwk) (limit_line m.station.eui Aps m.start_aps)
    (limit-by Q (Counter m.station.eui Nwk m.start_nwk) (nat_eq m.start_nwk 0)
    (k.limit m.station.eui Nwk m.start_nwk))
    (limit-by Q (Counter m.station.eui Aps m.start_aps) (nat_eq m.start_aps 0)
    (k.limit m.station.eui Aps m.start_aps))) w.nodes a)))

net-other : (n : ℕ) (k : Bytes) (o : Option (Bytes × ℕ)) → IsNoneOf (network_key o) k
    → AllByRecursion (GivesOther k) (net_line n o)
net-other n k None a = tt
net-other n k (Some g) a = a

link-other : (c n : ℕ) (k : Bytes) (o : Option Bytes) → IsNoneOf (option_to_list o) k
    → AllByRecursion (GivesOther k) (link_line c n o)
link-other c n k None a = tt
link-other c n k (Some j) a = a

none-left : (k : Bytes) (xs ys : List Bytes) → IsNoneOf (xs ++ ys) k → IsNoneOf xs k
none-left k [] ys a = tt
none-left k (x ∷ xs) ys a = (a.0, none-left k xs ys a.1)

none-right : (k : Bytes) (xs ys : List Bytes) → IsNoneOf (xs ++ ys) k → IsNoneOf ys k
none-right k [] ys a = a
none-right k (x ∷ xs) ys a = none-right k xs ys a.1

starts-other : (k : Bytes) → StartsWith (GivesOther k) (λ (m : Node). IsNoneOf (given_keys m) k)
starts-other k = record {
  declared = λ p. tt;
  net = λ m a. net-other m.station.eui k m.network (none-right k (option_to_list m.code) (network_key m.network) a);
  link = λ c m a. link-other c m.station.eui k m.code (none-left k (option_to_list m.code) (network_key m.network) a);
  limit = λ n layer v. tt;
}

net-begins : (n : ℕ) (o : Option (Bytes × ℕ)) → AllByRecursion Begins (net_line n o)
net-begins n None = tt
net-begins n (Some g) = (tt, tt)

link-begins : (c n : ℕ) (o : Option Bytes) → AllByRecursion Begins (link_line c n o)
link-begins c n None = tt
link-begins c n (Some j) = (tt, tt)

all-nodes : (ms : List Node) → AllByRecursion (λ (m : Node). Unit {0}) ms
all-nodes [] = tt
all-nodes (m ∷ ms) = (tt, all-nodes ms)

pub start-begins : (w : Schedule) → AllByRecursion Begins (start w)
start-begins w = start-with Begins (λ (m : Node). Unit {0})
    (record {
      declared = λ p. tt;
      net = λ m a. net-begins m.station.eui m.network;
      link = λ c m a. link-begins c m.station.eui
          m.code;
      limit = λ n layer v. tt;
    }) w (all-nodes w.nodes)

no-calm : (n : ℕ) → Calm (state_of [] n)
unfolding state_of
no-calm n = record { rows = tt; state = λ e. subst IsOffered (sym e) tt }

no-lacks : (k : Bytes) (n : ℕ) → Lacks k (state_of [] n)
unfolding state_of In
no-lacks k n = record { nets = λ h. h.among; links = λ p h. h.among }

none-offered : (links : List LinkKey) → AllByRecursion NotOffered links → (r : LinkKey) → In r links
    → is_unverified r.attribute ≡ true → ⊥
unfolding In NotOffered
none-offered [] a r i e = i
none-offered (x ∷ xs) a r (inl f) e = false≢true (sym a.0 ∙ ap (λ (y : LinkKey). is_unverified y.attribute) f ∙ e)
none-offered (x ∷ xs) a r (inr i) e = none-offered xs a.1 r i e

pub start-standing : (w : Schedule) → KeysApart w → AllKeep (Standing w) (start w)
start-standing w apart n = record {
  current_rows = λ m q k h. absurd (none-offered (state_of (start w) n).links calm.rows h.row h.among h.kind);
  lacks = λ m i k less at. lines-with (Lacks k) (GivesOther k) (lacks-line k) [] (start w)
      (start-with (GivesOther k) (λ (x : Node). IsNoneOf (given_keys x) k) (starts-other k) w
      (all-at (IsNewKey w) w.draws i k apart.draws_new at).1) (no-lacks k) n;
  offer = λ m e. absurd (calm.state e);
  active = (start-grounded w).active n;
}
  where
    calm : Calm (state_of (start w) n)
    calm = lines-with Calm Begins calm-after [] (start w) (start-begins w) no-calm n

-- What rules ask

pub found-some : {X : Type 0} (test : X → Bool) (r : X) (xs : List X) → In r xs → test r ≡ true
    → is_some (find test xs) ≡ true
unfolding In
found-some test r [] i e = absurd i
found-some {X = X} test r (x ∷ xs) i e = by-test (test x) refl i (found-some test r xs)
  where
    by-test : (b : Bool) → test x ≡ b → (x ≡ r) ⊎ In r xs → (In r xs → test r ≡ true → is_some (find test xs) ≡ true)
        → is_some (cond b (Some x) (find test xs)) ≡ true
    by-test true f j more = refl
    by-test false f (inl g) more = absurd (false≢true (sym f ∙ ap test g ∙ e))
    by-test false f (inr j) more = more j e

both : (a b : Bool) → a ≡ true → b ≡ true → (a && b) ≡ true
both true b e f = f
both false b e f = absurd (false≢true e)

live-test : (q : ℕ) (k : Bytes) (t : Bool) (links : List LinkKey) → (h : Has q k t links) → is_live_of q h.row ≡ true
live-test q k t links h = both h.row.live (nat_eq h.row.partner q) h.live (eq-eqb h.row.partner q h.partner)

offer-some : (s : NodeState) (q : ℕ) → Offer q s.links → is_some (offered s q) ≡ true
unfolding offered
offer-some s q f = found-some (λ (r : LinkKey). is_live_of q r && is_unverified r.attribute) f.1.row s.links f.1.among
    (both (is_live_of q f.1.row) (is_unverified f.1.row.attribute) (live-test q f.0 true s.links f.1) f.1.kind)

current-some : (s : NodeState) (q : ℕ) → Current q s.links → is_some (current s q) ≡ true
unfolding current
current-some s q f = found-some (λ (r : LinkKey). is_live_of q r && not (is_unverified r.attribute)) f.1.row s.links
    f.1.among
    (both (is_live_of q f.1.row) (not (is_unverified f.1.row.attribute)) (live-test q f.0 false s.links f.1)
    (ap not f.1.kind))

any-element : {X : Type 0} (test : X → Bool) (xs : List X) → list_any test xs ≡ true → (x : X) × In x xs
    × (test x ≡ true)
unfolding In
any-element test [] e = absurd (false≢true e)
any-element {X = X} test (x ∷ xs) e = by-test (test x) refl e (any-element test xs)
  where
    later : (x : X) × In x xs × (test x ≡ true) → (y : X) × In y (x ∷ xs) × (test y ≡ true)
    later f = (f.0, inr f.1, f.2)

    by-test : (b : Bool) → test x ≡ b → (b || list_any test xs) ≡ true
        → (list_any test xs ≡ true → (x : X) × In x xs × (test x ≡ true)) → (y : X) × In y (x ∷ xs) × (test y ≡ true)
    by-test true f e more = (x, inl refl, f)
    by-test false f e more = later (more e)

no-holder : (s : NodeState) (k : Bytes) → Lacks k s → (b c : Bool) → has_net k s.nets ≡ b
    → list_any (λ (r : LinkKey). same_key r.key k) s.links ≡ c → cond (b || c) None (Some k) ≡ Some k
no-holder s k a true c e f = absurd (by-any (any-element (λ (r : NetKey). same_key r.key k) s.nets e))
  where
    by-any : (x : NetKey) × In x s.nets × (same_key x.key k ≡ true) → ⊥
    by-any x = a.nets (record { row = x.0; among = x.1; key = Rattle.law_run.proofs.Basics.same_key-eq x.0.key k x.2 })
no-holder s k a false true e f = absurd (by-any (any-element (λ (r : LinkKey). same_key r.key k) s.links f))
  where
    by-any : (x : LinkKey) × In x s.links × (same_key x.key k ≡ true) → ⊥
    by-any x =
        a.links x.0.partner
        (record
        { row = x.0; among = x.1; partner = refl; key = Rattle.law_run.proofs.Basics.same_key-eq x.0.key k x.2 })
no-holder s k a false false e f = refl

taken-whole : (s : NodeState) (o : Option Bytes) → ((k : Bytes) → o ≡ Some k → Lacks k s) → unless_held s o ≡ o
taken-whole s None a = refl
taken-whole s (Some k) a = no-holder s k (a k refl) (has_net k s.nets)
    (list_any (λ (r : LinkKey). same_key r.key k) s.links) refl refl

supply-is : (w : Schedule) (h : List Line) → supply w h ≡ slice_get w.draws (draws_used h)
unfolding supply
supply-is w h = refl

started-row : (s : NodeState) (o : Option Bytes) → s.active ≡ o → (key : Bytes) → o ≡ Some key
    → row_is_started (net_of_active (Some key) s) ≡ true → row_is_started (active_row s) ≡ true
unfolding active_row
started-row s o e key f g = ap (λ x. row_is_started (net_of_active x s)) (e ∙ f) ∙ g

pub granted-of : (w : Schedule) (h : List Line) (n : ℕ) → Standing w h n (state_of h n) → Granted w h n
granted-of w h n p = record {
  offered_row = λ m e. offer-some (state_of h n) (centre_of (setting_of w n).stations) (p.offer m e);
  current_row = λ m device e. current-some (state_of h n) device (live-has (state_of h n) device (p.current_rows m) e);
  next_key = λ m. taken-whole (state_of h n) (supply w h)
      (λ k e. p.lacks m (draws_used h) k (le_refl (draws_used h)) (sym (supply-is w h) ∙ e));
  active_row_started = λ key e. started-row (state_of h n) (state_of h n).active refl key e (p.active key e);
}

pub before-map : (P Q : List Line → Event → Type 0) → ((h : List Line) (event : Event) → P h event → Q h event)
    → (tools : Tools) (w : Schedule) (h : List Line) (disks : List Disk) (number : ℕ) (events : List Event)
    → BeforeEach P tools w h disks number events → BeforeEach Q tools w h disks number events
before-map P Q k tools w h disks number [] a = tt
before-map P Q k tools w h disks number (event ∷ events) a = (
  k h event a.0,
  before-map P Q k tools w (h ++ (step tools w h disks number event).lines)
      (step tools w h disks number event).disks (number + 1) events a.1,
)

pub granted : (tools : Tools) → Opens tools → (w : Schedule) → KeysApart w
    → BeforeEach (λ h event. (n : ℕ) → Granted w h n) tools w (start w) [] 1 w.events
granted tools opens w apart =
    before-map (λ h event. EntersOwn w event × AllKeep (Standing w) h) (λ h event. (n : ℕ) → Granted w h n)
    (λ h event a n. granted-of w h n (a.1 n)) tools w (start w) [] 1 w.events
    (kept-before tools w (EntersOwn w) (Standing w) (standing-kept tools opens w apart) (start w) [] 1 w.events
    apart.entered (start-standing w apart))
