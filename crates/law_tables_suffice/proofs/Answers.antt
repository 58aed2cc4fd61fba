-- The whole answer at what is shown of a state: the counters that it uses, what is stored, and what is sent.
use Rattle.std.proofs.Common.{◌≡◌, ℕ, List, [], ◌∷◌, filter, flat_map, option_map, option_to_list, refl, ap, ◌∙◌, Bool, true, false, Option, Some, None}
use Rattle.zb_model.specs.Data.{Bytes, Layer, Nwk, Aps, Term, Move, Draw, DropNet, DropLink, Install, Active, Row, Pair, Became, Live, Removed, Roll, Told, Untold, Edit, Task}
use Rattle.zb_model.specs.State.{NodeState, NetKey, shown, shown_net, active_row, net_of}
use Rattle.zb_model.specs.Fits.{net_stored, row_is_live}
use Rattle.zb_model.specs.Tools.{Tools}
use Rattle.zb_model.specs.Rules.{Setting, Sending, Plan}
use Rattle.zb_model.specs.Answer.{Counting, Part, framed, part_of, may_seal, sent, out_of, changes, row_is_started, is_started_key, move_edits, floor_edit, moves_of, sending_of, edits_of, answer_by, reserve_of, stored_at, stored_floor, floor_for, floor_of, activated, start_for, counting_of, answer, plan_of}
use Rattle.law_tables_suffice.specs.Showing.{IsUnderLive, AreUnderLive}
use Rattle.law_tables_suffice.proofs.Questions.{live_stays, net_same, active_same, has_active_same, next_same, limit_same, spent_same}
use Rattle.law_tables_suffice.proofs.Plans.{plan_same}

-- ---- lists

each_piece : {X Y : Type 0} (f g : X → List Y) → ((x : X) → f x ≡ g x) → (xs : List X) → flat_map f xs ≡ flat_map g xs
each_piece f g same [] = refl
each_piece f g same (x ∷ xs) = rw (same x, each_piece f g same xs) refl

each_test : {X : Type 0} (p q : X → Bool) → ((x : X) → p x ≡ q x) → (xs : List X) → filter p xs ≡ filter q xs
each_test p q same [] = refl
each_test p q same (x ∷ xs) = rw (same x, each_test p q same xs) refl

-- ---- counters

may_seal_same : (s : NodeState) (send : Option Sending) → may_seal (shown s) send ≡ may_seal s send
unfolding may_seal
may_seal_same s send = rw (has_active_same s, spent_same Nwk s, spent_same Aps s) refl

reserve_same : (c : Setting) (s : NodeState) (send : Option Sending) (layer : Layer)
    → reserve_of c (shown s) send layer ≡ reserve_of c s send layer
unfolding reserve_of
reserve_same c s send layer = rw (may_seal_same s send, next_same layer s, limit_same layer s) refl

-- the floor under a live key is shown
net_floor_same : (sender : ℕ) (o : Option NetKey) → row_is_live o ≡ true → net_stored sender (option_map shown_net o)
    ≡ net_stored sender o
net_floor_same sender None live = refl
net_floor_same sender (Some r) live = ap (λ x. net_stored sender (Some x)) (live_stays r live)

stored_same : (s : NodeState) (layer : Layer) (t : Term) → IsUnderLive s layer t → stored_at layer t (shown s)
    ≡ stored_at layer t s
unfolding shown
stored_same s Nwk t live = ap (net_stored t.source) (net_same t.base s) ∙ net_floor_same t.source (net_of t.base s)
    live
stored_same s Aps t live = refl

floor_for_same : (c : Setting) (s : NodeState) (t : Term) → IsUnderLive s t.layer t → floor_for c (shown s) t
    ≡ floor_for c s t
unfolding stored_floor
floor_for_same c s t live = rw (stored_same s t.layer t live) refl

floor_same : (c : Setting) (s : NodeState) (ts : List Term) (layer : Layer) → AreUnderLive s ts
    → floor_of c (shown s) ts layer ≡ floor_of c s ts layer
unfolding floor_of
floor_same c s [] layer live = refl
floor_same c s (t ∷ ts) layer live = rw (floor_for_same c s t live.0, floor_same c s ts layer live.1) refl

changes_same : (s : NodeState) (m : Move) → changes (shown s) m ≡ changes s m
unfolding shown
changes_same s (Draw key) = refl
changes_same s (DropNet key) = refl
changes_same s (DropLink partner key) = refl
changes_same s (Install key sequence) = refl
changes_same s (Active key) = refl
changes_same s (Row partner key attribute) = refl
changes_same s (Pair first second key) = refl
changes_same s (Became state) = refl
changes_same s (Live device) = refl
changes_same s (Removed device) = refl
changes_same s (Roll sending) = refl
changes_same s (Told device) = refl
changes_same s (Untold device) = refl

made_same : (s : NodeState) (ms : List Move) → filter (changes (shown s)) ms ≡ filter (changes s) ms
made_same s ms = each_test (changes (shown s)) (changes s) (changes_same s) ms

activated_same : (s : NodeState) (ms : List Move) → activated (shown s) ms ≡ activated s ms
activated_same s [] = refl
activated_same s (Draw key ∷ ms) = activated_same s ms
activated_same s (DropNet key ∷ ms) = activated_same s ms
activated_same s (DropLink partner key ∷ ms) = activated_same s ms
activated_same s (Install key sequence ∷ ms) = activated_same s ms
activated_same s (Active key ∷ ms) = refl
activated_same s (Row partner key attribute ∷ ms) = activated_same s ms
activated_same s (Pair first second key ∷ ms) = activated_same s ms
activated_same s (Became state ∷ ms) = activated_same s ms
activated_same s (Live device ∷ ms) = activated_same s ms
activated_same s (Removed device ∷ ms) = activated_same s ms
activated_same s (Roll sending ∷ ms) = activated_same s ms
activated_same s (Told device ∷ ms) = activated_same s ms
activated_same s (Untold device ∷ ms) = activated_same s ms

started_shown : (o : Option NetKey) → row_is_started (option_map shown_net o) ≡ row_is_started o
started_shown None = refl
started_shown (Some r) = refl

started_same : (s : NodeState) (key : Bytes) → is_started_key (shown s) key ≡ is_started_key s key
started_same s key = ap row_is_started (net_same key s) ∙ started_shown (net_of key s)

start_for_same : (s : NodeState) (o : Option Bytes) → start_for (shown s) o ≡ start_for s o
start_for_same s None = refl
start_for_same s (Some key) = rw (started_same s key, next_same Nwk s) refl

start_same : (c : Setting) (s : NodeState) (p : Plan) → (counting_of c (shown s) p).start ≡ (counting_of c s p).start
unfolding counting_of
start_same c s p =
    ap (λ ms. start_for (shown s) (activated (shown s) ms)) (made_same s (moves_of p.outcome))
    ∙ ap (start_for (shown s)) (activated_same s (filter (changes s) (moves_of p.outcome)))
    ∙ start_for_same s (activated s (filter (changes s) (moves_of p.outcome)))

-- ---- what is stored

-- the counters that two nodes use are alike, and with them what is stored
record AreAlike (k j : Counting) : Type 0 where
  counter : (layer : Layer) → k.counter layer ≡ j.counter layer
  reserve : (layer : Layer) → k.reserve layer ≡ j.reserve layer
  floor : (layer : Layer) → k.floor layer ≡ j.floor layer
  start : k.start ≡ j.start

moves_alike : (k j : Counting) → AreAlike k j → (m : Move) → move_edits k m ≡ move_edits j m
moves_alike k j same (Draw key) = refl
moves_alike k j same (DropNet key) = refl
moves_alike k j same (DropLink partner key) = refl
moves_alike k j same (Install key sequence) = refl
moves_alike k j same (Active key) = rw same.start refl
moves_alike k j same (Row partner key attribute) = refl
moves_alike k j same (Pair first second key) = refl
moves_alike k j same (Became state) = refl
moves_alike k j same (Live device) = refl
moves_alike k j same (Removed device) = refl
moves_alike k j same (Roll sending) = refl
moves_alike k j same (Told device) = refl
moves_alike k j same (Untold device) = refl

edits_alike : (k j : Counting) → AreAlike k j → (s : NodeState) (p : Plan) → edits_of (shown s) k p ≡ edits_of s j p
unfolding edits_of
edits_alike k j same s p =
    rw (
      same.reserve Nwk,
      same.reserve Aps,
      each_piece (floor_edit k) (floor_edit j)
          (λ t. ap
          (λ o. option_to_list (option_map (Rattle.zb_model.specs.Data.Edit.Floor t.layer t.base t.source) o))
          (same.floor t.layer)) p.accepts,
      made_same s (moves_of p.outcome),
      each_piece (move_edits k) (move_edits j) (moves_alike k j same) (filter (changes s) (moves_of p.outcome)),
    ) refl

counting_alike : (c : Setting) (s : NodeState) (p : Plan) → AreUnderLive s p.accepts
    → AreAlike (counting_of c (shown s) p) (counting_of c s p)
unfolding counting_of
counting_alike c s p live = record {
  counter = λ layer. next_same layer s;
  reserve = λ layer. reserve_same c s (sending_of p.outcome) layer;
  floor = λ layer. floor_same c s p.accepts layer live;
  start = start_same c s p;
}

-- ---- what is sent

framed_shown : (tools : Tools) (c : Setting) (to nwk : ℕ) (secured : Bool) (o : Option NetKey) (part : Part)
    → framed tools c to nwk secured (option_map shown_net o) part ≡ framed tools c to nwk secured o part
framed_shown tools c to nwk false o part = refl
framed_shown tools c to nwk true None part = refl
framed_shown tools c to nwk true (Some r) part = refl

sent_alike : (tools : Tools) (c : Setting) (k j : Counting) → AreAlike k j → (s : NodeState) (send : Option Sending)
    → sent tools c (shown s) k send ≡ sent tools c s j send
sent_alike tools c k j same s None = refl
sent_alike tools c k j same s (Some send) =
    rw (same.counter Nwk, same.counter Aps, active_same s)
    (framed_shown tools c send.to (j.counter Nwk) send.secured (active_row s)
    (part_of tools c.me.eui send.to (j.counter Nwk) (j.counter Aps) send.body))

out_alike : (tools : Tools) (c : Setting) (k j : Counting) → AreAlike k j → (s : NodeState) (send : Option Sending)
    → out_of tools c (shown s) k send ≡ out_of tools c s j send
unfolding out_of
out_alike tools c k j same s send = rw (may_seal_same s send, sent_alike tools c k j same s send) refl

-- ---- the answer

by_alike : (tools : Tools) (c : Setting) (k j : Counting) → AreAlike k j → (s : NodeState) (p : Plan)
    → answer_by tools c (shown s) k p ≡ answer_by tools c s j p
unfolding answer_by
by_alike tools c k j same s p = rw (edits_alike k j same s p, out_alike tools c k j same s (sending_of p.outcome)) refl

pub answer_same : (tools : Tools) (c : Setting) (s : NodeState) (task : Task)
    → AreUnderLive s (plan_of tools c s task).accepts → answer tools c (shown s) task ≡ answer tools c s task
unfolding answer
answer_same tools c s task live =
    ap (λ p. answer_by tools c (shown s) (counting_of c (shown s) p) p) (plan_same tools c s task)
    ∙ by_alike tools c (counting_of c (shown s) (plan_of tools c s task)) (counting_of c s (plan_of tools c s task))
    (counting_alike c s (plan_of tools c s task) live) s (plan_of tools c s task)
