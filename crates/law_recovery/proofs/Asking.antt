-- A member asks to rejoin, and the centre answers for its child.
use Rattle.std.proofs.Common.{◌≡◌, ℕ, Bool, true, false, not, ◌||◌, if◌then◌else◌, [], ◌∷◌, filter, fold, flat_map, Option, Some, None, refl, ap, ◌∙◌}
use Rattle.std.specs.Prelude.{is_none}
use Rattle.std.proofs.lemmas.Bool.{false≢true}
use Rattle.zb_model.specs.Data.{Nwk, Aps, State, Fresh, Knocked, Joined, Offered, Confirmed, Rejoining, Gone, ForTransport, AtEvent, NoKey, NotMember, WrongState, CounterSpent, Became, DoRejoin, HasChild, TransportNet}
use Rattle.zb_model.specs.Rules.{Setting, Outcome, Does, Stop, Secret, refuse_if, found_or, sends, short_of, spent, has_joined, in_rejoining}
use Rattle.zb_model.specs.OwnEvents.{rejoin, child_of_centre, own}
use Rattle.zb_model.specs.State.{NetKey, LinkKey, NodeState, is_centre, active_row, current, next_counter, applied, applied_all}
use Rattle.zb_model.specs.Tools.{Tools}
use Rattle.zb_model.specs.Answer.{Answer, Counting, moves_of, changes, move_edits, comes_to, part_of, may_seal, out_of, edits_of, answer_by, reserve_of, floor_of, counting_of, plan_of, answer, answered}
use Rattle.law_recovery.proofs.Fields.{Fields, fields, fields_by, fields_after, reserve_leaves}
use Rattle.law_recovery.specs.Answering.{after_task, frame_of}
use Rattle.law_recovery.specs.KeyFrames.{key_bytes}
use Rattle.law_recovery.specs.Rejoining.{why_not_sent, AreOfOneNetwork, AreLinked, may_rejoin, rejoining, answer_frame}

abbrev pub by_outcome : Tools → Setting → NodeState → Outcome → Answer
by_outcome tools c s o = answer_by tools c s (counting_of c s (comes_to [] AtEvent o)) (comes_to [] AtEvent o)

-- ---- the member asks

rejoin_answer : (tools : Tools) (m : Setting) (t : NodeState) (o : Outcome) → is_centre m.me.role ≡ false → rejoin t
    ≡ o → answer tools m t DoRejoin ≡ by_outcome tools m t o
unfolding answer plan_of own
rejoin_answer tools m t o role e = rw role (ap (by_outcome tools m t) e)

rejoin_rule : (t : NodeState) → rejoin t ≡ (if has_joined t.state then Does (Became Rejoining ∷ []) None
    else Stop WrongState)
unfolding rejoin refuse_if
rejoin_rule t = by_test (has_joined t.state)
  where
    by_test : (b : Bool) → (if not b then Stop WrongState else Does (Became Rejoining ∷ []) None)
        ≡ (if b then Does (Became Rejoining ∷ []) None else Stop WrongState)
    by_test true = refl
    by_test false = refl

begun : (tools : Tools) (m : Setting) (t : NodeState) (g : State) → t.state ≡ g → (has_joined g || in_rejoining g)
    ≡ true → answered
    (by_outcome tools m t (if has_joined g then Does (Became Rejoining ∷ []) None else Stop WrongState)) t
    ≡ rejoining t
unfolding answered answer_by counting_of edits_of out_of may_seal reserve_of floor_of applied_all applied
begun tools m t Fresh e may = absurd (false≢true may)
begun tools m t Knocked e may = absurd (false≢true may)
begun tools m t Joined e may = rw e refl
begun tools m t Offered e may = rw e refl
begun tools m t Confirmed e may = rw e refl
begun tools m t Rejoining e may = ap (λ g. record t { state = g }) e
begun tools m t Gone e may = absurd (false≢true may)

pub waits : (tools : Tools) (m : Setting) (t : NodeState) → is_centre m.me.role ≡ false → may_rejoin t ≡ true
    → after_task tools m t DoRejoin ≡ rejoining t
unfolding after_task
waits tools m t role may =
    ap (λ a. answered a t)
    (rejoin_answer tools m t (if has_joined t.state then Does (Became Rejoining ∷ []) None else Stop WrongState) role
    (rejoin_rule t)) ∙ begun tools m t t.state refl may

reason_by : (tools : Tools) (m : Setting) (t : NodeState) (b : Bool)
    → (by_outcome tools m t (if b then Does (Became Rejoining ∷ []) None else Stop WrongState)).refusal
    ≡ (if b then None else Some WrongState)
unfolding answer_by
reason_by tools m t true = refl
reason_by tools m t false = refl

pub asks : (tools : Tools) (m : Setting) (t : NodeState) → is_centre m.me.role ≡ false
    → (answer tools m t DoRejoin).refusal ≡ (if has_joined t.state then None else Some WrongState)
asks tools m t role =
    ap (λ (a : Answer). a.refusal)
    (rejoin_answer tools m t (if has_joined t.state then Does (Became Rejoining ∷ []) None else Stop WrongState) role
    (rejoin_rule t)) ∙ reason_by tools m t (has_joined t.state)

-- ---- the centre answers

pub child_answer : (tools : Tools) (c : Setting) (s : NodeState) (device : ℕ) (rejoin : Bool) (o : Outcome)
    → is_centre c.me.role ≡ true → child_of_centre c s device ≡ o → answer tools c s (HasChild device rejoin)
    ≡ by_outcome tools c s o
unfolding answer plan_of own
child_answer tools c s device rejoin o role e = rw role (ap (by_outcome tools c s) e)

abbrev pub child_does : Setting → ℕ → NetKey → LinkKey → Outcome
child_does c device net row =
    Does []
    (sends (short_of c device) false (Secret ForTransport row.key (TransportNet net.key net.sequence device c.me.eui)))

child_refused : (tools : Tools) (c : Setting) (s : NodeState) (device : ℕ) (n : Option NetKey) (l : Option LinkKey)
    (b : Bool) → active_row s ≡ n → current s device ≡ l → spent Aps s ≡ b
    → (by_outcome tools c s (child_of_centre c s device)).refusal
    ≡ (if is_none n then Some NoKey
    else (if is_none l then Some NotMember else (if b then Some CounterSpent else None)))
unfolding answer_by child_of_centre found_or refuse_if
child_refused tools c s device None l b x y z = rw x refl
child_refused tools c s device (Some net) None b x y z = rw (x, y) refl
child_refused tools c s device (Some net) (Some row) true x y z = rw (x, y, z) refl
child_refused tools c s device (Some net) (Some row) false x y z = rw (x, y, z) refl

pub refuses : (tools : Tools) (c : Setting) (s : NodeState) (device : ℕ) (rejoin : Bool) → is_centre c.me.role ≡ true
    → (answer tools c s (HasChild device rejoin)).refusal ≡ why_not_sent s device
unfolding why_not_sent
refuses tools c s device rejoin role =
    ap (λ (a : Answer). a.refusal) (child_answer tools c s device rejoin (child_of_centre c s device) role refl) ∙
    child_refused tools c s device (active_row s) (current s device) (spent Aps s) refl refl refl

pub child_rule : (c : Setting) (s : NodeState) (device : ℕ) (net : NetKey) (row : LinkKey) → active_row s ≡ Some net
    → current s device ≡ Some row → spent Aps s ≡ false → child_of_centre c s device ≡ child_does c device net row
unfolding child_of_centre found_or refuse_if
child_rule c s device net row x y z = rw (x, y, z) refl

child_frame : (tools : Tools) (c : Setting) (s : NodeState) (device : ℕ) (net : NetKey) (row : LinkKey) → spent Aps s
    ≡ false
    → (by_outcome tools c s (child_does c device net row)).frame
    ≡ Some (key_bytes tools
    (record {
      key = net.key;
      sequence = net.sequence;
      device = device;
      centre = c.me.eui;
      to = short_of c device;
      from = c.me.short;
      link = row.key;
      counter = next_counter Aps s;
    }))
unfolding answer_by counting_of out_of may_seal part_of
child_frame tools c s device net row z = rw z refl

pub sends_to : (tools : Tools) (c m : Setting) (s : NodeState) → AreOfOneNetwork c m → (net : NetKey) (row : LinkKey)
    → active_row s ≡ Some net → current s m.me.eui ≡ Some row → spent Aps s ≡ false → (rejoin : Bool)
    → frame_of tools c s (HasChild m.me.eui rejoin) ≡ Some (key_bytes tools (answer_frame c m s net row))
sends_to tools c m s o net row active link z rejoin =
    ap (λ (a : Answer). a.frame)
    (child_answer tools c s m.me.eui rejoin (child_does c m.me.eui net row) o.centre_role
    (child_rule c s m.me.eui net row active link z))
    ∙ child_frame tools c s m.me.eui net row z
    ∙ ap (λ n. Some (key_bytes tools (record (answer_frame c m s net row) { to = n }))) o.short_known

pub sends_key : (tools : Tools) (c m : Setting) (s t : NodeState) → AreOfOneNetwork c m → (l : AreLinked c m s t)
    → spent Aps s ≡ false → (rejoin : Bool) → frame_of tools c s (HasChild m.me.eui rejoin)
    ≡ Some (key_bytes tools (answer_frame c m s l.net l.row))
sends_key tools c m s t o l z rejoin = sends_to tools c m s o l.net l.row l.active_key l.at_centre z rejoin

-- ---- what both leave

silent_by : (tools : Tools) (m : Setting) (t : NodeState) (b : Bool)
    → (by_outcome tools m t (if b then Does (Became Rejoining ∷ []) None else Stop WrongState)).frame ≡ None
unfolding answer_by counting_of out_of may_seal
silent_by tools m t true = refl
silent_by tools m t false = refl

-- a member that asks sends no frame
pub asks_silently : (tools : Tools) (m : Setting) (t : NodeState) → is_centre m.me.role ≡ false
    → (answer tools m t DoRejoin).frame ≡ None
asks_silently tools m t role =
    ap (λ (a : Answer). a.frame)
    (rejoin_answer tools m t (if has_joined t.state then Does (Became Rejoining ∷ []) None else Stop WrongState) role
    (rejoin_rule t)) ∙ silent_by tools m t (has_joined t.state)

-- an outcome without changes leaves the active key
idle_fields : (tools : Tools) (c : Setting) (s : NodeState) (k : Counting) (o : Outcome) → moves_of o ≡ []
    → fields (answered (answer_by tools c s k (comes_to [] AtEvent o)) s) ≡ fields s
unfolding answer_by edits_of
idle_fields tools c s k o e =
    fields_after (answer_by tools c s k (comes_to [] AtEvent o)) s ∙ reserve_leaves (k.reserve Nwk) (k.reserve Aps)
    (fields s) (flat_map (move_edits k) (filter (changes s) (moves_of o)))
    ∙ ap (λ ms. fold fields_by (fields s) (flat_map (move_edits k) (filter (changes s) ms))) e

pub child_idle : (c : Setting) (s : NodeState) (device : ℕ) → moves_of (child_of_centre c s device) ≡ []
unfolding child_of_centre found_or refuse_if
child_idle c s device = by_net (active_row s) (current s device) (spent Aps s)
  where
    by_net : (n : Option NetKey) (l : Option LinkKey) (b : Bool)
        → moves_of
        (found_or n NoKey
        (λ net. found_or l NotMember
        (λ row. refuse_if b CounterSpent
        (Does []
        (sends (short_of c device) false
        (Secret ForTransport row.key (TransportNet net.key net.sequence device c.me.eui))))))) ≡ []
    by_net None l b = refl
    by_net (Some net) None b = refl
    by_net (Some net) (Some row) true = refl
    by_net (Some net) (Some row) false = refl

pub active_left : (tools : Tools) (c : Setting) (s : NodeState) (device : ℕ) (rejoin : Bool) → is_centre c.me.role
    ≡ true → (answered (answer tools c s (HasChild device rejoin)) s).active ≡ s.active
active_left tools c s device rejoin role =
    ap (λ a. (answered a s).active) (child_answer tools c s device rejoin (child_of_centre c s device) role refl)
    ∙ ap (λ (x : Fields). x.active)
    (idle_fields tools c s (counting_of c s (comes_to [] AtEvent (child_of_centre c s device)))
    (child_of_centre c s device) (child_idle c s device))
