-- The frame of a network key is delivered to a member that rejoins: what the member refuses, and its state after it
-- installs the key.
use Rattle.std.proofs.Common.{◌≡◌, ℕ, ◌<◌, ◌≤◌, Bool, true, false, not, if◌then◌else◌, List, [], ◌∷◌, ◌++◌, filter, fold, flat_map, length, Option, Some, None, option_map, option_to_list, is_some, nat_eq, nat_lt, nat_le, refl, sym, ap, ◌∙◌, subst, eq-eqb}
use Rattle.std.proofs.lemmas.Bool.{false≢true, lt-leb}
use Rattle.std.proofs.lemmas.List.{append-nil}
use Rattle.std.specs.Prelude.{is_none}
use Rattle.std.proofs.lemmas.Slice.Eq.{bytes_eq-Decides}
use Rattle.zb_model.specs.Data.{Bytes, Nwk, Aps, State, Joined, Confirmed, Rejoining, ForTransport, Term, AtAps, CounterMax, NoKey, NotMember, CounterSpent, Stale, KeyOld, KeysFull, Move, Install, Active, Became, Edit, Floor, Moved, DoRejoin, HasChild, Received}
use Rattle.zb_model.specs.Fits.{keeps_rules, active_is_live, live_net}
use Rattle.zb_model.specs.Rules.{Setting, Plan, Outcome, Does, Stop, refuse_if, choose, centre_of, spent, nets_full, drop_old, first_drop, waits_for_key}
use Rattle.zb_model.specs.State.{applied_all, greatest_counter, NetKey, LinkKey, NodeState, is_centre, active_row, is_verified, is_active_key, has_net, current, offered, next_counter, live_nets}
use Rattle.zb_model.specs.Tools.{Tools, NwkShown, ApsAuxiliary}
use Rattle.zb_model.specs.Judging.{Good, reject, need, judge_nwk, Unsealed, judge_aps, candidates}
use Rattle.zb_model.specs.Commands.{Heard, dropped_at, take_net_key, take_command}
use Rattle.zb_model.specs.Answer.{Counting, may_seal, out_of, reserve_of, floor_of, stopped_at, comes_to, heard_sealed, received_as, aps_part, by_security, sealed_part, plan_of, refusal_of, reason_of, moves_of, changes, move_edits, start_edit, floor_edit, edits_of, answer_by, counting_of, answer, answered}
use Rattle.law_answer_storable.specs.Storing.{OpensAsJudged}
use Rattle.law_answer_storable.proofs.Answers.{kept_answered}
use Rattle.law_change_fits.proofs.Parts.{rules_of}
use Rattle.law_recovery.specs.Answering.{after_task, frame_of}
use Rattle.law_recovery.specs.KeyFrames.{KeyFrame, KeyFrameInRange, key_term, key_bytes, Arrives, DeliversKeys}
use Rattle.law_recovery.specs.Rejoining.{why_not_sent, Rejoins, why_not_taken, why_old, AreOfOneNetwork, AreLinked, may_rejoin, rejoining, answer_frame, HasRejoined}
use Rattle.law_recovery.proofs.Changing.{active_key}
use Rattle.law_recovery.proofs.Fields.{Fields, fields, fields_by, fields_after, reserve_leaves}
use Rattle.law_recovery.proofs.Candidates.{one_candidate}
use Rattle.law_recovery.proofs.Asking.{waits, sends_key}
use Rattle.zb_model.specs.Record.{state_byte}

-- the member in a state in which it waits for a network key
abbrev pub in_state : State → NodeState → NodeState
in_state g t = record t { state = g }

-- ---- the frame is verified

abbrev shown_of : Tools → KeyFrame → NwkShown
shown_of tools f =
    record {
      is_command = false;
      destination = f.to;
      source = f.from;
      auxiliary = None;
      body = tools.wire (key_term tools f);
    }

abbrev seal_of : KeyFrame → ApsAuxiliary
seal_of f = record { label = ForTransport; counter = f.counter; source = Some f.centre }

self : (n : ℕ) → nat_eq n n ≡ true
self n = eq-eqb n n refl

-- a node that waits for a network key lets the frame pass
passes : (tools : Tools) (m : Setting) (g : State) (t : NodeState) (f : KeyFrame) → waits_for_key g ≡ true
    → Arrives tools f → is_centre m.me.role ≡ false → f.to ≡ m.me.short → nat_eq f.from m.me.short ≡ false
    → judge_nwk tools m (in_state g t) (key_bytes tools f) ≡ Good (record { frame = shown_of tools f; term = None })
unfolding judge_nwk need reject
passes tools m g t f w a role to from =
    rw (a.shown, from, to, self m.me.short, role, w, a.reads, a.is_command, a.sealed) refl

-- and it opens under the link key: unless its counter is below the floor
abbrev found : Tools → KeyFrame → LinkKey → Unsealed
found tools f own = record { term = key_term tools f; row = own }

passed : (b : Bool) (u : Unsealed) (own : LinkKey)
    → reject false AtAps CounterMax (reject b AtAps (Stale own.kept) (Good u))
    ≡ reject b AtAps (Stale own.kept) (Good u)
unfolding reject
passed b u own = refl

opened : (tools : Tools) (m : Setting) (g : State) (t : NodeState) (f : KeyFrame) (own : LinkKey) → Arrives tools f
    → f.counter < greatest_counter → own.key ≡ f.link → candidates t f.centre ≡ own ∷ []
    → judge_aps tools m (in_state g t) (shown_of tools f) (tools.wire (key_term tools f)) (seal_of f)
    ≡ reject (nat_lt f.counter own.kept) AtAps (Stale own.kept) (Good (found tools f own))
unfolding judge_aps need candidates
opened tools m g t f own a lt same one =
    let small : nat_le greatest_counter f.counter ≡ false = below f.counter lt in
    let opens : tools.open_aps (tools.wire (key_term tools f)) own.key f.centre ≡ Some (key_term tools f) =
    ap (λ k. tools.open_aps (tools.wire (key_term tools f)) k f.centre) same ∙ a.opens f.centre in
    rw (one, opens, opens, small) (passed (nat_lt f.counter own.kept) (found tools f own) own)
  where
    below : (n : ℕ) → n < greatest_counter → nat_le greatest_counter n ≡ false
    below n lt = lt-leb greatest_counter n lt

-- ---- the command is accepted

abbrev heard : KeyFrame → Tools → LinkKey → Heard
heard f tools own = heard_sealed None (seal_of f) (found tools f own)

abbrev pub new_moves : State → NodeState → KeyFrame → List Move
new_moves e t f = drop_old t ++ (Install f.key f.sequence ∷ Active f.key ∷ Became e ∷ [])

abbrev pub same_moves : State → KeyFrame → List Move
same_moves e f = Active f.key ∷ Became e ∷ []

abbrev pub outcome_by : State → NodeState → KeyFrame → Option ℕ → Bool → Bool → Outcome
outcome_by e t f (Some place) has full = Stop (KeyOld place)
outcome_by e t f None true full = Does (same_moves e f) None
outcome_by e t f None false true = Stop KeysFull
outcome_by e t f None false false = Does (new_moves e t f) None

taken_so : (m : Setting) (g e : State) (t : NodeState) (tools : Tools) (f : KeyFrame) (own : LinkKey)
    → waits_for_key g ≡ true → is_centre m.me.role ≡ false → f.centre ≡ centre_of m.stations → f.device ≡ m.me.eui
    → current t (centre_of m.stations) ≡ Some own → (if is_verified own.attribute then Confirmed else Joined) ≡ e
    → offered t (centre_of m.stations) ≡ None
    → (o : Option ℕ) (has full : Bool) → dropped_at 0 f.key t.nets ≡ o → has_net f.key t.nets ≡ has → nets_full t
    ≡ full
    → take_net_key m (in_state g t) (heard f tools own) f.key f.sequence f.device f.centre
    ≡ outcome_by e t f o has full
unfolding take_net_key refuse_if choose current offered drop_old
taken_so m g e t tools f own w role is_from is_to at good none (Some place) has full x y z =
    rw (role, is_from, self (centre_of m.stations), is_to, self m.me.eui, x) refl
taken_so m g e t tools f own w role is_from is_to at good none None true full x y z =
    rw (role, is_from, self (centre_of m.stations), is_to, self m.me.eui, x, y, w, none, at, good) refl
taken_so m g e t tools f own w role is_from is_to at good none None false true x y z =
    rw (role, is_from, self (centre_of m.stations), is_to, self m.me.eui, x, y, z) refl
taken_so m g e t tools f own w role is_from is_to at good none None false false x y z =
    rw (role, is_from, self (centre_of m.stations), is_to, self m.me.eui, x, y, z, w, none, at, good) refl

-- ---- the plan

abbrev pub plan_by : Tools → KeyFrame → LinkKey → Bool → Outcome → Plan
plan_by tools f own true o = stopped_at [] AtAps (Stale own.kept)
plan_by tools f own false o = comes_to (key_term tools f ∷ []) AtAps o

-- what is true of the frame and of the member
pub record Facts (tools : Tools) (m : Setting) (g e : State) (t : NodeState) (f : KeyFrame) (own : LinkKey) : Type 0
  where
    pub arrives : Arrives tools f
    pub role : is_centre m.me.role ≡ false
    pub to : f.to ≡ m.me.short
    pub apart : nat_eq f.from m.me.short ≡ false
    pub small : f.counter < greatest_counter
    pub same : own.key ≡ f.link
    pub from_centre : f.centre ≡ centre_of m.stations
    pub device : f.device ≡ m.me.eui
    pub at : current t (centre_of m.stations) ≡ Some own
    pub waits : waits_for_key g ≡ true
    pub ends : (if is_verified own.attribute then Confirmed else Joined) ≡ e
    pub leaves : nat_eq (state_byte g) (state_byte e) ≡ false
    pub none : offered t (centre_of m.stations) ≡ None
    pub one : candidates t f.centre ≡ own ∷ []

by_floor : (tools : Tools) (m : Setting) (g e : State) (t : NodeState) (f : KeyFrame) (own : LinkKey)
    (draw : Option Bytes) → (x : Facts tools m g e t f own) → (b : Bool)
    → sealed_part tools m (in_state g t) draw None x.arrives.part (seal_of f)
    (reject b AtAps (Stale own.kept) (Good (found tools f own)))
    ≡ plan_by tools f own b (outcome_by e t f (dropped_at 0 f.key t.nets) (has_net f.key t.nets) (nets_full t))
unfolding reject take_command
by_floor tools m g e t f own draw x true = refl
by_floor tools m g e t f own draw x false =
    rw (x.arrives.is_command, x.arrives.means)
    (ap (comes_to (key_term tools f ∷ []) AtAps)
    (taken_so m g e t tools f own x.waits x.role x.from_centre x.device x.at x.ends x.none
    (dropped_at 0 f.key t.nets) (has_net f.key t.nets) (nets_full t) refl refl refl))

pub delivered : (tools : Tools) (m : Setting) (g e : State) (t : NodeState) (f : KeyFrame) (own : LinkKey)
    (draw : Option Bytes) → Facts tools m g e t f own
    → plan_of tools m (in_state g t) (Received (key_bytes tools f) draw)
    ≡ plan_by tools f own (nat_lt f.counter own.kept)
    (outcome_by e t f (dropped_at 0 f.key t.nets) (has_net f.key t.nets) (nets_full t))
unfolding plan_of
delivered tools m g e t f own draw x =
    ap (received_as tools m (in_state g t) draw) (passes tools m g t f x.waits x.arrives x.role x.to x.apart)
    ∙ ap (aps_part tools m (in_state g t) draw (shown_of tools f) None) x.arrives.reads
    ∙ ap (by_security tools m (in_state g t) draw (shown_of tools f) None x.arrives.part) x.arrives.sealed
    ∙ ap (sealed_part tools m (in_state g t) draw None x.arrives.part (seal_of f))
    (opened tools m g t f own x.arrives x.small x.same x.one)
    ∙ by_floor tools m g e t f own draw x (nat_lt f.counter own.kept)

-- ---- refusals

refused_by : (tools : Tools) (e : State) (t : NodeState) (f : KeyFrame) (own : LinkKey) (b : Bool) (o : Option ℕ)
    (has full : Bool)
    → refusal_of (plan_by tools f own b (outcome_by e t f o has full))
    ≡ (if b then Some (Stale own.kept)
    else why_old o (if has then None else (if full then Some KeysFull else None)))
refused_by tools e t f own true o has full = refl
refused_by tools e t f own false (Some place) has full = refl
refused_by tools e t f own false None true full = refl
refused_by tools e t f own false None false true = refl
refused_by tools e t f own false None false false = refl

pub refuses_key : (tools : Tools) (m : Setting) (g e : State) (t : NodeState) (f : KeyFrame) (own : LinkKey)
    (draw : Option Bytes) → Facts tools m g e t f own
    → (answer tools m (in_state g t) (Received (key_bytes tools f) draw)).refusal ≡ why_not_taken t own f.counter f.key
unfolding answer answer_by why_not_taken
refuses_key tools m g e t f own draw x = ap refusal_of (delivered tools m g e t f own draw x) ∙ refused_by tools e t f
    own (nat_lt f.counter own.kept) (dropped_at 0 f.key t.nets) (has_net f.key t.nets) (nets_full t)

-- ---- the member's state then

abbrev taken_with : State → Bytes → NodeState → Fields
taken_with e key t = record { active = Some key; state = e; sending = t.sending }

kept_key : (o : Option Bytes) (key : Bytes) → is_active_key o key ≡ true → o ≡ Some key
kept_key None key e = absurd (false≢true e)
kept_key (Some a) key e = ap Some ((bytes_eq-Decides a key).0 e)

-- the changes from the key that becomes active on
activated_fields : (g e : State) (t : NodeState) (k : Counting) (key : Bytes) → nat_eq (state_byte g) (state_byte e)
    ≡ false
    → fold fields_by (fields (in_state g t))
    (flat_map (move_edits k) (filter (changes (in_state g t)) (Active key ∷ Became e ∷ []))) ≡ taken_with e key t
activated_fields g e t k key leaves = rw leaves (by_test (is_active_key t.active key) refl)
  where
    with_start : (o : Option ℕ)
        → fold fields_by (fields (in_state g t)) (Moved (Active key) ∷ start_edit key o ++ (Moved (Became e) ∷ []))
        ≡ taken_with e key t
    with_start None = refl
    with_start (Some v) = refl

    by_test : (b : Bool) → is_active_key t.active key ≡ b
        → fold fields_by (fields (in_state g t))
        (flat_map (move_edits k) (if not b then Active key ∷ Became e ∷ [] else Became e ∷ [])) ≡ taken_with e key t
    by_test true is = ap (λ o. record { active = o; state = e; sending = t.sending }) (kept_key t.active key is)
    by_test false is = with_start k.start

-- a row that is dropped, and one that is installed, change none of them
drops : (t : NodeState) (k : Counting) (x : Fields) (rs : List NetKey) (rest : List Move)
    → fold fields_by x (flat_map (move_edits k) (filter (changes t) (first_drop rs ++ rest)))
    ≡ fold fields_by x (flat_map (move_edits k) (filter (changes t) rest))
drops t k x [] rest = refl
drops t k x (r ∷ rs) rest = refl

old_drops : (g : State) (t : NodeState) (k : Counting) (x : Fields) (rest : List Move)
    → fold fields_by x (flat_map (move_edits k) (filter (changes (in_state g t)) (drop_old t ++ rest)))
    ≡ fold fields_by x (flat_map (move_edits k) (filter (changes (in_state g t)) rest))
unfolding drop_old
old_drops g t k x rest = by_test (nat_le 2 (length (live_nets t)))
  where
    by_test : (b : Bool)
        → fold fields_by x
        (flat_map (move_edits k)
        (filter (changes (in_state g t))
        ((if b then first_drop (filter (λ (r : NetKey). not (is_active_key t.active r.key)) (live_nets t)) else [])
        ++ rest))) ≡ fold fields_by x (flat_map (move_edits k) (filter (changes (in_state g t)) rest))
    by_test true =
        drops (in_state g t) k x (filter (λ (r : NetKey). not (is_active_key t.active r.key)) (live_nets t)) rest
    by_test false = refl

-- floors change none of them
floors_leave : (k : Counting) (x : Fields) (v : Term) (es : List Edit) (o : Option ℕ)
    → fold fields_by x (option_to_list (option_map (Floor v.layer v.base v.source) o) ++ es) ≡ fold fields_by x es
floors_leave k x v es None = refl
floors_leave k x v es (Some n) = refl

one_floor : (k : Counting) (x : Fields) (v : Term) (es : List Edit)
    → fold fields_by x (flat_map (floor_edit k) (v ∷ []) ++ es) ≡ fold fields_by x es
one_floor k x v es = ap (λ l. fold fields_by x (l ++ es)) (append-nil (floor_edit k v)) ∙ floors_leave k x v es
    (k.floor v.layer)

moves_fields : (g e : State) (t : NodeState) (f : KeyFrame) (k : Counting) → nat_eq (state_byte g) (state_byte e)
    ≡ false → (o : Option ℕ) (has full : Bool) → reason_of (outcome_by e t f o has full) ≡ None
    → fold fields_by (fields (in_state g t))
    (flat_map (move_edits k) (filter (changes (in_state g t)) (moves_of (outcome_by e t f o has full))))
    ≡ taken_with e f.key t
moves_fields g e t f k leaves (Some place) has full is = absurd (false≢true (sym (ap is_some is)))
moves_fields g e t f k leaves None true full is = activated_fields g e t k f.key leaves
moves_fields g e t f k leaves None false true is = absurd (false≢true (sym (ap is_some is)))
moves_fields g e t f k leaves None false false is =
    old_drops g t k (fields (in_state g t)) (Install f.key f.sequence ∷ Active f.key ∷ Became e ∷ []) ∙
    activated_fields g e t k f.key leaves

plan_fields : (tools : Tools) (m : Setting) (g e : State) (t : NodeState) (f : KeyFrame) (own : LinkKey)
    (k : Counting) → nat_eq (state_byte g) (state_byte e) ≡ false → (b : Bool) (o : Option ℕ) (has full : Bool)
    → refusal_of (plan_by tools f own b (outcome_by e t f o has full)) ≡ None
    → fields
    (answered (answer_by tools m (in_state g t) k (plan_by tools f own b (outcome_by e t f o has full)))
    (in_state g t)) ≡ taken_with e f.key t
unfolding answer_by edits_of
plan_fields tools m g e t f own k leaves true o has full is = absurd (false≢true (sym (ap is_some is)))
plan_fields tools m g e t f own k leaves false o has full is =
    let moves = flat_map (move_edits k) (filter (changes (in_state g t)) (moves_of (outcome_by e t f o has full))) in
    fields_after
    (answer_by tools m (in_state g t) k (comes_to (key_term tools f ∷ []) AtAps (outcome_by e t f o has full)))
    (in_state g t)
    ∙ reserve_leaves (k.reserve Nwk) (k.reserve Aps) (fields (in_state g t))
    (flat_map (floor_edit k) (key_term tools f ∷ []) ++ moves)
    ∙ one_floor k (fields (in_state g t)) (key_term tools f) moves ∙ moves_fields g e t f k leaves o has full is

pub fields_then : (tools : Tools) (m : Setting) (g e : State) (t : NodeState) (f : KeyFrame) (own : LinkKey)
    (draw : Option Bytes) → Facts tools m g e t f own → why_not_taken t own f.counter f.key ≡ None
    → fields (after_task tools m (in_state g t) (Received (key_bytes tools f) draw)) ≡ taken_with e f.key t
unfolding after_task answer why_not_taken
fields_then tools m g e t f own draw x none =
    let b = nat_lt f.counter own.kept in
    let o = dropped_at 0 f.key t.nets in
    let has = has_net f.key t.nets in
    let full = nets_full t in
    ap (λ p. fields (answered (answer_by tools m (in_state g t) (counting_of m (in_state g t) p) p) (in_state g t)))
    (delivered tools m g e t f own draw x)
    ∙ plan_fields tools m g e t f own
    (counting_of m (in_state g t) (plan_by tools f own b (outcome_by e t f o has full))) x.leaves b o has full
    (refused_by tools e t f own b o has full ∙ none)

-- an active key is live, by the rules for records
live_by : (t : NodeState) (key : Bytes) → t.active ≡ Some key → active_is_live t ≡ true → live_net key t ≡ true
unfolding active_is_live
live_by t key e live = subst (λ o. active_is_live (record t { active = o }) ≡ true) e live

-- The member is in this state, and this network key is active, in a live row.
pub record HasTaken (u : NodeState) (state : State) (key : Bytes) : Type 0 where
  pub state_is : u.state ≡ state
  pub active_key : u.active ≡ Some key
  pub live_key : live_net key u ≡ true

pub takes_key : (tools : Tools) → OpensAsJudged tools → (m : Setting) (g e : State) (t : NodeState) (f : KeyFrame)
    (own : LinkKey) (draw : Option Bytes) → Facts tools m g e t f own → keeps_rules (in_state g t) ≡ true → t.role
    ≡ m.me.role → 1 ≤ m.me.in_block
    → why_not_taken t own f.counter f.key ≡ None
    → HasTaken (after_task tools m (in_state g t) (Received (key_bytes tools f) draw)) e f.key
unfolding after_task
takes_key tools opens m g e t f own draw x rules role block none =
    let fs = fields_then tools m g e t f own draw x none in
    let kept = kept_answered tools opens m (in_state g t) (Received (key_bytes tools f) draw) rules role block in
    let active = ap (λ (y : Fields). y.active) fs in
    record {
      state_is = ap (λ (y : Fields). y.state) fs;
      active_key = active;
      live_key = live_by (after_task tools m (in_state g t) (Received (key_bytes tools f) draw)) f.key active
          (rules_of (after_task tools m (in_state g t) (Received (key_bytes tools f) draw)) kept).active;
    }

-- ---- two nodes

pub facts : (tools : Tools) → DeliversKeys tools → (c m : Setting) (s t : NodeState) → AreOfOneNetwork c m
    → (l : AreLinked c m s t) → KeyFrameInRange (answer_frame c m s l.net l.row) → keeps_rules t ≡ true
    → Facts tools m Rejoining Confirmed t (answer_frame c m s l.net l.row) l.own
facts tools delivers c m s t o l range rules = record {
  arrives = delivers (answer_frame c m s l.net l.row) range;
  role = o.member_role;
  to = refl;
  apart = o.shorts_differ;
  small = range.counter;
  same = l.same_key;
  from_centre = sym o.centre_known;
  device = refl;
  at = ap (current t) o.centre_known ∙ l.at_member;
  waits = refl;
  ends = rw l.verified refl;
  leaves = refl;
  none = ap (offered t) o.centre_known ∙ l.no_offer;
  one = one_candidate t c.me.eui l.own rules l.at_member l.no_offer;
}

pub rules_then : (tools : Tools) → OpensAsJudged tools → (m : Setting) (t : NodeState) → is_centre m.me.role ≡ false
    → may_rejoin t ≡ true → keeps_rules t ≡ true → t.role ≡ m.me.role → 1 ≤ m.me.in_block → keeps_rules (rejoining t)
    ≡ true
unfolding after_task
rules_then tools opens m t role may rules same block = subst (λ u. keeps_rules u ≡ true) (waits tools m t role may)
    (kept_answered tools opens m t DoRejoin rules same block)

-- ---- the contracts

has_rejoined : (u : NodeState) (key : Bytes) → HasTaken u Confirmed key → HasRejoined u key
has_rejoined u key h = record { confirmed = h.state_is; active_key = h.active_key; live_key = h.live_key }

unspent_then : (s : NodeState) (device : ℕ) → (n : Option NetKey) → active_row s ≡ n → (l : Option LinkKey)
    → current s device ≡ l → (b : Bool) → spent Aps s ≡ b
    → (if is_none n then Some NoKey
    else (if is_none l then Some NotMember else (if b then Some CounterSpent else None))) ≡ None → spent Aps s
    ≡ false
unspent_then s device None x l y b z e = absurd (false≢true (sym (ap is_some e)))
unspent_then s device (Some net) x None y b z e = absurd (false≢true (sym (ap is_some e)))
unspent_then s device (Some net) x (Some row) y true z e = absurd (false≢true (sym (ap is_some e)))
unspent_then s device (Some net) x (Some row) y false z e = z

pub unspent_of : (s : NodeState) (device : ℕ) → why_not_sent s device ≡ None → spent Aps s ≡ false
unfolding why_not_sent
unspent_of s device e = unspent_then s device (active_row s) refl (current s device) refl (spent Aps s) refl e

pub sent : (tools : Tools) (c m : Setting) (s t : NodeState) → AreOfOneNetwork c m → (l : AreLinked c m s t)
    → why_not_sent s m.me.eui ≡ None → (rejoin : Bool) → frame_of tools c s (HasChild m.me.eui rejoin)
    ≡ Some (key_bytes tools (answer_frame c m s l.net l.row))
sent tools c m s t o l e rejoin = sends_key tools c m s t o l (unspent_of s m.me.eui e) rejoin

pub refused : (tools : Tools) → DeliversKeys tools → (c m : Setting) (s t : NodeState) → AreOfOneNetwork c m
    → (l : AreLinked c m s t) → KeyFrameInRange (answer_frame c m s l.net l.row) → keeps_rules t ≡ true
    → (draw : Option Bytes)
    → (answer tools m (rejoining t) (Received (key_bytes tools (answer_frame c m s l.net l.row)) draw)).refusal
    ≡ why_not_taken t l.own (next_counter Aps s) l.net.key
refused tools delivers c m s t o l range rules draw = refuses_key tools m Rejoining Confirmed t
    (answer_frame c m s l.net l.row) l.own draw (facts tools delivers c m s t o l range rules)

pub taken : (tools : Tools) → DeliversKeys tools → OpensAsJudged tools → (c m : Setting) (s t : NodeState)
    → AreOfOneNetwork c m → (l : AreLinked c m s t) → KeyFrameInRange (answer_frame c m s l.net l.row) → keeps_rules t
    ≡ true → t.role ≡ m.me.role → may_rejoin t ≡ true → (draw : Option Bytes)
    → why_not_taken t l.own (next_counter Aps s) l.net.key ≡ None
    → HasRejoined
    (after_task tools m (rejoining t) (Received (key_bytes tools (answer_frame c m s l.net l.row)) draw)) l.net.key
taken tools delivers opens c m s t o l range rules role may draw e =
    has_rejoined (after_task tools m (rejoining t) (Received (key_bytes tools (answer_frame c m s l.net l.row)) draw))
    l.net.key
    (takes_key tools opens m Rejoining Confirmed t (answer_frame c m s l.net l.row) l.own draw
    (facts tools delivers c m s t o l range rules)
    (rules_then tools opens m t o.member_role may rules role o.in_block) role o.in_block e)

pub active_of : (s : NodeState) (r : NetKey) → active_row s ≡ Some r → s.active ≡ Some r.key
active_of s r e = let k = active_key s r e in k.1 ∙ ap Some (sym ((bytes_eq-Decides r.key k.0).0 k.2))

pub rejoins : (tools : Tools) → DeliversKeys tools → OpensAsJudged tools → (c m : Setting) (s t : NodeState)
    → AreOfOneNetwork c m → (l : AreLinked c m s t) → KeyFrameInRange (answer_frame c m s l.net l.row) → keeps_rules t
    ≡ true → t.role ≡ m.me.role → may_rejoin t ≡ true → (draw : Option Bytes)
    → why_not_sent s m.me.eui ≡ None → why_not_taken t l.own (next_counter Aps s) l.net.key ≡ None
    → Rejoins tools c m s t draw
rejoins tools delivers opens c m s t o l range rules role may draw e f = record {
  waits = waits tools m t o.member_role may;
  frame = key_bytes tools (answer_frame c m s l.net l.row);
  sent = sent tools c m s t o l e true;
  taken = refused tools delivers c m s t o l range rules draw ∙ f;
  key = l.net.key;
  active_key = active_of s l.net l.active_key;
  ends = taken tools delivers opens c m s t o l range rules role may draw f;
}

-- ---- a stale frame leaves the member as it was

stale_leaves : (tools : Tools) (m : Setting) (t : NodeState) (f : KeyFrame) (own : LinkKey) (draw : Option Bytes)
    → Facts tools m Rejoining Confirmed t f own → nat_lt f.counter own.kept ≡ true
    → after_task tools m (rejoining t) (Received (key_bytes tools f) draw) ≡ rejoining t
unfolding after_task answer answered answer_by counting_of edits_of out_of may_seal reserve_of floor_of applied_all
stale_leaves tools m t f own draw x e =
    ap (λ p. answered (answer_by tools m (rejoining t) (counting_of m (rejoining t) p) p) (rejoining t))
    (delivered tools m Rejoining Confirmed t f own draw x ∙ ap
    (λ b. plan_by tools f own b
    (outcome_by Confirmed t f (dropped_at 0 f.key t.nets) (has_net f.key t.nets) (nets_full t))) e)

pub left_by_stale : (tools : Tools) → DeliversKeys tools → (c m : Setting) (s t : NodeState) → AreOfOneNetwork c m
    → (l : AreLinked c m s t) → KeyFrameInRange (answer_frame c m s l.net l.row) → keeps_rules t ≡ true
    → (draw : Option Bytes)
    → nat_lt (next_counter Aps s) l.own.kept ≡ true
    → after_task tools m (rejoining t) (Received (key_bytes tools (answer_frame c m s l.net l.row)) draw)
    ≡ rejoining t
left_by_stale tools delivers c m s t o l range rules draw e = stale_leaves tools m t (answer_frame c m s l.net l.row)
    l.own draw (facts tools delivers c m s t o l range rules) e
