-- A device knocks, and installs the network key that its centre sends.
use Rattle.std.proofs.Common.{◌≡◌, ℕ, Bool, true, false, not, ◌&&◌, if◌then◌else◌, List, [], ◌∷◌, ◌++◌, map, filter, fold, flat_map, Option, Some, None, is_some, nat_eq, refl, sym, ap, ◌∙◌, subst}
use Rattle.std.specs.Prelude.{is_none}
use Rattle.std.proofs.lemmas.Bool.{false≢true}
use Rattle.zb_model.specs.Data.{Bytes, Nwk, Aps, State, Fresh, Knocked, Joined, Offered, Confirmed, Rejoining, Gone, Provisional, AtEvent, NoKey, Move, Row, Became, DoKnock, Received}
use Rattle.zb_model.specs.Fits.{keeps_rules}
use Rattle.zb_model.specs.Record.{state_byte}
use Rattle.zb_model.specs.Rules.{Setting, Does, found_or, centre_of, drop_link, drop_others}
use Rattle.zb_model.specs.OwnEvents.{knock, own}
use Rattle.zb_model.specs.State.{LinkKey, NodeState, is_centre, is_live_of, same_key, current, offered, code_row, next_counter}
use Rattle.zb_model.specs.Tools.{Tools}
use Rattle.zb_model.specs.Answer.{Answer, Counting, changes, move_edits, comes_to, edits_of, answer_by, counting_of, plan_of, answer, answered}
use Rattle.law_answer_storable.specs.Storing.{OpensAsJudged}
use Rattle.law_recovery.specs.Answering.{after_task}
use Rattle.law_recovery.specs.Joining.{AreIntroduced, Joins}
use Rattle.law_recovery.specs.KeyFrames.{KeyFrameInRange, key_bytes, DeliversKeys}
use Rattle.law_recovery.specs.Rejoining.{why_not_sent, why_not_taken, AreOfOneNetwork, answer_frame}
use Rattle.law_recovery.proofs.Fields.{Fields, fields, fields_by, fields_after, reserve_leaves}
use Rattle.law_recovery.proofs.Candidates.{one_candidate}
use Rattle.law_recovery.proofs.Asking.{by_outcome, sends_to}
use Rattle.law_recovery.proofs.Taking.{Facts, HasTaken, active_of, in_state, refuses_key, takes_key, unspent_of}

-- ---- the knock

knock_answer : (tools : Tools) (m : Setting) (t : NodeState) → is_centre m.me.role ≡ false → answer tools m t DoKnock
    ≡ by_outcome tools m t (knock m t)
unfolding answer plan_of own
knock_answer tools m t role = rw role refl

knock_reason : (tools : Tools) (m : Setting) (t : NodeState) (o : Option LinkKey) → code_row t (centre_of m.stations)
    ≡ o → (by_outcome tools m t (knock m t)).refusal ≡ (if is_none o then Some NoKey else None)
unfolding answer_by knock found_or
knock_reason tools m t None e = rw e refl
knock_reason tools m t (Some row) e = rw e refl

pub knock_refused : (tools : Tools) (m : Setting) (t : NodeState) → is_centre m.me.role ≡ false
    → (answer tools m t DoKnock).refusal ≡ (if is_none (code_row t (centre_of m.stations)) then Some NoKey else None)
knock_refused tools m t role = ap (λ (a : Answer). a.refusal) (knock_answer tools m t role) ∙ knock_reason tools m t
    (code_row t (centre_of m.stations)) refl

-- rows that are dropped change neither state nor active key
drops_leave : (t : NodeState) (k : Counting) (x : Fields) (rows : List LinkKey) (rest : List Move)
    → fold fields_by x (flat_map (move_edits k) (filter (changes t) (map drop_link rows ++ rest)))
    ≡ fold fields_by x (flat_map (move_edits k) (filter (changes t) rest))
drops_leave t k x [] rest = refl
drops_leave t k x (r ∷ rows) rest = drops_leave t k x rows rest

row_leaves : (t : NodeState) (k : Counting) (x : Fields) (b : Bool) (partner : ℕ) (key : Bytes) (rest : List Move)
    → fold fields_by x (flat_map (move_edits k) (if b then Row partner key Provisional ∷ rest else rest))
    ≡ fold fields_by x (flat_map (move_edits k) rest)
row_leaves t k x true partner key rest = refl
row_leaves t k x false partner key rest = refl

-- the last change makes it knocked, if it isn't
abbrev knocked : NodeState → Fields
knocked t = record { active = t.active; state = Knocked; sending = t.sending }

ends_knocked : (t : NodeState) (k : Counting) (g : State) → t.state ≡ g
    → fold fields_by (fields t)
    (flat_map (move_edits k) (if not (nat_eq (state_byte g) (state_byte Knocked)) then Became Knocked ∷ [] else []))
    ≡ knocked t
ends_knocked t k Fresh e = refl
ends_knocked t k Knocked e = ap (λ (g : State). record { active = t.active; state = g; sending = t.sending }) e
ends_knocked t k Joined e = refl
ends_knocked t k Offered e = refl
ends_knocked t k Confirmed e = refl
ends_knocked t k Rejoining e = refl
ends_knocked t k Gone e = refl

knock_fields : (tools : Tools) (m : Setting) (t : NodeState) (k : Counting) (row : LinkKey)
    → fields
    (answered
    (answer_by tools m t k
    (comes_to [] AtEvent
    (Does (drop_others t row.partner row.key ++ (Row row.partner row.key Provisional ∷ Became Knocked ∷ []))
    None))) t) ≡ knocked t
unfolding answer_by edits_of drop_others
knock_fields tools m t k row =
    let rest : List Move = Row row.partner row.key Provisional ∷ Became Knocked ∷ [] in
    let rows = filter (λ (r : LinkKey). is_live_of row.partner r && not (same_key r.key row.key)) t.links in
    fields_after (answer_by tools m t k (comes_to [] AtEvent (Does (map drop_link rows ++ rest) None))) t
    ∙ reserve_leaves (k.reserve Nwk) (k.reserve Aps) (fields t)
    (flat_map (move_edits k) (filter (changes t) (map drop_link rows ++ rest)))
    ∙ drops_leave t k (fields t) rows rest
    ∙ row_leaves t k (fields t) (changes t (Row row.partner row.key Provisional)) row.partner row.key
    (filter (changes t) (Became Knocked ∷ []))
    ∙ ends_knocked t k t.state refl

knock_then : (tools : Tools) (m : Setting) (t : NodeState) (o : Option LinkKey) → code_row t (centre_of m.stations)
    ≡ o → is_some o ≡ true → fields (answered (by_outcome tools m t (knock m t)) t) ≡ knocked t
unfolding knock found_or
knock_then tools m t None e some = absurd (false≢true some)
knock_then tools m t (Some row) e some =
    rw e (knock_fields tools m t
    (counting_of m t
    (comes_to [] AtEvent
    (Does (drop_others t row.partner row.key ++ (Row row.partner row.key Provisional ∷ Became Knocked ∷ [])) None)))
    row)

pub knocks : (tools : Tools) (m : Setting) (t : NodeState) → is_centre m.me.role ≡ false
    → is_some (code_row t (centre_of m.stations)) ≡ true → (after_task tools m t DoKnock).state ≡ Knocked
unfolding after_task
knocks tools m t role some =
    ap (λ a. (answered a t).state) (knock_answer tools m t role) ∙ ap (λ (x : Fields). x.state)
    (knock_then tools m t (code_row t (centre_of m.stations)) refl some)

-- ---- the network key

pub same_state : (t : NodeState) → t.state ≡ Knocked → in_state Knocked t ≡ t
same_state t e = ap (λ g. record t { state = g }) (sym e)

pub facts : (tools : Tools) → DeliversKeys tools → (c m : Setting) (s t : NodeState) → AreOfOneNetwork c m
    → (l : AreIntroduced c m s t) → KeyFrameInRange (answer_frame c m s l.net l.row) → keeps_rules t ≡ true
    → Facts tools m Knocked Joined t (answer_frame c m s l.net l.row) l.own
facts tools delivers c m s t o l range rules = record {
  arrives = delivers (answer_frame c m s l.net l.row) range;
  role = o.member_role;
  to = refl;
  apart = o.shorts_differ;
  small = range.counter;
  same = l.same_key;
  from_centre = sym o.centre_known;
  device = refl;
  at = ap (current t) o.centre_known ∙ l.at_device;
  waits = refl;
  ends = rw l.provisional refl;
  leaves = refl;
  none = ap (offered t) o.centre_known ∙ l.no_offer;
  one = one_candidate t c.me.eui l.own rules l.at_device l.no_offer;
}

pub refuses : (tools : Tools) → DeliversKeys tools → (c m : Setting) (s t : NodeState) → AreOfOneNetwork c m
    → (l : AreIntroduced c m s t) → KeyFrameInRange (answer_frame c m s l.net l.row) → keeps_rules t ≡ true
    → (draw : Option Bytes)
    → (answer tools m t (Received (key_bytes tools (answer_frame c m s l.net l.row)) draw)).refusal
    ≡ why_not_taken t l.own (next_counter Aps s) l.net.key
refuses tools delivers c m s t o l range rules draw =
    subst (λ u. (answer tools m u (Received (key_bytes tools (answer_frame c m s l.net l.row)) draw)).refusal
    ≡ why_not_taken t l.own (next_counter Aps s) l.net.key) (same_state t l.knocked)
    (refuses_key tools m Knocked Joined t (answer_frame c m s l.net l.row) l.own draw
    (facts tools delivers c m s t o l range rules))

takes : (tools : Tools) → DeliversKeys tools → OpensAsJudged tools → (c m : Setting) (s t : NodeState)
    → AreOfOneNetwork c m → (l : AreIntroduced c m s t) → KeyFrameInRange (answer_frame c m s l.net l.row)
    → keeps_rules t ≡ true → t.role ≡ m.me.role → (draw : Option Bytes)
    → why_not_taken t l.own (next_counter Aps s) l.net.key ≡ None
    → HasTaken (after_task tools m t (Received (key_bytes tools (answer_frame c m s l.net l.row)) draw)) Joined
    l.net.key
takes tools delivers opens c m s t o l range rules role draw e =
    subst (λ u. HasTaken (after_task tools m u (Received (key_bytes tools (answer_frame c m s l.net l.row)) draw))
    Joined l.net.key) (same_state t l.knocked)
    (takes_key tools opens m Knocked Joined t (answer_frame c m s l.net l.row) l.own draw
    (facts tools delivers c m s t o l range rules)
    (subst (λ u. keeps_rules u ≡ true) (sym (same_state t l.knocked)) rules) role o.in_block e)

pub joins : (tools : Tools) → DeliversKeys tools → OpensAsJudged tools → (c m : Setting) (s t : NodeState)
    → AreOfOneNetwork c m → (l : AreIntroduced c m s t) → KeyFrameInRange (answer_frame c m s l.net l.row)
    → keeps_rules t ≡ true → t.role ≡ m.me.role → (draw : Option Bytes)
    → why_not_sent s m.me.eui ≡ None → why_not_taken t l.own (next_counter Aps s) l.net.key ≡ None
    → Joins tools c m s t draw
joins tools delivers opens c m s t o l range rules role draw e f =
    let h = takes tools delivers opens c m s t o l range rules role draw f in
    record {
      frame = key_bytes tools (answer_frame c m s l.net l.row);
      sent = sends_to tools c m s o l.net l.row l.active_key l.at_centre (unspent_of s m.me.eui e) false;
      taken = refuses tools delivers c m s t o l range rules draw ∙ f;
      key = l.net.key;
      active_key = active_of s l.net l.active_key;
      ends = record { joined = h.state_is; active_key = h.active_key; live_key = h.live_key };
    }
