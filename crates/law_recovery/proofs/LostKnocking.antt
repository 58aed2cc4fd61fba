-- The network key is lost: the centre can send it again, with its next counter.
use Rattle.std.proofs.Common.{◌≡◌, ℕ, ◌+◌, ◌^◌, ◌<◌, Bool, true, false, if◌then◌else◌, length, Option, Some, None, option_map, is_some, nat_lt, refl, sym, ap, ◌∙◌, subst, arith}
use Rattle.std.proofs.lemmas.Bool.{false≢true, le-ltb, ltb-false}
use Rattle.zb_model.specs.Commands.{dropped_at}
use Rattle.zb_model.specs.Data.{Aps, Bytes, HasChild, Reason, Stale}
use Rattle.zb_model.specs.Play.{Schedule, Own, setting_of}
use Rattle.zb_model.specs.Readings.{state_of}
use Rattle.zb_model.specs.State.{NetKey, LinkKey, NodeState, active_row, current, greatest_counter, has_net, next_counter, offered}
use Rattle.zb_model.specs.Rules.{Setting}
use Rattle.zb_model.specs.Tools.{Tools}
use Rattle.law_answer_storable.specs.Storing.{OpensAsJudged}
use Rattle.law_recovery.specs.Meeting.{HasLink, HasNetwork}
use Rattle.law_recovery.proofs.Baring.{bare}
use Rattle.law_recovery.proofs.Joining.{child_bare}
use Rattle.law_recovery.proofs.Keeping.{link_left, network_left}
use Rattle.law_recovery.specs.Answering.{after_task}
use Rattle.law_recovery.specs.Joining.{AreIntroduced}
use Rattle.law_recovery.specs.KeyFrames.{KeyFrameInRange}
use Rattle.law_recovery.specs.Rejoining.{answer_frame, why_no_room, why_not_sent, why_not_taken, why_old}
use Rattle.law_recovery.specs.Repeating.{WentOn}
use Rattle.law_recovery.proofs.Repeating.{from_map, number_is, once, still}
use Rattle.law_recovery.specs.Fronts.{Front, after_event}
use Rattle.law_recovery.specs.RunsJoining.{CanJoin}
use Rattle.law_recovery.specs.KeyExchange.{IsNew, eui_of}
use Rattle.law_recovery.proofs.Confirmed.{centre_acts}
use Rattle.law_recovery.proofs.Exchanged.{turned}
use Rattle.law_run_steps.proofs.Others.{own-up}
use Rattle.law_recovery.specs.Waiting.{JoinsAgain}

-- the two nodes are still introduced to each other, with the same rows and keys
record Again (c m : Setting) (s u t v : NodeState) (l : AreIntroduced c m s t) : Type 0 where
  introduced : AreIntroduced c m u v
  same_own : introduced.own ≡ l.own
  same_row : introduced.row ≡ l.row
  same_key : introduced.net.key ≡ l.net.key
  same_sequence : introduced.net.sequence ≡ l.net.sequence

again : (c m : Setting) (s u t v : NodeState) (l : AreIntroduced c m s t) → WentOn s u m.me.eui 1 → v ≡ t
    → Again c m s u t v l
again c m s u t v l w e =
    let x = from_map (λ (r : NetKey). r.key) (active_row u) l.net
    (w.key ∙ ap (option_map (λ (r : NetKey). r.key)) l.active_key) in
    record {
      introduced =
          record {
            net = x.0;
            active_key = x.1;
            row = l.row;
            at_centre = w.link ∙ l.at_centre;
            own = l.own;
            at_device = ap (λ z. current z c.me.eui) e ∙ l.at_device;
            same_key = l.same_key;
            provisional = l.provisional;
            no_offer = ap (λ z. offered z c.me.eui) e ∙ l.no_offer;
            knocked = ap (λ (z : NodeState). z.state) e ∙ l.knocked;
          };
      same_own = refl;
      same_row = refl;
      same_key = x.2;
      same_sequence = number_is (λ (r : NetKey). r.sequence) (active_row u) x.0 l.net x.1
          (w.sequence ∙ ap (option_map (λ (r : NetKey). r.sequence)) l.active_key);
    }

-- a greater counter isn't staler
taken_still : (t : NodeState) (own : LinkKey) (counter : ℕ) (key : Bytes) → why_not_taken t own counter key ≡ None
    → why_not_taken t own (counter + 1) key ≡ None
unfolding why_not_taken
taken_still t own counter key e = by_test (nat_lt counter own.kept) refl e
  where
    rest : Option Reason
    rest = why_old (dropped_at 0 key t.nets) (why_no_room t key)

    by_test : (b : Bool) → nat_lt counter own.kept ≡ b → (if b then Some (Stale own.kept) else rest) ≡ None
        → (if nat_lt (counter + 1) own.kept then Some (Stale own.kept) else rest) ≡ None
    by_test true f g = absurd (false≢true (sym (ap is_some g)))
    by_test false f g = rw (le-ltb (counter + 1) own.kept (omega (arith, ltb-false counter own.kept f))) g

pub sent_again : (tools : Tools) → OpensAsJudged tools → (w : Schedule) (x : Front) (c d : ℕ) (can : CanJoin w x c d)
    → IsNew w x c d can → next_counter Aps (state_of x.lines c) + 1 < greatest_counter
    → JoinsAgain w x (after_event tools w x (Own c (HasChild d false))) c d can
sent_again tools opens w x c d can new lt =
    let s = state_of x.lines c in
    let t = state_of x.lines d in
    let cs = setting_of w c in
    let m = setting_of w d in
    let l = can.introduced in
    let child = HasChild d false in
    let y = after_event tools w x (Own c child) in
    let b = centre_acts tools opens w x c d child (Own c child) new.met (turned d c can.apart)
    (own-up tools w x.lines x.disks x.number c child can.centre_ready.up) in
    let u = state_of y.lines c in
    let role = can.network.centre_role in
    let went : WentOn s u (eui_of w d) 1 =
    subst (λ z. WentOn s z (eui_of w d) 1) (sym b.centre)
    (subst (λ n. WentOn s (after_task tools cs s (HasChild n false)) (eui_of w d) 1) can.mine
    (once tools cs s (eui_of w d) false role
    (subst (λ n. why_not_sent s n ≡ None) (sym can.mine) can.not_stopped))) in
    let same = ap bare b.centre ∙ child_bare tools cs s d false role in
    let a = again cs m s u t (state_of y.lines d) l went b.device in
    let i = a.introduced in
    let sent : why_not_sent u d ≡ None =
    subst (λ n. why_not_sent u n ≡ None) can.mine
    (still s u (eui_of w d) 1 went (subst (λ n. why_not_sent s n ≡ None) (sym can.mine) can.not_stopped) lt) in
    let taken : why_not_taken (state_of y.lines d) i.own (next_counter Aps u) i.net.key ≡ None =
    ap (λ z. why_not_taken z i.own (next_counter Aps u) i.net.key) b.device
    ∙ ap (λ z. why_not_taken t z (next_counter Aps u) i.net.key) a.same_own
    ∙ ap (λ n. why_not_taken t l.own n i.net.key) went.counter
    ∙ ap (why_not_taken t l.own (next_counter Aps s + 1)) a.same_key
    ∙ taken_still t l.own (next_counter Aps s) l.net.key can.not_refused in
    let range : KeyFrameInRange (answer_frame cs m u i.net i.row) =
    record {
      key = ap (length {A = ℕ}) a.same_key ∙ can.in_range.key;
      sequence = subst (λ n. n < 2 ^ 8) (sym a.same_sequence) can.in_range.sequence;
      device = can.in_range.device;
      centre = can.in_range.centre;
      to = can.in_range.to;
      from = can.in_range.from;
      link = ap (λ (r : LinkKey). length r.key) a.same_row ∙ can.in_range.link;
      counter = omega (arith, lt, went.counter);
    } in
    let mine : HasLink s (eui_of w d) l.row.key =
    record { row = l.row; is_current = l.at_centre; row_key = refl; none_offered = new.none_offered } in
    let net : HasNetwork u i.net.key i.net.sequence =
    subst (λ n. HasNetwork u i.net.key n) (sym a.same_sequence)
    (subst (λ n. HasNetwork u n l.net.sequence) (sym a.same_key)
    (network_left s u l.net.key l.net.sequence new.network same)) in
    record {
      again = record {
        apart = can.apart;
        mine = can.mine;
        network = can.network;
        centre_ready = b.met.centre_ready;
        device_ready = b.met.device_ready;
        rules = b.met.device_steady.rules;
        role = b.met.device_steady.role;
        introduced = i;
        in_range = range;
        not_stopped = sent;
        not_refused = taken;
      };
      is_new = record {
        met = b.met;
        network = net;
        none_offered = (link_left s u (eui_of w d) l.row.key mine same).none_offered;
        key_is_new = ap (λ (z : NodeState). has_net i.net.key z.nets) b.device
            ∙ ap (λ n. has_net n t.nets) a.same_key ∙ new.key_is_new;
      };
      network = a.same_key;
      sequence = a.same_sequence;
      link = ap (λ (r : LinkKey). r.key) a.same_row;
      counter = went.counter;
    }
