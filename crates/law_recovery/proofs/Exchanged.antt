-- The exchange of rejoining, event by event: what each leaves of the two nodes.
use Rattle.std.proofs.Common.{◌≡◌, ℕ, ◌+◌, Bool, true, false, [], ◌∷◌, ◌++◌, length, Option, Some, None, option_to_list, nat_eq, refl, sym, ap, ◌∙◌, subst, eq-eqb, eqb-true}
use Rattle.std.proofs.lemmas.Bool.{both_ways}
use Rattle.std.proofs.lemmas.List.{append-nil}
use Rattle.zb_model.specs.Answer.{Answer, answer, answered}
use Rattle.zb_model.specs.Data.{Bytes, DoRejoin, HasChild, Received}
use Rattle.zb_model.specs.Play.{Schedule, Armed, Event, Own, Deliver, Step, setting_of, supply, step, falls, frame_at, answer_step}
use Rattle.zb_model.specs.Readings.{air, state_of}
use Rattle.zb_model.specs.State.{NodeState, is_centre}
use Rattle.zb_model.specs.Tools.{Tools}
use Rattle.law_answer_storable.specs.Storing.{OpensAsJudged}
use Rattle.law_recovery.specs.Answering.{after_task}
use Rattle.law_recovery.specs.KeyFrames.{DeliversKeys}
use Rattle.law_recovery.specs.Rejoining.{HasRejoined, Rejoins, rejoining, why_not_sent}
use Rattle.law_recovery.proofs.Taking.{rejoins}
use Rattle.law_recovery.proofs.Asking.{active_left, asks_silently}
use Rattle.law_run_steps.specs.Conditions.{Condition, condition_of, calls_by}
use Rattle.law_run_steps.specs.Steps.{falls_on, is_of}
use Rattle.law_run_steps.proofs.Answered.{is-answered}
use Rattle.law_run_steps.proofs.Others.{own-up, frame-up}
use Rattle.law_run_steps.proofs.Spared.{spared}
use Rattle.law_recovery.specs.Fronts.{Front, after_event, after_events, IsReady, rejoin_events, CanRejoin, EndsRejoined}
use Rattle.law_recovery.proofs.Airs.{air-after, last-frame}

-- ---- one event of a node that is ready

-- its answer is whole: its state is the one after the answer, it stays ready, and the answer's frame is on the air
pub record Answered (x y : Front) (n : ℕ) (a : Answer) : Type 0 where
  pub state : state_of y.lines n ≡ answered a (state_of x.lines n)
  pub ready : IsReady y n
  pub on_air : air y.lines ≡ air x.lines ++ option_to_list a.frame

unarmed-falls : (w : Schedule) (x : Front) (n : ℕ) (a : Answer) → IsReady x n
    → falls_on a (condition_of w x.lines x.disks n) ≡ false
unarmed-falls w x n a r =
    ap (λ (armed : Armed). falls armed (calls_by (condition_of w x.lines x.disks n).commits a.edits)) r.unarmed

pub answered-by : (tools : Tools) (w : Schedule) (x : Front) (n : ℕ) (a : Answer) (event : Event) → IsReady x n
    → step tools w x.lines x.disks x.number event ≡ answer_step x.lines x.disks x.number n a
    → Answered x (after_event tools w x event) n a
unfolding after_event
answered-by tools w x n a event r is =
    let g : Step = step tools w x.lines x.disks x.number event in
    let to = (is-answered w x.lines x.disks x.number n a g is).whole (unarmed-falls w x n a r) in
    record {
      state = ap (λ (k : Condition). k.state) to.condition;
      ready =
          record {
            up = ap (λ (k : Condition). k.up) to.condition ∙ r.up;
            unarmed = ap (λ (k : Condition). k.disk.armed) to.condition ∙ r.unarmed;
          };
      on_air = ap (λ l. air (x.lines ++ l)) to.lines ∙ air-after x.lines x.number n a;
    }

-- another node is left as it is
pub record Left (x y : Front) (n : ℕ) : Type 0 where
  pub state : state_of y.lines n ≡ state_of x.lines n
  pub ready : IsReady x n → IsReady y n

pub left-by : (tools : Tools) (w : Schedule) (x : Front) (n : ℕ) (event : Event) → is_of n event ≡ false
    → Left x (after_event tools w x event) n
unfolding after_event
left-by tools w x n event other =
    let same = spared tools w x.lines x.disks x.number event n other in
    record {
      state = ap (λ (k : Condition). k.state) same;
      ready =
          λ r. record {
            up = ap (λ (k : Condition). k.up) same ∙ r.up;
            unarmed = ap (λ (k : Condition). k.disk.armed)
                same ∙ r.unarmed;
          };
    }

pub turned : (a b : ℕ) → nat_eq a b ≡ false → nat_eq b a ≡ false
turned a b e = by_test (nat_eq b a) refl
  where
    by_test : (t : Bool) → nat_eq b a ≡ t → t ≡ false
    by_test true f = absurd (both_ways (nat_eq a b) e (eq-eqb a b (sym (eqb-true b a f))))
    by_test false f = refl

-- ---- the exchange

ends : (tools : Tools) → DeliversKeys tools → OpensAsJudged tools → (w : Schedule) (x : Front) (c d : ℕ)
    → CanRejoin w x c d → (draws : Option Bytes)
    → Rejoins tools (setting_of w c) (setting_of w d) (state_of x.lines c) (state_of x.lines d) draws
ends tools delivers opens w x c d can draws =
    rejoins tools delivers opens (setting_of w c) (setting_of w d) (state_of x.lines c) (state_of x.lines d)
    can.network can.linked can.in_range can.rules can.role can.may draws
    (subst (λ n. why_not_sent (state_of x.lines c) n ≡ None) (sym can.mine) can.not_stopped) can.not_refused

none-sent : (tools : Tools) (w : Schedule) (x : Front) (d : ℕ) → is_centre (setting_of w d).me.role ≡ false
    → (answer tools (setting_of w d) (state_of x.lines d) DoRejoin).frame ≡ None
none-sent tools w x d role = asks_silently tools (setting_of w d) (state_of x.lines d) role

pub rejoined : (tools : Tools) → DeliversKeys tools → OpensAsJudged tools → (w : Schedule) (x : Front) (c d : ℕ)
    → CanRejoin w x c d → EndsRejoined (after_events tools w x (rejoin_events x c d)) c d
unfolding after_task
rejoined tools delivers opens w x c d can =
    let m = setting_of w d in
    let asks = answer tools m (state_of x.lines d) DoRejoin in
    let y = after_event tools w x (Own d DoRejoin) in
    let a1 = answered-by tools w x d asks (Own d DoRejoin) can.member_ready
    (own-up tools w x.lines x.disks x.number d DoRejoin can.member_ready.up) in
    let l1 = left-by tools w x c (Own d DoRejoin) can.apart in
    let ready_c = l1.ready can.centre_ready in
    let child = answer tools (setting_of w c) (state_of y.lines c) (HasChild d true) in
    let z = after_event tools w y (Own c (HasChild d true)) in
    let a2 = answered-by tools w y c child (Own c (HasChild d true)) ready_c
    (own-up tools w y.lines y.disks y.number c (HasChild d true) ready_c.up) in
    let l2 = left-by tools w y d (Own c (HasChild d true)) (turned d c can.apart) in
    let ready_d = l2.ready a1.ready in
    let r = ends tools delivers opens w x c d can (supply w z.lines) in
    let sent : child.frame ≡ Some r.frame =
    ap (λ s. (answer tools (setting_of w c) s (HasChild d true)).frame) l1.state ∙ ap
    (λ n. (answer tools (setting_of w c) (state_of x.lines c) (HasChild n true)).frame) (sym can.mine) ∙ r.sent in
    let silent : air y.lines ≡ air x.lines = a1.on_air ∙ ap (λ o. air x.lines ++ option_to_list o)
    (none-sent tools w x d can.network.member_role) ∙ append-nil (air x.lines) in
    let heard : air z.lines ≡ air x.lines ++ r.frame ∷ [] = a2.on_air ∙ ap (λ o. air y.lines ++ option_to_list o) sent
    ∙ ap (λ l. l ++ r.frame ∷ []) silent in
    let at : frame_at z.lines (length (air x.lines) + 1) ≡ Some r.frame = last-frame z.lines (air x.lines) r.frame
    heard in
    let frame = length (air x.lines) + 1 in
    let takes = answer tools m (state_of z.lines d) (Received r.frame (supply w z.lines)) in
    let u = after_event tools w z (Deliver frame d) in
    let a3 = answered-by tools w z d takes (Deliver frame d) ready_d
    (frame-up tools w z.lines z.disks z.number frame d r.frame ready_d.up at) in
    let l3 = left-by tools w z c (Deliver frame d) can.apart in
    let waits : state_of z.lines d ≡ rejoining (state_of x.lines d) = l2.state ∙ a1.state ∙ r.waits in
    let final : state_of u.lines d ≡ after_task tools m (rejoining (state_of x.lines d))
    (Received r.frame (supply w z.lines)) =
    a3.state ∙ ap (λ s. answered (answer tools m s (Received r.frame (supply w z.lines))) s) waits in
    record {
      key = r.key;
      active_key = ap (λ (s : NodeState). s.active) (l3.state ∙ a2.state) ∙ active_left tools (setting_of w c)
          (state_of y.lines c) d true can.network.centre_role ∙ ap (λ (s : NodeState). s.active) l1.state ∙
          r.active_key;
      member = subst (λ s. HasRejoined s r.key) (sym final) r.ends;
      centre_ready = l3.ready a2.ready;
      member_ready = a3.ready;
    }
