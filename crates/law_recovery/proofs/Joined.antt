-- The exchange of joining, event by event: what each leaves of the two nodes.
use Rattle.std.proofs.Common.{◌≡◌, ℕ, ◌+◌, false, [], ◌∷◌, ◌++◌, length, Some, None, option_to_list, sym, ap, ◌∙◌, subst}
use Rattle.zb_model.specs.Answer.{answer, answered}
use Rattle.zb_model.specs.Data.{HasChild, Received}
use Rattle.zb_model.specs.Play.{Schedule, Own, Deliver, frame_at, setting_of, supply}
use Rattle.zb_model.specs.Readings.{air, state_of}
use Rattle.zb_model.specs.State.{NodeState}
use Rattle.zb_model.specs.Tools.{Tools}
use Rattle.law_answer_storable.specs.Storing.{OpensAsJudged}
use Rattle.law_recovery.specs.Answering.{after_task}
use Rattle.law_recovery.specs.Joining.{HasJoined}
use Rattle.law_recovery.specs.KeyFrames.{DeliversKeys}
use Rattle.law_recovery.specs.Rejoining.{why_not_sent}
use Rattle.law_recovery.proofs.Asking.{active_left}
use Rattle.law_recovery.proofs.Knocking.{joins}
use Rattle.law_run_steps.proofs.Others.{own-up, frame-up}
use Rattle.law_recovery.specs.Fronts.{Front, after_event, after_events}
use Rattle.law_recovery.specs.RunsJoining.{CanJoin, EndsJoined, join_events}
use Rattle.law_recovery.proofs.Airs.{last-frame}
use Rattle.law_recovery.proofs.Exchanged.{answered-by, left-by, turned}

pub joined : (tools : Tools) → DeliversKeys tools → OpensAsJudged tools → (w : Schedule) (x : Front) (c d : ℕ)
    → CanJoin w x c d → EndsJoined (after_events tools w x (join_events x c d)) c d
unfolding after_task
joined tools delivers opens w x c d can =
    let m = setting_of w d in
    let child = answer tools (setting_of w c) (state_of x.lines c) (HasChild d false) in
    let y = after_event tools w x (Own c (HasChild d false)) in
    let a1 = answered-by tools w x c child (Own c (HasChild d false)) can.centre_ready
    (own-up tools w x.lines x.disks x.number c (HasChild d false) can.centre_ready.up) in
    let l1 = left-by tools w x d (Own c (HasChild d false)) (turned d c can.apart) in
    let ready_d = l1.ready can.device_ready in
    let r = joins tools delivers opens (setting_of w c) m (state_of x.lines c) (state_of x.lines d) can.network
    can.introduced can.in_range can.rules can.role (supply w y.lines)
    (subst (λ n. why_not_sent (state_of x.lines c) n ≡ None) (sym can.mine) can.not_stopped) can.not_refused in
    let sent : child.frame ≡ Some r.frame =
    ap (λ n. (answer tools (setting_of w c) (state_of x.lines c) (HasChild n false)).frame) (sym can.mine) ∙
    r.sent in
    let heard : air y.lines ≡ air x.lines ++ r.frame ∷ [] = a1.on_air ∙ ap (λ o. air x.lines ++ option_to_list o) sent
    in
    let at : frame_at y.lines (length (air x.lines) + 1) ≡ Some r.frame = last-frame y.lines (air x.lines) r.frame
    heard in
    let frame = length (air x.lines) + 1 in
    let takes = answer tools m (state_of y.lines d) (Received r.frame (supply w y.lines)) in
    let z = after_event tools w y (Deliver frame d) in
    let a2 = answered-by tools w y d takes (Deliver frame d) ready_d
    (frame-up tools w y.lines y.disks y.number frame d r.frame ready_d.up at) in
    let l2 = left-by tools w y c (Deliver frame d) can.apart in
    let final : state_of z.lines d ≡ after_task tools m (state_of x.lines d) (Received r.frame (supply w y.lines)) =
    a2.state ∙ ap (λ s. answered (answer tools m s (Received r.frame (supply w y.lines))) s) l1.state in
    record {
      key = r.key;
      active_key = ap (λ (s : NodeState). s.active) (l2.state ∙ a1.state) ∙ active_left tools (setting_of w c)
          (state_of x.lines c) d false can.network.centre_role ∙ r.active_key;
      device = subst (λ s. HasJoined s r.key) (sym final) r.ends;
      centre_ready = l2.ready a1.ready;
      device_ready = a2.ready;
    }
