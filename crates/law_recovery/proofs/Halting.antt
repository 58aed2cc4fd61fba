-- What happens in an exchange in which nodes are stopped, event by event, and as a whole.
use Rattle.std.proofs.Common.{◌≡◌, ℕ, ◌⊎◌, inl, inr, Bool, true, false, if◌then◌else◌, List, [], ◌∷◌, Some, refl, sym, subst}
use Rattle.zb_model.specs.Answer.{answer}
use Rattle.zb_model.specs.Data.{Bytes, Task, DoTimer, Received}
use Rattle.zb_model.specs.Play.{Schedule, Event, Own, Deliver, frame_at, setting_of, supply}
use Rattle.zb_model.specs.Readings.{state_of}
use Rattle.zb_model.specs.State.{NodeState}
use Rattle.zb_model.specs.Tools.{Tools}
use Rattle.law_answer_storable.specs.Storing.{OpensAsJudged}
use Rattle.law_recovery.specs.CommandFrames.{DeliversCommands}
use Rattle.law_recovery.specs.Exchanging.{NwkInRange, ApsInRange}
use Rattle.law_recovery.specs.Meeting.{HasNetwork, IsSteady}
use Rattle.law_recovery.proofs.Baring.{bare}
use Rattle.law_recovery.proofs.Keeping.{one_of}
use Rattle.law_recovery.proofs.Refusing.{refused_bare}
use Rattle.law_recovery.specs.Answering.{after_task}
use Rattle.law_recovery.specs.Fronts.{Front, IsReady, after_event}
use Rattle.law_recovery.specs.KeyExchange.{AreMet, EndsConfirmed, HaveJoined, eui_of}
use Rattle.law_recovery.proofs.Exchanged.{turned}
use Rattle.law_run_steps.specs.Steps.{is_of}
use Rattle.law_run_steps.proofs.Disks.{cond-same}
use Rattle.law_run_steps.proofs.Others.{frame-down, frame-up, own-down, own-up}
use Rattle.law_recovery.specs.Stages.{Keys, DeviceIs, CentreHas, DeviceTakes, HaveCome, AreFree, IsRefused, asked_bytes, centre_seals, device_seals, told_bytes}
use Rattle.law_recovery.specs.Stops.{HaveKept, Happening, Timer, Hearing, Taking, Repelling, Idle, ComesToCentre, ComesToDevice, IsAnswered, IsInOrder, AreInOrder, IsUnderWay, IsUnanswered, after_happening, after_happenings, is_stored, kept_far, kept_far_all, taken_from}
use Rattle.law_recovery.specs.Turns.{Far, Asking, Offering, Proving, Proved, Done, Turn, after_turns, far_after_all, unanswered_from}
use Rattle.law_recovery.proofs.Acting.{Acted, Kept, acted_on, other_kept, unanswered_kept}
use Rattle.law_recovery.proofs.LostSending.{KeysFit, ranges, still}
use Rattle.law_recovery.proofs.Staying.{centre_left, device_left}
use Rattle.law_recovery.proofs.LostTaking.{answers_by, centre_range, device_stays, device_takes, kept_so}
use Rattle.law_recovery.proofs.Turning.{all_turns}

-- ---- bare rows show the stage of the two

comes_to : (w : Schedule) (x y : Front) (c d : ℕ) (k : Keys) (far next : Far) (s t : NodeState)
    → HaveKept w x c d k far → IsSteady (setting_of w c) (state_of y.lines c)
    → IsSteady (setting_of w d) (state_of y.lines d) → HasNetwork s k.network k.sequence
    → CentreHas next s (eui_of w d) k → DeviceIs next t (eui_of w c) k → bare (state_of y.lines c) ≡ bare s
    → bare (state_of y.lines d) ≡ bare t → HaveKept w y c d k next
comes_to w x y c d k far next s t h centre_steady device_steady network centre device at_centre at_device =
    let left = centre_left s (state_of y.lines c) (eui_of w d) k next network centre at_centre in
    record {
      apart = h.apart;
      declared = h.declared;
      stations = h.stations;
      centre_steady = centre_steady;
      device_steady = device_steady;
      network = left.network;
      device = device_left t (state_of y.lines d) (eui_of w c) k next device at_device;
      centre = left.centre;
    }

stays : (w : Schedule) (x y : Front) (c d : ℕ) (k : Keys) (far : Far) → HaveKept w x c d k far → Kept w x y c
    → Kept w x y d → HaveKept w y c d k far
stays w x y c d k far h a b =
    comes_to w x y c d k far far (state_of x.lines c) (state_of x.lines d) h (a.steady h.centre_steady)
    (b.steady h.device_steady) h.network h.centre h.device a.same b.same

-- an event of the device, and one of the centre: the next stage is that of their answers
device_moves : (tools : Tools) → OpensAsJudged tools → (w : Schedule) (x y : Front) (c d : ℕ) (k : Keys)
    (far next : Far) (task : Task) → HaveKept w x c d k far → Acted tools w x y d task → Kept w x y c
    → CentreHas next (state_of x.lines c) (eui_of w d) k
    → DeviceIs next (after_task tools (setting_of w d) (state_of x.lines d) task) (eui_of w c) k
    → HaveKept w y c d k (if is_stored w x d (answer tools (setting_of w d) (state_of x.lines d) task) then next
    else far)
device_moves tools opens w x y c d k far next task h a b centre device =
    by_test (is_stored w x d (answer tools (setting_of w d) (state_of x.lines d) task)) refl
  where
    steady : IsSteady (setting_of w d) (state_of y.lines d)
    steady = a.steady opens h.declared.network.in_block h.device_steady

    by_test : (t : Bool) → is_stored w x d (answer tools (setting_of w d) (state_of x.lines d) task) ≡ t
        → HaveKept w y c d k (if t then next else far)
    by_test true e =
        comes_to w x y c d k far next (state_of x.lines c)
        (after_task tools (setting_of w d) (state_of x.lines d) task) h (b.steady h.centre_steady) steady h.network
        centre device b.same (a.stored e)
    by_test false e =
        comes_to w x y c d k far far (state_of x.lines c) (state_of x.lines d) h (b.steady h.centre_steady) steady
        h.network h.centre h.device b.same (a.lost e)

centre_moves : (tools : Tools) → OpensAsJudged tools → (w : Schedule) (x y : Front) (c d : ℕ) (k : Keys)
    (far next : Far) (task : Task) → HaveKept w x c d k far → Acted tools w x y c task → Kept w x y d
    → HasNetwork (after_task tools (setting_of w c) (state_of x.lines c) task) k.network k.sequence
    → CentreHas next (after_task tools (setting_of w c) (state_of x.lines c) task) (eui_of w d) k
    → DeviceIs next (state_of x.lines d) (eui_of w c) k
    → HaveKept w y c d k (if is_stored w x c (answer tools (setting_of w c) (state_of x.lines c) task) then next
    else far)
centre_moves tools opens w x y c d k far next task h a b network centre device =
    by_test (is_stored w x c (answer tools (setting_of w c) (state_of x.lines c) task)) refl
  where
    steady : IsSteady (setting_of w c) (state_of y.lines c)
    steady = a.steady opens h.declared.centre_block h.centre_steady

    by_test : (t : Bool) → is_stored w x c (answer tools (setting_of w c) (state_of x.lines c) task) ≡ t
        → HaveKept w y c d k (if t then next else far)
    by_test true e =
        comes_to w x y c d k far next (after_task tools (setting_of w c) (state_of x.lines c) task)
        (state_of x.lines d) h steady (b.steady h.device_steady) network centre device (a.stored e) b.same
    by_test false e =
        comes_to w x y c d k far far (state_of x.lines c) (state_of x.lines d) h steady (b.steady h.device_steady)
        h.network h.centre h.device (a.lost e) b.same

-- ---- the timer

timer_comes : (tools : Tools) → OpensAsJudged tools → (w : Schedule) (x : Front) (c d : ℕ) (k : Keys) (far : Far)
    → HaveKept w x c d k far → IsUnderWay far → HaveKept w (after_event tools w x (Own d DoTimer)) c d k far
timer_comes tools opens w x c d k far h under =
    let y = after_event tools w x (Own d DoTimer) in
    subst (HaveKept w y c d k)
    (cond-same (is_stored w x d (answer tools (setting_of w d) (state_of x.lines d) DoTimer)) far)
    (device_moves tools opens w x y c d k far far DoTimer h
    (acted_on tools w x d DoTimer (Own d DoTimer) (own-up tools w x.lines x.disks x.number d DoTimer)
    (own-down tools w x.lines x.disks x.number d DoTimer))
    (other_kept tools w x c (Own d DoTimer) h.apart) h.centre
    (still tools w c d (state_of x.lines d) k far h.declared h.device under))

-- ---- the device's frame is delivered to the centre, and the centre's to the device

-- a frame with these bytes is delivered to a node
frame_acts : (tools : Tools) (w : Schedule) (x : Front) (frame n : ℕ) (bytes : Bytes)
    → frame_at x.lines frame ≡ Some bytes
    → Acted tools w x (after_event tools w x (Deliver frame n)) n (Received bytes (supply w x.lines))
frame_acts tools w x frame n bytes e =
    acted_on tools w x n (Received bytes (supply w x.lines)) (Deliver frame n)
    (λ up. frame-up tools w x.lines x.disks x.number frame n bytes up e)
    (frame-down tools w x.lines x.disks x.number frame n)

hearing_comes : (tools : Tools) → DeliversCommands tools → OpensAsJudged tools → (w : Schedule) (x : Front) (c d : ℕ)
    (k : Keys) (far : Far) (frame : ℕ) (sealed : NodeState) → KeysFit k → HaveKept w x c d k far
    → ComesToCentre tools w x c d k far frame sealed
    → HaveKept w (after_event tools w x (Deliver frame c)) c d k
    (kept_far tools w c d k x far (Hearing frame sealed))
hearing_comes tools delivers opens w x c d k far frame sealed fit h o =
    let bytes = asked_bytes far tools w c d (device_seals far sealed k) in
    let r = answers_by tools delivers w x c d k far sealed h (ranges sealed k far fit o.sent) o.free in
    centre_moves tools opens w x (after_event tools w x (Deliver frame c)) c d k far (unanswered_from far)
    (Received bytes (supply w x.lines)) h (frame_acts tools w x frame c bytes o.on_air)
    (other_kept tools w x d (Deliver frame c) (turned d c h.apart)) r.network r.centre
    (device_stays (state_of x.lines d) (eui_of w c) k far h.device)

device_taken : (tools : Tools) → DeliversCommands tools → (w : Schedule) (x : Front) (c d : ℕ) (k : Keys) (far : Far)
    (s : NodeState) → KeysFit k → IsAnswered far → HaveKept w x c d k far
    → NwkInRange (centre_seals far s k) × ApsInRange (centre_seals far s k)
    → DeviceTakes far w x c d k (centre_seals far s k)
    → DeviceIs (taken_from far)
    (after_task tools (setting_of w d) (state_of x.lines d)
    (Received (told_bytes far tools w c d k (centre_seals far s k)) (supply w x.lines))) (eui_of w c) k
device_taken tools delivers w x c d k Asking s fit is h r free = absurd is
device_taken tools delivers w x c d k Offering s fit is h r free =
    device_takes tools delivers w x c d k Offering s (supply w x.lines) fit h r free
device_taken tools delivers w x c d k Proving s fit is h r free = absurd is
device_taken tools delivers w x c d k Proved s fit is h r free =
    device_takes tools delivers w x c d k Proved s (supply w x.lines) fit h r free
device_taken tools delivers w x c d k Done s fit is h r free = absurd is

centre_taken : (s : NodeState) (device : ℕ) (k : Keys) (far : Far) → IsAnswered far → CentreHas far s device k
    → CentreHas (taken_from far) s device k
centre_taken s device k Asking is h = absurd is
centre_taken s device k Offering is h = one_of s device k.link k.drawn h
centre_taken s device k Proving is h = absurd is
centre_taken s device k Proved is h = h
centre_taken s device k Done is h = absurd is

taking_comes : (tools : Tools) → DeliversCommands tools → OpensAsJudged tools → (w : Schedule) (x : Front) (c d : ℕ)
    (k : Keys) (far : Far) (frame : ℕ) (sealed : NodeState) → KeysFit k → HaveKept w x c d k far
    → ComesToDevice tools w x c d k far frame sealed
    → HaveKept w (after_event tools w x (Deliver frame d)) c d k (kept_far tools w c d k x far (Taking frame sealed))
taking_comes tools delivers opens w x c d k far frame sealed fit h o =
    let bytes = told_bytes far tools w c d k (centre_seals far sealed k) in
    device_moves tools opens w x (after_event tools w x (Deliver frame d)) c d k far (taken_from far)
    (Received bytes (supply w x.lines)) h (frame_acts tools w x frame d bytes o.on_air)
    (other_kept tools w x c (Deliver frame d) h.apart)
    (centre_taken (state_of x.lines c) (eui_of w d) k far o.answered h.centre)
    (device_taken tools delivers w x c d k far sealed fit o.answered h (centre_range far sealed k fit o.sent) o.free)

-- ---- a frame that one of the two refuses

repelled : (tools : Tools) → OpensAsJudged tools → (w : Schedule) (x : Front) (c d : ℕ) (k : Keys) (far : Far)
    (frame node : ℕ) → HaveKept w x c d k far → IsRefused tools w x c d frame node
    → HaveKept w (after_event tools w x (Deliver frame node)) c d k far
repelled tools opens w x c d k far frame node h r = by_node r.one
  where
    task : Task
    task = Received r.bytes (supply w x.lines)

    left : (n : ℕ) → node ≡ n
        → bare (after_task tools (setting_of w n) (state_of x.lines n) task) ≡ bare (state_of x.lines n)
    left n e =
        refused_bare tools (setting_of w n) (state_of x.lines n) task r.reason
        (subst (λ m. (answer tools (setting_of w m) (state_of x.lines m) task).refusal ≡ Some r.reason) e r.refused)

    by_centre : node ≡ c → HaveKept w (after_event tools w x (Deliver frame c)) c d k far
    by_centre e =
        let s = state_of x.lines c in
        let y = after_event tools w x (Deliver frame c) in
        let now = centre_left s (after_task tools (setting_of w c) s task) (eui_of w d) k far h.network h.centre
        (left c e) in
        subst (HaveKept w y c d k) (cond-same (is_stored w x c (answer tools (setting_of w c) s task)) far)
        (centre_moves tools opens w x y c d k far far task h (frame_acts tools w x frame c r.bytes r.on_air)
        (other_kept tools w x d (Deliver frame c) (turned d c h.apart)) now.network now.centre h.device)

    by_device : node ≡ d → HaveKept w (after_event tools w x (Deliver frame d)) c d k far
    by_device e =
        let t = state_of x.lines d in
        let y = after_event tools w x (Deliver frame d) in
        subst (HaveKept w y c d k) (cond-same (is_stored w x d (answer tools (setting_of w d) t task)) far)
        (device_moves tools opens w x y c d k far far task h (frame_acts tools w x frame d r.bytes r.on_air)
        (other_kept tools w x c (Deliver frame d) h.apart) h.centre
        (device_left t (after_task tools (setting_of w d) t task) (eui_of w c) k far h.device (left d e)))

    by_node : (node ≡ c) ⊎ (node ≡ d) → HaveKept w (after_event tools w x (Deliver frame node)) c d k far
    by_node (inl e) = subst (λ n. HaveKept w (after_event tools w x (Deliver frame n)) c d k far) (sym e) (by_centre e)
    by_node (inr e) = subst (λ n. HaveKept w (after_event tools w x (Deliver frame n)) c d k far) (sym e) (by_device e)

-- ---- an event of another node, or one that no node answers

idles : (tools : Tools) (w : Schedule) (x : Front) (c d : ℕ) (k : Keys) (far : Far) (event : Event)
    → HaveKept w x c d k far → ((is_of c event ≡ false) × (is_of d event ≡ false)) ⊎ IsUnanswered x event
    → HaveKept w (after_event tools w x event) c d k far
idles tools w x c d k far event h (inl others) =
    stays w x (after_event tools w x event) c d k far h (other_kept tools w x c event others.0)
    (other_kept tools w x d event others.1)
idles tools w x c d k far event h (inr none) =
    stays w x (after_event tools w x event) c d k far h (unanswered_kept tools w x event c none)
    (unanswered_kept tools w x event d none)

-- ---- all of it

pub one_happening : (tools : Tools) → DeliversCommands tools → OpensAsJudged tools → (w : Schedule) (x : Front)
    (c d : ℕ) (k : Keys) (far : Far) (happening : Happening) → KeysFit k → HaveKept w x c d k far
    → IsInOrder tools w x c d k far happening
    → HaveKept w (after_happening tools w c d x happening) c d k (kept_far tools w c d k x far happening)
one_happening tools delivers opens w x c d k far Timer fit h o = timer_comes tools opens w x c d k far h o
one_happening tools delivers opens w x c d k far (Hearing frame sealed) fit h o =
    hearing_comes tools delivers opens w x c d k far frame sealed fit h o
one_happening tools delivers opens w x c d k far (Taking frame sealed) fit h o =
    taking_comes tools delivers opens w x c d k far frame sealed fit h o
one_happening tools delivers opens w x c d k far (Repelling frame node) fit h o =
    repelled tools opens w x c d k far frame node h o
one_happening tools delivers opens w x c d k far (Idle event) fit h o = idles tools w x c d k far event h o

pub all_happenings : (tools : Tools) → DeliversCommands tools → OpensAsJudged tools → (w : Schedule) (x : Front)
    (c d : ℕ) (k : Keys) (far : Far) (happenings : List Happening) → KeysFit k → HaveKept w x c d k far
    → AreInOrder tools w c d k x far happenings
    → HaveKept w (after_happenings tools w c d x happenings) c d k (kept_far_all tools w c d k x far happenings)
all_happenings tools delivers opens w x c d k far [] fit h o = h
all_happenings tools delivers opens w x c d k far (happening ∷ more) fit h o =
    all_happenings tools delivers opens w (after_happening tools w c d x happening) c d k
    (kept_far tools w c d k x far happening) more fit
    (one_happening tools delivers opens w x c d k far happening fit h o.0) o.1

pub come_again : (w : Schedule) (x : Front) (c d : ℕ) (k : Keys) (far : Far) → HaveKept w x c d k far → IsReady x c
    → IsReady x d → HaveCome w x c d k far
come_again w x c d k far h centre_ready device_ready = record {
  met = record {
    apart = h.apart;
    declared = h.declared;
    stations = h.stations;
    centre_ready = centre_ready;
    device_ready = device_ready;
    centre_steady = h.centre_steady;
    device_steady = h.device_steady;
  };
  network = h.network;
  device = h.device;
  centre = h.centre;
}

pub confirmed_so : (w : Schedule) (x : Front) (c d : ℕ) (k : Keys) → HaveCome w x c d k Done
    → EndsConfirmed w x c d k.network k.sequence k.drawn
confirmed_so w x c d k h = record {
  device = h.device;
  network = h.network;
  keys = h.centre;
  centre_ready = h.met.centre_ready;
  device_ready = h.met.device_ready;
}

pub happenings_confirm : (tools : Tools) → DeliversCommands tools → OpensAsJudged tools → (w : Schedule) (x : Front)
    (c d : ℕ) (k : Keys) (happenings : List Happening) → KeysFit k → AreMet w x c d
    → HaveJoined w x c d k.network k.sequence k.link → AreInOrder tools w c d k x Asking happenings
    → kept_far_all tools w c d k x Asking happenings ≡ Done → IsReady (after_happenings tools w c d x happenings) c
    → IsReady (after_happenings tools w c d x happenings) d
    → EndsConfirmed w (after_happenings tools w c d x happenings) c d k.network k.sequence k.drawn
happenings_confirm tools delivers opens w x c d k happenings fit met j o over centre_ready device_ready =
    let y = after_happenings tools w c d x happenings in
    let come : HaveCome w x c d k Asking =
    record { met = met; network = j.network; device = j.device; centre = j.keys } in
    let kept : HaveKept w y c d k Done = subst (HaveKept w y c d k) over
    (all_happenings tools delivers opens w x c d k Asking happenings fit (kept_so w x c d k Asking come) o) in
    confirmed_so w y c d k (come_again w y c d k Done kept centre_ready device_ready)

pub turns_end : (tools : Tools) → DeliversCommands tools → OpensAsJudged tools → (w : Schedule) (x : Front)
    (c d : ℕ) (k : Keys) (far : Far) (turns : List Turn) → KeysFit k → HaveCome w x c d k far
    → AreFree tools w c d k x far turns → far_after_all far turns ≡ Done
    → EndsConfirmed w (after_turns tools w c d x turns) c d k.network k.sequence k.drawn
turns_end tools delivers opens w x c d k far turns fit h free over =
    let y = after_turns tools w c d x turns in
    confirmed_so w y c d k
    (subst (HaveCome w y c d k) over (all_turns tools delivers opens w x c d k far turns fit h free))
