-- The frames of an exchange are on the air after they are sent, and stay there.
use Rattle.std.proofs.Common.{◌≡◌, ℕ, zero, suc, ◌+◌, ◌-◌, Bool, true, false, if◌then◌else◌, List, [], ◌∷◌, ◌++◌, fold, length, None, Some, option_to_list, slice_get, nat_eq, is_some, refl, sym, ap, ◌∙◌, append_assoc}
use Rattle.std.proofs.lemmas.Bool.{false≢true}
use Rattle.std.proofs.lemmas.List.{append-nil}
use Rattle.std.proofs.lemmas.List.Sums.{fold-append}
use Rattle.zb_model.specs.Answer.{Answer, answer}
use Rattle.zb_model.specs.Data.{Bytes, DoTimer}
use Rattle.zb_model.specs.Lines.{Line, Send, Inject}
use Rattle.zb_model.specs.Play.{Schedule, Event, Own, Deliver, Step, answer_step, frame_at, setting_of, step}
use Rattle.zb_model.specs.Readings.{air, air_line, is_up, state_of}
use Rattle.zb_model.specs.State.{NodeState}
use Rattle.zb_model.specs.Tools.{Tools}
use Rattle.law_recovery.specs.CommandFrames.{DeliversCommands}
use Rattle.law_recovery.specs.Fronts.{Front, after_event}
use Rattle.law_recovery.proofs.Airs.{air-after, last-frame}
use Rattle.law_run_steps.specs.Conditions.{condition_of}
use Rattle.law_run_steps.specs.Steps.{falls_on}
use Rattle.law_run_steps.proofs.Answered.{is-answered}
use Rattle.law_run_steps.proofs.Others.{frame-up, own-up}
use Rattle.law_recovery.specs.Stages.{Keys, Sends, asked_bytes, centre_seals, device_seals, told_bytes}
use Rattle.law_recovery.specs.Stops.{HaveKept, ComesToCentre, heard_answer}
use Rattle.law_recovery.specs.Turns.{Far, Asking, Offering, Proving, Proved, Done, unanswered_from}
use Rattle.law_recovery.proofs.LostSending.{KeysFit, frame_is, ranges}
use Rattle.law_recovery.proofs.LostTaking.{answers_by}

-- the frame of an answer that is whole is the next on the air
sent_so : (tools : Tools) (w : Schedule) (x : Front) (n : ℕ) (a : Answer) (event : Event) (bytes : Bytes)
    → step tools w x.lines x.disks x.number event ≡ answer_step x.lines x.disks x.number n a
    → falls_on a (condition_of w x.lines x.disks n) ≡ false → a.frame ≡ Some bytes
    → frame_at (after_event tools w x event).lines (length (air x.lines) + 1) ≡ Some bytes
unfolding after_event
sent_so tools w x n a event bytes is whole sent =
    let g : Step = step tools w x.lines x.disks x.number event in
    let to = (is-answered w x.lines x.disks x.number n a g is).whole whole in
    last-frame (x.lines ++ g.lines) (air x.lines) bytes
    (ap (λ l. air (x.lines ++ l)) to.lines ∙ air-after x.lines x.number n a
    ∙ ap (λ o. air x.lines ++ option_to_list o) sent)

pub timer_sends : (tools : Tools) (w : Schedule) (x : Front) (c d : ℕ) (k : Keys) (far : Far) → HaveKept w x c d k far
    → Sends far (state_of x.lines d) → is_up x.lines d ≡ true
    → falls_on (answer tools (setting_of w d) (state_of x.lines d) DoTimer) (condition_of w x.lines x.disks d) ≡ false
    → frame_at (after_event tools w x (Own d DoTimer)).lines (length (air x.lines) + 1)
    ≡ Some (asked_bytes far tools w c d (device_seals far (state_of x.lines d) k))
timer_sends tools w x c d k far h none up whole =
    let t = state_of x.lines d in
    sent_so tools w x d (answer tools (setting_of w d) t DoTimer) (Own d DoTimer)
    (asked_bytes far tools w c d (device_seals far t k)) (own-up tools w x.lines x.disks x.number d DoTimer up) whole
    (frame_is tools w c d t k far h.declared h.device none)

-- what the centre sends is what the next stage asks of it
told_same : (far : Far) (tools : Tools) (w : Schedule) (c d : ℕ) (k : Keys) (s : NodeState)
    → told_bytes far tools w c d k (centre_seals far s k)
    ≡ told_bytes (unanswered_from far) tools w c d k (centre_seals (unanswered_from far) s k)
told_same Asking tools w c d k s = refl
told_same Offering tools w c d k s = refl
told_same Proving tools w c d k s = refl
told_same Proved tools w c d k s = refl
told_same Done tools w c d k s = refl

pub centre_sends : (tools : Tools) → DeliversCommands tools → (w : Schedule) (x : Front) (c d : ℕ) (k : Keys)
    (far : Far) (frame : ℕ) (sealed : NodeState) → KeysFit k → HaveKept w x c d k far
    → ComesToCentre tools w x c d k far frame sealed → is_up x.lines c ≡ true
    → falls_on (heard_answer tools w x c d k far sealed) (condition_of w x.lines x.disks c) ≡ false
    → frame_at (after_event tools w x (Deliver frame c)).lines (length (air x.lines) + 1)
    ≡ Some (told_bytes (unanswered_from far) tools w c d k (centre_seals (unanswered_from far) (state_of x.lines c) k))
centre_sends tools delivers w x c d k far frame sealed fit h o up whole =
    let s = state_of x.lines c in
    let bytes = asked_bytes far tools w c d (device_seals far sealed k) in
    let r = answers_by tools delivers w x c d k far sealed h (ranges sealed k far fit o.sent) o.free in
    sent_so tools w x c (heard_answer tools w x c d k far sealed) (Deliver frame c)
    (told_bytes (unanswered_from far) tools w c d k (centre_seals (unanswered_from far) s k))
    (frame-up tools w x.lines x.disks x.number frame c bytes up o.on_air) whole
    (r.sent ∙ ap (λ (b : Bytes). Some b) (told_same far tools w c d k s))

-- ---- frames stay on the air

record Longer (frames now : List Bytes) : Type 0 where
  more : List Bytes
  is : now ≡ frames ++ more

one_longer : (frames : List Bytes) (l : Line) → Longer frames (air_line frames l)
one_longer frames (Send e n frame bytes) = record { more = bytes ∷ []; is = refl }
one_longer frames (Inject e frame bytes) = record { more = bytes ∷ []; is = refl }
one_longer frames _ = record { more = []; is = sym (append-nil frames) }

all_longer : (frames : List Bytes) (ls : List Line) → Longer frames (fold air_line frames ls)
all_longer frames [] = record { more = []; is = sym (append-nil frames) }
all_longer frames (l ∷ ls) =
    let one = one_longer frames l in
    let rest = all_longer (air_line frames l) ls in
    record {
      more = one.more ++ rest.more;
      is = rest.is ∙ ap (λ (f : List Bytes). f ++ rest.more) one.is ∙ append_assoc frames one.more rest.more;
    }

still_there : (frames more : List Bytes) (place : ℕ) (bytes : Bytes) → slice_get frames place ≡ Some bytes
    → slice_get (frames ++ more) place ≡ Some bytes
still_there [] more place bytes e = absurd (false≢true (ap is_some e))
still_there (f ∷ frames) more zero bytes e = e
still_there (f ∷ frames) more (suc place) bytes e = still_there frames more place bytes e

pub stays_on_air : (tools : Tools) (w : Schedule) (x : Front) (event : Event) (frame : ℕ) (bytes : Bytes)
    → frame_at x.lines frame ≡ Some bytes → frame_at (after_event tools w x event).lines frame ≡ Some bytes
unfolding after_event air
stays_on_air tools w x event frame bytes e = by_zero (nat_eq frame 0) e
  where
    ls : List Line
    ls = (step tools w x.lines x.disks x.number event).lines

    by_zero : (b : Bool) → (if b then None else slice_get (fold air_line [] x.lines) (frame - 1)) ≡ Some bytes
        → (if b then None else slice_get (fold air_line [] (x.lines ++ ls)) (frame - 1)) ≡ Some bytes
    by_zero true f = f
    by_zero false f =
        let rest = all_longer (fold air_line [] x.lines) ls in
        ap (λ (l : List Bytes). slice_get l (frame - 1)) (fold-append air_line [] x.lines ls ∙ rest.is)
        ∙ still_there (fold air_line [] x.lines) rest.more (frame - 1) bytes f
