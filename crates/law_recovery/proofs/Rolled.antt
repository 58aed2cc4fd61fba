-- A rollover ends in a run: the centre's timers and its switch, event by event.
use Rattle.std.proofs.Common.{◌≡◌, ℕ, zero, suc, true, length, sym, ap, ◌∙◌, subst}
use Rattle.zb_model.specs.Answer.{answer}
use Rattle.zb_model.specs.Data.{DoTimer, DoSwitch}
use Rattle.zb_model.specs.Play.{Schedule, Own, setting_of}
use Rattle.zb_model.specs.Readings.{state_of}
use Rattle.zb_model.specs.State.{NodeState, is_centre}
use Rattle.zb_model.specs.Tools.{Tools}
use Rattle.law_recovery.specs.Answering.{after_task}
use Rattle.law_recovery.specs.Rollovers.{EndsAfter, HasCounters, IsRolling, untold}
use Rattle.law_recovery.proofs.Rolling.{rollover_ends}
use Rattle.law_run_steps.proofs.Others.{own-up}
use Rattle.law_recovery.specs.Fronts.{Front, IsReady, after_event, after_events}
use Rattle.law_recovery.specs.Rolled.{EndsRolled, rollover_events}
use Rattle.law_recovery.proofs.Exchanged.{answered-by}

by_events : (tools : Tools) (w : Schedule) (c n : ℕ) (x : Front) → IsReady x c
    → EndsAfter tools (setting_of w c) n (state_of x.lines c)
    → EndsRolled (after_events tools w x (rollover_events c n)) c
unfolding after_task rollover_events
by_events tools w c zero x ready ends =
    let a = answer tools (setting_of w c) (state_of x.lines c) DoSwitch in
    let to = answered-by tools w x c a (Own c DoSwitch) ready
    (own-up tools w x.lines x.disks x.number c DoSwitch ready.up) in
    record { over = ap (λ (s : NodeState). s.sending) to.state ∙ ends.over; ready = to.ready }
by_events tools w c (suc n) x ready ends =
    let a = answer tools (setting_of w c) (state_of x.lines c) DoTimer in
    let to = answered-by tools w x c a (Own c DoTimer) ready
    (own-up tools w x.lines x.disks x.number c DoTimer ready.up) in
    by_events tools w c n (after_event tools w x (Own c DoTimer)) to.ready
    (subst (EndsAfter tools (setting_of w c) n) (sym to.state) ends.1)

pub rolled : (tools : Tools) (w : Schedule) (x : Front) (c : ℕ) → is_centre (setting_of w c).me.role ≡ true
    → IsReady x c → IsRolling (state_of x.lines c)
    → HasCounters (state_of x.lines c) (length (untold (state_of x.lines c)))
    → EndsRolled (after_events tools w x (rollover_events c (length (untold (state_of x.lines c))))) c
rolled tools w x c role ready rolling counters = by_events tools w c (length (untold (state_of x.lines c))) x ready
    (rollover_ends tools (setting_of w c) (state_of x.lines c) role rolling counters)
