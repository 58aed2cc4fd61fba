use Rattle.std.proofs.Common.{sym, subst}
use Rattle.zb_model.specs.Frames.{secured_frame}
use Rattle.zb_model.specs.Play.{forged_both, forged_open, step}
use Rattle.zb_model_real.specs.Real.{real}
use Rattle.zb_model_real.specs.Terms.{model_label, model_term}
use Rattle.law_schedules.specs.Schedules.{event_for}
use Rattle.law_run_steps.proofs.Others.{both-forged, open-forged}
use Rattle.zb_sched_line.specs.Views.{event_of}
use Rattle.zb_sched_line.specs.declared.event.Event.{Event}
use Rattle.zb_player_events.proofs.Adding.{inner_term, is_sent, outer_term}
use Rattle.zb_player_events.proofs.ledger.Ledger.forge_command.Goals as goal
use Rattle.zb_player_events.specs.Outside.{IsSent}
use Rattle.zb_trace_watch.proofs.Starting.{on_ok}

pub returns-in-ForgeNetAps-clause-sent : goal.returns-in-ForgeNetAps-clause-sent
unfolding event_for forged_both
returns-in-ForgeNetAps-clause-sent c =
    on_ok c.forge_both.result _ _
    (λ adds w h ds known before outside.
    subst (λ (e : Event). IsSent w h ds (step real w h ds c.args.event (event_for known (event_of e))) c.args.self.now
    c.forge_both.new.self) (sym c.in-ForgeNetAps.is)
    (is_sent w h ds _
    (forged_both real h c.args.event (model_term c.aps_command-inner.result) (model_term c.nwk_frame-term.result))
    c.args.self.now c.forge_both.new.self
    (both-forged real w h ds c.args.event c.in-ForgeNetAps.to.0 c.in-ForgeNetAps.from.0 c.in-ForgeNetAps.source.0
    c.in-ForgeNetAps.sequence c.in-ForgeNetAps.counter c.in-ForgeNetAps.aps_counter
    (model_label c.in-ForgeNetAps.label) c.in-ForgeNetAps.key.0 c.in-ForgeNetAps.base.0 c.in-ForgeNetAps.command.items
    (model_term c.aps_command-inner.result)
    (model_term c.nwk_frame-term.result)
    (inner_term (model_label c.in-ForgeNetAps.label) c.in-ForgeNetAps.base.0 c.in-ForgeNetAps.source.0
    c.in-ForgeNetAps.aps_counter c.in-ForgeNetAps.command.items c.as_slice.result.now
    (model_term c.aps_command-inner.result) c.aps_command-inner.ensures.term c.as_slice.ensures.value)
    (outer_term secured_frame c.in-ForgeNetAps.to.0 c.in-ForgeNetAps.from.0 c.in-ForgeNetAps.source.0
    c.in-ForgeNetAps.sequence c.in-ForgeNetAps.counter c.in-ForgeNetAps.key.0
    c.as_slice-bytes.result.now c.sealed-part.result.items (model_term c.aps_command-inner.result)
    (model_term c.nwk_frame-term.result)
    c.nwk_frame-term.ensures.term c.as_slice-bytes.ensures.value c.sealed-part.ensures.text))
    (adds w h before)))
    c.forge_both.ensures.adds

pub returns-in-ForgeOpen-clause-sent : goal.returns-in-ForgeOpen-clause-sent
unfolding event_for forged_open
returns-in-ForgeOpen-clause-sent c =
    on_ok c.forge_open.result _ _
    (λ adds w h ds known before outside.
    subst (λ (e : Event). IsSent w h ds (step real w h ds c.args.event (event_for known (event_of e))) c.args.self.now
    c.forge_open.new.self) (sym c.in-ForgeOpen.is)
    (is_sent w h ds _
    (forged_open real h c.args.event c.in-ForgeOpen.to.0 c.in-ForgeOpen.from.0
    (model_term c.aps_command-inner-in-ForgeOpen.result)) c.args.self.now c.forge_open.new.self
    (open-forged real w h ds c.args.event c.in-ForgeOpen.to.0 c.in-ForgeOpen.from.0 c.in-ForgeOpen.source.0
    c.in-ForgeOpen.aps_counter (model_label c.in-ForgeOpen.label) c.in-ForgeOpen.base.0
    c.in-ForgeOpen.command.items (model_term c.aps_command-inner-in-ForgeOpen.result)
    (inner_term (model_label c.in-ForgeOpen.label) c.in-ForgeOpen.base.0 c.in-ForgeOpen.source.0
    c.in-ForgeOpen.aps_counter c.in-ForgeOpen.command.items c.as_slice-in-ForgeOpen.result.now
    (model_term c.aps_command-inner-in-ForgeOpen.result) c.aps_command-inner-in-ForgeOpen.ensures.term
    c.as_slice-in-ForgeOpen.ensures.value))
    (adds w h before)))
    c.forge_open.ensures.adds
