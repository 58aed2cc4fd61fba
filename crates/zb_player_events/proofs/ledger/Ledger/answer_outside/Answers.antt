use Rattle.std.proofs.Common.{[], ◌∷◌, ◌+◌, length, sym, subst}
use Rattle.zb_model.specs.Lines as log
use Rattle.zb_model.specs.Play.{forged_net, step}
use Rattle.zb_model.specs.Readings.{air}
use Rattle.zb_model_real.specs.Real.{real}
use Rattle.zb_model_real.specs.Terms.{model_term}
use Rattle.law_schedules.specs.Schedules.{event_for}
use Rattle.law_run_steps.proofs.Others.{injected, net-forged}
use Rattle.zb_sched_line.specs.Views.{event_of}
use Rattle.zb_sched_line.specs.declared.event.Event.{Event}
use Rattle.zb_player_events.proofs.Adding.{is_sent, net_term}
use Rattle.zb_player_events.proofs.ledger.Ledger.answer_outside.Goals as goal
use Rattle.zb_player_events.specs.Outside.{IsSent}
use Rattle.zb_trace_watch.proofs.Starting.{on_ok}

pub returns-in-Inject-clause-sent : goal.returns-in-Inject-clause-sent
unfolding event_for
returns-in-Inject-clause-sent c =
    on_ok c.inject.result _ _
    (λ adds w h ds known before outside.
    subst (λ (e : Event). IsSent w h ds (step real w h ds c.args.event (event_for known (event_of e))) c.args.self.now
    c.inject.new.self) (sym c.in-Inject.is)
    (is_sent w h ds _ (log.Inject c.args.event (length (air h) + 1) c.in-Inject.bytes.items ∷ []) c.args.self.now
    c.inject.new.self
    (injected real w h ds c.args.event c.in-Inject.bytes.items) (adds w h before)))
    c.inject.ensures.adds

pub returns-in-ForgeNet-clause-sent : goal.returns-in-ForgeNet-clause-sent
unfolding event_for forged_net
returns-in-ForgeNet-clause-sent c =
    on_ok c.forge_net.result _ _
    (λ adds w h ds known before outside.
    subst (λ (e : Event). IsSent w h ds (step real w h ds c.args.event (event_for known (event_of e))) c.args.self.now
    c.forge_net.new.self) (sym c.in-ForgeNet.is)
    (is_sent w h ds _ (forged_net real h c.args.event (model_term c.nwk_frame-term.result)) c.args.self.now
    c.forge_net.new.self
    (net-forged real w h ds c.args.event c.in-ForgeNet.to.0 c.in-ForgeNet.from.0 c.in-ForgeNet.source.0
    c.in-ForgeNet.sequence c.in-ForgeNet.counter c.in-ForgeNet.key.0 c.in-ForgeNet.content.items
    (model_term c.nwk_frame-term.result)
    (net_term c.forged_control-control.result c.in-ForgeNet.to.0 c.in-ForgeNet.from.0 c.in-ForgeNet.source.0
    c.in-ForgeNet.sequence c.in-ForgeNet.counter c.in-ForgeNet.key.0
    c.in-ForgeNet.content.items c.as_slice.result.now c.as_slice-bytes.result.now (model_term c.nwk_frame-term.result)
    c.nwk_frame-term.ensures.term c.forged_control-control.ensures
    c.as_slice.ensures.value c.as_slice-bytes.ensures.value))
    (adds w h before)))
    c.forge_net.ensures.adds
