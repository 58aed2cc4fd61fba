-- The frame of a number is the one that went on the air.
use Rattle.zb_player_events.proofs.Counting.{ok_so}
use Rattle.std.proofs.Common.{Option, ap, refl, sym, subst, ◌∙◌}
use Rattle.zb_player_events.proofs.Going.{frame_is}
use Rattle.zb_player_events.proofs.ledger.Ledger.deliver.Goals as goal
use Rattle.zb_player_events.specs.Told.{Calls, Goes}
use Rattle.zb_model.specs.Data.{Bytes}
use Rattle.zb_model.specs.Play.{supply}
use Rattle.zb_player_events.specs.Calls.{frame_calls}
use Rattle.zb_model_real.specs.Real.{real}
use Rattle.law_run_steps.specs.Turns.{deliver_turn}
use Rattle.zb_trace_model.specs.AnswerLines.{frame_bytes}
use Rattle.zb_trace_watch.proofs.Starting.{on_ok}

pub returns-in-None-clause-goes : goal.returns-in-None-clause-goes
returns-in-None-clause-goes c =
    on_ok c.miss.result _ _
    (λ goes w h x latest n before draws.
    subst (λ (found : Option Bytes). Goes w (deliver_turn real w h x c.args.event n found) h latest
    c.args.self.now c.miss.new.self c.miss.new.node c.args.disk.now)
    (sym (frame_is w h c.args.self.now c.args.frame (frame_bytes c.frame.result) before.told c.frame.ensures ∙ ap
    frame_bytes c.in-None.is)) (goes w h x latest n c.args.disk.now before))
    c.miss.ensures.goes

pub returns-in-None-clause-calls : goal.returns-in-None-clause-calls
returns-in-None-clause-calls c =
    ok_so c.miss.result _ (λ w h x latest n before draws.
    subst (λ (found : Option Bytes). Calls (frame_calls real x (supply w h) found)
    c.args.disk.now c.args.disk.now)
    (sym (frame_is w h c.args.self.now c.args.frame (frame_bytes c.frame.result) before.told c.frame.ensures ∙ ap
    frame_bytes c.in-None.is)) refl)

pub returns-in-Some-clause-calls : goal.returns-in-Some-clause-calls
returns-in-Some-clause-calls c =
    on_ok c.receive.result _ _
    (λ calls w h x latest n before draws.
    subst (λ (found : Option Bytes). Calls (frame_calls real x (supply w h) found)
    c.args.disk.now c.receive.new.disk)
    (sym (frame_is w h c.args.self.now c.args.frame (frame_bytes c.frame.result) before.told c.frame.ensures ∙ ap
    frame_bytes c.in-Some.is)) (calls w h x latest n before draws))
    c.receive.ensures.calls

pub returns-in-Some-clause-goes : goal.returns-in-Some-clause-goes
returns-in-Some-clause-goes c =
    on_ok c.receive.result _ _
    (λ goes w h x latest n before draws.
    subst (λ (found : Option Bytes). Goes w (deliver_turn real w h x c.args.event n found) h latest
    c.args.self.now c.receive.new.self c.receive.new.node c.receive.new.disk)
    (sym (frame_is w h c.args.self.now c.args.frame (frame_bytes c.frame.result) before.told c.frame.ensures ∙ ap
    frame_bytes c.in-Some.is)) (goes w h x latest n before draws))
    c.receive.ensures.goes
