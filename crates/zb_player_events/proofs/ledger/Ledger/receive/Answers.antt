-- The key that is drawn is the next one of the supply.
use Rattle.std.proofs.Common.{Option, subst}
use Rattle.zb_player_events.proofs.Going.{draw_is}
use Rattle.zb_player_events.proofs.ledger.Ledger.receive.Goals as goal
use Rattle.zb_player_events.specs.Told.{Calls, Goes}
use Rattle.zb_model.specs.Data.{Bytes, Received}
use Rattle.law_run_steps.specs.Turns.{task_turn}
use Rattle.zb_model_real.specs.Real.{real}
use Rattle.zb_player_events.specs.Calls.{task_calls}
use Rattle.zb_trace_watch.proofs.Starting.{on_ok}

pub returns-clause-goes : goal.returns-clause-goes
returns-clause-goes c =
    on_ok c.handle.result _ _
    (λ goes w h x latest n before draws.
    subst (λ (draw : Option Bytes). Goes w
    (task_turn real h x c.args.event n (Received c.args.bytes.items draw)) h latest
    c.args.self.now c.handle.new.self c.handle.new.node c.handle.new.disk)
    (draw_is w h c.args.self.now c.args.draws.now c.draw-draw.result before.told draws c.draw-draw.ensures)
    (goes w h x latest n before))
    c.handle.ensures.goes

pub returns-clause-calls : goal.returns-clause-calls
returns-clause-calls c =
    on_ok c.handle.result _ _
    (λ calls w h x latest n before draws.
    subst (λ (draw : Option Bytes). Calls (task_calls real x (Received c.args.bytes.items draw))
    c.args.disk.now c.handle.new.disk)
    (draw_is w h c.args.self.now c.args.draws.now c.draw-draw.result before.told draws c.draw-draw.ensures)
    (calls w h x latest n before))
    c.handle.ensures.calls
