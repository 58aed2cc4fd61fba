use Rattle.std.proofs.Common.{[], ◌∷◌, true}
use Rattle.zb_model.specs.Play.{stations}
use Rattle.zb_player_events.proofs.Adding.{told_adds}
use Rattle.zb_player_events.proofs.ledger.Ledger.tell.Goals as goal
use Rattle.zb_trace_model.proofs.AnswerLaws.{said}
use Rattle.zb_trace_watch.proofs.Starting.{on_ok}

pub returns-clause-adds : goal.returns-clause-adds
returns-clause-adds c =
    on_ok c.tell.result _ _
    (λ tells w h m before is none.
    told_adds w h (m ∷ []) c.args.self.now (record { transcript = c.tell.new.self; plan = c.args.self.now.plan })
    (tells (stations w) m (said true (stations w) c.args.line.now m is none)) before)
    c.tell.ensures.tells
